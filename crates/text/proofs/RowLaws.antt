-- Laws of sequences by rows (specs/Rows.antt): a sequence lies in its list, a text goes on after a sequence, and where no
-- sequence stands it is not well formed. Assumes nothing.
use Prim.Native.Nat.{ℕ, zero, suc, ◌+◌, ◌-◌, ◌≤◌}
use mathlib.Core.Path.{◌≡◌, refl, sym, ap, ◌∙◌}
use mathlib.Core.Bool.{Bool, true, false, cond, ◌&&◌, and-true}
use mathlib.Core.List.{List, [], ◌∷◌}
use native.Mathlib.Omega.{arith}
use native.Mathlib.Numerals.{add-one}
use lib.ListN.{length, drop}
use lib.Seq.{drop-drop}
use Rattle.numbers.proofs.ByCases.{never}
use Rattle.text.specs.Rows.{Range, Row, inside, opens, step_of, onward, formed}

-- a sequence of a row is no longer than the list that it opens
pub opens-within : (row : Row) (s : List ℕ) → opens row s ≡ true → length row ≤ length s
opens-within [] s e = omega arith
opens-within (r ∷ row) [] e = never cc
opens-within (r ∷ row) (x ∷ s) e = go (inside r x) e (opens-within row s)
  where
    go : (b : Bool) → b && opens row s ≡ true → (opens row s ≡ true → length row ≤ length s) → suc (length row) ≤ suc (length s)
    go true e h = omega (arith, h e)
    go false e h = never cc

pub step_of-within : (rows : List Row) (s : List ℕ) → step_of rows s ≤ length s
unfolding step_of
step_of-within [] s = omega arith
step_of-within (row ∷ rows) s = go (opens row s) refl (step_of-within rows s)
  where
    go : (b : Bool) → opens row s ≡ b → step_of rows s ≤ length s → cond b (length row) (step_of rows s) ≤ length s
    go true e h = opens-within row s e
    go false e h = h

-- a row's first range, then its others
pub opens-cons : (r : Range) (row : Row) (s : List ℕ) → opens (r ∷ row) s ≡ opens (r ∷ []) s && opens row (drop 1 s)
opens-cons r row [] = refl
opens-cons r row (x ∷ s) = ap (λ b. b && opens row s) (sym (and-true (inside r x)))

formed-skip : (rows : List Row) (k : ℕ) (s : List ℕ) → formed rows k s ≡ formed rows 0 (drop k s)
unfolding formed
formed-skip rows zero s = refl
formed-skip rows (suc k) [] = refl
formed-skip rows (suc k) (x ∷ s) = formed-skip rows k s

-- after a sequence the rest decides
pub formed-next : (rows : List Row) (s : List ℕ) (n : ℕ) → step_of rows s ≡ suc n → formed rows 0 s ≡ formed rows 0 (drop (suc n) s)
unfolding formed
formed-next rows [] n e = refl
formed-next rows (x ∷ s) n e = ap (λ k. onward k (λ m. formed rows m s)) e ∙ formed-skip rows n s

-- where no sequence stands, nothing is well formed
pub formed-stuck : (rows : List Row) (s : List ℕ) → 1 ≤ length s → step_of rows s ≡ 0 → formed rows 0 s ≡ false
unfolding formed
formed-stuck rows [] h e = absurd (omega arith)
formed-stuck rows (x ∷ s) h e = ap (λ k. onward k (λ m. formed rows m s)) e

pub formed-nil : (rows : List Row) → formed rows 0 [] ≡ true
unfolding formed
formed-nil rows = refl

-- past a sequence, whose lead has n elements after it, the rest decides
pub formed-past : (rows : List Row) (x : ℕ) (s : List ℕ) (n : ℕ) → step_of rows (x ∷ s) ≡ n + 1 → formed rows 0 (drop n s) ≡ formed rows 0 (x ∷ s)
formed-past rows x s n e = sym (formed-next rows (x ∷ s) n (e ∙ add-one n))

-- the sequence at the front of a list lies in it
pub past-within : (rows : List Row) (x : ℕ) (s : List ℕ) (n : ℕ) → step_of rows (x ∷ s) ≡ n + 1 → n ≤ length s
past-within rows x s n e = omega (arith, step_of-within rows (x ∷ s))

-- an end of an end is an end
pub end-of_end : (s r t : List ℕ) → length r ≤ length s → length t ≤ length r → r ≡ drop (length s - length r) s → t ≡ drop (length r - length t) r
    → t ≡ drop (length s - length t) s
end-of_end s r t h g p q =
    let a = length s - length r in
    let b = length r - length t in
    let e : a + b ≡ length s - length t = omega arith in
    q ∙ ap (drop b) p ∙ drop-drop b a s ∙ ap (λ n. drop n s) e
