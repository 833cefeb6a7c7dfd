-- Laws of text (specs/Text.antt): trimming from the end, and the units of wide text. Assumes nothing.
use Prim.Native.Nat.{ℕ, zero, suc, ◌+◌, ◌-◌, ◌*◌, ◌/◌, ◌%◌, ◌≤◌, ◌<◌}
use mathlib.Core.Path.{◌≡◌, refl, sym, ap, ◌∙◌}
use mathlib.Core.Bool.{cond, and-true}
use mathlib.Core.List.{List, [], ◌∷◌, ◌++◌}
use native.Mathlib.Omega.{arith}
use native.Mathlib.Nat.{add-zero}
use lib.ListN.{length, take, drop, get_or, length-drop}
use Rattle.std.specs.Int.{from_le_bytes}
use Rattle.std.proofs.Common.{w16}
use Rattle.std.proofs.lemmas.List.{length-append, take-append-drop}
use lib.Seq.{drop-nil, drop-drop, get_or-drop}
use borrow.Author.Tests.{le-leb, lt-leb}
use Rattle.numbers.specs.Number.{Bytes, le_of, number_at}
use Rattle.text.specs.Rows.{◌··◌, inside, opens, step_of}
use Rattle.text.specs.Unicode.{wide_rows}
use Rattle.text.specs.Text.{keep, trimmed_of, units_of}

-- a zero at the end is dropped
pub trim-zero : (s : List ℕ) → trimmed_of (s ++ (0 ∷ [])) ≡ trimmed_of s
unfolding trimmed_of
trim-zero [] = refl
trim-zero (x ∷ s) = ap (keep x) (trim-zero s)

-- with anything but a zero at the end nothing is dropped
pub trim-other : (s : List ℕ) (x : ℕ) → 0 < x → trimmed_of (s ++ (x ∷ [])) ≡ suc (length s)
unfolding trimmed_of
trim-other [] zero h = absurd (omega arith)
trim-other [] (suc x) h = refl
trim-other (y ∷ s) x h = ap (keep y) (trim-other s x h) ∙ kept y
  where
    kept : (y : ℕ) → keep y (suc (length s)) ≡ suc (suc (length s))
    kept zero = refl
    kept (suc y) = refl

pub trim-le : (s : List ℕ) → trimmed_of s ≤ length s
unfolding trimmed_of
trim-le [] = omega arith
trim-le (x ∷ s) = go x (trimmed_of s) (trim-le s)
  where
    go : (x n : ℕ) → n ≤ length s → keep x n ≤ suc (length s)
    go zero zero h = omega arith
    go zero (suc n) h = omega arith
    go (suc x) n h = omega arith

pub length-units : (s : List ℕ) → length (units_of s) ≡ length s / 2
unfolding units_of
length-units [] = refl
length-units (a ∷ []) = refl
length-units (a ∷ b ∷ s) = omega (arith, length-units s)

-- past i units are past 2 i bytes
pub units-drop : (i : ℕ) (s : List ℕ) → units_of (drop (2 * i) s) ≡ drop i (units_of s)
unfolding units_of
units-drop zero s = refl
units-drop (suc i) [] = ap units_of (drop-nil (2 * suc i))
units-drop (suc i) (a ∷ []) = let e : 2 * suc i ≡ suc (suc (2 * i)) = omega arith in rw e
units-drop (suc i) (a ∷ b ∷ s) = let e : 2 * suc i ≡ suc (suc (2 * i)) = omega arith in rw e (units-drop i s)

-- the units from a place on: the number there, and the units after it
pub units-at : (s : List ℕ) (at : ℕ) → at + 2 ≤ length s → units_of (drop at s) ≡ number_at 2 s at ∷ units_of (drop (at + 2) s)
unfolding units_of number_at
units-at s at h = go (drop at s) (omega (arith, length-drop at s)) ∙ ap (λ (t : List ℕ). number_at 2 s at ∷ units_of t) (drop-drop 2 at s)
  where
    go : (t : List ℕ) → 2 ≤ length t → units_of t ≡ le_of (take 2 t) ∷ units_of (drop 2 t)
    go [] h = absurd (omega arith)
    go (a ∷ []) h = absurd (omega arith)
    go (a ∷ b ∷ t) h = refl

pub get_or-units : (s : List ℕ) (i : ℕ) → 2 * i + 2 ≤ length s → get_or (units_of s) i 0 ≡ number_at 2 s (2 * i)
get_or-units s i h =
    ap (λ (k : ℕ). get_or (units_of s) k 0) (sym (add-zero i))
    ∙ sym (get_or-drop i (units_of s) 0 0)
    ∙ ap (λ (u : List ℕ). get_or u 0 0) (sym (units-drop i s) ∙ units-at s (2 * i) h)

-- two bytes are a unit
unit-of : (a b : ℕ) → le_of (a ∷ b ∷ []) ≡ from_le_bytes w16 (a ∷ b ∷ [])
unfolding le_of
unit-of a b = omega arith

-- the bytes are a unit and what stands after it
pub units-front : (s unit after : List ℕ) → unit ≡ take 2 s → after ≡ drop 2 s → length after + 2 ≡ length s → units_of s ≡ from_le_bytes w16 unit ∷ units_of after
unfolding units_of
units-front s unit after p q h = go s (omega arith) ∙ rw (p, q)
  where
    go : (s : List ℕ) → 2 ≤ length s → units_of s ≡ from_le_bytes w16 (take 2 s) ∷ units_of (drop 2 s)
    go [] h = absurd (omega arith)
    go (a ∷ []) h = absurd (omega arith)
    go (a ∷ b ∷ s) h = ap (λ u. u ∷ units_of s) (unit-of a b)

-- the bytes are what stands before the last unit, and that unit
pub units-end : (s front unit : List ℕ) → front ≡ take (length s - 2) s → unit ≡ drop (length s - 2) s → length front + 2 ≡ length s → length s % 2 ≡ 0
    → units_of s ≡ units_of front ++ (from_le_bytes w16 unit ∷ [])
unfolding units_of
units-end s front unit p q h even =
    let whole : front ++ unit ≡ s = rw (p, q) (take-append-drop (length s - 2) s) in
    ap units_of (sym whole) ∙ go front unit (omega arith) (omega (arith, ap length whole, length-append front unit))
  where
    go : (front unit : List ℕ) → length front % 2 ≡ 0 → length unit ≡ 2 → units_of (front ++ unit) ≡ units_of front ++ (from_le_bytes w16 unit ∷ [])
    go [] [] h e = absurd (omega arith)
    go [] (a ∷ []) h e = absurd (omega arith)
    go [] (a ∷ b ∷ []) h e = ap (λ u. u ∷ []) (unit-of a b)
    go [] (a ∷ b ∷ c ∷ unit) h e = absurd (omega arith)
    go (x ∷ []) unit h e = absurd (omega arith)
    go (x ∷ y ∷ front) unit h e = ap (λ us. le_of (x ∷ y ∷ []) ∷ us) (go front unit (omega arith) e)

-- the sequence of a unit, by the unit
pub wide_below : (u : ℕ) (us : List ℕ) → u < 0xD800 → step_of wide_rows (u ∷ us) ≡ 1
unfolding step_of
wide_below u us h = rw (le-leb u 0xD7FF (omega arith), le-leb 0 u (omega arith))

pub wide-above : (u : ℕ) (us : List ℕ) → 0xDFFF < u → u ≤ 0xFFFF → step_of wide_rows (u ∷ us) ≡ 1
unfolding step_of
wide-above u us l h = rw (lt-leb u 0xD7FF (omega arith), le-leb 0xE000 u l, le-leb u 0xFFFF h, le-leb 0 u (omega arith))

-- a second surrogate starts nothing
pub wide-second : (u : ℕ) (us : List ℕ) → 0xDBFF < u → u ≤ 0xDFFF → step_of wide_rows (u ∷ us) ≡ 0
unfolding step_of
wide-second u us l h =
    rw (lt-leb u 0xD7FF (omega arith), lt-leb 0xE000 u (omega arith), lt-leb u 0xDBFF l, le-leb 0 u (omega arith), le-leb 0xD800 u (omega arith))

-- a first surrogate wants a second one after it
pub wide-first : (u : ℕ) (us : List ℕ) → 0xD800 ≤ u → u ≤ 0xDBFF → step_of wide_rows (u ∷ us) ≡ cond (opens (0xDC00 ·· 0xDFFF ∷ []) us) 2 0
unfolding step_of
wide-first u us l h =
    rw (lt-leb u 0xD7FF (omega arith), lt-leb 0xE000 u (omega arith), le-leb u 0xDBFF h, le-leb 0 u (omega arith), le-leb 0xD800 u l)

-- a second surrogate is the first of the units where the number at their front is one: past the end that number is 0, and a byte without
-- a second is below all of them
pub wide-next : (s : List ℕ) → Bytes s → opens (0xDC00 ·· 0xDFFF ∷ []) (units_of s) ≡ inside (0xDC00 ·· 0xDFFF) (number_at 2 s 0)
unfolding units_of number_at le_of
wide-next [] t = refl
wide-next (a ∷ []) t = let h : a < 256 = t.below 0 in rw (lt-leb 0xDC00 (a + 256 * 0) (omega arith))
wide-next (a ∷ b ∷ s) t = and-true _
