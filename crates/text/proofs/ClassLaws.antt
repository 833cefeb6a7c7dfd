-- The rule of the table of classes (specs/Classes.antt), and from it that the walk by classes is the walk by Unicode's nine rows.
-- Assumes nothing.
use Rattle.std.specs.Prelude.{Option, Some, None, MatchOption}
use Rattle.std.specs.List.{list_all}
use Rattle.std.proofs.Common.{ℕ, zero, suc, ◌+◌, ◌-◌, ◌≤◌, ◌<◌, ◌≡◌, refl, sym, ap, ap₂, ◌∙◌, Bool, true, false, cond, ◌&&◌, List, [], ◌∷◌, map, take, drop, replicate, length, arith}
use Rattle.std.proofs.Math.Seq.{drop-drop}
use Rattle.std.proofs.lemmas.List.{length-map, length-replicate, length-take-le}
use mathlib.Core.Bool.{beq, and-true}
use native.Mathlib.Numerals.{add-one}
use lib.ListN.{get_or}
use lib.Seq.{drop-cons}
use lib.Arith.{lt_of_le-ne}
use borrow.Author.Tests.{le-leb, lt-leb}
use Rattle.numbers.specs.Number.{Bytes}
use Rattle.numbers.proofs.ByCases.{split, Away, never}
use Rattle.numbers.proofs.NumberLaws.{bytes-tail}
use Rattle.text.specs.Rows.{Range, ◌··◌, Row, inside, opens, step_of, onward, formed}
use Rattle.text.specs.Unicode.{utf8_rows}
use Rattle.text.specs.Classes.{classes, class_of, classes_from, class_rows, row_agrees, rows_agree}
use Rattle.text.proofs.RowLaws.{opens-within, opens-cons}
use Rattle.text.proofs.Table.{and_left, and_right, every, every-at}

-- the one computed test: Unicode's ranges at each of the 256 entries
tested : every (rows_agree utf8_rows class_rows) 0 classes ≡ true
unfolding row_agrees rows_agree
tested = refl

-- a byte is in a range of Unicode's table exactly where its class is in the range of class_rows in that place
pub class-rule : (b : ℕ) → b < 256 → rows_agree utf8_rows class_rows b (class_of b) ≡ true
unfolding class_of
class-rule b h = every-at (rows_agree utf8_rows class_rows) classes tested b h

beq-true : (a b : Bool) → beq a b ≡ true → a ≡ b
beq-true true true e = refl
beq-true true false e = never cc
beq-true false true e = never cc
beq-true false false e = refl

-- where rows and rows of classes agree at every byte, a sequence of the one opens s exactly where one of the other opens its classes
opens-classes : (row crow : Row) → ((b : ℕ) → b < 256 → row_agrees row crow b (class_of b) ≡ true)
    → (s : List ℕ) → Bytes s → opens row s ≡ opens crow (map class_of s)
unfolding row_agrees
opens-classes [] [] a s t = refl
opens-classes [] (q ∷ qs) a s t = let f = a 0 (omega arith) in never cc
opens-classes (r ∷ rs) [] a s t = let f = a 0 (omega arith) in never cc
opens-classes (r ∷ rs) (q ∷ qs) a [] t = refl
opens-classes (r ∷ rs) (q ∷ qs) a (x ∷ s) t =
    ap₂ ◌&&◌ (beq-true (inside r x) (inside q (class_of x)) (and_left _ (row_agrees rs qs x (class_of x)) (a x (t.below 0))))
    (opens-classes rs qs (λ b h. and_right (beq (inside r b) (inside q (class_of b))) _ (a b h)) s (bytes-tail t))

row-length : (row crow : Row) (b c : ℕ) → row_agrees row crow b c ≡ true → length row ≡ length crow
unfolding row_agrees
row-length [] [] b c e = refl
row-length [] (q ∷ qs) b c e = never cc
row-length (r ∷ rs) [] b c e = never cc
row-length (r ∷ rs) (q ∷ qs) b c e = ap suc (row-length rs qs b c (and_right (beq (inside r b) (inside q c)) _ e))

step-like : (rows crows : List Row) → ((b : ℕ) → b < 256 → rows_agree rows crows b (class_of b) ≡ true)
    → (s : List ℕ) → Bytes s → step_of rows s ≡ step_of crows (map class_of s)
unfolding rows_agree row_agrees step_of
step-like [] [] a s t = refl
step-like [] (q ∷ qs) a s t = let f = a 0 (omega arith) in never cc
step-like (r ∷ rs) [] a s t = let f = a 0 (omega arith) in never cc
step-like (r ∷ rs) (q ∷ qs) a s t =
    let first = opens-classes r q (λ b h. and_left _ (rows_agree rs qs b (class_of b)) (a b h)) s t in
    let size = row-length r q 0 (class_of 0) (and_left _ (rows_agree rs qs 0 (class_of 0)) (a 0 (omega arith))) in
    let others = step-like rs qs (λ b h. and_right (row_agrees r q b (class_of b)) _ (a b h)) s t in
    rw (first, size, others)

-- the sequence at the front, by the nine rows and by the classes
pub step-classes : (s : List ℕ) → Bytes s → step_of utf8_rows s ≡ step_of class_rows (map class_of s)
step-classes = step-like utf8_rows class_rows class-rule

formed_like : (k : ℕ) (s : List ℕ) → Bytes s → formed utf8_rows k s ≡ formed class_rows k (map class_of s)
unfolding formed
formed_like k [] t = refl
formed_like zero (x ∷ s) t =
    ap (λ k. onward k (λ n. formed utf8_rows n s)) (step-classes (x ∷ s) t)
    ∙ onwards (step_of class_rows (map class_of (x ∷ s))) (λ n. formed_like n s (bytes-tail t))
  where
    onwards : (k : ℕ) → ((n : ℕ) → formed utf8_rows n s ≡ formed class_rows n (map class_of s))
        → onward k (λ n. formed utf8_rows n s) ≡ onward k (λ n. formed class_rows n (map class_of s))
    onwards zero h = refl
    onwards (suc n) h = h n
formed_like (suc k) (x ∷ s) t = formed_like k s (bytes-tail t)

-- the walk by classes is the walk by the nine rows
pub formed-classes : (s : List ℕ) → Bytes s → formed utf8_rows 0 s ≡ formed class_rows 0 (map class_of s)
formed-classes s t = formed_like 0 s t

-- the classes from a place on: that of the byte there, and those after it
from_cons : (s : List ℕ) (at : ℕ) → at < length s → classes_from s at ≡ class_of (get_or s at 0) ∷ classes_from s (at + 1)
unfolding classes_from
from_cons s at h =
    let e : drop at s ≡ get_or s at 0 ∷ drop (at + 1) s = rw (add-one at) (drop-cons s at 0 h) in
    ap (map class_of) e

-- a row's first range at a place, its others at the next
pub opens-from : (r : Range) (row : Row) (s : List ℕ) (at next : ℕ) → at + 1 ≡ next
    → opens (r ∷ row) (classes_from s at) ≡ opens (r ∷ []) (classes_from s at) && opens row (classes_from s next)
unfolding classes_from
opens-from r row s at next e =
    opens-cons r row (map class_of (drop at s))
    ∙ ap (λ (l : List ℕ). opens (r ∷ []) (map class_of (drop at s)) && opens row l)
    (tail (drop at s) ∙ ap (map class_of) (drop-drop 1 at s ∙ ap (λ (k : ℕ). drop k s) e))
  where
    tail : (l : List ℕ) → drop 1 (map class_of l) ≡ map class_of (drop 1 l)
    tail [] = refl
    tail (x ∷ l) = refl

-- one range at a place
pub opens_one : (r : Range) (s : List ℕ) (at : ℕ) → at < length s → opens (r ∷ []) (classes_from s at) ≡ inside r (class_of (get_or s at 0))
opens_one r s at h = ap (opens (r ∷ [])) (from_cons s at h) ∙ and-true (inside r (class_of (get_or s at 0)))

-- a row opens s where it opens its front
opens-take : (row : Row) (s : List ℕ) → opens row (take (length row) s) ≡ opens row s
opens-take [] s = refl
opens-take (r ∷ row) [] = refl
opens-take (r ∷ row) (x ∷ s) = ap (λ b. inside r x && b) (opens-take row s)

take-map : (n : ℕ) (s : List ℕ) → take n (map class_of s) ≡ map class_of (take n s)
take-map zero s = refl
take-map (suc n) [] = refl
take-map (suc n) (x ∷ s) = ap (λ t. class_of x ∷ t) (take-map n s)

-- the bytes after a lead but for the first of them have one range
follow-opens : (s : List ℕ) → opens (replicate (length s) (1 ·· 3)) (map class_of s) ≡ list_all (λ b. inside (1 ·· 3) (class_of b)) s
follow-opens [] = refl
follow-opens (x ∷ s) = ap (λ b. inside (1 ·· 3) (class_of x) && b) (follow-opens s)

-- n bytes after a lead, by their classes: fewer are too few, and of more the first n decide
pub led-short : (r : Range) (n : ℕ) (s : List ℕ) → 0 < n → length s < n → opens (r ∷ replicate (n - 1) (1 ·· 3)) (classes_from s 0) ≡ false
unfolding classes_from
led-short r n s z h = go (opens (r ∷ replicate (n - 1) (1 ·· 3)) (map class_of s)) refl
  where
    go : (b : Bool) → opens (r ∷ replicate (n - 1) (1 ·· 3)) (map class_of s) ≡ b → opens (r ∷ replicate (n - 1) (1 ·· 3)) (map class_of s) ≡ false
    go true e =
        absurd (omega (arith, opens-within (r ∷ replicate (n - 1) (1 ·· 3)) (map class_of s) e, length-map s class_of, length-replicate {A = Range} (n - 1) (1 ·· 3)))
    go false e = e

pub led-front : (r : Range) (n : ℕ) (s others : List ℕ) (first : ℕ) → 0 < n → n ≤ length s → take n s ≡ first ∷ others
    → opens (r ∷ replicate (n - 1) (1 ·· 3)) (classes_from s 0) ≡ inside r (class_of first) && list_all (λ b. inside (1 ·· 3) (class_of b)) others
unfolding classes_from
led-front r n s others first z h e =
    let row = r ∷ replicate (n - 1) (1 ·· 3) in
    let size : length row ≡ n = omega (arith, length-replicate {A = Range} (n - 1) (1 ·· 3)) in
    let many : length others ≡ n - 1 = omega (arith, ap length e, length-take-le n s h) in
    let front : take (length row) (map class_of s) ≡ class_of first ∷ map class_of others = rw size (take-map n s ∙ ap (map class_of) e) in
    sym (opens-take row (map class_of s))
    ∙ ap (opens row) front
    ∙ ap (λ b. inside r (class_of first) && b) (ap (λ k. opens (replicate k (1 ·· 3)) (map class_of others)) (sym many) ∙ follow-opens others)

-- the sequence of a lead, by its class
pub step-lead : (lead : ℕ) (after : List ℕ) (k : ℕ) → Bytes (lead ∷ after) → k ≡ class_of lead
    → step_of utf8_rows (lead ∷ after) ≡ step_of class_rows (k ∷ classes_from after 0)
unfolding classes_from
step-lead lead after k t e = step-classes (lead ∷ after) t ∙ ap (λ c. step_of class_rows (c ∷ map class_of after)) (sym e)

-- so many bytes more, or none
pub led-step : (b : Bool) (n step : ℕ) (r : Option ℕ) → r ≡ cond b (Some n) None → step ≡ cond b (n + 1) 0
    → MatchOption r (step ≡ 0) (λ k. step ≡ k + 1)
led-step true n step r e f = rw e f
led-step false n step r e f = rw e f

inside_one : (k c : ℕ) → (c ≡ k → ⊥) → inside (k ·· k) c ≡ false
inside_one k c h = split k c (λ le. rw (le-leb k c le, lt-leb c k (lt_of_le-ne le (λ e. h (sym e))))) (λ lt. rw (lt-leb k c lt))

-- where the class leads nothing no sequence starts
pub step-none : (c : ℕ) (cs : List ℕ) → Away c (11 ∷ 10 ∷ 9 ∷ 8 ∷ 7 ∷ 6 ∷ 5 ∷ 4 ∷ 0 ∷ []) → step_of class_rows (c ∷ cs) ≡ 0
unfolding step_of
step-none c cs a =
    rw (
      inside_one 11 c a.1,
      inside_one 10 c a.0.1,
      inside_one 9 c a.0.0.1,
      inside_one 8 c a.0.0.0.1,
      inside_one 7 c a.0.0.0.0.1,
      inside_one 6 c a.0.0.0.0.0.1,
      inside_one 5 c a.0.0.0.0.0.0.1,
      inside_one 4 c a.0.0.0.0.0.0.0.1,
      inside_one 0 c a.0.0.0.0.0.0.0.0.1,
    )
