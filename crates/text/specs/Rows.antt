-- Sequences by a table of rows, as the Unicode Standard, section 3.9, states its encoding forms: a row has a range for each place of a sequence.
--   low ·· high        the values from low to high, both among them
--   inside r x         x is in the range r
--   opens row s        s begins with a sequence of the row
--   step_of rows s      how long that sequence is, for the first row that has one; 0 where none has
--   formed rows k s    s, past k elements of a sequence that was begun, divides into sequences of the rows
-- Laws: proofs/RowLaws.antt. Assumes nothing.
use Rattle.std.specs.Prelude.{ℕ, zero, suc, Bool, true, false, cond, ◌&&◌, List, [], ◌∷◌, leb, length}

infix 80 ◌··◌
pub data Range : Type 0 where
  ◌··◌ : ℕ → ℕ → Range

abbrev pub Row : Type 0
Row = List Range

abbrev pub inside : Range → ℕ → Bool
inside (low ·· high) x = leb low x && leb x high

abbrev pub opens : Row → List ℕ → Bool
opens [] s = true
opens (r ∷ row) [] = false
opens (r ∷ row) (x ∷ s) = inside r x && opens row s

unfoldable pub step_of : List Row → List ℕ → ℕ
step_of [] s = 0
step_of (row ∷ rows) s = cond (opens row s) (length row) (step_of rows s)

-- on with the elements of a sequence after its first, if there is one
abbrev pub onward : ℕ → (ℕ → Bool) → Bool
onward zero go = false
onward (suc n) go = go n

unfoldable pub formed : List Row → ℕ → List ℕ → Bool
formed rows k [] = true
formed rows zero (x ∷ s) = onward (step_of rows (x ∷ s)) (λ n. formed rows n s)
formed rows (suc k) (x ∷ s) = formed rows k s
