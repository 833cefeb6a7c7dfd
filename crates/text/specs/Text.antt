-- Text (document 01, "What is inside the data"): UTF-8, well formed by Unicode's table of byte sequences, trailing zero bytes
-- dropped; wide text, of even length and without an unpaired surrogate, trailing zero units dropped and inner ones kept.
--   trimmed_of s    the length of s without its trailing zeros
--   units_of s      the units of wide text: the numbers of two bytes each
--   utf8_of s       the trimmed length, or refusal 10
--   wide_of s       the trimmed length in bytes, or refusal 8, or 10
-- Ours: the check comes before the trimming, and 8 before 10. Laws: proofs/TextLaws.antt. Assumes nothing.
use Rattle.refusal.specs.declared.Why.{Why}
use Rattle.std.specs.Prelude.{ℕ, zero, suc, ◌*◌, ◌%◌, cond, List, [], ◌∷◌, eqb, length, Result, Ok, Err}
use Rattle.numbers.specs.Number.{le_of}
use Rattle.refusal.specs.declared.Why.TheVariants.{Unaligned, BadText}
use Rattle.text.specs.Rows.{formed}
use Rattle.text.specs.Unicode.{utf8_rows, wide_rows}

-- x before n kept elements: a zero is dropped where nothing after it is kept
abbrev pub keep : ℕ → ℕ → ℕ
keep zero zero = 0
keep zero (suc n) = suc (suc n)
keep (suc x) n = suc n

unfoldable pub trimmed_of : List ℕ → ℕ
trimmed_of [] = 0
trimmed_of (x ∷ s) = keep x (trimmed_of s)

-- a last byte without a second is no unit
unfoldable pub units_of : List ℕ → List ℕ
units_of [] = []
units_of (a ∷ []) = []
units_of (a ∷ b ∷ s) = le_of (a ∷ b ∷ []) ∷ units_of s

unfoldable pub utf8_of : List ℕ → Result ℕ Why
utf8_of s = cond (formed utf8_rows 0 s) (Ok (trimmed_of s)) (Err BadText)

unfoldable pub wide_of : List ℕ → Result ℕ Why
wide_of s =
    cond (eqb (length s % 2) 0)
    (cond (formed wide_rows 0 (units_of s)) (Ok (2 * trimmed_of (units_of s))) (Err BadText))
    (Err Unaligned)
