-- The classes of the 256 byte values, by which the code checks UTF-8 (document 01, "one class for each of the 256 byte
-- values"). Two bytes have one class where they stand in the same ranges of Unicode's table (Unicode.antt).
--   classes       the class of each byte value, in runs
--   class_of b     the class of the byte b
--   classes_from   the classes of the bytes from a place on
--   class_rows     Unicode's rows, with the classes of each range's ends in the place of the ends
--   rows_agree rows crows b c   the rule that ties a class to Unicode's ranges: the byte b is in a range of the rows exactly where the class c
--                 is in the range of the other rows in that place
-- That every byte and its class agree is `class-rule` of proofs/ClassLaws.antt. Assumes nothing.
use Rattle.std.specs.Prelude.{ℕ, Bool, true, false, ◌&&◌, List, [], ◌∷◌, ◌++◌, map, get_or, drop, replicate}
use Rattle.std.specs.Bool.{beq}
use Rattle.text.specs.Rows.{Range, ◌··◌, Row, inside}
use Rattle.text.specs.Unicode.{utf8_rows}

abbrev pub classes : List ℕ
classes =
    replicate 128 0 ++
    replicate 16 1 ++
    replicate 16 2 ++
    replicate 32 3 ++
    replicate 2 12 ++
    replicate 30 4 ++
    replicate 1 5 ++
    replicate 12 6 ++
    replicate 1 7 ++
    replicate 2 8 ++
    replicate 1 9 ++
    replicate 3 10 ++
    replicate 1 11 ++
    replicate 11 12

unfoldable pub class_of : ℕ → ℕ
class_of b = get_or classes b 0

unfoldable pub classes_from : List ℕ → ℕ → List ℕ
classes_from s at = map class_of (drop at s)

-- a range of bytes, by the classes of its first and its last
abbrev pub class_range : Range → Range
class_range (low ·· high) = get_or classes low 0 ·· get_or classes high 0

abbrev pub class_rows : List Row
class_rows = map (map class_range) utf8_rows

unfoldable pub row_agrees : Row → Row → ℕ → ℕ → Bool
row_agrees [] [] b c = true
row_agrees [] (q ∷ qs) b c = false
row_agrees (r ∷ rs) [] b c = false
row_agrees (r ∷ rs) (q ∷ qs) b c = beq (inside r b) (inside q c) && row_agrees rs qs b c

unfoldable pub rows_agree : List Row → List Row → ℕ → ℕ → Bool
rows_agree [] [] b c = true
rows_agree [] (q ∷ qs) b c = false
rows_agree (r ∷ rs) [] b c = false
rows_agree (r ∷ rs) (q ∷ qs) b c = row_agrees r q b c && rows_agree rs qs b c
