-- CRC-32 as UEFI has it (document 02, Req 06), bit by bit: the lowest bit first, the polynomial with its bits the other way round, and the
-- register complemented before the first byte and after the last.
--   polynomial       0x04C11DB7, its 32 bits the other way round
--   complement r     each of the 32 bits of r the other way
--   shifted n r      the register r after n bits fell out, lowest first: for each that is 1 the polynomial is added
--   sum_from r s      the register r after the bytes s
--   sum_of s          the sum of s
--   remainders       the usual table: what each byte value leaves in a register after its eight bits
--   by_table t x      the register x after eight bits, read off a table t
--   table_from t r s  the register r after the bytes s, by a table t
-- Ours: to add is exclusive or. A place past the end of a table counts as 0.
-- That the table's sum is the sum, and that a sum in parts is the sum at once: proofs/SumLaws.antt. That one other byte gives another sum:
-- proofs/ByteLaws.antt. Assumes nothing.
use Rattle.std.specs.Prelude.{ℕ, zero, suc, ◌*◌, ◌/◌, ◌%◌, List, [], ◌∷◌, map, get_or}
use Rattle.std.specs.Int.Bits.{bit_xor}

abbrev pub polynomial : ℕ
polynomial = 0xEDB88320

abbrev pub complement : ℕ → ℕ
complement r = bit_xor r 0xFFFFFFFF

unfoldable pub shifted : ℕ → ℕ → ℕ
shifted zero r = r
shifted (suc n) r = shifted n (bit_xor (r % 2 * polynomial) (r / 2))

unfoldable pub sum_from : ℕ → List ℕ → ℕ
sum_from r [] = r
sum_from r (b ∷ s) = sum_from (shifted 8 (bit_xor b r)) s

unfoldable pub sum_of : List ℕ → ℕ
sum_of s = complement (sum_from (complement 0) s)

-- n numbers from k on
abbrev pub up_from : ℕ → ℕ → List ℕ
up_from zero k = []
up_from (suc n) k = k ∷ up_from n (suc k)

unfoldable pub remainders : List ℕ
remainders = map (shifted 8) (up_from 256 0)

abbrev pub by_table : List ℕ → ℕ → ℕ
by_table t x = bit_xor (x / 256) (get_or t (x % 256) 0)

unfoldable pub table_from : List ℕ → ℕ → List ℕ → ℕ
table_from t r [] = r
table_from t r (b ∷ s) = table_from t (by_table t (bit_xor b r)) s
