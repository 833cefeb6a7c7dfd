-- Worked sums, by computation: the catalogues' check value, the empty text, PNG's last chunk, 32 bits of one kind; by the table in two parts;
-- and the table's ends. Assumes nothing.
use mathlib.Core.Path.{◌≡◌, refl}
use mathlib.Core.List.{[], ◌∷◌}
use lib.ListN.{get_or, replicate}
use Rattle.sum.specs.Sum.{complement, shifted, sum_from, sum_of, remainders, table_from}

-- what a case computes with
computing : Unit {0}
unfolding shifted sum_from sum_of remainders table_from
computing = tt

-- "123456789"
nine-digits : sum_of (0x31 ∷ 0x32 ∷ 0x33 ∷ 0x34 ∷ 0x35 ∷ 0x36 ∷ 0x37 ∷ 0x38 ∷ 0x39 ∷ []) ≡ 0xCBF43926
unfolding computing
nine-digits = refl

no_bytes : sum_of [] ≡ 0
unfolding computing
no_bytes = refl

-- "IEND"
last-chunk : sum_of (0x49 ∷ 0x45 ∷ 0x4E ∷ 0x44 ∷ []) ≡ 0xAE426082
unfolding computing
last-chunk = refl

four-zeros : sum_of (replicate 4 0) ≡ 0x2144DF1C
unfolding computing
four-zeros = refl

four-ones : sum_of (replicate 4 0xFF) ≡ 0xFFFFFFFF
unfolding computing
four-ones = refl

-- "12345" and then "6789"
nine-digits-in-parts :
    complement (table_from remainders (table_from remainders (complement 0) (0x31 ∷ 0x32 ∷ 0x33 ∷ 0x34 ∷ 0x35 ∷ [])) (0x36 ∷ 0x37 ∷ 0x38 ∷ 0x39 ∷ []))
    ≡ 0xCBF43926
unfolding computing
nine-digits-in-parts = refl

first-remainders : (get_or remainders 0 0 ≡ 0) × (get_or remainders 1 0 ≡ 0x77073096)
unfolding computing
first-remainders = (refl, refl)

last-remainder : get_or remainders 255 0 ≡ 0x2D02EF8D
unfolding computing
last-remainder = refl
