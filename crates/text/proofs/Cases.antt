-- Worked cases of text, by computation: document 01's starred ones ("UTF-8 C0 80: 10. Wide D800 alone: 10; three bytes: 8"), each
-- row of Unicode's tables at both its borders, and the trimming. Assumes nothing.
use Rattle.std.specs.Prelude.{Ok, Err}
use mathlib.Core.Path.{◌≡◌, refl}
use mathlib.Core.List.{[], ◌∷◌, ◌++◌, map}
use lib.ListN.{replicate}
use Rattle.refusal.specs.declared.Why.TheVariants.{Unaligned, BadText}
use Rattle.numbers.specs.Number.{le_of}
use Rattle.text.specs.Rows.{step_of, formed}
use Rattle.text.specs.Text.{trimmed_of, units_of, utf8_of, wide_of}

-- what a case computes with
computing : Unit {0}
unfolding le_of step_of formed trimmed_of units_of utf8_of wide_of
computing = tt

c0-starts-nothing : utf8_of (0xC0 ∷ 0x80 ∷ []) ≡ Err BadText
unfolding computing
c0-starts-nothing = refl

-- the first and the last sequence of each row of Unicode's table
rows-first-and-last : map utf8_of (
    (0x00 ∷ []) ∷ (0x7F ∷ [])
    ∷ (0xC2 ∷ 0x80 ∷ []) ∷ (0xDF ∷ 0xBF ∷ [])
    ∷ (0xE0 ∷ 0xA0 ∷ 0x80 ∷ []) ∷ (0xE0 ∷ 0xBF ∷ 0xBF ∷ [])
    ∷ (0xE1 ∷ 0x80 ∷ 0x80 ∷ []) ∷ (0xEC ∷ 0xBF ∷ 0xBF ∷ [])
    ∷ (0xED ∷ 0x80 ∷ 0x80 ∷ []) ∷ (0xED ∷ 0x9F ∷ 0xBF ∷ [])
    ∷ (0xEE ∷ 0x80 ∷ 0x80 ∷ []) ∷ (0xEF ∷ 0xBF ∷ 0xBF ∷ [])
    ∷ (0xF0 ∷ 0x90 ∷ 0x80 ∷ 0x80 ∷ []) ∷ (0xF0 ∷ 0xBF ∷ 0xBF ∷ 0xBF ∷ [])
    ∷ (0xF1 ∷ 0x80 ∷ 0x80 ∷ 0x80 ∷ []) ∷ (0xF3 ∷ 0xBF ∷ 0xBF ∷ 0xBF ∷ [])
    ∷ (0xF4 ∷ 0x80 ∷ 0x80 ∷ 0x80 ∷ []) ∷ (0xF4 ∷ 0x8F ∷ 0xBF ∷ 0xBF ∷ [])
    ∷ []
    ) ≡ Ok 0 ∷ Ok 1 ∷ replicate 2 (Ok 2) ++ replicate 8 (Ok 3) ++ replicate 6 (Ok 4)
unfolding computing
rows-first-and-last = refl

-- one below and one above each place of each row, where no other row begins so
rows-just-outside : map utf8_of (
    (0x80 ∷ [])
    ∷ (0xC1 ∷ 0xBF ∷ []) ∷ (0xC2 ∷ 0x7F ∷ []) ∷ (0xDF ∷ 0xC0 ∷ [])
    ∷ (0xE0 ∷ 0x9F ∷ 0xBF ∷ []) ∷ (0xE0 ∷ 0xC0 ∷ 0x80 ∷ []) ∷ (0xE0 ∷ 0xA0 ∷ 0x7F ∷ []) ∷ (0xE0 ∷ 0xBF ∷ 0xC0 ∷ [])
    ∷ (0xE1 ∷ 0x7F ∷ 0xBF ∷ []) ∷ (0xEC ∷ 0xC0 ∷ 0x80 ∷ []) ∷ (0xE1 ∷ 0x80 ∷ 0x7F ∷ []) ∷ (0xEC ∷ 0xBF ∷ 0xC0 ∷ [])
    ∷ (0xED ∷ 0x7F ∷ 0xBF ∷ []) ∷ (0xED ∷ 0xA0 ∷ 0x80 ∷ []) ∷ (0xED ∷ 0x80 ∷ 0x7F ∷ []) ∷ (0xED ∷ 0x9F ∷ 0xC0 ∷ [])
    ∷ (0xEE ∷ 0x7F ∷ 0xBF ∷ []) ∷ (0xEF ∷ 0xC0 ∷ 0x80 ∷ []) ∷ (0xEE ∷ 0x80 ∷ 0x7F ∷ []) ∷ (0xEF ∷ 0xBF ∷ 0xC0 ∷ [])
    ∷ (0xF0 ∷ 0x8F ∷ 0xBF ∷ 0xBF ∷ []) ∷ (0xF0 ∷ 0xC0 ∷ 0x80 ∷ 0x80 ∷ []) ∷ (0xF0 ∷ 0x90 ∷ 0x7F ∷ 0xBF ∷ []) ∷ (0xF0 ∷ 0xBF ∷ 0xC0 ∷ 0x80 ∷ [])
    ∷ (0xF0 ∷ 0x90 ∷ 0x80 ∷ 0x7F ∷ []) ∷ (0xF0 ∷ 0xBF ∷ 0xBF ∷ 0xC0 ∷ [])
    ∷ (0xF1 ∷ 0x7F ∷ 0xBF ∷ 0xBF ∷ []) ∷ (0xF3 ∷ 0xC0 ∷ 0x80 ∷ 0x80 ∷ []) ∷ (0xF1 ∷ 0x80 ∷ 0x7F ∷ 0xBF ∷ []) ∷ (0xF3 ∷ 0xBF ∷ 0xC0 ∷ 0x80 ∷ [])
    ∷ (0xF1 ∷ 0x80 ∷ 0x80 ∷ 0x7F ∷ []) ∷ (0xF3 ∷ 0xBF ∷ 0xBF ∷ 0xC0 ∷ [])
    ∷ (0xF4 ∷ 0x7F ∷ 0xBF ∷ 0xBF ∷ []) ∷ (0xF4 ∷ 0x90 ∷ 0x80 ∷ 0x80 ∷ []) ∷ (0xF4 ∷ 0x80 ∷ 0x7F ∷ 0xBF ∷ []) ∷ (0xF4 ∷ 0x8F ∷ 0xC0 ∷ 0x80 ∷ [])
    ∷ (0xF4 ∷ 0x80 ∷ 0x80 ∷ 0x7F ∷ []) ∷ (0xF4 ∷ 0x8F ∷ 0xBF ∷ 0xC0 ∷ [])
    ∷ (0xF5 ∷ 0x80 ∷ 0x80 ∷ 0x80 ∷ [])
    ∷ []
    ) ≡ replicate 39 (Err BadText)
unfolding computing
rows-just-outside = refl

sequence-cut-short : utf8_of (0xE1 ∷ 0x80 ∷ []) ≡ Err BadText
unfolding computing
sequence-cut-short = refl

zeros-dropped-at-the-end-alone : utf8_of (0x41 ∷ 0 ∷ 0x42 ∷ 0 ∷ 0 ∷ []) ≡ Ok 3
unfolding computing
zeros-dropped-at-the-end-alone = refl

nothing-but-zeros : utf8_of (0 ∷ 0 ∷ []) ≡ Ok 0
unfolding computing
nothing-but-zeros = refl

-- the check comes before the trimming: a zero inside a sequence is not dropped first
zero-in-a-sequence : utf8_of (0xC2 ∷ 0 ∷ []) ≡ Err BadText
unfolding computing
zero-in-a-sequence = refl

lone-first-surrogate : wide_of (0x00 ∷ 0xD8 ∷ []) ≡ Err BadText
unfolding computing
lone-first-surrogate = refl

-- 0001, D7FF, E000, FFFF; D800 DC00, DBFF DFFF
wide-rows-first-and-last : map wide_of (
    (0x01 ∷ 0x00 ∷ []) ∷ (0xFF ∷ 0xD7 ∷ []) ∷ (0x00 ∷ 0xE0 ∷ []) ∷ (0xFF ∷ 0xFF ∷ [])
    ∷ (0x00 ∷ 0xD8 ∷ 0x00 ∷ 0xDC ∷ []) ∷ (0xFF ∷ 0xDB ∷ 0xFF ∷ 0xDF ∷ [])
    ∷ []
    ) ≡ replicate 4 (Ok 2) ++ replicate 2 (Ok 4)
unfolding computing
wide-rows-first-and-last = refl

-- DC00, DFFF; D800 DBFF, D800 E000, DBFF DBFF, DBFF E000
wide-rows-just-outside : map wide_of (
    (0x00 ∷ 0xDC ∷ []) ∷ (0xFF ∷ 0xDF ∷ [])
    ∷ (0x00 ∷ 0xD8 ∷ 0xFF ∷ 0xDB ∷ []) ∷ (0x00 ∷ 0xD8 ∷ 0x00 ∷ 0xE0 ∷ []) ∷ (0xFF ∷ 0xDB ∷ 0xFF ∷ 0xDB ∷ []) ∷ (0xFF ∷ 0xDB ∷ 0x00 ∷ 0xE0 ∷ [])
    ∷ []
    ) ≡ replicate 6 (Err BadText)
unfolding computing
wide-rows-just-outside = refl

three-bytes : wide_of (0x41 ∷ 0 ∷ 0x42 ∷ []) ≡ Err Unaligned
unfolding computing
three-bytes = refl

-- the length is tested before the surrogates
odd-and-unpaired : wide_of (0x00 ∷ 0xD8 ∷ 0 ∷ []) ≡ Err Unaligned
unfolding computing
odd-and-unpaired = refl

zero-units-dropped-at-the-end-alone : wide_of (0x41 ∷ 0 ∷ 0 ∷ 0 ∷ 0x42 ∷ 0 ∷ 0 ∷ 0 ∷ []) ≡ Ok 6
unfolding computing
zero-units-dropped-at-the-end-alone = refl

nothing-but-zero-units : wide_of (0 ∷ 0 ∷ 0 ∷ 0 ∷ []) ≡ Ok 0
unfolding computing
nothing-but-zero-units = refl

-- the zero byte of a unit is no zero unit
unit-with-a-zero-byte : wide_of (0x00 ∷ 0x01 ∷ []) ≡ Ok 2
unfolding computing
unit-with-a-zero-byte = refl
