-- Plain bytes, those below 0x80: Unicode's first row makes a sequence of each, so that a run of them is passed; and eight bytes are
-- plain where their number has none of their highest bits. Assumes nothing.
use Rattle.std.proofs.Common.{ℕ, zero, suc, ◌+◌, ◌*◌, ◌/◌, ◌%◌, ◌≤◌, ◌<◌, ◌≡◌, refl, sym, ap, ◌∙◌, List, [], ◌∷◌, ◌++◌, length, get_or, take, drop, bit_and, arith}
use Rattle.std.proofs.lemmas.List.{length-drop, length-take-le, take-append-drop, drop-drop, get_or-take, get_or-drop}
use native.Mathlib.Nat.{mod-eq_of_lt}
use lib.Bits.{and_block, and_high}
use borrow.Author.Tests.{le-leb}
use Rattle.numbers.specs.Number.{Bytes, le_of, number_at}
use Rattle.numbers.specs.Range.{part_of}
use Rattle.numbers.proofs.NumberLaws.{bytes-tail, bytes-part}
use Rattle.numbers.proofs.RangeLaws.{length_part, get_or-part}
use Rattle.text.specs.Rows.{step_of, formed}
use Rattle.text.specs.Unicode.{utf8_rows}
use Rattle.text.proofs.RowLaws.{formed-next}

-- a plain byte is a sequence by itself
plain_step : (x : ℕ) (s : List ℕ) → x < 0x80 → step_of utf8_rows (x ∷ s) ≡ 1
unfolding step_of
plain_step x s h = rw (le-leb x 0x7F (omega arith), le-leb 0 x (omega arith))

-- after a run of plain bytes the rest decides
pub plain-front : (run s : List ℕ) → ((i : ℕ) → i < length run → get_or run i 0 < 0x80) → formed utf8_rows 0 s ≡ formed utf8_rows 0 (run ++ s)
plain-front [] s b = refl
plain-front (x ∷ run) s b =
    plain-front run s (λ i l. b (suc i) (omega arith)) ∙ sym (formed-next utf8_rows (x ∷ (run ++ s)) 0 (plain_step x (run ++ s) (b 0 (omega arith))))

-- and after n plain bytes that stand at a place
pub plain-run : (s : List ℕ) (at n : ℕ) → at + n ≤ length s → ((i : ℕ) → i < n → get_or s (at + i) 0 < 0x80)
    → formed utf8_rows 0 (drop (at + n) s) ≡ formed utf8_rows 0 (drop at s)
plain-run s at n h b =
    let run = take n (drop at s) in
    let few : length run ≡ n = length-take-le n (drop at s) (omega (arith, length-drop at s)) in
    let plain : (i : ℕ) → i < length run → get_or run i 0 < 0x80 = λ i l. rw (get_or-take n (drop at s) i 0 (omega arith), get_or-drop at s i 0) (b i (omega arith)) in
    ap (formed utf8_rows 0) (sym (drop-drop n at s)) ∙ plain-front run (drop n (drop at s)) plain ∙ ap (formed utf8_rows 0) (take-append-drop n (drop at s))

-- the highest bits of n bytes
abbrev high_bits : ℕ → ℕ
high_bits zero = 0
high_bits (suc n) = high_bits n * 256 + 0x80

-- those that a number has: of its lowest byte, and of the others
high-split : (b : ℕ) (bs : List ℕ) → b < 256
    → bit_and (le_of (b ∷ bs)) (high_bits (suc (length bs))) ≡ bit_and (le_of bs) (high_bits (length bs)) * 256 + bit_and b 0x80
unfolding le_of
high-split b bs h =
    let e : b + 256 * le_of bs ≡ le_of bs * 256 + b = omega arith in
    rw e (and_block 8 (le_of bs) (high_bits (length bs)) b 0x80 h (omega arith))

-- a byte without its highest bit is plain
byte-plain : (b : ℕ) → b < 256 → bit_and b 0x80 ≡ 0 → b < 0x80
byte-plain b h e =
    let f : bit_and b 0x80 ≡ b / 128 % 2 * 128 = and_high b 1 7 in
    let q : b / 128 < 2 = omega arith in
    omega (arith, mod-eq_of_lt q)

-- the bytes of a number that has none of these bits are plain
number-plain : (bs : List ℕ) → Bytes bs → bit_and (le_of bs) (high_bits (length bs)) ≡ 0 → (i : ℕ) → get_or bs i 0 < 0x80
number-plain [] t e i = omega arith
number-plain (b ∷ bs) t e zero = byte-plain b (t.below 0) (omega (arith, high-split b bs (t.below 0)))
number-plain (b ∷ bs) t e (suc i) = number-plain bs (bytes-tail t) (omega (arith, high-split b bs (t.below 0))) i

-- and so are eight bytes that stand at a place
pub word-plain : (s : List ℕ) (at : ℕ) → Bytes s → at + 8 ≤ length s → bit_and (number_at 8 s at) 0x8080808080808080 ≡ 0
    → (i : ℕ) → i < 8 → get_or s (at + i) 0 < 0x80
unfolding number_at
word-plain s at t h e i l =
    let f = number-plain (part_of s at 8) (bytes-part s at 8 t) (ap (λ n. bit_and (le_of (part_of s at 8)) (high_bits n)) (length_part s at 8 h) ∙ e) i in
    omega (arith, get_or-part s at 8 i l)
