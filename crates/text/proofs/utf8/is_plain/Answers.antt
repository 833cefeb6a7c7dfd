-- `text::utf8::is_plain`: eight bytes are plain where their number has none of their highest bits. Assumes nothing.
use Rattle.std.proofs.Common.{◌+◌, ◌≡◌, ap, get_or, bit_and, arith}
use borrow.Author.Tests.{eqb-true}
use Rattle.numbers.specs.Number.{number_at}
use Rattle.numbers.proofs.NumberLaws.{bytes}
use Rattle.text.proofs.PlainLaws.{word-plain}
use Rattle.text.proofs.utf8.is_plain.Goals as goal

pub returns-then-block-eq-WORD : goal.returns-then-block-eq-WORD
returns-then-block-eq-WORD c e =
    let s = c.args.block.now in
    let none : bit_and (number_at 8 s 0) 0x8080808080808080 ≡ 0 = rw (← c.le64.ensures) (eqb-true _ _ e) in
    λ i l. let here : 0 + i ≡ i = omega arith in
    omega (
      arith,
      word-plain s 0 (bytes c.type_inv.block) (omega (arith, c.if-block-eq-WORD.true)) none i (omega (arith, c.if-block-eq-WORD.true)),
      ap (λ j. get_or s j 0) here,
    )
