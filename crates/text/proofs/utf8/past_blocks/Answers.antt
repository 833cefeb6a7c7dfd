-- `text::utf8::past_blocks`: a plain block is a run, and what is left past it is an end of what was left. Assumes nothing.
use Rattle.std.proofs.Common.{◌≡◌, ◌-◌, ◌++◌, ap, ◌∙◌, arith, length, drop}
use Rattle.std.proofs.lemmas.List.{take-append-drop}
use Rattle.text.specs.Rows.{formed}
use Rattle.text.specs.Unicode.{utf8_rows}
use Rattle.text.proofs.PlainLaws.{plain-front}
use Rattle.text.proofs.RowLaws.{end-of_end}
use Rattle.text.proofs.utf8.past_blocks.Goals as goal

pub loop-block-preserved : goal.loop-block-preserved
loop-block-preserved c =
    let rest = c.loop-block.rest.now in
    let (within, front, back, many, left) = c.in-Some.ensures.cases in
    let whole : c.in-Some.block.now ++ c.in-Some.after.now ≡ rest = rw (front, back) (take-append-drop c.args.size rest) in
    let size : c.args.size ≡ length rest - length c.in-Some.after.now = omega arith in (
      omega arith,
      plain-front c.in-Some.block.now c.in-Some.after.now (c.is_plain.ensures c.if-is_plain.true) ∙ ap (formed utf8_rows 0) whole ∙ c.loop-block.invariant.1,
      end-of_end c.args.s.now rest c.in-Some.after.now c.loop-block.invariant.0 (omega arith) c.loop-block.invariant.2 (back ∙ ap (λ n. drop n rest) size),
    )
