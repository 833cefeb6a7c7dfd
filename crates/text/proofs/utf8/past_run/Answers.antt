-- `text::utf8::past_run`: an end of an end of the text. Assumes nothing.
use Rattle.std.proofs.Common.{◌∙◌, arith}
use Rattle.text.proofs.RowLaws.{end-of_end}
use Rattle.text.proofs.utf8.past_run.Goals as goal

pub returns : goal.returns
returns c =
    let first = c.past_blocks.ensures in
    let then = c.past_blocks-2.ensures in
    (omega arith, then.1 ∙ first.1, end-of_end c.args.s.now c.past_blocks.result.now c.past_blocks-2.result.now first.0 then.0 first.2 then.2)
