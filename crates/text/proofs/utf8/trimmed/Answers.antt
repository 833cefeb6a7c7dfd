-- `text::utf8::trimmed`: a zero at the end is dropped, and with anything else there nothing is. Assumes nothing.
use Rattle.std.proofs.Common.{sym, ap, ◌∙◌, arith}
use Rattle.text.specs.Text.{trimmed_of}
use Rattle.text.proofs.TextLaws.{trim-zero, trim-other, trim-le}
use Rattle.text.proofs.utf8.trimmed.Goals as goal

pub returns-then-last-ne0 : goal.returns-then-last-ne0
returns-then-last-ne0 c =
    let (cut, more) = c.in-Some.ensures.cases in
    let all = ap trimmed_of cut ∙ trim-other c.in-Some.front.now c.in-Some.last.now (omega arith) in
    omega (arith, all, c.loop-last.invariant)

pub loop-last-preserved : goal.loop-last-preserved
loop-last-preserved c =
    let (cut, more) = c.in-Some.ensures.cases in
    sym (trim-zero c.in-Some.front.now) ∙ rw (← c.if-last-ne0.false, ← cut) c.loop-last.invariant

pub returns : goal.returns
returns c = omega (arith, trim-le c.loop-last.kept.now, c.loop-last.invariant, c.in_default.ensures.cases)
