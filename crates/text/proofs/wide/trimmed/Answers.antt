-- `text::wide::trimmed`: a zero unit at the end is dropped, and with anything else there nothing is. Assumes nothing.
use Rattle.std.proofs.Common.{◌++◌, ◌∷◌, [], sym, ap, ◌∙◌, arith}
use Rattle.text.specs.Text.{trimmed_of, units_of}
use Rattle.text.proofs.TextLaws.{trim-zero, trim-other, trim-le, length-units, units-end}
use Rattle.text.proofs.wide.trimmed.Goals as goal

pub returns-then-from_le_bytes-ne0 : goal.returns-then-from_le_bytes-ne0
returns-then-from_le_bytes-ne0 c =
    let (front, unit, size) = c.in-Some.ensures.cases in
    let cut = units-end c.loop-front.kept.now c.in-Some.front.now c.in-Some.unit.now front unit size c.loop-front.invariant.0 in
    let all = ap trimmed_of cut ∙ trim-other (units_of c.in-Some.front.now) _ (omega (arith, c.from_le_bytes.ensures)) in
    omega (arith, all, length-units c.in-Some.front.now, c.loop-front.invariant)

pub loop-front-preserved : goal.loop-front-preserved
loop-front-preserved c =
    let (front, unit, size) = c.in-Some.ensures.cases in
    let cut = units-end c.loop-front.kept.now c.in-Some.front.now c.in-Some.unit.now front unit size c.loop-front.invariant.0 in
    let zero = ap (λ u. units_of c.in-Some.front.now ++ (u ∷ [])) (sym c.from_le_bytes.ensures ∙ c.if-from_le_bytes-ne0.false) in
    (omega arith, sym (trim-zero (units_of c.in-Some.front.now)) ∙ sym (ap trimmed_of (cut ∙ zero)) ∙ c.loop-front.invariant.1)

pub returns : goal.returns
returns c =
    let kept = c.loop-front.kept.now in
    omega (arith, trim-le (units_of kept), length-units kept, c.loop-front.invariant, c.in_default.ensures.cases)
