-- `text::wide::well_formed`: past a sequence the rest decides, and where none stands the text is not well formed. Assumes nothing.
use Rattle.std.proofs.Common.{rules, ◌≡◌, ◌≤◌, ◌+◌, ◌*◌, ◌/◌, ◌∷◌, [], sym, ap, ◌∙◌, arith, length, drop}
use Rattle.std.proofs.lemmas.List.{take_rest, nil_from_length}
use Rattle.text.specs.Rows.{step_of, formed}
use Rattle.text.specs.Unicode.{wide_rows}
use Rattle.text.specs.Text.{units_of}
use Rattle.text.proofs.RowLaws.{formed-past, past-within, formed-stuck, formed-nil}
use Rattle.text.proofs.TextLaws.{length-units, units-drop, units-front}
use Rattle.text.proofs.wide.well_formed.Goals.{In-Some-more}
use Rattle.text.proofs.wide.well_formed.Goals as goal

-- the sequence at the front lies in what is left, and past it the text is as well formed
past : (c : In-Some-more)
    → let n = c.in-Some-more.n in
    let after = c.in-Some.after.now in
    (n ≤ length after) × (formed wide_rows 0 (units_of (drop n after)) ≡ formed wide_rows 0 (units_of c.args.s.now))
past c =
    let after = c.in-Some.after.now in
    let unit = c.from_le_bytes.result in
    let n = c.in-Some-more.n in
    let k = n / 2 in
    let (here, rest, size) = c.in-Some.ensures.cases in
    let cut = units-front c.loop-unit.rest.now c.in-Some.unit.now after here rest size ∙ ap (λ u. u ∷ units_of after) (sym c.from_le_bytes.ensures) in
    let step : step_of wide_rows (unit ∷ units_of after) ≡ k + 1 = omega (arith, c.in-Some-more.ensures) in
    let pairs : n ≡ 2 * k = omega (arith, c.in-Some-more.ensures) in
    let within : n ≤ length after = omega (arith, length-units after, past-within wide_rows unit (units_of after) k step) in
    let on = ap (formed wide_rows 0) (units-drop k after) ∙ formed-past wide_rows unit (units_of after) k step ∙ sym (ap (formed wide_rows 0) cut) ∙ c.loop-unit.invariant in
    (within, rw pairs on)

pub returns-in_default-more : goal.returns-in_default-more
returns-in_default-more c =
    let after = c.in-Some.after.now in
    let (here, rest, size) = c.in-Some.ensures.cases in
    let cut = units-front c.loop-unit.rest.now c.in-Some.unit.now after here rest size ∙ ap (λ u. u ∷ units_of after) (sym c.from_le_bytes.ensures) in
    let stuck = formed-stuck wide_rows (c.from_le_bytes.result ∷ units_of after) (omega arith) c.in_default-more.ensures in
    sym (ap (formed wide_rows 0) cut ∙ stuck) ∙ c.loop-unit.invariant

pub slice_bounds-rest-count : goal.slice_bounds-rest-count
slice_bounds-rest-count c = (past c).0

pub slice_bounds-rest-start : goal.slice_bounds-rest-start
slice_bounds-rest-start c = let w = (past c).0 in search rules

pub loop-unit-preserved : goal.loop-unit-preserved
loop-unit-preserved c = rw take_rest (past (goal.at.loop-unit-preserved c).In-Some-more).1

pub returns : goal.returns
returns c =
    let rest = c.loop-unit.rest.now in
    let none : units_of rest ≡ [] = nil_from_length (units_of rest) (omega (arith, length-units rest, c.in_default.ensures.cases)) in
    sym (ap (formed wide_rows 0) none ∙ formed-nil wide_rows) ∙ c.loop-unit.invariant
