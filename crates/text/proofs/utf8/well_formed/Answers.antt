-- `text::utf8::well_formed`: past a sequence the rest decides, and where none stands the text is not well formed. Assumes nothing.
use Rattle.std.proofs.Common.{rules, ◌≡◌, ◌≤◌, ◌∷◌, sym, ap, ◌∙◌, arith, length, drop}
use Rattle.std.proofs.lemmas.List.{take_rest, nil_from_length}
use Rattle.text.specs.Rows.{formed}
use Rattle.text.specs.Unicode.{utf8_rows}
use Rattle.text.proofs.RowLaws.{formed-past, past-within, formed-stuck, formed-nil}
use Rattle.text.proofs.utf8.well_formed.Goals.{In-Some-more}
use Rattle.text.proofs.utf8.well_formed.Goals as goal

-- the sequence at the front lies in what is left, and past it the text is as well formed
within : (c : In-Some-more) → c.in-Some-more.n ≤ length c.in-Some.after.now
within c = past-within utf8_rows c.in-Some.lead.now c.in-Some.after.now c.in-Some-more.n c.in-Some-more.ensures

past : (c : In-Some-more) → formed utf8_rows 0 (drop c.in-Some-more.n c.in-Some.after.now) ≡ formed utf8_rows 0 c.args.s.now
past c =
    let (cut, less) = c.in-Some.ensures.cases in
    formed-past utf8_rows c.in-Some.lead.now c.in-Some.after.now c.in-Some-more.n c.in-Some-more.ensures ∙ ap (formed utf8_rows 0) (sym cut) ∙ c.loop-lead.invariant

pub returns-in_default-more : goal.returns-in_default-more
returns-in_default-more c =
    let (cut, less) = c.in-Some.ensures.cases in
    let stuck = formed-stuck utf8_rows (c.in-Some.lead.now ∷ c.in-Some.after.now) (omega arith) c.in_default-more.ensures in
    sym stuck ∙ ap (formed utf8_rows 0) (sym cut) ∙ c.loop-lead.invariant

pub slice_bounds-rest-count : goal.slice_bounds-rest-count
slice_bounds-rest-count c = within (goal.at.slice_bounds-rest-count c).In-Some-more

pub slice_bounds-rest-start : goal.slice_bounds-rest-start
slice_bounds-rest-start c = let w = within c in search rules

pub loop-lead-preserved-then-n-eq0 : goal.loop-lead-preserved-then-n-eq0
loop-lead-preserved-then-n-eq0 c = c.past_run-rest-then-n-eq0.ensures.1 ∙ rw take_rest (past (goal.at.loop-lead-preserved-then-n-eq0 c).In-Some-more)

pub loop-lead-preserved : goal.loop-lead-preserved
loop-lead-preserved c = rw take_rest (past (goal.at.loop-lead-preserved c).In-Some-more)

pub returns : goal.returns
returns c = sym (ap (formed utf8_rows 0) (nil_from_length _ c.in_default.ensures.cases) ∙ formed-nil utf8_rows) ∙ c.loop-lead.invariant
