-- `text::utf8::more`: at each class of a lead the rows of classes leave one row, and elsewhere none. Assumes nothing.
use Rattle.std.proofs.Common.{rules, ℕ, ◌≡◌, ◌∷◌, refl, sym, ◌∙◌, arith}
use Rattle.numbers.proofs.NumberLaws.{bytes, bytes-cons}
use Rattle.text.proofs.ClassLaws.{step-lead, step-none, led-step}
use Rattle.text.specs.Rows.{step_of}
use Rattle.text.specs.Unicode.{utf8_rows}
use Rattle.text.specs.Classes.{classes_from, class_rows}
use Rattle.text.proofs.utf8.more.Goals.{After-class_of}
use Rattle.text.proofs.utf8.more.Goals as goal

stands : (c : After-class_of) (k : ℕ) → c.class_of.result ≡ k → step_of utf8_rows (c.args.lead ∷ c.args.after.now) ≡ step_of class_rows (k ∷ classes_from c.args.after.now 0)
stands c k e =
    let a = c.args in
    step-lead a.lead a.after.now k (bytes-cons a.lead a.after.now (omega arith) (bytes c.type_inv.after)) (sym e ∙ c.class_of.ensures)

pub returns-in-0 : goal.returns-in-0
unfolding step_of
returns-in-0 c = stands (goal.at.returns-in-0 c).After-class_of 0 c.in-0.is

pub returns-in-4 : goal.returns-in-4
unfolding step_of
returns-in-4 c = led-step _ 1 _ _ c.led.ensures (stands (goal.at.returns-in-4 c).After-class_of 4 c.in-4.is)

pub returns-in-5 : goal.returns-in-5
unfolding step_of
returns-in-5 c = led-step _ 2 _ _ c.led-in-5.ensures (stands (goal.at.returns-in-5 c).After-class_of 5 c.in-5.is)

pub returns-in-6 : goal.returns-in-6
unfolding step_of
returns-in-6 c = led-step _ 2 _ _ c.led-in-6.ensures (stands (goal.at.returns-in-6 c).After-class_of 6 c.in-6.is)

pub returns-in-7 : goal.returns-in-7
unfolding step_of
returns-in-7 c = led-step _ 2 _ _ c.led-in-7.ensures (stands (goal.at.returns-in-7 c).After-class_of 7 c.in-7.is)

pub returns-in-8 : goal.returns-in-8
unfolding step_of
returns-in-8 c = led-step _ 2 _ _ c.led-in-8.ensures (stands (goal.at.returns-in-8 c).After-class_of 8 c.in-8.is)

pub returns-in-9 : goal.returns-in-9
unfolding step_of
returns-in-9 c = led-step _ 3 _ _ c.led-in-9.ensures (stands (goal.at.returns-in-9 c).After-class_of 9 c.in-9.is)

pub returns-in-10 : goal.returns-in-10
unfolding step_of
returns-in-10 c = led-step _ 3 _ _ c.led-in-10.ensures (stands (goal.at.returns-in-10 c).After-class_of 10 c.in-10.is)

pub returns-in-11 : goal.returns-in-11
unfolding step_of
returns-in-11 c = led-step _ 3 _ _ c.led-in-11.ensures (stands (goal.at.returns-in-11 c).After-class_of 11 c.in-11.is)

pub returns-in_default : goal.returns-in_default
returns-in_default c =
    stands (goal.at.returns-in_default c).After-class_of c.class_of.result refl ∙ step-none c.class_of.result (classes_from c.args.after.now 0) (search rules)
