-- `text::utf8::led`: too few bytes follow, or the first of so many is of its range and the others are of theirs. Assumes nothing.
use Rattle.std.proofs.Common.{rules, refl, ◌≡◌, ◌<◌, ◌∷◌, ◌&&◌, sym, ap, ◌∙◌, arith, length, replicate, ◌-◌}
use Rattle.std.specs.Prelude.{ℕ, Bool, true, false, cond, Some, None}
use Rattle.std.specs.Bool.{then_some}
use Rattle.std.specs.List.{list_all}
use Rattle.std.proofs.lemmas.Slice.{between_from_start}
use Rattle.text.specs.Rows.{◌··◌, inside, opens}
use Rattle.text.specs.Classes.{class_of, classes_from}
use Rattle.text.proofs.ClassLaws.{led-short, led-front}
use Rattle.text.proofs.utf8.led.Goals as goal
use Rattle.text.proofs.utf8.led.Goals.{After-is_in, then-is_in, else-is_in}

pub returns-in_err-get : goal.returns-in_err-get
returns-in_err-get c =
    let a = c.args in
    let short : length a.after.now < a.more = omega (arith, c.in_err-get.ensures.lookup) in
    let e = led-short (a.low ·· a.high) a.more a.after.now c.requires short in
    rw e (search rules)

-- the first n bytes decide
decided : (c : After-is_in) → let a = c.args in opens (a.low ·· a.high ∷ replicate (a.more - 1) (1 ·· 3)) (classes_from a.after.now 0) ≡ c.is_in.result && list_all (λ b. inside (1 ·· 3) (class_of b)) c.in_ok-first.others.now
decided c =
    let a = c.args in
    let look = c.in_ok-get.ensures.lookup in
    let front = c.in_ok-first.ensures.cases.0 in
    led-front (a.low ·· a.high) a.more a.after.now c.in_ok-first.others.now c.in_ok-first.first.now c.requires (omega (arith, look)) (sym (between_from_start a.after.now a.more) ∙ sym look.0.2 ∙ front)
    ∙ ap (λ b. b && list_all (λ b. inside (1 ·· 3) (class_of b)) c.in_ok-first.others.now) (sym c.is_in.ensures)

gives : (b : Bool) (n : ℕ) → then_some b n ≡ cond b (Some n) None
gives true n = refl
gives false n = refl

pub returns : goal.returns
returns c =
    let d = decided (goal.at.returns c).After-is_in in
    elim c.if-is_in.branch [ then-is_in w ↦ rw (c.then_some.ensures, d, w.then_some-is, w.if-is_in.true, ← w.follow.ensures) (gives w.follow.result c.args.more) | else-is_in w ↦ rw (c.then_some.ensures, d, w.then_some-is, w.if-is_in.false) ]
