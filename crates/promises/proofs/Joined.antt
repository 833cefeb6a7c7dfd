-- Demands 2 and 3 joined: with slots enough, a walk over lent slots and any run of a walker tell the same marker, records, refusal or tail.
--   enough-slots    `records_most` slots, 4,093, always suffice: the walk fills them with every record of the log, and ends as the log does
--   never-full      so it never answers 12
--   joined          what a run told in which a call stopped is what the walk says,
--   joined-closed   and so of every run with a close
-- Assumes nothing.
use Prim.Native.Nat.{ℕ, ◌≤◌}
use mathlib.Core.Path.{◌≡◌, sym, ap, ◌∙◌, subst}
use mathlib.Core.Bool.{true}
use mathlib.Core.List.{List, ◌∷◌, ◌++◌}
use native.Mathlib.Omega.{arith}
use lib.ListN.{length}
use Rattle.numbers.proofs.ByCases.{split}
use Rattle.refusal.specs.declared.Ending.{Ending}
use Rattle.refusal.specs.declared.Why.{Why}
use Rattle.refusal.specs.Limits.{log_most}
use Rattle.refusal.specs.Endings.{refused_with}
use Rattle.refusal.specs.Refusals.{number_of}
use Rattle.pieces.specs.Walk.{Told, whole_walk}
use Rattle.pieces.specs.Slots.{into}
use Rattle.pieces.specs.Feed.{Outcome}
use Rattle.pieces.specs.Run.{close_call, stopped, told}
use Rattle.pieces.proofs.SlotLaws.{fit_all}
use Rattle.pieces.proofs.WalkLaws.{whole_walk-fits, whole_walk-long}
use Rattle.record.specs.declared.Slot.{Slot}
use Rattle.record.specs.Record.{judge_of, opening_shape}
use Rattle.walk.specs.declared.Walked.{Walked}
use Rattle.standing.specs.Serials.{numbered_told, whole_told}
use Rattle.walk.specs.Fill.{bare_into, told_into, records_most, FillSays}
use Rattle.walk.proofs.ChainLaws.{Stops, walk_ends}
use Rattle.walk.proofs.CountLaws.{records-few}
use Rattle.walker.specs.declared.Walker.{Walker}
use Rattle.walker.specs.Walker.{fresh_walker}
use Rattle.promises.specs.Answers.{records_of, Filled}
use Rattle.promises.specs.Runs.{Call, Run}
use Rattle.promises.proofs.Acceptance.{told-filled}
use Rattle.promises.proofs.Pieces.{pieces-agree, pieces-closed}

module _ (log : List ℕ) (old : List Slot) (r : Walked) (slots : List Slot) (says : FillSays log old r slots) (enough : records_most ≤ length old) where
  abbrev whole : Told Slot
  whole = whole_told log

  told-whole : told_into (length old) log ≡ whole
  unfolding told_into bare_into into
  told-whole =
      let bare = whole_walk judge_of log_most opening_shape log in
      ap numbered_told (fit_all (λ slot. slot.start) (length old) bare.records bare.ending (omega (arith, records-few log says.2, enough)))

  -- The walk fills the first slots with every record of the log, and ends as the log does.
  pub enough-slots : Filled r slots (records_of log) whole.ending
  enough-slots = told-filled log old r slots says whole.records whole.ending told-whole

  -- It never answers 12.
  pub never-full : (at : ℕ) → r.ending ≡ refused_with Why.NoSlot at → ⊥
  never-full at e = split (length log) log_most
      (λ short. let s = (walk_ends opening_shape 0 log says.2).stops in
      subst (Stops _ _ _) (ap (λ (t : Told Slot). t.ending) (sym (whole_walk-fits judge_of log_most opening_shape log short)) ∙ ends) s)
      (λ long. let f = ap (λ (t : Told Slot). t.ending) (sym (whole_walk-long judge_of log_most opening_shape log long)) ∙ ends in absurd (omega (arith, ap number f)))
    where
      number : Ending → ℕ
      number (Ending.End at tail) = 0
      number (Ending.Refused x) = number_of x.why

      ends : whole.ending ≡ refused_with Why.NoSlot at
      ends = ap (λ (w : Walked). w.ending) (sym enough-slots.0) ∙ e

  -- What a run told is what the walk says, once a call has stopped:
  pub joined : length log ≤ log_most → (last : List ℕ) (cs : List Call) → Run log fresh_walker last cs → stopped cs ≡ true → (e : Ending)
      → Filled r slots (told e cs).records (told e cs).ending
  joined short last cs run t e =
      subst (λ (x : Told Slot). Filled r slots x.records x.ending) (sym (pieces-agree log short last cs run t e)) enough-slots

  -- or the log was closed.
  pub joined-closed : length log ≤ log_most → (last : List ℕ) (bs : List Call) (hold : List ℕ) (o : Outcome Walker Slot) (cs : List Call)
      → Run log fresh_walker last (bs ++ (close_call hold o ∷ cs)) → (e : Ending)
      → let x : Told Slot = told e (bs ++ (close_call hold o ∷ cs)) in Filled r slots x.records x.ending
  joined-closed short last bs hold o cs run e =
      subst (λ (x : Told Slot). Filled r slots x.records x.ending) (sym (pieces-closed log short last bs hold o cs run e)) enough-slots
