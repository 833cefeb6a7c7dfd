-- The walk by turns tells what the theorems of a walk into slots say (proofs/Acceptance.antt, proofs/Refusals.antt), without slots.
--   turns-told    what turns from the opening told is what the walk of the whole log tells, and so there is one such list and one such ending
--   turns-mean    it is what the log is: the records and the ending that `Means` describes, whatever number of slots would hold them
--   turns-some    every log has such turns
-- Assumes nothing.
use Prim.Native.Nat.{ℕ, zero, suc, ◌+◌, ◌≤◌, ◌<◌}
use mathlib.Core.Path.{◌≡◌, refl, sym, ap, ◌∙◌}
use mathlib.Core.List.{List, [], ◌∷◌}
use native.Mathlib.Omega.{arith}
use lib.ListN.{length}
use Rattle.numbers.specs.Number.{Bytes}
use Rattle.refusal.specs.declared.Ending.{Ending}
use Rattle.refusal.specs.Limits.{log_most}
use Rattle.pieces.specs.Walk.{Told, add, whole_walk}
use Rattle.pieces.specs.Slots.{into}
use Rattle.pieces.proofs.SlotLaws.{fit_all}
use Rattle.record.specs.declared.Cursor.{Cursor}
use Rattle.record.specs.declared.Slot.{Slot}
use Rattle.record.specs.declared.Turn.{Turn}
use Rattle.record.specs.Record.{judge_of, opening_shape}
use Rattle.standing.specs.Serials.{numbered, whole_told}
use Rattle.standing.specs.Standing.{Standing, standing_by, none_yet}
use Rattle.standing.proofs.SerialLaws.{numbered-length}
use Rattle.walk.specs.Turn.{opening_cursor, turn_of}
use Rattle.walk.specs.Fill.{bare_into}
use Rattle.walk.specs.Divides.{Means}
use Rattle.walk.proofs.TurnLaws.{turn-further}
use Rattle.walk.proofs.FillLaws.{rest_from, rest-opens, rest-turn, whole-numbered}
use Rattle.walk.proofs.Means.{told, means}
use Rattle.promises.specs.Answers.{Numbered}
use Rattle.promises.specs.Turns.{Turns, stops, goes}

-- the turns from a cursor on tell what the walk from there on tells
told-from : {log : List ℕ} {c : Cursor} {counts tallies : List ℕ} {rs : List Slot} {e : Ending} → Turns log c counts tallies rs e
    → rest_from log c counts ≡ told rs e
told-from {log} {c} {counts} {tallies} (stops t counts' tallies' e ((said, counted, tallied), is) found) =
    rest-turn log c (standing_by counts tallies) ∙ rw (sym said, found)
told-from {log} {c} {counts} {tallies} (goes t counts' tallies' slot ((said, counted, tallied), is) found more) =
    rest-turn log c (standing_by counts tallies) ∙ rw (sym said, found, sym counted) (ap (add slot) (told-from more))

log-bytes : {log : List ℕ} {c : Cursor} {counts tallies : List ℕ} {rs : List Slot} {e : Ending} → Turns log c counts tallies rs e → Bytes log
log-bytes (stops t counts' tallies' e says found) = says.1
log-bytes (goes t counts' tallies' slot says found more) = says.1

module _ (log : List ℕ) (rs : List Slot) (e : Ending) where
  -- What the turns told is what the walk of the whole log tells, with its serials.
  pub turns-told : Turns log opening_cursor none_yet.counts none_yet.tallies rs e → whole_told log ≡ told rs e
  turns-told t = sym (rest-opens log none_yet.counts ∙ whole-numbered log) ∙ told-from t

  -- It is what the log is, as for a walk into any number of slots that suffice: accepted, or refused for its reason.
  pub turns-mean : Turns log opening_cursor none_yet.counts none_yet.tallies rs e → (k : ℕ) → length rs ≤ k → Numbered (λ bare. Means k log bare e) rs
  unfolding bare_into into
  turns-mean t k enough =
      let bare = whole_walk judge_of log_most opening_shape log in
      let same : numbered [] bare.records ≡ rs = ap (λ (t : Told Slot). t.records) (turns-told t) in
      let ends : bare.ending ≡ e = ap (λ (t : Told Slot). t.ending) (turns-told t) in
      let fits : bare_into k log ≡ told bare.records e =
      fit_all (λ slot. slot.start) k bare.records bare.ending (omega (arith, enough, numbered-length [] bare.records, ap length same))
      ∙ ap (told bare.records) ends in
      (bare.records, sym same, (means log (log-bytes t) k bare.records e).0 fits)

-- from a cursor on, where at most f bytes of the limit are left
some-from : (log : List ℕ) → Bytes log → (f : ℕ) (c : Cursor) (st : Standing) → log_most < c.at + f
    → (rs : List Slot) × (e : Ending) × Turns log c st.counts st.tallies rs e
some-from log is zero c st h = go (turn_of log c st).turned.turn refl
  where
    go : (turn : Turn) → (turn_of log c st).turned.turn ≡ turn → (rs : List Slot) × (e : Ending) × Turns log c st.counts st.tallies rs e
    go (Turn.Stop e) found = ([], e, stops (turn_of log c st).turned _ _ e ((refl, refl, refl), is) found)
    go (Turn.Record slot) found = let (on, within) = turn-further log c st slot found in absurd (omega arith)
some-from log is (suc f) c st h = go (turn_of log c st).turned.turn refl (some-from log is f (turn_of log c st).turned.next (turn_of log c st).standing)
  where
    go : (turn : Turn) → (turn_of log c st).turned.turn ≡ turn
        → (log_most < (turn_of log c st).turned.next.at + f
        → (rs : List Slot) × (e : Ending) × Turns log (turn_of log c st).turned.next (turn_of log c st).standing.counts (turn_of log c st).standing.tallies rs e)
        → (rs : List Slot) × (e : Ending) × Turns log c st.counts st.tallies rs e
    go (Turn.Stop e) found ih = ([], e, stops (turn_of log c st).turned _ _ e ((refl, refl, refl), is) found)
    go (Turn.Record slot) found ih =
        let (on, within) = turn-further log c st slot found in
        let (rs, e, more) = ih (omega arith) in
        (slot ∷ rs, e, goes (turn_of log c st).turned _ _ slot ((refl, refl, refl), is) found more)

-- Every log of bytes has such turns.
pub turns-some : (log : List ℕ) → Bytes log → (rs : List Slot) × (e : Ending) × Turns log opening_cursor none_yet.counts none_yet.tallies rs e
turns-some log is = some-from log is (suc log_most) opening_cursor none_yet (omega arith)
