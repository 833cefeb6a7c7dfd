-- Where each register stands (document 02, Req 03), said of the records that were handed out and not of the counting.
--   serials-filled   (a) in the slots that a walk filled each record's serial is the number of earlier records, type 3 apart, that name its register,
--                    0 for type 3 and for registers from 24 up
--   serials-turns    the same of the records that a walk by turns gave
--   serials-run      and of those that the calls of any run from a fresh walker gave so far
--   stands-run       (b) after any call of such a run each count is the number of records given that name the register, and each tally the number of the
--                    bank's digests in the bytes of those records
--   within-run       (c) no count and no tally is above the total, so that 14 never comes of them
-- `serial_in`, `how_many`, `handed` and `tally_in` are those of `standing` (specs/Serials.antt, specs/Standing.antt). Assumes nothing.
use Prim.Native.Nat.{ℕ, ◌+◌, ◌*◌, ◌≤◌, ◌<◌}
use mathlib.Core.Path.{◌≡◌, refl, sym, ap, ◌∙◌}
use mathlib.Core.List.{List, [], ◌∷◌, ◌++◌}
use native.Mathlib.Omega.{arith}
use lib.Dec.{ltb}
use lib.ListN.{length, get_or, take, length-take, length-replicate, get_or-replicate}
use Rattle.refusal.specs.declared.Ending.{Ending}
use Rattle.refusal.specs.Limits.{log_most, pairs_most, hold_full}
use Rattle.pieces.specs.Walk.{Told, whole_walk}
use Rattle.pieces.specs.Went.{Went}
use Rattle.pieces.specs.Run.{fed_call, close_call, outcome_of}
use Rattle.pieces.specs.Prompt.{given}
use Rattle.pieces.proofs.RunLaws.{calls_seen-append, calls_seen-told}
use Rattle.pieces.proofs.RunWent.{went-run, run-range}
use Rattle.record.specs.declared.Slot.{Slot}
use Rattle.record.specs.Record.{judge_of, opening_shape}
use Rattle.standing.specs.Serials.{registers, how_many, serial_in}
use Rattle.standing.specs.Standing.{banks, any_above, over_total, none_yet, counted_judge, opening, id_at, handed, tally_in}
use Rattle.standing.proofs.SerialLaws.{numbered-take, numbered-serial}
use Rattle.standing.proofs.StandingLaws.{neither, above-each, none-stands}
use Rattle.standing.proofs.CountedLaws.{went-stood, went-numbered}
use Rattle.walk.specs.declared.Walked.{Walked}
use Rattle.walk.specs.Turn.{opening_cursor}
use Rattle.walk.specs.Fill.{FillSays}
use Rattle.walker.specs.declared.Walker.{Walker}
use Rattle.walker.specs.Walker.{stand_of, walker_of, fresh_walker, wrong}
use Rattle.promises.specs.Runs.{Call, Run, call_of, calls_of}
use Rattle.promises.specs.Turns.{Turns}
use Rattle.promises.proofs.ByTurns.{turns-told}
use Rattle.promises.proofs.Pieces.{feedable, opening-right, at_call}
use Rattle.promises.proofs.Slots.{slots_filled}

-- ---- (a) serials

-- In the slots that a walk filled,
pub serials-filled : (log : List ℕ) (old : List Slot) (r : Walked) (slots : List Slot) → FillSays log old r slots
    → (before : List Slot) (slot : Slot) (after : List Slot) → take r.filled slots ≡ before ++ (slot ∷ after) → slot.serial ≡ serial_in before slot
serials-filled log old r slots says before slot after e =
    let bare = (whole_walk judge_of log_most opening_shape log).records in
    numbered-serial (take (length old) bare) before slot after (numbered-take (length old) [] bare ∙ sym (slots_filled log old r slots says) ∙ e)

-- among the records that turns gave from a log's start on,
pub serials-turns : (log : List ℕ) (rs : List Slot) (e : Ending) → Turns log opening_cursor none_yet.counts none_yet.tallies rs e
    → (before : List Slot) (slot : Slot) (after : List Slot) → rs ≡ before ++ (slot ∷ after) → slot.serial ≡ serial_in before slot
serials-turns log rs e t before slot after q =
    numbered-serial (whole_walk judge_of log_most opening_shape log).records before slot after (ap (λ (x : Told Slot). x.records) (turns-told log rs e t) ∙ q)

-- the walker that a call left, in the terms of `pieces`
left : (c : Call) → (outcome_of (call_of c)).walker ≡ walker_of (outcome_of c).walker
left (fed_call piece hold o) = refl
left (close_call hold o) = refl

module _ (log : List ℕ) (short : length log ≤ log_most) (last : List ℕ) (bs : List Call) (c : Call) (cs : List Call)
    (run : Run log fresh_walker last (bs ++ (c ∷ cs))) where
  -- the walker after the call c, and the records that were given up to it
  abbrev w : Walker
  w = (outcome_of c).walker

  abbrev rs : List Slot
  rs = given (bs ++ (c ∷ []))

  same-given : given (calls_of bs ++ (call_of c ∷ [])) ≡ rs
  same-given =
      ap given (sym (calls_seen-append walker_of bs (c ∷ []))) ∙ ap (λ (t : Told Slot). t.records) (calls_seen-told walker_of (Ending.End 0 0) (bs ++ (c ∷ [])))

  -- the records were read one after the other from a beginning of the log, and led to where the walker stands
  pub came : (m : ℕ) × (m ≤ w.total) × (w.total ≤ length log) × Went counted_judge opening 0 (take m log) rs (stand_of w)
  came =
      rw (left c, same-given) at (went-run counted_judge hold_full log_most wrong feedable opening log last (calls_of bs) (call_of c) (calls_of cs) opening-right short
      (at_call log short last bs c cs run))

  read : (m : ℕ) → length (take m log) ≤ log_most
  read m = omega (arith, short, length-take m log)

  -- and among those that the calls of a run gave.
  pub serials-run : (before : List Slot) (slot : Slot) (after : List Slot) → rs ≡ before ++ (slot ∷ after) → slot.serial ≡ serial_in before slot
  serials-run before slot after e =
      let (m, a, b, went) = came in
      let (bare, same) = went-numbered went [] none-stands (omega (arith, read m)) in
      numbered-serial bare before slot after (sym same ∙ e)

  -- ---- (b) counts and tallies

  pub record StandsSo : Type 0 where
    pub counts : (r : ℕ) → r < registers → get_or w.counts r 0 ≡ how_many r rs
    -- the records were read from the log's first m bytes, and `handed` has them with the digests in their bytes
    pub m : ℕ
    pub went : Went counted_judge opening 0 (take m log) rs (stand_of w)
    pub tallies : (r j : ℕ) → r < registers → j < banks → get_or w.tallies (banks * r + j) 0 ≡ tally_in r (id_at j) (handed went)

  pub stands-run : StandsSo
  unfolding any_above
  stands-run =
      let (m, a, b, went) = came in
      let stood = went-stood went (record { counts = length-replicate {A = ℕ} registers 0; tallies = length-replicate {A = ℕ} (banks * registers) 0 }) refl (omega (arith, read m)) in
      record {
        counts = λ r h. omega (arith, stood.counts r h, get_or-replicate {A = ℕ} registers r 0 0 h);
        m = m;
        went = went;
        tallies = λ r j h i. omega (arith, stood.tallies r j h i, get_or-replicate {A = ℕ} (banks * registers) (banks * r + j) 0 0 (omega (arith, h, i)));
      }

  -- ---- (c) within the total

  pub within-run : (i : ℕ) → (get_or w.counts i 0 ≤ w.total) × (get_or w.tallies i 0 ≤ w.total)
  within-run i =
      let right = rw (left c) at (run-range counted_judge hold_full log_most wrong feedable opening log last (calls_of bs) (call_of c) (calls_of cs) opening-right short
      (at_call log short last bs c cs run)) in
      let (pairs, over) = neither (ltb pairs_most w.shape.pairs.count) (over_total w.total (stand_of w).account) right in
      let (counts, tallies) = neither (any_above w.total w.counts) (any_above w.total w.tallies) over in
      (above-each w.total w.counts counts i, above-each w.total w.tallies tallies i)
