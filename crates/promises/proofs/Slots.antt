-- What a walk over lent slots leaves in them, on acceptance and on every refusal. `FillSays log old r slots` is the promise of the
-- code: r is what a walk of the log over the slots `old` answers, and `slots` are the slots after it.
--   slots_filled    the first slots hold the first records of the log
--   slots_kept      the others keep their values
-- Assumes nothing.
use Prim.Native.Nat.{ℕ, ◌≤◌}
use mathlib.Core.Path.{◌≡◌, sym, ap, ◌∙◌}
use mathlib.Core.List.{List, []}
use native.Mathlib.Omega.{arith}
use lib.ListN.{length, take, drop, length-append, length-take, length-drop}
use lib.Seq.{take-append_seam, drop-append_seam}
use Rattle.refusal.specs.Limits.{log_most}
use Rattle.pieces.specs.Walk.{Told, whole_walk}
use Rattle.pieces.specs.Slots.{into}
use Rattle.pieces.proofs.SlotLaws.{fit-records}
use Rattle.record.specs.declared.Slot.{Slot}
use Rattle.record.specs.Record.{judge_of, opening_shape}
use Rattle.walk.specs.declared.Walked.{Walked}
use Rattle.standing.specs.Serials.{numbered}
use Rattle.standing.proofs.SerialLaws.{numbered-take}
use Rattle.walk.specs.Fill.{bare_into, told_into, FillSays}
use Rattle.promises.specs.Answers.{records_of}

-- k slots take the first k of them
told-records : (k : ℕ) (log : List ℕ) → (told_into k log).records ≡ take k (records_of log)
unfolding told_into bare_into into
told-records k log =
    let t = whole_walk judge_of log_most opening_shape log in
    ap (numbered []) (fit-records (λ slot. slot.start) k t.records t.ending) ∙ numbered-take k [] t.records

module _ (log : List ℕ) (old : List Slot) (r : Walked) (slots : List Slot) (says : FillSays log old r slots) where
  abbrev t : Told Slot
  t = told_into (length old) log

  count : r.filled ≡ length t.records
  count = ap (λ w. w.filled) says.0

  -- The slots that were filled hold the first records of the log, as many as there are slots for.
  pub slots_filled : take r.filled slots ≡ take (length old) (records_of log)
  slots_filled =
      ap (λ n. take n slots) count ∙ ap (take (length t.records)) says.1 ∙ take-append_seam t.records _ ∙ told-records (length old) log

  filled_within : r.filled ≤ length old
  filled_within = omega (arith, count, ap length (told-records (length old) log), length-take (length old) (records_of log))

  -- The others are as they were, and there are as many slots as before.
  pub slots_kept : (drop r.filled slots ≡ drop r.filled old) × (r.filled ≤ length old) × (length slots ≡ length old)
  slots_kept = (
    ap (λ n. drop n slots) count ∙ ap (drop (length t.records)) says.1 ∙ drop-append_seam t.records _ ∙ ap (λ n. drop n old) (sym count),
    filled_within,
    ap length says.1 ∙ omega (arith, length-append t.records (drop (length t.records) old), length-drop (length t.records) old, count, filled_within),
  )
