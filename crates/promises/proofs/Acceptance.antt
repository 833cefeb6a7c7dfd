-- Demand 2: a log is accepted exactly when it is well formed, and its division is the only one.
-- `FillSays log old r slots` is the promise of the code (`fill` of `walk`, and `fill_table` of `by_value`, of the first slots of its table): r is what a walk
-- of the log over the slots `old` answers, `slots` are the slots after it, and the log is bytes, as every slice of u8 is.
--   filled            what r and the slots say of the log, whatever the ending
--   accepted          acceptance, for every log and any number of slots
--   only-division     two divisions of one log are the same
-- Assumes nothing.
use Prim.Native.Nat.{ℕ, ◌≤◌}
use mathlib.Core.Path.{◌≡◌, sym, ap, ◌∙◌}
use mathlib.Core.List.{List}
use mathlib.Core.Logic.{◌↔◌}
use lib.ListN.{length, take}
use lib.Seq.{take-append_seam}
use Rattle.refusal.specs.declared.Ending.{Ending}
use Rattle.refusal.specs.Limits.{log_most}
use Rattle.pieces.specs.Walk.{Told, walk}
use Rattle.record.specs.declared.Slot.{Slot}
use Rattle.record.specs.Record.{judge_of, opening_shape}
use Rattle.standing.specs.Serials.{numbered_told}
use Rattle.walk.specs.declared.Walked.{Walked}
use Rattle.walk.specs.Fill.{walked_of, bare_into, told_into, walked_by, slots_by, FillSays}
use Rattle.walk.specs.Divides.{Divides, Means}
use Rattle.promises.specs.Answers.{Numbered, Filled}
use Rattle.walk.proofs.Means.{told, stops-walked, means}

module _ (log : List ℕ) (old : List Slot) (r : Walked) (slots : List Slot) (says : FillSays log old r slots) where
  filled-told : (rs : List Slot) (e : Ending) → Filled r slots rs e → told_into (length old) log ≡ told rs e
  filled-told rs e (w, s) =
      let t = told_into (length old) log in
      let same : walked_by t ≡ walked_of (length rs) e = sym says.0 ∙ w in
      let n : length t.records ≡ length rs = ap (λ x. x.filled) same in
      let f : t.ending ≡ e = ap (λ x. x.ending) same in
      let l : t.records ≡ rs = sym (take-append_seam t.records _) ∙ ap (λ m. take m (slots_by t old)) n ∙ ap (take (length rs)) (sym says.1) ∙ s in
      ap (λ x. told x t.ending) l ∙ ap (told rs) f

  -- what the walk into slots tells is what the answer and the slots say
  pub told-filled : (rs : List Slot) (e : Ending) → told_into (length old) log ≡ told rs e → Filled r slots rs e
  told-filled rs e q =
      (says.0 ∙ ap walked_by q, ap (take (length rs)) (says.1 ∙ ap (λ t. slots_by t old) q) ∙ take-append_seam rs _)

  -- what the walk tells without the serials is what the log is
  meant : (rs : List Slot) (e : Ending) → (told_into (length old) log ≡ told rs e) ↔ Numbered (λ bare. Means (length old) log bare e) rs
  unfolding told_into
  meant rs e = (to, back)
    where
      to : told_into (length old) log ≡ told rs e → Numbered (λ bare. Means (length old) log bare e) rs
      to q =
          let bare = bare_into (length old) log in
          let same : bare_into (length old) log ≡ told bare.records e = ap (told bare.records) (ap (λ (t : Told Slot). t.ending) q) in
          (bare.records, sym (ap (λ (t : Told Slot). t.records) q), (means log says.2 (length old) bare.records e).0 same)

      back : Numbered (λ bare. Means (length old) log bare e) rs → told_into (length old) log ≡ told rs e
      back (bare, same, m) = ap numbered_told ((means log says.2 (length old) bare e).1 m) ∙ ap (λ l. told l e) (sym same)

  -- The walk fills the first slots with these records and ends so exactly where that is what the log is, and the serials are theirs.
  pub filled : (rs : List Slot) (e : Ending) → Filled r slots rs e ↔ Numbered (λ bare. Means (length old) log bare e) rs
  filled rs e = (λ f. (meant rs e).0 (filled-told rs e f), λ m. told-filled rs e ((meant rs e).1 m))

  -- ACCEPTANCE. The walk ends at `at` with a tail, and the slots hold these records, if and only if the log has at most 65,536 bytes, there
  -- are slots enough, and the log is these well-formed records up to `at` and then so many bytes, at most three; each record has its serial.
  pub accepted : (rs : List Slot) (at tail : ℕ)
      → ((r ≡ walked_of (length rs) (Ending.End at tail)) × (take (length rs) slots ≡ rs))
      ↔ Numbered (λ bare. (length log ≤ log_most) × (length bare ≤ length old) × Divides log bare at tail) rs
  accepted rs at tail = filled rs (Ending.End at tail)

  -- a division is what the walk tells
  divided : (rs : List Slot) (at tail : ℕ) → Divides log rs at tail → walk judge_of opening_shape 0 log ≡ told rs (Ending.End at tail)
  divided rs at tail d =
      stops-walked log says.2 0 d.front d.rest rs d.last (Ending.End at tail) d.begins.whole d.begins.chain (d.ends, d.over, d.few)

  -- THE ONLY DIVISION. A log, of any length, has at most one division.
  pub only-division : (rs rs' : List Slot) (at at' tail tail' : ℕ) → Divides log rs at tail → Divides log rs' at' tail'
      → (rs ≡ rs') × (at ≡ at') × (tail ≡ tail')
  only-division rs rs' at at' tail tail' d d' =
      let same : told rs (Ending.End at tail) ≡ told rs' (Ending.End at' tail') = sym (divided rs at tail d) ∙ divided rs' at' tail' d' in
      let e : Ending.End at tail ≡ Ending.End at' tail' = ap (λ (t : Told Slot). t.ending) same in
      let a : at ≡ at' = cc in
      let t : tail ≡ tail' = cc in
      (ap (λ (t : Told Slot). t.records) same, a, t)
