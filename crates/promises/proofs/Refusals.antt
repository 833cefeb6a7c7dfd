-- Every refusal of a walk into slots is explained: each row of document 01's table as an "if and only if", for every log and any number of
-- slots. rs are the records that were handed out, each with its serial (`Numbered`). Where the refusal is of the log itself (2 to 11) they are the longest chain of well-formed
-- records that begins it.
--   refused-too-long (1), refused-cut (2), refused-too-far (3), refused-unknown (4), refused-unsound (those of contents), refused-no-slot (12)
--   longest           no chain of well-formed records that begins the log goes further
--   never-of-feeding  13 and 14 are never answers of a walk
-- Assumes nothing.
use Prim.Native.Nat.{ℕ, ◌≤◌, ◌<◌}
use mathlib.Core.Path.{◌≡◌, sym, ap, ◌∙◌, subst}
use mathlib.Core.List.{List, [], ◌++◌}
use mathlib.Core.Logic.{◌↔◌}
use lib.ListN.{length}
use Rattle.refusal.specs.declared.Why.{Why}
use Rattle.refusal.specs.Limits.{log_most}
use Rattle.refusal.specs.Endings.{refused_with}
use Rattle.refusal.proofs.RefusalLaws.{OfContents}
use Rattle.pieces.specs.Walk.{Told, walk}
use Rattle.record.specs.declared.Shape.{Shape}
use Rattle.record.specs.declared.Slot.{Slot}
use Rattle.record.specs.Record.{judge_of}
use Rattle.walk.specs.declared.Walked.{Walked}
use Rattle.walk.specs.Fill.{FillSays}
use Rattle.walk.specs.Divides.{Begins, Broken, Crowded, MeansBy}
use Rattle.walk.proofs.Means.{begun, stops-walked}
use Rattle.promises.specs.Answers.{Numbered, Filled, Breaks}
use Rattle.promises.proofs.Acceptance.{filled}

module _ (log : List ℕ) (old : List Slot) (r : Walked) (slots : List Slot) (says : FillSays log old r slots) (rs : List Slot) (at : ℕ) where
  abbrev Refused : Why → Type 0
  Refused why = Filled r slots rs (refused_with why at)

  abbrev Broke : Why → Type 0
  Broke why = Numbered (λ bare. Breaks log old bare why at) rs

  -- 1: the log has more than 65,536 bytes. Nothing was looked at, and the offset is 65,536.
  pub refused-too-long : Refused Why.LogTooLong ↔ Numbered (λ bare. (log_most < length log) × (bare ≡ []) × (at ≡ log_most)) rs
  refused-too-long = filled log old r slots says rs (refused_with Why.LogTooLong at)

  -- 2: after rs the fields of a record are whole up to one, not the first, that ends within 32,768 of the record's start and past the log.
  pub refused-cut : Refused Why.FieldCut ↔ Broke Why.FieldCut
  refused-cut = filled log old r slots says rs (refused_with Why.FieldCut at)

  -- 3: they are whole up to one that ends more than 32,768 past the record's start.
  pub refused-too-far : Refused Why.FieldTooFar ↔ Broke Why.FieldTooFar
  refused-too-far = filled log old r slots says rs (refused_with Why.FieldTooFar at)

  -- 4: they are whole up to and with an id that is unknown or undeclared.
  pub refused-unknown : Refused Why.AlgorithmUnknown ↔ Broke Why.AlgorithmUnknown
  refused-unknown = filled log old r slots says rs (refused_with Why.AlgorithmUnknown at)

  -- Those of contents: after rs follows a whole record, and this is what is wrong with its data, and where.
  pub refused-unsound : (why : Why) → OfContents why → Refused why ↔ Broke why
  refused-unsound why h = subst (λ o. Refused why ↔ Numbered (λ bare. MeansBy (length old) log bare o why at) rs) h (filled log old r slots says rs (refused_with why at))

  -- 12: every slot was filled, and after rs another well-formed record starts at the offset.
  pub refused-no-slot : Refused Why.NoSlot ↔ Numbered (λ bare. (length log ≤ log_most) × (length bare ≡ length old) × Crowded log bare at) rs
  refused-no-slot = filled log old r slots says rs (refused_with Why.NoSlot at)

  -- 13 and 14 belong to feeding.
  pub never-of-feeding : (Refused Why.TotalTooLong → ⊥) × (Refused Why.OutOfRange → ⊥)
  never-of-feeding =
      (λ f. ((filled log old r slots says rs (refused_with Why.TotalTooLong at)).0 f).2, λ f. ((filled log old r slots says rs (refused_with Why.OutOfRange at)).0 f).2)

-- Of a log that is refused for itself the records handed out are the longest chain that begins it.
pub longest : (log : List ℕ) (old : List Slot) (r : Walked) (slots : List Slot) → FillSays log old r slots → (rs : List Slot) (why : Why) (at : ℕ)
    → Broken log rs why at → (rs' : List Slot) (front rest : List ℕ) (last : Shape) → Begins log rs' front rest last → (later : List Slot) × (rs ≡ rs' ++ later)
longest log old r slots says rs why at b rs' front rest last d =
    let is = says.2 in
    let walked = stops-walked log is 0 b.front b.rest rs b.last (refused_with why at) b.begins.whole b.begins.chain b.refuses in (
      (walk judge_of last (length front) rest).records,
      ap (λ (t : Told Slot). t.records) (sym walked ∙ begun log is 0 front rest rs' last d.whole d.chain),
    )
