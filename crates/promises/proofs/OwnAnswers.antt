-- What a feed and a close say of their own, that is, where the walker keeps no answer (document 01, "feeds, having no slots, never answer 1 or
-- 12"): for every walker, made up or not, and every hold and piece.
--   feed-own    `OfFeed` (specs/Answers.antt): a feed wants more, gives a record, or refuses with 3 to 11, 13 or 14; it never gives the end
--   close-own   `OfClose`: a close gives a record or the end, or refuses with 2 to 11 or 14; it never wants more
--   feed-never, close_never   what these leave out, by name
-- Assumes nothing.
use Rattle.std.specs.Prelude.{None}
use Prim.Native.Nat.{ℕ, zero, suc, ◌+◌}
use mathlib.Core.Path.{◌≡◌, refl}
use mathlib.Core.Logic.{◌⊎◌, inl, inr, ⊎_elim}
use mathlib.Core.List.{List}
use lib.ListN.{length}
use Rattle.numbers.proofs.ByCases.{split, test, never}
use Rattle.refusal.specs.declared.Ending.{Ending}
use Rattle.refusal.specs.declared.Refusal.{Refusal}
use Rattle.refusal.specs.declared.Why.{Why}
use Rattle.refusal.specs.Endings.{refused_with}
use Rattle.refusal.specs.Refusals.{Origin}
use Rattle.refusal.specs.Limits.{log_most, hold_full}
use Rattle.pieces.specs.Verdict.{Verdict, more, sound, refused}
use Rattle.pieces.specs.Account.{With}
use Rattle.pieces.specs.Feed.{Outcome, out_of_range, feed_of, close_of, fed, closed}
use Rattle.pieces.specs.Feed as F
use Rattle.pieces.proofs.FeedLaws.{passed-range, feed-out, feed-long, feed-passed, close-out, close_passed}
use Rattle.record.specs.declared.Shape.{Shape}
use Rattle.record.specs.declared.Slot.{Slot}
use Rattle.standing.specs.Standing.{Standing, counted_judge}
use Rattle.standing.proofs.CountedLaws.{counted-why}
use Rattle.record.specs.Met.{OfRecord}
use Rattle.walker.specs.declared.Answer.{Answer}
use Rattle.walker.specs.declared.Reply.{Reply}
use Rattle.walker.specs.declared.Walker.{Walker}
use Rattle.walker.specs.Walker.{walker_of, answer_by, wrong, feed_to, close_to, FeedSays, CloseSays}
use Rattle.promises.specs.Answers.{OfFeed, OfClose}

abbrev answered : Outcome (F.Walker (With Shape Standing)) Slot → Answer
answered o = answer_by o.answer

-- what a judge refuses is of a record
abbrev Refusing : Verdict (With Shape Standing) Slot → Type 0
Refusing v = (r : Refusal) → v ≡ refused r → OfRecord r.why

module _ (w : F.Walker (With Shape Standing)) (hold : List ℕ) where
  fed-own : (hold' : List ℕ) (n : ℕ) (v : Verdict (With Shape Standing) Slot) → Refusing v → OfFeed (answered (fed w hold' n v))
  fed-own hold' n (more s e) h = tt
  fed-own hold' n (sound slot m next) h = tt
  fed-own hold' n (refused r) h = inl (h r refl)

  closed-own : (p : List ℕ) (v : Verdict (With Shape Standing) Slot) → Refusing v → OfClose (answered (closed w hold p v))
  closed-own p (more zero e) h = tt
  closed-own p (more (suc s) e) h = inr (inl refl)
  closed-own p (sound slot m next) h = tt
  closed-own p (refused r) h = inl (h r refl)

  module _ (k : w.kept ≡ None) where
    feeds : (piece : List ℕ) → OfFeed (answered (feed_of counted_judge hold_full log_most wrong w hold piece))
    feeds piece = test (out_of_range counted_judge hold_full log_most wrong w hold)
        (λ out. rw (feed-out counted_judge hold_full log_most wrong w hold piece out) (inr refl))
        (λ passed. let i = passed-range counted_judge hold_full log_most wrong w hold passed in
        split (w.total + length piece) log_most
        (λ fits. rw (feed-passed counted_judge hold_full log_most wrong w hold i piece k fits) (fed-own _ _ _ (counted-why _ _ _)))
        (λ long. rw (feed-long counted_judge hold_full log_most wrong w hold i piece k long) (inr refl)))

    closes : OfClose (answered (close_of counted_judge hold_full log_most wrong w hold))
    closes = test (out_of_range counted_judge hold_full log_most wrong w hold)
        (λ out. rw (close-out counted_judge hold_full log_most wrong w hold out) (inr (inr refl)))
        (λ passed. rw (close_passed counted_judge hold_full log_most wrong w hold (passed-range counted_judge hold_full log_most wrong w hold passed) k)
        (closed-own _ _ (counted-why _ _ _)))

pub feed-own : (w : Walker) (hold piece : List ℕ) (reply : Reply) (w' : Walker) (hold' : List ℕ) → FeedSays w hold piece reply w' hold' → w.kept ≡ None
    → OfFeed reply.answer
unfolding feed_to
feed-own w hold piece reply w' hold' says k = rw says.0 (feeds (walker_of w) hold k piece)

pub close-own : (w : Walker) (hold : List ℕ) (reply : Reply) (w' : Walker) → CloseSays w hold reply w' → w.kept ≡ None → OfClose reply.answer
unfolding close_to
close-own w hold reply w' says k = rw says.0 (closes (walker_of w) hold k)

-- ---- what that leaves out, by name

abbrev refusing : Why → ℕ → Answer
refusing why at = Answer.Stop (refused_with why at)

-- an origin that is none of a record's
apart : {o : Origin} → (o ≡ Origin.reach) ⊎ (o ≡ Origin.id) ⊎ (o ≡ Origin.contents) → (o ≡ Origin.reach → ⊥) → (o ≡ Origin.id → ⊥) → (o ≡ Origin.contents → ⊥) → ⊥
apart (inl e) a b c = a e
apart (inr (inl e)) a b c = b e
apart (inr (inr e)) a b c = c e

not-long : OfRecord Why.LogTooLong → ⊥
not-long h = apart h (λ e. never cc) (λ e. never cc) (λ e. never cc)

not-slots : OfRecord Why.NoSlot → ⊥
not-slots h = apart h (λ e. never cc) (λ e. never cc) (λ e. never cc)

-- No feed gives the end, 1, 2 or 12 of its own,
pub feed-never : (at tail : ℕ) → (OfFeed (Answer.Stop (Ending.End at tail)) → ⊥) × (OfFeed (refusing Why.LogTooLong at) → ⊥)
    × (OfFeed (refusing Why.FieldCut at) → ⊥) × (OfFeed (refusing Why.NoSlot at) → ⊥)
feed-never at tail = (
  λ h. h,
  λ h. ⊎_elim not-long (λ e. never cc) h,
  λ h. ⊎_elim (λ (x : OfRecord Why.FieldCut). apart x (λ e. never cc) (λ e. never cc) (λ e. never cc)) (λ e. never cc) h,
  λ h. ⊎_elim not-slots (λ e. never cc) h,
)

-- and no close wants more, or gives 1, 12 or 13.
pub close_never : (at : ℕ) → (OfClose Answer.More → ⊥) × (OfClose (refusing Why.LogTooLong at) → ⊥) × (OfClose (refusing Why.NoSlot at) → ⊥)
    × (OfClose (refusing Why.TotalTooLong at) → ⊥)
close_never at = (
  λ h. h,
  λ h. ⊎_elim not-long (λ k. ⊎_elim (λ e. never cc) (λ e. never cc) k) h,
  λ h. ⊎_elim not-slots (λ k. ⊎_elim (λ e. never cc) (λ e. never cc) k) h,
  λ h. ⊎_elim (λ (x : OfRecord Why.TotalTooLong). apart x (λ e. never cc) (λ e. never cc) (λ e. never cc)) (λ k. ⊎_elim (λ e. never cc) (λ e. never cc) k) h,
)
