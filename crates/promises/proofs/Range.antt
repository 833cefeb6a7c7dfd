-- The tests of a feed and a close, with document 01's own numbers ("When the walk says no", 13 and 14; "Test 14 first, then whether the
-- walker is finished, then 13"), of every walker, made up or not, and every hold and piece.
--   Ranged                   what test 14 asks, one by one
--   feed-14, close-14        where one of these fails: 14 at 0, whatever the walker keeps; nothing is taken and nothing changes
--   feed-kept, close-kept    else an answer that is kept is repeated
--   feed-13                  else a piece that would carry the total past 65,536 is refused with 13 at the total, and nothing changes
--   feed-open, close_open    else neither is said
-- Assumes nothing.
use Rattle.std.specs.Prelude.{Some, None}
use Prim.Native.Nat.{ℕ, zero, suc, ◌+◌, ◌≤◌, ◌<◌}
use mathlib.Core.Path.{◌≡◌, refl, sym, ap}
use mathlib.Core.Bool.{true}
use mathlib.Core.Logic.{◌⊎◌, inl, inr}
use mathlib.Core.List.{List}
use lib.Dec.{ltb}
use lib.ListN.{length, get_or}
use borrow.Author.Tests.{ltb-false, le-ltb}
use Rattle.numbers.proofs.ByCases.{test, never}
use Rattle.refusal.specs.declared.Ending.{Ending}
use Rattle.refusal.specs.declared.Refusal.{Refusal}
use Rattle.refusal.specs.declared.Why.{Why}
use Rattle.refusal.specs.Limits.{log_most, hold_full}
use Rattle.refusal.specs.Refusals.{Work, Origin, origin_of}
use Rattle.pieces.specs.Verdict.{Verdict, more, sound, refused}
use Rattle.pieces.specs.Account.{With}
use Rattle.pieces.specs.Feed.{Answer, stops, Outcome, fed, closed}
use Rattle.pieces.specs.Feed as F
use Rattle.pieces.proofs.FeedLaws as L
use Rattle.record.specs.declared.Shape.{Shape}
use Rattle.record.specs.declared.Slot.{Slot}
use Rattle.standing.specs.Standing.{Standing, any_above, over_total, counted_judge}
use Rattle.standing.proofs.StandingLaws.{neither, above-each, above-none}
use Rattle.standing.proofs.CountedLaws.{counted-why}
use Rattle.walker.specs.declared.Walker.{Walker}
use Rattle.walker.specs.Walker.{stand_of, walker_of, wrong, out_of_range, feed_to, close_to}

pub record Ranged (w : Walker) (hold : List ℕ) : Type 0 where
  pub full : 32768 ≤ length hold
  pub held : w.held ≤ 32768
  pub total : w.total ≤ 65536
  pub order : w.held ≤ w.total
  pub pairs : w.shape.pairs.count ≤ 16
  -- each count, and each tally
  pub counts : (i : ℕ) → get_or w.counts i 0 ≤ w.total
  pub tallies : (i : ℕ) → get_or w.tallies i 0 ≤ w.total

-- an ending is said, nothing is taken and nothing changes
abbrev pub Still : Walker → List ℕ → Ending → Outcome (F.Walker (With Shape Standing)) Slot → Type 0
Still w hold e o = o ≡ record { answer = stops e; count = 0; walker = walker_of w; hold = hold }

abbrev pub refusal : Why → ℕ → Ending
refusal why at = Ending.Refused (record { why = why; at = at })

-- a refusal that is neither 13 nor 14
abbrev pub Other : Why → Type 0
Other why = (why ≡ Why.TotalTooLong → ⊥) × (why ≡ Why.OutOfRange → ⊥)

no-work : (o : Origin) → (o ≡ Origin.reach) ⊎ (o ≡ Origin.id) ⊎ (o ≡ Origin.contents) → o ≡ Origin.work Work.feeding → ⊥
no-work o (inl h) e = never cc
no-work o (inr (inl h)) e = never cc
no-work o (inr (inr h)) e = never cc

-- what a judge refuses with
judged : (st : With Shape Standing) (base : ℕ) (p : List ℕ) (r : Refusal) → counted_judge st base p ≡ refused r → Other r.why
judged st base p r e =
    let h = counted-why st base p r e in (λ x. no-work (origin_of r.why) h (ap origin_of x), λ x. no-work (origin_of r.why) h (ap origin_of x))

same-why : (r : Refusal) (why : Why) (at : ℕ) → ◌≡◌ {A = Answer Slot} (stops (Ending.Refused r)) (stops (refusal why at)) → Other r.why → Other why
same-why r why at e h = let g : r ≡ record { why = why; at = at } = cc in rw (sym (ap (λ (q : Refusal). q.why) g)) h

module _ (w : F.Walker (With Shape Standing)) (hold : List ℕ) where
  fed-other : (n : ℕ) (v : Verdict (With Shape Standing) Slot) → ((r : Refusal) → v ≡ refused r → Other r.why)
      → (why : Why) (at : ℕ) → (fed w hold n v).answer ≡ stops (refusal why at) → Other why
  fed-other n (more s t) h why at e = never cc
  fed-other n (sound slot m next) h why at e = never cc
  fed-other n (refused r) h why at e = same-why r why at e (h r refl)

  closed-other : (p : List ℕ) (v : Verdict (With Shape Standing) Slot) → ((r : Refusal) → v ≡ refused r → Other r.why)
      → (why : Why) (at : ℕ) → (closed w hold p v).answer ≡ stops (refusal why at) → Other why
  closed-other p (more zero t) h why at e = never cc
  closed-other p (more (suc s) t) h why at e = same-why _ why at e (λ x. never cc, λ x. never cc)
  closed-other p (sound slot m next) h why at e = never cc
  closed-other p (refused r) h why at e = same-why r why at e (h r refl)

module _ (w : Walker) (hold : List ℕ) where
  in_range : Ranged w hold → L.InRange hold_full log_most wrong (walker_of w) hold
  in_range r =
      record {
        size = r.full;
        fits = r.held;
        within = r.total;
        order = r.order;
        right = rw (le-ltb 16 w.shape.pairs.count r.pairs, above-none w.total w.counts r.counts, above-none w.total w.tallies r.tallies);
      }

  ranged : L.InRange hold_full log_most wrong (walker_of w) hold → Ranged w hold
  ranged i =
      let (pairs, over) = neither (ltb 16 w.shape.pairs.count) (over_total w.total (stand_of w).account) i.right in
      let (counts, tallies) = neither (any_above w.total w.counts) (any_above w.total w.tallies) over in
      record {
        full = i.size;
        held = i.fits;
        total = i.within;
        order = i.order;
        pairs = ltb-false 16 w.shape.pairs.count pairs;
        counts = above-each w.total w.counts counts;
        tallies = above-each w.total w.tallies tallies;
      }

  out : (Ranged w hold → ⊥) → out_of_range w hold ≡ true
  out bad = test (out_of_range w hold) (λ t. t) (λ t. absurd (bad (ranged (L.passed-range counted_judge hold_full log_most wrong (walker_of w) hold t))))

  pub feed-14 : (piece : List ℕ) → (Ranged w hold → ⊥) → Still w hold (refusal Why.OutOfRange 0) (feed_to w hold piece)
  unfolding feed_to
  feed-14 piece bad = L.feed-out counted_judge hold_full log_most wrong (walker_of w) hold piece (out bad)

  pub close-14 : (Ranged w hold → ⊥) → Still w hold (refusal Why.OutOfRange 0) (close_to w hold)
  unfolding close_to
  close-14 bad = L.close-out counted_judge hold_full log_most wrong (walker_of w) hold (out bad)

  module _ (r : Ranged w hold) where
    pub feed-kept : (piece : List ℕ) (e : Ending) → w.kept ≡ Some e → Still w hold e (feed_to w hold piece)
    unfolding feed_to
    feed-kept piece e k = L.feed-kept counted_judge hold_full log_most wrong (walker_of w) hold (in_range r) piece e k

    pub close-kept : (e : Ending) → w.kept ≡ Some e → Still w hold e (close_to w hold)
    unfolding close_to
    close-kept e k = L.close-kept counted_judge hold_full log_most wrong (walker_of w) hold (in_range r) e k

    pub feed-13 : (piece : List ℕ) → w.kept ≡ None → 65536 < w.total + length piece
        → Still w hold (refusal Why.TotalTooLong w.total) (feed_to w hold piece)
    unfolding feed_to
    feed-13 piece k l = L.feed-long counted_judge hold_full log_most wrong (walker_of w) hold (in_range r) piece k l

    pub feed-open : (piece : List ℕ) → w.kept ≡ None → w.total + length piece ≤ 65536
        → (why : Why) (at : ℕ) → (feed_to w hold piece).answer ≡ stops (refusal why at) → Other why
    unfolding feed_to
    feed-open piece k l why at =
        rw (L.feed-passed counted_judge hold_full log_most wrong (walker_of w) hold (in_range r) piece k l) (fed-other (walker_of w) _ _ _ (judged _ _ _) why at)

    pub close_open : w.kept ≡ None → (why : Why) (at : ℕ) → (close_to w hold).answer ≡ stops (refusal why at) → Other why
    unfolding close_to
    close_open k why at =
        rw (L.close_passed counted_judge hold_full log_most wrong (walker_of w) hold (in_range r) k) (closed-other (walker_of w) hold _ _ (judged _ _ _) why at)
