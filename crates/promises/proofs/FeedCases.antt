-- Feeds and closes written out: what is said, the walker then and the hold then, over any hold of full size. The bytes that a walker holds
-- start at 100 of the log. Assumes nothing.
use Rattle.std.specs.Prelude.{Option, Some, None}
use Prim.Native.Nat.{ℕ, ◌-◌, ◌≤◌}
use mathlib.Core.Path.{◌≡◌, refl, sym, ap}
use mathlib.Core.Bool.{false}
use mathlib.Core.List.{List, [], ◌∷◌, ◌++◌}
use native.Mathlib.Omega.{arith}
use lib.ListN.{length, take, drop, set, replicate}
use lib.Seq.{paste}
use Rattle.numbers.specs.Number.{bytes_of}
use borrow.Author.Tests.{le-ltb}
use Rattle.refusal.specs.declared.Ending.{Ending}
use Rattle.refusal.specs.declared.Why.{Why}
use Rattle.refusal.specs.Limits.{log_most, pairs_most, hold_full}
use Rattle.refusal.specs.Endings.{refused_with}
use Rattle.spec_id.specs.Sound.{table_with}
use Rattle.contents.specs.declared.Contents.{Contents}
use Rattle.contents.specs.declared.Separated.{Separated}
use Rattle.pieces.specs.Taken.{taken}
use Rattle.pieces.specs.Verdict.{Verdict}
use Rattle.pieces.specs.Account.{With}
use Rattle.pieces.specs.Feed.{Outcome, fed, closed}
use Rattle.pieces.specs.Feed as F
use Rattle.pieces.proofs.FeedLaws.{InRange, feed-passed, close_passed}
use Rattle.record.specs.declared.Kind.{Kind}
use Rattle.record.specs.declared.Shape.{Shape}
use Rattle.record.specs.declared.Slot.{Slot}
use Rattle.record.specs.Record.{shape_of}
use Rattle.standing.specs.Standing.{Standing, none_yet, any_above, over_total, counted_judge}
use Rattle.walk.proofs.Cases.{computing as walk_computing}
use Rattle.walker.specs.declared.Answer.{Answer}
use Rattle.walker.specs.declared.Reply.{Reply}
use Rattle.walker.specs.declared.Walker.{Walker}
use Rattle.walker.specs.Walker.{stand_of, walker_of, walker_by, reply_by, fresh_walker, wrong, feed_to, close_to, FeedSays, CloseSays}
use Rattle.promises.specs.Bench.{doubled, agile}
use Rattle.promises.proofs.Range.{feed-14}

-- what comes next, behind or before a first record
abbrev next : Kind → Shape
next kind = shape_of kind (table_with [])

-- n records of register 0 and as many SHA-1 digests were counted
abbrev pub walker : ℕ → ℕ → Kind → Option Ending → ℕ → Walker
walker held total kind kept n =
    record {
      held = held;
      total = total;
      shape = next kind;
      kept = kept;
      counts = set none_yet.counts 0 n;
      tallies = set none_yet.tallies 0 n;
    }

abbrev reply : Answer → ℕ → Reply
reply answer count = record { answer = answer; count = count }

-- the listing's record: 4 bytes, and 32 more
abbrev front : List ℕ
front = 0 ∷ 0 ∷ 0 ∷ 0 ∷ []

abbrev rest : List ℕ
rest = bytes_of 4 4 ++ replicate 20 0 ++ bytes_of 4 4 ++ replicate 4 0

-- its slot: where it starts, where its digest lies, where its data do, and its serial
abbrev pub slot_at : ℕ → ℕ → ℕ → ℕ → Slot
slot_at start place at serial =
    record { start = start; register = 0; event = 4; digest_place = place; digests = 1; serial = serial; «data» = record { at = at; len = 4 }; contents = Contents.Separator Separated.Uefi }

-- the first 32 bytes of a record whose data would end too far
abbrev far : List ℕ
far = replicate 28 0 ++ (0xFF ∷ 0xFF ∷ 0xFF ∷ 0xFF ∷ [])

fresh-walker : fresh_walker ≡ walker 0 0 Kind.First None 0
fresh-walker = refl

-- what a feed and a close say once they pass the tests; the numbers of the walkers below are small
module _ (w : Walker) (h : List ℕ) (full : 32768 ≤ length h) (order : w.held ≤ w.total) (small : w.total ≤ 200) (pairs : w.shape.pairs.count ≤ pairs_most)
    (unkept : w.kept ≡ None) (few : over_total w.total (stand_of w).account ≡ false) where
  abbrev look : List ℕ → Verdict (With Shape Standing) Slot
  look = counted_judge (stand_of w) (w.total - w.held)

  ranged : InRange hold_full log_most wrong (walker_of w) h
  ranged = record { size = full; fits = omega (arith, order, small); within = omega (arith, small); order = order; right = rw (le-ltb pairs_most w.shape.pairs.count pairs) few }

  pub feed-says : (piece : List ℕ) → length piece ≤ 200
      → let n : ℕ = taken look (take w.held h) piece in
      let o : Outcome (F.Walker (With Shape Standing)) Slot = fed (walker_of w) (paste h w.held piece n) n (look (take w.held h ++ take n piece)) in
      FeedSays w h piece (reply_by o) (walker_by o.walker) o.hold
  unfolding feed_to
  feed-says piece short =
      let e = sym (feed-passed counted_judge hold_full log_most wrong (walker_of w) h ranged piece unkept (omega (arith, small, short))) in
      (ap reply_by e, ap (λ o. walker_by o.walker) e, ap (λ o. o.hold) e)

  pub close-says : let o : Outcome (F.Walker (With Shape Standing)) Slot = closed (walker_of w) h (take w.held h) (look (take w.held h)) in
      CloseSays w h (reply_by o) (walker_by o.walker)
  unfolding close_to
  close-says =
      let e = sym (close_passed counted_judge hold_full log_most wrong (walker_of w) h ranged unkept) in
      (ap reply_by e, ap (λ o. walker_by o.walker) e)

-- ---- a walker that has had nothing

module _ (h : List ℕ) (full : 32768 ≤ length h) where
  -- the record, and what is left of the piece is not taken
  record-fed : FeedSays (walker 0 0 Kind.First None 0) h (front ++ rest ++ (7 ∷ 8 ∷ []))
      (reply (Answer.Record (slot_at 0 8 32 0)) 36) (walker 0 36 Kind.Sha1 None 1) (front ++ rest ++ drop 36 h)
  unfolding walk_computing taken any_above
  record-fed = feed-says (walker 0 0 Kind.First None 0) h full (omega arith) (omega arith) (omega arith) refl refl (front ++ rest ++ (7 ∷ 8 ∷ [])) (omega arith)

  -- 3 with the size's last byte
  refusal-fed : FeedSays (walker 0 0 Kind.First None 0) h (far ++ (7 ∷ 8 ∷ []))
      (reply (Answer.Stop (refused_with Why.FieldTooFar 32)) 32) (walker 32 32 Kind.First (Some (refused_with Why.FieldTooFar 32)) 0) (far ++ drop 32 h)
  unfolding walk_computing taken any_above
  refusal-fed = feed-says (walker 0 0 Kind.First None 0) h full (omega arith) (omega arith) (omega arith) refl refl (far ++ (7 ∷ 8 ∷ [])) (omega arith)

  -- no record yet: all is taken
  part-fed : FeedSays (walker 0 0 Kind.First None 0) h front (reply Answer.More 4) (walker 4 4 Kind.First None 0) (front ++ drop 4 h)
  unfolding walk_computing taken any_above
  part-fed = feed-says (walker 0 0 Kind.First None 0) h full (omega arith) (omega arith) (omega arith) refl refl front (omega arith)

-- ---- a walker that holds bytes from 100 on; h stands behind them in the hold

module _ (h : List ℕ) (full : 32768 ≤ length h) where
  rest-fed : FeedSays (walker 4 104 Kind.Sha1 None 0) (front ++ h) (rest ++ (7 ∷ 8 ∷ []))
      (reply (Answer.Record (slot_at 100 108 132 0)) 32) (walker 0 136 Kind.Sha1 None 1) (front ++ rest ++ drop 32 h)
  unfolding walk_computing taken any_above
  rest-fed = feed-says (walker 4 104 Kind.Sha1 None 0) (front ++ h) (omega (arith, full)) (omega arith) (omega arith) (omega arith) refl refl (rest ++ (7 ∷ 8 ∷ [])) (omega arith)

  -- held bytes that are a record already, and two more: 0 is taken, at a feed and at a close
  held-record-fed : FeedSays (walker 38 138 Kind.Sha1 None 0) (front ++ rest ++ (7 ∷ 8 ∷ h)) (9 ∷ [])
      (reply (Answer.Record (slot_at 100 108 132 0)) 0) (walker 0 138 Kind.Sha1 None 1) (front ++ rest ++ (7 ∷ 8 ∷ h))
  unfolding walk_computing taken any_above
  held-record-fed = feed-says (walker 38 138 Kind.Sha1 None 0) (front ++ rest ++ (7 ∷ 8 ∷ h)) (omega (arith, full)) (omega arith) (omega arith) (omega arith) refl refl (9 ∷ []) (omega arith)

  held-record-closed : CloseSays (walker 38 138 Kind.Sha1 None 0) (front ++ rest ++ (7 ∷ 8 ∷ h))
      (reply (Answer.Record (slot_at 100 108 132 0)) 0) (walker 0 138 Kind.Sha1 None 1)
  unfolding walk_computing any_above
  held-record-closed = close-says (walker 38 138 Kind.Sha1 None 0) (front ++ rest ++ (7 ∷ 8 ∷ h)) (omega (arith, full)) (omega arith) (omega arith) (omega arith) refl refl

  held-refusal-closed : CloseSays (walker 33 133 Kind.Sha1 None 0) (far ++ (7 ∷ h))
      (reply (Answer.Stop (refused_with Why.FieldTooFar 132)) 0) (walker 33 133 Kind.Sha1 (Some (refused_with Why.FieldTooFar 132)) 0)
  unfolding walk_computing any_above
  held-refusal-closed = close-says (walker 33 133 Kind.Sha1 None 0) (far ++ (7 ∷ h)) (omega (arith, full)) (omega arith) (omega arith) (omega arith) refl refl

  -- three bytes are the tail; of four the second field is cut
  tail-closed : CloseSays (walker 3 103 Kind.Sha1 None 0) (0 ∷ 0 ∷ 0 ∷ h)
      (reply (Answer.Stop (Ending.End 100 3)) 0) (walker 3 103 Kind.Sha1 (Some (Ending.End 100 3)) 0)
  unfolding walk_computing any_above
  tail-closed = close-says (walker 3 103 Kind.Sha1 None 0) (0 ∷ 0 ∷ 0 ∷ h) (omega (arith, full)) (omega arith) (omega arith) (omega arith) refl refl

  cut-closed : CloseSays (walker 4 104 Kind.Sha1 None 0) (front ++ h)
      (reply (Answer.Stop (refused_with Why.FieldCut 104)) 0) (walker 4 104 Kind.Sha1 (Some (refused_with Why.FieldCut 104)) 0)
  unfolding walk_computing any_above
  cut-closed = close-says (walker 4 104 Kind.Sha1 None 0) (front ++ h) (omega (arith, full)) (omega arith) (omega arith) (omega arith) refl refl

  -- A made-up walker whose count equals the total: held bytes that are a record give it, with 0 taken, and the count passes the total. It stands:
  count-passes : FeedSays (walker 38 138 Kind.Sha1 None 138) (front ++ rest ++ (7 ∷ 8 ∷ h)) (9 ∷ [])
      (reply (Answer.Record (slot_at 100 108 132 138)) 0) (walker 0 138 Kind.Sha1 None 139) (front ++ rest ++ (7 ∷ 8 ∷ h))
  unfolding walk_computing taken any_above
  count-passes = feed-says (walker 38 138 Kind.Sha1 None 138) (front ++ rest ++ (7 ∷ 8 ∷ h)) (omega (arith, full)) (omega arith) (omega arith) (omega arith) refl refl (9 ∷ []) (omega arith)

  -- the next call is 14.
  then-out-of-range : (piece : List ℕ) → FeedSays (walker 0 138 Kind.Sha1 None 139) h piece
      (reply (Answer.Stop (refused_with Why.OutOfRange 0)) 0) (walker 0 138 Kind.Sha1 None 139) h
  then-out-of-range piece =
      let e = sym (feed-14 (walker 0 138 Kind.Sha1 None 139) h piece (λ r. omega (arith, r.counts 0))) in
      (ap reply_by e, ap (λ o. walker_by o.walker) e, ap (λ o. o.hold) e)

-- ---- a made-up walker whose table has an id twice, at 100 of the log: the last size counts

-- n records of register 0 were counted, and as many SHA-256 digests
abbrev doubled_walker : ℕ → ℕ → Walker
doubled_walker total n =
    record {
      held = 0;
      total = total;
      shape = shape_of Kind.Agile (table_with doubled);
      kept = None;
      counts = set none_yet.counts 0 n;
      tallies = set none_yet.tallies 1 n;
    }

last-size-fed : (h : List ℕ) → 32768 ≤ length h
    → FeedSays (doubled_walker 100 0) h (agile 0x000B (replicate 20 0) ++ (7 ∷ []))
    (reply (Answer.Record (record { start = 100; register = 0; event = 6; digest_place = 112; digests = 1; serial = 0; «data» = record { at = 138; len = 0 }; contents = Contents.Empty })) 38)
    (doubled_walker 138 1) (agile 0x000B (replicate 20 0) ++ drop 38 h)
unfolding walk_computing taken any_above
last-size-fed h full = feed-says (doubled_walker 100 0) h full (omega arith) (omega arith) (omega arith) refl refl (agile 0x000B (replicate 20 0) ++ (7 ∷ [])) (omega arith)
