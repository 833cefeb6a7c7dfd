-- The last-size rule no longer shows from a fresh start (document 02, Req 04). A table is regular where no id stands twice among its counted pairs and a
-- known one has its own size; of such a table first and last size agree, and the digests of every id that it declares have 20, 32, 48 or 64 bytes
-- (`Regular`, `first_size_of`, `own_size` of `spec_id`).
--   Agree         that a table is regular, and the two that follow from it
--   agree-walk    of the table behind any well-formed records that begin a log
--   agree-turns   of the cursor's after any turns from a log's start, whatever was lent to each and after a stop too
--   agree-calls   of the walker's after any calls from a fresh walker, of any pieces and over any holds
--   agree-run     so of the walker's after any call of any run, whatever it answered
-- Assumes nothing.
use Rattle.std.specs.Prelude.{Some, Option, None}
use Prim.Native.Nat.{ℕ, ◌+◌, ◌-◌}
use mathlib.Core.Path.{◌≡◌, refl}
use mathlib.Core.Bool.{Bool, true, false}
use mathlib.Core.List.{List, [], ◌∷◌, ◌++◌}
use lib.Dec.{ltb}
use lib.ListN.{length, take, drop}
use lib.Seq.{paste}
use Rattle.refusal.specs.declared.Ending.{Ending}
use Rattle.refusal.specs.Limits.{log_most, hold_full}
use Rattle.spec_id.specs.declared.Pairs.{Pairs}
use Rattle.spec_id.specs.SpecId.{own_size}
use Rattle.spec_id.specs.Sizes.{size_of}
use Rattle.spec_id.specs.Regular.{Regular, first_size_of}
use Rattle.spec_id.proofs.RegularLaws.{none-regular, sound-regular, marker-regular, regular-first, regular-own}
use Rattle.contents.specs.declared.Contents.{Contents}
use Rattle.pieces.specs.Verdict.{Verdict, more, sound, refused}
use Rattle.pieces.specs.Account.{With}
use Rattle.pieces.specs.Taken.{taken}
use Rattle.pieces.specs.Feed.{Outcome, fed, closed, tested, feed_of, close_of}
use Rattle.pieces.specs.Feed as F
use Rattle.pieces.specs.Run.{fed_call, close_call, outcome_of, Calls, feeds, closes}
use Rattle.record.specs.declared.Cursor.{Cursor}
use Rattle.record.specs.declared.Shape.{Shape}
use Rattle.record.specs.declared.Slot.{Slot}
use Rattle.record.specs.Record.{opening_shape, is_marker}
use Rattle.record.specs.Whole.{data_at, ContainsAs, Lies}
use Rattle.record.proofs.RecordLaws.{record-placed, placed-keeps}
use Rattle.standing.specs.Standing.{Standing, standing_by, counted_judge}
use Rattle.standing.proofs.CountedLaws.{counted-sound}
use Rattle.walk.specs.Turn.{stand_at, moved_of, turn_by, turn_of}
use Rattle.walk.specs.Divides.{Chain, none, next, Begins}
use Rattle.walker.specs.declared.Walker.{Walker}
use Rattle.walker.specs.Walker.{stand_of, walker_of, fresh_walker, out_of_range, feed_to, close_to}
use Rattle.promises.specs.Runs.{Feeds, Closes, Call, held_by, Run, Called, opened, after_feed, after_close}
use Rattle.promises.specs.Turns.{Reached, opens, turns}

pub record Agree (t : Pairs) : Type 0 where
  pub regular : Regular t
  pub first : (id : ℕ) → size_of t id ≡ first_size_of t id
  pub own : (id n : ℕ) → size_of t id ≡ Some n → own_size id ≡ Some n

agree : (t : Pairs) → Regular t → Agree t
agree t r = record { regular = r; first = regular-first t r; own = regular-own t r }

-- a log's start has no pair
opens-regular : Regular opening_shape.pairs
opens-regular = none-regular

-- ---- the walk, by what a log is

lies-regular : {sh after : Shape} {base : ℕ} {x : List ℕ} {slot : Slot} → Lies sh base x slot after → Regular sh.pairs → Regular after.pairs
lies-regular {sh} {after} {base} lies r =
    go (is_marker sh.kind lies.whole.event) lies.whole.event lies.whole.body (base + data_at lies.whole.digests) lies.contents lies.holds
  where
    go : (b : Bool) (event : ℕ) (body : List ℕ) (at : ℕ) (c : Contents) → ContainsAs b sh event body at c after → Regular after.pairs
    go true event body at c (pairs, holds, e) = rw (e, holds.table) (sound-regular body holds.ps holds.id)
    go false event body at c (holds, e) = rw e r

chain-regular : {sh last : Shape} {base : ℕ} {p : List ℕ} {rs : List Slot} → Chain sh base p rs last → Regular sh.pairs → Regular last.pairs
chain-regular none r = r
chain-regular (next lies chain) r = chain-regular chain (lies-regular lies r)

pub agree-walk : (log : List ℕ) (rs : List Slot) (front rest : List ℕ) (last : Shape) → Begins log rs front rest last → Agree last.pairs
agree-walk log rs front rest last b = agree last.pairs (chain-regular b.chain opens-regular)

-- ---- the walk by turns

-- a record that the judge finds keeps the table regular
judge-regular : (st : With Shape Standing) (base : ℕ) (p : List ℕ) (slot : Slot) (n : ℕ) (after : With Shape Standing) → counted_judge st base p ≡ sound slot n after
    → Regular st.shape.pairs → Regular after.shape.pairs
judge-regular st base p slot n after j r =
    let (bare, judged, marked, moved) = counted-sound st base p slot n after j in
    placed-keeps (record-placed st.shape base p bare n after.shape judged) Regular marker-regular r

turn-regular : (log : List ℕ) (c : Cursor) (st : Standing) → Regular c.shape.pairs → Regular (turn_of log c st).turned.next.shape.pairs
unfolding turn_of
turn-regular log c st r = go (ltb log_most (length log))
  where
    moves : (v : Verdict (With Shape Standing) Slot) → counted_judge (stand_at c st) c.at (drop c.at log) ≡ v
        → Regular (moved_of v c st (length (drop c.at log))).turned.next.shape.pairs
    moves (more start end) j = r
    moves (sound slot n after) j = judge-regular (stand_at c st) c.at (drop c.at log) slot n after j r
    moves (refused x) j = r

    go : (b : Bool) → Regular (turn_by b log c st).turned.next.shape.pairs
    go true = r
    go false = moves (counted_judge (stand_at c st) c.at (drop c.at log)) refl

reached-regular : {log : List ℕ} {c : Cursor} → Reached log c → Regular c.shape.pairs
reached-regular opens = opens-regular
reached-regular {log} (turns {c = c} counts tallies t counts' tallies' reached ((said, counted, tallied), is)) =
    rw said (turn-regular log c (standing_by counts tallies) (reached-regular reached))

pub agree-turns : (log : List ℕ) (c : Cursor) → Reached log c → Agree c.shape.pairs
agree-turns log c reached = agree c.shape.pairs (reached-regular reached)

-- ---- the walker, whatever it is fed

abbrev LeavesRegular : Outcome (F.Walker (With Shape Standing)) Slot → Type 0
LeavesRegular o = Regular o.walker.shape.shape.pairs

module _ (w : F.Walker (With Shape Standing)) (hold : List ℕ) (r : Regular w.shape.shape.pairs) where
  fed-regular : (n : ℕ) (v : Verdict (With Shape Standing) Slot) (base : ℕ) (p : List ℕ) → counted_judge w.shape base p ≡ v → LeavesRegular (fed w hold n v)
  fed-regular n (more start end) base p j = r
  fed-regular n (sound slot m after) base p j = judge-regular w.shape base p slot m after j r
  fed-regular n (refused x) base p j = r

  closed-regular : (h : List ℕ) (v : Verdict (With Shape Standing) Slot) (base : ℕ) (p : List ℕ) → counted_judge w.shape base p ≡ v → LeavesRegular (closed w hold h v)
  closed-regular h (more start end) base p j = r
  closed-regular h (sound slot m after) base p j = fed-regular 0 (sound slot m after) base p j
  closed-regular h (refused x) base p j = r

  tested-regular : (out : Bool) (kept : Option Ending) (long : Bool) (go : Unit {0} → Outcome (F.Walker (With Shape Standing)) Slot) → LeavesRegular (go tt)
      → LeavesRegular (tested out kept long w hold go)
  tested-regular true kept long go g = r
  tested-regular false (Some e) long go g = r
  tested-regular false None true go g = r
  tested-regular false None false go g = g

feed-regular : (w : Walker) (hold piece : List ℕ) → Regular w.shape.pairs → LeavesRegular (feed_to w hold piece)
unfolding feed_to feed_of
feed-regular w hold piece r =
    let at = w.total - w.held in
    let n = taken (counted_judge (stand_of w) at) (take w.held hold) piece in
    let bytes = take w.held hold ++ take n piece in
    let v = counted_judge (stand_of w) at bytes in
    let then = paste hold w.held piece n in
    tested-regular (walker_of w) hold r (out_of_range w hold) w.kept (ltb log_most (w.total + length piece)) (λ _. fed (walker_of w) then n v)
    (fed-regular (walker_of w) then r n v at bytes refl)

close-regular : (w : Walker) (hold : List ℕ) → Regular w.shape.pairs → LeavesRegular (close_to w hold)
unfolding close_to close_of
close-regular w hold r =
    let at = w.total - w.held in
    let bytes = take w.held hold in
    let v = counted_judge (stand_of w) at bytes in
    tested-regular (walker_of w) hold r (out_of_range w hold) w.kept false (λ _. closed (walker_of w) hold bytes v)
    (closed-regular (walker_of w) hold r bytes v at bytes refl)

called-regular : {w : Walker} → Called w → Regular w.shape.pairs
called-regular opened = opens-regular
called-regular (after_feed {w = w} hold piece o called (said, left, then)) = rw left (feed-regular w hold piece (called-regular called))
called-regular (after_close {w = w} hold o called ((said, left), then)) = rw left (close-regular w hold (called-regular called))

pub agree-calls : (w : Walker) → Called w → Agree w.shape.pairs
agree-calls w called = agree w.shape.pairs (called-regular called)

-- the calls of a run are such calls
run-called : {ended : Bool} {todo : List ℕ} {w : Walker} {last : List ℕ} (bs : List Call) (c : Call) (cs : List Call)
    → Calls hold_full held_by Feeds Closes ended todo w last (bs ++ (c ∷ cs)) → Called w → Called (outcome_of c).walker
run-called [] (fed_call piece hold o) cs (feeds may lent says _) called = after_feed hold piece o called says
run-called [] (close_call hold o) cs (closes may lent says _) called = after_close hold o called says
run-called (fed_call piece hold o ∷ bs) c cs (feeds may lent says left) called = run-called bs c cs left (after_feed hold piece o called says)
run-called (close_call hold o ∷ bs) c cs (closes may lent says left) called = run-called bs c cs left (after_close hold o called says)

pub agree-run : (log last : List ℕ) (bs : List Call) (c : Call) (cs : List Call) → Run log fresh_walker last (bs ++ (c ∷ cs)) → Agree (outcome_of c).walker.shape.pairs
agree-run log last bs c cs run = agree-calls (outcome_of c).walker (run-called bs c cs run opened)
