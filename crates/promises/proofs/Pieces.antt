-- Demand 3: cut it anywhere. Of every run of the code's calls (specs/Runs.antt) from a fresh walker over a log of at most 65,536 bytes:
--   pieces-prompt       (a) to (e), of every call: `Prompt` of `pieces` (its fields say which is which)
--   pieces-repeat       (f) after the end or a refusal every later call of the run says it again, takes 0 and changes nothing,
--   pieces-shut         and so would any other call
--   pieces-agree        (g) once a call has stopped, the answers in order are the whole walk's records and its end or refusal
--   pieces-close        a close that comes in a run stops
--   pieces-closed       so (g) holds of every run with a close
--   pieces-in-order     feeding a list of pieces in order, empty ones included, and then closing is such a run
--   pieces-order-agree  and tells what the whole walk tells
--   pieces-run          however a log is cut there are such calls
-- The calls may be of the forms by value or of those where the walker lies. Assumes nothing.
use Prim.Native.Nat.{ℕ, ◌+◌, ◌≤◌}
use mathlib.Core.Path.{◌≡◌, refl, sym, ap, ◌∙◌}
use mathlib.Core.Bool.{true, false}
use mathlib.Core.List.{List, ◌∷◌, ◌++◌}
use lib.Dec.{ltb}
use lib.ListN.{length}
use borrow.Author.Tests.{le-ltb, ltb-false}
use Rattle.refusal.specs.declared.Ending.{Ending}
use Rattle.refusal.specs.Limits.{log_most, pairs_most, hold_full}
use Rattle.pieces.specs.Verdict.{sound}
use Rattle.pieces.specs.Walk.{whole_walk}
use Rattle.pieces.specs.Account.{With}
use Rattle.pieces.specs.Feed.{stops, still, Outcome, Feedable}
use Rattle.pieces.specs.Feed as F
use Rattle.pieces.specs.Run.{join, close_call, outcome_of, stopped, told, RunOf, seen_as}
use Rattle.pieces.specs.Prompt.{lent_to, Prompt}
use Rattle.pieces.proofs.WalkLaws.{whole_walk-fits}
use Rattle.pieces.proofs.AccountLaws.{accounted-whole}
use Rattle.pieces.proofs.RunLaws.{calls_seen-append, calls_seen-told, calls_seen-stopped}
use Rattle.pieces.proofs.Agreement.{agreement, close-ends, close-stops-run, order-agrees, order-exists}
use Rattle.pieces.proofs.Promptness.{prompt, repeats, stays-shut}
use Rattle.record.specs.declared.Shape.{Shape}
use Rattle.record.specs.declared.Slot.{Slot}
use Rattle.record.specs.Record.{judge_of}
use Rattle.record.proofs.RecordLaws.{record-steady, record-placed, placed-few}
use Rattle.standing.specs.Serials.{whole_told}
use Rattle.standing.specs.Standing.{Standing, mark_by, counts_by, any_above, mark_slot, standing_after, over_total, counted_judge, opening}
use Rattle.standing.proofs.StandingLaws.{neither}
use Rattle.standing.proofs.CountedLaws.{counted-steady, counted-within, counted-sound, over-after, over-grows}
use Rattle.walk.proofs.FillLaws.{whole-numbered}
use Rattle.walker.specs.declared.Walker.{Walker}
use Rattle.walker.specs.Walker.{walker_of, fresh_walker, wrong}
use Rattle.promises.specs.Runs.{Feeds, Closes, Call, Run, InOrder, call_of, calls_of}
use Rattle.promises.proofs.RunLaws.{feed-outcome, close-outcome, run_of, order-run, order-of, calls_by, order-by}

-- A log may be fed to the judge of a record: what follows a sound record counts no more pairs than the table holds, whatever the total, and no count or
-- tally passes the total.
pub feedable : Feedable counted_judge hold_full wrong
feedable = record {
  steady = counted-steady;
  within = counted-within;
  right = right;
  grows = λ st t u h ok.
      let (a, b) = neither (ltb pairs_most st.shape.pairs.count) (over_total t st.account) ok in
      rw (a, over-grows t u h st.account b);
}
  where
    right : (st : With Shape Standing) (base : ℕ) (p : List ℕ) (slot : Slot) (n : ℕ) (next : With Shape Standing) → counted_judge st base p ≡ sound slot n next
        → wrong base st ≡ false → wrong (base + n) next ≡ false
    right st base p slot n next j ok =
        let (bare, judged, marked, moved) = counted-sound st base p slot n next j in
        let (a, b) = neither (ltb pairs_most st.shape.pairs.count) (over_total base st.account) ok in
        let pairs = le-ltb pairs_most next.shape.pairs.count
        (placed-few (record-placed st.shape base p bare n next.shape judged) (ltb-false pairs_most st.shape.pairs.count a)) in
        let over = over-after st.shape base p bare n next.shape judged st.account b in
        rw (pairs, moved, over)

pub opening-right : wrong 0 opening ≡ false
unfolding any_above
opening-right = refl

-- What the walk with the standing tells is what the whole walk tells, with its serials.
pub whole-counted : (log : List ℕ) → whole_walk counted_judge log_most opening log ≡ whole_told log
unfolding counted_judge
whole-counted log =
    accounted-whole mark_slot standing_after judge_of record-steady (λ st. st.counts) mark_by counts_by (λ st slot. refl) (λ sh st slot x. refl) log_most opening log
    ∙ whole-numbered log

module _ (log : List ℕ) (short : length log ≤ log_most) (last : List ℕ) where
  -- the run in the terms of `pieces`, at one of its calls
  pub at_call : (bs : List Call) (c : Call) (cs : List Call) → Run log fresh_walker last (bs ++ (c ∷ cs))
      → RunOf counted_judge hold_full log_most wrong log (F.fresh opening) last (calls_of bs ++ (call_of c ∷ calls_of cs))
  at_call bs c cs r = rw (calls_seen-append walker_of bs (c ∷ cs)) at (run_of r)

  -- (a) to (e): each record or early refusal comes in the call that brings the last byte it needs, with the number of bytes taken.
  pub pieces-prompt : (bs : List Call) (c : Call) (cs : List Call) → Run log fresh_walker last (bs ++ (c ∷ cs))
      → Prompt counted_judge opening log (calls_of bs) (call_of c)
  pieces-prompt bs c cs r =
      prompt counted_judge hold_full log_most wrong feedable opening log last (calls_of bs) (call_of c) (calls_of cs) opening-right short (at_call bs c cs r)

  -- (f) After a call c that stopped with e, every later call d of the run answers e again, takes 0, and leaves the walker as c left it and the
  -- hold as it was lent.
  pub pieces-repeat : (bs : List Call) (c : Call) (cs : List Call) (d : Call) (ds : List Call) (e : Ending)
      → Run log fresh_walker last (bs ++ (c ∷ (cs ++ (d ∷ ds)))) → (outcome_of (call_of c)).answer ≡ stops e
      → outcome_of (call_of d) ≡ record { answer = stops e; count = 0; walker = (outcome_of (call_of c)).walker; hold = lent_to (call_of d) }
  pieces-repeat bs c cs d ds e r a =
      repeats counted_judge hold_full log_most wrong feedable opening log last (calls_of bs) (call_of c) (calls_of cs) (call_of d) (calls_of ds) e opening-right short
      (rw (calls_seen-append walker_of cs (d ∷ ds)) at (at_call bs c (cs ++ (d ∷ ds)) r)) a

  -- And so would any feed, of any piece, and any close, over any hold of full size, whatever its held bytes.
  pub pieces-shut : (bs : List Call) (c : Call) (cs : List Call) (e : Ending) (w : Walker) → Run log fresh_walker last (bs ++ (c ∷ cs))
      → (outcome_of (call_of c)).answer ≡ stops e → (outcome_of (call_of c)).walker ≡ walker_of w → (hold : List ℕ) → hold_full ≤ length hold → (o : Outcome Walker Slot)
      → ((piece : List ℕ) → Feeds w hold piece o → seen_as walker_of o ≡ still (walker_of w) hold e)
      × (Closes w hold o → seen_as walker_of o ≡ still (walker_of w) hold e)
  pieces-shut bs c cs e w r a v hold h o =
      let (f, g) = stays-shut counted_judge hold_full log_most wrong feedable opening log last (calls_of bs) (call_of c) (calls_of cs) e opening-right short (at_call bs c cs r) a hold h in
      (λ piece s. feed-outcome w hold piece o s ∙ (rw v at f) piece, λ s. close-outcome w hold o s ∙ (rw v at g))

  -- (g) Once a call has stopped, the records that the calls gave, in order, and the ending are those of the whole walk.
  pub pieces-agree : (cs : List Call) → Run log fresh_walker last cs → stopped cs ≡ true → (e : Ending)
      → told e cs ≡ whole_told log
  pieces-agree cs r t e =
      sym (calls_seen-told walker_of e cs)
      ∙ agreement counted_judge hold_full log_most wrong feedable opening log last (calls_of cs) opening-right short (run_of r) (calls_seen-stopped walker_of cs ∙ t) e
      ∙ sym (whole_walk-fits counted_judge log_most opening log short)
      ∙ whole-counted log

  -- Closed means stopped: a close that comes in a run gives the end or a refusal,
  pub pieces-close : (bs : List Call) (hold : List ℕ) (o : Outcome Walker Slot) (cs : List Call) → Run log fresh_walker last (bs ++ (close_call hold o ∷ cs))
      → (e : Ending) × (o.answer ≡ stops e)
  pieces-close bs hold o cs r =
      close-ends counted_judge hold_full log_most wrong feedable opening log last (calls_of bs) hold (seen_as walker_of o) (calls_of cs) opening-right short
      (at_call bs (close_call hold o) cs r)

  -- and so of every run with a close, whether or not a call stopped before it.
  pub pieces-closed : (bs : List Call) (hold : List ℕ) (o : Outcome Walker Slot) (cs : List Call) → Run log fresh_walker last (bs ++ (close_call hold o ∷ cs))
      → (e : Ending) → told e (bs ++ (close_call hold o ∷ cs)) ≡ whole_told log
  pieces-closed bs hold o cs r =
      pieces-agree (bs ++ (close_call hold o ∷ cs)) r
      (sym (calls_seen-stopped walker_of (bs ++ (close_call hold o ∷ cs)))
      ∙ ap stopped (calls_seen-append walker_of bs (close_call hold o ∷ cs))
      ∙ close-stops-run counted_judge hold_full log_most wrong feedable opening log last (calls_of bs) hold (seen_as walker_of o) (calls_of cs) opening-right short
      (at_call bs (close_call hold o) cs r))

-- ---- a list of pieces, fed in order

module _ (ps : List (List ℕ)) (short : length (join ps) ≤ log_most) (last : List ℕ) where
  -- Feeding the pieces in order, and then closing, is a run of the log that they make: all of the above holds of it.
  pub pieces-in-order : (cs : List Call) → InOrder ps fresh_walker last cs → Run (join ps) fresh_walker last cs
  pieces-in-order cs r = order-run r

  -- It tells what the whole walk tells.
  pub pieces-order-agree : (cs : List Call) → InOrder ps fresh_walker last cs → (e : Ending) → told e cs ≡ whole_told (join ps)
  pieces-order-agree cs r e =
      sym (calls_seen-told walker_of e cs)
      ∙ order-agrees counted_judge hold_full log_most wrong feedable opening ps last (calls_of cs) opening-right short (order-of r) e
      ∙ sym (whole_walk-fits counted_judge log_most opening (join ps) short)
      ∙ whole-counted (join ps)

  -- However the log is cut, and over any first hold of full size, there are such calls.
  pub pieces-run : hold_full ≤ length last → (cs : List Call) × InOrder ps fresh_walker last cs
  pieces-run h =
      let (cs, r) = order-exists counted_judge hold_full log_most wrong feedable opening ps last opening-right short h in
      (calls_by cs, order-by r)
