-- Runs of the code (specs/Runs.antt) and runs of `pieces`, whose theorems so speak of the code.
--   feed-outcome, close-outcome   what a call of the code says is what the definition says
--   run_of, order-of              a run of the code is one of `pieces`, and what feeds pieces in order does so there
--   order-run                     feeding pieces in order is a run
--   calls_by, order-by             what feeds pieces in order in `pieces` does so in the code
-- Assumes nothing.
use Prim.Native.Nat.{ℕ, ◌≤◌}
use mathlib.Core.Path.{◌≡◌, refl, sym, ap, ◌∙◌}
use mathlib.Core.List.{List}
use lib.ListN.{length}
use Rattle.refusal.specs.Limits.{log_most, hold_full}
use Rattle.pieces.specs.Account.{With}
use Rattle.pieces.specs.Feed.{gives, stops, wants, Outcome, feed_of, close_of}
use Rattle.pieces.specs.Feed as F
use Rattle.pieces.specs.Run.{join, RunOf, InOrderOf, seen_as, calls_seen}
use Rattle.pieces.specs.Run as R
use Rattle.pieces.proofs.FeedLaws.{feed-count, feed-all, close-still}
use Rattle.pieces.proofs.RunLaws.{calls_seen_lem, order-seen}
use Rattle.pieces.proofs.Agreement.{order-calls}
use Rattle.record.specs.declared.Shape.{Shape}
use Rattle.record.specs.declared.Slot.{Slot}
use Rattle.standing.specs.Standing.{Standing, counted_judge}
use Rattle.walker.specs.declared.Answer.{Answer}
use Rattle.walker.specs.declared.Reply.{Reply}
use Rattle.walker.specs.declared.Walker.{Walker}
use Rattle.walker.specs.Walker.{walker_of, walker_by, answer_by, reply_by, wrong, feed_to, close_to}
use Rattle.promises.specs.Runs.{Feeds, Closes, Call, Run, InOrder, calls_of}

-- ---- there and back

abbrev answer_of : Answer → F.Answer Slot
answer_of Answer.More = wants
answer_of (Answer.Record slot) = gives slot
answer_of (Answer.Stop e) = stops e

answer_back : (a : F.Answer Slot) → answer_of (answer_by a) ≡ a
answer_back (gives slot) = refl
answer_back (stops e) = refl
answer_back wants = refl

walker-back : (w : F.Walker (With Shape Standing)) → walker_of (walker_by w) ≡ w
walker-back w = refl

-- ---- one call

abbrev told : Outcome (F.Walker (With Shape Standing)) Slot → Reply → Walker → List ℕ → Type 0
told x reply w hold = (reply ≡ reply_by x) × (w ≡ walker_by x.walker) × (hold ≡ x.hold)

-- an outcome of the code that says what an outcome of the definitions says is that one
outcome-told : (x : Outcome (F.Walker (With Shape Standing)) Slot) (o : Outcome Walker Slot) → told x (reply_by o) o.walker o.hold → seen_as walker_of o ≡ x
outcome-told x o (r, v, h) =
    let a : o.answer ≡ x.answer = sym (answer_back o.answer) ∙ ap (λ (y : Reply). answer_of y.answer) r ∙ answer_back x.answer in
    let n : o.count ≡ x.count = ap (λ (y : Reply). y.count) r in
    let w : walker_of o.walker ≡ x.walker = ap walker_of v ∙ walker-back x.walker in
    rw (a, n, w, h)

pub feed-outcome : (w : Walker) (hold piece : List ℕ) (o : Outcome Walker Slot) → Feeds w hold piece o
    → seen_as walker_of o ≡ feed_of counted_judge hold_full log_most wrong (walker_of w) hold piece
unfolding feed_to
feed-outcome w hold piece o says = outcome-told (feed_to w hold piece) o says

pub close-outcome : (w : Walker) (hold : List ℕ) (o : Outcome Walker Slot) → Closes w hold o
    → seen_as walker_of o ≡ close_of counted_judge hold_full log_most wrong (walker_of w) hold
unfolding close_to
close-outcome w hold o ((r, v), h) =
    outcome-told (close_to w hold) o (r, v, h ∙ sym (close-still counted_judge hold_full log_most wrong (walker_of w) hold).1)

-- The calls of the code are a run of `pieces`.
pub run_of : {log : List ℕ} {w : Walker} {last : List ℕ} {cs : List Call} → Run log w last cs
    → RunOf counted_judge hold_full log_most wrong log (walker_of w) last (calls_of cs)
run_of r = calls_seen_lem walker_of hold_full _ _ _ _ _ _ (λ w. refl) feed-outcome close-outcome r

pub order-of : {ps : List (List ℕ)} {w : Walker} {last : List ℕ} {cs : List Call} → InOrder ps w last cs
    → InOrderOf counted_judge hold_full log_most wrong ps (walker_of w) last (calls_of cs)
order-of r = order-seen walker_of hold_full _ _ _ _ _ _ (λ w. refl) feed-outcome close-outcome r

-- Feeding pieces in order is a run: no feed takes more than there is, and one that wants more has taken all.
pub order-run : {ps : List (List ℕ)} {w : Walker} {last : List ℕ} {cs : List Call} → InOrder ps w last cs → Run (join ps) w last cs
order-run r = order-calls hold_full _ _ _ few all (λ e. refl) r
  where
    few : (w : Walker) (hold p : List ℕ) (o : Outcome Walker Slot) → Feeds w hold p o → o.count ≤ length p
    few w hold p o f =
        rw (sym (ap (λ x. x.count) (feed-outcome w hold p o f))) at (feed-count counted_judge hold_full log_most wrong (walker_of w) hold p)

    all : (w : Walker) (hold p : List ℕ) (o : Outcome Walker Slot) → Feeds w hold p o → o.answer ≡ wants → o.count ≡ length p
    all w hold p o f a =
        let same = feed-outcome w hold p o f in
        ap (λ x. x.count) same ∙ feed-all counted_judge hold_full log_most wrong (walker_of w) hold p (sym (ap (λ x. x.answer) same) ∙ a)

-- ---- and feeding in order, in `pieces`, is so in the code

abbrev pub calls_by : List (R.Call (F.Walker (With Shape Standing)) Slot) → List Call
calls_by cs = calls_seen walker_by cs

feed-by : (w : F.Walker (With Shape Standing)) (hold p : List ℕ) (o : Outcome (F.Walker (With Shape Standing)) Slot) → o ≡ feed_of counted_judge hold_full log_most wrong w hold p
    → Feeds (walker_by w) hold p (seen_as walker_by o)
unfolding feed_to
feed-by w hold p o e =
    let same : o ≡ feed_to (walker_by w) hold p = e ∙ ap (λ v. feed_of counted_judge hold_full log_most wrong v hold p) (sym (walker-back w)) in
    (ap reply_by same, ap (λ x. walker_by x.walker) same, ap (λ x. x.hold) same)

close-by : (w : F.Walker (With Shape Standing)) (hold : List ℕ) (o : Outcome (F.Walker (With Shape Standing)) Slot) → o ≡ close_of counted_judge hold_full log_most wrong w hold
    → Closes (walker_by w) hold (seen_as walker_by o)
unfolding close_to
close-by w hold o e =
    let same : o ≡ close_to (walker_by w) hold = e ∙ ap (λ v. close_of counted_judge hold_full log_most wrong v hold) (sym (walker-back w)) in
    ((ap reply_by same, ap (λ x. walker_by x.walker) same), ap (λ x. x.hold) e ∙ (close-still counted_judge hold_full log_most wrong w hold).1)

pub order-by : {ps : List (List ℕ)} {w : F.Walker (With Shape Standing)} {last : List ℕ} {cs : List (R.Call (F.Walker (With Shape Standing)) Slot)}
    → InOrderOf counted_judge hold_full log_most wrong ps w last cs → InOrder ps (walker_by w) last (calls_by cs)
order-by r = order-seen walker_by hold_full _ _ _ _ _ _ (λ w. refl) feed-by close-by r
