-- A run: the calls that any caller makes, one after the other, to feed a log and then close (document 01, demand 3).
--   Call                    one feed or one close: what was fed, the hold that was lent, and the outcome
--   Run .. todo w last cs   from the walker w, with `todo` the log's bytes that were not taken yet and `last` the hold as the last call left it,
--                           the calls cs; over any type of walker and over what its feeds and closes promise of their outcomes
--   RunOf ..                the runs of the walkers of specs/Feed.antt
--   InOrder .. ps w last cs the calls cs feed the pieces ps in order, what is left of a piece again after a record, and then close
--   calls_seen see cs        calls of one type of walker, seen as calls of another
-- A feed is given any beginning of the bytes not taken yet, the empty one too; a close comes when none are left; after a stop any call may follow.
-- Each hold has full size and agrees with the one before on the held bytes only. A run may rest after any call.
-- Theorems: proofs/Agreement.antt, proofs/Promptness.antt. Assumes nothing.
use Rattle.std.specs.Prelude.{ℕ, ◌+◌, ◌≤◌, ◌≡◌, Bool, true, false, cond, ◌||◌, List, [], ◌∷◌, ◌++◌, length, take, drop}
use Rattle.refusal.specs.declared.Ending.{Ending}
use Rattle.pieces.specs.Verdict.{Judge}
use Rattle.pieces.specs.Walk.{Told, only, add}
use Rattle.pieces.specs.Feed.{Walker, Answer, gives, stops, wants, Outcome, feed_of, close_of}

-- the log that the pieces make
abbrev pub join : List (List ℕ) → List ℕ
join [] = []
join (p ∷ ps) = p ++ join ps

-- to a walker of type W
pub data Call (W Rec : Type 0) : Type 0 where
  fed_call : (piece hold : List ℕ) (o : Outcome W Rec) → Call W Rec
  close_call : (hold : List ℕ) (o : Outcome W Rec) → Call W Rec

-- the pieces after a feed of p: what is left of p again after a record, else the next ones
abbrev pub after : {Rec : Type 0} → Answer Rec → ℕ → List ℕ → List (List ℕ) → List (List ℕ)
after (gives r) n p ps = drop n p ∷ ps
after (stops e) n p ps = ps
after wants n p ps = ps

-- a record or not; the end or a refusal or not
abbrev pub record? : {Rec : Type 0} → Answer Rec → Bool
record? (gives r) = true
record? (stops e) = false
record? wants = false

abbrev pub stop? : {Rec : Type 0} → Answer Rec → Bool
stop? (gives r) = false
stop? (stops e) = true
stop? wants = false

-- an answer, before what later calls told
abbrev pub tells : {Rec : Type 0} → Answer Rec → Told Rec → Told Rec
tells (gives r) t = add r t
tells (stops e) t = only e
tells wants t = t

module _ {W Rec : Type 0} where
  abbrev pub outcome_of : Call W Rec → Outcome W Rec
  outcome_of (fed_call piece hold o) = o
  outcome_of (close_call hold o) = o

  -- whether a call gave the end or a refusal
  abbrev pub stopped : List (Call W Rec) → Bool
  stopped [] = false
  stopped (c ∷ cs) = stop? (outcome_of c).answer || stopped cs

  -- how many bytes calls took
  abbrev pub took : List (Call W Rec) → ℕ
  took [] = 0
  took (c ∷ cs) = (outcome_of c).count + took cs

  -- how many of those are held still, where h were before: those since the last record
  abbrev pub holding : ℕ → List (Call W Rec) → ℕ
  holding h [] = h
  holding h (c ∷ cs) = holding (cond (record? (outcome_of c).answer) 0 (h + (outcome_of c).count)) cs

  -- what calls told: the records in order, and the first end or refusal, or e where there was none
  abbrev pub told : Ending → List (Call W Rec) → Told Rec
  told e [] = only e
  told e (c ∷ cs) = tells (outcome_of c).answer (told e cs)

-- the hold that is lent to the next call: of full size, and the held bytes are as the last call left them
pub record Lent (full held : ℕ) (last hold : List ℕ) : Type 0 where
  pub size : full ≤ length hold
  pub same : take held hold ≡ take held last

-- what may be fed, and when the log may be closed, where `todo` was not taken yet and a call has stopped, or none has
abbrev pub MayFeed : Bool → List ℕ → List ℕ → Type 0
MayFeed true todo p = Unit {0}
MayFeed false todo p = (rest : List ℕ) × (todo ≡ p ++ rest)

abbrev pub MayClose : Bool → List ℕ → Type 0
MayClose true todo = Unit {0}
MayClose false todo = todo ≡ []

-- how many bytes a walker holds, and what a feed of it and a close of it promise
module _ {W Rec : Type 0} (full : ℕ) (held : W → ℕ) (Feeds : W → List ℕ → List ℕ → Outcome W Rec → Type 0)
    (Closes : W → List ℕ → Outcome W Rec → Type 0) where
  -- `ended` says whether a call has stopped
  pub data Calls : (ended : Bool) → List ℕ → W → List ℕ → List (Call W Rec) → Type 0 where
    rests : {ended : Bool} {todo : List ℕ} {w : W} {last : List ℕ} → Calls ended todo w last []
    feeds : {ended : Bool} {todo p : List ℕ} {w : W} {last hold : List ℕ} {o : Outcome W Rec} {cs : List (Call W Rec)}
        → MayFeed ended todo p
        → Lent full (held w) last hold
        → Feeds w hold p o
        → Calls (ended || stop? o.answer) (drop o.count todo) o.walker o.hold cs
        → Calls ended todo w last (fed_call p hold o ∷ cs)
    closes : {ended : Bool} {todo : List ℕ} {w : W} {last hold : List ℕ} {o : Outcome W Rec} {cs : List (Call W Rec)}
        → MayClose ended todo
        → Lent full (held w) last hold
        → Closes w hold o
        → Calls (ended || stop? o.answer) todo o.walker o.hold cs
        → Calls ended todo w last (close_call hold o ∷ cs)

  -- no call has stopped yet
  abbrev pub Run : List ℕ → W → List ℕ → List (Call W Rec) → Type 0
  Run todo w last cs = Calls false todo w last cs

  -- an empty piece, and an empty rest of one, may be left out
  pub data InOrder : List (List ℕ) → W → List ℕ → List (Call W Rec) → Type 0 where
    passes : {ps : List (List ℕ)} {w : W} {last : List ℕ} {cs : List (Call W Rec)} → InOrder ps w last cs → InOrder ([] ∷ ps) w last cs
    feeds_on : {p : List ℕ} {ps : List (List ℕ)} {w : W} {last hold : List ℕ} {o : Outcome W Rec} {cs : List (Call W Rec)}
        → Lent full (held w) last hold
        → Feeds w hold p o
        → InOrder (after o.answer o.count p ps) o.walker o.hold cs
        → InOrder (p ∷ ps) w last (fed_call p hold o ∷ cs)
    closes_all : {w : W} {last hold : List ℕ} {o : Outcome W Rec}
        → Lent full (held w) last hold
        → Closes w hold o
        → InOrder [] w last (close_call hold o ∷ [])

module _ {Shape Rec : Type 0} (judge : Judge Shape Rec) (full most : ℕ) (wrong : ℕ → Shape → Bool) where
  abbrev pub held_by : Walker Shape → ℕ
  held_by w = w.held

  abbrev pub FeedsBy : Walker Shape → List ℕ → List ℕ → Outcome (Walker Shape) Rec → Type 0
  FeedsBy w hold p o = o ≡ feed_of judge full most wrong w hold p

  abbrev pub ClosesBy : Walker Shape → List ℕ → Outcome (Walker Shape) Rec → Type 0
  ClosesBy w hold o = o ≡ close_of judge full most wrong w hold

  abbrev pub CallsOf : Bool → List ℕ → Walker Shape → List ℕ → List (Call (Walker Shape) Rec) → Type 0
  CallsOf ended todo w last cs = Calls full held_by FeedsBy ClosesBy ended todo w last cs

  abbrev pub RunOf : List ℕ → Walker Shape → List ℕ → List (Call (Walker Shape) Rec) → Type 0
  RunOf todo w last cs = CallsOf false todo w last cs

  abbrev pub InOrderOf : List (List ℕ) → Walker Shape → List ℕ → List (Call (Walker Shape) Rec) → Type 0
  InOrderOf ps w last cs = InOrder full held_by FeedsBy ClosesBy ps w last cs

-- outcomes and calls of a walker of type W, where it is seen as one of type X
module _ {W X Rec : Type 0} (see : W → X) where
  abbrev pub seen_as : Outcome W Rec → Outcome X Rec
  seen_as o = record { answer = o.answer; count = o.count; walker = see o.walker; hold = o.hold }

  abbrev pub call_seen : Call W Rec → Call X Rec
  call_seen (fed_call piece hold o) = fed_call piece hold (seen_as o)
  call_seen (close_call hold o) = close_call hold (seen_as o)

  abbrev pub calls_seen : List (Call W Rec) → List (Call X Rec)
  calls_seen [] = []
  calls_seen (c ∷ cs) = call_seen c ∷ calls_seen cs
