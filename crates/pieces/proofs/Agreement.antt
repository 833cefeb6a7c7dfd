-- Agreement: what the calls of a run tell is what the walk of the whole log tells.
--   agreement          of every run in which a call stopped, whatever beginnings were fed, whatever the rest of each lent hold has
--   close-ends         a close that comes in a run stops
--   agreement-closed   so it holds of every run with a close
--   order-run          feeding the pieces of a log in order, and then closing, is a run
--   order-agrees       agreement for that, and for no more than that
--   order-exists       and however a log is cut, there are such calls
-- A log past the limit has no part in this: `whole_walk-long` (proofs/WalkLaws.antt) and `feed-long` (proofs/FeedLaws.antt).
-- Assumes nothing.
use Prim.Native.Nat.{ℕ, zero, suc, ◌+◌, ◌≤◌}
use mathlib.Core.Path.{◌≡◌, refl, sym, ap, ◌∙◌}
use mathlib.Core.Bool.{Bool, true, false, ◌||◌}
use mathlib.Core.List.{List, [], ◌∷◌, ◌++◌, append-nil}
use native.Mathlib.Omega.{arith}
use lib.ListN.{length, drop, length-append, length-drop, drop_of_length-le}
use lib.Seq.{drop-append-le, drop-drop}
use Rattle.numbers.proofs.ByCases.{both}
use Rattle.refusal.specs.declared.Ending.{Ending}
use Rattle.pieces.specs.Verdict.{Judge}
use Rattle.pieces.specs.Walk.{walk}
use Rattle.pieces.specs.Feed.{Walker, Answer, gives, stops, wants, Outcome, fresh, still, feed_of, Feedable}
use Rattle.pieces.specs.Run.{
  join,
  Call,
  fed_call,
  close_call,
  after,
  stop?,
  stopped,
  told,
  Lent,
  MayFeed,
  MayClose,
  Calls,
  feeds,
  closes,
  rests,
  InOrder,
  passes,
  feeds_on,
  closes_all,
  CallsOf,
  RunOf,
  InOrderOf,
}
use Rattle.pieces.proofs.FeedLaws.{feed-length, feed-kept, feed-count, feed-all, close-kept}
use Rattle.pieces.proofs.RunLaws.{stopped-append}
use Rattle.pieces.proofs.OneCall.{Open, Shut, Next, next-gives, next-wants, next-stops, Step, feed-step, close-stops}
use Rattle.pieces.proofs.Reached.{Reached, reached-open, reached-shut, fresh-open, after-calls}

-- ---- pieces in order are beginnings of what is left

-- where a feed takes no more than there is, and all where it wants more
module _ {W Rec : Type 0} (full : ℕ) (held : W → ℕ) (Feeds : W → List ℕ → List ℕ → Outcome W Rec → Type 0)
    (Closes : W → List ℕ → Outcome W Rec → Type 0) (few : (w : W) (hold p : List ℕ) (o : Outcome W Rec) → Feeds w hold p o → o.count ≤ length p)
    (all : (w : W) (hold p : List ℕ) (o : Outcome W Rec) → Feeds w hold p o → o.answer ≡ wants → o.count ≡ length p) where
  -- what is left of the log after a feed of p are the pieces after it, unless it stopped
  left_after : (a : Answer Rec) (n : ℕ) (p : List ℕ) (ps : List (List ℕ)) → n ≤ length p → (a ≡ wants → n ≡ length p)
      → stop? a ≡ false → drop n (p ++ join ps) ≡ join (after a n p ps)
  left_after (gives r) n p ps h e f = drop-append-le n p (join ps) h
  left_after (stops x) n p ps h e f = both refl f
  left_after wants n p ps h e f = drop-append-le n p (join ps) h ∙ rw (drop_of_length-le p {i = n} (omega (arith, e refl)))

  -- Calls that feed pieces in order and then close are such calls, where the pieces are what is left of the log, or a call has stopped.
  pub order-calls : {ended : Bool} {todo : List ℕ} {ps : List (List ℕ)} {w : W} {last : List ℕ} {cs : List (Call W Rec)}
      → (ended ≡ false → todo ≡ join ps) → InOrder full held Feeds Closes ps w last cs → Calls full held Feeds Closes ended todo w last cs
  order-calls t (passes r) = order-calls t r
  order-calls {ended} {todo} t (feeds_on {p = p} {ps = ps} {w = w} {hold = hold} {o = o} l f r) =
      feeds (may ended t) l f (order-calls {ended = ended || stop? o.answer} {todo = drop o.count todo} (rest ended t) r)
    where
      may : (b : Bool) → (b ≡ false → todo ≡ p ++ join ps) → MayFeed b todo p
      may true t = tt
      may false t = (join ps, t refl)

      rest : (b : Bool) → (b ≡ false → todo ≡ p ++ join ps) → b || stop? o.answer ≡ false → drop o.count todo ≡ join (after o.answer o.count p ps)
      rest true t e = both refl e
      rest false t e = ap (drop o.count) (t refl) ∙ left_after o.answer o.count p ps (few w hold p o f) (all w hold p o f) e
  order-calls {ended} {todo} t (closes_all l c) = closes (may ended t) l c rests
    where
      may : (b : Bool) → (b ≡ false → todo ≡ []) → MayClose b todo
      may true t = tt
      may false t = t refl

-- a bound on a caller's turns: each takes a byte, or ends a piece, or closes
abbrev turns : List (List ℕ) → ℕ
turns ps = suc (length (join ps) + length ps)

module _ {Shape Rec : Type 0} (judge : Judge Shape Rec) (full most : ℕ) (wrong : ℕ → Shape → Bool) (able : Feedable judge full wrong) where
  -- Of every run of a log within the limit from a fresh walker: once a call has stopped, the records that the calls gave, in order, and the
  -- ending that they gave are those of the walk of the whole log.
  pub agreement : (sh : Shape) (log last : List ℕ) (cs : List (Call (Walker Shape) Rec)) → wrong 0 sh ≡ false → length log ≤ most
      → RunOf judge full most wrong log (fresh sh) last cs → stopped cs ≡ true → (e : Ending) → told e cs ≡ walk judge sh 0 log
  agreement sh log last cs ok short r t e =
      let (over, left, w, hold, s, z) = after-calls judge full most wrong sh log able short last ok cs [] (rw (append-nil cs) r) in
      go s
    where
      go : {w : Walker Shape} {hold left : List ℕ} {over : Bool} → Reached judge full most wrong sh log cs w hold over left → told e cs ≡ walk judge sh 0 log
      go (reached-open base f p h d o) = both t f
      go (reached-shut x y tells came k) = tells e

  -- A close that comes in a run stops: it gives the end or a refusal.
  pub close-ends : (sh : Shape) (log last : List ℕ) (bs : List (Call (Walker Shape) Rec)) (hold : List ℕ) (o : Outcome (Walker Shape) Rec)
      (cs : List (Call (Walker Shape) Rec)) → wrong 0 sh ≡ false → length log ≤ most
      → RunOf judge full most wrong log (fresh sh) last (bs ++ (close_call hold o ∷ cs)) → (e : Ending) × (o.answer ≡ stops e)
  close-ends sh log last bs hold o cs ok short r =
      let (over, left, w, before, s, z) = after-calls judge full most wrong sh log able short last ok bs (close_call hold o ∷ cs) r in
      go s z
    where
      go : {w : Walker Shape} {before left : List ℕ} {over : Bool} → Reached judge full most wrong sh log bs w before over left
          → CallsOf judge full most wrong over left w before (close_call hold o ∷ cs) → (e : Ending) × (o.answer ≡ stops e)
      go (reached-open base f p h d x) (closes {w = w} {last = before} m l q z) =
          let y = close-stops judge full most wrong sh log able short base _ w before hold (d ∙ m) x l in
          (y.ending, ap (λ z. z.answer) q ∙ y.says)
      go (reached-shut e y tells came k) (closes {w = w} m l q z) =
          (e, ap (λ z. z.answer) (q ∙ close-kept judge full most wrong w hold (k.ranged hold l.size) e k.keeps))

  -- So in a run with a close a call stopped,
  pub close-stops-run : (sh : Shape) (log last : List ℕ) (bs : List (Call (Walker Shape) Rec)) (hold : List ℕ) (o : Outcome (Walker Shape) Rec)
      (cs : List (Call (Walker Shape) Rec)) → wrong 0 sh ≡ false → length log ≤ most
      → RunOf judge full most wrong log (fresh sh) last (bs ++ (close_call hold o ∷ cs)) → stopped (bs ++ (close_call hold o ∷ cs)) ≡ true
  close-stops-run sh log last bs hold o cs ok short r =
      let (e, a) = close-ends sh log last bs hold o cs ok short r in
      stopped-append (close_call hold o ∷ cs) bs ∙ go (stopped bs) o.answer (ap stop? a)
    where
      go : (b : Bool) (a : Answer Rec) → stop? a ≡ true → b || (stop? a || stopped cs) ≡ true
      go true a e = refl
      go false a e = rw e

  -- and it tells what the walk of the whole log tells.
  pub agreement-closed : (sh : Shape) (log last : List ℕ) (bs : List (Call (Walker Shape) Rec)) (hold : List ℕ) (o : Outcome (Walker Shape) Rec)
      (cs : List (Call (Walker Shape) Rec)) → wrong 0 sh ≡ false → length log ≤ most
      → RunOf judge full most wrong log (fresh sh) last (bs ++ (close_call hold o ∷ cs)) → (e : Ending)
      → told e (bs ++ (close_call hold o ∷ cs)) ≡ walk judge sh 0 log
  agreement-closed sh log last bs hold o cs ok short r =
      agreement sh log last (bs ++ (close_call hold o ∷ cs)) ok short r (close-stops-run sh log last bs hold o cs ok short r)

  -- ---- pieces fed in order

  -- Calls that feed the pieces of a log in order and then close are a run of the log.
  pub order-run : (ps : List (List ℕ)) (w : Walker Shape) (last : List ℕ) (cs : List (Call (Walker Shape) Rec)) → InOrderOf judge full most wrong ps w last cs
      → RunOf judge full most wrong (join ps) w last cs
  order-run ps w last cs r =
      order-calls full _ _ _ (λ v hold p o q. rw q (feed-count judge full most wrong v hold p)) (λ v hold p o q. rw q (feed-all judge full most wrong v hold p))
      (λ e. refl) r

  -- the calls end with the close
  order-closes : {ps : List (List ℕ)} {w : Walker Shape} {last : List ℕ} {cs : List (Call (Walker Shape) Rec)} → InOrderOf judge full most wrong ps w last cs
      → (bs : List (Call (Walker Shape) Rec)) × (hold : List ℕ) × (o : Outcome (Walker Shape) Rec) × (cs ≡ bs ++ (close_call hold o ∷ []))
  order-closes (passes r) = order-closes r
  order-closes (feeds_on {p = p} {hold = hold} {o = o} l f r) =
      let (bs, h, x, e) = order-closes r in (fed_call p hold o ∷ bs, h, x, ap (λ cs. fed_call p hold o ∷ cs) e)
  order-closes (closes_all {hold = hold} {o = o} l c) = ([], hold, o, refl)

  -- They tell what the walk of the whole log tells.
  pub order-agrees : (sh : Shape) (ps : List (List ℕ)) (last : List ℕ) (cs : List (Call (Walker Shape) Rec)) → wrong 0 sh ≡ false → length (join ps) ≤ most
      → InOrderOf judge full most wrong ps (fresh sh) last cs → (e : Ending) → told e cs ≡ walk judge sh 0 (join ps)
  order-agrees sh ps last cs ok short r =
      let (bs, hold, o, q) = order-closes r in
      rw q (agreement-closed sh (join ps) last bs hold o [] ok short (rw q at (order-run ps (fresh sh) last cs r)))

  -- ---- there are such calls

  -- a walker that is shut may be fed on, and closed
  shut-order : (sh : Shape) (log : List ℕ) (e : Ending) (ps : List (List ℕ)) (w : Walker Shape) (hold : List ℕ) → Shut judge full most wrong sh log e w
      → full ≤ length hold → (cs : List (Call (Walker Shape) Rec)) × InOrderOf judge full most wrong ps w hold cs
  shut-order sh log e [] w hold k h = (_, closes_all (record { size = h; same = refl }) refl)
  shut-order sh log e (p ∷ ps) w hold k h =
      let q : feed_of judge full most wrong w hold p ≡ still w hold e = feed-kept judge full most wrong w hold (k.ranged hold h) p e k.keeps in
      let (cs, r) = shut-order sh log e ps w hold k h in
      (fed_call p hold (still w hold e) ∷ cs, feeds_on (record { size = h; same = refl }) (sym q) r)

  -- and so may one that is open
  open_order : (sh : Shape) (log : List ℕ) → length log ≤ most → (f base : ℕ) (rs : List Rec) (w : Walker Shape) (hold : List ℕ) (ps : List (List ℕ))
      → Open judge full most wrong sh log base rs w hold → drop w.total log ≡ join ps → full ≤ length hold → turns ps ≤ f
      → (cs : List (Call (Walker Shape) Rec)) × InOrderOf judge full most wrong ps w hold cs
  open_order sh log short zero base rs w hold ps o d h k = absurd (omega arith)
  open_order sh log short (suc f) base rs w hold [] o d h k = (_, closes_all (record { size = h; same = refl }) refl)
  open_order sh log short (suc f) base rs w hold (p ∷ ps) o d h k =
      let (cs, r) = go s.next (λ b rs qs. open_order sh log short f b rs x.walker x.hold qs) in (fed_call p hold x ∷ cs, feeds_on {cs = cs} lent refl r)
    where
      x : Outcome (Walker Shape) Rec
      x = feed_of judge full most wrong w hold p

      lent : Lent full w.held hold hold
      lent = record { size = h; same = refl }

      s : Step judge full most wrong sh log rs w p x
      s = feed-step judge full most wrong sh log able short base rs p (join ps) w hold hold d o lent

      long : full ≤ length x.hold
      long = rw (feed-length judge full most wrong w hold able.steady able.within p) h

      -- what is left after the bytes taken
      left : drop x.walker.total log ≡ drop x.count (p ++ join ps)
      left = ap (λ n. drop n log) s.total ∙ sym (drop-drop x.count w.total log) ∙ ap (drop x.count) d

      go : Next judge full most wrong sh log rs w p x
          → ((b : ℕ) (rs : List Rec) (qs : List (List ℕ)) → Open judge full most wrong sh log b rs x.walker x.hold → drop x.walker.total log ≡ join qs
          → full ≤ length x.hold → turns qs ≤ f → (cs : List (Call (Walker Shape) Rec)) × InOrderOf judge full most wrong qs x.walker x.hold cs)
          → (cs : List (Call (Walker Shape) Rec)) × InOrderOf judge full most wrong (after x.answer x.count p ps) x.walker x.hold cs
      go (next-gives r a n z some front) ih = rw a (ih x.walker.total (rs ++ (r ∷ [])) (drop x.count p ∷ ps) n
          (left ∙ drop-append-le x.count p (join ps) s.within) long
          (omega (arith, some, s.within, length-append (drop x.count p) (join ps), length-drop x.count p, length-append p (join ps))))
      go (next-wants b a n z all) ih = rw a (ih b rs ps n
          (left ∙ drop-append-le x.count p (join ps) s.within ∙ rw (drop_of_length-le p {i = x.count} (omega (arith, all)))) long
          (omega (arith, length-append p (join ps))))
      go (next-stops y) ih = rw y.says (shut-order sh log y.ending ps x.walker x.hold y.shut long)

  -- However a log within the limit is cut, and over any first hold of full size, there are calls that feed it in order and then close.
  pub order-exists : (sh : Shape) (ps : List (List ℕ)) (hold : List ℕ) → wrong 0 sh ≡ false → length (join ps) ≤ most → full ≤ length hold
      → (cs : List (Call (Walker Shape) Rec)) × InOrderOf judge full most wrong ps (fresh sh) hold cs
  order-exists sh ps hold ok short h =
      open_order sh (join ps) short (turns ps) 0 [] (fresh sh) hold ps (fresh-open judge full most wrong sh (join ps) able short hold ok) refl h (omega arith)
