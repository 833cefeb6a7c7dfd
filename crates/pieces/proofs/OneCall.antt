-- What one call does to a walker that a run from a fresh one has reached. Agreement and promptness rest on it.
-- While no call has stopped (`Open`), the held bytes are the log's bytes from the start of the record in hand, they wait, and the walk
-- of every beginning of the log that reaches that start is the records given so far and then the walk from there on; those records lead to
-- the walker's shape. Once a call has stopped (`Shut`), the walker keeps that answer and its numbers stay in range; its shape (`Came`) is as
-- it was.
--   Step                       what a call did to an open walker: how it answered (`Next`), and what holds whatever it answered
--   feed-step, close-step      what a feed and a close do
-- Assumes nothing.
use Rattle.std.specs.Prelude.{None, Some}
use Prim.Native.Nat.{ℕ, ◌+◌, ◌-◌, ◌≤◌, ◌<◌}
use mathlib.Core.Path.{◌≡◌, refl, sym, ap, ◌∙◌}
use mathlib.Core.Bool.{Bool, true, false}
use mathlib.Core.List.{List, [], ◌∷◌, ◌++◌, append_assoc, append-nil}
use native.Mathlib.Omega.{arith}
use native.Mathlib.Nat.{add-zero}
use lib.ListN.{length, take, drop, length-append, length-drop}
use lib.Seq.{paste, take-paste, take_all, take-take, take-append-le, take-add, length-take-le, drop_at}
use Rattle.numbers.specs.Range.{part_of}
use Rattle.numbers.proofs.ByCases.{split, both}
use Rattle.numbers.proofs.RangeLaws.{length_part, part-add}
use Rattle.refusal.specs.declared.Ending.{Ending}
use Rattle.refusal.specs.declared.Refusal.{Refusal}
use Rattle.refusal.specs.Endings.{ending_in}
use Rattle.pieces.specs.Verdict.{Verdict, more, sound, refused, Judge, decided}
use Rattle.pieces.specs.Walk.{add, walk}
use Rattle.pieces.specs.Taken.{taken, Least}
use Rattle.pieces.specs.Feed.{Walker, gives, stops, wants, Outcome, start, fed, closed, feed_of, close_of, Feedable}
use Rattle.pieces.specs.Run.{Lent}
use Rattle.pieces.specs.Prompt.{walk_to, Early, Before}
use Rattle.pieces.specs.Went.{Went}
use Rattle.pieces.proofs.VerdictLaws.{sound-all, waits-within}
use Rattle.pieces.proofs.WalkLaws.{walk_more, walk-sound, walk_refused}
use Rattle.pieces.proofs.Beginnings.{walk-waits}
use Rattle.pieces.proofs.TakenLaws.{taken-least, waits-all, none_before, taken-within}
use Rattle.pieces.proofs.FeedLaws.{InRange, feed-passed, close_passed}
use Rattle.pieces.proofs.RunLaws.{adds}
use Rattle.pieces.proofs.WentLaws.{went-snoc}

module _ {Shape Rec : Type 0} (judge : Judge Shape Rec) (full most : ℕ) (wrong : ℕ → Shape → Bool) (sh : Shape) (log : List ℕ) where
  -- No call has stopped: the record in hand starts at `base`, and the records rs were given.
  pub record Open (base : ℕ) (rs : List Rec) (w : Walker Shape) (last : List ℕ) : Type 0 where
    pub awake : w.kept ≡ None
    -- the shape is right where the record in hand starts, and so at the total
    pub fine : wrong base w.shape ≡ false
    pub place : w.total ≡ base + w.held
    pub reach : w.total ≤ length log
    pub bytes : take w.held last ≡ part_of log base w.held
    pub waits : decided (judge w.shape base (part_of log base w.held)) ≡ false
    pub rest : (k : ℕ) → walk_to judge sh log (base + k) ≡ adds rs (walk judge w.shape base (part_of log base k))
    pub sofar : (m : ℕ) → m ≤ w.total → Before rs (walk_to judge sh log m)
    -- the records given lead to its shape
    pub went : Went judge sh 0 (take base log) rs w.shape

  -- The records rs, read from a beginning of the bytes that w has had, lead to its shape.
  abbrev pub Came : List Rec → Walker Shape → Type 0
  Came rs w = (m : ℕ) × (m ≤ w.total) × (w.total ≤ length log) × Went judge sh 0 (take m log) rs w.shape

  -- A call has stopped with e, and every hold of full size is in range.
  pub record Shut (e : Ending) (w : Walker Shape) : Type 0 where
    pub keeps : w.kept ≡ Some e
    pub ranged : (hold : List ℕ) → full ≤ length hold → InRange full most wrong w hold

  -- A call of outcome o to the open walker w stopped, where the records rs were given before.
  pub record Stopping (rs : List Rec) (w : Walker Shape) (o : Outcome (Walker Shape) Rec) : Type 0 where
    pub ending : Ending
    pub says : o.answer ≡ stops ending
    pub shut : Shut ending o.walker
    pub came : Came rs o.walker
    -- the walk of every beginning that has the bytes taken gives the same
    pub final : (m : ℕ) → w.total + o.count ≤ m → walk_to judge sh log m ≡ record { records = rs; ending = ending }

  -- How it answered, fed p.
  pub data Next (rs : List Rec) (w : Walker Shape) (p : List ℕ) (o : Outcome (Walker Shape) Rec) : Type 0 where
    next-gives : (r : Rec) → o.answer ≡ gives r → Open o.walker.total (rs ++ (r ∷ [])) o.walker o.hold → o.walker.held ≡ 0
        → 0 < o.count → take (w.held + o.count) o.hold ≡ part_of log (w.total - w.held) (w.held + o.count) → Next rs w p o
    next-wants : (base : ℕ) → o.answer ≡ wants → Open base rs o.walker o.hold → o.walker.held ≡ w.held + o.count
        → o.count ≡ length p → Next rs w p o
    next-stops : Stopping rs w o → Next rs w p o

  -- What it did, whatever it answered.
  pub record Step (rs : List Rec) (w : Walker Shape) (p : List ℕ) (o : Outcome (Walker Shape) Rec) : Type 0 where
    pub next : Next rs w p o
    pub sooner : (m : ℕ) → m < w.total + o.count → Before rs (walk_to judge sh log m)
    pub within : o.count ≤ length p
    pub bytes : take o.count p ≡ part_of log w.total o.count
    pub total : o.walker.total ≡ w.total + o.count

  module _ (able : Feedable judge full wrong) (short : length log ≤ most) where
    -- where the bytes from `base` on wait, the walk up to there gives the records before, and an ending that may change
    rest-waits : (s : Shape) (base k : ℕ) (rs : List Rec) → walk_to judge sh log (base + k) ≡ adds rs (walk judge s base (part_of log base k))
        → decided (judge s base (part_of log base k)) ≡ false
        → ((walk_to judge sh log (base + k)).records ≡ rs) × Early (walk_to judge sh log (base + k)).ending
    rest-waits s base k rs e d =
        let (a, b) = walk-waits judge able.steady s base (part_of log base k) d in
        rw e (ap (λ l. rs ++ l) a ∙ append-nil rs, b)

    -- so it is before them
    pub rest-before : (s : Shape) (base k : ℕ) (rs : List Rec) → walk_to judge sh log (base + k) ≡ adds rs (walk judge s base (part_of log base k))
        → decided (judge s base (part_of log base k)) ≡ false → Before rs (walk_to judge sh log (base + k))
    rest-before s base k rs e d = let (a, b) = rest-waits s base k rs e d in record { few = omega (arith, ap length a); early = b }

    -- ---- an open state

    module _ (base : ℕ) (rs : List Rec) (w : Walker Shape) (last : List ℕ) (o : Open base rs w last) where
      -- the held bytes leave room in the hold
      held-within : w.held < full
      held-within =
          let l : length (part_of log base w.held) ≡ w.held = length_part log base w.held (omega (arith, o.place, o.reach)) in
          omega (arith, waits-within (judge w.shape base) (able.steady w.shape base) full (able.within w.shape base) (part_of log base w.held) o.waits)

      open-range : (hold : List ℕ) → full ≤ length hold → InRange full most wrong w hold
      open-range hold s = record {
        size = s;
        fits = omega (arith, held-within);
        within = omega (arith, o.reach);
        order = omega (arith, o.place);
        right = able.grows w.shape base w.total (omega (arith, o.place)) o.fine;
      }

      -- The walk of the bytes taken so far has no further record, and its ending may change.
      pub open_told : ((walk_to judge sh log w.total).records ≡ rs) × Early (walk_to judge sh log w.total).ending
      open_told = rw o.place (rest-waits w.shape base w.held rs (o.rest w.held) o.waits)

    -- ---- a feed to an open walker of p, with which the bytes not taken yet begin, over a hold that agrees with the last on the held bytes

    module _ (base : ℕ) (rs : List Rec) (p rest : List ℕ) (w : Walker Shape) (last hold : List ℕ) (todo : drop w.total log ≡ p ++ rest)
        (o : Open base rs w last) (l : Lent full w.held last hold) where
      -- the held bytes, and how many are taken
      abbrev x : List ℕ
      x = part_of log base w.held

      abbrev n : ℕ
      n = taken (judge w.shape base) x p

      least : Least (judge w.shape base) x p n
      least = taken-least (judge w.shape base) x p

      length-x : length x ≡ w.held
      length-x = length_part log base w.held (omega (arith, o.place, o.reach))

      length-p : w.total + length p ≤ length log
      length-p = omega (arith, ap length todo, length-drop w.total log, length-append p rest, o.reach)

      -- the bytes taken are the log's next ones
      chunk : (m : ℕ) → m ≤ length p → take m p ≡ part_of log w.total m
      chunk m h = sym (ap (take m) todo ∙ take-append-le m p rest h)

      grow : (m : ℕ) → m ≤ length p → x ++ take m p ≡ part_of log base (w.held + m)
      grow m h = ap (λ l. x ++ l) (chunk m h ∙ ap (λ t. part_of log t m) o.place) ∙ sym (part-add log base w.held m)

      -- nothing is decided before the last byte that is taken
      shorter : (k : ℕ) → k < w.held + n → decided (judge w.shape base (part_of log base k)) ≡ false
      shorter k h =
          let all : x ++ p ≡ part_of log base (w.held + length p) = ap (λ l. x ++ l) (sym (take_all (length p) p (omega arith))) ∙ grow (length p) (omega arith) in
          let d : decided (judge w.shape base (take k (x ++ p))) ≡ false =
          none_before (judge w.shape base) (able.steady w.shape base) x p n o.waits least k (omega (arith, length-x)) in
          let e : take k (x ++ p) ≡ part_of log base k = ap (take k) all ∙ take-take k (w.held + length p) (drop base log) (omega (arith, least.within)) in
          rw e at d

      sooner : (m : ℕ) → m < w.total + n → Before rs (walk_to judge sh log m)
      sooner m h = split base m
          (λ i. let e : base + (m - base) ≡ m = omega arith in
          rw e at (rest-before w.shape base (m - base) rs (o.rest (m - base)) (shorter (m - base) (omega (arith, o.place)))))
          (λ i. o.sofar m (omega (arith, o.place)))

      -- the outcome, by the verdict on the log's bytes from `base` on
      feed-open : feed_of judge full most wrong w hold p
          ≡ fed w (paste hold w.held p n) n (judge w.shape base (part_of log base (w.held + n)))
      feed-open =
          let s : start w ≡ base = omega (arith, o.place) in
          feed-passed judge full most wrong w hold (open-range base rs w last o hold l.size) p o.awake (omega (arith, length-p))
          ∙ rw (s, l.same, o.bytes, grow n least.within)

      hold-bytes : take (w.held + n) (paste hold w.held p n) ≡ part_of log base (w.held + n)
      hold-bytes =
          take-paste hold w.held p n (omega (arith, l.size, held-within base rs w last o)) least.within
          ∙ ap (λ b. b ++ take n p) (l.same ∙ o.bytes) ∙ grow n least.within

      -- what is decided stays so, whatever follows
      stays : (v : Verdict Shape Rec) → judge w.shape base (part_of log base (w.held + n)) ≡ v → decided v ≡ true
          → (k : ℕ) → w.held + n ≤ k → judge w.shape base (part_of log base k) ≡ v
      stays v j d k h =
          let a : ℕ = w.held + n in
          let e : a + (k - a) ≡ k = omega arith in
          ap (λ m. judge w.shape base (part_of log base m)) (sym e)
          ∙ ap (judge w.shape base) (part-add log base a (k - a))
          ∙ (able.steady w.shape base).stays (part_of log base a) (part_of log (base + a) (k - a)) (ap decided j ∙ d)
          ∙ j

      feed-wants : (s e : ℕ) → judge w.shape base (part_of log base (w.held + n)) ≡ more s e
          → Next rs w p (fed w (paste hold w.held p n) n (more s e))
      feed-wants s e j =
          let all : n ≡ length p = waits-all (judge w.shape base) x p n least (rw (grow n least.within) (ap decided j)) in
          next-wants base refl
          (record {
            awake = refl;
            fine = o.fine;
            place = omega (arith, o.place);
            reach = omega (arith, length-p);
            bytes = hold-bytes;
            waits = ap decided j;
            rest = o.rest;
            sofar = λ m h. split (w.total + n) m
                (λ i. let e : base + (w.held + n) ≡ m = omega (arith, o.place) in
                rw e at (rest-before w.shape base (w.held + n) rs (o.rest (w.held + n)) (ap decided j)))
                (sooner m);
            went = o.went;
          })
          refl all

      -- a record is all of the bytes then held
      gives_size : (r : Rec) (m : ℕ) (next : Shape) → judge w.shape base (part_of log base (w.held + n)) ≡ sound r m next → m ≡ w.held + n
      gives_size r m next j =
          let e : length (part_of log base (w.held + n)) ≡ w.held + n = length_part log base (w.held + n) (omega (arith, o.place, length-p, least.within)) in
          sound-all (judge w.shape base) (able.steady w.shape base) (part_of log base (w.held + n)) r m next j
          (λ k h. rw (take-take k (w.held + n) (drop base log) (omega arith)) (shorter k (omega arith)))
          ∙ e

      -- with a byte of the piece at least
      gives-some : (r : Rec) (m : ℕ) (next : Shape) → judge w.shape base (part_of log base (w.held + n)) ≡ sound r m next → 0 < n
      gives-some r m next j = split n 0
          (λ z. let e : w.held + n ≡ w.held = omega arith in both (ap decided (rw e at j)) o.waits)
          (λ h. h)

      -- and the walk goes on after it
      gives-rest : (r : Rec) (next : Shape) → judge w.shape base (part_of log base (w.held + n)) ≡ sound r (w.held + n) next → (k : ℕ)
          → walk_to judge sh log (w.total + n + k) ≡ adds (rs ++ (r ∷ [])) (walk judge next (w.total + n) (part_of log (w.total + n) k))
      gives-rest r next j k =
          let a : ℕ = w.held + n in
          let b : base + a ≡ w.total + n = omega (arith, o.place) in
          let c : base + (a + k) ≡ w.total + n + k = omega (arith, o.place) in
          let len : length (part_of log base a) ≡ a = length_part log base a (omega (arith, o.place, length-p, least.within)) in
          let cut : drop a (part_of log base (a + k)) ≡ part_of log (base + a) k =
          ap (drop a) (part-add log base a k) ∙ drop_at (part_of log base a) (part_of log (base + a) k) a len in
          ap (walk_to judge sh log) (sym c)
          ∙ o.rest (a + k)
          ∙ ap (adds rs) (walk-sound judge able.steady w.shape base (part_of log base (a + k)) r a next (stays (sound r a next) j refl (a + k) (omega arith)))
          ∙ ap (λ l. adds rs (add r (walk judge next (base + a) l))) cut
          ∙ ap (λ t. adds rs (add r (walk judge next t (part_of log t k)))) b
          ∙ ap (λ l. record { records = l; ending = (walk judge next (w.total + n) (part_of log (w.total + n) k)).ending })
          (sym (append_assoc rs (r ∷ []) (walk judge next (w.total + n) (part_of log (w.total + n) k)).records))

      -- with the shape that it leads to
      gives-went : (r : Rec) (next : Shape) → judge w.shape base (part_of log base (w.held + n)) ≡ sound r (w.held + n) next
          → Went judge sh 0 (take (w.total + n) log) (rs ++ (r ∷ [])) next
      gives-went r next j =
          let a : ℕ = w.held + n in
          let b : w.total + n ≡ base + a = omega (arith, o.place) in
          let here : 0 + length (take base log) ≡ base = omega (arith, length-take-le base log (omega (arith, o.place, o.reach))) in
          let len : length (part_of log base a) ≡ a = length_part log base a (omega (arith, o.place, length-p, least.within)) in
          rw (b, take-add base a log) (went-snoc judge o.went (rw (here, len) j))

      feed-gives : (r : Rec) (m : ℕ) (next : Shape) → judge w.shape base (part_of log base (w.held + n)) ≡ sound r m next
          → Next rs w p (fed w (paste hold w.held p n) n (sound r m next))
      feed-gives r m next j =
          let rest : (k : ℕ) → walk_to judge sh log (w.total + n + k) ≡ adds (rs ++ (r ∷ [])) (walk judge next (w.total + n) (part_of log (w.total + n) k)) =
          gives-rest r next (rw (gives_size r m next j) at j) in
          next-gives r refl
          (record {
            awake = refl;
            fine =
                let e : base + m ≡ w.total + n = omega (arith, o.place, gives_size r m next j) in
                rw e at (able.right w.shape base (part_of log base (w.held + n)) r m next j o.fine);
            place = omega arith;
            reach = omega (arith, length-p, least.within);
            bytes = refl;
            waits = (able.steady next (w.total + n)).opens;
            rest = rest;
            sofar = λ k h. split (w.total + n) k
                (λ i. let e : w.total + n + 0 ≡ k = omega arith in
                rw e at (rest-before next (w.total + n) 0 (rs ++ (r ∷ [])) (rest 0) (able.steady next (w.total + n)).opens))
                (λ i. let b = sooner k i in record { few = omega (arith, b.few, length-append rs (r ∷ [])); early = b.early });
            went = gives-went r next (rw (gives_size r m next j) at j);
          })
          refl
          (gives-some r m next j)
          (let b : w.total - w.held ≡ base = omega (arith, o.place) in rw b hold-bytes)

      feed-stops : (r : Refusal) → judge w.shape base (part_of log base (w.held + n)) ≡ refused r
          → Next rs w p (fed w (paste hold w.held p n) n (refused r))
      feed-stops r j = next-stops (record {
        ending = Ending.Refused r;
        says = refl;
        shut = record {
          keeps = refl;
          ranged = λ h s. record {
            size = s;
            fits = omega (arith, length-x, taken-within (judge w.shape base) (able.steady w.shape base) full (able.within w.shape base) x p n o.waits least);
            within = omega (arith, length-p, least.within);
            order = omega (arith, o.place);
            right = able.grows w.shape base (w.total + n) (omega (arith, o.place)) o.fine;
          };
        };
        came = (base, omega (arith, o.place), omega (arith, length-p, least.within), o.went);
        final = λ m h.
            let k : ℕ = m - base in
            let e : base + k ≡ m = omega (arith, o.place) in
            ap (walk_to judge sh log) (sym e)
            ∙ o.rest k
            ∙ ap (adds rs) (walk_refused judge able.steady w.shape base (part_of log base k) r (stays (refused r) j refl k (omega (arith, o.place))))
            ∙ ap (λ l. record { records = l; ending = Ending.Refused r }) (append-nil rs);
      })

      -- A feed to an open walker is such a step.
      pub feed-step : Step rs w p (feed_of judge full most wrong w hold p)
      feed-step = rw feed-open (go (judge w.shape base (part_of log base (w.held + n))) refl)
        where
          outcome : Verdict Shape Rec → Outcome (Walker Shape) Rec
          outcome v = fed w (paste hold w.held p n) n v

          step : (y : Outcome (Walker Shape) Rec) → y.count ≡ n → y.walker.total ≡ w.total + n → Next rs w p y → Step rs w p y
          step y c t x = record {
            next = x;
            sooner = λ m h. sooner m (omega arith);
            within = omega (arith, least.within);
            bytes = rw c (chunk n least.within);
            total = omega arith;
          }

          go : (v : Verdict Shape Rec) → judge w.shape base (part_of log base (w.held + n)) ≡ v → Step rs w p (outcome v)
          go (more s e) j = step (outcome (more s e)) refl refl (feed-wants s e j)
          go (sound r m next) j = step (outcome (sound r m next)) refl refl (feed-gives r m next j)
          go (refused r) j = step (outcome (refused r)) refl refl (feed-stops r j)

    -- ---- a close of an open walker, where no bytes are left

    module _ (base : ℕ) (rs : List Rec) (w : Walker Shape) (last hold : List ℕ) (todo : drop w.total log ≡ []) (o : Open base rs w last)
        (l : Lent full w.held last hold) where
      -- all of the log was taken
      all : length log ≤ w.total
      all = omega (arith, ap length todo, length-drop w.total log)

      abbrev y : List ℕ
      y = part_of log base w.held

      -- the held bytes wait, so there is one case
      by-close : (P : Outcome (Walker Shape) Rec → Type 0) → ((s e : ℕ) → judge w.shape base y ≡ more s e → P (closed w hold y (more s e)))
          → P (close_of judge full most wrong w hold)
      by-close P f =
          let s : start w ≡ base = omega (arith, o.place) in
          rw (close_passed judge full most wrong w hold (open-range base rs w last o hold l.size) o.awake, s, l.same, o.bytes)
          (go (judge w.shape base y) refl)
        where
          go : (v : Verdict Shape Rec) → judge w.shape base y ≡ v → P (closed w hold y v)
          go (more s e) j = f s e j
          go (sound r n next) j = both (ap decided j) o.waits
          go (refused r) j = both (ap decided j) o.waits

      ending-stops : (s e : ℕ) → judge w.shape base y ≡ more s e → Stopping rs w (closed w hold y (more s e))
      ending-stops s e j = record {
        ending = ending_in (start w) (length y) s;
        says = refl;
        shut = record {
          keeps = refl;
          ranged = λ h z. let i = open-range base rs w last o h z in
              record { size = i.size; fits = i.fits; within = i.within; order = i.order; right = i.right };
        };
        came = (base, omega (arith, o.place), o.reach, o.went);
        final = λ m h.
            let b : base ≡ start w = omega (arith, o.place) in
            ap (walk judge sh 0) (take_all m log (omega (arith, all)) ∙ sym (take_all (base + w.held) log (omega (arith, all, o.place))))
            ∙ o.rest w.held
            ∙ ap (adds rs) (walk_more judge able.steady w.shape base y s e j)
            ∙ ap (λ l. record { records = l; ending = ending_in base (length y) s }) (append-nil rs)
            ∙ ap (λ t. record { records = rs; ending = ending_in t (length y) s }) b;
      }

      -- A close of an open walker stops,
      pub close-stops : Stopping rs w (close_of judge full most wrong w hold)
      close-stops = by-close (Stopping rs w) ending-stops

      -- and is such a step.
      pub close-step : Step rs w [] (close_of judge full most wrong w hold)
      close-step = by-close (Step rs w []) (λ s e j. record {
        next = next-stops (ending-stops s e j);
        sooner = λ m i. o.sofar m (omega arith);
        within = omega arith;
        bytes = refl;
        total = sym (add-zero w.total);
      })
