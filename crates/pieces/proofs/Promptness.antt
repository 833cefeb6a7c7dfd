-- Promptness: every call of every run is `Prompt` (specs/Prompt.antt). A run's calls are bs, then c, then cs.
--   prompt                 (a) to (e) hold of every call
--   repeats, stays-shut    (f): after a stop every later call of the run says the same again, and so would any other
-- Assumes nothing.
use Prim.Native.Nat.{ℕ, ◌+◌, ◌-◌, ◌≤◌, ◌<◌}
use mathlib.Core.Path.{◌≡◌, ap, ◌∙◌}
use mathlib.Core.Bool.{Bool, false}
use mathlib.Core.List.{List, [], ◌∷◌, ◌++◌}
use native.Mathlib.Omega.{arith}
use lib.ListN.{length, take}
use Rattle.numbers.specs.Range.{part_of}
use Rattle.numbers.proofs.ByCases.{both, never}
use Rattle.refusal.specs.declared.Ending.{Ending}
use Rattle.pieces.specs.Verdict.{Judge}
use Rattle.pieces.specs.Feed.{Walker, gives, stops, wants, fresh, still, feed_of, close_of, Feedable}
use Rattle.pieces.specs.Run.{Call, outcome_of, took, holding, RunOf}
use Rattle.pieces.specs.Prompt.{walk_to, Early, Before, piece_of, lent_to, given, up_to, Prompt}
use Rattle.pieces.proofs.FeedLaws.{feed-kept, close-kept}
use Rattle.pieces.proofs.OneCall.{Shut, Next, next-gives, next-wants, next-stops, open_told}
use Rattle.pieces.proofs.Reached.{Called, called-open, called-shut, call_at, shut-repeats}

module _ {Shape Rec : Type 0} (judge : Judge Shape Rec) (full most : ℕ) (wrong : ℕ → Shape → Bool)
    (able : Feedable judge full wrong) where
  module _ (sh : Shape) (log : List ℕ) (short : length log ≤ most) (bs : List (Call (Walker Shape) Rec)) (c : Call (Walker Shape) Rec) where
    called-prompt : {over : Bool} {left : List ℕ} → Called judge full most wrong sh log bs c over left → Prompt judge sh log bs c
    called-prompt (called-shut w e t told came k s) =
        let a : (outcome_of c).answer ≡ stops e = ap (λ o. o.answer) s in
        record {
          gave = λ r g. never cc;
          stop = λ f. both t f;
          gave-first = λ r g. never cc;
          refused-first = λ f. both t f;
          wanted = λ g. never cc;
          front = λ r g. never cc;
          takes = λ f. both t f;
        }
    called-prompt (called-open w f t h d s) = record {
      gave = go-gave s.next;
      stop = λ _. go-stop s.next;
      gave-first = λ r a. first;
      refused-first = λ f r a n. first;
      wanted = go-wanted s.next;
      front = go-front s.next;
      takes = λ f. (s.within, s.bytes ∙ ap (λ b. part_of log b (outcome_of c).count) t, total);
    }
      where
        total : (outcome_of c).walker.total ≡ up_to bs c
        total = s.total ∙ ap (λ b. b + (outcome_of c).count) t

        first : (m : ℕ) → m < up_to bs c → Before (given bs) (walk_to judge sh log m)
        first m i = s.sooner m (omega arith)

        go-gave : Next judge full most wrong sh log (given bs) w (piece_of c) (outcome_of c)
            → (r : Rec) → (outcome_of c).answer ≡ gives r → (walk_to judge sh log (up_to bs c)).records ≡ given bs ++ (r ∷ [])
        go-gave (next-gives r' a o z some front) r g =
            let e : r' ≡ r = cc in
            rw (total, e) at (open_told judge full most wrong sh log able short _ _ _ _ o).0
        go-gave (next-wants base a o z all) r g = never cc
        go-gave (next-stops x) r g = never (cc x.says)

        go-stop : Next judge full most wrong sh log (given bs) w (piece_of c) (outcome_of c)
            → (e : Ending) → (outcome_of c).answer ≡ stops e → walk_to judge sh log (up_to bs c) ≡ record { records = given bs; ending = e }
        go-stop (next-gives r a o z some front) e g = never cc
        go-stop (next-wants base a o z all) e g = never cc
        go-stop (next-stops x) e g =
            let i : x.ending ≡ e = cc x.says in x.final (up_to bs c) (omega arith) ∙ ap (λ y. record { records = given bs; ending = y }) i

        go-wanted : Next judge full most wrong sh log (given bs) w (piece_of c) (outcome_of c) → (outcome_of c).answer ≡ wants
            → ((outcome_of c).count ≡ length (piece_of c)) × ((walk_to judge sh log (up_to bs c)).records ≡ given bs) × Early (walk_to judge sh log (up_to bs c)).ending
        go-wanted (next-gives r a o z some front) g = never cc
        go-wanted (next-wants base a o z all) g =
            let told = open_told judge full most wrong sh log able short base (given bs) _ _ o in
            (all, rw total at told.0, rw total at told.1)
        go-wanted (next-stops x) g = never (cc x.says)

        go-front : Next judge full most wrong sh log (given bs) w (piece_of c) (outcome_of c) → (r : Rec) → (outcome_of c).answer ≡ gives r
            → take (holding 0 bs + (outcome_of c).count) (outcome_of c).hold ≡ part_of log (took bs - holding 0 bs) (holding 0 bs + (outcome_of c).count)
        go-front (next-gives r' a o z some front) r g = rw (t, h) at front
        go-front (next-wants base a o z all) r g = never cc
        go-front (next-stops x) r g = never (cc x.says)

    -- a call that stopped left the walker shut
    stop-shuts : {over : Bool} {left : List ℕ} → Called judge full most wrong sh log bs c over left → (e : Ending) → (outcome_of c).answer ≡ stops e
        → Shut judge full most wrong sh log e (outcome_of c).walker
    stop-shuts (called-shut w x t told came k s) e a =
        let i : (outcome_of c).answer ≡ stops x = ap (λ o. o.answer) s in
        let j : x ≡ e = cc in
        rw s (rw j at k)
    stop-shuts (called-open w f t h d s) e a = go s.next
      where
        go : Next judge full most wrong sh log (given bs) w (piece_of c) (outcome_of c) → Shut judge full most wrong sh log e (outcome_of c).walker
        go (next-gives r g o z some front) = never cc
        go (next-wants base g o z all) = never cc
        go (next-stops x) = let j : x.ending ≡ e = cc x.says in rw j at x.shut

  -- Of every run of a log within the limit from a fresh walker, every call is prompt.
  pub prompt : (sh : Shape) (log last : List ℕ) (bs : List (Call (Walker Shape) Rec)) (c : Call (Walker Shape) Rec) (cs : List (Call (Walker Shape) Rec))
      → wrong 0 sh ≡ false → length log ≤ most → RunOf judge full most wrong log (fresh sh) last (bs ++ (c ∷ cs)) → Prompt judge sh log bs c
  prompt sh log last bs c cs ok short r =
      let (over, left, called, z) = call_at judge full most wrong sh log able short last ok bs c cs r in
      called-prompt sh log short bs c called

  -- (f) After a call c that stopped with e, every later call d answers e again, takes 0, and leaves the walker as c left it and the hold as
  -- it was lent.
  pub repeats : (sh : Shape) (log last : List ℕ) (bs : List (Call (Walker Shape) Rec)) (c : Call (Walker Shape) Rec) (cs : List (Call (Walker Shape) Rec))
      (d : Call (Walker Shape) Rec) (ds : List (Call (Walker Shape) Rec)) (e : Ending) → wrong 0 sh ≡ false → length log ≤ most
      → RunOf judge full most wrong log (fresh sh) last (bs ++ (c ∷ (cs ++ (d ∷ ds)))) → (outcome_of c).answer ≡ stops e
      → outcome_of d ≡ record { answer = stops e; count = 0; walker = (outcome_of c).walker; hold = lent_to d }
  repeats sh log last bs c cs d ds e ok short r a =
      let (over, left, called, z) = call_at judge full most wrong sh log able short last ok bs c (cs ++ (d ∷ ds)) r in
      shut-repeats judge full most wrong sh log e cs d ds (stop-shuts sh log short bs c called e a) z

  -- And so would any feed, of any piece, and any close, over any hold of full size, whatever its held bytes.
  pub stays-shut : (sh : Shape) (log last : List ℕ) (bs : List (Call (Walker Shape) Rec)) (c : Call (Walker Shape) Rec) (cs : List (Call (Walker Shape) Rec))
      (e : Ending) → wrong 0 sh ≡ false → length log ≤ most → RunOf judge full most wrong log (fresh sh) last (bs ++ (c ∷ cs))
      → (outcome_of c).answer ≡ stops e → (hold : List ℕ) → full ≤ length hold
      → ((piece : List ℕ) → feed_of judge full most wrong (outcome_of c).walker hold piece ≡ still (outcome_of c).walker hold e)
      × (close_of judge full most wrong (outcome_of c).walker hold ≡ still (outcome_of c).walker hold e)
  stays-shut sh log last bs c cs e ok short r a hold h =
      let (over, left, called, z) = call_at judge full most wrong sh log able short last ok bs c cs r in
      let k = stop-shuts sh log short bs c called e a in (
        λ piece. feed-kept judge full most wrong (outcome_of c).walker hold (k.ranged hold h) piece e k.keeps,
        close-kept judge full most wrong (outcome_of c).walker hold (k.ranged hold h) e k.keeps,
      )
