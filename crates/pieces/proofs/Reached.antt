-- Every state that a run from a fresh walker reaches, by induction over the run: each call keeps the invariant of proofs/OneCall.antt.
--   Reached bs ..    the state after the calls bs
--   Called bs c      what the call c did, after the calls bs
--   reach, call_at   the state after the first calls of a run, and any call of a run
-- Assumes nothing.
use Prim.Native.Nat.{ℕ, ◌+◌, ◌≤◌}
use mathlib.Core.Path.{◌≡◌, refl, sym, ap, ◌∙◌}
use mathlib.Core.Bool.{Bool, true, false, ◌||◌, cond}
use mathlib.Core.List.{List, [], ◌∷◌, ◌++◌, append_assoc, append-nil}
use native.Mathlib.Omega.{arith}
use native.Mathlib.Nat.{zero-add}
use lib.ListN.{length, drop}
use lib.Seq.{take_all, drop-drop}
use Rattle.numbers.specs.Range.{part_of}
use Rattle.refusal.specs.declared.Ending.{Ending}
use Rattle.pieces.specs.Verdict.{Judge}
use Rattle.pieces.specs.Walk.{only, walk}
use Rattle.pieces.specs.Feed.{Walker, Answer, gives, stops, wants, fresh, still, Feedable}
use Rattle.pieces.specs.Run.{Call, tells, record?, stop?, outcome_of, stopped, took, holding, told, feeds, closes, CallsOf, RunOf}
use Rattle.pieces.specs.Prompt.{walk_to, piece_of, lent_to, given}
use Rattle.pieces.specs.Went.{stays}
use Rattle.pieces.proofs.FeedLaws.{feed-kept, close-kept, close-still}
use Rattle.pieces.proofs.RunLaws.{adds, stopped-append, took-append, holding-append, told-append, told-stopped}
use Rattle.pieces.proofs.OneCall.{Open, Came, Shut, Next, next-gives, next-wants, next-stops, Step, rest-before, feed-step, close-step}

module _ {Shape Rec : Type 0} (judge : Judge Shape Rec) (full most : ℕ) (wrong : ℕ → Shape → Bool) (sh : Shape) (log : List ℕ) where
  -- After the calls bs, of which one has stopped or none has, the walker is w, the hold was left as `last`, and `todo` was not taken yet.
  pub data Reached (bs : List (Call (Walker Shape) Rec)) (w : Walker Shape) (last : List ℕ) : (ended : Bool) → (todo : List ℕ) → Type 0 where
    reached-open : {todo : List ℕ} (base : ℕ) → stopped bs ≡ false → w.total ≡ took bs → w.held ≡ holding 0 bs → drop w.total log ≡ todo
        → Open judge full most wrong sh log base (given bs) w last → Reached bs w last false todo
    reached-shut : {todo : List ℕ} (e : Ending) → stopped bs ≡ true → ((d : Ending) → told d bs ≡ walk judge sh 0 log)
        → Came judge full most wrong sh log (given bs) w → Shut judge full most wrong sh log e w → Reached bs w last true todo

  -- What the call c did, after the calls bs, to the walker w.
  pub data Called (bs : List (Call (Walker Shape) Rec)) (c : Call (Walker Shape) Rec) : (ended : Bool) → (todo : List ℕ) → Type 0 where
    called-open : {todo : List ℕ} (w : Walker Shape) → stopped bs ≡ false → w.total ≡ took bs → w.held ≡ holding 0 bs → drop w.total log ≡ todo
        → Step judge full most wrong sh log (given bs) w (piece_of c) (outcome_of c) → Called bs c false todo
    called-shut : {todo : List ℕ} (w : Walker Shape) (e : Ending) → stopped bs ≡ true → ((d : Ending) → told d bs ≡ walk judge sh 0 log)
        → Came judge full most wrong sh log (given bs) w → Shut judge full most wrong sh log e w → outcome_of c ≡ still w (lent_to c) e
        → Called bs c true todo

  module _ (bs : List (Call (Walker Shape) Rec)) (c : Call (Walker Shape) Rec) (f : stopped bs ≡ false) where
    -- after calls that did not stop, a call that stops or not
    stopped-snoc : stopped (bs ++ (c ∷ [])) ≡ stop? (outcome_of c).answer || false
    stopped-snoc = stopped-append (c ∷ []) bs ∙ rw f

    told-snoc : (d : Ending) (a : Answer Rec) → (outcome_of c).answer ≡ a → told d (bs ++ (c ∷ [])) ≡ adds (given bs) (tells a (only d))
    told-snoc d a e = told-append (c ∷ []) d bs f ∙ ap (λ x. adds (given bs) (tells x (only d))) e

    given-snoc : (a : Answer Rec) → (outcome_of c).answer ≡ a → given (bs ++ (c ∷ [])) ≡ given bs ++ (tells a (only (Ending.End 0 0))).records
    given-snoc a e = ap (λ t. t.records) (told-snoc (Ending.End 0 0) a e)

  -- A call leaves a state that is reached.
  pub called-reached : {bs : List (Call (Walker Shape) Rec)} {c : Call (Walker Shape) Rec} {ended : Bool} {todo : List ℕ} → Called bs c ended todo
      → Reached (bs ++ (c ∷ [])) (outcome_of c).walker (outcome_of c).hold (ended || stop? (outcome_of c).answer) (drop (outcome_of c).count todo)
  called-reached {bs} {c} (called-shut w e t f g k s) =
      let same : given (bs ++ (c ∷ [])) ≡ given bs = ap (λ x. x.records) (told-stopped (c ∷ []) (Ending.End 0 0) bs t) in
      reached-shut e (stopped-append (c ∷ []) bs ∙ rw t) (λ d. told-stopped (c ∷ []) d bs t ∙ f d) (rw (same, s) g) (rw s k)
  called-reached {bs} {c} {ended} {todo} (called-open w f t h left s) = go s.next
    where
      total : (outcome_of c).walker.total ≡ took (bs ++ (c ∷ []))
      total = omega (arith, s.total, took-append (c ∷ []) bs)

      holds : holding 0 (bs ++ (c ∷ [])) ≡ cond (record? (outcome_of c).answer) 0 (holding 0 bs + (outcome_of c).count)
      holds = holding-append (c ∷ []) 0 bs

      -- what is left is the log's bytes past those taken
      leaves : drop (outcome_of c).walker.total log ≡ drop (outcome_of c).count todo
      leaves = ap (λ n. drop n log) s.total ∙ sym (drop-drop (outcome_of c).count w.total log) ∙ ap (drop (outcome_of c).count) left

      go : Next judge full most wrong sh log (given bs) w (piece_of c) (outcome_of c)
          → Reached (bs ++ (c ∷ [])) (outcome_of c).walker (outcome_of c).hold (stop? (outcome_of c).answer) (drop (outcome_of c).count todo)
      go (next-gives r a o z p front) =
          rw (ap stop? a) (reached-open (outcome_of c).walker.total (stopped-snoc bs c f ∙ rw a) total (z ∙ sym (holds ∙ rw a)) leaves
          (rw (given-snoc bs c f (gives r) a) o))
      go (next-wants base a o z all) =
          rw (ap stop? a) (reached-open base (stopped-snoc bs c f ∙ rw a) total (z ∙ ap (λ n. n + (outcome_of c).count) h ∙ sym (holds ∙ rw a)) leaves
          (rw (given-snoc bs c f wants a, append-nil (given bs)) o))
      go (next-stops x) =
          let m : ℕ = w.total + (outcome_of c).count + length log in
          rw (ap stop? x.says) (reached-shut x.ending (stopped-snoc bs c f ∙ rw x.says)
          (λ d. told-snoc bs c f d (stops x.ending) x.says
          ∙ ap (λ l. record { records = l; ending = x.ending }) (append-nil (given bs))
          ∙ sym (x.final m (omega arith))
          ∙ ap (walk judge sh 0) (take_all m log (omega arith)))
          (rw (given-snoc bs c f (stops x.ending) x.says, append-nil (given bs)) x.came) x.shut)

  -- A walker that is shut says the same again, takes nothing and leaves the hold as it is, at every call from there on.
  pub shut-repeats : {ended : Bool} {todo : List ℕ} {w : Walker Shape} {last : List ℕ} (e : Ending) (cs : List (Call (Walker Shape) Rec))
      (d : Call (Walker Shape) Rec) (ds : List (Call (Walker Shape) Rec)) → Shut judge full most wrong sh log e w
      → CallsOf judge full most wrong ended todo w last (cs ++ (d ∷ ds)) → outcome_of d ≡ still w (lent_to d) e
  shut-repeats e [] d ds k (feeds {p = p} {w = w} {hold = hold} m l q r) =
      q ∙ feed-kept judge full most wrong w hold (k.ranged hold l.size) p e k.keeps
  shut-repeats e [] d ds k (closes {w = w} {hold = hold} m l q r) =
      q ∙ close-kept judge full most wrong w hold (k.ranged hold l.size) e k.keeps
  shut-repeats {ended} {todo} e (c ∷ cs) d ds k (feeds {p = p} {w = w} {hold = hold} {o = o} m l q r) =
      let i = q ∙ feed-kept judge full most wrong w hold (k.ranged hold l.size) p e k.keeps in
      shut-repeats {ended = ended || stop? o.answer} {todo = drop o.count todo} e cs d ds (rw i k) r ∙ rw i
  shut-repeats {ended} {todo} e (c ∷ cs) d ds k (closes {w = w} {hold = hold} {o = o} m l q r) =
      let i = q ∙ close-kept judge full most wrong w hold (k.ranged hold l.size) e k.keeps in
      shut-repeats {ended = ended || stop? o.answer} {todo = todo} e cs d ds (rw i k) r ∙ rw i

  module _ (able : Feedable judge full wrong) (short : length log ≤ most) where
    -- the first call of what is left of a run, and the rest of it
    one-call : {bs : List (Call (Walker Shape) Rec)} {ended : Bool} {todo : List ℕ} {w : Walker Shape} {last : List ℕ} {c : Call (Walker Shape) Rec}
        {cs : List (Call (Walker Shape) Rec)} → Reached bs w last ended todo → CallsOf judge full most wrong ended todo w last (c ∷ cs)
        → Called bs c ended todo
        × CallsOf judge full most wrong (ended || stop? (outcome_of c).answer) (drop (outcome_of c).count todo) (outcome_of c).walker (outcome_of c).hold cs
    one-call (reached-open base f t h left o) (feeds {p = p} {w = w} {last = last} {hold = hold} m l q r) =
        (called-open w f t h left (rw q (feed-step judge full most wrong sh log able short base _ p m.0 w last hold (left ∙ m.1) o l)), r)
    one-call (reached-open base f t h left o) (closes {w = w} {last = last} {hold = hold} {o = x} m l q r) =
        let none : x.count ≡ 0 = ap (λ y. y.count) q ∙ (close-still judge full most wrong w hold).0 in
        (called-open w f t h left (rw q (close-step judge full most wrong sh log able short base _ w last hold (left ∙ m) o l)), rw none r)
    one-call (reached-shut e t f g k) (feeds {p = p} {w = w} {hold = hold} m l q r) =
        (called-shut w e t f g k (q ∙ feed-kept judge full most wrong w hold (k.ranged hold l.size) p e k.keeps), r)
    one-call (reached-shut e t f g k) (closes {w = w} {hold = hold} {o = x} m l q r) =
        let none : x.count ≡ 0 = ap (λ y. y.count) q ∙ (close-still judge full most wrong w hold).0 in
        (called-shut w e t f g k (q ∙ close-kept judge full most wrong w hold (k.ranged hold l.size) e k.keeps), rw none r)

    -- the state after the first calls of what is left of a run
    reach : {ended : Bool} {todo : List ℕ} {w : Walker Shape} {last : List ℕ} (ds bs cs : List (Call (Walker Shape) Rec)) → Reached ds w last ended todo
        → CallsOf judge full most wrong ended todo w last (bs ++ cs)
        → (over : Bool) × (left : List ℕ) × (v : Walker Shape) × (hold : List ℕ) × Reached (ds ++ bs) v hold over left × CallsOf judge full most wrong over left v hold cs
    reach {ended} {todo} {w} {last} ds [] cs s r = (ended, todo, w, last, rw (append-nil ds) s, r)
    reach {ended} {todo} ds (b ∷ bs) cs s r =
        let (c, r') = one-call s r in
        let (over, left, v, hold, t, z) =
        reach {ended = ended || stop? (outcome_of b).answer} {todo = drop (outcome_of b).count todo} (ds ++ (b ∷ [])) bs cs (called-reached c) r' in
        (over, left, v, hold, rw (append_assoc ds (b ∷ []) bs) at t, z)

    -- ---- from a fresh walker

    module _ (last : List ℕ) (ok : wrong 0 sh ≡ false) where
      -- A fresh walker is open, with nothing held and no records given.
      pub fresh-open : Open judge full most wrong sh log 0 [] (fresh sh) last
      fresh-open =
          let rest : (k : ℕ) → walk_to judge sh log (0 + k) ≡ adds [] (walk judge sh 0 (part_of log 0 k)) = λ k. rw (zero-add k) in
          record {
            awake = refl;
            fine = ok;
            place = refl;
            reach = omega arith;
            bytes = refl;
            waits = (able.steady sh 0).opens;
            rest = rest;
            sofar = λ m h.
                let e : m ≡ 0 + 0 = omega arith in
                rw e (rest-before judge full most wrong sh log able short sh 0 0 [] (rest 0) (able.steady sh 0).opens);
            went = stays;
          }

      -- The state after the first calls of a run is reached.
      pub after-calls : (bs cs : List (Call (Walker Shape) Rec)) → RunOf judge full most wrong log (fresh sh) last (bs ++ cs)
          → (over : Bool) × (left : List ℕ) × (v : Walker Shape) × (hold : List ℕ) × Reached bs v hold over left × CallsOf judge full most wrong over left v hold cs
      after-calls bs cs r = reach [] bs cs (reached-open 0 refl refl refl refl fresh-open) r

      -- So any call of a run is made in such a state; and the rest of the run.
      pub call_at : (bs : List (Call (Walker Shape) Rec)) (c : Call (Walker Shape) Rec) (cs : List (Call (Walker Shape) Rec))
          → RunOf judge full most wrong log (fresh sh) last (bs ++ (c ∷ cs))
          → (over : Bool) × (left : List ℕ) × Called bs c over left
          × CallsOf judge full most wrong (over || stop? (outcome_of c).answer) (drop (outcome_of c).count left) (outcome_of c).walker (outcome_of c).hold cs
      call_at bs c cs r = let (over, left, v, hold, s, z) = after-calls bs (c ∷ cs) r in let (d, y) = one-call s z in (over, left, d, y)
