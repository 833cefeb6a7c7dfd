-- Laws of lists of calls (specs/Run.antt): what calls took, hold and told, where one list of calls follows another; and runs of one
-- type of walker as runs of another.
--   adds                        records before what is told
--   calls_seen-append, -stopped, -told   calls of walkers that are seen as walkers of another type
--   calls_seen_lem, order-seen      where each walker keeps its promises as such, a run of the first is a run of the second, in order too
-- Assumes nothing.
use Prim.Native.Nat.{ℕ, ◌+◌}
use mathlib.Core.Path.{◌≡◌, refl, sym, ap, ◌∙◌}
use mathlib.Core.Bool.{Bool, true, false, ◌||◌, cond}
use mathlib.Core.List.{List, [], ◌∷◌, ◌++◌}
use native.Mathlib.Nat.{zero-add, add_assoc}
use Rattle.numbers.proofs.ByCases.{both}
use Rattle.refusal.specs.declared.Ending.{Ending}
use Rattle.pieces.specs.Walk.{Told, add}
use Rattle.pieces.specs.Feed.{Answer, gives, stops, wants, Outcome}
use Rattle.pieces.specs.Run.{Call, fed_call, close_call, tells, record?, stop?, outcome_of, stopped, took, holding, told, Lent, Calls, rests, feeds, closes, InOrder, passes, feeds_on, closes_all, seen_as, call_seen, calls_seen}
use Rattle.pieces.specs.Prompt.{given}

-- records, and then what is told
abbrev pub adds : {Rec : Type 0} → List Rec → Told Rec → Told Rec
adds rs t = record { records = rs ++ t.records; ending = t.ending }

module _ {W Rec : Type 0} where
  -- The records told do not depend on the ending that stands for none.
  pub told-records : (d e : Ending) (cs : List (Call W Rec)) → (told d cs).records ≡ (told e cs).records
  told-records d e [] = refl
  told-records d e (c ∷ cs) = go (outcome_of c).answer (told-records d e cs)
    where
      go : (a : Answer Rec) → (told d cs).records ≡ (told e cs).records → (tells a (told d cs)).records ≡ (tells a (told e cs)).records
      go (gives r) ih = ap (λ l. r ∷ l) ih
      go (stops x) ih = refl
      go wants ih = ih

  module _ (cs : List (Call W Rec)) where
    -- Two lists of calls, one after the other, stopped where either did.
    pub stopped-append : (bs : List (Call W Rec)) → stopped (bs ++ cs) ≡ stopped bs || stopped cs
    stopped-append [] = refl
    stopped-append (b ∷ bs) = go (stop? (outcome_of b).answer) (stopped-append bs)
      where
        go : (t : Bool) → stopped (bs ++ cs) ≡ stopped bs || stopped cs → t || stopped (bs ++ cs) ≡ t || stopped bs || stopped cs
        go true ih = refl
        go false ih = ih

    -- They took what both took.
    pub took-append : (bs : List (Call W Rec)) → took (bs ++ cs) ≡ took bs + took cs
    took-append [] = sym (zero-add (took cs))
    took-append (b ∷ bs) = ap (λ n. (outcome_of b).count + n) (took-append bs) ∙ sym (add_assoc (outcome_of b).count (took bs) (took cs))

    -- The second goes on with what the first holds.
    pub holding-append : (h : ℕ) (bs : List (Call W Rec)) → holding h (bs ++ cs) ≡ holding (holding h bs) cs
    holding-append h [] = refl
    holding-append h (b ∷ bs) = holding-append (cond (record? (outcome_of b).answer) 0 (h + (outcome_of b).count)) bs

    -- After calls that did not stop, what later calls told comes after their records.
    pub told-append : (e : Ending) (bs : List (Call W Rec)) → stopped bs ≡ false → told e (bs ++ cs) ≡ adds (given bs) (told e cs)
    told-append e [] f = refl
    told-append e (b ∷ bs) f = go (outcome_of b).answer f (told-append e bs)
      where
        go : (a : Answer Rec) → stop? a || stopped bs ≡ false → (stopped bs ≡ false → told e (bs ++ cs) ≡ adds (given bs) (told e cs))
            → tells a (told e (bs ++ cs)) ≡ adds (tells a (told (Ending.End 0 0) bs)).records (told e cs)
        go (gives r) f ih = ap (add r) (ih f)
        go (stops x) f ih = both refl f
        go wants f ih = ih f

    -- After calls that stopped, nothing more is told.
    pub told-stopped : (e : Ending) (bs : List (Call W Rec)) → stopped bs ≡ true → told e (bs ++ cs) ≡ told e bs
    told-stopped e [] t = both t refl
    told-stopped e (b ∷ bs) t = go (outcome_of b).answer t (told-stopped e bs)
      where
        go : (a : Answer Rec) → stop? a || stopped bs ≡ true → (stopped bs ≡ true → told e (bs ++ cs) ≡ told e bs)
            → tells a (told e (bs ++ cs)) ≡ tells a (told e bs)
        go (gives r) t ih = ap (add r) (ih t)
        go (stops x) t ih = refl
        go wants t ih = ih t

-- ---- walkers of one type, seen as walkers of another

module _ {W X Rec : Type 0} (see : W → X) where
  pub calls_seen-append : (bs cs : List (Call W Rec)) → calls_seen see (bs ++ cs) ≡ calls_seen see bs ++ calls_seen see cs
  calls_seen-append [] cs = refl
  calls_seen-append (b ∷ bs) cs = ap (λ l. call_seen see b ∷ l) (calls_seen-append bs cs)

  pub calls_seen-told : (e : Ending) (cs : List (Call W Rec)) → told e (calls_seen see cs) ≡ told e cs
  calls_seen-told e [] = refl
  calls_seen-told e (fed_call p h o ∷ cs) = ap (tells o.answer) (calls_seen-told e cs)
  calls_seen-told e (close_call h o ∷ cs) = ap (tells o.answer) (calls_seen-told e cs)

  pub calls_seen-stopped : (cs : List (Call W Rec)) → stopped (calls_seen see cs) ≡ stopped cs
  calls_seen-stopped [] = refl
  calls_seen-stopped (fed_call p h o ∷ cs) = ap (λ t. stop? o.answer || t) (calls_seen-stopped cs)
  calls_seen-stopped (close_call h o ∷ cs) = ap (λ t. stop? o.answer || t) (calls_seen-stopped cs)

  module _ (full : ℕ) (held : W → ℕ) (held' : X → ℕ) (Feeds : W → List ℕ → List ℕ → Outcome W Rec → Type 0)
      (Closes : W → List ℕ → Outcome W Rec → Type 0) (Feeds' : X → List ℕ → List ℕ → Outcome X Rec → Type 0)
      (Closes' : X → List ℕ → Outcome X Rec → Type 0) (same : (w : W) → held' (see w) ≡ held w)
      (fed : (w : W) (hold p : List ℕ) (o : Outcome W Rec) → Feeds w hold p o → Feeds' (see w) hold p (seen_as see o))
      (shut : (w : W) (hold : List ℕ) (o : Outcome W Rec) → Closes w hold o → Closes' (see w) hold (seen_as see o)) where
    lent_seen : (w : W) {last hold : List ℕ} → Lent full (held w) last hold → Lent full (held' (see w)) last hold
    lent_seen w l = rw (same w) l

    pub calls_seen_lem : {ended : Bool} {todo : List ℕ} {w : W} {last : List ℕ} {cs : List (Call W Rec)} → Calls full held Feeds Closes ended todo w last cs
        → Calls full held' Feeds' Closes' ended todo (see w) last (calls_seen see cs)
    calls_seen_lem rests = rests
    calls_seen_lem (feeds {p = p} {w = w} {hold = hold} {o = o} m l f r) = feeds m (lent_seen w l) (fed w hold p o f) (calls_seen_lem r)
    calls_seen_lem (closes {w = w} {hold = hold} {o = o} m l c r) = closes m (lent_seen w l) (shut w hold o c) (calls_seen_lem r)

    pub order-seen : {ps : List (List ℕ)} {w : W} {last : List ℕ} {cs : List (Call W Rec)} → InOrder full held Feeds Closes ps w last cs
        → InOrder full held' Feeds' Closes' ps (see w) last (calls_seen see cs)
    order-seen (passes r) = passes (order-seen r)
    order-seen (feeds_on {p = p} {w = w} {hold = hold} {o = o} l f r) = feeds_on (lent_seen w l) (fed w hold p o f) (order-seen r)
    order-seen (closes_all {w = w} {hold = hold} {o = o} l c) = closes_all (lent_seen w l) (shut w hold o c)
