-- Idle feeds do not meet what is promised of a call (`Prompt`, which proofs/Pieces.antt proves of every call of every run): on a named list of
-- pieces the call, written out, contradicts it, whatever it leaves in the walker and in the hold. The log is the listing's: a record of 36 bytes,
-- and a byte over.
-- Barred by the same-call clause:
--   gathers-all     a feed that takes the whole log and wants more, to answer at closing
--   walks-ahead     a feed that gives the record when it has had 10 bytes of it
-- Barred by the feed rule, since they invent the bytes taken:
--   invents-fewer, invents-more   a feed that gives the record and says that it took fewer bytes than it needs, or more
--   wants-fewer, wants-more       a feed that is fed 10 bytes, wants more, and says that it took fewer, or more
-- Assumes nothing.
use Prim.Native.Nat.{ℕ, ◌+◌, ◌≤◌, ◌<◌}
use mathlib.Core.Path.{◌≡◌, refl, sym, ap, ◌∙◌}
use mathlib.Core.List.{List, [], ◌∷◌}
use native.Mathlib.Omega.{arith}
use lib.ListN.{length, take, length-take}
use Rattle.numbers.proofs.ByCases.{never}
use Rattle.numbers.specs.Number.{bytes_of}
use Rattle.pieces.specs.Verdict.{Verdict, more, sound, refused}
use Rattle.pieces.specs.Walk.{Told, walk}
use Rattle.pieces.specs.Account.{With}
use Rattle.pieces.specs.Feed.{Walker, gives, wants, Outcome}
use Rattle.pieces.specs.Run.{fed_call}
use Rattle.pieces.specs.Prompt.{Prompt}
use Rattle.pieces.proofs.WalkLaws.{walk_more, walk-sound, walk_refused}
use Rattle.record.specs.declared.Shape.{Shape}
use Rattle.record.specs.declared.Slot.{Slot}
use Rattle.record.proofs.RecordLaws.{record-placed}
use Rattle.standing.specs.Standing.{Standing, counted_judge, opening}
use Rattle.standing.proofs.CountedLaws.{counted-steady, counted-sound}
use Rattle.walk.proofs.Cases.{computing as walk_computing}
use Rattle.promises.proofs.Idle.{log, only}

-- the first call of a run over the log, fed a piece
abbrev Same : List ℕ → List ℕ → Outcome (Walker (With Shape Standing)) Slot → Type 0
Same piece hold o = Prompt counted_judge opening log [] (fed_call piece hold o)

-- a walk that gives the record has had its 36 bytes: it ends with its data
whole-record : (p : List ℕ) → (walk counted_judge opening 0 p).records ≡ only ∷ [] → 36 ≤ length p
whole-record p e = go (counted_judge opening 0 p) refl
  where
    go : (v : Verdict (With Shape Standing) Slot) → counted_judge opening 0 p ≡ v → 36 ≤ length p
    go (more s t) j = let f = ap (λ (t : Told Slot). t.records) (sym (walk_more counted_judge counted-steady opening 0 p s t j)) ∙ e in never cc
    go (refused r) j = let f = ap (λ (t : Told Slot). t.records) (sym (walk_refused counted_judge counted-steady opening 0 p r j)) ∙ e in never cc
    go (sound slot n next) j =
        let f = ap (λ (t : Told Slot). t.records) (sym (walk-sound counted_judge counted-steady opening 0 p slot n next j)) ∙ e in
        let same : slot ≡ only = cc in
        let (bare, judged, marked, moved) = counted-sound opening 0 p slot n next j in
        let ends = (record-placed opening.shape 0 p bare n next.shape judged).ends in
        let place : bare.«data».at + bare.«data».len ≡ 36 = ap (λ (s : Slot). s.«data».at + s.«data».len) (sym marked ∙ same) in
        omega (arith, ((counted-steady opening 0).whole p slot n next j).0, ends, place)

module _ (hold hold' : List ℕ) (w : Walker (With Shape Standing)) where
  -- The first call takes the log whole and wants more: but the walk of these bytes has a record.
  pub gathers-all : Same log hold (record { answer = wants; count = 37; walker = w; hold = hold' }) → ⊥
  unfolding walk_computing
  gathers-all p = let (all, none, early) = p.wanted refl in absurd (omega (arith, ap length none))

  -- The first call is fed 10 bytes and gives the record: but the walk of these bytes has none.
  pub walks-ahead : Same (take 10 log) hold (record { answer = gives only; count = 10; walker = w; hold = hold' }) → ⊥
  unfolding walk_computing
  walks-ahead p = absurd (omega (arith, ap length (p.gave only refl)))

  -- The first call gives the record and says fewer than 36: but the walk of so many bytes has none.
  pub invents-fewer : (n : ℕ) → n < 36 → Same log hold (record { answer = gives only; count = n; walker = w; hold = hold' }) → ⊥
  invents-fewer n h p = omega (arith, h, whole-record (take (0 + n) log) (p.gave only refl), length-take (0 + n) log)

  -- It says more than 36: but the walk of 36 bytes has it already.
  pub invents-more : (n : ℕ) → 36 < n → Same log hold (record { answer = gives only; count = n; walker = w; hold = hold' }) → ⊥
  unfolding walk_computing
  invents-more n h p = absurd (omega (arith, (p.gave-first only refl 36 (omega (arith, h))).few))

  -- The first call is fed 10 bytes, wants more and says fewer: but then it took the whole piece.
  pub wants-fewer : (n : ℕ) → n < 10 → Same (take 10 log) hold (record { answer = wants; count = n; walker = w; hold = hold' }) → ⊥
  unfolding bytes_of
  wants-fewer n h p = absurd (omega (arith, h, (p.wanted refl).0))

  -- It says more: but the piece has no more.
  pub wants-more : (n : ℕ) → 10 < n → Same (take 10 log) hold (record { answer = wants; count = n; walker = w; hold = hold' }) → ⊥
  unfolding bytes_of
  wants-more n h p = absurd (omega (arith, h, (p.takes refl).0))
