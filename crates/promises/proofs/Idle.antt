-- Idle programs do not meet the promise of a walk over slots (document 01, "How tight a promise is"): each is barred by the theorem that the
-- document names, on a named log.
--   log-divides, empty-divides   two logs that are well formed, by their fields and not by a walk
--   refuses-everything   barred by acceptance: a log that divides must be accepted
--   one-answer-for-all   barred by acceptance: no answer is right for an empty log and for one with a record
--   touches-no-slot      barred by the slot rules: the first slot must hold the record
-- Assumes nothing.
use Prim.Native.Nat.{ℕ, zero, suc}
use mathlib.Core.Path.{◌≡◌, refl, sym, ap, ◌∙◌}
use mathlib.Core.List.{List, [], ◌∷◌, ◌++◌}
use native.Mathlib.Omega.{arith}
use lib.ListN.{take, replicate, get_or}
use Rattle.numbers.proofs.ByCases.{never}
use Rattle.numbers.specs.Number.{bytes_of}
use Rattle.numbers.specs.Range.{span_of}
use Rattle.refusal.specs.declared.Refusal.{Refusal}
use Rattle.refusal.specs.declared.Ending.{Ending}
use Rattle.event.specs.Types.{type_of}
use Rattle.contents.specs.declared.Contents.{Contents}
use Rattle.contents.specs.declared.Separated.{Separated}
use Rattle.contents.specs.Sound.{uefi}
use Rattle.contents.proofs.Cases.{computing as data_computing}
use Rattle.pieces.specs.Walk.{walk_f, walk, whole_walk}
use Rattle.record.specs.declared.Kind.{Kind}
use Rattle.record.specs.declared.Slot.{Slot}
use Rattle.record.specs.Record.{shape_of, opening_shape}
use Rattle.record.specs.Whole.{Lies}
use Rattle.record.proofs.Cases.{computing as record_computing}
use Rattle.walk.specs.declared.Walked.{Walked}
use Rattle.standing.specs.Serials.{how_many, numbered}
use Rattle.walk.specs.Fill.{walked_of, FillSays}
use Rattle.walk.specs.Divides.{Divides, none, next}
use Rattle.promises.specs.Answers.{records_of}
use Rattle.promises.specs.Bench.{one, first_slot}
use Rattle.promises.proofs.Acceptance.{accepted}
use Rattle.promises.proofs.Slots.{slots_filled}

-- the listing's log: one record, and a byte over
abbrev pub log : List ℕ
log = one 4 (replicate 4 0) ++ (7 ∷ [])

-- a slot that no record has
abbrev blank : Slot
blank = record { start = 7; register = 7; event = 7; digest_place = 7; digests = 7; serial = 0; «data» = span_of 7 7; contents = Contents.Empty }

abbrev pub only : Slot
only = first_slot 4 4 (Contents.Separator Separated.Uefi)

-- ---- two logs that are well formed

log-lies : Lies opening_shape 0 (one 4 (replicate 4 0)) only (shape_of Kind.Sha1 opening_shape.pairs)
unfolding bytes_of type_of
log-lies = record {
  whole = record {
    register = 0;
    event = 4;
    count = 1;
    digests = replicate 20 0;
    body = replicate 4 0;
    fits = (omega arith, omega arith);
    digested = (refl, refl);
    spelt = refl;
    short = omega arith;
  };
  contents = Contents.Separator Separated.Uefi;
  holds = (uefi refl, refl);
  told = refl;
}

pub log-divides : Divides log (only ∷ []) 36 1
unfolding bytes_of
log-divides = record {
  front = one 4 (replicate 4 0);
  rest = 7 ∷ [];
  last = shape_of Kind.Sha1 opening_shape.pairs;
  begins = record { whole = refl; chain = next log-lies none };
  ends = refl;
  over = refl;
  few = omega arith;
}

pub empty-divides : Divides [] [] 0 0
empty-divides = record { front = []; rest = []; last = opening_shape; begins = record { whole = refl; chain = none }; ends = refl; over = refl; few = omega arith }

-- ---- by acceptance

-- a walk of the log over one slot must end so
log-accepted : (r : Walked) (slots : List Slot) → FillSays log (blank ∷ []) r slots → r ≡ walked_of 1 (Ending.End 36 1)
unfolding bytes_of how_many numbered
log-accepted r slots says = ((accepted log (blank ∷ []) r slots says (only ∷ []) 36 1).1 (only ∷ [], refl, (omega arith, omega arith, log-divides))).0

empty-accepted : (r : Walked) (slots : List Slot) → FillSays [] (blank ∷ []) r slots → r ≡ walked_of 0 (Ending.End 0 0)
unfolding numbered
empty-accepted r slots says = ((accepted [] (blank ∷ []) r slots says [] 0 0).1 ([], refl, (omega arith, omega arith, empty-divides))).0

-- A program that refuses everything, whatever it says of slots, number and place.
pub refuses-everything : (n : ℕ) (x : Refusal) (slots : List Slot) → FillSays log (blank ∷ []) (walked_of n (Ending.Refused x)) slots → ⊥
refuses-everything n x slots says =
    let e : Ending.Refused x ≡ Ending.End 36 1 = ap (λ y. y.ending) (log-accepted (walked_of n (Ending.Refused x)) slots says) in never cc

-- A program that gives one answer for all logs.
pub one-answer-for-all : (r : Walked) (slots slots' : List Slot) → FillSays [] (blank ∷ []) r slots → FillSays log (blank ∷ []) r slots' → ⊥
one-answer-for-all r slots slots' says says' = never (ap (λ y. y.filled) (sym (empty-accepted r slots says) ∙ log-accepted r slots' says'))

-- ---- by the slot rules

log-records : records_of log ≡ only ∷ []
unfolding data_computing record_computing walk_f walk whole_walk how_many numbered
log-records = refl

-- however many of the slots are filled, the first one is blank
first-blank : (n : ℕ) → (get_or (take n (blank ∷ [])) 0 blank).start ≡ 7
first-blank zero = refl
first-blank (suc n) = refl

-- A program that leaves every slot as it was, whatever it answers.
pub touches-no-slot : (r : Walked) → FillSays log (blank ∷ []) r (blank ∷ []) → ⊥
touches-no-slot r says =
    let held : take r.filled (blank ∷ []) ≡ only ∷ [] = slots_filled log (blank ∷ []) r (blank ∷ []) says ∙ ap (take 1) log-records in
    let n : ◌≡◌ {A = ℕ} 7 0 = sym (first-blank r.filled) ∙ ap (λ y. (get_or y 0 blank).start) held in
    absurd (omega (arith, n))
