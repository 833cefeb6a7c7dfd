-- Worked cases of the words in which runs and promptness are stated (specs/Run.antt, specs/Prompt.antt), by computation; made-up walkers,
-- calls that are not prompt, and accounts beside the shape (specs/Account.antt). Assumes nothing.
use Rattle.std.specs.Prelude.{Option, None, Some}
use Prim.Native.Nat.{ℕ, ◌+◌}
use mathlib.Core.Path.{◌≡◌, refl, ap}
use mathlib.Core.Bool.{Bool, true, false}
use mathlib.Core.List.{List, [], ◌∷◌, map}
use native.Mathlib.Omega.{arith}
use lib.ListN.{length, take, drop, get_or}
use Rattle.numbers.proofs.ByCases.{never}
use Rattle.refusal.specs.declared.Ending.{Ending}
use Rattle.refusal.specs.declared.Why.TheVariants.{FieldCut, BadValue, OutOfRange}
use Rattle.refusal.specs.Endings.{refused_with}
use Rattle.refusal.specs.Refusals.{number_of}
use Rattle.pieces.specs.Account.{accounted}
use Rattle.pieces.specs.Taken.{taken}
use Rattle.pieces.specs.Feed.{Walker, Answer, Outcome, gives, stops, wants, fresh, feed_of, close_of}
use Rattle.pieces.specs.Walk.{Told, walk_f, walk}
use Rattle.pieces.specs.Run.{join, Call, fed_call, close_call, after, stopped, took, holding, told, calls_seen}
use Rattle.pieces.specs.Prompt.{Early, an-end, a-cut, Before, piece_of, lent_to, given, up_to, Prompt}
use Rattle.pieces.proofs.Toy.{Item, judge}

-- more log may change the end and a field that is cut, and no other refusal
early-endings : Early (Ending.End 3 1) × Early (refused_with FieldCut 4)
early-endings = (an-end, a-cut)

abbrev EndOrCut : Ending → Type 0
EndOrCut (Ending.End at tail) = Unit {0}
EndOrCut (Ending.Refused r) = r.why ≡ FieldCut

no-other-early-ending : (e : Ending) → Early e → EndOrCut e
no-other-early-ending (Ending.End at tail) an-end = tt
no-other-early-ending (Ending.Refused r) a-cut = refl

-- a walk with a record more is not before it
one-record-more : Before {Rec = ℕ} [] (record { records = 7 ∷ []; ending = Ending.End 3 0 }) → ⊥
one-record-more b = absurd (omega (arith, b.few))

-- ---- four calls, of walkers and records that are numbers: 2 bytes are taken, a record with 3 more, 1 byte more, a close

abbrev outcome : Answer ℕ → ℕ → Outcome ℕ ℕ
outcome answer count = record { answer = answer; count = count; walker = 20; hold = 30 ∷ [] }

abbrev calls : List (Call ℕ ℕ)
calls =
    fed_call (1 ∷ 2 ∷ []) (40 ∷ []) (outcome wants 2)
    ∷ fed_call (3 ∷ 4 ∷ 5 ∷ 6 ∷ []) (50 ∷ []) (outcome (gives 7) 3)
    ∷ fed_call (6 ∷ []) (60 ∷ []) (outcome wants 1)
    ∷ close_call (70 ∷ []) (outcome (stops (Ending.End 5 1)) 0)
    ∷ []

fed-and-lent : (map piece_of calls ≡ (1 ∷ 2 ∷ []) ∷ (3 ∷ 4 ∷ 5 ∷ 6 ∷ []) ∷ (6 ∷ []) ∷ [] ∷ []) × (map lent_to calls ≡ (40 ∷ []) ∷ (50 ∷ []) ∷ (60 ∷ []) ∷ (70 ∷ []) ∷ [])
fed-and-lent = (refl, refl)

-- six bytes, of which one since the record
counted : (took calls ≡ 6) × (holding 9 calls ≡ 1) × (up_to calls (close_call [] (outcome wants 4)) ≡ 10)
counted = (refl, refl, refl)

told-in-order : (e : Ending) → (told e calls ≡ record { records = 7 ∷ []; ending = Ending.End 5 1 }) × (given calls ≡ 7 ∷ []) × (stopped calls ≡ true)
told-in-order e = (refl, refl, refl)

-- without a stop, the ending that is handed in
told-so-far : (e : Ending) → told e (take 3 calls) ≡ record { records = 7 ∷ []; ending = e }
told-so-far e = refl

-- what is left of a piece after a record is fed again
fed-again : (after {Rec = ℕ} (gives 7) 3 (3 ∷ 4 ∷ 5 ∷ 6 ∷ []) ((8 ∷ []) ∷ []) ≡ (6 ∷ []) ∷ (8 ∷ []) ∷ []) × (after {Rec = ℕ} wants 2 (1 ∷ 2 ∷ []) ((8 ∷ []) ∷ []) ≡ (8 ∷ []) ∷ [])
fed-again = (refl, refl)

joined : join ((1 ∷ 2 ∷ []) ∷ [] ∷ (3 ∷ []) ∷ []) ≡ 1 ∷ 2 ∷ 3 ∷ []
joined = refl

-- seen as calls of another walker, only the walker is another
seen : calls_seen (λ (w : ℕ). w + 1) (drop 2 calls)
    ≡ fed_call (6 ∷ []) (60 ∷ []) (record { answer = wants; count = 1; walker = 21; hold = 30 ∷ [] })
    ∷ close_call (70 ∷ []) (record { answer = stops (Ending.End 5 1); count = 0; walker = 21; hold = 30 ∷ [] })
    ∷ []
seen = refl

-- ---- made-up walkers of the toy format (Toy.antt): a full hold has 4 bytes, a log at most 12

abbrev walker : ℕ → ℕ → Option Ending → Walker (Unit {0})
walker held total kept = record { shape = tt; held = held; total = total; kept = kept }

-- an ending is said, nothing is taken and nothing changes
abbrev stays : Walker (Unit {0}) → List ℕ → Ending → Outcome (Walker (Unit {0})) Item
stays w hold e = record { answer = stops e; count = 0; walker = w; hold = hold }

abbrev tested : Bool → ℕ → ℕ → List ℕ → Outcome (Walker (Unit {0})) Item
tested bad held total hold = feed_of judge 4 12 (λ t sh. bad) (walker held total None) hold []

-- 14 at 0: a hold of 3 bytes, 5 held, a total of 13, 3 held of a total of 2, a wrong shape
out-of-range : (tested false 0 0 (0 ∷ 0 ∷ 0 ∷ []) ≡ stays (walker 0 0 None) (0 ∷ 0 ∷ 0 ∷ []) (refused_with OutOfRange 0))
    × (tested false 5 12 (3 ∷ 0 ∷ 0 ∷ 0 ∷ 0 ∷ []) ≡ stays (walker 5 12 None) (3 ∷ 0 ∷ 0 ∷ 0 ∷ 0 ∷ []) (refused_with OutOfRange 0))
    × (tested false 0 13 (0 ∷ 0 ∷ 0 ∷ 0 ∷ []) ≡ stays (walker 0 13 None) (0 ∷ 0 ∷ 0 ∷ 0 ∷ []) (refused_with OutOfRange 0))
    × (tested false 3 2 (0 ∷ 0 ∷ 0 ∷ 0 ∷ []) ≡ stays (walker 3 2 None) (0 ∷ 0 ∷ 0 ∷ 0 ∷ []) (refused_with OutOfRange 0))
    × (tested true 0 0 (0 ∷ 0 ∷ 0 ∷ 0 ∷ []) ≡ stays (walker 0 0 None) (0 ∷ 0 ∷ 0 ∷ 0 ∷ []) (refused_with OutOfRange 0))
unfolding feed_of
out-of-range = (refl, refl, refl, refl, refl)

-- and none of these: 4 held of a hold of 4 bytes and of a total of 12, and of a total of 4
in-range : ((tested false 4 12 (3 ∷ 0 ∷ 0 ∷ 0 ∷ [])).answer ≡ gives (record { at = 8; bytes = 0 ∷ 0 ∷ 0 ∷ [] }))
    × ((tested false 4 4 (3 ∷ 0 ∷ 0 ∷ 0 ∷ [])).answer ≡ gives (record { at = 0; bytes = 0 ∷ 0 ∷ 0 ∷ [] }))
unfolding feed_of taken judge
in-range = (refl, refl)

-- a close inside a field: 2 at that field, and held and total are left
cut-at-a-close : close_of judge 4 12 (λ t sh. false) (walker 1 8 None) (2 ∷ 0 ∷ 0 ∷ 0 ∷ [])
    ≡ stays (walker 1 8 (Some (refused_with FieldCut 8))) (2 ∷ 0 ∷ 0 ∷ 0 ∷ []) (refused_with FieldCut 8)
unfolding close_of judge
cut-at-a-close = refl

-- an answer that is kept, at a close
kept-at-a-close : close_of judge 4 12 (λ t sh. false) (walker 1 8 (Some (Ending.End 3 1))) (2 ∷ 0 ∷ 0 ∷ 0 ∷ [])
    ≡ stays (walker 1 8 (Some (Ending.End 3 1))) (2 ∷ 0 ∷ 0 ∷ 0 ∷ []) (Ending.End 3 1)
unfolding close_of judge
kept-at-a-close = refl

-- ---- first calls that are not prompt, of the toy format (Toy.antt), besides those of proofs/IdleFeeds.antt of `promises`: the log is a record of two
-- bytes, or a length of 255 and a byte more

-- what they compute with
walking : Unit {0}
unfolding walk_f walk judge
walking = tt

-- to tell two records and two endings apart
abbrev byte_in : List Item → ℕ
byte_in [] = 0
byte_in (r ∷ rs) = get_or r.bytes 0 0

abbrev number_in : Ending → ℕ
number_in (Ending.End at tail) = 0
number_in (Ending.Refused r) = number_of r.why

module _ (w : Walker (Unit {0})) (hold hold' : List ℕ) where
  abbrev Prompts : List ℕ → Answer Item → ℕ → Type 0
  Prompts log answer count = Prompt judge tt log [] (fed_call log hold (record { answer = answer; count = count; walker = w; hold = hold' }))

  -- it wants more, and has not taken all
  wants-early : Prompts (1 ∷ 7 ∷ []) wants 1 → ⊥
  wants-early p = absurd (omega (arith, (p.wanted refl).0))

  -- it gives another record
  gives-another : Prompts (1 ∷ 7 ∷ []) (gives (record { at = 0; bytes = 8 ∷ [] })) 2 → ⊥
  unfolding walking
  gives-another p = absurd (omega (arith, ap byte_in (p.gave _ refl)))

  -- it refuses with another number; it refuses with a byte more
  refuses-otherwise : Prompts (255 ∷ 1 ∷ []) (stops (refused_with FieldCut 0)) 1 → ⊥
  unfolding walking
  refuses-otherwise p = absurd (omega (arith, ap (λ t. number_in t.ending) (p.stop refl _ refl)))

  refuses-late : Prompts (255 ∷ 1 ∷ []) (stops (refused_with BadValue 0)) 2 → ⊥
  unfolding walking
  refuses-late p = let e = no-other-early-ending _ (p.refused-first refl _ refl (λ f. never cc) 1 (omega arith)).early in never cc

-- it leaves other bytes at the hold's front
leaves-other-bytes : (w : Walker (Unit {0})) (hold : List ℕ)
    → Prompt judge tt (1 ∷ 7 ∷ []) [] (fed_call (1 ∷ 7 ∷ []) hold (record { answer = gives (record { at = 0; bytes = 7 ∷ [] }); count = 2; walker = w; hold = 1 ∷ 8 ∷ [] })) → ⊥
leaves-other-bytes w hold p = let e = p.front _ refl in never cc

-- it forgets to count the bytes it took
counts-nothing : (hold hold' : List ℕ)
    → Prompt judge tt (1 ∷ []) [] (fed_call (1 ∷ []) hold (record { answer = wants; count = 1; walker = fresh tt; hold = hold' })) → ⊥
counts-nothing hold hold' p = absurd (omega (arith, (p.takes refl).2))

-- ---- accounts of the toy format (Toy.antt): a record has a number where its start was

abbrev numbered : (ℕ → Item → List ℕ → ℕ) → List ℕ → Told Item
numbered on log = walk (accounted (λ a r. record { at = a; bytes = r.bytes }) (λ sh. on) judge) (record { shape = tt; account = 0 }) 0 log

-- the records before it, counted
numbered-in-order : numbered (λ a r x. a + 1) (1 ∷ 7 ∷ 0 ∷ 2 ∷ 8 ∷ 9 ∷ [])
    ≡ record {
      records = record { at = 0; bytes = 7 ∷ [] } ∷ record { at = 1; bytes = [] } ∷ record { at = 2; bytes = 8 ∷ 9 ∷ [] } ∷ [];
      ending = Ending.End 6 0;
    }
unfolding walking accounted
numbered-in-order = refl

-- their bytes, counted: that is its start
numbered-by-bytes : numbered (λ a r x. a + length x) (1 ∷ 7 ∷ 0 ∷ 2 ∷ 8 ∷ 9 ∷ []) ≡ walk judge tt 0 (1 ∷ 7 ∷ 0 ∷ 2 ∷ 8 ∷ 9 ∷ [])
unfolding walking accounted
numbered-by-bytes = refl
