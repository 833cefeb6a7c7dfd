-- A toy format, to show that the laws can be kept and how short an instance is. A record is a byte that says how many bytes follow, and
-- those bytes; 255 is refused with 9 at the record's start. A record reaches 4 bytes, a log 12, and every shape is right.
-- First the format, then the theorems at it, then worked cases by computation: logs, slots, made-up walkers, and a run of seven calls.
-- Assumes nothing.
use Rattle.std.specs.Prelude.{None, Some}
use Prim.Native.Nat.{ℕ, ◌+◌, ◌≤◌, ◌<◌}
use mathlib.Core.Path.{◌≡◌, refl}
use mathlib.Core.Bool.{Bool, true, false}
use mathlib.Core.List.{List, [], ◌∷◌, ◌++◌}
use native.Mathlib.Omega.{arith}
use lib.Dec.{eqb}
use lib.ListN.{length, take, get_or}
use Rattle.numbers.proofs.ByCases.{never}
use Rattle.refusal.specs.declared.Why.TheVariants.{LogTooLong, FieldCut, FieldTooFar, BadValue, NoSlot, TotalTooLong, OutOfRange}
use Rattle.refusal.specs.declared.Ending.{Ending}
use Rattle.refusal.specs.declared.Refusal.{Refusal}
use Rattle.refusal.specs.Endings.{refused_with}
use Rattle.refusal.specs.Tests.{refusal_of}
use Rattle.pieces.specs.Verdict.{more, sound, refused, Judge, decided, Steady}
use Rattle.pieces.specs.Plan.{Plan, want, give, deny, read}
use Rattle.pieces.specs.Walk.{Told, only, walk, whole_walk}
use Rattle.pieces.specs.Slots.{into}
use Rattle.pieces.specs.Taken.{taken}
use Rattle.pieces.specs.Feed.{Walker, Outcome, gives, stops, wants, fresh, still, feed_of, close_of, Feedable}
use Rattle.pieces.specs.Run.{join, Call, fed_call, close_call, outcome_of, told, Lent, rests, feeds, closes, RunOf, feeds_on, closes_all, InOrderOf}
use Rattle.pieces.specs.Prompt.{walk_to, Before, lent_to, Prompt}
use Rattle.pieces.proofs.PlanLaws.{Gives, Denies, read-steady, read-within, read-gives, read-denies}
use Rattle.pieces.proofs.TakenLaws.{jump, jump-taken, stop, stop-taken}
use Rattle.pieces.proofs.Agreement.{agreement-closed, order-run, order-agrees, order-exists}
use Rattle.pieces.proofs.Promptness.{prompt, repeats}

-- ---- the format

-- where a record starts, and the bytes after its length
pub record Item : Type 0 where
  pub at : ℕ
  pub bytes : List ℕ

-- n bytes follow, unless the length is 255
abbrev pub after-length : ℕ → ℕ → Bool → Plan (Unit {0}) Item
after-length base n true = deny (refusal_of BadValue base)
after-length base n false = want n (λ d. give (record { at = base; bytes = d }) tt)

abbrev pub after-byte : ℕ → List ℕ → Plan (Unit {0}) Item
after-byte base b = after-length base (get_or b 0 0) (eqb (get_or b 0 0) 255)

unfoldable pub judge : Judge (Unit {0}) Item
unfolding read
judge sh base = read 4 base (want 1 (after-byte base)) 0

abbrev pub wrong : ℕ → Unit {0} → Bool
wrong total sh = false

-- ---- the theorems, at the format

-- Its laws are those of every plan.
pub steady : (sh : Unit {0}) (base : ℕ) → Steady (judge sh base)
unfolding judge
steady sh base = read-steady 4 base 1 (after-byte base) (omega arith) (omega arith)

-- No field is waited for past 4 bytes.
pub within : (sh : Unit {0}) (base : ℕ) (p : List ℕ) (s e : ℕ) → judge sh base p ≡ more s e → e ≤ 4
unfolding judge
within sh base = read-within 4 base (want 1 (after-byte base))

able : Feedable judge 4 wrong
able = record { steady = steady; within = within; right = λ sh base p r n next j ok. refl; grows = λ sh t u h ok. refl }

-- Agreement, of every run with a close,
pub agrees : (log last : List ℕ) (bs : List (Call (Walker (Unit {0})) Item)) (hold : List ℕ) (o : Outcome (Walker (Unit {0})) Item)
    (cs : List (Call (Walker (Unit {0})) Item)) → length log ≤ 12 → RunOf judge 4 12 wrong log (fresh tt) last (bs ++ (close_call hold o ∷ cs)) → (e : Ending)
    → told e (bs ++ (close_call hold o ∷ cs)) ≡ walk judge tt 0 log
agrees log last bs hold o cs = agreement-closed judge 4 12 wrong able tt log last bs hold o cs refl

-- and of pieces fed in order.
pub order-tells : (ps : List (List ℕ)) (last : List ℕ) (cs : List (Call (Walker (Unit {0})) Item)) → length (join ps) ≤ 12
    → InOrderOf judge 4 12 wrong ps (fresh tt) last cs → (e : Ending) → told e cs ≡ walk judge tt 0 (join ps)
order-tells ps last cs = order-agrees judge 4 12 wrong able tt ps last cs refl

-- Promptness.
pub is-prompt : (log last : List ℕ) (bs : List (Call (Walker (Unit {0})) Item)) (c : Call (Walker (Unit {0})) Item) (cs : List (Call (Walker (Unit {0})) Item))
    → length log ≤ 12 → RunOf judge 4 12 wrong log (fresh tt) last (bs ++ (c ∷ cs)) → Prompt judge tt log bs c
is-prompt log last bs c cs = prompt judge 4 12 wrong able tt log last bs c cs refl

-- After a stop, the same again.
pub says-again : (log last : List ℕ) (bs : List (Call (Walker (Unit {0})) Item)) (c : Call (Walker (Unit {0})) Item) (cs : List (Call (Walker (Unit {0})) Item))
    (d : Call (Walker (Unit {0})) Item) (ds : List (Call (Walker (Unit {0})) Item)) (e : Ending) → length log ≤ 12
    → RunOf judge 4 12 wrong log (fresh tt) last (bs ++ (c ∷ (cs ++ (d ∷ ds)))) → (outcome_of c).answer ≡ stops e
    → outcome_of d ≡ still (outcome_of c).walker (lent_to d) e
says-again log last bs c cs d ds e = repeats judge 4 12 wrong able tt log last bs c cs d ds e refl

-- There are calls that feed pieces in order.
pub has-calls : (ps : List (List ℕ)) (hold : List ℕ) → length (join ps) ≤ 12 → 4 ≤ length hold
    → (cs : List (Call (Walker (Unit {0})) Item)) × InOrderOf judge 4 12 wrong ps (fresh tt) hold cs
has-calls ps hold = order-exists judge 4 12 wrong able tt ps hold refl

-- To go from field's end to field's end takes the same bytes,
pub jumps : (base : ℕ) (h p : List ℕ) → jump (judge tt base) h p ≡ taken (judge tt base) h p
jumps base = jump-taken (judge tt base) (steady tt base)

-- and so does to read on.
pub reads_on : (base : ℕ) (h p : List ℕ) → decided (judge tt base h) ≡ false → stop 4 (want 1 (after-byte base)) 0 (h ++ p) ≡ length h + taken (judge tt base) h p
unfolding judge
reads_on base = stop-taken 4 base (want 1 (after-byte base)) (steady tt base)

-- r starts at `base`, and its n bytes are a length and the bytes after it
abbrev Sized : ℕ → Item → ℕ → Unit {0} → Type 0
Sized base r n next = (r.at ≡ base) × (n ≡ 1 + length r.bytes)

-- Every record starts where it was found, and is as long as its length says.
pub items-sized : (base : ℕ) (p : List ℕ) (r : Item) (n : ℕ) (next : Unit {0}) → judge tt base p ≡ sound r n next → Sized base r n next
unfolding judge
items-sized base p r n next = read-gives 4 base (Sized base) (want 1 (after-byte base)) 0 p r n next (λ b l. go (get_or b 0 0) (eqb (get_or b 0 0) 255))
  where
    go : (n : ℕ) (t : Bool) → Gives (Sized base) (after-length base n t) 1
    go n true = tt
    go n false = λ d e. (refl, omega arith)

-- It never says 2 itself: only a log that ends does.
pub never-cut : (base : ℕ) (p : List ℕ) (r : Refusal) → judge tt base p ≡ refused r → r.why ≡ FieldCut → ⊥
unfolding judge
never-cut base p r = read-denies 4 base (λ r. r.why ≡ FieldCut → ⊥) (λ at e. never cc) (want 1 (after-byte base)) 0 p r
    (λ b l. go (get_or b 0 0) (eqb (get_or b 0 0) 255))
  where
    go : (n : ℕ) (t : Bool) → Denies (λ (r : Refusal). r.why ≡ FieldCut → ⊥) (after-length base n t)
    go n true = λ e. never cc
    go n false = λ d e. tt

-- ---- logs

unfoldable walked : List ℕ → Told Item
unfolding walk judge
walked log = walk judge tt 0 log

two_records : walked (1 ∷ 7 ∷ 2 ∷ 8 ∷ 9 ∷ [])
    ≡ record { records = record { at = 0; bytes = 7 ∷ [] } ∷ record { at = 2; bytes = 8 ∷ 9 ∷ [] } ∷ []; ending = Ending.End 5 0 }
unfolding walked
two_records = refl

second-cut : walked (1 ∷ 7 ∷ 2 ∷ 8 ∷ []) ≡ record { records = record { at = 0; bytes = 7 ∷ [] } ∷ []; ending = refused_with FieldCut 3 }
unfolding walked
second-cut = refl

second-refused : walked (0 ∷ 255 ∷ 2 ∷ []) ≡ record { records = record { at = 0; bytes = [] } ∷ []; ending = refused_with BadValue 1 }
unfolding walked
second-refused = refl

-- three bytes after the length fit; four do not, and that is 3 and not 2
reach-to-the-last-byte : walked (3 ∷ []) ≡ only (refused_with FieldCut 1)
unfolding walked
reach-to-the-last-byte = refl

one-byte-too-far : walked (4 ∷ []) ≡ only (refused_with FieldTooFar 1)
unfolding walked
one-byte-too-far = refl

-- one slot, and two records
slot-short : into (λ (r : Item). r.at) 1 (walked (1 ∷ 7 ∷ 2 ∷ 8 ∷ 9 ∷ [])) ≡ record { records = record { at = 0; bytes = 7 ∷ [] } ∷ []; ending = refused_with NoSlot 2 }
unfolding walked into
slot-short = refl

log-too-long : whole_walk judge 12 tt (0 ∷ 0 ∷ 0 ∷ 0 ∷ 0 ∷ 0 ∷ 0 ∷ 0 ∷ 0 ∷ 0 ∷ 0 ∷ 0 ∷ 0 ∷ []) ≡ only (refused_with LogTooLong 12)
unfolding whole_walk
log-too-long = refl

-- ---- made-up walkers

abbrev Fed : Type 0
Fed = Outcome (Walker (Unit {0})) Item

unfoldable feed : Walker (Unit {0}) → List ℕ → List ℕ → Fed
unfolding feed_of taken judge
feed w hold p = feed_of judge 4 12 wrong w hold p

unfoldable close : Walker (Unit {0}) → List ℕ → Fed
unfolding close_of judge
close w hold = close_of judge 4 12 wrong w hold

-- `held` of `total` bytes, and nothing kept
abbrev walker : ℕ → ℕ → Walker (Unit {0})
walker held total = record { shape = tt; held = held; total = total; kept = None }

-- the same, and e is kept
abbrev done : ℕ → ℕ → Ending → Walker (Unit {0})
done held total e = record { shape = tt; held = held; total = total; kept = Some e }

-- three held bytes of which two are a record: the record, 0 taken, at a feed and at a close
held-record : feed (walker 3 8) (1 ∷ 7 ∷ 5 ∷ 6 ∷ []) (9 ∷ [])
    ≡ record { answer = gives (record { at = 5; bytes = 7 ∷ [] }); count = 0; walker = walker 0 8; hold = 1 ∷ 7 ∷ 5 ∷ 6 ∷ [] }
unfolding feed
held-record = refl

held-record-at-close : close (walker 3 8) (1 ∷ 7 ∷ 5 ∷ 6 ∷ [])
    ≡ record { answer = gives (record { at = 5; bytes = 7 ∷ [] }); count = 0; walker = walker 0 8; hold = 1 ∷ 7 ∷ 5 ∷ 6 ∷ [] }
unfolding close
held-record-at-close = refl

-- the same at a total of 12: 13 comes before the held bytes, and a close has no 13
too-long-first : feed (walker 3 12) (1 ∷ 7 ∷ 5 ∷ 6 ∷ []) (9 ∷ []) ≡ still (walker 3 12) (1 ∷ 7 ∷ 5 ∷ 6 ∷ []) (refused_with TotalTooLong 12)
unfolding feed
too-long-first = refl

-- a kept answer, whatever it is, before 13; and 14 before it, where the hold is a byte short
abbrev kept : Walker (Unit {0})
kept = done 0 12 (refused_with LogTooLong 3)

kept-before-too-long : feed kept (0 ∷ 0 ∷ 0 ∷ 0 ∷ []) (9 ∷ []) ≡ still kept (0 ∷ 0 ∷ 0 ∷ 0 ∷ []) (refused_with LogTooLong 3)
unfolding feed
kept-before-too-long = refl

short-hold-first : feed kept (0 ∷ 0 ∷ 0 ∷ []) (9 ∷ []) ≡ still kept (0 ∷ 0 ∷ 0 ∷ []) (refused_with OutOfRange 0)
unfolding feed
short-hold-first = refl

-- ---- a run of seven calls: an empty piece, other bytes in the rest of the hold at each call, and what is left of a piece fed again

abbrev pieces : List (List ℕ)
pieces = (1 ∷ []) ∷ [] ∷ (7 ∷ 2 ∷ []) ∷ (8 ∷ 9 ∷ []) ∷ []

abbrev first_two : List (Call (Walker (Unit {0})) Item)
first_two =
    fed_call (1 ∷ []) (5 ∷ 5 ∷ 5 ∷ 5 ∷ []) (record { answer = wants; count = 1; walker = walker 1 1; hold = 1 ∷ 5 ∷ 5 ∷ 5 ∷ [] })
    ∷ fed_call [] (1 ∷ 6 ∷ 6 ∷ 6 ∷ []) (record { answer = wants; count = 0; walker = walker 1 1; hold = 1 ∷ 6 ∷ 6 ∷ 6 ∷ [] })
    ∷ []

abbrev third : Call (Walker (Unit {0})) Item
third = fed_call (7 ∷ 2 ∷ []) (1 ∷ 4 ∷ 4 ∷ 4 ∷ [])
    (record { answer = gives (record { at = 0; bytes = 7 ∷ [] }); count = 1; walker = walker 0 2; hold = 1 ∷ 7 ∷ 4 ∷ 4 ∷ [] })

abbrev later : List (Call (Walker (Unit {0})) Item)
later =
    fed_call (2 ∷ []) (3 ∷ 3 ∷ 3 ∷ 3 ∷ []) (record { answer = wants; count = 1; walker = walker 1 3; hold = 2 ∷ 3 ∷ 3 ∷ 3 ∷ [] })
    ∷ fed_call (8 ∷ 9 ∷ []) (2 ∷ 0 ∷ 0 ∷ 0 ∷ [])
    (record { answer = gives (record { at = 2; bytes = 8 ∷ 9 ∷ [] }); count = 2; walker = walker 0 5; hold = 2 ∷ 8 ∷ 9 ∷ 0 ∷ [] })
    ∷ fed_call [] (0 ∷ 0 ∷ 0 ∷ 0 ∷ []) (record { answer = wants; count = 0; walker = walker 0 5; hold = 0 ∷ 0 ∷ 0 ∷ 0 ∷ [] })
    ∷ close_call (1 ∷ 1 ∷ 1 ∷ 1 ∷ []) (record { answer = stops (Ending.End 5 0); count = 0; walker = done 0 5 (Ending.End 5 0); hold = 1 ∷ 1 ∷ 1 ∷ 1 ∷ [] })
    ∷ []

-- four bytes are a hold of full size
four : {held : ℕ} {last : List ℕ} {a b c d : ℕ} → take held (a ∷ b ∷ c ∷ d ∷ []) ≡ take held last → Lent 4 held last (a ∷ b ∷ c ∷ d ∷ [])
four s = record { size = omega arith; same = s }

-- the last four first: seven at once are slow to check
later-calls : InOrderOf judge 4 12 wrong ((2 ∷ []) ∷ (8 ∷ 9 ∷ []) ∷ []) (walker 0 2) (1 ∷ 7 ∷ 4 ∷ 4 ∷ []) later
unfolding feed_of close_of taken judge
later-calls = feeds_on (four refl) refl (feeds_on (four refl) refl (feeds_on (four refl) refl (closes_all (four refl) refl)))

seven-calls : InOrderOf judge 4 12 wrong pieces (fresh tt) [] (first_two ++ (third ∷ later))
unfolding feed_of taken judge
seven-calls = feeds_on (four refl) refl (feeds_on (four refl) refl (feeds_on (four refl) refl later-calls))

-- what they tell, by agreement
seven-tell : (e : Ending) → told e (first_two ++ (third ∷ later)) ≡ walk judge tt 0 (1 ∷ 7 ∷ 2 ∷ 8 ∷ 9 ∷ [])
seven-tell = order-tells pieces [] (first_two ++ (third ∷ later)) (omega arith) seven-calls

-- the third call gives the first record with its last byte, and the walk of no shorter beginning has it
third-first : (m : ℕ) → m < 2 → Before [] (walk_to judge tt (1 ∷ 7 ∷ 2 ∷ 8 ∷ 9 ∷ []) m)
third-first =
    (is-prompt (1 ∷ 7 ∷ 2 ∷ 8 ∷ 9 ∷ []) [] first_two third later (omega arith) (order-run judge 4 12 wrong able pieces (fresh tt) [] _ seven-calls)
    ).gave-first (record { at = 0; bytes = 7 ∷ [] }) refl

-- ---- a refusal, and the same again at a close and at a feed of bytes that the log does not have

abbrev refusing : Call (Walker (Unit {0})) Item
refusing = fed_call (255 ∷ 1 ∷ []) (0 ∷ 0 ∷ 0 ∷ 0 ∷ [])
    (record { answer = stops (refused_with BadValue 0); count = 1; walker = done 1 1 (refused_with BadValue 0); hold = 255 ∷ 0 ∷ 0 ∷ 0 ∷ [] })

abbrev again : Call (Walker (Unit {0})) Item
again = fed_call (3 ∷ []) (255 ∷ 8 ∷ 8 ∷ 8 ∷ []) (still (done 1 1 (refused_with BadValue 0)) (255 ∷ 8 ∷ 8 ∷ 8 ∷ []) (refused_with BadValue 0))

abbrev at-close : Call (Walker (Unit {0})) Item
at-close = close_call (255 ∷ 9 ∷ 9 ∷ 9 ∷ []) (still (done 1 1 (refused_with BadValue 0)) (255 ∷ 9 ∷ 9 ∷ 9 ∷ []) (refused_with BadValue 0))

-- what each of the three calls says, alone: all three at once are slow to check
refusing-says : outcome_of refusing ≡ feed_of judge 4 12 wrong (fresh tt) (0 ∷ 0 ∷ 0 ∷ 0 ∷ []) (255 ∷ 1 ∷ [])
unfolding feed_of taken judge
refusing-says = refl

at-close-says : outcome_of at-close ≡ close_of judge 4 12 wrong (done 1 1 (refused_with BadValue 0)) (255 ∷ 9 ∷ 9 ∷ 9 ∷ [])
unfolding close_of
at-close-says = refl

again-says : outcome_of again ≡ feed_of judge 4 12 wrong (done 1 1 (refused_with BadValue 0)) (255 ∷ 8 ∷ 8 ∷ 8 ∷ []) (3 ∷ [])
unfolding feed_of
again-says = refl

refused-again : RunOf judge 4 12 wrong (255 ∷ 1 ∷ []) (fresh tt) [] (refusing ∷ at-close ∷ again ∷ [])
refused-again =
    feeds {ended = false} ([], refl) (four refl) refusing-says
    (closes {ended = true} tt (four refl) at-close-says (feeds {ended = true} tt (four refl) again-says rests))
