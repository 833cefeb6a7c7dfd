-- What promptness says of a call (document 01, demand 3: "each record or early refusal in the call that brings the last byte it needs, with the
-- number of bytes taken"), in terms of the walk of beginnings of the log and not of the judge.
--   walk_to m                  the walk of the log's first m bytes
--   Early                     an ending that more log may change: the end, or a field that is cut
--   Before                    no more records than so many, and such an ending
--   piece_of, lent_to, given    what a call was fed, which hold it was lent, and the records that calls gave
--   up_to bs c                 how many bytes the calls bs and then c took
--   Prompt bs c               of the call c of a run, after its calls bs: (a) to (e) of its fields
-- That it holds of every call: proofs/Promptness.antt. Assumes nothing.
use Rattle.std.specs.Prelude.{ℕ, ◌+◌, ◌-◌, ◌≤◌, ◌<◌, ◌≡◌, false, List, [], ◌∷◌, ◌++◌, length, take}
use Rattle.numbers.specs.Range.{part_of}
use Rattle.refusal.specs.declared.Ending.{Ending}
use Rattle.refusal.specs.declared.Refusal.{Refusal}
use Rattle.refusal.specs.declared.Why.TheVariants.{FieldCut}
use Rattle.refusal.specs.Endings.{refused_with}
use Rattle.pieces.specs.Verdict.{Judge}
use Rattle.pieces.specs.Walk.{Told, walk}
use Rattle.pieces.specs.Feed.{Walker, gives, stops, wants}
use Rattle.pieces.specs.Run.{Call, fed_call, close_call, outcome_of, stopped, took, holding, told}

abbrev pub walk_to : {Shape Rec : Type 0} → Judge Shape Rec → Shape → List ℕ → ℕ → Told Rec
walk_to judge sh log m = walk judge sh 0 (take m log)

pub data Early : Ending → Type 0 where
  an-end : {at tail : ℕ} → Early (Ending.End at tail)
  a-cut : {at : ℕ} → Early (refused_with FieldCut at)

pub record Before {Rec : Type 0} (rs : List Rec) (t : Told Rec) : Type 0 where
  pub few : length t.records ≤ length rs
  pub early : Early t.ending

module _ {W Rec : Type 0} where
  -- what a call was fed; nothing, where it closed
  abbrev pub piece_of : Call W Rec → List ℕ
  piece_of (fed_call piece hold o) = piece
  piece_of (close_call hold o) = []

  -- the hold that a call was lent
  abbrev pub lent_to : Call W Rec → List ℕ
  lent_to (fed_call piece hold o) = hold
  lent_to (close_call hold o) = hold

  -- the records that calls gave, in order
  abbrev pub given : List (Call W Rec) → List Rec
  given cs = (told (Ending.End 0 0) cs).records

-- how many bytes were taken up to the end of the call c
abbrev pub up_to : {W Rec : Type 0} → List (Call W Rec) → Call W Rec → ℕ
up_to bs c = took bs + (outcome_of c).count

module _ {Shape Rec : Type 0} (judge : Judge Shape Rec) (sh : Shape) (log : List ℕ) where
  pub record Prompt (bs : List (Call (Walker Shape) Rec)) (c : Call (Walker Shape) Rec) : Type 0 where
    -- (a) A record that it gives is the one that the walk of the bytes taken so far gives after those before;
    pub gave : (r : Rec) → (outcome_of c).answer ≡ gives r → (walk_to judge sh log (up_to bs c)).records ≡ given bs ++ (r ∷ [])
    -- and the first stop is the ending of that walk, after the same records.
    pub stop : stopped bs ≡ false → (e : Ending) → (outcome_of c).answer ≡ stops e
        → walk_to judge sh log (up_to bs c) ≡ record { records = given bs; ending = e }
    -- (b) No shorter beginning has the record,
    pub gave-first : (r : Rec) → (outcome_of c).answer ≡ gives r → (m : ℕ) → m < up_to bs c → Before (given bs) (walk_to judge sh log m)
    -- or the refusal, 2 apart.
    pub refused-first : stopped bs ≡ false → (r : Refusal) → (outcome_of c).answer ≡ stops (Ending.Refused r) → (r.why ≡ FieldCut → ⊥)
        → (m : ℕ) → m < up_to bs c → Before (given bs) (walk_to judge sh log m)
    -- (c) A call that wants more took the whole piece, and the walk of the bytes taken so far has no further record and no refusal but 2.
    pub wanted : (outcome_of c).answer ≡ wants
        → ((outcome_of c).count ≡ length (piece_of c)) × ((walk_to judge sh log (up_to bs c)).records ≡ given bs) × Early (walk_to judge sh log (up_to bs c)).ending
    -- (d) With a record, the hold's front is the record's bytes: those held before and those taken.
    pub front : (r : Rec) → (outcome_of c).answer ≡ gives r
        → take (holding 0 bs + (outcome_of c).count) (outcome_of c).hold ≡ part_of log (took bs - holding 0 bs) (holding 0 bs + (outcome_of c).count)
    -- (e) Up to the first stop, the bytes taken are the front of the piece and the log's next ones, and the total grows by them; a close has
    -- no piece, and takes none.
    pub takes : stopped bs ≡ false
        → ((outcome_of c).count ≤ length (piece_of c)) × (take (outcome_of c).count (piece_of c) ≡ part_of log (took bs) (outcome_of c).count)
        × ((outcome_of c).walker.total ≡ up_to bs c)
