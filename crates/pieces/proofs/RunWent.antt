-- The shape of a walker after any call of a run (specs/Went.antt), whatever the call answered, after a stop too. A run's calls are bs, then c,
-- then cs.
--   went-run     the records given lead to it, from a beginning of the bytes that the walker has had
--   run-range    it is right at the walker's total: test 14 meets no wrong shape in a run
-- Assumes nothing.
use Prim.Native.Nat.{ℕ, ◌+◌, ◌≤◌}
use mathlib.Core.Path.{◌≡◌}
use mathlib.Core.Bool.{Bool, false}
use mathlib.Core.List.{List, [], ◌∷◌, ◌++◌}
use native.Mathlib.Omega.{arith}
use lib.ListN.{length, take}
use lib.Seq.{length-take-le}
use Rattle.pieces.specs.Verdict.{Judge}
use Rattle.pieces.specs.Feed.{Walker, fresh, Feedable}
use Rattle.pieces.specs.Run.{Call, outcome_of, RunOf}
use Rattle.pieces.specs.Prompt.{given}
use Rattle.pieces.specs.Went.{Went}
use Rattle.pieces.proofs.WentLaws.{went-keeps}
use Rattle.pieces.proofs.OneCall.{Came}
use Rattle.pieces.proofs.Reached.{Reached, reached-open, reached-shut, called-reached, call_at}

module _ {Shape Rec : Type 0} (judge : Judge Shape Rec) (full most : ℕ) (wrong : ℕ → Shape → Bool) (able : Feedable judge full wrong)
    (sh : Shape) (log last : List ℕ) (bs : List (Call (Walker Shape) Rec)) (c : Call (Walker Shape) Rec) (cs : List (Call (Walker Shape) Rec))
    (ok : wrong 0 sh ≡ false) (short : length log ≤ most) (run : RunOf judge full most wrong log (fresh sh) last (bs ++ (c ∷ cs))) where
  -- Of every call of every run of a log within the limit from a fresh walker: the records given so far were read one after the other from a
  -- beginning of the log, no further than the total, and lead to the walker's shape.
  pub went-run : (m : ℕ) × (m ≤ (outcome_of c).walker.total) × ((outcome_of c).walker.total ≤ length log)
      × Went judge sh 0 (take m log) (given (bs ++ (c ∷ []))) (outcome_of c).walker.shape
  went-run =
      let (over, left, called, z) = call_at judge full most wrong sh log able short last ok bs c cs run in
      go (called-reached judge full most wrong sh log called)
    where
      go : {w : Walker Shape} {hold left : List ℕ} {over : Bool} → Reached judge full most wrong sh log (bs ++ (c ∷ [])) w hold over left
          → Came judge full most wrong sh log (given (bs ++ (c ∷ []))) w
      go (reached-open base f t h left o) = (base, omega (arith, o.place), o.reach, o.went)
      go (reached-shut e t tells came k) = came

  -- So its shape is right at its total.
  pub run-range : wrong (outcome_of c).walker.total (outcome_of c).walker.shape ≡ false
  run-range =
      let (m, i, k, w) = went-run in
      able.grows (outcome_of c).walker.shape (0 + length (take m log)) (outcome_of c).walker.total
      (omega (arith, length-take-le m log (omega arith))) (went-keeps judge (λ t s. wrong t s ≡ false) able.right w ok)
