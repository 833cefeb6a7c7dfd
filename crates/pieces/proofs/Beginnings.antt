-- Laws of the walk of beginnings of a log (specs/Prompt.antt): of bytes that wait it gives no record and an early ending. Assumes nothing.
use Prim.Native.Nat.{ℕ, zero, suc}
use mathlib.Core.Path.{◌≡◌, refl, ap}
use mathlib.Core.Bool.{false}
use mathlib.Core.List.{List, []}
use lib.ListN.{length}
use Rattle.numbers.proofs.ByCases.{both}
use Rattle.refusal.specs.Endings.{ending_in}
use Rattle.pieces.specs.Verdict.{Verdict, more, sound, refused, Judge, decided, Steady}
use Rattle.pieces.specs.Walk.{walk}
use Rattle.pieces.specs.Prompt.{Early, an-end, a-cut}
use Rattle.pieces.proofs.WalkLaws.{walk_more}

-- a log that ends inside a field ends early
ending-early : (base n s : ℕ) → Early (ending_in base n s)
ending-early base n zero = an-end
ending-early base n (suc s) = a-cut

module _ {Shape Rec : Type 0} (judge : Judge Shape Rec) (laws : (sh : Shape) (base : ℕ) → Steady (judge sh base)) where
  -- Of bytes that wait the walk gives no record, and an early ending.
  pub walk-waits : (sh : Shape) (base : ℕ) (p : List ℕ) → decided (judge sh base p) ≡ false
      → ((walk judge sh base p).records ≡ []) × Early (walk judge sh base p).ending
  walk-waits sh base p d = go (judge sh base p) refl
    where
      go : (v : Verdict Shape Rec) → judge sh base p ≡ v → ((walk judge sh base p).records ≡ []) × Early (walk judge sh base p).ending
      go (more s e) j = rw (walk_more judge laws sh base p s e j) (refl, ending-early base (length p) s)
      go (sound r n next) j = both (ap decided j) d
      go (refused r) j = both (ap decided j) d
