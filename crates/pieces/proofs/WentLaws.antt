-- Laws of records that were read one after the other (specs/Went.antt).
--   went-snoc     one record more
--   went-keeps    what each record keeps, they all keep
-- Assumes nothing.
use Prim.Native.Nat.{ℕ, ◌+◌}
use mathlib.Core.Path.{◌≡◌}
use mathlib.Core.List.{List, [], ◌∷◌, ◌++◌, append_assoc, append-nil}
use native.Mathlib.Omega.{arith}
use native.Mathlib.Nat.{add-zero}
use lib.ListN.{length, length-append}
use Rattle.pieces.specs.Verdict.{sound, Judge}
use Rattle.pieces.specs.Went.{Went, stays, goes}

module _ {Shape Rec : Type 0} (judge : Judge Shape Rec) where
  -- After them one record more.
  pub went-snoc : {sh mid next : Shape} {base : ℕ} {p x : List ℕ} {rs : List Rec} {r : Rec} → Went judge sh base p rs mid
      → judge mid (base + length p) x ≡ sound r (length x) next → Went judge sh base (p ++ x) (rs ++ (r ∷ [])) next
  went-snoc {x = x} stays j = rw (← append-nil x) (goes (rw add-zero at j) stays)
  went-snoc (goes {base = base} {x = y} {p = p} k w) j =
      let e : base + length (y ++ p) ≡ base + length y + length p = omega (arith, length-append y p) in
      rw append_assoc (goes k (went-snoc w (rw e at j)))

  -- What holds at a record's start and is kept by every record, holds behind them.
  pub went-keeps : (P : ℕ → Shape → Type 0)
      → ((sh : Shape) (base : ℕ) (p : List ℕ) (r : Rec) (n : ℕ) (next : Shape) → judge sh base p ≡ sound r n next → P base sh → P (base + n) next)
      → {sh last : Shape} {base : ℕ} {p : List ℕ} {rs : List Rec} → Went judge sh base p rs last → P base sh → P (base + length p) last
  went-keeps P keep stays h = rw add-zero h
  went-keeps P keep (goes {sh = sh} {next = next} {base = base} {x = x} {p = p} {r = r} j w) h =
      let e : base + length (x ++ p) ≡ base + length x + length p = omega (arith, length-append x p) in
      rw e (went-keeps P keep w (keep sh base x r (length x) next j h))
