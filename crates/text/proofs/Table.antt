-- A rule of a table at each of its entries, by one test that is computed over the whole table. Assumes nothing.
use Rattle.numbers.proofs.ByCases.{never}
use Prim.Native.Nat.{ℕ, zero, suc, ◌+◌, ◌<◌}
use mathlib.Core.Path.{◌≡◌, refl}
use mathlib.Core.Bool.{Bool, true, false, ◌&&◌}
use mathlib.Core.List.{List, [], ◌∷◌}
use native.Mathlib.Nat.{add-zero, zero-add, add-suc, suc-add}
use native.Mathlib.Omega.{arith}
use lib.ListN.{length, get_or}

pub and_left : (a b : Bool) → a && b ≡ true → a ≡ true
and_left true b e = refl
and_left false b e = e

pub and_right : (a b : Bool) → a && b ≡ true → b ≡ true
and_right true b e = e
and_right false b e = never cc

-- the test passes at each entry and its place, counted from i
abbrev pub every : (ℕ → ℕ → Bool) → ℕ → List ℕ → Bool
every f i [] = true
every f i (x ∷ xs) = f i x && every f (suc i) xs

every-from : (f : ℕ → ℕ → Bool) (xs : List ℕ) (i : ℕ) → every f i xs ≡ true → (k : ℕ) → k < length xs → f (i + k) (get_or xs k 0) ≡ true
every-from f [] i e k h = absurd (omega arith)
every-from f (x ∷ xs) i e zero h = rw add-zero (and_left (f i x) (every f (suc i) xs) e)
every-from f (x ∷ xs) i e (suc k) h =
    rw (add-suc, ← suc-add) (every-from f xs (suc i) (and_right (f i x) (every f (suc i) xs) e) k (omega arith))

pub every-at : (f : ℕ → ℕ → Bool) (xs : List ℕ) → every f 0 xs ≡ true → (k : ℕ) → k < length xs → f k (get_or xs k 0) ≡ true
every-at f xs e k h = rw zero-add at (every-from f xs 0 e k h)
