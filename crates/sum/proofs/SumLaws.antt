-- Laws of the sum (specs/Sum.antt): in parts it is what it is at once, however it is cut; by the table it is what it is bit by bit. Assumes
-- nothing.
use Prim.Native.Nat.{ℕ, zero, suc, ◌+◌, ◌*◌, ◌/◌, ◌%◌, ◌^◌, ◌<◌}
use mathlib.Core.Path.{◌≡◌, refl, sym, ap, ap₂, ◌∙◌}
use mathlib.Core.List.{List, [], ◌∷◌, ◌++◌, map, foldl, flatten}
use native.Mathlib.Omega.{arith}
use native.Mathlib.Nat.{mod-lt, pow-suc, zero-mul, zero-add, add-zero, add-suc, suc-add}
use lib.ListN.{get_or}
use lib.Pow.{split, pow_pos}
use lib.Bits.{bit_xor, xor_zero_r, xor_comm, xor_block, xor_lt, block_half, block_odd}
use Rattle.sum.specs.Sum.{polynomial, complement, shifted, sum_from, sum_of, up_from, remainders, by_table, table_from}
use Rattle.sum.proofs.XorLaws.{xor_assoc}

-- ---- in parts

-- one part and then another are both at once
pub sum-parts : (r : ℕ) (s t : List ℕ) → sum_from r (s ++ t) ≡ sum_from (sum_from r s) t
unfolding sum_from
sum-parts r [] t = refl
sum-parts r (b ∷ s) t = sum-parts (shifted 8 (bit_xor b r)) s t

-- however the bytes are cut, part after part they are all at once
pub sum-cut : (r : ℕ) (ps : List (List ℕ)) → foldl sum_from r ps ≡ sum_from r (flatten ps)
unfolding sum_from flatten
sum-cut r [] = refl
sum-cut r (p ∷ ps) = sum-cut (sum_from r p) ps ∙ sym (sum-parts r p (flatten ps))

-- ---- by the table

-- exclusive or on the k lowest bits, and on the others
apart : (k p a x : ℕ) → x < 2 ^ k → bit_xor p (a * 2 ^ k + x) ≡ bit_xor (p / 2 ^ k) a * 2 ^ k + bit_xor (p % 2 ^ k) x
apart k p a x h = ap (λ q. bit_xor q (a * 2 ^ k + x)) (sym (split p k)) ∙ xor_block k (p / 2 ^ k) a (p % 2 ^ k) x (mod-lt p (pow_pos k)) h

-- while k bits fall out, what lies above them only moves down
pub shifted-high : (k a r : ℕ) → r < 2 ^ k → shifted k (a * 2 ^ k + r) ≡ bit_xor a (shifted k r)
unfolding shifted
shifted-high zero a r h =
    let e : r ≡ 0 = omega arith in
    let f : a * 1 + r ≡ a = omega arith in
    f ∙ sym (ap (bit_xor a) e ∙ xor_zero_r a)
shifted-high (suc k) a r h =
    let p = r % 2 * polynomial in
    let half : r / 2 < 2 ^ k = omega (arith, pow-suc 2 k) in
    let low = bit_xor (p % 2 ^ k) (r / 2) in
    let small : low < 2 ^ k = xor_lt k (p % 2 ^ k) (r / 2) (mod-lt p (pow_pos k)) half in
    let none : 0 * 2 ^ k + r / 2 ≡ r / 2 = omega (arith, zero-mul (2 ^ k)) in
    let alone : bit_xor p (r / 2) ≡ p / 2 ^ k * 2 ^ k + low =
    ap (bit_xor p) (sym none) ∙ apart k p 0 (r / 2) half ∙ ap (λ q. q * 2 ^ k + low) (xor_zero_r (p / 2 ^ k)) in
    ap₂ (λ (x y : ℕ). shifted k (bit_xor (y * polynomial) x)) (block_half a k r) (block_odd a k r)
    ∙ ap (shifted k) (apart k p a (r / 2) half)
    ∙ shifted-high k (bit_xor (p / 2 ^ k) a) low small
    ∙ ap (λ q. bit_xor q (shifted k low)) (xor_comm (p / 2 ^ k) a)
    ∙ xor_assoc a (p / 2 ^ k) (shifted k low)
    ∙ ap (bit_xor a) (sym (shifted-high k (p / 2 ^ k) low small) ∙ ap (shifted k) (sym alone))

-- the rule of the table at each entry
pub remainder-at : (b : ℕ) → b < 256 → get_or remainders b 0 ≡ shifted 8 b
unfolding remainders
remainder-at b h = entry 256 0 b h ∙ ap (shifted 8) (zero-add b)
  where
    entry : (n k b : ℕ) → b < n → get_or (map (shifted 8) (up_from n k)) b 0 ≡ shifted 8 (k + b)
    entry zero k b h = absurd (omega arith)
    entry (suc n) k zero h = ap (shifted 8) (sym (add-zero k))
    entry (suc n) k (suc b) h = rw (add-suc, ← suc-add) (entry n (suc k) b (omega arith))

-- eight bits at once
pub by-table : (x : ℕ) → by_table remainders x ≡ shifted 8 x
by-table x =
    ap (bit_xor (x / 256)) (remainder-at (x % 256) (mod-lt x (omega arith)))
    ∙ sym (shifted-high 8 (x / 256) (x % 256) (mod-lt x (omega arith)))
    ∙ ap (shifted 8) (split x 8)

-- by the table a part is what it is bit by bit
pub table-sum : (r : ℕ) (s : List ℕ) → table_from remainders r s ≡ sum_from r s
unfolding table_from sum_from
table-sum r [] = refl
table-sum r (b ∷ s) = table-sum (by_table remainders (bit_xor b r)) s ∙ ap (λ q. sum_from q s) (by-table (bit_xor b r))

-- a start, a part more for each part, and the end: the sum of all bytes, however they are cut
pub in_parts : (ps : List (List ℕ)) → complement (foldl (table_from remainders) (complement 0) ps) ≡ sum_of (flatten ps)
unfolding sum_of
in_parts ps = ap complement (each (complement 0) ps ∙ sum-cut (complement 0) ps)
  where
    each : (r : ℕ) (ps : List (List ℕ)) → foldl (table_from remainders) r ps ≡ foldl sum_from r ps
    each r [] = refl
    each r (p ∷ ps) = each (table_from remainders r p) ps ∙ ap (λ q. foldl sum_from q ps) (table-sum r p)
