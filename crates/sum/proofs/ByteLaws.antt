-- What the sum tells apart (specs/Sum.antt): registers stay apart whatever bytes follow, so two texts that differ in one byte have different
-- sums. Assumes nothing.
use Prim.Native.Nat.{ℕ, zero, suc, ◌*◌, ◌/◌, ◌%◌, ◌^◌, ◌<◌}
use mathlib.Core.Path.{◌≡◌, sym, ap, ap₂, ◌∙◌}
use mathlib.Core.List.{List, [], ◌∷◌, ◌++◌}
use native.Mathlib.Omega.{arith}
use native.Mathlib.Nat.{div-add-mod'}
use lib.Bits.{bit_xor, xor_lt, xor_comm, xor_self, xor_shr, xor_zero_r}
use Rattle.numbers.specs.Number.{Bytes}
use Rattle.numbers.proofs.NumberLaws.{bytes-tail}
use Rattle.sum.specs.Sum.{polynomial, complement, shifted, sum_from, sum_of}
use Rattle.sum.proofs.XorLaws.{xor_assoc}
use Rattle.sum.proofs.SumLaws.{sum-parts}

xor-twice : (p x : ℕ) → bit_xor p (bit_xor p x) ≡ x
xor-twice p x = sym (xor_assoc p p x) ∙ ap (λ z. bit_xor z x) (xor_self p)

xor-cancel : (p x y : ℕ) → bit_xor p x ≡ bit_xor p y → x ≡ y
xor-cancel p x y e = sym (xor-twice p x) ∙ ap (bit_xor p) e ∙ xor-twice p y

-- the highest bit of what is left is the one that fell out
out : (r : ℕ) → r < 2 ^ 32 → bit_xor (r % 2 * polynomial) (r / 2) / 2 ^ 31 ≡ r % 2
out r h =
    let high : r % 2 * polynomial / 2 ^ 31 ≡ r % 2 = omega arith in
    let low : r / 2 / 2 ^ 31 ≡ 0 = omega arith in
    xor_shr (r % 2 * polynomial) (r / 2) 31 ∙ ap₂ bit_xor high low ∙ xor_zero_r (r % 2)

shift-apart : (q r : ℕ) → q < 2 ^ 32 → r < 2 ^ 32 → bit_xor (q % 2 * polynomial) (q / 2) ≡ bit_xor (r % 2 * polynomial) (r / 2) → q ≡ r
shift-apart q r h k e =
    let odd : q % 2 ≡ r % 2 = sym (out q h) ∙ ap (λ x. x / 2 ^ 31) e ∙ out r k in
    let half : q / 2 ≡ r / 2 = xor-cancel (r % 2 * polynomial) (q / 2) (r / 2) (ap (λ x. bit_xor (x * polynomial) (q / 2)) (sym odd) ∙ e) in
    omega (arith, div-add-mod' q 2, div-add-mod' r 2)

shift-below : (r : ℕ) → r < 2 ^ 32 → bit_xor (r % 2 * polynomial) (r / 2) < 2 ^ 32
shift-below r h = xor_lt 32 (r % 2 * polynomial) (r / 2) (omega arith) (omega arith)

shifted-apart : (n q r : ℕ) → q < 2 ^ 32 → r < 2 ^ 32 → shifted n q ≡ shifted n r → q ≡ r
unfolding shifted
shifted-apart zero q r h k e = e
shifted-apart (suc n) q r h k e = shift-apart q r h k (shifted-apart n _ _ (shift-below q h) (shift-below r k) e)

shifted-below : (n r : ℕ) → r < 2 ^ 32 → shifted n r < 2 ^ 32
unfolding shifted
shifted-below zero r h = h
shifted-below (suc n) r h = shifted-below n _ (shift-below r h)

-- a register of 32 bits stays one
taken-below : (b r : ℕ) → b < 256 → r < 2 ^ 32 → shifted 8 (bit_xor b r) < 2 ^ 32
taken-below b r h k = shifted-below 8 (bit_xor b r) (xor_lt 32 b r (omega arith) k)

pub sum_below : (r : ℕ) (s : List ℕ) → r < 2 ^ 32 → Bytes s → sum_from r s < 2 ^ 32
unfolding sum_from
sum_below r [] h t = h
sum_below r (b ∷ s) h t = sum_below (shifted 8 (bit_xor b r)) s (taken-below b r (t.below 0) h) (bytes-tail t)

-- whatever bytes follow, two registers stay apart
pub sum-apart : (q r : ℕ) (s : List ℕ) → q < 2 ^ 32 → r < 2 ^ 32 → Bytes s → sum_from q s ≡ sum_from r s → q ≡ r
unfolding sum_from
sum-apart q r [] h k t e = e
sum-apart q r (b ∷ s) h k t e =
    let l = t.below 0 in
    let same = sum-apart (shifted 8 (bit_xor b q)) (shifted 8 (bit_xor b r)) s (taken-below b q l h) (taken-below b r l k) (bytes-tail t) e in
    xor-cancel b q r (shifted-apart 8 _ _ (xor_lt 32 b q (omega arith) h) (xor_lt 32 b r (omega arith) k) same)

-- two texts of bytes that differ in one byte have different sums
pub one_byte : (x y : List ℕ) (a b : ℕ) → Bytes x → Bytes y → a < 256 → b < 256 → sum_of (x ++ (a ∷ y)) ≡ sum_of (x ++ (b ∷ y)) → a ≡ b
unfolding sum_of sum_from
one_byte x y a b tx ty h k e =
    let r = complement 0 in
    let q = sum_from r x in
    let small : q < 2 ^ 32 = sum_below r x (omega arith) tx in
    let parts : (c : ℕ) → sum_from r (x ++ (c ∷ y)) ≡ sum_from (shifted 8 (bit_xor c q)) y = λ c. sum-parts r x (c ∷ y) in
    let all : sum_from r (x ++ (a ∷ y)) ≡ sum_from r (x ++ (b ∷ y)) =
    xor-cancel 0xFFFFFFFF _ _ (xor_comm 0xFFFFFFFF _ ∙ e ∙ xor_comm _ 0xFFFFFFFF) in
    let same = sum-apart _ _ y (taken-below a q h small) (taken-below b q k small) ty (sym (parts a) ∙ all ∙ parts b) in
    let added = shifted-apart 8 (bit_xor a q) (bit_xor b q) (xor_lt 32 a q (omega arith) small) (xor_lt 32 b q (omega arith) small) same in
    xor-cancel q a b (xor_comm q a ∙ added ∙ xor_comm b q)
