-- Exclusive or is associative, digit by digit; its other laws are in lib.Bits. Assumes nothing.
use Prim.Native.Nat.{ℕ, zero, suc, ◌+◌, ◌*◌, ◌/◌, ◌%◌, ◌<◌}
use mathlib.Core.Path.{◌≡◌, refl, sym, ap, ap₂, ◌∙◌}
use native.Mathlib.Omega.{arith}
use native.Mathlib.Nat.{mod-lt}
use lib.Arith.{bin_ind, digits_div, digits_mod}
use lib.Bits.{bit_xor, differ, xor_step}

-- two digits differ by a digit
differ-digit : (x y : ℕ) → x < 2 → y < 2 → differ x y < 2
differ-digit zero y h k = k
differ-digit (suc x) zero h k = h
differ-digit (suc zero) (suc zero) h k = omega arith
differ-digit (suc zero) (suc (suc y)) h k = absurd (omega arith)
differ-digit (suc (suc x)) (suc y) h k = absurd (omega arith)

differ-assoc : (x y z : ℕ) → x < 2 → y < 2 → z < 2 → differ (differ x y) z ≡ differ x (differ y z)
differ-assoc zero y z h k l = refl
differ-assoc (suc x) zero z h k l = refl
differ-assoc (suc zero) (suc zero) zero h k l = refl
differ-assoc (suc zero) (suc zero) (suc zero) h k l = refl
differ-assoc (suc zero) (suc zero) (suc (suc z)) h k l = absurd (omega arith)
differ-assoc (suc zero) (suc (suc y)) z h k l = absurd (omega arith)
differ-assoc (suc (suc x)) (suc y) z h k l = absurd (omega arith)

-- the lowest digits apart, and the others
xor-half : (a b : ℕ) → bit_xor a b / 2 ≡ bit_xor (a / 2) (b / 2)
xor-half a b =
    ap (λ x. x / 2) (xor_step a b)
    ∙ digits_div (bit_xor (a / 2) (b / 2)) (differ-digit (a % 2) (b % 2) (mod-lt a (omega arith)) (mod-lt b (omega arith)))

xor-odd : (a b : ℕ) → bit_xor a b % 2 ≡ differ (a % 2) (b % 2)
xor-odd a b =
    ap (λ x. x % 2) (xor_step a b)
    ∙ digits_mod (bit_xor (a / 2) (b / 2)) (differ-digit (a % 2) (b % 2) (mod-lt a (omega arith)) (mod-lt b (omega arith)))

pub xor_assoc : (a b c : ℕ) → bit_xor (bit_xor a b) c ≡ bit_xor a (bit_xor b c)
xor_assoc =
    bin_ind (λ (a : ℕ). (b c : ℕ) → bit_xor (bit_xor a b) c ≡ bit_xor a (bit_xor b c)) (λ b c. refl)
    (λ a ih b c. xor_step (bit_xor a b) c
    ∙ ap₂ (λ (x y : ℕ). bit_xor x (c / 2) * 2 + differ y (c % 2)) (xor-half a b) (xor-odd a b)
    ∙ ap₂ (λ (x y : ℕ). x * 2 + y) (ih (b / 2) (c / 2))
    (differ-assoc (a % 2) (b % 2) (c % 2) (mod-lt a (omega arith)) (mod-lt b (omega arith)) (mod-lt c (omega arith)))
    ∙ sym (ap₂ (λ (x y : ℕ). bit_xor (a / 2) x * 2 + differ (a % 2) y) (xor-half b c) (xor-odd b c))
    ∙ sym (xor_step a (bit_xor b c)))
