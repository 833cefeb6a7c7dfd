-- What the header's sum tells (document 02, Req 06): a sound GPT header of which one byte is another is not sound. Where that byte is one of the
-- sum the number there is another, and elsewhere the sum is. The byte stands between x and y.
--   bent        of a header (`SoundHeader` of `gpt`), wherever the byte is
--   bent-told   of data (`SoundGpt`), where it is in the header and none of its size
-- Assumes nothing.
use Prim.Native.Nat.{ℕ, zero, suc, ◌+◌, ◌-◌, ◌*◌, ◌^◌, ◌≤◌, ◌<◌}
use mathlib.Core.Path.{◌≡◌, sym, ap, ap₂, ◌∙◌}
use mathlib.Core.List.{List, [], ◌∷◌, ◌++◌, append_assoc}
use mathlib.Core.Logic.{◌⊎◌, inl, inr}
use native.Mathlib.Nat.{eq_of_mul-eq-mul_left, one-le-pow}
use native.Mathlib.Omega.{arith}
use lib.ListN.{length, take, drop, replicate, length-drop}
use lib.Seq.{take-append-le, drop-append-le, take-append-add, drop-append-add, take-append_seam, drop-append_seam}
use Rattle.numbers.specs.Number.{le_of, number_at, Bytes}
use Rattle.numbers.specs.Range.{part_of}
use Rattle.numbers.proofs.ByCases.{split}
use Rattle.numbers.proofs.RangeLaws.{part-append}
use Rattle.numbers.proofs.NumberLaws.{le_of-append, bytes-nil, bytes-cons, bytes-tail, bytes-part, bytes_drop}
use Rattle.sum.specs.Sum.{sum_of}
use Rattle.sum.proofs.ByteLaws.{one_byte}
use Rattle.gpt.specs.Gpt.{header_size_of, unsummed}
use Rattle.gpt.specs.Sound.{SoundHeader, SoundGpt}
use Rattle.gpt.proofs.SoundLaws.{sound-header}

bytes-append : (s t : List ℕ) → Bytes s → Bytes t → Bytes (s ++ t)
bytes-append [] t bs bt = bt
bytes-append (b ∷ s) t bs bt = bytes-cons b (s ++ t) (bs.below 0) (bytes-append s t (bytes-tail bs) bt)

bytes-zeros : (n : ℕ) → Bytes (replicate n 0)
bytes-zeros zero = bytes-nil
bytes-zeros (suc n) = bytes-cons 0 (replicate n 0) (omega arith) (bytes-zeros n)

bytes-unsummed : (s : List ℕ) (n : ℕ) → Bytes s → Bytes (replicate 4 0 ++ drop n s)
bytes-unsummed s n t = bytes-append (replicate 4 0) (drop n s) (bytes-zeros 4) (bytes_drop s n t)

-- the first m bytes, and the others, where the byte c is among the first
front : (x y : List ℕ) (c m : ℕ) → length x < m → take m (x ++ (c ∷ y)) ≡ x ++ (c ∷ take (m - suc (length x)) y)
front x y c m h =
    let e : m ≡ length x + suc (m - suc (length x)) = omega arith in
    ap (λ n. take n (x ++ (c ∷ y))) e ∙ take-append-add x (c ∷ y) (suc (m - suc (length x)))

rest : (x y : List ℕ) (c m : ℕ) → length x < m → drop m (x ++ (c ∷ y)) ≡ drop (m - suc (length x)) y
rest x y c m h =
    let e : m ≡ length x + suc (m - suc (length x)) = omega arith in
    ap (λ n. drop n (x ++ (c ∷ y))) e ∙ drop-append-add x (c ∷ y) (suc (m - suc (length x)))

-- ---- a header

module _ (x y : List ℕ) (bx : Bytes x) (by : Bytes y) where
  abbrev header : ℕ → List ℕ
  header c = x ++ (c ∷ y)

  -- the number at 16 is the sum
  abbrev Summed : ℕ → Type 0
  Summed c = le_of (part_of (header c) 16 4) ≡ sum_of (unsummed (header c))

  -- the byte is before the sum
  before : length x < 16 → (a b : ℕ) → a < 256 → b < 256 → Summed a → Summed b → a ≡ b
  unfolding unsummed
  before h a b l m sa sb =
      let k = 16 - suc (length x) in
      let w = take k y ++ (replicate 4 0 ++ drop (20 - suc (length x)) y) in
      let bw : Bytes w = bytes-append (take k y) _ (bytes-part y 0 k by) (bytes-unsummed y (20 - suc (length x)) by) in
      let number : (c : ℕ) → part_of (header c) 16 4 ≡ part_of y k 4 = λ c. ap (take 4) (rest x y c 16 h) in
      let all : (c : ℕ) → unsummed (header c) ≡ x ++ (c ∷ w) =
      λ c. ap₂ (λ s t. s ++ (replicate 4 0 ++ t)) (front x y c 16 h) (rest x y c 20 (omega arith)) ∙ append_assoc x (c ∷ take k y) _ in
      one_byte x w a b bx bw l m (ap sum_of (sym (all a)) ∙ sym sa ∙ ap le_of (number a ∙ sym (number b)) ∙ sb ∙ ap sum_of (all b))

  -- behind it
  behind : 20 ≤ length x → (a b : ℕ) → a < 256 → b < 256 → Summed a → Summed b → a ≡ b
  unfolding unsummed
  behind h a b l m sa sb =
      let zeros : List ℕ = replicate 4 0 in
      let v = take 16 x ++ (zeros ++ drop 20 x) in
      let bv : Bytes v = bytes-append (take 16 x) _ (bytes-part x 0 16 bx) (bytes-unsummed x 20 bx) in
      let number : (c : ℕ) → part_of (header c) 16 4 ≡ part_of x 16 4 = λ c. part-append x (c ∷ y) 16 4 h in
      let all : (c : ℕ) → unsummed (header c) ≡ v ++ (c ∷ y) =
      λ c. ap₂ (λ s t. s ++ (zeros ++ t)) (take-append-le 16 x (c ∷ y) (omega arith)) (drop-append-le 20 x (c ∷ y) h) ∙ sym (append_assoc (take 16 x) (zeros ++ drop 20 x) (c ∷ y) ∙ ap (λ t. take 16 x ++ t) (append_assoc zeros (drop 20 x) (c ∷ y))) in
      one_byte v y a b bv by l m (ap sum_of (sym (all a)) ∙ sym sa ∙ ap le_of (number a ∙ sym (number b)) ∙ sb ∙ ap sum_of (all b))

  -- one of its own
  within : 16 ≤ length x → length x < 20 → (a b : ℕ) → Summed a → Summed b → a ≡ b
  unfolding unsummed le_of
  within h k a b sa sb =
      let u = drop 16 x in
      let n = length-drop 16 x in
      let p = 256 ^ length u in
      let t = take (4 - suc (length u)) y in
      let all : (c : ℕ) → unsummed (header c) ≡ take 16 x ++ (replicate 4 0 ++ drop (20 - suc (length x)) y) =
      λ c. ap₂ (λ s t. s ++ (replicate 4 0 ++ t)) (take-append-le 16 x (c ∷ y) h) (rest x y c 20 k) in
      let number : (c : ℕ) → le_of (part_of (header c) 16 4) ≡ le_of u + p * (c + 256 * le_of t) =
      λ c. ap le_of (ap (take 4) (drop-append-le 16 x (c ∷ y) h) ∙ front u y c 4 (omega arith)) ∙ le_of-append u (c ∷ t) in
      let same : le_of u + p * (a + 256 * le_of t) ≡ le_of u + p * (b + 256 * le_of t) =
      sym (number a) ∙ sa ∙ ap sum_of (all a ∙ sym (all b)) ∙ sym sb ∙ number b in
      let last = eq_of_mul-eq-mul_left p (one-le-pow (length u) 256 (omega arith)) (a + 256 * le_of t) (b + 256 * le_of t) (omega arith) in
      omega arith

-- a sound header of bytes, of which one byte is another, is not sound
pub bent : (x y : List ℕ) (a b e f : ℕ) → Bytes (x ++ (a ∷ y)) → b < 256 → SoundHeader (x ++ (a ∷ y)) e → SoundHeader (x ++ (b ∷ y)) f → a ≡ b
unfolding number_at
bent x y a b e f t m g k =
    let bx : Bytes x = rw (take-append_seam x (a ∷ y)) at (bytes-part (x ++ (a ∷ y)) 0 (length x) t) in
    let ay : Bytes (a ∷ y) = rw (drop-append_seam x (a ∷ y)) at (bytes_drop (x ++ (a ∷ y)) (length x) t) in
    let by = bytes-tail ay in
    split 16 (length x)
    (λ h. split 20 (length x)
    (λ i. behind x y bx by i a b (ay.below 0) m g.summed k.summed)
    (λ i. within x y bx by h i a b g.summed k.summed))
    (λ h. before x y bx by h a b (ay.below 0) m g.summed k.summed)

-- ---- the data

-- the byte is none of the header's size
abbrev pub BesideSize : ℕ → Type 0
BesideSize at = (at < 12) ⊎ (16 ≤ at)

size-kept : (x y : List ℕ) (a b : ℕ) → BesideSize (length x) → header_size_of (x ++ (a ∷ y)) ≡ header_size_of (x ++ (b ∷ y))
unfolding header_size_of number_at
size-kept x y a b (inl h) = ap (λ t. le_of (take 4 t)) (rest x y a 12 h ∙ sym (rest x y b 12 h))
size-kept x y a b (inr h) = ap le_of (part-append x (a ∷ y) 12 4 h ∙ sym (part-append x (b ∷ y) 12 4 h))

-- sound data of which one byte of the header is another, and none of its size, are not sound
pub bent-told : (x y : List ℕ) (a b : ℕ) → Bytes (x ++ (a ∷ y)) → b < 256 → length x < header_size_of (x ++ (a ∷ y)) → BesideSize (length x)
    → SoundGpt (x ++ (a ∷ y)) → SoundGpt (x ++ (b ∷ y)) → a ≡ b
bent-told x y a b t m h o g k =
    let size = header_size_of (x ++ (a ∷ y)) in
    let y₁ = take (size - suc (length x)) y in
    let ours : g.header ≡ x ++ (a ∷ y₁) = sound-header _ g ∙ front x y a size h in
    let theirs : k.header ≡ x ++ (b ∷ y₁) = sound-header _ k ∙ ap (λ n. take n (x ++ (b ∷ y))) (sym (size-kept x y a b o)) ∙ front x y b size h in
    bent x y₁ a b g.e k.e (rw (front x y a size h) at (bytes-part (x ++ (a ∷ y)) 0 size t)) m (rw ours at g.headed) (rw theirs at k.headed)
