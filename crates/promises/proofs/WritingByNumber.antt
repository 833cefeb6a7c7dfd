-- The writer's refusals one by one (document 02, Req 01): a call answers with this number at this place if and only if its own row holds (specs/Faults.antt of
-- `write`). `WriteSays` is the promise of the code.
--   by-18, by_4, by-16, by-3, by-17   each of the writer's own numbers
--   by-contents                       whatever numbers contents may have
-- Assumes nothing.
use Rattle.std.specs.Prelude.{Err}
use Prim.Native.Nat.{ℕ, ◌≤◌, ◌<◌}
use mathlib.Core.Path.{◌≡◌, refl, sym, ap, ◌∙◌}
use mathlib.Core.Bool.{Bool, true, false}
use mathlib.Core.List.{List}
use mathlib.Core.Logic.{◌↔◌, ◌⊎◌, inl, inr}
use native.Mathlib.Omega.{arith}
use lib.ListN.{length}
use Rattle.numbers.specs.Number.{Bytes}
use Rattle.numbers.proofs.ByCases.{never}
use Rattle.refusal.specs.declared.Refusal.{Refusal}
use Rattle.refusal.specs.declared.Why.{Why}
use Rattle.refusal.specs.declared.Why.TheVariants.{FieldTooFar, AlgorithmUnknown, WrongDigest, BufferTooShort, WrongForm}
use Rattle.refusal.specs.Limits.{record_most}
use Rattle.refusal.specs.Refusals.{Origin, number_of, origin_of}
use Rattle.refusal.specs.Tests.{refusal_of}
use Rattle.refusal.proofs.RefusalLaws.{OfContents}
use Rattle.event.specs.Types.{type_of}
use Rattle.contents.proofs.FaultLaws.{contents-refused, marker-refused}
use Rattle.contents.proofs.WhyLaws.{contents-why, marker-why}
use Rattle.record.specs.declared.Shape.{Shape}
use Rattle.record.specs.Record.{is_marker}
use Rattle.record.specs.Met.{FaultyAs}
use Rattle.write.specs.declared.Wrote.{Wrote}
use Rattle.write.specs.Digests.{Digest, lent_of}
use Rattle.write.specs.Write.{Entry, record_bytes, form_for, WriteSays}
use Rattle.write.specs.Faults.{Sized, Each, UnknownId, WrongLength, WrongCount, Listed, Sound, Refuses, form, id, long, count, reach, contents, buffer}
use Rattle.promises.proofs.Writing.{write-refused}

-- what is wrong with data is a refusal of contents
faulty-why : (b : Bool) (t : ℕ) (d : List ℕ) → Bytes d → (at : ℕ) (r : Refusal) → FaultyAs b t d at r → OfContents r.why
faulty-why true t d is at r f = marker-why d at r ((marker-refused d is at r).1 f)
faulty-why false t d is at r f = contents-why (type_of t) d at r ((contents-refused (type_of t) d is at r).1 f)

module _ (sh : Shape) (e : Entry) (room : ℕ) (is : Bytes e.body) where
  abbrev pub Faulted : Refusal → Type 0
  Faulted r = FaultyAs (is_marker sh.kind e.event) e.event e.body 0 r

  abbrev Next : Type 0
  Next = e.form ≡ form_for sh.kind

  -- a refusal of the data is none of the writer's own
  own : {X : Type 0} (r : Refusal) → Faulted r → (why : Why) → (origin_of why ≡ Origin.contents → ⊥) → r.why ≡ why → X
  own r f why other w = absurd (other (ap origin_of (sym w) ∙ faulty-why (is_marker sh.kind e.event) e.event e.body is 0 r f))

  row-18 : {r : Refusal} → Refuses sh e room r → r.why ≡ WrongForm → (Next → ⊥) × (r.at ≡ 0)
  row-18 (form n) w = (n, refl)
  row-18 (id n u) w = absurd (omega (arith, ap number_of w))
  row-18 (long n u l) w = absurd (omega (arith, ap number_of w))
  row-18 (count n s a c) w = absurd (omega (arith, ap number_of w))
  row-18 (reach l f) w = absurd (omega (arith, ap number_of w))
  row-18 (contents {r = r} l s f) w = own r f WrongForm (λ o. never cc) w
  row-18 (buffer s f) w = absurd (omega (arith, ap number_of w))

  row-4 : {r : Refusal} → Refuses sh e room r → r.why ≡ AlgorithmUnknown → Next × UnknownId e.form sh.pairs e.digests r.at
  row-4 (form n) w = absurd (omega (arith, ap number_of w))
  row-4 (id n u) w = (n, u)
  row-4 (long n u l) w = absurd (omega (arith, ap number_of w))
  row-4 (count n s a c) w = absurd (omega (arith, ap number_of w))
  row-4 (reach l f) w = absurd (omega (arith, ap number_of w))
  row-4 (contents {r = r} l s f) w = own r f AlgorithmUnknown (λ o. never cc) w
  row-4 (buffer s f) w = absurd (omega (arith, ap number_of w))

  -- a length that is wrong, or the count
  abbrev Misfit : ℕ → Type 0
  Misfit at =
      (((i : ℕ) → UnknownId e.form sh.pairs e.digests i → ⊥) × WrongLength e.form sh.pairs e.digests at)
      ⊎ ((ds : List Digest) × (e.digests ≡ lent_of ds) × Each (Sized e.form sh.pairs) ds × WrongCount e.form ds at)

  row-16 : {r : Refusal} → Refuses sh e room r → r.why ≡ WrongDigest → Next × Misfit r.at
  row-16 (form n) w = absurd (omega (arith, ap number_of w))
  row-16 (id n u) w = absurd (omega (arith, ap number_of w))
  row-16 (long n u l) w = (n, inl (u, l))
  row-16 (count {ds = ds} n s a c) w = (n, inr (ds, s, a, c))
  row-16 (reach l f) w = absurd (omega (arith, ap number_of w))
  row-16 (contents {r = r} l s f) w = own r f WrongDigest (λ o. never cc) w
  row-16 (buffer s f) w = absurd (omega (arith, ap number_of w))

  -- the digests are listed as they should be
  abbrev AllListed : Type 0
  AllListed = (ds : List Digest) × Listed sh e.form e.digests ds

  row-3 : {r : Refusal} → Refuses sh e room r → r.why ≡ FieldTooFar → AllListed × (record_most < length (record_bytes e)) × (r.at ≡ 0)
  row-3 (form n) w = absurd (omega (arith, ap number_of w))
  row-3 (id n u) w = absurd (omega (arith, ap number_of w))
  row-3 (long n u l) w = absurd (omega (arith, ap number_of w))
  row-3 (count n s a c) w = absurd (omega (arith, ap number_of w))
  row-3 (reach {ds = ds} l f) w = ((ds, l), f, refl)
  row-3 (contents {r = r} l s f) w = own r f FieldTooFar (λ o. never cc) w
  row-3 (buffer s f) w = absurd (omega (arith, ap number_of w))

  row-17 : {r : Refusal} → Refuses sh e room r → r.why ≡ BufferTooShort → Sound sh e × (room < length (record_bytes e)) × (r.at ≡ 0)
  row-17 (form n) w = absurd (omega (arith, ap number_of w))
  row-17 (id n u) w = absurd (omega (arith, ap number_of w))
  row-17 (long n u l) w = absurd (omega (arith, ap number_of w))
  row-17 (count n s a c) w = absurd (omega (arith, ap number_of w))
  row-17 (reach l f) w = absurd (omega (arith, ap number_of w))
  row-17 (contents {r = r} l s f) w = own r f BufferTooShort (λ o. never cc) w
  row-17 (buffer s f) w = (s, f, refl)

  row-contents : {r : Refusal} → Refuses sh e room r → OfContents r.why → AllListed × (length (record_bytes e) ≤ record_most) × Faulted r
  row-contents (form n) o = never cc
  row-contents (id n u) o = never cc
  row-contents (long n u l) o = never cc
  row-contents (count n s a c) o = never cc
  row-contents (reach l f) o = never cc
  row-contents (contents {ds = ds} l s f) o = ((ds, l), s, f)
  row-contents (buffer s f) o = never cc

-- ---- of the code

module _ (sh : Shape) (e : Entry) (old : List ℕ) (r : Wrote) (new : List ℕ) (says : WriteSays sh e old r new) where
  abbrev room : ℕ
  room = length old

  abbrev is : Bytes e.body
  is = says.given.body

  abbrev Answers : Why → ℕ → Type 0
  Answers why at = r.answer ≡ Err (refusal_of why at)

  -- 18: the other form comes next.
  pub by-18 : (at : ℕ) → Answers WrongForm at ↔ ((e.form ≡ form_for sh.kind → ⊥) × (at ≡ 0))
  by-18 at = (
    λ a. row-18 sh e room is ((write-refused sh e old r new says _).0 a) refl,
    λ (n, z). rw z ((write-refused sh e old r new says _).1 (form n)),
  )

  -- 4: the id at this place of the list is unknown or not declared, and those before it are known and declared.
  pub by_4 : (at : ℕ) → Answers AlgorithmUnknown at ↔ ((e.form ≡ form_for sh.kind) × UnknownId e.form sh.pairs e.digests at)
  by_4 at = (
    λ a. row-4 sh e room is ((write-refused sh e old r new says _).0 a) refl,
    λ (n, u). (write-refused sh e old r new says _).1 (id n u),
  )

  -- 16: no id is at fault, and what stands at this place is no digest as long as its id's; or the digests of a SHA-1 record are none, or several.
  pub by-16 : (at : ℕ) → Answers WrongDigest at ↔ ((e.form ≡ form_for sh.kind) × Misfit sh e room is at)
  by-16 at = (λ a. row-16 sh e room is ((write-refused sh e old r new says _).0 a) refl, from)
    where
      from : (e.form ≡ form_for sh.kind) × Misfit sh e room is at → Answers WrongDigest at
      from (n, inl (u, l)) = (write-refused sh e old r new says _).1 (long n u l)
      from (n, inr (ds, s, a, c)) = (write-refused sh e old r new says _).1 (count n s a c)

  -- 3: the digests are as they should be, and the record has over 32,768 bytes.
  pub by-3 : (at : ℕ) → Answers FieldTooFar at ↔ (AllListed sh e room is × (record_most < length (record_bytes e)) × (at ≡ 0))
  by-3 at = (
    λ a. row-3 sh e room is ((write-refused sh e old r new says _).0 a) refl,
    λ ((ds, l), f, z). rw z ((write-refused sh e old r new says _).1 (reach l f)),
  )

  -- Those of contents: besides, it has at most 32,768, and this is what is wrong with its data.
  pub by-contents : (why : Why) (at : ℕ) → OfContents why
      → Answers why at ↔ (AllListed sh e room is × (length (record_bytes e) ≤ record_most) × Faulted sh e room is (refusal_of why at))
  by-contents why at o = (
    λ a. row-contents sh e room is ((write-refused sh e old r new says _).0 a) o,
    λ ((ds, l), s, f). (write-refused sh e old r new says _).1 (contents l s f),
  )

  -- 17: nothing is wrong with the entry, and its record is longer than the buffer.
  pub by-17 : (at : ℕ) → Answers BufferTooShort at ↔ (Sound sh e × (length old < length (record_bytes e)) × (at ≡ 0))
  by-17 at = (
    λ a. row-17 sh e room is ((write-refused sh e old r new says _).0 a) refl,
    λ (s, f, z). rw z ((write-refused sh e old r new says _).1 (buffer s f)),
  )
