-- Idle writers do not meet the promise of the writer: each is barred by a named clause of `WriteSays`, on a named entry.
--   refuses-all       barred by `answers`: an entry that can be written must be
--   miscounts         barred by `answers`: the number is that of the record's bytes
--   writes_nothing    barred by `holds`: the buffer's front must be the record
--   writes-past       barred by `holds`: the rest of the buffer is kept
--   moves-on          barred by `answers`: on a refusal the state is as it was
-- Assumes nothing.
use Rattle.std.specs.Prelude.{Result, Ok, Err}
use Prim.Native.Nat.{ℕ}
use mathlib.Core.Path.{◌≡◌, sym, ap, ◌∙◌}
use mathlib.Core.List.{List, [], ◌∷◌, ◌++◌}
use lib.ListN.{drop, replicate, get_or}
use lib.Seq.{drop-append_seam}
use Rattle.numbers.specs.Number.{bytes_of}
use Rattle.numbers.proofs.ByCases.{never}
use Rattle.refusal.specs.declared.Refusal.{Refusal}
use Rattle.record.specs.declared.Shape.{Shape}
use Rattle.record.specs.Record.{opening_shape}
use Rattle.write.specs.declared.Form.{Form}
use Rattle.write.specs.declared.Wrote.{Wrote}
use Rattle.write.specs.Write.{Entry, entry_of, WriteSays}
use Rattle.write.proofs.Cases.{computing}

-- a separator as a log's first record, and forty bytes for it
abbrev entry : Entry
entry = entry_of Form.Sha1 0 4 (bytes_of 2 4 ++ bytes_of 2 20 ++ replicate 20 0) (replicate 4 0)

abbrev buffer : List ℕ
buffer = replicate 40 1

-- its 36 bytes
abbrev bytes : List ℕ
bytes = replicate 4 0 ++ (4 ∷ 0 ∷ 0 ∷ 0 ∷ []) ++ replicate 20 0 ++ (4 ∷ 0 ∷ 0 ∷ 0 ∷ []) ++ replicate 4 0

abbrev wrote : Result ℕ Refusal → Shape → Wrote
wrote answer state = record { answer = answer; state = state }

answered : (r : Wrote) (new : List ℕ) → WriteSays opening_shape entry buffer r new → r.answer ≡ Ok 36
unfolding computing
answered r new says = ap (λ (w : Wrote). w.answer) says.answers

held : (r : Wrote) (new : List ℕ) → WriteSays opening_shape entry buffer r new → new ≡ bytes ++ replicate 4 1
unfolding computing
held r new says = says.holds

pub refuses-all : (x : Refusal) (state : Shape) (new : List ℕ) → WriteSays opening_shape entry buffer (wrote (Err x) state) new → ⊥
refuses-all x state new says = let e = answered _ new says in never cc

pub miscounts : (n : ℕ) (state : Shape) (new : List ℕ) → (n ≡ 36 → ⊥) → WriteSays opening_shape entry buffer (wrote (Ok n) state) new → ⊥
miscounts n state new other says = let e = answered _ new says in other cc

pub writes_nothing : (r : Wrote) → WriteSays opening_shape entry buffer r buffer → ⊥
writes_nothing r says = never (sym (ap (λ l. get_or l 0 0) (held r buffer says)))

pub writes-past : (r : Wrote) (rest : List ℕ) → (rest ≡ replicate 4 1 → ⊥) → WriteSays opening_shape entry buffer r (bytes ++ rest) → ⊥
writes-past r rest other says = other (sym (drop-append_seam bytes rest) ∙ ap (drop 36) (held r (bytes ++ rest) says) ∙ drop-append_seam bytes (replicate 4 1))

-- a buffer of a byte less than the record
pub moves-on : (answer : Result ℕ Refusal) (state : Shape) (new : List ℕ) → (state ≡ opening_shape → ⊥) → WriteSays opening_shape entry (replicate 35 1) (wrote answer state) new → ⊥
unfolding computing
moves-on answer state new other says = other (ap (λ (w : Wrote). w.state) says.answers)
