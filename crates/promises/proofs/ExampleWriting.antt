-- The premises of the theorems on writing are met: a marker and an agile record are written from a log's start, each into a buffer of a hundred bytes, and
-- with a byte behind them a walk over two slots reads them back.
--   wrote    the two calls and what they gave
--   reads    what `written-reads` says of it: the entries that the two slots tell of are those
-- Assumes nothing.
use Prim.Native.Nat.{ℕ}
use mathlib.Core.Path.{◌≡◌, refl}
use mathlib.Core.List.{List, [], ◌∷◌, ◌++◌}
use native.Mathlib.Omega.{arith}
use lib.ListN.{length, replicate}
use Rattle.numbers.specs.Number.{bytes_of}
use Rattle.numbers.proofs.NumberLaws.{small_bytes}
use Rattle.record.specs.declared.Slot.{Slot}
use Rattle.record.specs.Record.{opening_shape}
use Rattle.walk.specs.declared.Walked.{Walked}
use Rattle.walk.specs.Fill.{FillSays}
use Rattle.spec_id.proofs.Cases.{spec_id, pair}
use Rattle.write.specs.declared.Form.{Form}
use Rattle.write.specs.Write.{Entry, entry_of, record_bytes, Given}
use Rattle.write.specs.Again.{entries_in}
use Rattle.write.proofs.Cases.{computing}
use Rattle.promises.specs.Writing.{Writings, rests, writes}
use Rattle.promises.proofs.OneOutcome.{write-some}
use Rattle.promises.proofs.Writing.{written-reads}

-- a digest of zeros
abbrev digest : ℕ → ℕ → List ℕ
digest id n = bytes_of 2 id ++ bytes_of 2 n ++ replicate n 0

abbrev marker : Entry
marker = entry_of Form.Sha1 0 3 (digest 4 20) (spec_id 2 (pair 0x000B 32 ∷ []) [])

abbrev second : Entry
second = entry_of Form.Agile 7 6 (digest 0x000B 32) (1 ∷ [])

given : Given marker × Given second
unfolding computing
given = (
  record { register = omega arith; event = omega arith; digests = small_bytes _ refl; body = small_bytes _ refl },
  record { register = omega arith; event = omega arith; digests = small_bytes _ refl; body = small_bytes _ refl },
)

-- the bytes that came out
abbrev bytes : List ℕ
bytes = record_bytes marker ++ (record_bytes second ++ [])

pub wrote : Writings opening_shape (marker ∷ second ∷ []) bytes
unfolding computing
wrote =
    writes {n = 65} (write-some opening_shape marker given.0 (replicate 100 1)) refl
    (writes {n = 51} (write-some _ second given.1 (replicate 100 1)) refl rests)

log-length : length (bytes ++ (9 ∷ [])) ≡ 117
unfolding computing
log-length = refl

pub reads : (old : List Slot) (r : Walked) (slots : List Slot) → FillSays (bytes ++ (9 ∷ [])) old r slots → length old ≡ 2
    → (rs : List Slot) × (length rs ≡ 2) × (entries_in opening_shape (bytes ++ (9 ∷ [])) rs ≡ marker ∷ second ∷ [])
reads old r slots says room =
    let t = written-reads (marker ∷ second ∷ []) bytes (9 ∷ []) wrote (omega arith) (omega (arith, log-length)) old r slots says (omega (arith, room)) in
    (t.0, t.1, t.5)
