-- An agile log that divides: a marker with two pairs, a record with two digests and one byte of data, and a tail of three. Assumes nothing.
use Prim.Native.Nat.{ℕ}
use mathlib.Core.Path.{◌≡◌, refl}
use mathlib.Core.List.{List, [], ◌∷◌, ◌++◌}
use lib.ListN.{replicate}
use Rattle.numbers.specs.Number.{bytes_of, Bytes}
use Rattle.numbers.specs.Range.{span_of}
use Rattle.numbers.proofs.NumberLaws.{small_bytes}
use Rattle.refusal.specs.declared.Ending.{Ending}
use Rattle.contents.specs.declared.Contents.{Contents}
use Rattle.contents.proofs.Cases.{computing as data_computing}
use Rattle.record.proofs.Cases.{computing as record_computing}
use Rattle.pieces.specs.Slots.{into}
use Rattle.pieces.specs.Walk.{walk_f, walk, whole_walk}
use Rattle.record.specs.declared.Slot.{Slot}
use Rattle.walk.specs.Fill.{bare_into}
use Rattle.promises.specs.Bench.{one, spec_id, marker_of}
use Rattle.walk.specs.Divides.{Divides}
use Rattle.walk.proofs.Means.{told, means}

abbrev log : List ℕ
log =
    one 3 (spec_id (record { id = 0x0004; size = 20 } ∷ record { id = 0x000B; size = 32 } ∷ []))
    ++ bytes_of 4 7 ++ bytes_of 4 6 ++ bytes_of 4 2 ++ bytes_of 2 0x0004 ++ replicate 20 1 ++ bytes_of 2 0x000B ++ replicate 32 2 ++ bytes_of 4 1 ++ (5 ∷ [])
    ++ replicate 3 9

abbrev marker : Slot
marker = record { start = 0; register = 0; event = 3; digest_place = 8; digests = 1; serial = 0; «data» = span_of 32 37; contents = marker_of 2 69 }

abbrev second : Slot
second = record { start = 69; register = 7; event = 6; digest_place = 81; digests = 2; serial = 0; «data» = span_of 141 1; contents = Contents.Empty }

is-bytes : Bytes log
unfolding data_computing
is-bytes = small_bytes log refl

walked : bare_into 2 log ≡ told (marker ∷ second ∷ []) (Ending.End 142 3)
unfolding data_computing record_computing walk_f walk whole_walk into bare_into
walked = refl

pub divides : Divides log (marker ∷ second ∷ []) 142 3
divides = ((means log is-bytes 2 (marker ∷ second ∷ []) (Ending.End 142 3)).0 walked).2
