-- `text::utf8::well_formed`: what is left is as well formed as the whole; each turn passes a sequence, and after a plain
-- byte the rest of its run. Assumes nothing.
use Rattle.std.proofs.Common.{◌≡◌, length}
use Rattle.text.specs.Rows.{formed}
use Rattle.text.specs.Unicode.{utf8_rows}
use Rattle.text.proofs.utf8.well_formed.Given as goal

abbrev pub invariant-loop-lead : goal.invariant-loop-lead
invariant-loop-lead l = formed utf8_rows 0 l.rest ≡ formed utf8_rows 0 l.s

abbrev pub decreases-loop-lead : goal.decreases-loop-lead
decreases-loop-lead l = length l.rest
