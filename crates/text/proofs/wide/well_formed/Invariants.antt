-- `text::wide::well_formed`: what is left is as well formed as the whole; each turn passes a sequence. Assumes nothing.
use Rattle.std.proofs.Common.{◌≡◌, length}
use Rattle.text.specs.Rows.{formed}
use Rattle.text.specs.Unicode.{wide_rows}
use Rattle.text.specs.Text.{units_of}
use Rattle.text.proofs.wide.well_formed.Given as goal

abbrev pub invariant-loop-unit : goal.invariant-loop-unit
invariant-loop-unit l = formed wide_rows 0 (units_of l.rest) ≡ formed wide_rows 0 (units_of l.s)

abbrev pub decreases-loop-unit : goal.decreases-loop-unit
decreases-loop-unit l = length l.rest
