-- `text::wide::trimmed`: what is kept trims as the whole does, and each turn drops a zero unit. Assumes nothing.
use Rattle.std.proofs.Common.{◌≡◌, ◌%◌, length}
use Rattle.text.specs.Text.{trimmed_of, units_of}
use Rattle.text.proofs.wide.trimmed.Given as goal

abbrev pub invariant-loop-front : goal.invariant-loop-front
invariant-loop-front l = (length l.kept % 2 ≡ 0) × (trimmed_of (units_of l.kept) ≡ trimmed_of (units_of l.s))

abbrev pub decreases-loop-front : goal.decreases-loop-front
decreases-loop-front l = length l.kept
