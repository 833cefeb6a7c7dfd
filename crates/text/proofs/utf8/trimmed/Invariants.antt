-- `text::utf8::trimmed`: what is kept trims as the whole does, and each turn drops a zero. Assumes nothing.
use Rattle.std.proofs.Common.{◌≡◌, length}
use Rattle.text.specs.Text.{trimmed_of}
use Rattle.text.proofs.utf8.trimmed.Given as goal

abbrev pub invariant-loop-last : goal.invariant-loop-last
invariant-loop-last l = trimmed_of l.kept ≡ trimmed_of l.s

abbrev pub decreases-loop-last : goal.decreases-loop-last
decreases-loop-last l = length l.kept
