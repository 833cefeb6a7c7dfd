-- `text::utf8::past_blocks`: what is left is an end of the whole, and as well formed. Assumes nothing.
use Rattle.std.proofs.Common.{◌≡◌, ◌≤◌, ◌-◌, length, drop}
use Rattle.text.specs.Rows.{formed}
use Rattle.text.specs.Unicode.{utf8_rows}
use Rattle.text.proofs.utf8.past_blocks.Given as goal

abbrev pub invariant-loop-block : goal.invariant-loop-block
invariant-loop-block l = (length l.rest ≤ length l.s) × (formed utf8_rows 0 l.rest ≡ formed utf8_rows 0 l.s) × (l.rest ≡ drop (length l.s - length l.rest) l.s)

abbrev pub decreases-loop-block : goal.decreases-loop-block
decreases-loop-block l = length l.rest
