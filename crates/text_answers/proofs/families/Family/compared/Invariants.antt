-- At most as many blocks differ as were compared, so that their number fits.
use Rattle.std.proofs.Common.{◌≤◌}
use Rattle.text_answers.proofs.families.Family.compared.Given as goal

abbrev pub invariant-loop-block : goal.invariant-loop-block
invariant-loop-block l = l.differ ≤ l.block
