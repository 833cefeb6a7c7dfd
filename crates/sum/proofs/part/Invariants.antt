-- `sum::part`: what is left, from the register now, gives what the whole part gives. Assumes nothing.
use mathlib.Core.Path.{◌≡◌}
use lib.ListN.{drop}
use Rattle.sum.specs.Sum.{table_from}
use Rattle.sum.proofs.part.Given as goal

abbrev pub invariant-loop-b : goal.invariant-loop-b
invariant-loop-b l = table_from l.table l.r (drop l.b-index l.s) ≡ table_from l.table l.register l.s
