-- `sum::table`: the one computed test, of all 256 entries against the bit-by-bit definition. Assumes nothing.
use mathlib.Core.Path.{refl}
use Rattle.sum.specs.Sum.{shifted, remainders}
use Rattle.sum.proofs.table.Goals as goal

pub returns : goal.returns
unfolding remainders shifted
returns c = refl
