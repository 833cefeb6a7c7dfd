-- Document 01's starred logs have the outcomes that it gives them (specs/Bench.antt): one list, one claim, by computation. Assumes nothing.
use mathlib.Core.Path.{refl}
use Rattle.contents.proofs.Cases.{computing as data_computing}
use Rattle.record.proofs.Cases.{computing as record_computing}
use Rattle.pieces.specs.Walk.{walk_f, walk, whole_walk}
use Rattle.standing.specs.Serials.{how_many, numbered}
use Rattle.promises.specs.Bench.{listed_of, starred, Each}

pub bench : Each starred
unfolding data_computing record_computing walk_f walk whole_walk how_many numbered listed_of
bench =
    (refl, (refl, (refl, (refl, (refl, (refl, (refl, (refl, (refl, (refl, (refl, (refl, (refl, (refl, (refl, (refl, (refl, (refl, tt))))))))))))))))))
