use Rattle.std.proofs.Common.{◌+ℤ◌, arith, w64, SFits}
use Rattle.std.proofs.lemmas.Int.{ints, to_z-of_z}
use Rattle.stages.proofs.imbalance.Balance.real.Goals as goal

pub overflow_add-own : goal.overflow_add-own
overflow_add-own c = omega (arith, ints)

pub returns : goal.returns
returns c =
    let sum : SFits w64 (c.times-own.result +ℤ c.times-leaked.result) = omega (arith, ints) in
    grind (arith, to_z-of_z)
