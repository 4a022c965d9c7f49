use Rattle.std.proofs.Common.{◌^◌, ◌≤◌, unsigned_abs, arith, w32, SFits}
use Rattle.std.proofs.lemmas.Int.{ints}
use Rattle.samples.proofs.Products.{passed_product}
use Rattle.samples.proofs.arithmetic.times.Goals as goal

pub returns-clause-within : goal.returns-clause-within
returns-clause-within c =
    let f : SFits w32 c.args.factor = c.ranges.factor in
    let n : unsigned_abs c.args.factor ≤ 2 ^ 31 = omega (arith, ints) in
    passed_product (unsigned_abs c.args.factor) (2 ^ 31) c.from.result c.from-2.result (omega (arith, ints)) (omega (arith, ints)) (omega arith) (omega arith) (omega arith)
