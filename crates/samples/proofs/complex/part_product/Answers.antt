use Rattle.std.proofs.Common.{◌^◌, arith}
use Rattle.std.proofs.lemmas.Int.{ints}
use Rattle.samples.proofs.Products.{passed_product}
use Rattle.samples.proofs.complex.part_product.Goals as goal

pub returns-clause-within : goal.returns-clause-within
returns-clause-within c = passed_product (2 ^ 15) (2 ^ 15) c.from.result c.from-2.result (omega (arith, ints)) (omega (arith, ints)) (omega arith) (omega arith) (omega arith)
