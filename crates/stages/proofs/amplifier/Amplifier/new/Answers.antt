use Rattle.std.proofs.Common.{◌^◌, ◌<◌, arith}
use Rattle.samples.proofs.RootFacts.{root_is}
use Rattle.stages.proofs.amplifier.Amplifier.new.Goals as goal

pub returns-clause-exact : goal.returns-clause-exact
returns-clause-exact c = λ n h. let small : n < 2 ^ 82 = omega arith in root_is n small
