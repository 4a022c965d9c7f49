use Rattle.std.proofs.Common.{◌∙◌, ap₂, arith}
use Rattle.std.proofs.lemmas.Int.{ints}
use Rattle.samples.specs.Kinds.{air}
use Rattle.stages.proofs.noise.AddingMapping.apply.Goals as goal

pub returns : goal.returns
returns c = c.new.ensures ∙ ap₂ air (omega (arith, ints)) (omega (arith, ints))
