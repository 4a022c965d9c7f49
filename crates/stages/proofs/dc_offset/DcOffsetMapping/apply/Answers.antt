use Rattle.std.proofs.Common.{◌∙◌, ap₂, arith}
use Rattle.std.proofs.lemmas.Int.{ints}
use Rattle.stages.proofs.dc_offset.DcOffsetMapping.apply.Goals as goal

pub returns : goal.returns
returns g c = c.new.ensures ∙ ap₂ g.K.Sample.sample (omega (arith, ints)) (omega (arith, ints))
