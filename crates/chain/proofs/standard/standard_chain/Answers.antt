use Rattle.std.proofs.Common.{ap, ◌∙◌}
use Rattle.samples.specs.declared.kinds.WorkingSample.{WorkingSample}
use Rattle.sources.specs.Streams.{Stream}
use Rattle.chain.specs.Chains.{linked}
use Rattle.chain.proofs.standard.standard_chain.Goals as goal

-- the scaling, then the chain over what it gives
pub returns : goal.returns
returns g c =
    let link = ap (λ (x : Stream WorkingSample). linked c.args.settings.now x (g.G.Source.whole c.args.indices)) c.new-scaled.ensures.starts.0 in
    (c.new.ensures.0 ∙ link, c.new.ensures.1 ∙ link)
