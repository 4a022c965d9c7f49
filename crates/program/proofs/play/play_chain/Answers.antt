use Rattle.std.proofs.Common.{OnOk, subst}
use Rattle.samples.specs.declared.kinds.ConverterSample.{ConverterSample}
use Rattle.sources.specs.Streams.{Stream}
use Rattle.program.specs.Files.{Adds, files_of}
use Rattle.program.proofs.play.play_chain.Goals as goal

pub returns-clause-files : goal.returns-clause-files
returns-clause-files g c =
    subst (λ (w : Stream ConverterSample). OnOk c.write_player.result (Adds (files_of c.args.to.now c.args.rate w.items) (g.H.Host.written c.args.host.now) (g.H.Host.written c.write_player.new.host)))
    c.standard_player-player.ensures.stands.whole c.write_player.ensures.files
