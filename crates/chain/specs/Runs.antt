-- The law of runs, in the words of the settings and of what the two sources are.
use Rattle.std.specs.Prelude.{Vec}
use Rattle.samples.specs.declared.kinds.ConverterSample.{ConverterSample}
use Rattle.samples.specs.declared.gain_index.GainIndex.{GainIndex}
use Rattle.sources.specs.Streams.{Stream}
use Rattle.settings.specs.declared.settings.Settings.{Settings}
use Rattle.chain.specs.Chains.{played}
use Rattle.player.specs.declared.calls.Answer.{Answer}
use Rattle.player.specs.declared.calls.Call.{Call}
use Rattle.player.specs.Runs.{RunLawful}

-- a list of calls on the standard player, and its answers
abbrev pub StandardRun : {Z : Type 0} → Settings → Stream ConverterSample → Stream GainIndex → Vec (Call ConverterSample) Z → Vec (Answer ConverterSample) Z → Type 0
StandardRun settings signal indices = RunLawful (played settings signal indices)
