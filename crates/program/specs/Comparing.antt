-- Playing a chain whole, in blocks of several sizes.
use Rattle.std.specs.Prelude.{◌≡◌, ℕ, Bool, length, vec_items, None, Option, Result}
use Rattle.std.specs.Option.{option_map}
use Rattle.samples.specs.declared.kinds.ConverterSample.{ConverterSample}
use Rattle.sources.specs.Streams.{Stream}
use Rattle.sources.specs.Differences.{whole_difference}
use Rattle.sources.specs.declared.whole.Whole.{Whole}
use Rattle.player.specs.Plain.{ending_answer}
use Rattle.player.specs.declared.fault.PlayerFault.{PlayerFault}
use Rattle.program.specs.declared.replay.Compared.{Compared}
use Rattle.program.specs.declared.replay.Difference.{Difference}

-- all items of the whole, and its ending, which the player meets behind them
pub record PlayedWhole (w : Stream ConverterSample)
    (played : Whole ConverterSample (Result Unit PlayerFault)) : Type 0 where
  pub items : vec_items played.items ≡ w.items
  pub ending : played.ending ≡ ending_answer w.ending (length w.items) tt

-- the first place at which the wholes differ, which is reported with the size of the blocks
abbrev pub difference_at : {T E : Type 0} → (T → T → Bool) → (E → E → Bool) → ℕ → Whole T E → Whole T E → Option Difference
difference_at eq ends size whole again =
    option_map (λ place. record { size = size; place = place }) (whole_difference eq ends whole again)

-- the block size makes no difference
abbrev pub alike : Stream ConverterSample → Compared
alike w = record { items = length w.items; difference = None }
