-- What comes to one fill of a player.
use Rattle.std.specs.Prelude.{◌≡◌, ℕ, ◌+◌, List, length, take, drop, Some, None, if◌then◌else◌, ◌==◌}
use Rattle.samples.specs.declared.kinds.ConverterSample.{ConverterSample}
use Rattle.sources.specs.Streams.{Stream}
use Rattle.player.specs.Plain.{ending_answer, handed_out}
use Rattle.player.specs.Standing.{Standing, Stands}
use Rattle.program.specs.declared.block.Block.{Block}

-- At place p of the whole w: the next samples, as many as there is room for, stand at the front of the block; where none is
-- left, the ending is reported.
pub record Comes (w : Stream ConverterSample) (p : ℕ) (block after : List ConverterSample)
    (stands : Standing ConverterSample) (came : Block) : Type 0 where
  pub count : came.count ≡ handed_out w p (length block)
  pub samples : take came.count after ≡ take (length block) (drop p w.items)
  pub onward : Stands stands w (p + came.count)
  pub ending : came.ending ≡ (if came.count == 0 then Some (ending_answer w.ending p tt) else None)
