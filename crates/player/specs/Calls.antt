-- Calls and answers as values. A buffer is the items that it holds.
use Rattle.std.specs.Prelude.{ℕ, List, length, vec_items, Option, Result}
use Rattle.player.specs.declared.calls.Answer.{Answer}
use Rattle.player.specs.declared.calls.Answer.TheVariants.{Item, Filled, Skipped, Rewound}
use Rattle.player.specs.declared.calls.Call.{Call}
use Rattle.player.specs.declared.calls.Call.TheVariants.{Next, Fill, Skip, Rewind}
use Rattle.player.specs.declared.fault.PlayerFault.{PlayerFault}

-- what a player is asked: a fill with its buffer as it is before the call
pub data Asked (T : Type 0) : Type 0 where
  next : Asked T
  fill : List T → Asked T
  skip : ℕ → Asked T
  rewind : Asked T

-- what it answers: a fill with its buffer as it is after the call
pub data Answered (T : Type 0) : Type 0 where
  item : Result (Option T) PlayerFault → Answered T
  filled : Result ℕ PlayerFault → List T → Answered T
  skipped : Result ℕ PlayerFault → Answered T
  rewound : Answered T

-- how many items are wanted: by next one, by fill as many as its buffer holds, by skip n
abbrev pub wanted : {T : Type 0} → Asked T → ℕ
wanted next = 1
wanted (fill buffer) = length buffer
wanted (skip n) = n
wanted rewind = 0

-- what a call asks
abbrev pub asked : {T : Type 0} → Call T → Asked T
asked Next = next
asked (Fill buffer) = fill (vec_items buffer)
asked (Skip n) = skip n
asked Rewind = rewind

-- what an answer says
abbrev pub answered : {T : Type 0} → Answer T → Answered T
answered (Item r) = item r
answered (Filled r buffer) = filled r (vec_items buffer)
answered (Skipped r) = skipped r
answered Rewound = rewound
