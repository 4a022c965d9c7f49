-- Where a player stands: what its source means, and the place that it has counted. What each call does is reported from there
-- alone, whatever the source has left; if that is what a whole has from a place on, it is what the plain player does.
use Rattle.std.specs.Prelude.{◌≡◌, ℕ, ◌+◌, ◌≤◌, min, Bool, true, false, List, ◌++◌, length, take, drop, None, Ok, Err, Option, Result}
use Rattle.std.specs.List.{slice_get}
use Rattle.sources.specs.Streams.{Stream, from}
use Rattle.player.specs.Calls.{Asked, next, fill, skip, rewind, Answered, item, filled, skipped, rewound}
use Rattle.sources.specs.Places.{stopped}
use Rattle.player.specs.Plain.{answer_of, plain_answer, plain_place}
use Rattle.player.specs.declared.fault.PlayerFault.{PlayerFault}

-- Where a player stands.
pub record Standing (T : Type 0) : Type 0 where
  -- the whole of its source
  pub whole : Stream T
  -- what its source has left
  pub left : Stream T
  -- the place that it has counted
  pub place : ℕ

abbrev pub standing : {T : Type 0} → Stream T → Stream T → ℕ → Standing T
standing whole left place = record { whole = whole; left = left; place = place }

-- how many items come to a call: as many as it wants, or all that are left
abbrev pub coming : {T : Type 0} → ℕ → Standing T → ℕ
coming wanted s = min wanted (length s.left.items)

-- next answers the first item that is left
abbrev pub next_answer : {T : Type 0} → Standing T → Result (Option T) PlayerFault
next_answer s = answer_of s.left.ending s.place 1 (coming 1 s) None (slice_get s.left.items 0)

-- once a call has items to hand out, a fault that comes is not its answer: the next call meets it again
abbrev pub left_to_later : {T : Type 0} → Bool → Result (Option T) PlayerFault → Result (Option T) PlayerFault
left_to_later false r = r
left_to_later true (Ok x) = Ok x
left_to_later true (Err f) = Ok None

-- fill and skip answer how many items came
abbrev pub count_answer : {T : Type 0} → ℕ → Standing T → Result ℕ PlayerFault
count_answer wanted s = answer_of s.left.ending s.place wanted (coming wanted s) 0 (coming wanted s)

-- what a fill leaves: the items that came, and behind them the buffer as it was
abbrev pub buffer_after : {T : Type 0} → List T → Standing T → List T
buffer_after buffer s = take (coming (length buffer) s) s.left.items ++ drop (coming (length buffer) s) buffer

-- what came is no longer left, and is counted; the whole stays
abbrev pub onward : {T : Type 0} → ℕ → Standing T → Standing T
onward wanted s = record { whole = s.whole; left = from (coming wanted s) s.left; place = stopped (s.place + coming wanted s) }

-- back to the start
abbrev pub restarted : {T : Type 0} → Standing T → Standing T
restarted s = record { whole = s.whole; left = s.whole; place = 0 }

-- what any call answers
abbrev pub answer_to : {T : Type 0} → Asked T → Standing T → Answered T
answer_to next s = item (next_answer s)
answer_to (fill buffer) s = filled (count_answer (length buffer) s) (buffer_after buffer s)
answer_to (skip n) s = skipped (count_answer n s)
answer_to rewind s = rewound

-- where a player stands after any call
abbrev pub standing_after : {T : Type 0} → Asked T → Standing T → Standing T
standing_after next s = onward 1 s
standing_after (fill buffer) s = onward (length buffer) s
standing_after (skip n) s = onward n s
standing_after rewind s = restarted s

-- A player stands at place p of the whole w.
pub record Stands {T : Type 0} (s : Standing T) (w : Stream T) (p : ℕ) : Type 0 where
  -- w is its source's whole
  pub whole : s.whole ≡ w
  -- its source has left what w has from p on
  pub left : s.left ≡ from p w
  -- p does not pass the length
  pub within : p ≤ length w.items
  -- it has counted p, or has stopped counting
  pub place : s.place ≡ stopped p

-- At whatever place of whatever whole a player stands before a call, it answers as the plain player does there, and stands
-- at the plain player's next place of the same whole after the call.
abbrev pub Plays : {T : Type 0} → Asked T → Standing T → Standing T → Answered T → Type 0
Plays call before after answer = (w : Stream _) (p : ℕ) → Stands before w p → (answer ≡ plain_answer w p call) × Stands after w (plain_place w p call)
