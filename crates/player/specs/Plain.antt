-- The player in plain terms: all items of one source lie at hand, and how that source ends is known. All that is remembered
-- from call to call is how many items were passed so far: the place, which starts at 0 and may grow for ever.
use Rattle.std.specs.Prelude.{ℕ, ◌+◌, ◌-◌, min, Bool, cond, ◌&&◌, List, [], ◌∷◌, ◌++◌, length, take, drop, None, Ok, Err, Option, Result, ◌==◌, nat_lt}
use Rattle.std.specs.List.{slice_get}
use Rattle.sources.specs.Places.{stopped}
use Rattle.sources.specs.Streams.{Ending, Stream}
use Rattle.sources.specs.declared.fault.Fault.{Fault}
use Rattle.player.specs.Calls.{Asked, next, fill, skip, rewind, Answered, item, filled, skipped, rewound}
use Rattle.player.specs.declared.fault.PlayerFault.{PlayerFault}

-- a call hands out as many as it asks for, as far as there are items from the place on
abbrev pub handed_out : {T : Type 0} → Stream T → ℕ → ℕ → ℕ
handed_out w p wanted = min wanted (length w.items - p)

-- a source's fault as a player reports it: unchanged, with the place beside it
abbrev pub player_fault : Fault → ℕ → PlayerFault
player_fault f p = record { fault = f; place = stopped p }

-- an ending as an answer: where all went well it is `nothing`, and a fault is reported with the place
abbrev pub ending_answer : {A : Type 0} → Ending → ℕ → A → Result A PlayerFault
ending_answer (Ok _) p nothing = Ok nothing
ending_answer (Err f) p nothing = Err (player_fault f p)

-- the call asks for something and nothing is handed out
abbrev pub none_handed_out : ℕ → ℕ → Bool
none_handed_out wanted t = nat_lt 0 wanted && t == 0

-- such a call reports the ending; any other gives the answer of its own kind
abbrev pub answer_of : {A : Type 0} → Ending → ℕ → ℕ → ℕ → A → A → Result A PlayerFault
answer_of e p wanted t nothing tells = cond (none_handed_out wanted t) (ending_answer e p nothing) (Ok tells)

-- next asks for a single item: the one at the place, or None after the last
abbrev pub plain_next : {T : Type 0} → Stream T → ℕ → Result (Option T) PlayerFault
plain_next w p = answer_of w.ending p 1 (handed_out w p 1) None (slice_get w.items p)

-- fill and skip say how many were handed out or passed
abbrev pub plain_count : {T : Type 0} → Stream T → ℕ → ℕ → Result ℕ PlayerFault
plain_count w p wanted = answer_of w.ending p wanted (handed_out w p wanted) 0 (handed_out w p wanted)

-- a filled buffer begins with the items handed out; behind them it is untouched
abbrev pub plain_buffer : {T : Type 0} → Stream T → ℕ → List T → List T
plain_buffer w p buffer = take (handed_out w p (length buffer)) (drop p w.items) ++ drop (handed_out w p (length buffer)) buffer

-- the answer to each kind of call
abbrev pub plain_answer : {T : Type 0} → Stream T → ℕ → Asked T → Answered T
plain_answer w p next = item (plain_next w p)
plain_answer w p (fill buffer) = filled (plain_count w p (length buffer)) (plain_buffer w p buffer)
plain_answer w p (skip n) = skipped (plain_count w p n)
plain_answer w p rewind = rewound

-- the place moves on by what was handed out or passed, and a rewind takes it back to 0
abbrev pub plain_place : {T : Type 0} → Stream T → ℕ → Asked T → ℕ
plain_place w p next = p + handed_out w p 1
plain_place w p (fill buffer) = p + handed_out w p (length buffer)
plain_place w p (skip n) = p + handed_out w p n
plain_place w p rewind = 0

-- the answers to call after call, where the first is made at place p
abbrev pub plain_run : {T : Type 0} → Stream T → ℕ → List (Asked T) → List (Answered T)
plain_run w p [] = []
plain_run w p (call ∷ calls) = plain_answer w p call ∷ plain_run w (plain_place w p call) calls
