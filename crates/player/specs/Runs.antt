-- The law of runs: whatever calls are made on a freshly made player, in any order and number and with any arguments, item k
-- that comes out is item k of one whole, and an ending is reported only where that whole ends.
use Rattle.std.specs.Prelude.{◌≡◌, ℕ, ◌+◌, ◌<◌, ◌≤◌, cond, List, [], ◌∷◌, ◌++◌, length, map, take, Some, None, Ok, Err, fold, Option, Result, Vec, vec_items}
use Rattle.std.specs.List.{slice_get}
use Rattle.sources.specs.Streams.{Ending, Stream}
use Rattle.player.specs.declared.fault.PlayerFault.{PlayerFault}
use Rattle.player.specs.declared.calls.Answer.{Answer}
use Rattle.player.specs.declared.calls.Call.{Call}
use Rattle.player.specs.Calls.{Asked, asked, wanted, Answered, answered, item, filled, skipped, rewound}
use Rattle.sources.specs.Places.{stopped}
use Rattle.player.specs.Plain.{none_handed_out, plain_run}
use Rattle.player.specs.Standing.{Standing, Plays}

-- the items that an answer brings out, in order
abbrev pub items_in : {T : Type 0} → Answered T → List T
items_in (item (Ok (Some x))) = x ∷ []
items_in (item (Ok None)) = []
items_in (item (Err f)) = []
items_in (filled (Ok t) buffer) = take t buffer
items_in (filled (Err f) buffer) = []
items_in (skipped r) = []
items_in rewound = []

-- how many items a count reports: an ending reports none
abbrev pub counted : Result ℕ PlayerFault → ℕ
counted (Ok t) = t
counted (Err f) = 0

-- the place after an answer: an item adds one, a count adds itself, an ending adds nothing, and a rewind makes it 0
abbrev pub place_after : {T : Type 0} → ℕ → Answered T → ℕ
place_after p (item r) = p + length (items_in (item r))
place_after p (filled r buffer) = p + counted r
place_after p (skipped r) = p + counted r
place_after p rewound = 0

-- the place that a list of answers comes to, counted from the start
abbrev pub place_counted : {T : Type 0} → List (Answered T) → ℕ
place_counted answers = fold place_after 0 answers

-- the ending that a count reports, where n items were wanted: a 0 where none were wanted is no ending
abbrev pub count_ending : ℕ → Result ℕ PlayerFault → Option Ending
count_ending n (Ok t) = cond (none_handed_out n t) (Some (Ok tt)) None
count_ending n (Err f) = Some (Err f.fault)

-- the ending that an answer reports, if it reports one, where n items were wanted
abbrev pub ending_answered : {T : Type 0} → ℕ → Answered T → Option Ending
ending_answered n (item (Ok (Some x))) = None
ending_answered n (item (Ok None)) = Some (Ok tt)
ending_answered n (item (Err f)) = Some (Err f.fault)
ending_answered n (filled r buffer) = count_ending n r
ending_answered n (skipped r) = count_ending n r
ending_answered n rewound = None

-- the player's fault that an answer holds, if it holds one
abbrev pub fault_answered : {T : Type 0} → Answered T → Option PlayerFault
fault_answered (item (Ok o)) = None
fault_answered (item (Err f)) = Some f
fault_answered (filled (Ok t) buffer) = None
fault_answered (filled (Err f) buffer) = Some f
fault_answered (skipped (Ok t)) = None
fault_answered (skipped (Err f)) = Some f
fault_answered rewound = None

-- One turn of a run: its number, the call that was made and what it was answered.
pub record Turn {T : Type 0} (calls : List (Asked T)) (answers : List (Answered T)) : Type 0 where
  pub number : ℕ
  pub call : Asked T
  pub answer : Answered T
  pub call_made : slice_get calls number ≡ Some call
  pub answer_given : slice_get answers number ≡ Some answer

-- the place at a turn, counted from the answers before it
abbrev pub place_at : {T : Type 0} {calls : List (Asked T)} {answers : List (Answered T)} → Turn calls answers → ℕ
place_at {answers = answers} turn = place_counted (take turn.number answers)

-- at a turn items are wanted, and the place is the whole's length
abbrev pub AtTheEnd : {T : Type 0} {calls : List (Asked T)} {answers : List (Answered T)} → Stream T → Turn calls answers → Type 0
AtTheEnd w turn = (0 < wanted turn.call) × (place_at turn ≡ length w.items)

-- The law for a run on a player of the whole w.
pub record LawOfRuns {T : Type 0} (w : Stream T) (calls : List (Asked T)) (answers : List (Answered T)) : Type 0 where
  -- Every call is answered, once.
  pub each_once : length answers ≡ length calls
  -- Each answer, and each buffer after its fill, is the plain player's for the same calls.
  pub as_plain : answers ≡ plain_run w 0 calls
  -- What comes out at place k is item k of the whole.
  pub in_place : (turn : Turn calls answers) (j : ℕ) (x : T) → slice_get (items_in turn.answer) j ≡ Some x → slice_get w.items (place_at turn + j) ≡ Some x
  -- The place never passes the whole's length.
  pub within : (i : ℕ) → place_counted (take i answers) ≤ length w.items
  -- An end or a fault is answered only if items are wanted and the place is the whole's length, and it is the whole's ending.
  pub ends_only_there : (turn : Turn calls answers) (e : Ending) → ending_answered (wanted turn.call) turn.answer ≡ Some e → AtTheEnd w turn × (e ≡ w.ending)
  -- It is answered every time that items are wanted there.
  pub ends_always_there : (turn : Turn calls answers) → AtTheEnd w turn → ending_answered (wanted turn.call) turn.answer ≡ Some w.ending
  -- A fault holds the place, which stops at 2^63 - 1.
  pub place_in_fault : (turn : Turn calls answers) (f : PlayerFault) → fault_answered turn.answer ≡ Some f → f.place ≡ stopped (place_at turn)

-- A run of a player that stood at the start: each call made of it in turn answers and leaves what its own clause `plays` says.
pub data RunFrom {T : Type 0} (start : Standing T) : List (Asked T) → List (Answered T) → Standing T → Type 0 where
  -- no call yet
  begun : RunFrom start [] [] start
  -- one call more
  went : {calls : List (Asked T)} {answers : List (Answered T)} {before after : Standing T} (call : Asked T) (answer : Answered T) → RunFrom start calls answers before → Plays call before after answer → RunFrom start (calls ++ call ∷ []) (answers ++ answer ∷ []) after

-- The law holds of every run of a player that stood at the start.
pub record EveryRunLawful {T : Type 0} (start : Standing T) (w : Stream T) : Type 0 where
  pub law : {calls : List (Asked T)} {answers : List (Answered T)} {after : Standing T} → RunFrom start calls answers after → LawOfRuns w calls answers

-- The law for a run whose calls and answers are values.
abbrev pub RunLawful : {T Z : Type 0} → Stream T → Vec (Call T) Z → Vec (Answer T) Z → Type 0
RunLawful w calls answers = LawOfRuns w (map asked (vec_items calls)) (map answered (vec_items answers))
