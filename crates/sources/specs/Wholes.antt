-- The whole of a stage from the wholes below it.
use Rattle.std.specs.Prelude.{◌≡◌, ℕ, cond, List, [], ◌∷◌, ◌++◌, map, length, replicate, Some, None, Option, nat_le, Ok}
use Rattle.sources.specs.Streams.{Ending, Stream}

-- item k is f of item k below
abbrev pub each : {A B : Type 0} → (A → B) → Stream A → Stream B
each f s = record { items = map f s.items; ending = s.ending }

-- the items are what f makes of the list below
abbrev pub transformed : {A B : Type 0} → (List A → List B) → Stream A → Stream B
transformed f s = record { items = f s.items; ending = s.ending }

-- a list formula gives one item for each item
abbrev pub SameLength : {A B : Type 0} → (List A → List B) → Type 0
SameLength f = (xs : List _) → length (f xs) ≡ length xs

-- n times one item, finished
abbrev pub held : {T : Type 0} → ℕ → T → Stream T
held n x = record { items = replicate n x; ending = Ok tt }

-- n copies of an item, then everything below; the ending is the one below
abbrev pub behind_lead : {T : Type 0} → ℕ → T → Stream T → Stream T
behind_lead n x s = record { items = replicate n x ++ s.items; ending = s.ending }

-- item k is item k of the first beside item k of the second, as long as both last
abbrev pub zipped : {A B : Type 0} → List A → List B → List (A × B)
zipped [] ys = []
zipped (x ∷ xs) [] = []
zipped (x ∷ xs) (y ∷ ys) = (x, y) ∷ zipped xs ys

-- the first's ending if the first is not longer, else the second's
abbrev pub shorter_ending : {A B : Type 0} → Stream A → Stream B → Ending
shorter_ending a b = cond (nat_le (length a.items) (length b.items)) a.ending b.ending

-- two sources item by item
abbrev pub paired : {A B : Type 0} → Stream A → Stream B → Stream (A × B)
paired a b = record { items = zipped a.items b.items; ending = shorter_ending a b }

-- an item that was taken and is kept stands before what is left
abbrev pub kept_before : {T : Type 0} → Option T → Stream T → Stream T
kept_before None s = s
kept_before (Some x) s = record { items = x ∷ s.items; ending = s.ending }
