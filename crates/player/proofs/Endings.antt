-- When the ending is answered, and what an item that `next` answers says of those that are left.
use Rattle.std.proofs.Common.{◌≡◌, ℕ, min, Bool, true, false, List, length, Some, None, Ok, Err, arith}
use Rattle.std.proofs.lemmas.Bool.Decides.{nat_tests}
use Rattle.std.specs.List.{slice_get}
use Rattle.sources.specs.Streams.{Ending}
use Rattle.player.specs.Plain.{answer_of}
use Rattle.player.specs.Standing.{left_to_later}

-- an item that is answered is the first that is left
pub an_item : {T : Type 0} (place : ℕ) (items : List T) (e : Ending) (got : Bool) (x : T) → Ok (Some x) ≡ left_to_later got (answer_of e place 1 (min 1 (length items)) None (slice_get items 0)) → slice_get items 0 ≡ Some x
an_item place items (Ok _) true x h = grind (arith, nat_tests)
an_item place items (Ok _) false x h = grind (arith, nat_tests)
an_item place items (Err f) true x h = grind (arith, nat_tests)
an_item place items (Err f) false x h = grind (arith, nat_tests)
