-- Where two lists first differ.
use Rattle.std.specs.Prelude.{ℕ, Bool, List, Option, Some, None, if◌then◌else◌, ◌&&◌, vec_items}
use Rattle.std.specs.Cmp.Lexicographic.{pointwise}
use Rattle.std.specs.List.{common_prefix_len}
use Rattle.sources.specs.declared.whole.Whole.{Whole}

-- how far the lists agree, unless they agree throughout
abbrev pub difference : {T : Type 0} → (T → T → Bool) → List T → List T → Option ℕ
difference eq one other = if pointwise eq one other then None else Some (common_prefix_len eq one other)

-- the same of two wholes, whose endings stand behind the last item
abbrev pub whole_difference : {T E : Type 0} → (T → T → Bool) → (E → E → Bool) → Whole T E → Whole T E → Option ℕ
whole_difference eq ends one other =
    if pointwise eq (vec_items one.items) (vec_items other.items) && ends one.ending other.ending
    then None
    else Some (common_prefix_len eq (vec_items one.items) (vec_items other.items))
