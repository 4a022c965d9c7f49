-- Tables in text: which lines count, and their columns.
use Rattle.std.specs.Prelude.{◌≡◌, ℕ, List, [], ◌∷◌, map, ◌==◌, ◌≢◌, slice_index}
use Rattle.std.specs.List.{slice_split}
use Rattle.std.specs.Str.{trim}
use Rattle.comparison.specs.declared.table.Row.{Row}

-- the byte that begins a comment
abbrev pub hash : ℕ
hash = 35

-- the byte that stands between columns
abbrev pub bar : ℕ
bar = 124

-- the line holds something, and is no comment
abbrev pub IsEntry : List ℕ → Type 0
IsEntry line = (line ≢ []) × (slice_index line 0 ≢ hash)

-- what stands between the bars, without the blanks around it
abbrev pub columns : List ℕ → List (List ℕ)
columns line = map trim (slice_split (λ b. b == bar) line)

-- there is no bar
abbrev pub IsOneColumn : List ℕ → Type 0
IsOneColumn text = columns text ≡ trim text ∷ []

-- the first column, and the text behind its bar
abbrev pub Begins : List ℕ → List ℕ → List ℕ → Type 0
Begins text first rest = columns text ≡ first ∷ columns rest

-- the four columns of a row
abbrev pub row_columns : Row → List (List ℕ)
row_columns row = row.name.now ∷ row.what.now ∷ row.of_what.now ∷ row.answer.now ∷ []
