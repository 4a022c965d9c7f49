-- The words of rows spell the numbers of their kinds.
use Rattle.std.proofs.Common.{ℕ, ℤ, ◌<◌, List, length, is_some, ap, sym, subst}
use Rattle.std.specs.List.{AllZip}
use Rattle.text.specs.Faults.{Spells, SayRows, TwoSay, ThreeSay, BeginsWithRow}
use Rattle.text.specs.Numbers.{unsigned, signed}
use Rattle.text.proofs.Rows.{rows_begin}
use Rattle.text.specs.Forms.{table_kinds, path_kinds}

two_spell : (ws : List (List ℕ)) (row : ℕ × ℤ) → TwoSay (unsigned 16) (signed 15) ws row.0 row.1 → AllZip Spells table_kinds ws
two_spell ws row h =
    subst (AllZip Spells table_kinds) (sym h.2) (ap is_some h.3, (ap is_some h.4, tt))

three_spell : (ws : List (List ℕ)) (row : ℤ × ℤ × ℕ) → ThreeSay (signed 15) (signed 15) (unsigned 16) ws row.0 row.1 row.2 → AllZip Spells path_kinds ws
three_spell ws row h =
    subst (AllZip Spells path_kinds) (sym h.3)
    (ap is_some h.4, (ap is_some h.5, (ap is_some h.6, tt)))

pub table_begins : (words : List (List ℕ)) (rows : List (ℕ × ℤ)) → SayRows (λ ws row. TwoSay (unsigned 16) (signed 15) ws row.0 row.1) words rows → 0 < length rows → BeginsWithRow table_kinds words
table_begins words rows h some = rows_begin table_kinds (λ ws row. TwoSay (unsigned 16) (signed 15) ws row.0 row.1) two_spell words rows h some

pub paths_begin : (words : List (List ℕ)) (rows : List (ℤ × ℤ × ℕ)) → SayRows (λ ws row. ThreeSay (signed 15) (signed 15) (unsigned 16) ws row.0 row.1 row.2) words rows → 0 < length rows → BeginsWithRow path_kinds words
paths_begin words rows h some = rows_begin path_kinds (λ ws row. ThreeSay (signed 15) (signed 15) (unsigned 16) ws row.0 row.1 row.2) three_spell words rows h some
