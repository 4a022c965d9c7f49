-- The levels of converter samples: how large their parts are, and which of them stand at an end of the range.
use Rattle.std.specs.Prelude.{ℕ, Bool, ◌||◌, ◌==◌, List, ℤ, pos, negsuc, unsigned_abs, max, fold, count_by}
use Rattle.samples.specs.declared.kinds.ConverterSample.{ConverterSample}
use Rattle.program.specs.declared.levels.Levels.{Levels}

-- the size of the greater part
abbrev pub level : ConverterSample → ℕ
level x = max (unsigned_abs x.re) (unsigned_abs x.im)

-- a part is 2047 or -2048, which is negsuc 2047
abbrev pub at_an_end : ℤ → Bool
at_an_end (pos n) = n == 2047
at_an_end (negsuc n) = n == 2047

abbrev pub is_clipped : ConverterSample → Bool
is_clipped x = at_an_end x.re || at_an_end x.im

-- the greatest level, or the one before where no sample has a greater
abbrev pub highest_from : ℕ → List ConverterSample → ℕ
highest_from before xs = fold (λ highest x. max highest (level x)) before xs

abbrev pub levels_of : List ConverterSample → Levels
levels_of xs = record { highest = highest_from 0 xs; clipped = count_by is_clipped xs }
