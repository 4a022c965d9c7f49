-- The names of the files that hold one signal, and which of them are refused.
use Rattle.std.specs.Prelude.{ℕ, ◌+◌, ◌-◌, ◌<◌, Bool, false, IfSome, List, ◌++◌, length, take, Option, Some, None, codes, decimal, if◌then◌else◌, ◌==◌}
use Rattle.std.specs.Path.{path_extension}
use Rattle.std.specs.Str.{bytes_eq}
use Rattle.program.specs.declared.inputs.Inputs.{Inputs}

-- the name up to its ending, then -2 and the ending; the name and -2 where it does not end so
abbrev pub name_before : List ℕ → ℕ → List ℕ → List ℕ
name_before to n ending =
    let stem = take (length to - length ending) to in
    if bytes_eq to (stem ++ ending) then stem ++ (codes "-" ++ (decimal n ++ ending)) else to ++ (codes "-" ++ decimal n)

-- stem-2.ending, or the name and -2 without an ending
abbrev pub part_name : List ℕ → ℕ → Option (List ℕ) → List ℕ
part_name to n None = to ++ (codes "-" ++ decimal n)
part_name to n (Some ending) = name_before to n (codes "." ++ ending)

-- file 1 has the name itself, file n has -n before the ending
abbrev pub numbered : List ℕ → ℕ → List ℕ
numbered to n = if n == 1 then to else part_name to n (path_extension to)

-- For none of these names the host reported that something else than a recording lies there.
abbrev pub Clears : (List ℕ → Bool → Type 0) → List ℕ → ℕ → Type 0
Clears answers to files = (k : ℕ) → k < files → answers (numbered to (k + 1)) false

-- For none of these names the host reported that it leads to the input.
abbrev pub Spares : (List ℕ → List ℕ → Bool → Type 0) → List ℕ → List ℕ → ℕ → Type 0
Spares answers input to files = (k : ℕ) → k < files → answers input (numbered to (k + 1)) false

-- For none of the names of so many files the host reported that it leads to an input, or that something else than a
-- recording lies there.
pub record SparesAll (same : List ℕ → List ℕ → Bool → Type 0) (other : List ℕ → Bool → Type 0)
    (inputs : Inputs) (to : List ℕ) (files : ℕ) : Type 0 where
  pub signal : Spares same inputs.signal.now to files
  pub gain : Spares same inputs.gain.now to files
  pub settings : IfSome inputs.settings (λ file. Spares same file.now to files)
  pub clear : Clears other to files
