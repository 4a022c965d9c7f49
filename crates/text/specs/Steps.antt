-- What a line of a file of calls stands for.
use Rattle.std.specs.Prelude.{◌≡◌, ℕ, ◌<◌, List, [], ◌∷◌, map, replicate, pos, codes, MatchBool}
use Rattle.std.specs.Str.{bytes_eq}
use Rattle.text.specs.declared.fault.Wrong.{Wrong}
use Rattle.text.specs.declared.numbered.Numbered.{Numbered}
use Rattle.text.specs.Faults.{Exceeds, NoRow, OneSays, Unknown, kind_of}
use Rattle.text.specs.Numbers.{unsigned, u32_range}
use Rattle.samples.specs.Kinds.{converter}
use Rattle.samples.specs.declared.kinds.ConverterSample.{ConverterSample}
use Rattle.player.specs.Calls.{Asked, next, fill, skip, rewind}
use Rattle.text.specs.declared.transcript.step.Step.{Step}
use Rattle.text.specs.declared.transcript.step.Step.TheVariants.{Next, Fill, Skip, Rewind}

-- the call that a step asks for; a fill of n items brings n zeros
abbrev pub call_of : Step → Asked ConverterSample
call_of Next = next
call_of (Fill n) = fill (replicate n (converter (pos 0) (pos 0)))
call_of (Skip n) = skip n
call_of Rewind = rewind

-- the calls that steps ask for, in order
abbrev pub asked_by : List (Numbered Step) → List (Asked ConverterSample)
asked_by steps = map (λ step. call_of step.held) steps

-- only a fill takes memory, for its buffer, and none where it wants no items
abbrev pub TakesMemory : Step → Type 0
TakesMemory (Fill n) = 0 < n
TakesMemory _ = ⊥

-- the words of a line say a step
abbrev pub Says : List (List ℕ) → Step → Type 0
Says [] step = ⊥
Says (word ∷ more) Next = (word ≡ codes "next") × (more ≡ [])
Says (word ∷ more) (Fill n) = (word ≡ codes "fill") × OneSays (unsigned 32) more n
Says (word ∷ more) (Skip n) = (word ≡ codes "skip") × OneSays (unsigned 32) more n
Says (word ∷ more) Rewind = (word ≡ codes "rewind") × (more ≡ [])

-- what is wrong with words that say none: their first names none, or what stands behind it is not as the form has it
abbrev pub Complains : List (List ℕ) → Wrong → Type 0
Complains [] wrong = ⊥
Complains (word ∷ more) wrong =
    MatchBool (bytes_eq word (codes "next")) (Exceeds (codes "next") [] more wrong)
    (MatchBool (bytes_eq word (codes "rewind")) (Exceeds (codes "rewind") [] more wrong)
    (MatchBool (bytes_eq word (codes "fill")) (NoRow (codes "fill N") (kind_of (unsigned 32) u32_range ∷ []) more wrong)
    (MatchBool (bytes_eq word (codes "skip")) (NoRow (codes "skip N") (kind_of (unsigned 32) u32_range ∷ []) more wrong) (Unknown (codes "call") word wrong))))
