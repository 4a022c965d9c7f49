use Rattle.std.proofs.Common.{◌≡◌, ℕ, zero, suc, ◌+◌, ◌/◌, ◌%◌, [], ◌∷◌, None, Ok, refl, ap, ◌∙◌, suc-add, zero-add}
use lib.Count.{ones, ones_in, ones_step}
use Rattle.samples.specs.Kinds.{air}
use Rattle.samples.specs.Phases.{index_16, index_48}
use Rattle.samples.specs.Phasors.{phasor_of, cosine, rounded, halvings, halved, step_cosine}
use Rattle.samples.specs.Roots.{root, root_from, grown}
use Rattle.sources.specs.Streams.{answer, rest}
use Rattle.sources.specs.Wholes.{paired}
use Rattle.stages.specs.Amplifier.{amplified, magnitude, interpolated}
use Rattle.stages.specs.Multipath.{echoes, echo_sum, total}
use Rattle.stages.specs.Noise.{noise}
use Rattle.stages.specs.Turns.{turned}
use Rattle.stages.specs.Worked.{minus, three_then_fault, two_indices, left_after}
use Rattle.stages.proofs.worked.worked_examples.Goals as goal

-- the ones of a number of d binary digits, digit by digit
unfoldable counted : ℕ → ℕ → ℕ
counted zero n = ones n
counted (suc d) n = n % 2 + counted d (n / 2)

by_digits : (d n : ℕ) → ones n ≡ counted d n
unfolding counted
by_digits zero n = refl
by_digits (suc d) n = ones_step n ∙ ap (λ (x : ℕ). n % 2 + x) (by_digits d (n / 2))

no_ones : ones 0 ≡ 0
unfolding ones ones_in
no_ones = refl

-- the generator's states after one step from 1, and after two
levels : (noise 2 1 1).items ≡ air (minus 2388) (minus 2388) ∷ air (minus 2189) (minus 2189) ∷ []
unfolding counted
levels = rw (by_digits 20 270369, by_digits 28 67634689, no_ones)

-- at the end `next` moves nothing
ends : (n : ℕ) → answer (left_after n (rest (rest (paired three_then_fault two_indices)))) ≡ Ok None
ends zero = refl
ends (suc n) = ends n

pub returns-clause-all : goal.returns-clause-all
unfolding amplified magnitude interpolated index_16 index_48 phasor_of cosine rounded halvings halved step_cosine root root_from grown turned echoes echo_sum total
returns-clause-all c =
    record {
      scaling = refl;
      gain = refl;
      amplifier = refl;
      amplifier_below = refl;
      multipath = refl;
      frequency = refl;
      clock_slow = refl;
      clock_fast = refl;
      noise_levels = levels;
      pairing = refl;
      pairing_ends = λ n. rw (suc-add, suc-add, zero-add) (ends n);
    }
