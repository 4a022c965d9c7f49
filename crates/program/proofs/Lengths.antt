-- How many items the chain has.
use Rattle.std.proofs.Common.{◌≡◌, ℕ, ◌+◌, ◌-◌, ◌^◌, min, Bool, true, false, cond, List, [], ◌∷◌, length, replicate, refl, ap, ◌∙◌, ap₂, arith, pos}
use Rattle.std.proofs.lemmas.List.{length-append, length-map, length-replicate}
use Rattle.samples.specs.Kinds.{gain_index}
use Rattle.samples.specs.declared.gain_index.GainIndex.{GainIndex}
use Rattle.samples.specs.declared.kinds.ConverterSample.{ConverterSample}
use Rattle.samples.specs.declared.kinds.WorkingSample.{WorkingSample}
use Rattle.sources.specs.Streams.{Stream, length_tabulate}
use Rattle.stages.specs.ClockOffset.{clocked, clock_step, output_count}
use Rattle.stages.specs.Noise.{noise}
use Rattle.sources.specs.Wholes.{each, behind_lead, paired, transformed, zipped}
use Rattle.stages.specs.Scaling.{scaled}
use Rattle.stages.specs.Multipath.{echoes, length_echoes, silence, used}
use Rattle.stages.specs.FrequencyOffset.{frequency_offset, length_offset}
use Rattle.settings.specs.declared.settings.Settings.{Settings}
use Rattle.chain.specs.Chains.{linked, played}
use Rattle.chain.specs.Formulas.{all_noise, added, amplified_unless, channel_gained, receive_gained, working_balanced, working_offset}
use Rattle.program.specs.Sides.{gain_side, signal_side}

-- pairs, as long as both last
zipped_length : {A B : Type 0} (xs : List A) (ys : List B) → length (zipped xs ys) ≡ min (length xs) (length ys)
zipped_length [] ys = omega arith
zipped_length (x ∷ xs) [] = omega arith
zipped_length (x ∷ xs) (y ∷ ys) = let h = zipped_length xs ys in omega arith

clocked_length : (bypassed : Bool) (step : ℕ) (s : Stream WorkingSample) → length (clocked bypassed step s).items ≡ cond bypassed (length s.items) (output_count step (length s.items))
clocked_length true step s = refl
clocked_length false step s = length_tabulate _ 0 (output_count step (length s.items))

noise_length : (n re im : ℕ) → length (noise n re im).items ≡ n
noise_length n re im = length_tabulate _ 0 n

all_noise_length : (re im : ℕ) → length (all_noise re im).items ≡ 2 ^ 32 - 1
unfolding all_noise
all_noise_length re im = noise_length (2 ^ 32 - 1) re im

behind_lead_length : {T : Type 0} (n : ℕ) (x : T) (s : Stream T) → length (behind_lead n x s).items ≡ n + length s.items
behind_lead_length n x s = length-append (replicate n x) s.items ∙ ap (λ (k : ℕ). k + length s.items) (length-replicate n x)

-- the chain over working samples: as many items as the shorter side of the receiver
linked_length : (s : Settings) (x : Stream WorkingSample) (g : Stream GainIndex)
    → length (linked s x g).items ≡ min (signal_side s (length x.items)) (gain_side s (length g.items))
linked_length s x g =
    let amplified = each (amplified_unless s.amplifier_bypass s.amplifier) (each (working_balanced s.tx_imbalance) (each (working_offset s.tx_dc) x)) in
    let echoed = transformed (echoes (used s.paths) silence) amplified in
    let turned = transformed (frequency_offset 0 s.frequency.f) echoed in
    let resampled = clocked s.clock_bypass (clock_step s.clock.c) turned in
    let on_air = each (channel_gained s.gain) resampled in
    let noisy = each added (paired on_air (all_noise s.seeds.re s.seeds.im)) in
    let chosen = behind_lead s.lead (gain_index (pos 0)) g in
    let received = each (receive_gained s.receive_gains) (paired noisy chosen) in
    let n0 : length amplified.items ≡ length x.items = length-map _ _ ∙ length-map _ _ ∙ length-map _ _ in
    let n1 : length echoed.items ≡ length x.items = length_echoes (used s.paths) silence amplified.items ∙ n0 in
    let n2 : length turned.items ≡ length x.items = length_offset 0 s.frequency.f echoed.items ∙ n1 in
    let n3 : length on_air.items ≡ cond s.clock_bypass (length x.items) (output_count (clock_step s.clock.c) (length x.items)) =
    length-map resampled.items _ ∙ clocked_length s.clock_bypass (clock_step s.clock.c) turned ∙ ap (λ (k : ℕ). cond s.clock_bypass k (output_count (clock_step s.clock.c) k)) n2 in
    let n4 : length noisy.items ≡ signal_side s (length x.items) =
    length-map (zipped on_air.items (all_noise s.seeds.re s.seeds.im).items) _ ∙ zipped_length on_air.items (all_noise s.seeds.re s.seeds.im).items ∙ ap₂ min n3 (all_noise_length s.seeds.re s.seeds.im) in
    let n5 : length received.items ≡ min (signal_side s (length x.items)) (gain_side s (length g.items)) =
    length-map (zipped noisy.items chosen.items) _ ∙ zipped_length noisy.items chosen.items ∙ ap₂ min n4 (behind_lead_length s.lead (gain_index (pos 0)) g) in
    length-map _ _ ∙ length-map _ _ ∙ length-map received.items _ ∙ n5

-- the standard chain
pub played_length : (s : Settings) (x : Stream ConverterSample) (g : Stream GainIndex)
    → length (played s x g).items ≡ min (signal_side s (length x.items)) (gain_side s (length g.items))
played_length s x g =
    linked_length s (each (scaled s.scale.factor) x) g ∙ ap (λ (k : ℕ). min (signal_side s k) (gain_side s (length g.items))) (length-map x.items _)
