-- While samples are left, the first is the one at the tone's place, and then those from the next place on are left.
use Rattle.std.proofs.Common.{◌≡◌, ℕ, suc, ◌+◌, ◌-◌, ◌<◌, ◌∷◌, ap, arith}
use Rattle.sources.specs.Streams.{tabulate}
use Rattle.stacking.specs.Tones.{tone_ending, tone_from, tone_sample}

pub next_sample : (turn length p : ℕ) → p < length → tone_from turn length p ≡ record { items = tone_sample turn p ∷ (tone_from turn length (p + 1)).items; ending = tone_ending length }
next_sample turn length p h =
    let left : length - p ≡ suc (length - (p + 1)) = omega arith in
    ap (λ n. record { items = tabulate (tone_sample turn) p n; ending = tone_ending length }) left
