use Rattle.std.proofs.Common.{◌≡◌, List, replicate, refl, ap}
use Rattle.stages.specs.declared.gain.Gain.{Gain}
use Rattle.stages.specs.declared.multipath.Paths.{Paths}
use Rattle.stages.specs.declared.scaling.Scaling.{Scaling}
use Rattle.stages.specs.declared.noise.Seeds.{Seeds}
use Rattle.stages.specs.declared.amplifier.AmplifierTable.{AmplifierTable}
use Rattle.settings.specs.Fresh.{fresh}
use Rattle.settings.proofs.Accepted.{scale_made, gain_made, seeds_made}
use Rattle.settings.proofs.Equal.{same_made, same_entry, same_path, same_paths, same_table}
use Rattle.settings.proofs.settings.Settings.fresh.Goals as goal

-- the parts that carry facts of their numbers are the fresh ones
with_parts : {s : Scaling} {t : AmplifierTable} {p : Paths} {g : Gain} {n : Seeds} {gs : List Gain} → s ≡ fresh.scale → t ≡ fresh.amplifier → p ≡ fresh.paths → g ≡ fresh.gain → n ≡ fresh.seeds → gs ≡ fresh.receive_gains → record fresh { scale = s; amplifier = t; paths = p; gain = g; seeds = n; receive_gains = gs } ≡ fresh
with_parts s t p g n gs = λ i. record fresh { scale = s i; amplifier = t i; paths = p i; gain = g i; seeds = n i; receive_gains = gs i }

pub returns : goal.returns
returns c =
    with_parts
    (same_made (scale_made _) (scale_made _))
    (same_table _ _ (ap (replicate 513) (same_entry _ _ refl refl)))
    (same_paths _ _ (ap (replicate 10) (same_path _ _ refl refl refl)) refl)
    (same_made (gain_made _ _ refl) (gain_made _ _ refl))
    (same_made (seeds_made _) (seeds_made _))
    (ap (replicate 128) (same_made (gain_made _ _ refl) (gain_made _ _ refl)))
