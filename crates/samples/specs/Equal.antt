-- Items with the same numbers are the same item: their ranges are facts, which have one proof.
use Rattle.std.specs.Prelude.{◌≡◌, ℕ, ◌≤◌, ℤ}
use Rattle.std.proofs.Math.Path.{PathP, to_path_p}
use Rattle.std.proofs.Math.Bridge.{le_prop}
use denote.Struct.Props.{props}
use Rattle.samples.specs.Arithmetic.{Within}
use Rattle.samples.specs.Kinds.{converter}
use Rattle.samples.specs.Widths.{clip_same}
use Rattle.samples.specs.declared.gain_index.GainIndex.{GainIndex}
use Rattle.samples.specs.declared.kinds.ConverterSample.{ConverterSample}

within_prop : (n : ℕ) (z : ℤ) → IsProp (Within n z)
within_prop n z = hlevel props

over : (n : ℕ) {x y : ℤ} (p : x ≡ y) (u : Within n x) (v : Within n y) → PathP (λ i. Within n (p i)) u v
over n {x} {y} p u v = to_path_p (λ i. Within n (p i)) (within_prop n y _ v)

pub same_sample : (a b : ConverterSample) → a.re ≡ b.re → a.im ≡ b.im → a ≡ b
same_sample a b p q = λ i. record { re = p i; im = q i; re_within = over 12 p a.re_within b.re_within i; im_within = over 12 q a.im_within b.im_within i }

pub made_of_its_parts : (x : ConverterSample) → Within 12 x.re → Within 12 x.im → converter x.re x.im ≡ x
made_of_its_parts x r i = same_sample _ x (clip_same 12 x.re r) (clip_same 12 x.im i)

over_index : {x y : ℕ} (p : x ≡ y) (u : x ≤ 127) (v : y ≤ 127) → PathP (λ i. p i ≤ 127) u v
over_index p u v = to_path_p (λ i. p i ≤ 127) (le_prop _ v)

pub same_index : (a b : GainIndex) → a.index ≡ b.index → a ≡ b
same_index a b p = λ i. record { index = p i; within = over_index p a.within b.within i }
