use Rattle.std.proofs.Common.{◌≡◌, ℤ, pos, negsuc, nat_abs, ap, arith, w64, SFits, to_z, of_z}
use lib.Signed.{quot_z}
use Rattle.std.proofs.lemmas.Int.{to_z_pos, to_z-of_z}
use Rattle.std.specs.Int.{int_rem_euclid}
use Rattle.samples.specs.Phases.{index_16}
use Rattle.samples.proofs.phasor.index_16.Goals as goal

is_index : (phase : ℤ) → nat_abs (to_z w64 (of_z w64 (quot_z (int_rem_euclid phase (pos 65536)) (pos 64)))) ≡ index_16 phase
unfolding index_16
is_index (pos a) = ap nat_abs (to_z_pos w64 _ (omega arith))
is_index (negsuc a) = ap nat_abs (to_z_pos w64 _ (omega arith))

pub returns : goal.returns
returns c =
    let p : SFits w64 c.args.phase = c.ranges.phase in
    let r : SFits w64 c.rem_euclid.result = record { sfits = c.rem_euclid.type_inv } in
    let e = simp to_z-of_z at c.rem_euclid.ensures.value in
    rw (to_z-of_z w64 c.rem_euclid.result r, e) (is_index c.args.phase)
