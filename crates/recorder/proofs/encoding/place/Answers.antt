use Rattle.std.proofs.Common.{◌≡◌, ◌+◌, ◌-◌, length, refl, arith}
use Rattle.std.proofs.lemmas.List.{drop-drop}
use Rattle.recorder.proofs.encoding.place.Goals as goal

pub returns : goal.returns
returns c =
    let e : c.args.at + length c.args.content.now - c.args.at ≡ length c.args.content.now = omega arith in
    rw (c.copy_from_slice.ensures.after, drop-drop, e) refl
