use Rattle.std.proofs.Common.{ℤ, ap, ◌∙◌, w16}
use Rattle.std.proofs.lemmas.Int.{to_z-of_z}
use Rattle.settings.specs.Changes.{answer, with_receive_gain}
use Rattle.settings.specs.Checks.{checked_receive_gain}
use Rattle.settings.proofs.Calls.{put_in}
use Rattle.settings.proofs.settings.Settings.set_receive_gain.Goals as goal

pub returns : goal.returns
returns c =
    let e = c.in_ok-self.ensures.value ∙ ap (λ (z : ℤ). checked_receive_gain c.args.index z c.args.factor) (to_z-of_z w16 c.args.shift c.ranges.shift) in
    record { answers = ap answer e; leaves = put_in _ (with_receive_gain c.args.index) c.args.self.now _ e }
