use Rattle.std.proofs.Common.{◌≡◌, ◌<◌, length, refl, arith, rules}
use Rattle.std.proofs.lemmas.Int.{ints}
use Rattle.stages.specs.Multipath.{total, echo_sum, echo_re, echo_im, ring}
use Rattle.stages.proofs.Echoing.{turn, echo_more}
use Rattle.stages.proofs.multipath.Multipath.echo_sum.Goals as goal
use Rattle.stages.proofs.multipath.Multipath.echo_sum.Goals.{else-loop-i-test, then-loop-i-test+then-i-self}

pub loop-i-init : goal.loop-i-init
unfolding total
loop-i-init c =
    (omega arith, record { value = refl; low = omega (arith, ints); high = omega (arith, ints) }, record { value = refl; low = omega (arith, ints); high = omega (arith, ints) })

pub loop-i-preserved : goal.loop-i-preserved
loop-i-preserved c =
    let s = c.args.self.now in
    let x = ring s.echo_line s.newest in
    let e = c.echo-echo_re in
    let l : c.loop-i.i < length s.paths.places = omega (arith, s.paths.ten) in
    let p = echo_more echo_re x s.paths.places c.loop-i.i c.path-item.result _ e.result.0 l c.back-x.ensures e.ensures.re in
    let q = echo_more echo_im x s.paths.places c.loop-i.i c.path-item.result _ e.result.1 l c.back-x.ensures e.ensures.im in
    (omega arith, turn c.loop-i.i _ _ _ e.result.0 (omega arith) c.loop-i.invariant.1 (search rules) e.ensures.re_within p, turn c.loop-i.i _ _ _ e.result.1 (omega arith) c.loop-i.invariant.2 (search rules) e.ensures.im_within q)

pub returns : goal.returns
unfolding echo_sum
returns c =
    let all : c.loop-i.i ≡ c.args.self.now.paths.count =
    elim c.loop-i-test.branch [ else-loop-i-test w ↦ omega arith | then-loop-i-test+then-i-self w ↦ omega arith ] in
    rw (← all, ← c.loop-i.invariant.1.value, ← c.loop-i.invariant.2.value) c.divided.ensures
