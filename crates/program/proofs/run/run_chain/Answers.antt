use Rattle.std.proofs.Common.{rules, refl, sym, subst}
use Rattle.program.specs.Runs.{DoesTask, OfChain, Replays, Times}
use Rattle.recordings.specs.Pair.{link_opening}
use Rattle.program.specs.declared.report.Report.TheVariants as reports
use Rattle.program.proofs.Answering.{if_ok}
use Rattle.program.proofs.run.run_chain.Goals as goal

pub returns-in-Play-clause-does : goal.returns-in-Play-clause-does
returns-in-Play-clause-does g c =
    let host = c.args.host.now in
    let report = reports.Played c.args.inputs c.in_ok-played-in-Play.played in
    subst (λ task. DoesTask (g.H.Host.may_read host) (g.H.Host.may_say_same host) (g.H.Host.may_say_other host) (g.H.Host.written host) (g.H.Host.written c.play.new.host) c.args.inputs task report) (sym c.in-Play.is) (
      refl,
      (
        c.in_ok-settings.settings,
        c.as_slice.result.now,
        c.as_slice-in-Play.result.now,
        c.in_ok-settings.ensures.chosen,
        search rules,
        search rules,
        (c.in_ok-played-in-Play.ensures.plays, c.in_ok-played-in-Play.ensures.spares),
      ),
    )

pub returns-in-Replay-clause-does : goal.returns-in-Replay-clause-does
returns-in-Replay-clause-does g c =
    let host = c.args.host.now in
    let steps = c.in_ok-steps-in-Replay.steps.items in
    let link = link_opening c.as_slice-in-Replay.result.now c.as_slice-in-Replay-2.result.now in
    if_ok (λ report. OfChain (Replays steps report) c.in_ok-settings.settings link) _ c.run_replay.result
    (λ report held. subst (λ task. DoesTask (g.H.Host.may_read host) (g.H.Host.may_say_same host) (g.H.Host.may_say_other host) (g.H.Host.written host) (g.H.Host.written host) c.args.inputs task report) (sym c.in-Replay.is) (
      refl,
      (
        steps,
        c.in_ok-steps-in-Replay.ensures.called,
        (
          c.in_ok-settings.settings,
          c.as_slice-in-Replay.result.now,
          c.as_slice-in-Replay-2.result.now,
          c.in_ok-settings.ensures.chosen,
          search rules,
          search rules,
          held,
        ),
      ),
    ))
    c.run_replay.ensures.replays

pub returns-clause-does : goal.returns-clause-does
returns-clause-does g c =
    let host = c.args.host.now in
    let link = link_opening c.as_slice-in-Bench.result.now c.as_slice-in-Bench-2.result.now in
    if_ok (λ report. OfChain (Times c.args.inputs c.in-Bench.runs report) c.in_ok-settings.settings link) _ c.run_bench.result
    (λ report held. subst (λ task. DoesTask (g.H.Host.may_read host) (g.H.Host.may_say_same host) (g.H.Host.may_say_other host) (g.H.Host.written host) (g.H.Host.written host) c.args.inputs task report) (sym c.in-Bench.is) (
      refl,
      (
        c.in_ok-settings.settings,
        c.as_slice-in-Bench.result.now,
        c.as_slice-in-Bench-2.result.now,
        c.in_ok-settings.ensures.chosen,
        search rules,
        search rules,
        held,
      ),
    ))
    c.run_bench.ensures.times
