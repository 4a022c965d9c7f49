use Rattle.std.proofs.Common.{ℕ, refl, ap, ap₂, ◌∙◌, subst}
use Rattle.samples.specs.declared.kinds.ConverterSample.{ConverterSample}
use Rattle.sources.specs.Streams.{Stream}
use Rattle.chain.specs.Chains.{played}
use Rattle.recordings.specs.Opening.{opened_of}
use Rattle.recordings.specs.Pair.{link_opening}
use Rattle.program.specs.Files.{Adds, counted_files, files_of}
use Rattle.program.specs.Names.{SparesAll}
use Rattle.program.specs.Outcomes.{written_of}
use Rattle.program.specs.declared.play.Played.{Played}
use Rattle.program.proofs.Answering.{counted, plays, taken}
use Rattle.program.proofs.play.play.Goals as goal

pub returns-in_ok-last-in-Ok-clause-plays : goal.returns-in_ok-last-in-Ok-clause-plays
returns-in_ok-last-in-Ok-clause-plays g c =
    let s = c.args.settings.now in
    let link = link_opening c.args.signal.now c.args.gain.now in
    let answer : Played = record { to = c.args.to; last = c.in_ok-last-in-Ok.last; rate = c.rate-rate.result; written = c.in_ok-written-in-Ok.written; first_ended = c.first_ended.result } in
    let known = counted s link c.in-Ok.field-0.signal c.in-Ok.field-0.gain c.in_ok-sides-in-Ok.sides c.in-Ok.ensures.answer c.in-Ok.ensures.signal_left c.in-Ok.ensures.gain_left c.in_ok-sides-in-Ok.ensures.answer in
    let wholes = ap₂ (played s) c.in_ok-sides-in-Ok.ensures.signal c.in_ok-sides-in-Ok.ensures.gain in
    plays s link (opened_of c.in-Ok.field-0.signal, opened_of c.in-Ok.field-0.gain) c.in_ok-sides-in-Ok.sides c.args.to.now (g.H.Host.written c.args.host.now) (g.H.Host.written c.play_chain.new.host) answer
    c.in-Ok.ensures.answer known refl c.rate-rate.ensures
    (c.in_ok-written-in-Ok.ensures.counts ∙ ap written_of wholes)
    (subst (λ (w : Stream ConverterSample). Adds (files_of c.args.to.now c.rate-rate.result w.items) (g.H.Host.written c.args.host.now) (g.H.Host.written c.play_chain.new.host)) wholes c.in_ok-written-in-Ok.ensures.files)
    c.in_ok-last-in-Ok.ensures c.first_ended.ensures

pub returns-in_ok-last-in-Ok-clause-spares : goal.returns-in_ok-last-in-Ok-clause-spares
returns-in_ok-last-in-Ok-clause-spares g c =
    let s = c.args.settings.now in
    let link = link_opening c.args.signal.now c.args.gain.now in
    let known = counted s link c.in-Ok.field-0.signal c.in-Ok.field-0.gain c.in_ok-sides-in-Ok.sides c.in-Ok.ensures.answer c.in-Ok.ensures.signal_left c.in-Ok.ensures.gain_left c.in_ok-sides-in-Ok.ensures.answer in
    let files = c.files_for-files.ensures ∙ ap counted_files c.min.ensures ∙ taken s link c.in_ok-sides-in-Ok.sides known in
    subst (λ (n : ℕ). SparesAll (g.H.Host.may_say_same c.args.host.now) (g.H.Host.may_say_other c.args.host.now) c.args.inputs.now c.args.to.now n) files c.in_ok-spare_inputs-in-Ok.ensures.spares
