use Rattle.std.proofs.Common.{ℕ, refl, sym, ap, ◌∙◌, subst}
use Rattle.samples.specs.declared.kinds.ConverterSample.{ConverterSample}
use Rattle.sources.specs.Streams.{Stream}
use Rattle.recordings.specs.Opening.{opened_of, signal_opening}
use Rattle.recordings.specs.Rates.{good_rate}
use Rattle.program.specs.Files.{Adds, files_of}
use Rattle.program.specs.Outcomes.{AcceptsOwn, written_of}
use Rattle.program.specs.declared.copy.Copied.{Copied}
use Rattle.program.proofs.Answering.{copies, handed_on, keeps_bytes, not_own, own_written}
use Rattle.program.proofs.copy.copy.Goals as goal

pub returns-in_ok-last-in-Ok-clause-copies : goal.returns-in_ok-last-in-Ok-clause-copies
returns-in_ok-last-in-Ok-clause-copies g c =
    let answer : Copied = record { to = c.args.to; last = c.in_ok-last-in-Ok.last; rate = c.rate-rate.result; written = c.in_ok-written-in-Ok.written } in
    copies (signal_opening 0 c.args.bytes.now) _ c.args.to.now (g.H.Host.written c.args.host.now) (g.H.Host.written c.write_files.new.host) answer
    (ap (λ (n : ℕ). signal_opening n c.args.bytes.now) (sym c.number.ensures) ∙ c.in-Ok.ensures.answer)
    refl c.rate-rate.ensures
    (c.in_ok-written-in-Ok.ensures.counts ∙ ap written_of c.count-items.ensures.whole)
    (subst (λ (w : Stream ConverterSample). Adds (files_of c.args.to.now c.rate-rate.result w.items) (g.H.Host.written c.args.host.now) (g.H.Host.written c.write_files.new.host)) c.count-items.ensures.whole c.in_ok-written-in-Ok.ensures.files)
    c.in_ok-last-in-Ok.ensures

pub returns-in_ok-last-in-Ok-clause-unchanged : goal.returns-in_ok-last-in-Ok-clause-unchanged
returns-in_ok-last-in-Ok-clause-unchanged g c =
    keeps_bytes c.args.bytes.now c.args.to.now (g.H.Host.written c.args.host.now) (g.H.Host.written c.write_files.new.host)
    (record { to = c.args.to; last = c.in_ok-last-in-Ok.last; rate = c.rate-rate.result; written = c.in_ok-written-in-Ok.written })
    (returns-in_ok-last-in-Ok-clause-copies g c)

pub returns-in_err-written-in-Ok-clause-accepted : goal.returns-in_err-written-in-Ok-clause-accepted
returns-in_err-written-in-Ok-clause-accepted g c =
    handed_on (AcceptsOwn c.args.bytes.now) _ c.in_err-written-in-Ok.field-0.0 c.from_residual-in_err-written-in-Ok.ensures.1
    (own_written c.args.bytes.now (opened_of c.in-Ok.recording) c.in_err-written-in-Ok.field-0.0
    (ap (λ (n : ℕ). signal_opening n c.args.bytes.now) (sym c.number.ensures) ∙ c.in-Ok.ensures.answer)
    c.in_err-written-in-Ok.ensures.opened
    (λ h. ap good_rate (sym c.rate-rate.ensures) ∙ c.in_err-written-in-Ok.ensures.accepted h))

pub returns-in-Err-clause-accepted : goal.returns-in-Err-clause-accepted
returns-in-Err-clause-accepted g c = λ rate xs good is short.
    absurd (not_own c.args.bytes.now c.in-Err.refusal rate xs (ap (λ (n : ℕ). signal_opening n c.args.bytes.now) (sym c.number.ensures) ∙ c.in-Err.ensures) good is short)
