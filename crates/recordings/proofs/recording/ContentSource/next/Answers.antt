use Rattle.std.proofs.Common.{◌≡◌, ℕ, take, sym, refl, ap, ◌∙◌, arith}
use Rattle.sources.specs.Streams.{answer, rest}
use Rattle.recordings.specs.declared.format.Format.{Format}
use Rattle.recordings.proofs.Reading.{ends, gives, fails}
use Rattle.recordings.proofs.recording.ContentSource.next.Goals as goal

pub returns-then-self-align : goal.returns-then-self-align
returns-then-self-align g c =
    let s = c.args.self.now in
    let n : c.from-align.result ≡ g.L.Layout.FORMAT.align = c.from-align.ensures ∙ ap (λ (f : Format). f.align) c.FORMAT.ensures in
    let p = ends g.L.Layout.meaning g.L.Layout.FORMAT.align s.input s.whole.now s.left.now g.L.Layout.FORMAT.takes_room (omega arith) in
    record { answers = sym (ap answer p); moves = p ∙ sym (ap rest p); same = refl }

pub returns-in-Err : goal.returns-in-Err
returns-in-Err g c =
    let s = c.args.self.now in
    let n : c.from-align.result ≡ g.L.Layout.FORMAT.align = c.from-align.ensures ∙ ap (λ (f : Format). f.align) c.FORMAT.ensures in
    let e = ap g.L.Layout.meaning (ap (λ (k : ℕ). take k s.left.now) (sym n) ∙ sym c.split_at.ensures.front) ∙ sym c.read.ensures ∙ c.in-Err.is in
    let p = fails g.L.Layout.meaning g.L.Layout.FORMAT.align s.input s.whole.now s.left.now g.L.Layout.FORMAT.takes_room c.in-Err.kind (omega arith) e in
    rw n (record { answers = sym (ap answer p); moves = p ∙ sym (ap rest p); same = refl })

pub returns-in-Ok : goal.returns-in-Ok
returns-in-Ok g c =
    let s = c.args.self.now in
    let n : c.from-align.result ≡ g.L.Layout.FORMAT.align = c.from-align.ensures ∙ ap (λ (f : Format). f.align) c.FORMAT.ensures in
    let e = ap g.L.Layout.meaning (ap (λ (k : ℕ). take k s.left.now) (sym n) ∙ sym c.split_at.ensures.front) ∙ sym c.read.ensures ∙ c.in-Ok.is in
    let p = gives g.L.Layout.meaning g.L.Layout.FORMAT.align s.input s.whole.now s.left.now g.L.Layout.FORMAT.takes_room c.in-Ok.item (omega arith) s.part e in
    rw (c.split_at.ensures.back, n) (record { answers = sym (ap answer p); moves = sym (ap rest p); same = refl })
