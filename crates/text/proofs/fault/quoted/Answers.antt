use Rattle.std.proofs.Common.{◌≡◌, ap, ◌∙◌, arith, string_bytes}
use Rattle.std.proofs.lemmas.Iterator.{YieldsList-from_chars, YieldsList-from_take, text_from_collect}
use Rattle.std.proofs.lemmas.Result.{IfOk-at_ok}
use Rattle.std.specs.Str.Iter.{chars_rest}
use Rattle.text.proofs.Words.{quote_whole, quote_begun}
use Rattle.text.specs.Words.{beginning}
use Rattle.text.proofs.fault.quoted.Goals.{then-len-word+in_ok-push_str, else-len-word}
use Rattle.text.proofs.fault.quoted.Goals as goal

pub returns : goal.returns
returns c =
    let all = YieldsList-from_chars {s = c.take.result.iter} c.args.word.now c.utf8.word (ap chars_rest c.take.ensures.source ∙ c.chars.ensures.rest) in
    let begins : string_bytes c.in_ok-text.text ≡ beginning c.args.word.now =
    IfOk-at_ok (λ text. string_bytes text ≡ beginning c.args.word.now) c.in_ok-text.was (text_from_collect c.collect.result c.collect.ensures.ran (YieldsList-from_take {s = c.take.result} 40 all c.take.ensures.count))
    in
    elim c.if-len-word.branch [
      | then-len-word+in_ok-push_str w ↦ quote_begun c.args.word.now (string_bytes c.in_ok-text.text) _ begins (omega (arith, c.len.ensures, w.if-len-word.true)) (ap string_bytes w.text-is ∙ w.in_ok-push_str.ensures.bytes)
      | else-len-word w ↦ quote_whole c.args.word.now _ (ap string_bytes w.text-is ∙ begins) (rw w.text-is (omega (arith, c.len.ensures, w.if-len-word.false)))
    ]
