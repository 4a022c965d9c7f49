use Rattle.std.proofs.Common.{◌++◌, rules, append_assoc, ap, sym, ◌∙◌, encode_utf8, encode_utf8_all}
use Rattle.std.proofs.Output.{has_written_append}
use Rattle.std.specs.Char.Iter.{escape_rest}
use Rattle.program.proofs.printing.write_escape.Goals as goal

pub loop-part-preserved : goal.loop-part-preserved
loop-part-preserved g c =
    let part = c.in-Some.part in
    let rest = encode_utf8_all (escape_rest c.next.new.self) in
    let steps = c.in-Some.ensures.steps in (
      search rules,
      tt,
      λ plain.
          let so_far = c.loop-part.invariant.2 plain in (
            so_far.0 ++ encode_utf8 part,
            has_written_append _ _ _ _ _ _ so_far.1 (search rules),
            append_assoc so_far.0 (encode_utf8 part) rest ∙ ap (λ xs. so_far.0 ++ encode_utf8_all xs) (sym steps.1.0) ∙ so_far.2,
          ),
    )
