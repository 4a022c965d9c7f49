use Rattle.std.proofs.Common.{◌++◌, rules, append_assoc, append-nil, ap, sym, ◌∙◌, flat_map}
use Rattle.std.proofs.Output.{has_written_append, has_written_of_eq}
use Rattle.std.proofs.lemmas.Str.{IsUtf8-past_char, chars_past_char}
use Rattle.std.proofs.StrCases.{chars_of_empty}
use Rattle.std.specs.Str.Iter.{chars_rest}
use Rattle.program.specs.Words.{shown, shown_char}
use Rattle.program.proofs.printing.ShownDisplay.fmt.Goals as goal

pub loop-c-preserved : goal.loop-c-preserved
loop-c-preserved g c =
    let char = c.in-Some.c in
    let text = c.loop-c.invariant.0 in
    let first = c.in-Some.ensures.steps.0 in (
      IsUtf8-past_char _ _ char text first,
      λ plain.
          let so_far = c.loop-c.invariant.1 plain in (
            so_far.0 ++ shown_char char,
            has_written_append _ _ _ _ _ _ so_far.1 (search rules),
            append_assoc so_far.0 (shown_char char) (shown (chars_rest c.next.new.self))
                ∙ ap (λ xs. so_far.0 ++ flat_map shown_char xs) (sym (chars_past_char _ _ char text first))
                ∙ so_far.2,
          ),
    )

pub returns-clause-writes : goal.returns-clause-writes
returns-clause-writes g c = λ plain _.
    let so_far = c.loop-c.invariant.1 plain in
    let none = chars_of_empty _ c.in-None.ensures.steps.0.0 in
    let all = sym (append-nil so_far.0) ∙ ap (λ xs. so_far.0 ++ flat_map shown_char xs) (sym none) ∙ so_far.2 in
    has_written_of_eq _ _ _ _ _ all so_far.1
