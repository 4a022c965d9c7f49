use Rattle.std.proofs.Common.{[], ◌∷◌, ◌++◌, sym, ap, ◌∙◌, subst}
use Rattle.std.proofs.lemmas.List.Elements.{All-push}
use Rattle.std.proofs.lemmas.List.Sums.{fold_push}
use Rattle.text.specs.Entries.{Holds, IsWrong, Reads, entries_of, entries_left}
use Rattle.text.proofs.Passing.{passed_more}
use Rattle.text.proofs.Rows.{exit}
use Rattle.settings.specs.Fresh.{fresh}
use Rattle.text.specs.Files.{Accepted}
use Rattle.text.specs.Forms.{Says, Complains}
use Rattle.text.specs.Settings.{changed}
use Rattle.text.proofs.Carrying.{stopped}
use Rattle.text.proofs.settings_file.reader.read.Goals as goal

pub loop-entry-preserved : goal.loop-entry-preserved
loop-entry-preserved c =
    let step = c.in-Some.ensures.steps in
    let so_far = c.loop-entry.invariant.2 in
    let one = c.in_ok-entry.field-0 in
    let holds : Holds Says step.0 one = subst (Reads Says Complains step.0) c.in_ok-entry.was step.2 in
    let done = c.in_ok-put.ensures in (
      tt,
      tt,
      (
        so_far.0 ++ one ∷ [],
        passed_more Says (entries_of c.args.bytes.now) (entries_left c.loop-entry.entry-iterator) (entries_left c.next.new.self) so_far.0 step.0 one so_far.1 step.1 holds,
        All-push Accepted so_far.0 one so_far.2 done.0,
        done.1 ∙ ap (changed one.held) so_far.3 ∙ sym (fold_push (λ settings x. changed x.held settings) fresh so_far.0 one),
      ),
    )

pub returns-in_err-entry : goal.returns-in_err-entry
returns-in_err-entry c =
    let step = c.in-Some.ensures.steps in
    let so_far = c.loop-entry.invariant.2 in
    let wrong : IsWrong Complains step.0 c.in_err-entry.field-0.0 = subst (Reads Says Complains step.0) c.in_err-entry.was step.2 in
    exit _ _ _ _ c.from_residual.ensures.1
    (stopped (entries_of c.args.bytes.now) (entries_left c.loop-entry.entry-iterator) (entries_left c.next.new.self) so_far.0 step.0 _ so_far.1 so_far.2 step.1 wrong.0 wrong.1)
