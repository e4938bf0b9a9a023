use Rattle.std.proofs.Common.{sym, ◌∙◌}
use Rattle.std.proofs.lemmas.Option.{slice_get-get_or}
use Rattle.scopes.proofs.VisibleLemmas.{no_declaration, flag_true, flag_false, skipped_here, both_true}
use Rattle.scopes.proofs.visible.enter_first.Goals as goal

pub enter-requires-clause-region : goal.enter-requires-clause-region
enter-requires-clause-region c =
    let there = slice_get-get_or c.args.declarations.now c.args.next no_declaration c.requires.next in
    let is = both_true _ _ (sym c.both.ensures ∙ c.if-both.true) in
    flag_true c.args.declarations.now c.args.first.now c.args.next _ _ there c.requires.flags is.0 is.1

pub returns-else-both-clause-visible : goal.returns-else-both-clause-visible
returns-else-both-clause-visible c =
    let there = slice_get-get_or c.args.declarations.now c.args.next no_declaration c.requires.next in
    skipped_here c.args.declarations.now c.args.next c.args.visible.now.items
    (flag_false c.args.declarations.now c.args.first.now c.args.next _ _ there c.requires.flags (sym c.both.ensures ∙ c.if-both.false)) c.requires.visible
