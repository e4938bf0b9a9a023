use Rattle.std.proofs.Common.{◌∙◌, ◌++◌, ◌∷◌, [], ap, sym, subst, Some}
use Rattle.std.specs.List.{Contains}
use Rattle.import_graph.specs.Tables.{AreFound}
use Rattle.import_graph.proofs.ImportLemmas.{finds-at, finds-none}
use Rattle.import_graph.proofs.imports.find_line.Goals as goal

pub returns-in_ok-push-in-Some : goal.returns-in_ok-push-in-Some
returns-in_ok-push-in-Some c = λ before is.
    subst (λ t. AreFound c.args.names.now (before ++ c.args.line.now ∷ []) t) (sym c.in_ok-push-in-Some.ensures.items)
    (finds-at c.args.names.now c.args.line.now c.args.found.now.items c.in-Some.at c.requires.order (c.in-Some.ensures ∙ ap Some c.as_slice.ensures) before is)

pub returns-in-None : goal.returns-in-None
returns-in-None c = finds-none c.args.names.now c.args.line.now c.args.found.now.items (λ h. c.in-None.ensures (subst (Contains c.args.names.now) (sym c.as_slice.ensures) h))
