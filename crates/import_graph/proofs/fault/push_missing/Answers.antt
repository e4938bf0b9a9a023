use Rattle.std.proofs.Common.{◌∙◌, ◌++◌, ap, sym, subst, Some}
use Rattle.std.specs.List.{Contains}
use Rattle.std.proofs.lemmas.List.{append-nil}
use Rattle.import_graph.proofs.FaultLemmas.{missing-none, missing-one}
use Rattle.import_graph.proofs.fault.push_missing.Goals as goal

pub returns-in-Some : goal.returns-in-Some
returns-in-Some c =
    sym (append-nil c.args.places.now.items)
    ∙ ap (λ t. c.args.places.now.items ++ t) (sym (missing-none c.args.names.now c.args.n c.args.line.now c.in-Some.field-0 (c.in-Some.ensures ∙ ap Some c.as_slice.ensures)))

pub returns-in_ok-push-in-None : goal.returns-in_ok-push-in-None
returns-in_ok-push-in-None c =
    c.in_ok-push-in-None.ensures.items
    ∙ ap (λ t. c.args.places.now.items ++ t) (sym (missing-one c.args.names.now c.args.n c.args.line.now (λ h. c.in-None.ensures (subst (Contains c.args.names.now) (sym c.as_slice.ensures) h))))
