use Rattle.std.proofs.Common.{length, refl, ap, ◌∙◌, false}
use Rattle.std.proofs.lemmas.Option.{slice_get_read}
use Rattle.scopes.specs.declared.scope.Role.{Role}
use Rattle.scopes.specs.Regions.{parameters, names_of, is_params}
use Rattle.scopes.specs.Walk.{has_names}
use Rattle.scopes.proofs.WalkLemmas.{chosen, if_wanted, if_not}
use Rattle.scopes.proofs.walk.push_parameters.Goals as goal

pub returns-in_ok-push_all_names_of : goal.returns-in_ok-push_all_names_of
returns-in_ok-push_all_names_of c =
    let nodes = c.args.nodes.now in
    let there = slice_get_read nodes (length nodes) c.args.at c.index-nodes-at.result refl c.requires.at c.index-nodes-at.is in
    chosen parameters nodes c.args.at c.index-nodes-at.result c.args.names.now.items c.push_all_names_of.new.names.items is_params (names_of (has_names false)) c.is_params.result
    (λ m k a z ps. refl) there (c.is_params.ensures ∙ ap (λ (r : Role). is_params r.form) c.role-role.ensures)
    (if_wanted (names_of (has_names false)) nodes c.index-nodes-at.result.parts c.args.names.now.items c.push_all_names_of.new.names.items c.is_params.result c.if-is_params.true (rw c.as_slice.ensures at c.in_ok-push_all_names_of.ensures))

pub returns-else-is_params : goal.returns-else-is_params
returns-else-is_params c =
    let nodes = c.args.nodes.now in
    let there = slice_get_read nodes (length nodes) c.args.at c.index-nodes-at.result refl c.requires.at c.index-nodes-at.is in
    chosen parameters nodes c.args.at c.index-nodes-at.result c.args.names.now.items c.args.names.now.items is_params (names_of (has_names false)) c.is_params.result
    (λ m k a z ps. refl) there (c.is_params.ensures ∙ ap (λ (r : Role). is_params r.form) c.role-role.ensures)
    (if_not (names_of (has_names false)) nodes c.index-nodes-at.result.parts c.args.names.now.items c.is_params.result c.if-is_params.false)
