use Rattle.std.proofs.Common.{length, refl, ap, ◌∙◌}
use Rattle.std.proofs.lemmas.Option.{slice_get_read}
use Rattle.scopes.specs.declared.scope.Role.{Role}
use Rattle.scopes.specs.Regions.{first_names, names_of}
use Rattle.scopes.specs.Walk.{has_names}
use Rattle.scopes.proofs.WalkLemmas.{chosen, if_wanted, if_not}
use Rattle.scopes.proofs.walk.push_names_of.Goals as goal

pub returns-in_ok-push_first : goal.returns-in_ok-push_first
returns-in_ok-push_first c =
    let nodes = c.args.nodes.now in
    let there = slice_get_read nodes (length nodes) c.args.at c.index-nodes-at.result refl c.requires.at c.index-nodes-at.is in
    chosen (names_of (has_names c.args.bind)) nodes c.args.at c.index-nodes-at.result c.args.names.now.items c.push_first.new.names.items (has_names c.args.bind) first_names c.has_names.result
    (λ m k a z ps. refl) there (c.has_names.ensures ∙ ap (λ (r : Role). has_names c.args.bind r.form) c.role-role.ensures)
    (if_wanted first_names nodes c.index-nodes-at.result.parts c.args.names.now.items c.push_first.new.names.items c.has_names.result c.if-has_names.true (rw c.as_slice.ensures at c.in_ok-push_first.ensures))

pub returns-else-has_names : goal.returns-else-has_names
returns-else-has_names c =
    let nodes = c.args.nodes.now in
    let there = slice_get_read nodes (length nodes) c.args.at c.index-nodes-at.result refl c.requires.at c.index-nodes-at.is in
    chosen (names_of (has_names c.args.bind)) nodes c.args.at c.index-nodes-at.result c.args.names.now.items c.args.names.now.items (has_names c.args.bind) first_names c.has_names.result
    (λ m k a z ps. refl) there (c.has_names.ensures ∙ ap (λ (r : Role). has_names c.args.bind r.form) c.role-role.ensures)
    (if_not first_names nodes c.index-nodes-at.result.parts c.args.names.now.items c.has_names.result c.if-has_names.false)
