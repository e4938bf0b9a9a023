use Rattle.std.proofs.Common.{◌∙◌, get_or, sym}
use Rattle.std.proofs.lemmas.Option.{slice_get-get_or}
use Rattle.body_rules.proofs.branches.left_of.Goals as goal

pub left_by-requires-clause-nearest : goal.left_by-requires-clause-nearest
left_by-requires-clause-nearest c =
    let nodes = c.args.j.now.nodes.now in
    let there = slice_get-get_or nodes c.args.n c.index-j-n.result c.requires.node in
    λ none. c.requires.known.nearest c.args.n (get_or nodes c.args.n c.index-j-n.result, there, sym c.is_of.ensures ∙ c.if-is_of.true, sym c.as_slice.ensures ∙ none)
