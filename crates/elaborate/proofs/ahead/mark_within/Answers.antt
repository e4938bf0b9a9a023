use Rattle.std.proofs.Common.{◌≡◌, ◌∙◌, sym, ap, slice_get, List, arith}
use Rattle.typed_marks.specs.declared.item.Block.{Block}
use Rattle.typed_marks.specs.States.{so_far}
use Rattle.unit_read.specs.Subjects.{full_of, unit_of}
use Rattle.elaborate.specs.Covering.{AreStagesOfNodes, IsAnything}
use Rattle.elaborate.proofs.WalkLemmas.{ended_as}
use Rattle.elaborate.proofs.CoverLemmas.{nodes_in, nodes_within, none_early}
use Rattle.elaborate.proofs.ahead.mark_within.Goals as goal

pub mark_nodes-requires-clause-nodes : goal.mark_nodes-requires-clause-nodes
mark_nodes-requires-clause-nodes g c =
    nodes_within (unit_of c.args.work.now.subject.now) c.args.stretch.block c.args.block.low c.args.block.end _ _ (omega (arith, c.max-low.ensures)) (omega (arith, c.min-end.ensures))
    (nodes_in (unit_of c.args.work.now.subject.now) c.args.stretch.block c.args.block (ap (λ (bs : List Block). slice_get bs c.args.stretch.block) (sym c.requires.work.blocks) ∙ c.requires.block))

pub mark_nodes-requires-clause-marked : goal.mark_nodes-requires-clause-marked
mark_nodes-requires-clause-marked g c = none_early c.args.stretch.block _ _ (so_far c.args.work.now.state)

pub returns-clause-ended : goal.returns-clause-ended
returns-clause-ended g c =
    let next = c.mark_nodes.new in
    ended_as g.R.Rules.rule (full_of c.args.work.now.subject.now) next.work.state next.walk
    (AreStagesOfNodes c.args.stretch.block _ _ 4) IsAnything c.in_ok-circle.circle (λ none all. tt) c.in_ok-circle.ensures.ended
