use Rattle.std.proofs.Common.{Bool, List, sym, subst}
use Rattle.typed_marks.specs.States.{so_far}
use Rattle.unit_read.specs.Subjects.{full_of, unit_of}
use Rattle.elaborate.specs.Covering.{AreStagesOfNodes, AreNodesMarked}
use Rattle.elaborate.specs.Types.{AreQuietTypes}
use Rattle.elaborate.proofs.WalkLemmas.{ended_as}
use Rattle.elaborate.proofs.CoverLemmas.{nodes_in, nodes_whole}
use Rattle.elaborate.proofs.whole.mark_declared.Goals as goal

pub quiet_types-requires : goal.quiet_types-requires
quiet_types-requires g c = c.requires.work.scene.read

pub mark_types-requires-clause-flags : goal.mark_types-requires-clause-flags
mark_types-requires-clause-flags g c =
    subst (λ (l : List Bool). AreQuietTypes g.R.Rules.rule (unit_of c.args.work.now.subject.now) c.args.number l) (sym c.deref.ensures.value) c.in_ok-flags.ensures.none

pub mark_types-requires-clause-nodes : goal.mark_types-requires-clause-nodes
mark_types-requires-clause-nodes g c = nodes_in (unit_of c.args.work.now.subject.now) c.args.number c.args.block c.requires.block

pub mark_types-requires-clause-marked : goal.mark_types-requires-clause-marked
mark_types-requires-clause-marked g c = c.requires.early

pub returns-clause-ended : goal.returns-clause-ended
returns-clause-ended g c =
    let next = c.mark_types.new in
    ended_as g.R.Rules.rule (full_of c.args.work.now.subject.now) next.work.state next.walk
    (AreStagesOfNodes c.args.number c.args.block.low c.args.block.end 6) (AreNodesMarked c.args.number c.args.block.low c.args.block.end) c.in_ok-circle.circle
    (λ none. nodes_whole c.args.number c.args.block.low c.args.block.end (so_far next.work.state)) c.in_ok-circle.ensures.ended
