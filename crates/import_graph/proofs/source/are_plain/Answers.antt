use Rattle.std.proofs.Common.{arith, ap, ◌∙◌, ◌&&◌}
use Rattle.import_graph.proofs.SourceLemmas.{parted-at, parted-other}
use Rattle.import_graph.proofs.source.are_plain.Goals as goal

pub loop-at-preserved : goal.loop-at-preserved
loop-at-preserved c = parted-other c.args.path.now _ c.loop-at.at c.loop-at.end c.loop-at.plain (omega (arith, c.loop-at-test.true)) c.loop-at.invariant c.if-path-at-eq47.false

pub loop-at-preserved-then-path-at-eq47 : goal.loop-at-preserved-then-path-at-eq47
loop-at-preserved-then-path-at-eq47 c = parted-at c.args.path.now _ c.loop-at.at c.loop-at.end c.loop-at.plain _ (omega (arith, c.loop-at-test.true)) c.loop-at.invariant c.if-path-at-eq47.true
    (c.both-plain.ensures ∙ ap (λ b. b && c.loop-at.plain) c.is_plain.ensures)
