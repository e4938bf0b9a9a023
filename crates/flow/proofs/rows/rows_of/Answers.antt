use Rattle.std.proofs.Common.{sym, subst}
use Rattle.std.specs.List.{Contains}
use Rattle.std.proofs.lemmas.List.{take_all}
use Rattle.flow.specs.Edges.{edge}
use Rattle.flow.proofs.RowLemmas.{edge_more}
use Rattle.flow.proofs.rows.rows_of.Goals as goal

pub loop-e-preserved : goal.loop-e-preserved
loop-e-preserved c =
    edge_more c.loop-e.rows.items c.grow.new.rows.items c.add_target.new.rows.items c.args.edges.now c.loop-e.e-index (edge 0 0) c.loop-e-test.true
    c.in_ok-grow.ensures.same c.in_ok-grow.ensures.room c.in_ok-add_target.ensures c.loop-e.invariant

pub returns : goal.returns
returns c p q =
    let all = take_all c.loop-e.e-index c.args.edges.now c.loop-e-test.false in (
      λ s. subst (λ l. Contains l (edge p q)) all (c.loop-e.invariant.each p q s),
      λ e. c.loop-e.invariant.every p q (subst (λ l. Contains l (edge p q)) (sym all) e),
    )
