use Rattle.std.proofs.Common.{length, refl, sym, ◌∙◌, arith}
use Rattle.std.proofs.lemmas.Option.{slice_get_read}
use Rattle.flow.specs.Passing.{flag_of, nowhere_named}
use Rattle.flow.proofs.CutLemmas.{cut_in, uncut_node, uncut_nodes}
use Rattle.flow.proofs.SearchLemmas.{no_truth}
use Rattle.flow.proofs.statements.may_be_cut.Goals as goal

pub loop-p-preserved : goal.loop-p-preserved
loop-p-preserved c =
    let there = slice_get_read c.args.nodes.now (length c.args.nodes.now) c.loop-p.p c.index-nodes-p.result refl c.loop-p-test.true c.index-nodes-p.is in
    uncut_node (flag_of c.args.passing.now) nowhere_named c.args.nodes.now c.loop-p.p c.index-nodes-p.result c.statements_of.result.now there c.statements_of.ensures c.loop-p.invariant
    (λ n cut. no_truth (sym c.if-cuts_some.false ∙ c.cuts_some.ensures.1 (n, cut)))

pub returns-then-cuts_some : goal.returns-then-cuts_some
returns-then-cuts_some c =
    let there = slice_get_read c.args.nodes.now (length c.args.nodes.now) c.loop-p.p c.index-nodes-p.result refl c.loop-p-test.true c.index-nodes-p.is in (
      λ e. cut_in (flag_of c.args.passing.now) nowhere_named c.args.nodes.now c.loop-p.p c.index-nodes-p.result c.statements_of.result.now there c.statements_of.ensures (c.cuts_some.ensures.0 c.if-cuts_some.true),
      λ w. refl,
    )

pub returns : goal.returns
returns c = (
  λ e. no_truth e,
  λ w. absurd (uncut_nodes (flag_of c.args.passing.now) nowhere_named c.args.nodes.now c.loop-p.p (let t = c.loop-p-test.false in let e = c.loop-p.auto.p-end in omega arith) c.loop-p.invariant w.0 w.1 w.2),
)
