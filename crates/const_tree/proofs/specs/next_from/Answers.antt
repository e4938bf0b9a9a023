use Rattle.std.proofs.Common.{◌∙◌, sym, None, slice_index_or, arith}
use Rattle.std.proofs.lemmas.Option.{slice_get-get_or}
use Rattle.const_tree.specs.declared.constant.Spec.{Spec}
use Rattle.const_tree.proofs.ListLemmas.{before_more, past, first_here, first_none}
use Rattle.const_tree.proofs.specs.next_from.Goals as goal

pub returns-then-specs-at-clause-first : goal.returns-then-specs-at-clause-first
returns-then-specs-at-clause-first c =
    let specs = c.args.specs.now in
    let d : Spec = record { node = 0; iota = 0; source = None } in
    let there = slice_get-get_or specs c.loop-at.at d c.loop-at-test.true in
    there ∙ sym (first_here specs c.loop-at.at c.args.n (slice_index_or specs c.loop-at.at d) c.loop-at.invariant.before there c.if-specs-at.true)

pub loop-at-preserved : goal.loop-at-preserved
loop-at-preserved c = record {
  within = (let low = c.loop-at-test.true in omega arith);
  before = before_more c.args.specs.now c.loop-at.at c.args.n record { node = 0; iota = 0; source = None } c.loop-at.invariant.before c.loop-at-test.true c.if-specs-at.false;
}

pub returns-clause-first : goal.returns-clause-first
returns-clause-first c = past c.args.specs.now c.loop-at.at c.loop-at-test.false ∙ sym (first_none c.args.specs.now c.loop-at.at c.args.n c.loop-at.invariant.before c.loop-at-test.false)
