use Rattle.std.proofs.Common.{length, refl, sym, ◌∙◌, arith}
use Rattle.flow.specs.Passing.{flag_of, nowhere_named}
use Rattle.flow.proofs.CutLemmas.{none_cut, cut_here, uncut_more, uncut_all}
use Rattle.flow.proofs.SearchLemmas.{no_truth}
use Rattle.flow.proofs.statements.cuts_some.Goals as goal

pub loop-i-init : goal.loop-i-init
loop-i-init c = none_cut (flag_of c.args.passing.now) nowhere_named c.args.parts.now

pub loop-i-preserved : goal.loop-i-preserved
loop-i-preserved c = uncut_more (flag_of c.args.passing.now) nowhere_named c.args.parts.now c.loop-i.i (sym c.cuts.ensures ∙ c.if-cuts.false) c.loop-i.invariant

pub returns-then-cuts : goal.returns-then-cuts
returns-then-cuts c = (
  λ e. cut_here (flag_of c.args.passing.now) nowhere_named c.args.parts.now c.loop-i.i (length c.args.parts.now) c.loop-i-test.true (sym c.cuts.ensures ∙ c.if-cuts.true),
  λ w. refl,
)

pub returns : goal.returns
returns c = (
  λ e. no_truth e,
  λ w. absurd (uncut_all (flag_of c.args.passing.now) nowhere_named c.args.parts.now c.loop-i.i (let t = c.loop-i-test.false in let e = c.loop-i.auto.i-end in omega arith) c.loop-i.invariant w.0 w.1),
)
