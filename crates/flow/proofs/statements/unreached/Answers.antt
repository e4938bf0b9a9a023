use Rattle.std.proofs.Common.{List, Bool, ℕ, sym, ◌∙◌, subst}
use Rattle.go_tree.specs.declared.tree.Node.{Node}
use Rattle.flow.specs.Passing.{flag_of, nowhere_named, IsCutOffIn}
use Rattle.flow.proofs.CutLemmas.{none_unreached}
use Rattle.flow.proofs.SearchLemmas.{no_truth}
use Rattle.flow.proofs.statements.unreached.Goals as goal

pub returns-then-not-may_be_cut : goal.returns-then-not-may_be_cut
returns-then-not-may_be_cut c =
    let none : (n p : ℕ) → IsCutOffIn (flag_of c.deref.result.now) nowhere_named c.as_slice.result.now n p → ⊥ = λ n p cut. no_truth (sym c.if-not-may_be_cut.true ∙ c.may_be_cut.ensures.1 (n, p, cut)) in
    none_unreached c.args.tree.now c.args.labels.now (flag_of c.args.stops.now) c.in_ok-sure.sure.items c.new.result.items c.requires.tree (c.in_ok-sure.ensures c.args.labels.now) c.new.ensures.items
    (subst (λ (l : List Node). (n p : ℕ) → IsCutOffIn (flag_of c.in_ok-sure.sure.items) nowhere_named l n p → ⊥) c.as_slice.ensures
    (subst (λ (l : List Bool). (n p : ℕ) → IsCutOffIn (flag_of l) nowhere_named c.as_slice.result.now n p → ⊥) c.deref.ensures.value none))
