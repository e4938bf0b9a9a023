use Rattle.std.proofs.Common.{◌≡◌, ◌≤◌, ◌<◌, ◌-◌, ◌+◌, ℕ, List, length, Some, slice_get, sym, ap, ◌∙◌, subst, arith}
use Rattle.std.proofs.lemmas.Option.{slice_get-get_or}
use Rattle.go_tree.specs.declared.tree.Node.{Node}
use Rattle.label_uses.specs.Parents.{inside, AreGiven, AreFilled}
use Rattle.label_uses.proofs.FunctionLemmas.{filled_none, filled_more, all_functions}
use Rattle.label_uses.proofs.functions.functions_of.Goals as goal

pub loop-left-init : goal.loop-left-init
loop-left-init c = record { filled = filled_none c.args.nodes.now c.in_ok-functions.functions.items c.in_ok-functions.ensures; high = omega arith }

pub loop-left-preserved : goal.loop-left-preserved
loop-left-preserved c =
    let nodes = c.args.nodes.now in
    let left = c.loop-left.left in
    let node = c.index-nodes-left.result in
    let old = c.loop-left.functions.items in
    let new = c.give.new.numbers.items in
    let some : 0 < left = omega (arith, c.loop-left-test.true) in
    let high : left ≤ length nodes = c.loop-left.invariant.high in
    let same : left ≡ (left - 1) + 1 = omega arith in
    let there : slice_get nodes (left - 1) ≡ Some node = slice_get-get_or nodes (left - 1) node (omega arith) ∙ ap (λ (x : Node). Some x) (sym c.index-nodes-left.is) in
    let value : c.inside-function.result ≡ inside old (left - 1) node = c.inside-function.ensures ∙ ap (λ (x : List ℕ). inside x (left - 1) node) c.deref.ensures.value in
    record {
      filled = filled_more nodes (left - 1) node old new c.requires there (subst (λ (x : ℕ). AreFilled nodes x old) same c.loop-left.invariant.filled)
          (subst (λ (x : ℕ). AreGiven node.parts x old new) value (subst (λ (x : List ℕ). AreGiven x c.inside-function.result old new) c.as_slice.ensures c.give.ensures));
      high = omega arith;
    }

pub returns : goal.returns
returns c = all_functions c.args.nodes.now c.loop-left.functions.items c.loop-left.left c.requires c.loop-left-test.false c.loop-left.invariant.filled
