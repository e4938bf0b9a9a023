use Rattle.std.proofs.Common.{List, Bool, length, subst}
use Rattle.go_tree.specs.declared.tree.Node.{Node}
use Rattle.flow.specs.Edges.{before}
use Rattle.flow.specs.Passing.{flag_of, AreMarked, IsCutOffIn, AreFlagged}
use Rattle.flow.proofs.CutLemmas.{unreached_by}
use Rattle.flow.proofs.statements.all_unreached.Goals as goal

pub returns : goal.returns
returns c =
    unreached_by c.args.tree.now c.args.labels.now (flag_of c.args.stops.now) c.in_ok-passing.passing.items c.in_ok-named.named.items c.in_ok-flags.flags.items c.in_ok-found.found.items
    c.requires.tree c.in_ok-passing.ensures c.in_ok-named.ensures
    (subst (λ (l : List Bool). AreMarked (IsCutOffIn (flag_of l) (λ n. flag_of c.in_ok-named.named.items (before n)) c.args.tree.now.nodes) (length c.args.tree.now.nodes) (length c.args.tree.now.nodes) c.in_ok-flags.flags.items) c.deref-3.ensures.value
    (subst (λ (l : List Bool). AreMarked (IsCutOffIn (flag_of c.deref-3.result.now) (λ n. flag_of l (before n)) c.args.tree.now.nodes) (length c.args.tree.now.nodes) (length c.args.tree.now.nodes) c.in_ok-flags.flags.items) c.deref-4.ensures.value
    (subst (λ (l : List Node). AreMarked (IsCutOffIn (flag_of c.deref-3.result.now) (λ n. flag_of c.deref-4.result.now (before n)) l) (length l) (length l) c.in_ok-flags.flags.items) c.as_slice.ensures c.in_ok-flags.ensures)))
    (subst (λ (l : List Bool). AreFlagged l (length l) c.in_ok-found.found.items) c.deref-5.ensures.value c.in_ok-found.ensures)
