use Rattle.std.proofs.Common.{List, length, sym, ap, subst, arith}
use Rattle.go_tree.specs.Bindings.{AreInOrder}
use Rattle.go_tree.specs.declared.bindings.Object.{Object}
use Rattle.go_tree.specs.declared.tree.NodeRef.{NodeRef}
use Rattle.bind.specs.Answers.{AreFit, AreRead}
use Rattle.bind.specs.Denoting.{AreBindings}
use Rattle.bind.specs.declared.file.File.{File}
use Rattle.bind.proofs.ReadLemmas.{names_kept}
use Rattle.bind.proofs.uses.bind_named.Goals as goal

pub bind_read-requires-clause-few : goal.bind_read-requires-clause-few
bind_read-requires-clause-few c = omega (arith, c.requires.few, c.in_ok-read.ensures.count, ap length c.deref.ensures.value)

pub bind_read-requires-clause-fit : goal.bind_read-requires-clause-fit
bind_read-requires-clause-fit c = subst (λ (l : List File). AreFit l) (sym c.deref.ensures.value) c.in_ok-read.ensures.fit

pub returns : goal.returns
returns c = record {
  ordered = subst (λ (l : List (NodeRef × Object)). AreInOrder l) (sym c.of.ensures) c.in_ok-uses.ensures.ordered;
  bound = λ p same files.
      subst (λ (l : List (NodeRef × Object)). AreBindings p l) (sym c.of.ensures)
      (c.in_ok-uses.ensures.bound p same (subst (λ (l : List File). AreRead l p.files) (sym c.deref.ensures.value) (c.in_ok-read.ensures.read p.files files)));
  names = names_kept c.args.files.now c.in_ok-read.read.items c.in_ok-names.names.items c.in_ok-read.ensures.count c.in_ok-read.ensures.named c.in_ok-names.ensures;
}
