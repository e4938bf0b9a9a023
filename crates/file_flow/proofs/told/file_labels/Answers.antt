use Rattle.std.proofs.Common.{◌≡◌, ◌<◌, ◌∙◌, ℕ, List, Option, Some, length, ap, sym, subst}
use Rattle.std.specs.Prelude.{slice_get}
use Rattle.label_uses.specs.declared.answer.Jump.{Jump}
use Rattle.file_flow.specs.Told.{AreGivenTo}
use Rattle.file_flow.proofs.TreeLemmas.{whole_tree}
use Rattle.file_flow.proofs.ToldLemmas.{told_by}
use Rattle.file_flow.proofs.told.file_labels.Goals as goal

pub owners_of-requires-clause-tree : goal.owners_of-requires-clause-tree
owners_of-requires-clause-tree c = whole_tree c.args.tree.now c.args.bytes.now c.requires

pub give-requires : goal.give-requires
give-requires c = record {
  rises = subst (λ (l : List Jump). (j k : ℕ) (a b : Jump) → j < k → slice_get l j ≡ Some a → slice_get l k ≡ Some b → a.name < b.name) (sym c.deref.ensures.value) c.in_ok-found.ensures.jumps.order;
}

pub returns : goal.returns
returns c =
    told_by c.args.bytes.now c.args.tree.now c.in_ok-found.found c.in_ok-owners.owners.items c.in_ok-given.given.items
    (whole_tree c.args.tree.now c.args.bytes.now c.requires) (λ jump a b. c.one_label.ensures c.args.bytes.now c.args.tree.now jump a b) c.in_ok-found.ensures c.in_ok-owners.ensures
    (c.in_ok-given.ensures.size ∙ ap length c.as_slice.ensures)
    (subst (λ (l : List Jump). AreGivenTo l c.in_ok-owners.owners.items (length l) c.in_ok-given.given.items) c.deref.ensures.value
    (subst (λ (o : List (Option ℕ)). AreGivenTo c.deref.result.now o (length c.deref.result.now) c.in_ok-given.given.items) c.deref-2.ensures.value c.in_ok-given.ensures.given))
