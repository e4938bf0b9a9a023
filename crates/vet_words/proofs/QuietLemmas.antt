-- A file that isn't there has no nodes.
use Rattle.std.proofs.Common.{◌≡◌, ℕ, ◌≤◌, Bool, List, [], length, slice_get, Option, Some, None, refl, ap, ◌∙◌, arith}
use Rattle.std.proofs.lemmas.Option.{slice_get_past}
use Rattle.go_tree.specs.declared.tree.FileTree.{FileTree}
use Rattle.go_tree.specs.declared.tree.Node.{Node}
use Rattle.node_values.specs.Filled.{values}
use Rattle.typed_marks.specs.declared.item.Item.{Item}
use Rattle.typed_marks.specs.Meanings.{Meaning}
use Rattle.unit_read.specs.Units.{Unit, nodes_of}
use Rattle.vet_words.specs.Quiet.{quiet_rule, quiet_nodes}

pub quiet_past : (u : Unit) (marks : Item → Meaning) (f : ℕ) → length u.trees ≤ f → quiet_nodes u marks f ≡ []
quiet_past u marks f past = ap (λ (o : Option FileTree). values (quiet_rule u marks f) (nodes_of o)) (slice_get_past u.trees f past)
