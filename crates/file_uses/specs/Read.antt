-- What is known of a file that was read.
use Rattle.std.specs.Prelude.{ℕ, ◌<◌, ◌≡◌, List, length, get_or, None}
use Rattle.go_tree.specs.declared.tree.FileTree.{FileTree}
use Rattle.go_tree.specs.Forest.{Forest}
use Rattle.scopes.specs.Regions.{file_names}
use Rattle.file_uses.specs.declared.file.Locals.{Locals}
use Rattle.file_uses.specs.Assigned.{AreUses}
use Rattle.file_uses.specs.Locals.{LocalAnswer}
use Rattle.file_uses.specs.Numbers.{name_in}

-- The names that the file's trees declare, the nodes that are uses where they are names, and what each name denotes within the functions of the file.
pub record AreLocals (bytes : List ℕ) (tree : FileTree) (f : Forest) (l : Locals) : Type 0 where
  pub names : l.names.items ≡ file_names f
  pub uses : AreUses (name_in bytes tree) tree.nodes (file_names f) l.uses.items
  pub size : length l.answers.items ≡ length tree.nodes
  pub answers : (n : ℕ) → n < length tree.nodes → LocalAnswer (name_in bytes tree) (length tree.nodes) (file_names f) n (get_or l.answers.items n None)
