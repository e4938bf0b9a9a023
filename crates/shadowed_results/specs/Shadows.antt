-- Results that are shadowed where a function returns without values (Go 1.17, "Return statements": "a compiler may disallow an empty expression list in
-- a "return" statement if a different entity (constant, type, or variable) with the same name as a result parameter is in scope at the place of the
-- return").
use Rattle.std.specs.Prelude.{ℕ, ◌<◌, ◌≡◌, ◌↔◌, Bool, true, false, List, length, Some, get_or, codes}
use Rattle.std.specs.Str.{bytes_eq}
use Rattle.go_tree.specs.Arena.{arena_of}
use Rattle.go_tree.specs.Forest.{Forest}
use Rattle.go_tree.specs.declared.tree.FileTree.{FileTree}
use Rattle.go_tree.specs.Kinds.{is_function}
use Rattle.scopes.specs.Regions.{file_names}
use Rattle.scopes.specs.declared.scope.Named.{Named}
use Rattle.file_uses.specs.Locals.{IsLocal, HoldsNode}
use Rattle.file_uses.specs.Numbers.{name_in}
use Rattle.node_values.specs.Trees.{InnermostOf}
use Rattle.shadowed_results.specs.declared.results.Stage.{Stage}
use Rattle.shadowed_results.specs.declared.results.Stage.TheVariants as s
use Rattle.shadowed_results.specs.Kinds.{is_body_of, is_bare_at}
use Rattle.shadowed_results.specs.Stages.{AreStages, is_named}

-- a result of the function f has the name q at the node r; `_` names none
pub record IsResult (bytes : List ℕ) (tree : FileTree) (f r : ℕ) (q : List ℕ) : Type 0 where
  pub stages : List Stage
  pub are : AreStages tree.nodes stages
  pub stands : is_named (get_or stages r s.Outside) ≡ true
  pub name : name_in bytes tree r ≡ Some q
  pub real : bytes_eq q (codes "_") ≡ false
  pub function : InnermostOf is_function tree.nodes r f

-- The k-th name that the file declares, the first of this name in its block, is q; its block is one of the function f, within its body.
pub record DeclaresWithin (bytes : List ℕ) (tree : FileTree) (names : List Named) (f : ℕ) (q : List ℕ) (k : ℕ) (e : Named) : Type 0 where
  pub region : IsLocal (name_in bytes tree) (length tree.nodes) names k e
  pub name : name_in bytes tree e.node ≡ Some q
  pub function : InnermostOf is_function tree.nodes e.end f
  pub inner : is_body_of tree.nodes f e.end ≡ false

-- n is a `return` without values in a function f, and the region of such a declaration of a result's name holds it
pub record IsShadowed (bytes : List ℕ) (tree : FileTree) (n : ℕ) : Type 0 where
  pub forest : Forest
  pub arena : arena_of tree.tokens forest ≡ tree
  pub f : ℕ
  pub r : ℕ
  pub k : ℕ
  pub q : List ℕ
  pub e : Named
  pub bare : is_bare_at tree.nodes n ≡ true
  pub function : InnermostOf is_function tree.nodes n f
  pub result : IsResult bytes tree f r q
  pub declares : DeclaresWithin bytes tree (file_names forest) f q k e
  pub holds : HoldsNode e n

-- the flags of these
pub record AreShadowed (bytes : List ℕ) (tree : FileTree) (flags : List Bool) : Type 0 where
  pub size : length flags ≡ length tree.nodes
  pub each : (n : ℕ) → n < length tree.nodes → (get_or flags n false ≡ true) ↔ IsShadowed bytes tree n
