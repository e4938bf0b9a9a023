-- The functions of a package that never return, and their facts.
use Rattle.std.specs.Prelude.{◌≡◌, ◌↔◌, ℕ, Bool, true, if◌then◌else◌, List, [], ◌∷◌, map, Option, Some, None, option_map, option_and_then}
use Rattle.std.specs.List.{Contains}
use Rattle.fact_codec.specs.declared.units.Never.{Never}
use Rattle.fact_codec.specs.Texts.{AreFacts}
use Rattle.file_flow.specs.Told.{AreTold}
use Rattle.go_tree.specs.declared.tree.FileTree.{FileTree}
use Rattle.go_tree.specs.declared.tree.NodeRef.{NodeRef}
use Rattle.handed_facts.specs.Handed.{Named, AreHanded}
use Rattle.least.specs.Staged.{IsLeastIn}
use Rattle.least.specs.Tables.{Member, member, home}
use Rattle.never_returns.specs.Admits.{Callee, Body, Admits}
use Rattle.object_order.specs.Spots.{place}
use Rattle.own_functions.specs.Functions.{is_own, declared_at, block_at}
use Rattle.typed_marks.specs.declared.item.Item.{Item}
use Rattle.typed_marks.specs.Meanings.{Meaning}
use Rattle.unit_read.specs.Units.{Unit, text_in, tree_at}
use Rattle.vet_never.specs.Callees.{IsCallee}
use Rattle.vet_never.specs.Listed.{listed_in}

-- ---- bodies

-- the labels of each file, and what statements call
pub record Around : Type 0 where
  pub labels : ℕ → List (Option ℕ)
  pub callee : NodeRef → Callee

abbrev pub body_with : Around → ℕ → FileTree → ℕ → Body
body_with a f tree block = record { tree = tree; labels = a.labels f; callee = λ n. a.callee (place f n); block = block }

abbrev pub body_in : Around → NodeRef → FileTree → Option Body
body_in a at tree = option_map (body_with a at.file tree) (block_at tree.nodes at.node)

abbrev pub body_at : Unit → Around → NodeRef → Option Body
body_at u a at = option_and_then (body_in a at) (tree_at u at.file)

-- the body of a member of the package: that of the first function or method of its name
abbrev pub body_of : Unit → Around → Member → Option Body
body_of u a m = option_and_then (body_at u a) (declared_at u m.name)

abbrev pub bodies_in : Unit → Around → Member → Option Body
bodies_in u a m = if is_own 0 u m then body_of u a m else None

-- ---- what is known of a package

pub record IsAround (u : Unit) (marks : Item → Meaning) (a : Around) : Type 0 where
  pub calls : (at : NodeRef) → IsCallee u marks at (a.callee at)
  pub labels : (f : ℕ) (tree : FileTree) → tree_at u f ≡ Some tree → AreTold (text_in u f) tree (a.labels f)

-- ---- facts

abbrev pub spelling : Never → List ℕ
spelling fact = 110 ∷ []

-- a fact is one of the one kind
abbrev pub kinds : Never → List ℕ
kinds fact = 0 ∷ []

-- The functions of a package that never return, over the facts of other packages: the least set that holds the listed ones that it declares, and each with a body of which neither a
-- `return` nor the end is reached, where calls of `panic` and of members stop control.
pub record AreNever (u : Unit) (marks : Item → Meaning) (given : List Named) (N : Member → Bool) : Type 0 where
  pub around : Around
  pub is_around : IsAround u marks around
  pub handed : Member → Bool
  pub are_handed : AreHanded spelling kinds given handed
  pub least : IsLeastIn home (Admits (listed_in u) (bodies_in u around)) u.path handed N

abbrev pub fact_name : List ℕ × Never → List ℕ
fact_name e = e.0

-- The text of their names, each with its fact.
pub record IsNeverText (u : Unit) (marks : Item → Meaning) (given : List Named) (text : List ℕ) : Type 0 where
  pub set : Member → Bool
  pub are : AreNever u marks given set
  pub table : List (List ℕ × Never)
  pub spelled : AreFacts spelling table text
  pub each : (name : List ℕ) → Contains (map fact_name table) name ↔ (set (member u.path name 0) ≡ true)
