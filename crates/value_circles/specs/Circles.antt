-- Initialisation cycles (Go 1.17, "Package initialization"). "A reference to a variable or function is an identifier denoting that variable or function. A
-- reference to a method m is a method value or method expression of the form t.m, where the (static) type of t is not an interface type, and the method m is in the
-- method set of t." "A variable, function, or method x depends on a variable y if x's initialization expression or body (for functions and methods) contains a
-- reference to y or to a function or method that depends on y." A variable that depends on itself has no place in the order of initialization.
use Rattle.std.specs.Prelude.{◌≡◌, ◌↔◌, ℕ, Bool, true, false, if◌then◌else◌, List, [], ◌∷◌, ◌++◌, Option, Some, None, slice_get, slice_index_or}
use Rattle.std.specs.Global.{Vec}
use Rattle.std.specs.List.{Contains}
use Rattle.std.specs.Option.{option_map_or}
use Rattle.go_tree.specs.declared.tree.FileTree.{FileTree}
use Rattle.go_tree.specs.declared.tree.NodeRef.{NodeRef}
use Rattle.object_order.specs.declared.spot.Entry.{Entry}
use Rattle.object_order.specs.Cases.{HasMention}
use Rattle.object_order.specs.Names.{IsNamed}
use Rattle.object_order.specs.Paths.{Leads}
use Rattle.object_order.specs.Spots.{World}
use Rattle.object_order.specs.Views.{same_key, node_in}
use Rattle.value_circles.specs.Values.{value_entries}

-- the first declaration of a name in a list
abbrev pub first_named : NodeRef → List Entry → Option Entry
first_named at [] = None
first_named at (e ∷ entries) = if same_key (at.file, at.node) (e.name.file, e.name.node) then Some e else first_named at entries

-- A package as its initial values and bodies refer to one another: its nodes; the variable, function or method to which a node is a reference; and of which
-- expressions and blocks the initial value of a variable, or the body of a function or method, is made. What lies in a block within an expression or a block isn't
-- looked for there: the block is one more of these.
abbrev pub world_by : List FileTree → (NodeRef → Option NodeRef) → List Entry → World
world_by trees meant entries = record { node = node_in trees; meant = meant; entry = λ at. first_named at entries; kin = λ t. [] }

-- the initial value or body of the one has a reference to the other
abbrev pub RefersTo : World → NodeRef → NodeRef → Type 0
RefersTo w x y = HasMention w x y

abbrev pub world_of : List FileTree → (NodeRef → Option NodeRef) → List Entry → World
world_of trees meant bodies = world_by trees meant (value_entries trees ++ bodies)

-- what a table of flags, a row for each file, has for a node
abbrev pub flag : List (Vec Bool) → NodeRef → Bool
flag rows at = option_map_or (λ (row : Vec Bool). slice_index_or row.items at.node false) (slice_get rows at.file) false

-- E5: a variable of the package block that isn't refused as a declaration that needs itself, and that reaches itself by references
pub record IsInitialCircle (trees : List FileTree) (meant : NodeRef → Option NodeRef) (cyclic : NodeRef → Bool) (bodies : List Entry) (at : NodeRef) : Type 0 where
  pub variable : IsNamed (value_entries trees) at
  pub plain : cyclic at ≡ false
  pub reaches : Leads (RefersTo (world_of trees meant bodies)) at at

-- these variables, and no others
abbrev pub AreInitialCircles : List FileTree → (NodeRef → Option NodeRef) → (NodeRef → Bool) → List Entry → List NodeRef → Type 0
AreInitialCircles trees meant cyclic bodies list = (at : NodeRef) → Contains list at ↔ IsInitialCircle trees meant cyclic bodies at
