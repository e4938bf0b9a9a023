-- Which names of a package are declared before at package level (Go 1.17, "Declarations and scope": "No identifier may be declared twice in the
-- same block"). Methods are declared in no block; nor are functions named `init`, which can be declared more than once ("Package initialization").
use Rattle.std.specs.Prelude.{◌≡◌, ℕ, Bool, true, false, not, nat_lt, if◌then◌else◌, List, [], ◌∷◌, length, map, codes, Option, slice_get, option_map}
use Rattle.std.specs.HashMap.{HashMap}
use Rattle.std.specs.Option.{option_map_or}
use Rattle.std.specs.Str.{bytes_eq}
use denote.Ref.{Bor}
use Rattle.go_tree.specs.Lexeme.{place_of}
use Rattle.go_tree.specs.declared.tree.Node.{Node}
use Rattle.go_tree.specs.declared.tree.NodeKind.{NodeKind}
use Rattle.go_tree.specs.declared.tree.NodeKind.TheVariants as k
use Rattle.go_tree.specs.declared.tree.NodeRef.{NodeRef}
use Rattle.object_order.specs.declared.spot.Entry.{Entry}
use Rattle.package_objects.specs.Declares.{gather, declared}
use Rattle.unit_read.specs.Index.{texts_of, found}
use Rattle.unit_read.specs.Members.{all_again}
use Rattle.unit_read.specs.Units.{Unit, node_at, name_at, around, is_top}
use Rattle.unit_rows.specs.Tables.{is_listed}

abbrev pub kind_of : Unit → NodeRef → NodeKind
kind_of u at = option_map_or (λ (node : Node). node.kind) (node_at u at) k.Package

-- the kind of the node around another, and of a package clause where there is none
abbrev pub kind_around : Unit → NodeRef → NodeKind
kind_around u at = option_map_or (kind_of u) (around u at) k.Package

abbrev pub is_method : NodeKind → Bool
is_method k.MethodDecl = true
is_method _ = false

abbrev pub is_function : NodeKind → Bool
is_function k.FuncDecl = true
is_function _ = false

-- the name of a function `init`
abbrev pub is_init : Unit → NodeRef → Bool
is_init u at = if is_function (kind_around u at) then bytes_eq (name_at u at) (codes "init") else false

-- the name is declared in the package block
abbrev pub is_in_block : Unit → NodeRef → Bool
is_in_block u at = if is_top u at then (if is_method (kind_around u at) then false else not (is_init u at)) else false

abbrev pub if_in_block : Unit → NodeRef → List NodeRef
if_in_block u at = if is_in_block u at then at ∷ [] else []

abbrev pub nth_name : List Entry → ℕ → Option NodeRef
nth_name entries i = option_map (λ (e : Entry). e.name) (slice_get entries i)

abbrev pub nth_in_block : Unit → List Entry → ℕ → List NodeRef
nth_in_block u entries i = option_map_or (if_in_block u) (nth_name entries i) []

-- of some declarations the names in the package block
abbrev pub all_in_block : Unit → List Entry → List NodeRef
all_in_block u entries = gather (nth_in_block u entries) (length entries)

-- the names of the package block, in order of file and node
abbrev pub package_names : Unit → List NodeRef
package_names u = all_in_block u (declared u.trees [])

-- of some names those that an earlier one has
abbrev pub named_again : Unit → List NodeRef → List NodeRef
named_again u names = all_again (map (name_at u) names) names

-- the names that are declared before in the package block; the blank name never is
abbrev pub redeclared : Unit → List NodeRef
redeclared u = named_again u (package_names u)

-- E1
abbrev pub is_redeclared : Unit → NodeRef → Bool
is_redeclared u at = is_listed u.trees (redeclared u) at

-- ---- in code: where names aren't few, a map has the first place of each

abbrev pub AreFirsts : {S : Type 0} → List (Bor (List ℕ)) → HashMap (Bor (List ℕ)) ℕ S → Type 0
AreFirsts names firsts = nat_lt (length names) 9 ≡ false → (q : List ℕ) → found firsts q ≡ place_of (texts_of names) q
