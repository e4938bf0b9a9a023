-- What nodes refer to: by what names denote, by the marks of those before colons (Go 1.17, "Composite literals": "The key is interpreted as a
-- field name for struct literals"), and by the methods that selectors select.
use Rattle.std.specs.Prelude.{◌≡◌, ◌⊎◌, ◌↔◌, ◌==◌, ◌&&◌, Bool, true, false, not, if◌then◌else◌, Option, Some, None}
use Rattle.std.specs.Option.{option_map_or, option_or}
use Rattle.go_tree.specs.declared.bindings.Object.{Object}
use Rattle.go_tree.specs.declared.tree.Node.{Node}
use Rattle.go_tree.specs.declared.tree.NodeKind.{NodeKind}
use Rattle.go_tree.specs.declared.tree.NodeKind.TheVariants as k
use Rattle.go_tree.specs.declared.tree.NodeRef.{NodeRef}
use Rattle.object_order.specs.Spots.{place}
use Rattle.typed_tree.specs.declared.mark.Mode.{Mode}
use Rattle.typed_tree.specs.declared.mark.Mode.TheVariants as mode
use Rattle.typed_marks.specs.declared.item.Item.{Item}
use Rattle.typed_marks.specs.declared.item.Stage.TheVariants as s
use Rattle.typed_marks.specs.Meanings.{Meaning, Right, Wrong, Beyond, Quiet, Wishes, Declares}
use Rattle.unit_read.specs.declared.place.Place.{Place}
use Rattle.unit_read.specs.Imports.{bare}
use Rattle.unit_read.specs.Units.{Unit, node_at, place_at, object_at}
use Rattle.unit_rows.specs.Circular.{named_at}
use Rattle.rule_words.specs.Asking.{item}
use Rattle.selected_methods.specs.Selected.{IsSelectedMethod}
use Rattle.check_pkg.specs.declared.references.Counted.{Counted}
use Rattle.check_pkg.specs.declared.references.Counted.TheVariants as counts

-- ---- names before colons

abbrev pub is_pair : NodeKind → Bool
is_pair k.KeyValue = true
is_pair _ = false

abbrev pub is_key_of : Place → Node → Bool
is_key_of p node = is_pair node.kind && (p.slot == 0)

abbrev pub is_key_in : Unit → NodeRef → Place → Bool
is_key_in u at p = option_map_or (is_key_of p) (node_at u (place at.file p.around)) false

-- the node stands before the colon of an element of a literal
abbrev pub is_key : Unit → NodeRef → Bool
is_key u at = option_map_or (is_key_in u at) (place_at u at) false

abbrev pub has_no_value : Mode → Bool
has_no_value mode.NoValue = true
has_no_value _ = false

-- The mark of a key that is an operand. That of a field's name has no value, and nothing is said of a key where the type of the literal isn't known.
abbrev pub is_operand : Meaning → Bool
is_operand (Right x) = not (has_no_value x.mode)
is_operand (Wrong rule) = false
is_operand (Beyond limit) = false
is_operand Quiet = false
is_operand (Wishes demand wish) = false
is_operand (Declares d) = false

-- the mark of a field's name
abbrev pub is_field : Meaning → Bool
is_field (Right x) = has_no_value x.mode
is_field (Wrong rule) = false
is_field (Beyond limit) = false
is_field Quiet = false
is_field (Wishes demand wish) = false
is_field (Declares d) = false

abbrev pub judged_item : NodeRef → Item
judged_item at = item s.Judged at.file at.node

-- ---- references

abbrev pub refers : Unit → (Item → Meaning) → NodeRef → Bool
refers u marks at = if is_key u at then is_operand (marks (judged_item at)) else true

-- the declared name of the package to which a node is a reference
abbrev pub reference_at : Unit → (Item → Meaning) → NodeRef → Option NodeRef
reference_at u marks at = if refers u marks at then named_at u at else None

-- the node is a reference to the declared name: it denotes it, or it selects the method of that name
abbrev pub IsReference : Unit → (Item → Meaning) → NodeRef → NodeRef → Type 0
IsReference u marks at w = (reference_at (bare u) marks at ≡ Some w) ⊎ ((reference_at (bare u) marks at ≡ None) × IsSelectedMethod u marks at w)

-- to what each node is a reference
abbrev pub AreReferences : Unit → (Item → Meaning) → (NodeRef → Option NodeRef) → Type 0
AreReferences u marks meant = (at w : NodeRef) → (meant at ≡ Some w) ↔ IsReference u marks at w

-- ---- uses of variables and imports

-- the node is the name of a field before a colon, and no use of what is spelled so
abbrev pub names_field : Unit → (Item → Meaning) → NodeRef → Bool
names_field u marks at = if is_key u at then is_field (marks (judged_item at)) else false

-- The declared name of the package that a node uses. A name before a colon counts where it isn't known whether it is that of a field.
abbrev pub reads_at : Unit → (Item → Meaning) → NodeRef → Option NodeRef
reads_at u marks at = if names_field u marks at then None else named_at u at

-- what a node denotes, unless it is the name of a field before a colon
abbrev pub uses_at : Unit → (Item → Meaning) → NodeRef → Option Object
uses_at u marks at = if names_field u marks at then None else object_at u at

-- ---- either of them

-- what a node denotes counts, and where it denotes nothing the method that it selects
abbrev pub joined_at : Unit → (Item → Meaning) → (NodeRef → Option NodeRef) → NodeRef → Option NodeRef
joined_at u marks methods at = option_or (reference_at u marks at) (methods at)

-- beside what nodes denote, as references the methods that they select
abbrev pub counted_at : Unit → (Item → Meaning) → (NodeRef → Option NodeRef) → Counted → NodeRef → Option NodeRef
counted_at u marks methods counts.References at = joined_at u marks methods at
counted_at u marks methods counts.Uses at = reads_at u marks at
