-- The nodes of composite literals, by form (Go 1.17, "Composite literals").
use Rattle.std.specs.Prelude.{ℕ, Bool, true, false, Option, None}
use Rattle.go_tree.specs.declared.tree.NodeKind.{NodeKind}
use Rattle.go_tree.specs.declared.tree.NodeKind.TheVariants as k
use Rattle.rule_words.specs.declared.read.How.{How}
use Rattle.literal_rules.specs.declared.forms.Form.{Form}
use Rattle.literal_rules.specs.declared.forms.Form.TheVariants as f

-- a type with braces; braces; a key with its element; and `[...]T`
abbrev pub form_of : NodeKind → Form
form_of k.Composite = f.Composite
form_of k.Value = f.Braces
form_of k.KeyValue = f.Pair
form_of k.DotsType = f.Dots
form_of _ = f.Other

abbrev pub is_composite : NodeKind → Bool
is_composite k.Composite = true
is_composite _ = false

abbrev pub is_braces : NodeKind → Bool
is_braces k.Value = true
is_braces _ = false

abbrev pub is_pair : NodeKind → Bool
is_pair k.KeyValue = true
is_pair _ = false

abbrev pub is_dots : NodeKind → Bool
is_dots k.DotsType = true
is_dots _ = false

abbrev pub is_name : NodeKind → Bool
is_name k.Name = true
is_name _ = false

-- The rules of literals ask for their parts themselves: which of them are needed rests on the type.
abbrev pub literal_reads : NodeKind → ℕ → Option How
literal_reads _ slot = None
