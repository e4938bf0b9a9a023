-- The nodes that are primary expressions, and unary ones that aren't operators of constants, by form.
use Rattle.std.specs.Prelude.{ℕ, ◌==◌, if◌then◌else◌, Option, Some, None}
use Rattle.go_tree.specs.declared.tree.NodeKind.{NodeKind}
use Rattle.go_tree.specs.declared.tree.NodeKind.TheVariants as k
use Rattle.rule_words.specs.declared.read.How.{How}
use Rattle.rule_words.specs.declared.read.How.TheVariants as h
use Rattle.primary_rules.specs.declared.forms.Bounds.{Bounds}
use Rattle.primary_rules.specs.declared.forms.Form.{Form}
use Rattle.primary_rules.specs.declared.forms.Form.TheVariants as f

-- which parts are the indexes of a slice expression
abbrev pub slots : Option ℕ → Option ℕ → Option ℕ → Bounds
slots low high max = record { low = low; high = high; max = max }

-- The form of a kind. Others than these have no rule here.
unfoldable pub form_of : NodeKind → Form
form_of k.Selector = f.Selector
form_of k.Index = f.Index
form_of k.SliceAll = f.Slice (slots None None None)
form_of k.SliceLow = f.Slice (slots (Some 1) None None)
form_of k.SliceLowHigh = f.Slice (slots (Some 1) (Some 2) None)
form_of k.SliceLowHighMax = f.Slice (slots (Some 1) (Some 2) (Some 3))
form_of k.SliceHigh = f.Slice (slots None (Some 1) None)
form_of k.SliceHighMax = f.Slice (slots None (Some 1) (Some 2))
form_of k.Assert = f.Assert
form_of k.Star = f.Star
form_of k.Unary = f.Unary
form_of k.Paren = f.Paren
form_of _ = f.Other

abbrev pub assert_reads : ℕ → How
assert_reads slot = if slot == 0 then h.Value else h.TypeAndUnder

-- How the parts are read. What stands before a dot, behind `*` or between parentheses may be a type.
abbrev pub form_reads : Form → ℕ → Option How
form_reads f.Selector slot = Some h.Mark
form_reads f.Index slot = Some h.Value
form_reads (f.Slice bounds) slot = Some h.Value
form_reads f.Assert slot = Some (assert_reads slot)
form_reads f.Star slot = Some h.Mark
form_reads f.Unary slot = Some h.Value
form_reads f.Paren slot = Some h.Mark
form_reads f.Other slot = None

abbrev pub primary_reads : NodeKind → ℕ → Option How
primary_reads kind slot = form_reads (form_of kind) slot
