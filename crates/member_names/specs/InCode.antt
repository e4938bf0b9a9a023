-- What is named, in code.
use Rattle.std.specs.Prelude.{ℕ, List, Option, None, option_map}
use Rattle.type_model.specs.declared.table.TypeTable.{TypeTable}
use Rattle.type_model.specs.GoTypes.{GoType}
use Rattle.type_model.specs.Tables.{declarations_in}
use Rattle.method_sets.specs.declared.selection.Selected.{Selected}
use Rattle.method_sets.specs.declared.selection.Selected.TheVariants as selected
use Rattle.method_sets.specs.declared.selection.Selection.{Selection}
use Rattle.method_sets.specs.declared.selection.Selection.TheVariants as selection
use Rattle.selected_methods.specs.InCode.{IsWhat}
use Rattle.member_names.specs.declared.named.Named.{Named}
use Rattle.member_names.specs.Named.{method_led}

abbrev pub named_in : Named → List ℕ × List ℕ
named_in x = (x.path, x.name)

abbrev pub found_named : Option Named → Option (List ℕ × List ℕ)
found_named o = option_map named_in o

-- it is what is so, or nothing where nothing is so
abbrev pub Finds : (List ℕ × List ℕ → Type 0) → Option Named → Type 0
Finds P o = IsWhat P (found_named o)

abbrev pub method_found : TypeTable → List ℕ → GoType → List ℕ → Selected → Option (List ℕ × List ℕ)
method_found t name of path (selected.Field field) = None
method_found t name of path (selected.Method method pointer) = method_led (declarations_in t) name of path

-- the method of a selection from a type
abbrev pub method_chosen : TypeTable → List ℕ → GoType → Selection → Option (List ℕ × List ℕ)
method_chosen t name of (selection.Found path kind) = method_found t name of path kind
method_chosen t name of (selection.Ambiguous depth) = None
method_chosen t name of selection.Absent = None
