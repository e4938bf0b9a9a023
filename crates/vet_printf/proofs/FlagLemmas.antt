-- What is known of an argument, class by class.
use Rattle.std.proofs.Common.{◌≡◌, ℕ, Bool}
use Rattle.type_model.specs.declared.table.TypeTable.{TypeTable}
use Rattle.type_model.specs.Tables.{declarations_in}
use Rattle.vet_printf.specs.declared.asking.Asked.{Asked}
use Rattle.vet_printf.specs.declared.fault.Argument.{Argument}
use Rattle.vet_printf.specs.declared.fault.Classes.{Classes}
use Rattle.vet_printf.specs.declared.verb.Class.{Class}
use Rattle.vet_printf.specs.declared.verb.Class.TheVariants as c
use Rattle.vet_printf.specs.Faults.{in_class}
use Rattle.vet_printf.specs.InTable.{ty, IsAsked, IsSuited}
use Rattle.vet_printf.specs.Tables.{is_integer_type, IsArgumentOf}

abbrev classes : Bool → Bool → Bool → Bool → Bool → Bool → Bool → Bool → Classes
classes a b d e f g h i = record { boolean = a; integer = b; integer_pointer = d; integer_text_pointer = e; integer_text = f; text = g; reference = h; nothing = i }

pub classes_told : (P : Class → Bool → Type 0) (a b d e f g h i : Bool) → P c.Boolean a → P c.Integer b → P c.IntegerPointer d → P c.IntegerTextPointer e → P c.IntegerText f → P c.Text g → P c.Reference h → P c.Nothing i
    → (class : Class) → P class (in_class (classes a b d e f g h i) class)
classes_told P a b d e f g h i pa pb pd pe pf pg ph pi c.Boolean = pa
classes_told P a b d e f g h i pa pb pd pe pf pg ph pi c.Integer = pb
classes_told P a b d e f g h i pa pb pd pe pf pg ph pi c.IntegerPointer = pd
classes_told P a b d e f g h i pa pb pd pe pf pg ph pi c.IntegerTextPointer = pe
classes_told P a b d e f g h i pa pb pd pe pf pg ph pi c.IntegerText = pf
classes_told P a b d e f g h i pa pb pd pe pf pg ph pi c.Text = pg
classes_told P a b d e f g h i pa pb pd pe pf pg ph pi c.Reference = ph
classes_told P a b d e f g h i pa pb pd pe pf pg ph pi c.Nothing = pi

abbrev argument : Bool → Bool → Classes → Argument
argument integer error classes = record { integer = integer; error = error; classes = classes }

pub argument_told : (t : TypeTable) (n : ℕ) (i : Bool) (asked : Asked) (x : Classes) → i ≡ is_integer_type (declarations_in t) (ty t n) → IsAsked t n asked → ((class : Class) → IsSuited t class n (in_class x class))
    → IsArgumentOf (declarations_in t) (ty t n) (argument i asked.error x)
argument_told t n i asked x integer are suited = record { integer = integer; error = are.error; classes = suited }
