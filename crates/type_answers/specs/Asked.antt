-- What rules ask about types, each as a term of its own: what is given is the answer, or that there is none, since a name that it needs is
-- declared by nothing.
use Rattle.std.specs.Prelude.{Bool, true, false, if◌then◌else◌, List, Option}
use Rattle.gv_base.specs.declared.constant.Const.{Const}
use Rattle.mark_walk.specs.Asks.{done, put, bind}
use Rattle.method_sets.specs.Levels.{Chosen}
use Rattle.method_sets.specs.Members.{Name}
use Rattle.type_model.specs.GoTypes.{GoType, GoMethods, NoMethod}
use Rattle.type_model.specs.Parts.{GoMethod}
use Rattle.type_rel.specs.declared.answer.Implements.{Implements}
use Rattle.type_rel.specs.declared.answer.Implements.TheVariants.{Yes, Missing}
use Rattle.type_questions.specs.declared.reached.Reached.{Reached}
use Rattle.type_questions.specs.declared.reached.Reached.TheVariants.{Got, Lost}
use Rattle.type_questions.specs.Questions.{Question, AssignableTo, ConvertibleTo, IsComparable, MissingMethod, FieldOrMethod, MethodSet, Told, Holds, Implementing, Selecting, Listing, Declaring}
use Rattle.typed_marks.specs.Meanings.{Quiet}
use Rattle.rule_words.specs.Asking.{Asks, Rule}
use Rattle.rule_words.specs.Putting.{methods_from}
use Rattle.type_answers.specs.declared.relations.Relation.{Relation}
use Rattle.type_answers.specs.declared.relations.Relation.TheVariants as r
use Rattle.type_answers.specs.Unknown.{has_unknown, is_unknown_named, comes_to_unknown}

-- ---- what is told

abbrev pub bool_told : Told → Reached Bool
bool_told (Holds x) = x
bool_told (Implementing x) = Lost
bool_told (Selecting x) = Lost
bool_told (Listing x) = Lost
bool_told (Declaring x) = Lost

abbrev pub methods_told : Told → Reached (List GoMethod)
methods_told (Holds x) = Lost
methods_told (Implementing x) = Lost
methods_told (Selecting x) = Lost
methods_told (Listing x) = x
methods_told (Declaring x) = Lost

abbrev pub chosen_told : Told → Reached Chosen
chosen_told (Holds x) = Lost
chosen_told (Implementing x) = Lost
chosen_told (Selecting x) = x
chosen_told (Listing x) = Lost
chosen_told (Declaring x) = Lost

abbrev pub implements_told : Told → Reached Implements
implements_told (Holds x) = Lost
implements_told (Implementing x) = x
implements_told (Selecting x) = Lost
implements_told (Listing x) = Lost
implements_told (Declaring x) = Lost

-- what a rule makes of an answer; nothing is said where there is none
abbrev pub need_told : {A : Type 0} → Reached A → (A → Rule) → Rule
need_told (Got a) rest = rest a
need_told Lost rest = done Quiet

-- ---- relations

abbrev pub bool_given : Told → Asks (Reached Bool)
bool_given told = done (bool_told told)

abbrev pub bool_ask : Question → Asks (Reached Bool)
bool_ask q = put q bool_given

-- "Comparison operators": values of the type may be compared
unfoldable pub comparable_ask : GoType → Asks (Reached Bool)
comparable_ask of = bool_ask (IsComparable of)

abbrev pub methods_given : Told → Asks (Reached (List GoMethod))
methods_given told = done (methods_told told)

-- "Method sets": the methods of a type, in order of name and package
unfoldable pub methods_ask : GoType → Asks (Reached (List GoMethod))
methods_ask of = put (MethodSet of) methods_given

-- ---- relations by methods

-- the methods that a type wants in turn: where they come to one without a known signature nothing is told
abbrev pub comes_told : List GoMethod → Reached (List GoMethod) → Asks (Reached Bool)
comes_told set (Got wanted) = done (if comes_to_unknown set wanted then Lost else Got false)
comes_told set Lost = done Lost

abbrev pub unrelated : GoType → List GoMethod → Asks (Reached Bool)
unrelated to set = if has_unknown set then bind (methods_ask to) (comes_told set) else done (Got false)

abbrev pub related_known : GoType → List GoMethod → Bool → Asks (Reached Bool)
related_known to set b = if b then done (Got true) else unrelated to set

abbrev pub related_told : GoType → List GoMethod → Reached Bool → Asks (Reached Bool)
related_told to set (Got b) = related_known to set b
related_told to set Lost = done Lost

unfoldable pub related_list : GoType → (GoMethods → Question) → List GoMethod → Asks (Reached Bool)
related_list to q methods = bind (bool_ask (q (methods_from methods))) (related_told to methods)

abbrev pub related_with : GoType → (GoMethods → Question) → Reached (List GoMethod) → Asks (Reached Bool)
related_with to q (Got methods) = related_list to q methods
related_with to q Lost = done Lost

-- An operand's methods count where it is related to an interface, and are asked for there alone.
abbrev pub related_ask : Bool → GoType → GoType → (GoMethods → Question) → Asks (Reached Bool)
related_ask true of to q = bind (methods_ask of) (related_with to q)
related_ask false of to q = bool_ask (q NoMethod)

-- whether an operand of this type, of this value where it is a constant and with these methods, is so related to a type
abbrev pub relating : Relation → GoType → Option Const → GoType → GoMethods → Question
relating r.Assignable of value to set = AssignableTo (record { v = of; value = value; set = set; to = to })
relating r.Convertible of value to set = ConvertibleTo (record { v = of; value = value; set = set; to = to })

-- "Assignability", "Conversions": an operand to a type; the flag says whether that is an interface
unfoldable pub operand_ask : Relation → Bool → GoType → Option Const → GoType → Asks (Reached Bool)
operand_ask relation by_methods of value to = related_ask by_methods of to (relating relation of value to)

abbrev pub assignable_ask : Bool → GoType → Option Const → GoType → Asks (Reached Bool)
assignable_ask by_methods of value to = operand_ask r.Assignable by_methods of value to

abbrev pub convertible_ask : Bool → GoType → Option Const → GoType → Asks (Reached Bool)
convertible_ask by_methods of value to = operand_ask r.Convertible by_methods of value to

-- An operand that is compared with one of another type: whether it may be assigned to that by the methods with known signatures, since that the types are
-- mismatched is told all the same.
abbrev pub compared_with : (GoMethods → Question) → Reached (List GoMethod) → Asks (Reached Bool)
compared_with q (Got methods) = bool_ask (q (methods_from methods))
compared_with q Lost = done Lost

abbrev pub comparing_ask : Bool → GoType → (GoMethods → Question) → Asks (Reached Bool)
comparing_ask true of q = bind (methods_ask of) (compared_with q)
comparing_ask false of q = bool_ask (q NoMethod)

unfoldable pub compared_ask : Bool → GoType → Option Const → GoType → Asks (Reached Bool)
compared_ask by_methods of value to = comparing_ask by_methods of (relating r.Assignable of value to)

-- ---- members

abbrev pub implements_given : Told → Asks (Reached Implements)
implements_given told = done (implements_told told)

abbrev pub missing_ask : GoMethods → GoType → Asks (Reached Implements)
missing_ask set of = put (MissingMethod (record { set = set; of = of })) implements_given

-- the first method that is missed, unless it is there without a known signature
abbrev pub lacking : List GoMethod → Implements → Reached Implements
lacking set Yes = Got Yes
lacking set (Missing name) = if is_unknown_named name set then Lost else Got (Missing name)

abbrev pub missing_known : List GoMethod → Reached Implements → Asks (Reached Implements)
missing_known set (Got x) = done (lacking set x)
missing_known set Lost = done Lost

unfoldable pub implements_list : GoType → List GoMethod → Asks (Reached Implements)
implements_list of methods = bind (missing_ask (methods_from methods) of) (missing_known methods)

abbrev pub implements_with : GoType → Reached (List GoMethod) → Asks (Reached Implements)
implements_with of (Got methods) = implements_list of methods
implements_with of Lost = done Lost

-- "Implementing an interface": whether a type has each method of this interface, an interface type literal
unfoldable pub implements_ask : GoType → GoType → Asks (Reached Implements)
implements_ask v of = bind (methods_ask v) (implements_with of)

abbrev pub chosen_given : Told → Asks (Reached Chosen)
chosen_given told = done (chosen_told told)

-- "Selectors": what a name selects from a type
unfoldable pub select_ask : GoType → Name → Asks (Reached Chosen)
select_ask of name = put (FieldOrMethod (record { of = of; name = name })) chosen_given
