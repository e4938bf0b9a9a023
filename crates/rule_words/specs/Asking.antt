-- What rules ask for.
use Rattle.std.specs.Prelude.{◌≡◌, ℕ, ◌-◌, ◌&&◌, Bool, true, false, nat_le, nat_lt, if◌then◌else◌, List, [], ◌∷◌, length, Option, Some, None, unwrap_or, option_map, option_and_then}
use Rattle.std.specs.Option.{option_map_or}
use Rattle.std.specs.Str.{bytes_eq}
use Rattle.go_tree.specs.declared.tree.NodeRef.{NodeRef}
use Rattle.type_model.specs.declared.term.TypeName.{TypeName}
use Rattle.type_model.specs.GoTypes.{GoType, BasicType, DefinedType, PointerTo, SliceOf, ArrayOf, MapOf, ChanOf, FuncOf, StructOf, InterfaceOf}
use Rattle.type_model.specs.Declarations.{Declaration}
use Rattle.type_model.specs.Tables.{is_same_name}
use Rattle.mark_walk.specs.Asks.{Ask, done, ask, put, bind}
use Rattle.typed_tree.specs.Universe.{error_name}
use Rattle.typed_marks.specs.declared.item.Stage.{Stage}
use Rattle.typed_marks.specs.declared.item.Stage.TheVariants as s
use Rattle.typed_marks.specs.declared.item.Item.{Item}
use Rattle.typed_marks.specs.declared.item.Span.{Span}
use Rattle.typed_marks.specs.Meanings.{Known, Meaning, Right, Wrong, Beyond, Quiet, Wishes, Declares}
use Rattle.type_questions.specs.Questions.{Question, DeclaredAs, Told, Holds, Implementing, Selecting, Listing, Declaring}
use Rattle.unit_read.specs.declared.passage.Passage.{Passage}
use Rattle.unit_read.specs.Passages.{passages}
use Rattle.unit_read.specs.Units.{Unit, passage_at, type_node, error_declaration}
use Rattle.rule_words.specs.declared.read.How.{How}
use Rattle.rule_words.specs.declared.read.How.TheVariants as h
use Rattle.rule_words.specs.declared.read.Read.{Read}
use Rattle.rule_words.specs.Parts.{Part, stage_of}

-- what comes of asking for marks and putting questions about types
abbrev pub Asks : Type 0 → Type 0
Asks R = Ask Item Meaning Question Told R

-- a rule gives a mark
abbrev pub Rule : Type 0
Rule = Asks Meaning

-- ---- marks

abbrev pub item : Stage → ℕ → ℕ → Item
item stage block node = record { stage = stage; block = block; node = node }

abbrev pub is_within : Span → ℕ → Bool
is_within span n = nat_le span.low n && nat_lt n span.end

-- there is such a node in the passage of the block
abbrev pub stands : Unit → ℕ → ℕ → Bool
stands u block n = option_map_or (λ (p : Passage). is_within p.span n) (passage_at u block) false

-- the mark of a node at a stage; nothing is said of what isn't there
abbrev pub mark_ask : Unit → Stage → ℕ → ℕ → Rule
mark_ask u stage block n = if stands u block n then ask (item stage block n) (λ m. done m) else done Quiet

-- ---- underlying types

-- the item that declares a defined type of this package
abbrev pub under_at : Unit → NodeRef → Option Item
under_at u at = if stands u at.file at.node then Some (item s.Under at.file at.node) else None

abbrev pub type_item : Unit → TypeName → Option Item
type_item u name = option_and_then (under_at u) (type_node u name)

-- What is waited for where nothing that is known declares a type: no block has it, it is never marked, and so the rule has no answer.
abbrev pub nowhere_of : Unit → Item
nowhere_of u = item s.Under (length (passages u.trees)) 0

-- the item that declares a type of this name, of this package or of one that isn't known
abbrev pub item_for : Unit → TypeName → Item
item_for u name = unwrap_or (type_item u name) (nowhere_of u)

abbrev pub declarer : Unit → TypeName → Option Item
declarer u name = Some (item_for u name)

-- what a mark says that a type is declared with
abbrev pub declaration_told : Meaning → Option Declaration
declaration_told (Right x) = None
declaration_told (Wrong rule) = None
declaration_told (Beyond limit) = None
declaration_told Quiet = None
declaration_told (Wishes demand wish) = None
declaration_told (Declares d) = Some d

abbrev pub item_ask : Item → Asks (Option Declaration)
item_ask i = ask i (λ m. done (declaration_told m))

abbrev pub declaration_given : Told → Asks (Option Declaration)
declaration_given (Holds x) = done None
declaration_given (Implementing x) = done None
declaration_given (Selecting x) = done None
declaration_given (Listing x) = done None
declaration_given (Declaring d) = done (Some d)

-- what a type of this package is declared with, or one of another
abbrev pub named_ask : Bool → Unit → TypeName → Asks (Option Declaration)
named_ask true u name = item_ask (item_for u name)
named_ask false u name = put (DeclaredAs name) declaration_given

-- What a defined type is declared with. Of a type of another package it is asked, so that a rule doesn't rest on what is known of other packages.
abbrev pub declaration_ask : Unit → TypeName → Asks (Option Declaration)
declaration_ask u name = if is_same_name name error_name then done (Some error_declaration) else named_ask (bytes_eq u.path name.package) u name

abbrev pub named_under : Unit → TypeName → Asks (Option GoType)
named_under u name = bind (declaration_ask u name) (λ d. done (option_map (λ (d : Declaration). d.under) d))

-- the underlying type of a type; None where its declaration gives nothing
abbrev pub under_ask : Unit → GoType → Asks (Option GoType)
under_ask u (BasicType kind) = done (Some (BasicType kind))
under_ask u (DefinedType name) = named_under u name
under_ask u (PointerTo of) = done (Some (PointerTo of))
under_ask u (SliceOf of) = done (Some (SliceOf of))
under_ask u (ArrayOf size of) = done (Some (ArrayOf size of))
under_ask u (MapOf key of) = done (Some (MapOf key of))
under_ask u (ChanOf direction of) = done (Some (ChanOf direction of))
under_ask u (FuncOf of) = done (Some (FuncOf of))
under_ask u (StructOf fields) = done (Some (StructOf fields))
under_ask u (InterfaceOf methods) = done (Some (InterfaceOf methods))

-- that of the final type of what a good mark says
abbrev pub mark_under : Unit → Meaning → Asks (Option GoType)
mark_under u (Right x) = under_ask u x.last
mark_under u (Wrong rule) = done None
mark_under u (Beyond limit) = done None
mark_under u Quiet = done None
mark_under u (Wishes demand wish) = done None
mark_under u (Declares d) = done None

-- ---- parts

abbrev pub part_with : Meaning → Option GoType → Part
part_with m under = record { mark = m; under = under }

abbrev pub known_part : Unit → Meaning → Asks Part
known_part u m = bind (mark_under u m) (λ under. done (part_with m under))

abbrev pub marked_part : Unit → How → Meaning → Asks Part
marked_part u h.Type m = done (part_with m None)
marked_part u h.TypeAndUnder m = known_part u m
marked_part u h.Value m = known_part u m
marked_part u h.Mark m = done (part_with m None)

abbrev pub part_ask : Unit → Stage → ℕ → Read → Asks Part
part_ask u stage block read = bind (mark_ask u (stage_of read.how stage) block read.node) (λ m. marked_part u read.how m)

-- what is asked for each of a list, in its order
abbrev pub ask_each : {X R : Type 0} → (X → Asks R) → List X → Asks (List R)
ask_each f [] = done []
ask_each f (x ∷ list) = bind (f x) (λ r. bind (ask_each f list) (λ rs. done (r ∷ rs)))

-- the parts of a node, in a passage, each as it is read
abbrev pub parts_ask : Unit → Stage → ℕ → List Read → Asks (List Part)
parts_ask u stage block list = ask_each (part_ask u stage block) list
