-- Questions about types, asked over marks. Some names are declared from the start: those of packages that are imported, and those of the
-- universe block. Each other name of the package is declared by an item: its mark says with which underlying type and methods, or that its
-- declaration gives nothing. Of a name that is neither, as one of a package that isn't known, nothing is known, and a question that needs it has no answer.
use Rattle.std.specs.Prelude.{◌≡◌, ◌⊎◌, Option, Some, None}
use Rattle.std.specs.Option.{option_or, option_map_or}
use Rattle.type_model.specs.declared.term.TypeName.{TypeName}
use Rattle.type_model.specs.Declarations.{Declaration, Declarations}
use Rattle.type_questions.specs.declared.reached.Reached.{Reached}
use Rattle.type_questions.specs.declared.reached.Reached.TheVariants.{Got, Lost}
use Rattle.type_questions.specs.declared.reached.Found.{Found}
use Rattle.type_questions.specs.declared.reached.Found.TheVariants.{Is, Wait}

-- the mark of the item that declares the name, where it has one
abbrev pub mark_of : {I M : Type 0} → (TypeName → Option I) → (I → Option M) → TypeName → Option M
mark_of {I} {M} under so_far name = option_map_or so_far (under name) None

-- what the name is declared with, as far as the marks say
abbrev pub marked : {I M : Type 0} → (TypeName → Option I) → (M → Option Declaration) → (I → Option M) → Declarations
marked under reads so_far name = option_map_or reads (mark_of under so_far name) None

-- what is declared: from the start, and as far as the marks say
abbrev pub declared : {I M : Type 0} → Declarations → (TypeName → Option I) → (M → Option Declaration) → (I → Option M) → Declarations
declared base under reads so_far name = option_or (base name) (marked under reads so_far name)

-- the name is declared by an item whose mark says that its declaration gives nothing
abbrev pub IsOfNothing : {I M : Type 0} → (TypeName → Option I) → (M → Option Declaration) → (I → Option M) → TypeName → Type 0
IsOfNothing {I} {M} under reads so_far name = (item : I) × (mark : M) × (under name ≡ Some item) × (so_far item ≡ Some mark) × (reads mark ≡ None)

-- the name is declared by nothing, whatever is marked or known later
abbrev pub GivesNothing : {I M : Type 0} → Declarations → (TypeName → Option I) → (M → Option Declaration) → (I → Option M) → TypeName → Type 0
GivesNothing base under reads so_far name = (base name ≡ None) × IsOfNothing under reads so_far name

-- the name waits for the item that declares it
abbrev pub IsPending : {I M : Type 0} → (TypeName → Option I) → (I → Option M) → TypeName → I → Type 0
IsPending under so_far name item = (under name ≡ Some item) × (so_far item ≡ None)

-- the answer to a question: an answer counts where enough is declared; there is none where a name that is needed is declared by nothing
abbrev pub says_over : {I M Q A : Type 0} → Declarations → (TypeName → Option I) → (M → Option Declaration)
    → (Declarations → Q → Type 0) → (Declarations → Q → TypeName → Type 0) → (Declarations → Q → A → Type 0)
    → (I → Option M) → Q → Reached A → Type 0
says_over base under reads Enough Needs Says so_far q (Got a) = Enough (declared base under reads so_far) q × Says (declared base under reads so_far) q a
says_over base under reads Enough Needs Says so_far q Lost = (name : TypeName) × Needs (declared base under reads so_far) q name × GivesNothing base under reads so_far name

-- the items for which a question waits: those of the names that it needs, while they have no mark
abbrev pub pends_over : {I M Q : Type 0} → Declarations → (TypeName → Option I) → (M → Option Declaration)
    → (Declarations → Q → TypeName → Type 0) → (I → Option M) → Q → I → Type 0
pends_over base under reads Needs so_far q item = (name : TypeName) × Needs (declared base under reads so_far) q name × IsPending under so_far name item

-- what a judge comes to: an answer of which this holds, or an item that it has to wait for
abbrev pub OnFound : {A I : Type 0} → Found A I → (A → Type 0) → (I → Type 0) → Type 0
OnFound (Is a) Holds Waits = Holds a
OnFound (Wait item) Holds Waits = Waits item
