-- The questions about types that rules put, a case for each relation, named as in go/types.
use Rattle.std.specs.Prelude.{◌≡◌, Bool, List, Option, Some, None}
use Rattle.type_model.specs.declared.term.TypeName.{TypeName}
use Rattle.type_model.specs.GoTypes.{GoType}
use Rattle.type_model.specs.Parts.{GoMethod}
use Rattle.type_model.specs.Declarations.{Declaration, Declarations}
use Rattle.type_rel.specs.declared.answer.Implements.{Implements}
use Rattle.rel_growth.specs.Assign.{ToAssign, EnoughToAssign, NeedsToAssign, SaysAssignable}
use Rattle.rel_growth.specs.Convert.{EnoughToConvert, NeedsToConvert, SaysConvertible}
use Rattle.rel_growth.specs.Compare.{EnoughToCompare, NeedsToCompare, SaysComparable}
use Rattle.rel_growth.specs.Implement.{ToImplement, EnoughToImplement, NeedsToImplement, SaysImplements}
use Rattle.method_sets.specs.Levels.{ToSelect, Chosen, EnoughToSelect, NeedsToSelect, SaysSelected, EnoughToList, NeedsToList, SaysMethods}
use Rattle.type_questions.specs.declared.reached.Reached.{Reached}
use Rattle.type_questions.specs.declared.reached.Found.{Found}
use Rattle.type_questions.specs.Over.{declared, says_over, pends_over, OnFound}

-- AssignableTo (Go 1.17, "Assignability") and ConvertibleTo ("Conversions"): a value and a type; IsComparable ("Comparison operators"): a
-- type; MissingMethod ("Implementing an interface"): a method set and an interface; FieldOrMethod ("Selectors"): a type and a name;
-- MethodSet ("Method sets"): a type; DeclaredAs: the name of a defined type
pub data Question : Type 0 where
  AssignableTo : ToAssign → Question
  ConvertibleTo : ToAssign → Question
  IsComparable : GoType → Question
  MissingMethod : ToImplement → Question
  FieldOrMethod : ToSelect → Question
  MethodSet : GoType → Question
  DeclaredAs : TypeName → Question

-- the answers, a case for each kind: whether it holds, the first method that is missing, what is selected, the methods of a set, what a name is declared
-- with
pub data Told : Type 0 where
  Holds : Reached Bool → Told
  Implementing : Reached Implements → Told
  Selecting : Reached Chosen → Told
  Listing : Reached (List GoMethod) → Told
  Declaring : Declaration → Told

-- the answers to a question over the marks so far
abbrev pub says : {I M : Type 0} → Declarations → (TypeName → Option I) → (M → Option Declaration) → (I → Option M) → Question → Told → Type 0
says base under reads so_far (AssignableTo q) told = (x : Reached Bool) × (told ≡ Holds x) × says_over base under reads EnoughToAssign NeedsToAssign SaysAssignable so_far q x
says base under reads so_far (ConvertibleTo q) told = (x : Reached Bool) × (told ≡ Holds x) × says_over base under reads EnoughToConvert NeedsToConvert SaysConvertible so_far q x
says base under reads so_far (IsComparable of) told = (x : Reached Bool) × (told ≡ Holds x) × says_over base under reads EnoughToCompare NeedsToCompare SaysComparable so_far of x
says base under reads so_far (MissingMethod q) told = (x : Reached Implements) × (told ≡ Implementing x) × says_over base under reads EnoughToImplement NeedsToImplement SaysImplements so_far q x
says base under reads so_far (FieldOrMethod q) told = (x : Reached Chosen) × (told ≡ Selecting x) × says_over base under reads EnoughToSelect NeedsToSelect SaysSelected so_far q x
says base under reads so_far (MethodSet of) told = (x : Reached (List GoMethod)) × (told ≡ Listing x) × says_over base under reads EnoughToList NeedsToList SaysMethods so_far of x
says base under reads so_far (DeclaredAs name) told = (d : Declaration) × (told ≡ Declaring d) × (declared base under reads so_far name ≡ Some d)

-- The items for which a question waits. What a name is declared with that isn't declared from the start may be told by whatever isn't marked.
abbrev pub pends : {I M : Type 0} → Declarations → (TypeName → Option I) → (M → Option Declaration) → (I → Option M) → Question → I → Type 0
pends base under reads so_far (AssignableTo q) item = pends_over base under reads NeedsToAssign so_far q item
pends base under reads so_far (ConvertibleTo q) item = pends_over base under reads NeedsToConvert so_far q item
pends base under reads so_far (IsComparable of) item = pends_over base under reads NeedsToCompare so_far of item
pends base under reads so_far (MissingMethod q) item = pends_over base under reads NeedsToImplement so_far q item
pends base under reads so_far (FieldOrMethod q) item = pends_over base under reads NeedsToSelect so_far q item
pends base under reads so_far (MethodSet of) item = pends_over base under reads NeedsToList so_far of item
pends base under reads so_far (DeclaredAs name) item = (base name ≡ None) × (so_far item ≡ None)

-- What a judge comes to that asks: an answer that the question has over the marks so far, or an item for which it waits. `into` says which
-- answer is told.
abbrev pub IsFound : {I M A : Type 0} → Declarations → (TypeName → Option I) → (M → Option Declaration) → (I → Option M) → Question → (Reached A → Told) → Found (Reached A) I → Type 0
IsFound base under reads so_far q into found = OnFound found (λ reached. says base under reads so_far q (into reached)) (λ item. pends base under reads so_far q item)
