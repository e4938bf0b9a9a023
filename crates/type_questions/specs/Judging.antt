-- What a judge rests on and comes to, where it asks a table about types.
use Rattle.std.specs.Prelude.{◌≡◌, ◌<◌, Option, Some, None}
use Rattle.type_model.specs.declared.term.TypeId.{TypeId}
use Rattle.type_model.specs.declared.term.TypeName.{TypeName}
use Rattle.type_model.specs.declared.table.TypeTable.{TypeTable}
use Rattle.std.specs.Global.{Vec}
use Rattle.type_model.specs.declared.term.Method.{Method}
use Rattle.type_model.specs.GoTypes.{DefinedType, type_at, MethodsBelow}
use Rattle.type_model.specs.Declarations.{Declaration, Declarations}
use Rattle.type_model.specs.Tables.{types_in, count, declarations_in}
use Rattle.type_growth.specs.Growth.{Grows}
use Rattle.type_growth.specs.declared.reply.Reply.{Reply}
use Rattle.type_growth.specs.declared.reply.Reply.TheVariants as reply
use Rattle.type_questions.specs.declared.reached.Reached.{Reached}
use Rattle.type_questions.specs.declared.reached.Reached.TheVariants.{Got, Lost}
use Rattle.type_questions.specs.declared.reached.Found.{Found}
use Rattle.type_questions.specs.declared.reached.Found.TheVariants.{Is, Wait}
use Rattle.type_questions.specs.Over.{declared, IsOfNothing, IsPending}

-- What the table declares is declared, and a name of its types that it doesn't declare isn't. It need not hold the other names.
pub record IsInStep {I M : Type 0} (t : TypeTable) (base : Declarations) (under : TypeName → Option I) (reads : M → Option Declaration) (so_far : I → Option M) : Type 0 where
  pub grows : Grows (declarations_in t) (declared base under reads so_far)
  pub told : (id : TypeId) (name : TypeName) → id.0 < count t → type_at (types_in t) id ≡ DefinedType name → declarations_in t name ≡ None
      → declared base under reads so_far name ≡ None

-- the type that is named in a reply is one of the table
abbrev pub IsOfTable : {A : Type 0} → TypeTable → Reply A → Type 0
IsOfTable t (reply.Is a) = Unit {0}
IsOfTable t (reply.Waits id) = id.0 < count t

-- nothing declares the name of this type, where it is a defined type that isn't declared
abbrev pub RestsOnNothing : {I M : Type 0} → TypeTable → Declarations → (TypeName → Option I) → (M → Option Declaration) → (I → Option M) → TypeId → Type 0
RestsOnNothing t base under reads so_far id =
    (name : TypeName) → type_at (types_in t) id ≡ DefinedType name → declared base under reads so_far name ≡ None → IsOfNothing under reads so_far name

-- the name of this type waits for the item, where it is a defined type that isn't declared
abbrev pub RestsOn : {I M : Type 0} → TypeTable → Declarations → (TypeName → Option I) → (M → Option Declaration) → (I → Option M) → TypeId → I → Type 0
RestsOn t base under reads so_far id item =
    (name : TypeName) → type_at (types_in t) id ≡ DefinedType name → declared base under reads so_far name ≡ None → IsPending under so_far name item

-- what becomes of a call's reply: its answer, or the item of the name for which it waits, or, where nothing declares that, no answer
abbrev pub IsFoundBy : {I M A : Type 0} → TypeTable → Declarations → (TypeName → Option I) → (M → Option Declaration) → (I → Option M) → Reply A → Found (Reached A) I → Type 0
IsFoundBy t base under reads so_far (reply.Is a) (Is (Got b)) = a ≡ b
IsFoundBy t base under reads so_far (reply.Is a) (Is Lost) = ⊥
IsFoundBy t base under reads so_far (reply.Is a) (Wait item) = ⊥
IsFoundBy t base under reads so_far (reply.Waits id) (Is (Got b)) = ⊥
IsFoundBy t base under reads so_far (reply.Waits id) (Is Lost) = RestsOnNothing t base under reads so_far id
IsFoundBy t base under reads so_far (reply.Waits id) (Wait item) = RestsOn t base under reads so_far id item

-- what an answer over a table stands for
abbrev pub seen_as : {A B : Type 0} → (A → B) → Reached A → Reached B
seen_as view (Got a) = Got (view a)
seen_as view Lost = Lost

-- ---- keeping a table in step

-- the table declares all that is declared, and nothing else
abbrev pub DeclaresAll : {I M : Type 0} → TypeTable → Declarations → (TypeName → Option I) → (M → Option Declaration) → (I → Option M) → Type 0
DeclaresAll t base under reads so_far = (name : TypeName) → declarations_in t name ≡ declared base under reads so_far name

-- the item declares this name, and no other
pub record IsItemOf {I : Type 0} (under : TypeName → Option I) (name : TypeName) (item : I) : Type 0 where
  pub here : under name ≡ Some item
  pub alone : (other : TypeName) → under other ≡ Some item → other ≡ name

-- methods that are answered are over the table
abbrev pub AreMethodsBelow : {I : Type 0} → TypeTable → Found (Reached (Vec Method)) I → Type 0
AreMethodsBelow t (Is (Got methods)) = MethodsBelow (count t) methods.items
AreMethodsBelow t (Is Lost) = Unit {0}
AreMethodsBelow t (Wait item) = Unit {0}
