-- How much is declared before it is told which method of an interface a method set lacks (Go 1.17, "Implementing an interface").
use Rattle.std.specs.Prelude.{List}
use Rattle.type_model.specs.declared.term.TypeId.{TypeId}
use Rattle.type_model.specs.declared.term.TypeName.{TypeName}
use Rattle.type_model.specs.declared.term.Method.{Method}
use Rattle.type_model.specs.declared.table.TypeTable.{TypeTable}
use Rattle.type_model.specs.Tables.{types_in}
use Rattle.type_model.specs.GoTypes.{GoType, GoMethods, type_at, methods_of}
use Rattle.type_model.specs.Declarations.{Declarations}
use Rattle.type_rel.specs.declared.answer.Implements.{Implements}
use Rattle.type_rel.specs.Answers.{Answers}
use Rattle.type_growth.specs.Growth.{IsKnown, IsMissing}

-- whether a method set has each method of an interface, and else the first that it lacks
pub record ToImplement : Type 0 where
  pub set : GoMethods
  pub of : GoType

-- the underlying type of the interface is told
abbrev pub EnoughToImplement : Declarations → ToImplement → Type 0
EnoughToImplement ds q = IsKnown ds q.of

abbrev pub NeedsToImplement : Declarations → ToImplement → TypeName → Type 0
NeedsToImplement ds q o = IsMissing ds q.of o

-- the answer of `implements`
abbrev pub SaysImplements : Declarations → ToImplement → Implements → Type 0
SaysImplements ds q x = Answers ds q.set q.of x

-- the question that a call puts
abbrev pub implement_of : TypeTable → List Method → TypeId → ToImplement
implement_of t methods of = record { set = methods_of (types_in t) methods; of = type_at (types_in t) of }
