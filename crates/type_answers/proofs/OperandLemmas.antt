-- An operand that is made for a question.
use Rattle.std.proofs.Common.{◌≡◌, List, Option, subst}
use Rattle.gv_base.specs.declared.constant.Const.{Const}
use Rattle.type_model.specs.declared.term.TypeId.{TypeId}
use Rattle.type_model.specs.declared.term.Method.{Method}
use Rattle.type_model.specs.GoTypes.{methods_of}
use Rattle.type_model.specs.Tables.{types_in}
use Rattle.type_questions.specs.Questions.{Question}
use Rattle.typed_marks.specs.declared.mark.ConstId.{ConstId}
use Rattle.typed_marks.specs.declared.state.State.{State}
use Rattle.typed_marks.specs.Meanings.{constant_at}
use Rattle.rule_words.specs.Scenes.{type_in}
use Rattle.type_answers.specs.declared.relations.Relation.{Relation}
use Rattle.type_answers.specs.Answering.{relate_by}
use Rattle.type_answers.specs.Asked.{relating}

-- the question about an operand of this type with this value
abbrev pub operand_question : State → Relation → TypeId → Option Const → List Method → TypeId → Question
operand_question s relation of value methods to = relating relation (type_in s of) value (type_in s to) (methods_of (types_in s.table) methods)

-- what is said of the operand's question is said of the rule's
pub of_operand : (s : State) (relation : Relation) (methods : List Method) (to of other : TypeId) (value : Option Const) (id : Option ConstId) (Says : Question → Type 0)
    → of ≡ other → value ≡ constant_at s.constants.items id → Says (operand_question s relation of value methods to) → Says (relate_by s relation other id methods to)
of_operand s relation methods to of other value id Says same is says =
    subst (λ (v : Option Const). Says (operand_question s relation other v methods to)) is
    (subst (λ (o : TypeId). Says (operand_question s relation o value methods to)) same says)
