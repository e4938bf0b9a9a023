-- Rules that go on with methods.
use Rattle.std.proofs.Common.{◌≡◌, Option, true, refl, sym, ap}
use Rattle.std.specs.Global.{Vec}
use Rattle.gv_base.specs.declared.constant.Const.{Const}
use Rattle.mark_walk.specs.Telling.{Outcome, Puts, tell}
use Rattle.type_model.specs.declared.term.Method.{Method}
use Rattle.type_model.specs.declared.term.TypeId.{TypeId}
use Rattle.type_model.specs.GoTypes.{GoType, GoMethods}
use Rattle.type_model.specs.Tables.{types_in}
use Rattle.method_sets.specs.Replies.{listed_in}
use Rattle.rel_growth.specs.Assign.{ToAssign}
use Rattle.type_questions.specs.declared.reached.Reached.{Reached}
use Rattle.type_questions.specs.declared.reached.Reached.TheVariants.{Got, Lost}
use Rattle.type_questions.specs.Questions.{AssignableTo, Listing}
use Rattle.type_questions.specs.Judging.{seen_as}
use Rattle.typed_marks.specs.declared.mark.ConstId.{ConstId}
use Rattle.typed_marks.specs.declared.state.State.{State}
use Rattle.typed_marks.specs.Meanings.{constant_at}
use Rattle.rule_words.specs.declared.step.Rest.{Rest}
use Rattle.rule_words.specs.Putting.{methods_from, assigned_with}
use Rattle.rule_words.specs.Scenes.{sight, type_in, IsTypeOf}
use Rattle.rule_words.specs.Steps.{step_in, rest_in, IsRestOf, IsStepOf}
use Rattle.type_answers.proofs.AnswerLemmas.{methods_same}
use Rattle.elaborate.specs.declared.questions.Answered.TheVariants as answered
use Rattle.elaborate.specs.Settling.{by_methods, IsToldOf}

abbrev assign_with : GoType → Option Const → GoMethods → GoType → ToAssign
assign_with of value set to = record { v = of; value = value; set = set; to = to }

-- what is put with an operand's methods is what the rule puts
pub told_by_methods : (s : State) (methods : Reached (Vec Method)) (of : TypeId) (value : Option ConstId) (to : TypeId) (rest : Rest)
    → step_in s (by_methods methods of value to rest)
    ≡ tell (sight s) (assigned_with (type_in s of) (constant_at s.constants.items value) (type_in s to) (rest_in s rest) (Listing (seen_as (λ (v : Vec Method). listed_in s.table v.items) methods)))
told_by_methods s (Got v) of value to rest =
    ap (λ set. Puts (AssignableTo (assign_with (type_in s of) (constant_at s.constants.items value) set (type_in s to))) (rest_in s rest)) (sym (methods_same (types_in s.table) v.items))
told_by_methods s Lost of value to rest = refl

pub by_methods_over : (s : State) (methods : Reached (Vec Method)) (of : TypeId) (value : Option ConstId) (to : TypeId) (rest : Rest)
    → IsTypeOf s of → IsTypeOf s to → IsToldOf s (answered.Methods methods) → IsRestOf s rest → IsStepOf s (by_methods methods of value to rest)
by_methods_over s (Got v) of value to rest one other below over = ((one, below, other), over)
by_methods_over s Lost of value to rest one other below over = (tt, refl)
