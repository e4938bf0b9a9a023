-- Calls in code, with types and constants by number.
use Rattle.std.specs.Prelude.{Bool, true, not, length}
use Rattle.type_questions.specs.declared.reached.Found.{Found}
use Rattle.type_questions.specs.declared.reached.Found.TheVariants as f
use Rattle.typed_marks.specs.declared.item.Item.{Item}
use Rattle.typed_marks.specs.declared.state.State.{State}
use Rattle.typed_marks.specs.Meanings.{constant_at, IsValueWithin}
use Rattle.type_model.specs.declared.term.Signature.{Signature}
use Rattle.type_model.specs.GoTypes.{GoSignature, signature_of, SignatureBelow}
use Rattle.type_model.specs.Tables.{types_in, count}
use Rattle.rule_words.specs.Scenes.{type_in, IsTypeOf}
use Rattle.builtin_rules.specs.declared.arguments.Argument.{Argument as InCode}
use Rattle.builtin_rules.specs.Musts.{Argument}

abbrev pub signature_by : State → Signature → GoSignature
signature_by s sig = signature_of (types_in s.table) sig

abbrev pub IsSignatureOf : State → Signature → Type 0
IsSignatureOf s sig = SignatureBelow (count s.table) sig

abbrev pub argument_in : State → InCode → Argument
argument_in s a = record { of = type_in s a.of; value = constant_at s.constants.items a.value; under = type_in s a.under }

pub record IsArgumentOf (s : State) (a : InCode) : Type 0 where
  pub of : IsTypeOf s a.of
  pub value : IsValueWithin (length s.constants.items) a.value
  pub under : IsTypeOf s a.under

-- what is found of a node ends the search for one that isn't quiet
abbrev pub ends : Found Bool Item → Bool
ends (f.Is quiet) = not quiet
ends (f.Wait i) = true
