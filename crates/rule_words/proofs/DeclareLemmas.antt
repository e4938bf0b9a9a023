-- A type is declared as its item is marked.
use Rattle.std.proofs.Common.{◌≡◌, List, length, Option, Some, None, refl, sym, ap, ◌∙◌, subst}
use Rattle.std.specs.Option.{option_or, option_map_or}
use Rattle.std.specs.Global.{Vec}
use Rattle.mark_walk.specs.Asks.{Adds}
use Rattle.type_model.specs.declared.term.Method.{Method}
use Rattle.type_model.specs.declared.term.TypeId.{TypeId}
use Rattle.type_model.specs.declared.term.TypeName.{TypeName}
use Rattle.type_model.specs.Declarations.{Declaration, Meets}
use Rattle.type_model.specs.GoTypes.{GoType, DefinedType, is_defined}
use Rattle.type_model.specs.Tables.{terms_in, declarations_in, Declares}
use Rattle.type_questions.specs.Judging.{IsItemOf}
use Rattle.type_questions.proofs.StepLaws.{declares_stay}
use Rattle.rel_growth.specs.Compare.{EnoughToCompare}
use Rattle.typed_marks.specs.declared.item.Block.{Block}
use Rattle.typed_marks.specs.declared.item.Item.{Item}
use Rattle.typed_marks.specs.declared.state.State.{State}
use Rattle.typed_marks.specs.Meanings.{Meaning, Declares as TypeDeclares}
use Rattle.typed_marks.specs.States.{so_far, IsState}
use Rattle.unit_read.specs.declared.subject.Subject.{Subject}
use Rattle.unit_read.specs.Units.{Unit, base_of}
use Rattle.unit_read.specs.Subjects.{full_of, unit_of}
use Rattle.rule_words.specs.Asking.{type_item, declaration_told}
use Rattle.rule_words.specs.Declaring.{declaration_in, IsDeclaration}
use Rattle.rule_words.specs.Scenes.{IsScene, type_in}
use Rattle.typed_tree.proofs.BasicLaws.{grown_basics}
use Rattle.rule_words.proofs.SceneLemmas.{extends_then}

pub one_name : (t : GoType) (a b : TypeName) → t ≡ DefinedType a → t ≡ DefinedType b → a ≡ b
one_name t a b one other = cc

-- a name whose item has no mark isn't declared
pub undeclared : (u : Subject) (s : State) (i : Item) (name : TypeName) → IsScene u s → so_far s i ≡ None → type_item (unit_of u) name ≡ Some i → base_of (full_of u) name ≡ None
    → declarations_in s.table name ≡ None
undeclared u s i name scene none own base =
    scene.step name ∙ (ap (λ (o : Option Declaration). option_or o (option_map_or declaration_told (option_map_or (so_far s) (type_item (unit_of u) name) None) None)) base
    ∙ (ap (λ (o : Option Item). option_map_or declaration_told (option_map_or (so_far s) o None) None) own
    ∙ ap (λ (o : Option Meaning). option_map_or declaration_told o None) none))

pub apart : (s : State) (name : TypeName) (of : GoType) → EnoughToCompare (declarations_in s.table) of → declarations_in s.table name ≡ None → Meets (declarations_in s.table) name of → ⊥
apart s name of enough none meets = let is = enough name meets in never is.0 (sym none ∙ is.1) where
  never : (d : Declaration) → None ≡ Some d → ⊥
  never d e = absurd cc

pub declared_scene : (u : Subject) (s next : State) (i : Item) (of under : TypeId) (methods : List Method) (name : TypeName) → IsScene u s → so_far s i ≡ None
    → IsItemOf (type_item (unit_of u)) name i → base_of (full_of u) name ≡ None → IsState next → Adds (so_far s) (so_far next) i (TypeDeclares (declaration_in s under methods))
    → Declares s.table next.table name under methods → next.blocks ≡ s.blocks → IsScene u next
declared_scene u s next i of under methods name scene none own base state adds declares blocks = record {
  read = scene.read;
  state = state;
  blocks = ap (λ (bs : Vec Block). length bs.items) blocks ∙ scene.blocks;
  basics = grown_basics s.table next.table scene.basics declares.table declares.extends;
  env = extends_then u.env.now.types.now (terms_in s.table) (terms_in next.table) scene.env declares.extends;
  step = λ other. declares_stay (base_of (full_of u)) (type_item (unit_of u)) declaration_told s.table next.table (so_far s) (so_far next) i
      (TypeDeclares (declaration_in s under methods)) name under methods scene.step adds own refl (undeclared u s i name scene none own.here base) declares other;
}
