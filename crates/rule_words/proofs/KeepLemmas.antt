-- A scene in which more is marked, or more types and constants stand.
use Rattle.std.proofs.Common.{◌≡◌, ℕ, ◌<◌, ◌≤◌, List, ◌++◌, ◌∷◌, [], length, slice_get, Option, Some, None, Bool, true, false, if◌then◌else◌, refl, sym, ap, ◌∙◌, subst, arith, inl, inr}
use Rattle.std.proofs.lemmas.Bool.{le-leb, lt-leb}
use Rattle.gv_base.specs.declared.constant.Const.{Const}
use Rattle.std.specs.Global.{Vec}
use Rattle.mark_walk.specs.Asks.{Adds, Stays}
use Rattle.type_model.specs.declared.term.TypeName.{TypeName}
use Rattle.type_model.specs.declared.term.TypeId.{TypeId}
use Rattle.type_model.specs.declared.term.Term.{Term}
use Rattle.type_model.specs.declared.table.TypeTable.{TypeTable}
use Rattle.type_model.specs.declared.table.Added.{Added}
use Rattle.type_model.specs.declared.table.Added.TheVariants.{Id, TooWide}
use Rattle.type_model.specs.GoTypes.{GoType, BasicType, DefinedType, type_number, type_at, type_of, nodes}
use Rattle.type_model.specs.Tables.{types_in, terms_in, count, IsTable, declarations_in, IsAdded, Extends}
use Rattle.typed_tree.specs.declared.mark.Mode.{Mode}
use Rattle.typed_tree.specs.declared.mark.Mode.TheVariants.{Constant}
use Rattle.typed_tree.specs.Basics.{HasBasics}
use Rattle.typed_tree.proofs.BasicLaws.{grown_basics}
use Rattle.typed_tree.specs.Universe.{error_name}
use Rattle.typed_marks.specs.declared.item.Block.{Block}
use Rattle.typed_marks.specs.declared.item.Item.{Item}
use Rattle.typed_marks.specs.declared.mark.ConstId.{ConstId}
use Rattle.typed_marks.specs.declared.mark.Mark.{Mark}
use Rattle.typed_marks.specs.declared.mark.Mark.TheVariants as m
use Rattle.typed_marks.specs.declared.state.State.{State}
use Rattle.typed_marks.specs.Meanings.{Meaning, Known, Right, Beyond, mark_in, mark_over}
use Rattle.typed_marks.specs.States.{IsState, so_far, HasGrown}
use Rattle.unit_read.specs.declared.subject.Subject.{Subject}
use Rattle.unit_read.specs.Subjects.{full_of, unit_of}
use Rattle.unit_read.specs.Units.{base_of}
use Rattle.rule_words.specs.Asking.{declaration_told}
use Rattle.rule_words.specs.Scenes.{IsScene, said, type_in}
use Rattle.typed_tree.specs.declared.rule.Limit.TheVariants.{WideType}
use Rattle.rule_words.specs.Answers.{is_plain, constant, typed, mark_of}
use Rattle.rule_words.proofs.SceneLemmas.{stays_declared, adds_declared, extends_then}

-- a plain mark declares nothing
plain_told : (s : State) (mark : Mark) → is_plain mark ≡ true → declaration_told (said s mark) ≡ None
plain_told s (m.Good facts) e = refl
plain_told s (m.Bad rule) e = refl
plain_told s (m.Outside limit) e = refl
plain_told s m.Silent e = refl
plain_told s (m.Wants demand want) e = refl
plain_told s (m.Declared of) e = absurd cc

pub kept_scene : (u : Subject) (s next : State) (i : Item) (mark : Mark) → IsScene u s → so_far s i ≡ None → is_plain mark ≡ true
    → IsState next → next.table ≡ s.table → next.blocks ≡ s.blocks → Adds (so_far s) (so_far next) i (said s mark) → IsScene u next
kept_scene u s next i mark scene none plain state table blocks adds = record {
  read = scene.read;
  state = state;
  blocks = ap (λ (bs : Vec Block). length bs.items) blocks ∙ scene.blocks;
  basics = subst HasBasics (sym table) scene.basics;
  env = subst (λ (t : TypeTable). Extends u.env.now.types.now (terms_in t)) (sym table) scene.env;
  step = λ name. ap (λ (t : TypeTable). declarations_in t name) table ∙ scene.step name
      ∙ sym (adds_declared (base_of (full_of u)) (unit_of u) (so_far s) (so_far next) i (said s mark) none (plain_told s mark plain) adds name);
}

pub grown_scene : (u : Subject) (s next : State) → IsScene u s → HasGrown s next → IsScene u next
grown_scene u s next scene grown = record {
  read = scene.read;
  state = grown.state;
  blocks = ap (λ (bs : Vec Block). length bs.items) grown.blocks ∙ scene.blocks;
  basics = grown_basics s.table next.table scene.basics grown.state.table grown.extends;
  env = extends_then u.env.now.types.now (terms_in s.table) (terms_in next.table) scene.env grown.extends;
  step = λ name. grown.declarations name ∙ scene.step name ∙ sym (stays_declared (base_of (full_of u)) (unit_of u) (so_far s) (so_far next) grown.stays name);
}

-- ---- marks that stay, then one more

none_stays : (a b : Item → Option Meaning) (i : Item) → Stays a b → a i ≡ None → b i ≡ None
none_stays a b i s none = by (b i) refl where
  by : (o : Option Meaning) → b i ≡ o → b i ≡ None
  by None e = e
  by (Some x) e = absurd (let was : a i ≡ Some x = s.only i x e in cc)

pub still_unmarked : (s next : State) (i : Item) → HasGrown s next → so_far s i ≡ None → so_far next i ≡ None
still_unmarked s next i grown none = none_stays (so_far s) (so_far next) i grown.stays none

pub stays_adds : (a b c : Item → Option Meaning) (i : Item) (x y : Meaning) → x ≡ y → Stays a b → Adds b c i x → Adds a c i y
stays_adds a b c i x y e s adds = record {
  new = adds.new ∙ ap Some e;
  stays = λ j n was. adds.stays j n (s.stays j n was);
  only = λ j n now. elim (adds.only j n now) [
    | inl here ↦ inl here
    | inr was ↦ inr (s.only j n was)
  ];
}

-- ---- a constant that was added

abbrev known_of : Mode → GoType → Option Const → GoType → Known
known_of mode of value last = record { mode = mode; of = of; value = value; last = last }

at_last : {X : Type 0} (xs : List X) (x : X) → slice_get (xs ++ x ∷ []) (length xs) ≡ Some x
at_last [] x = refl
at_last (y ∷ xs) x = at_last xs x

pub added_constant : (s next : State) (of last : TypeId) (id : ConstId) (value : Const) → next.table ≡ s.table → id.0 ≡ length s.constants.items
    → next.constants.items ≡ s.constants.items ++ value ∷ []
    → said next (m.Good (record { mode = Constant; of = of; value = Some id; last = last })) ≡ constant (type_in s of) (type_in s last) value
added_constant s next of last id value table is constants =
    let got : slice_get next.constants.items id.0 ≡ Some value = ap (λ l. slice_get l id.0) constants ∙ ap (λ n. slice_get (s.constants.items ++ value ∷ []) n) is ∙ at_last s.constants.items value in
    ap (λ (t : TypeTable). Right (known_of Constant (type_at (types_in t) of) (slice_get next.constants.items id.0) (type_at (types_in t) last))) table
    ∙ ap (λ o. Right (known_of Constant (type_in s of) o (type_in s last))) got

-- ---- a type that was added

pub added_typed : (s next : State) (mode : Mode) (added : Added) (term : Term) → IsAdded s.table next.table term added → said next (mark_of mode added) ≡ typed mode (type_of (types_in s.table) term)
added_typed s next mode (Id id) term (low, is, few) =
    let T : GoType = type_of (types_in s.table) term in
    ap (λ (t : GoType). Right (known_of mode t None t)) is
    ∙ sym (ap (λ (b : Bool). if b then Right (known_of mode T None T) else Beyond WideType) (le-leb (nodes T) 10000 few))
added_typed s next mode TooWide term (many, same) =
    let T : GoType = type_of (types_in s.table) term in
    sym (ap (λ (b : Bool). if b then Right (known_of mode T None T) else Beyond WideType) (lt-leb (nodes T) 10000 many))
