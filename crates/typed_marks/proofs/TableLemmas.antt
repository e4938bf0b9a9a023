-- Marks over tables that grow say what they said.
use Rattle.std.proofs.Common.{◌≡◌, Bool, true, false, if◌then◌else◌, ℕ, ◌<◌, ◌≤◌, List, [], ◌∷◌, ◌++◌, length, slice_get, Option, Some, None, option_map, option_and_then, refl, sym, ap, ◌∙◌, subst, inl, inr, arith}
use Rattle.gv_base.specs.declared.constant.Const.{Const}
use Rattle.gv_base.proofs.Lists.{get_left, got}
use Rattle.mark_walk.specs.Asks.{Stays, Adds}
use Rattle.type_model.specs.declared.term.Method.{Method}
use Rattle.type_model.proofs.DeclarationLaws.{name_or_other}
use Rattle.type_model.specs.declared.term.TypeId.{TypeId}
use Rattle.type_model.specs.declared.term.TypeName.{TypeName}
use Rattle.type_model.specs.declared.table.TypeTable.{TypeTable}
use Rattle.type_model.specs.GoTypes.{GoType, DefinedType, type_at}
use Rattle.type_model.specs.Declarations.{Declaration, Declarations}
use Rattle.type_model.specs.Tables.{types_in, count, terms_in, declarations_in, Extends, Grown, Declares}
use Rattle.type_model.proofs.TypeLaws.{extends-more, extends-itself}
use Rattle.typed_tree.specs.declared.mark.Mode.{Mode}
use Rattle.typed_marks.specs.declared.item.Item.{Item}
use Rattle.typed_marks.specs.declared.item.Block.{Block}
use Rattle.typed_marks.specs.declared.mark.ConstId.{ConstId}
use Rattle.typed_marks.specs.declared.mark.Facts.{Facts}
use Rattle.typed_marks.specs.declared.mark.Want.{Want}
use Rattle.typed_marks.specs.declared.mark.Want.TheVariants as w
use Rattle.typed_marks.specs.declared.mark.Mark.{Mark}
use Rattle.typed_marks.specs.declared.mark.Mark.TheVariants as m
use Rattle.typed_marks.specs.Items.{is_item, is_nowhere, number_of}
use Rattle.typed_marks.specs.Meanings.{Meaning, Known, Right, Wishes, Takes, Fits, Assigned, constant_at, known_in, wish_in, declaration_of, declared, mark_in, AreWithin, IsValueWithin, IsWantWithin, IsDeclared, IsMarkIn}
use Rattle.typed_marks.specs.Cells.{cell}
use Rattle.typed_marks.specs.States.{kept, left_out, said_over}

-- what is declared is declared so
abbrev pub Grows : Declarations → Declarations → Type 0
Grows ds more = (name : TypeName) (d : Declaration) → ds name ≡ Some d → more name ≡ Some d

-- the tables have more, and what stood in them stands
pub record HasMore (old new : TypeTable) (constants more : List Const) : Type 0 where
  pub extends : Extends (terms_in old) (terms_in new)
  pub grows : Grows (declarations_in old) (declarations_in new)
  pub values : (rest : List Const) × (more ≡ constants ++ rest)

abbrev known_of : Mode → GoType → Option Const → GoType → Known
known_of mode of value last = record { mode = mode; of = of; value = value; last = last }

module _ (old new : TypeTable) (constants more : List Const) (has : HasMore old new constants more) where
  type_same : (id : TypeId) → id.0 < count old → type_at (types_in new) id ≡ type_at (types_in old) id
  type_same id low = (has.extends id.0 low).1

  type_low : (id : TypeId) → id.0 < count old → id.0 < count new
  type_low id low = (has.extends id.0 low).0

  value_same : (o : Option ConstId) → IsValueWithin (length constants) o → constant_at more o ≡ constant_at constants o
  value_same None is = refl
  value_same (Some id) low =
      let (c, at) = got constants id.0 low in
      ap (λ (xs : List Const). slice_get xs id.0) has.values.1 ∙ get_left constants has.values.0 id.0 c at ∙ sym at

  fewer : length constants ≤ length more
  fewer = by constants has.values.0 more has.values.1 where
    front : (xs ys : List Const) → length xs ≤ length (xs ++ ys)
    front [] ys = omega arith
    front (x ∷ xs) ys = let rest = front xs ys in omega arith

    by : (xs ys zs : List Const) → zs ≡ xs ++ ys → length xs ≤ length zs
    by xs ys zs e = subst (λ (l : List Const). length xs ≤ length l) (sym e) (front xs ys)

  value_low : (o : Option ConstId) → IsValueWithin (length constants) o → IsValueWithin (length more) o
  value_low None is = tt
  value_low (Some id) low = let few = fewer in omega arith

  wish_same : (want : Want) → IsWantWithin (count old) want → wish_in (types_in new) want ≡ wish_in (types_in old) want
  wish_same w.Free is = refl
  wish_same (w.Takes of) low = ap Takes (type_same of low)
  wish_same (w.Fits of) low = ap Fits (type_same of low)
  wish_same (w.Assigned of) low = ap Assigned (type_same of low)

  want_low : (want : Want) → IsWantWithin (count old) want → IsWantWithin (count new) want
  want_low w.Free is = tt
  want_low (w.Takes of) low = type_low of low
  want_low (w.Fits of) low = type_low of low
  want_low (w.Assigned of) low = type_low of low

  declaration_at : (of : TypeId) → IsDeclared (types_in old) (declarations_in old) (count old) of
      → (d : Declaration) × (declaration_of (declarations_in old) (type_at (types_in old) of) ≡ Some d) × (declaration_of (declarations_in new) (type_at (types_in new) of) ≡ Some d)
  declaration_at of (low, (name, d, is, at)) =
      (d, ap (declaration_of (declarations_in old)) is ∙ at, ap (declaration_of (declarations_in new)) (type_same of low ∙ is) ∙ has.grows name d at)

  -- a mark that stands in the tables says the same
  pub mark_same : (mark : Mark) → IsMarkIn old constants mark → mark_in new more mark ≡ mark_in old constants mark
  mark_same (m.Good f) is =
      ap (λ x. Right (known_of f.mode x (constant_at more f.value) (type_at (types_in new) f.last))) (type_same f.of is.of)
      ∙ ap (λ x. Right (known_of f.mode (type_at (types_in old) f.of) x (type_at (types_in new) f.last))) (value_same f.value is.value)
      ∙ ap (λ x. Right (known_of f.mode (type_at (types_in old) f.of) (constant_at constants f.value) x)) (type_same f.last is.last)
  mark_same (m.Bad rule) is = refl
  mark_same (m.Outside limit) is = refl
  mark_same m.Silent is = refl
  mark_same (m.Wants demand want) is = ap (λ w. Wishes demand w) (wish_same want is)
  mark_same (m.Declared of) is = let (d, was, now) = declaration_at of is in ap declared (now ∙ sym was)

  pub mark_still : (mark : Mark) → IsMarkIn old constants mark → IsMarkIn new more mark
  mark_still (m.Good f) is = record { of = type_low f.of is.of; value = value_low f.value is.value; last = type_low f.last is.last }
  mark_still (m.Bad rule) is = tt
  mark_still (m.Outside limit) is = tt
  mark_still m.Silent is = tt
  mark_still (m.Wants demand want) is = want_low want is
  mark_still (m.Declared of) (low, (name, d, is, at)) = (type_low of low, (name, d, type_same of low ∙ is, has.grows name d at))

  module _ (blocks : List Block) (cells : List (Option Mark)) (over : (n : ℕ) (mark : Mark) → cell cells n ≡ Some mark → IsMarkIn old constants mark) where
    said : (o : Option Mark) → ((mark : Mark) → o ≡ Some mark → IsMarkIn old constants mark) → option_map (mark_in new more) o ≡ option_map (mark_in old constants) o
    said None is = refl
    said (Some mark) is = ap Some (mark_same mark (is mark refl))

    kept_over : (i : Item) (mark : Mark) → kept blocks cells i ≡ Some mark → IsMarkIn old constants mark
    kept_over i mark e = by (is_item_of i) refl e where
      is_item_of : Item → Bool
      is_item_of i = is_item blocks i

      out : (b : Bool) → (if b then None else Some m.Silent) ≡ Some mark → IsMarkIn old constants mark
      out true e = absurd cc
      out false e = let same : m.Silent ≡ mark = cc in subst (IsMarkIn old constants) same tt

      by : (b : Bool) → is_item_of i ≡ b → (if b then cell cells (number_of blocks i) else left_out blocks i) ≡ Some mark → IsMarkIn old constants mark
      by true at e = over (number_of blocks i) mark e
      by false at e = out (is_nowhere blocks i) e

    pub said_same : (i : Item) → said_over new more blocks cells i ≡ said_over old constants blocks cells i
    said_same i = said (kept blocks cells i) (kept_over i)

    pub stays : Stays (said_over old constants blocks cells) (said_over new more blocks cells)
    stays = record { stays = λ j x e. said_same j ∙ e; only = λ j x e. sym (said_same j) ∙ e }

-- ---- tables that have more

pub nothing_more : {X : Type 0} (xs : List X) → xs ≡ xs ++ []
nothing_more [] = refl
nothing_more (x ∷ xs) = ap (λ l. x ∷ l) (nothing_more xs)

pub grown_more : (old new : TypeTable) (constants : List Const) → Grown old new → HasMore old new constants constants
grown_more old new constants grown = record { extends = grown.extends; grows = λ name d e. grown.declarations name ∙ e; values = ([], nothing_more constants) }

pub constants_are : (t : TypeTable) (constants more : List Const) (c : Const) → more ≡ constants ++ c ∷ [] → HasMore t t constants more
constants_are t constants more c is = record { extends = extends-itself (terms_in t); grows = λ name d e. e; values = (c ∷ [], is) }

pub declares_more : (old new : TypeTable) (constants : List Const) (name : TypeName) (under : TypeId) (methods : List Method) → Declares old new name under methods
    → declarations_in old name ≡ None → HasMore old new constants constants
declares_more old new constants name under methods is fresh = record { extends = is.extends; grows = grows; values = ([], nothing_more constants) } where
  grows : Grows (declarations_in old) (declarations_in new)
  grows other d e = elim (name_or_other name (DefinedType other)) [
    | inl same ↦ absurd (let was : declarations_in old other ≡ declarations_in old name = ap (declaration_of (declarations_in old)) same in cc)
    | inr apart ↦ is.others other (λ same. apart (ap DefinedType same)) ∙ e
  ]

-- ---- marks that stay, then one more

pub none_stays : {I M : Type 0} (a b : I → Option M) (i : I) → Stays a b → a i ≡ None → b i ≡ None
none_stays {I} {M} a b i s none = by (b i) refl where
  by : (o : Option M) → b i ≡ o → b i ≡ None
  by None e = e
  by (Some x) e = absurd (let was : a i ≡ Some x = s.only i x e in cc)

pub stays_adds : {I M : Type 0} (a b c : I → Option M) (i : I) (x y : M) → Stays a b → Adds b c i x → x ≡ y → Adds a c i y
stays_adds a b c i x y s adds same = record {
  new = adds.new ∙ ap Some same;
  stays = λ j n e. adds.stays j n (s.stays j n e);
  only = λ j n e. elim (adds.only j n e) [
    | inl is ↦ inl is
    | inr was ↦ inr (s.only j n was)
  ];
}
