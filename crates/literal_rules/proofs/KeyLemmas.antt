-- Keys are the same where they are spelled the same.
use Rattle.std.proofs.Common.{◌≡◌, ◌⊎◌, ◌<◌, ℕ, zero, suc, Bool, true, false, ◌&&◌, ◌||◌, nat_eq, if◌then◌else◌, List, [], ◌∷◌, Option, Some, None, option_map, option_and_then, refl, sym, ap, ◌∙◌, subst, ℤ, pos, negsuc}
use Rattle.std.specs.Bool.{Decides, one_answer}
use Rattle.std.specs.Option.{option_map_or}
use Rattle.std.specs.Ordering.{int_eq}
use Rattle.std.specs.Str.{bytes_eq}
use Rattle.std.specs.Global.{Vec}
use Rattle.std.proofs.lemmas.Bool.Decides.{Decides-int_eq}
use Rattle.std.proofs.lemmas.Slice.Eq.{bytes_eq-Decides}
use Rattle.gv_base.specs.declared.constant.Const.{Const}
use Rattle.gv_base.specs.declared.constant.Const.TheVariants as const
use Rattle.type_model.specs.declared.term.TypeId.{TypeId}
use Rattle.type_model.specs.Declarations.{Declaration}
use Rattle.type_model.specs.GoTypes.{type_at}
use Rattle.type_model.specs.Tables.{IsTable, types_in, declarations_in}
use Rattle.type_model.proofs.StateLaws.{same_number}
use Rattle.same_types.specs.Same.{same_type}
use Rattle.same_types.proofs.SameLemmas.{same_as}
use Rattle.typed_marks.specs.declared.mark.Facts.{Facts}
use Rattle.typed_marks.specs.declared.mark.Mark.{Mark}
use Rattle.typed_marks.specs.declared.mark.Mark.TheVariants as m
use Rattle.typed_marks.specs.declared.state.State.{State}
use Rattle.typed_marks.specs.Meanings.{Meaning, constant_at, declared, declaration_of}
use Rattle.rule_words.specs.Scenes.{said, IsMarkOf, type_in, IsTypeOf}
use Rattle.literal_rules.specs.Again.{has_again}
use Rattle.literal_rules.specs.Items.{key_of}
use Rattle.literal_rules.specs.Maps.{Key, same_value, same_key, constant_of, constant_key}
use Rattle.rule_words.specs.Good.{known_told}
use Rattle.rule_words.specs.Again.{is_again, is_at, is_before, nth_of}
use Rattle.rule_words.specs.Met.{spelled_int}
use Rattle.literal_rules.specs.Sets.{spelled_const, spelled, spelled_facts, spelled_mark, spelled_key}
use Rattle.literal_rules.specs.InCode.{keys_in, AreKeysOf}
use Rattle.literal_rules.proofs.ItemLemmas.{nth_said, mark_among}

-- ---- values

int_back : (a b : ℤ) → spelled_int a ≡ spelled_int b → a ≡ b
int_back (pos n) (pos k) e = let same : n ≡ k = cc in ap pos same
int_back (pos n) (negsuc k) e = absurd cc
int_back (negsuc n) (pos k) e = absurd cc
int_back (negsuc n) (negsuc k) e = let same : n ≡ k = cc in ap negsuc same

int_same : (a b : ℤ) → bytes_eq (spelled_int a) (spelled_int b) ≡ int_eq a b
int_same a b = one_answer _ _ decides (Decides-int_eq a b) where
  decides : Decides (bytes_eq (spelled_int a) (spelled_int b)) (a ≡ b)
  decides = (λ e. int_back a b ((bytes_eq-Decides (spelled_int a) (spelled_int b)).0 e), λ e. (bytes_eq-Decides (spelled_int a) (spelled_int b)).1 (ap spelled_int e))

value_same : (c d : Const) → bytes_eq (spelled_const c) (spelled_const d) ≡ same_value c d
value_same (const.Int a) (const.Int b) = int_same a b
value_same (const.Int (pos n)) (const.Truth b) = refl
value_same (const.Int (negsuc n)) (const.Truth b) = refl
value_same (const.Int (pos n)) (const.Text t) = refl
value_same (const.Int (negsuc n)) (const.Text t) = refl
value_same (const.Truth a) (const.Int (pos n)) = refl
value_same (const.Truth a) (const.Int (negsuc n)) = refl
value_same (const.Truth true) (const.Truth true) = refl
value_same (const.Truth true) (const.Truth false) = refl
value_same (const.Truth false) (const.Truth true) = refl
value_same (const.Truth false) (const.Truth false) = refl
value_same (const.Truth a) (const.Text t) = refl
value_same (const.Text t) (const.Int (pos n)) = refl
value_same (const.Text t) (const.Int (negsuc n)) = refl
value_same (const.Text t) (const.Truth b) = refl
value_same (const.Text a) (const.Text b) = refl

-- ---- keys

module _ (s : State) (table : IsTable s.table) where
  type_same : (a b : TypeId) → IsTypeOf s a → IsTypeOf s b → nat_eq a.0 b.0 ≡ same_type (type_in s a) (type_in s b)
  type_same a b low high = same_as (nat_eq a.0 b.0) (type_in s a) (type_in s b) (same_number s.table a b table low high)

  key_same : (a b : TypeId) (c d : Const) → IsTypeOf s a → IsTypeOf s b
      → bytes_eq (spelled a.0 c) (spelled b.0 d) ≡ same_key (record { of = type_in s a; value = c }) (record { of = type_in s b; value = d })
  key_same a b c d low high = ap (λ t. t && bytes_eq (spelled_const c) (spelled_const d)) (type_same a b low high) ∙ ap (λ v. same_type (type_in s a) (type_in s b) && v) (value_same c d)

  -- a key that is spelled, and the constant key that it is
  pub data Linked : Option (List ℕ) → Option Key → Type 0 where
    none : Linked None None
    both_of : (of : TypeId) (c : Const) → IsTypeOf s of → Linked (Some (spelled of.0 c)) (Some (record { of = type_in s of; value = c }))

  linked_value : (x : Facts) (o : Option Const) → IsTypeOf s x.last
      → Linked (option_map (spelled x.last.0) o) (option_map (λ c. record { of = type_in s x.last; value = c }) o)
  linked_value x None low = none
  linked_value x (Some c) low = both_of x.last c low

  declared_none : (o : Option Declaration) → Linked None (option_and_then constant_of (known_told (declared o)))
  declared_none None = none
  declared_none (Some d) = none

  linked_mark : (mark : Mark) → IsMarkOf s mark → Linked (spelled_mark s mark) (option_and_then constant_of (known_told (said s mark)))
  linked_mark (m.Good x) is = linked_value x (constant_at s.constants.items x.value) is.last
  linked_mark (m.Bad rule) is = none
  linked_mark (m.Outside limit) is = none
  linked_mark m.Silent is = none
  linked_mark (m.Wants demand want) is = none
  linked_mark (m.Declared of) is = declared_none (declaration_of (declarations_in s.table) (type_at (types_in s.table) of))

  linked_among : (keys : List (Option Mark)) (i : ℕ) → AreKeysOf s keys → (o : Option Mark) → nth_of keys i ≡ o
      → Linked (option_and_then (spelled_mark s) o) (option_and_then constant_of (option_and_then known_told (option_map (said s) o)))
  linked_among keys i all None e = none
  linked_among keys i all (Some mark) e = linked_mark mark (mark_among s keys i mark all e)

  linked_at : (keys : List (Option Mark)) → AreKeysOf s keys → (i : ℕ) → Linked (spelled_key s keys i) (constant_key (keys_in s keys) i)
  linked_at keys all i = subst (λ (o : Option Meaning). Linked (spelled_key s keys i) (option_and_then constant_of (option_and_then known_told o))) (sym (nth_said s keys i))
      (linked_among keys i all (nth_of keys i) refl)

  at_same : (p : Option (List ℕ)) (k : Option Key) (of : TypeId) (c : Const) → Linked p k → IsTypeOf s of
      → option_map_or (λ y. bytes_eq y (spelled of.0 c)) p false ≡ option_map_or (λ y. same_key y (record { of = type_in s of; value = c })) k false
  at_same None None of c none low = refl
  at_same _ _ of c (both_of a d is) low = key_same a of d c is low

  module _ (spell : ℕ → Option (List ℕ)) (key : ℕ → Option Key) (links : (i : ℕ) → Linked (spell i) (key i)) where
    before_same : (i : ℕ) (of : TypeId) (c : Const) → IsTypeOf s of
        → is_before bytes_eq spell i (spelled of.0 c) ≡ is_before same_key key i (record { of = type_in s of; value = c })
    before_same zero of c low = refl
    before_same (suc i) of c low =
        ap (λ b. b || is_at bytes_eq spell (spelled of.0 c) i) (before_same i of c low)
        ∙ ap (λ b. is_before same_key key i (record { of = type_in s of; value = c }) || b) (at_same (spell i) (key i) of c (links i) low)

    again_by : (i : ℕ) (p : Option (List ℕ)) (k : Option Key) → Linked p k
        → option_map_or (is_before bytes_eq spell i) p false ≡ option_map_or (is_before same_key key i) k false
    again_by i None None none = refl
    again_by i _ _ (both_of of c low) = before_same i of c low

    pub again_same : (count : ℕ) → has_again bytes_eq spell count ≡ has_again same_key key count
    again_same zero = refl
    again_same (suc i) =
        ap (λ b. b || is_again bytes_eq spell i) (again_same i) ∙ ap (λ b. has_again same_key key i || b) (again_by i (spell i) (key i) (links i))

  pub keys_again : (keys : List (Option Mark)) → AreKeysOf s keys → (count : ℕ)
      → has_again bytes_eq (spelled_key s keys) count ≡ has_again same_key (constant_key (keys_in s keys)) count
  keys_again keys all count = again_same (spelled_key s keys) (constant_key (keys_in s keys)) (linked_at keys all) count

-- ---- in code

pub items_told : (f : List ℕ → Bool) (key : Option (Vec ℕ)) → option_map_or (λ (v : Vec ℕ). f v.items) key false ≡ option_map_or f (option_map (λ (v : Vec ℕ). v.items) key) false
items_told f None = refl
items_told f (Some v) = refl
