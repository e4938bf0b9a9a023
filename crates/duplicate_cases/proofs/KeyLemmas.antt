-- What is listed in clauses is the same where it is spelled the same.
use Rattle.std.proofs.Common.{◌≡◌, ◌<◌, ◌≤◌, ℕ, zero, suc, Bool, true, false, ◌&&◌, ◌||◌, nat_eq, if◌then◌else◌, List, [], ◌∷◌, ◌++◌, length, slice_get, Option, Some, None, IfSome, unwrap_or, option_map, option_and_then, refl, sym, ap, ◌∙◌, subst, ℤ, pos, negsuc, arith}
use Rattle.std.specs.Bool.{Decides, one_answer}
use Rattle.std.specs.Option.{option_map_or}
use Rattle.std.specs.Ordering.{int_eq}
use Rattle.std.specs.Str.{bytes_eq}
use Rattle.std.proofs.lemmas.Bool.Decides.{Decides-int_eq}
use Rattle.std.proofs.lemmas.Option.{slice_get_within}
use Rattle.std.proofs.lemmas.Slice.Eq.{bytes_eq-Decides}
use Rattle.gv_base.proofs.Lists.{got}
use Rattle.gv_base.specs.declared.constant.Const.{Const}
use Rattle.gv_base.specs.declared.constant.Const.TheVariants as const
use Rattle.go_tree.specs.declared.tree.NodeRef.{NodeRef}
use Rattle.mark_walk.specs.Asks.{filled}
use Rattle.object_order.specs.Spots.{place}
use Rattle.package_objects.specs.Declares.{gather}
use Rattle.type_model.specs.declared.term.TypeId.{TypeId}
use Rattle.type_model.specs.Declarations.{Declaration}
use Rattle.type_model.specs.GoTypes.{type_at}
use Rattle.type_model.specs.Tables.{IsTable, types_in, declarations_in}
use Rattle.type_model.proofs.StateLaws.{same_number}
use Rattle.same_types.specs.Same.{same_type}
use Rattle.same_types.proofs.SameLemmas.{same_as}
use Rattle.typed_tree.specs.declared.mark.Mode.{Mode}
use Rattle.typed_tree.specs.declared.mark.Mode.TheVariants as mode
use Rattle.typed_marks.specs.declared.item.Stage.TheVariants as st
use Rattle.typed_marks.specs.declared.mark.Facts.{Facts}
use Rattle.typed_marks.specs.declared.mark.Mark.{Mark}
use Rattle.typed_marks.specs.declared.mark.Mark.TheVariants as m
use Rattle.typed_marks.specs.declared.state.State.{State}
use Rattle.typed_marks.specs.Meanings.{Known, Meaning, Quiet, constant_at, declared, declaration_of}
use Rattle.typed_marks.specs.States.{so_far}
use Rattle.rule_words.specs.Asking.{item}
use Rattle.rule_words.specs.Good.{known_told, known_of}
use Rattle.rule_words.specs.Scenes.{said, IsMarkOf, type_in, IsTypeOf}
use Rattle.rule_words.specs.Again.{is_again, is_before}
use Rattle.rule_words.specs.Met.{spelled_int}
use Rattle.typed_tree.specs.Places.{is_nil_mode, is_type}
use Rattle.duplicate_cases.specs.Duplicates.{same_value, same_values, are_types, are_nil, are_constants, are_same, same_known, same_marks, is_same_at, is_among, placed_in}
use Rattle.duplicate_cases.specs.InCode.{spelled_const, spelled_value, spelled_type, spelled_facts, spelled_mark, spelled_at, AreSeen, if_so, again_at, duplicate_at, duplicates_of}

-- ---- values

int_back : (a b : ℤ) → spelled_int a ≡ spelled_int b → a ≡ b
int_back (pos n) (pos k) e = let same : n ≡ k = cc in ap pos same
int_back (pos n) (negsuc k) e = absurd cc
int_back (negsuc n) (pos k) e = absurd cc
int_back (negsuc n) (negsuc k) e = let same : n ≡ k = cc in ap negsuc same

int_same : (a b : ℤ) → bytes_eq (spelled_int a) (spelled_int b) ≡ int_eq a b
int_same a b = one_answer _ _ decides (Decides-int_eq a b) where
  decides : Decides (bytes_eq (spelled_int a) (spelled_int b)) (a ≡ b)
  decides = (λ e. int_back a b ((bytes_eq-Decides (spelled_int a) (spelled_int b)).0 e), λ e. (bytes_eq-Decides (spelled_int a) (spelled_int b)).1 (ap spelled_int e))

-- spelled the same, where both are spelled
abbrev pub spelled_same : Option (List ℕ) → Option (List ℕ) → Bool
spelled_same a b = option_map_or (λ y. option_map_or (λ x. bytes_eq x y) a false) b false

and_false : (b : Bool) → false ≡ (b && false)
and_false true = refl
and_false false = refl

text_int : (t : List ℕ) (z : ℤ) → bytes_eq (3 ∷ t) (spelled_int z) ≡ false
text_int t (pos n) = refl
text_int t (negsuc n) = refl

int_text : (z : ℤ) (t : List ℕ) → bytes_eq (spelled_int z) (3 ∷ t) ≡ false
int_text (pos n) t = refl
int_text (negsuc n) t = refl

const_same : (a b : ℕ) (c d : Const) → spelled_same (spelled_const a c) (spelled_const b d) ≡ (nat_eq a b && same_value c d)
const_same a b (const.Int x) (const.Int y) = ap (λ v. nat_eq a b && v) (int_same x y)
const_same a b (const.Int x) (const.Truth y) = and_false (nat_eq a b)
const_same a b (const.Int x) (const.Text y) = ap (λ v. nat_eq a b && v) (int_text x y)
const_same a b (const.Truth x) (const.Int y) = and_false (nat_eq a b)
const_same a b (const.Truth x) (const.Truth y) = and_false (nat_eq a b)
const_same a b (const.Truth x) (const.Text y) = and_false (nat_eq a b)
const_same a b (const.Text x) (const.Int y) = ap (λ v. nat_eq a b && v) (text_int x y)
const_same a b (const.Text x) (const.Truth y) = and_false (nat_eq a b)
const_same a b (const.Text x) (const.Text y) = refl

none_same : (a : Option (List ℕ)) → spelled_same None a ≡ false
none_same None = refl
none_same (Some x) = refl

values_same : (a b : ℕ) (o p : Option Const) → spelled_same (option_and_then (spelled_const a) o) (option_and_then (spelled_const b) p) ≡ (nat_eq a b && same_values o p)
values_same a b None p = none_same (option_and_then (spelled_const b) p) ∙ and_false (nat_eq a b)
values_same a b (Some c) None = and_false (nat_eq a b)
values_same a b (Some c) (Some d) = const_same a b c d

-- ---- types

one_mode : (x : Mode) → is_type x ≡ true → is_nil_mode x ≡ false
one_mode mode.TypeName e = refl
one_mode mode.NoValue e = absurd cc
one_mode mode.Constant e = absurd cc
one_mode mode.Variable e = absurd cc
one_mode mode.MapIndex e = absurd cc
one_mode mode.Value e = absurd cc
one_mode mode.CommaOk e = absurd cc
one_mode mode.Nil e = absurd cc
one_mode mode.Builtin e = absurd cc
one_mode mode.Package e = absurd cc
one_mode mode.Many e = absurd cc

number_alone : (a b : ℕ) → bytes_eq (a ∷ []) (b ∷ []) ≡ nat_eq a b
number_alone a b = by (nat_eq a b) refl where
  by : (t : Bool) → nat_eq a b ≡ t → (nat_eq a b && true) ≡ nat_eq a b
  by true e = ap (λ x. x && true) e ∙ sym e
  by false e = ap (λ x. x && true) e ∙ sym e

or_none : (x n k : Bool) → n ≡ false → x ≡ (x || (n && k))
or_none x true k e = absurd cc
or_none true false k e = refl
or_none false false k e = refl

module _ (s : State) (table : IsTable s.table) where
  type_same : (a b : TypeId) → IsTypeOf s a → IsTypeOf s b → nat_eq a.0 b.0 ≡ same_type (type_in s a) (type_in s b)
  type_same a b low high = same_as (nat_eq a.0 b.0) (type_in s a) (type_in s b) (same_number s.table a b table low high)

  types_by : (t u n k : Bool) (a b : TypeId) → IsTypeOf s a → IsTypeOf s b → (t ≡ true → n ≡ false) → (u ≡ true → k ≡ false)
      → spelled_same (if t then Some (a.0 ∷ []) else (if n then Some [] else None)) (if u then Some (b.0 ∷ []) else (if k then Some [] else None))
      ≡ ((t && (u && same_type (type_in s a) (type_in s b))) || (n && k))
  types_by true true n k a b low high one other = number_alone a.0 b.0 ∙ (type_same a b low high ∙ or_none (same_type (type_in s a) (type_in s b)) n k (one refl))
  types_by true false n true a b low high one other = or_none false n true (one refl)
  types_by true false n false a b low high one other = or_none false n false (one refl)
  types_by false true true k a b low high one other = sym (other refl)
  types_by false true false k a b low high one other = refl
  types_by false false true true a b low high one other = refl
  types_by false false true false a b low high one other = refl
  types_by false false false true a b low high one other = refl
  types_by false false false false a b low high one other = refl

  facts_same : (of_types : Bool) (x y : Facts) → IsTypeOf s x.of → IsTypeOf s x.last → IsTypeOf s y.of → IsTypeOf s y.last
      → spelled_same (spelled_facts s of_types x) (spelled_facts s of_types y) ≡ are_same of_types (known_of s x) (known_of s y)
  facts_same true x y of last of_y last_y = types_by (is_type x.mode) (is_type y.mode) (is_nil_mode x.mode) (is_nil_mode y.mode) x.of y.of of of_y (one_mode x.mode) (one_mode y.mode)
  facts_same false x y of last of_y last_y =
      values_same x.last.0 y.last.0 (constant_at s.constants.items x.value) (constant_at s.constants.items y.value)
      ∙ ap (λ t. t && same_values (constant_at s.constants.items x.value) (constant_at s.constants.items y.value)) (type_same x.last y.last last last_y)

  -- a spelling, and what is known of what is spelled
  pub data Linked (of_types : Bool) : Option (List ℕ) → Option Known → Type 0 where
    nothing : Linked of_types None None
    facts_of : (x : Facts) → IsTypeOf s x.of → IsTypeOf s x.last → Linked of_types (spelled_facts s of_types x) (Some (known_of s x))

  known_same : (of_types : Bool) (p q : Option (List ℕ)) (a b : Option Known) → Linked of_types p a → Linked of_types q b → spelled_same p q ≡ same_known of_types a b
  known_same of_types None None None None nothing nothing = refl
  known_same of_types None _ None _ nothing (facts_of y of last) = none_same (spelled_facts s of_types y)
  known_same of_types _ None _ None (facts_of x of last) nothing = refl
  known_same of_types _ _ _ _ (facts_of x of last) (facts_of y of_y last_y) = facts_same of_types x y of last of_y last_y

  declared_none : (of_types : Bool) (o : Option Declaration) → Linked of_types None (known_told (declared o))
  declared_none of_types None = nothing
  declared_none of_types (Some d) = nothing

  linked_mark : (of_types : Bool) (mark : Mark) → IsMarkOf s mark → Linked of_types (spelled_mark s of_types mark) (known_told (said s mark))
  linked_mark of_types (m.Good x) is = facts_of x is.of is.last
  linked_mark of_types (m.Bad rule) is = nothing
  linked_mark of_types (m.Outside limit) is = nothing
  linked_mark of_types m.Silent is = nothing
  linked_mark of_types (m.Wants demand want) is = nothing
  linked_mark of_types (m.Declared of) is = declared_none of_types (declaration_of (declarations_in s.table) (type_at (types_in s.table) of))

  linked_option : (of_types : Bool) (o : Option Mark) → IfSome o (IsMarkOf s) → Linked of_types (option_and_then (spelled_mark s of_types) o) (known_told (unwrap_or (option_map (said s) o) Quiet))
  linked_option of_types None is = nothing
  linked_option of_types (Some mark) is = linked_mark of_types mark is

  module _ (of_types : Bool) (file : ℕ) (list : List ℕ) (marks : List (Option Mark)) (seen : AreSeen s file list (length list) marks) where
    linked_at : (i n : ℕ) → slice_get list i ≡ Some n → Linked of_types (spelled_at s of_types marks i) (known_told (placed_in (filled Quiet (so_far s)) file n))
    linked_at i n there =
        let (o, at) = got marks i (let a = slice_get_within list i n there in let b = seen.size in omega arith) in
        subst (λ (x : Option Mark). Linked of_types (option_and_then (spelled_mark s of_types) x) (known_told (placed_in (filled Quiet (so_far s)) file n)))
        (sym (ap (λ (y : Option (Option Mark)). option_and_then (λ (z : Option Mark). z) y) at))
        (subst (λ (x : Option Meaning). Linked of_types (option_and_then (spelled_mark s of_types) o) (known_told (unwrap_or x Quiet))) (seen.each i n o there at) (linked_option of_types o (seen.over i o at)))

    -- one of the first few is spelled as this is
    before_told : (p : Option (List ℕ)) (j : ℕ)
        → option_map_or (is_before bytes_eq (spelled_at s of_types marks) (suc j)) p false
        ≡ (option_map_or (is_before bytes_eq (spelled_at s of_types marks) j) p false || spelled_same (spelled_at s of_types marks j) p)
    before_told None j = refl
    before_told (Some y) j = refl

    before_none : (p : Option (List ℕ)) → option_map_or (is_before bytes_eq (spelled_at s of_types marks) 0) p false ≡ false
    before_none None = refl
    before_none (Some y) = refl

    same_at : (j i n : ℕ) → slice_get list i ≡ Some n → (o : Option ℕ) → slice_get list j ≡ o → j < i
        → spelled_same (spelled_at s of_types marks j) (spelled_at s of_types marks i) ≡ option_map_or (λ k. same_marks of_types (placed_in (filled Quiet (so_far s)) file k) (placed_in (filled Quiet (so_far s)) file n)) o false
    same_at j i n there None e low = absurd (let a = slice_get_within list i n there in let (k, is) = got list j (omega arith) in let f : None ≡ Some k = sym e ∙ is in cc)
    same_at j i n there (Some k) e low =
        known_same of_types (spelled_at s of_types marks j) (spelled_at s of_types marks i) (known_told (placed_in (filled Quiet (so_far s)) file k)) (known_told (placed_in (filled Quiet (so_far s)) file n))
        (linked_at j k e) (linked_at i n there)

    among_same : (i n : ℕ) → slice_get list i ≡ Some n → (j : ℕ) → j ≤ i
        → option_map_or (is_before bytes_eq (spelled_at s of_types marks) j) (spelled_at s of_types marks i) false ≡ is_among of_types (placed_in (filled Quiet (so_far s)) file) list n j
    among_same i n there zero low = before_none (spelled_at s of_types marks i)
    among_same i n there (suc j) low =
        before_told (spelled_at s of_types marks i) j
        ∙ (ap (λ b. b || spelled_same (spelled_at s of_types marks j) (spelled_at s of_types marks i)) (among_same i n there j (omega arith))
        ∙ ap (λ b. is_among of_types (placed_in (filled Quiet (so_far s)) file) list n j || b) (same_at j i n there (slice_get list j) refl (omega arith)))

    at_same : (i : ℕ) → again_at (spelled_at s of_types marks) file list i ≡ duplicate_at of_types (placed_in (filled Quiet (so_far s)) file) file list i
    at_same i = by (slice_get list i) refl where
      by : (o : Option ℕ) → slice_get list i ≡ o
          → option_map_or (λ n. if_so (is_again bytes_eq (spelled_at s of_types marks) i) (place file n)) o [] ≡ option_map_or (λ n. if_so (is_among of_types (placed_in (filled Quiet (so_far s)) file) list n i) (place file n)) o []
      by None e = refl
      by (Some n) e = ap (λ b. if_so b (place file n)) (among_same i n e i (omega arith))

    all_same : (n : ℕ) → gather (again_at (spelled_at s of_types marks) file list) n ≡ gather (duplicate_at of_types (placed_in (filled Quiet (so_far s)) file) file list) n
    all_same zero = refl
    all_same (suc n) =
        ap (λ (l : List NodeRef). l ++ again_at (spelled_at s of_types marks) file list n) (all_same n)
        ∙ ap (λ (l : List NodeRef). gather (duplicate_at of_types (placed_in (filled Quiet (so_far s)) file) file list) n ++ l) (at_same n)

    pub duplicates_are : gather (again_at (spelled_at s of_types marks) file list) (length list) ≡ duplicates_of of_types (placed_in (filled Quiet (so_far s)) file) file list
    duplicates_are = all_same (length list)
