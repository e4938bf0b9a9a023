-- What the types in an interface's text mention.
use Rattle.std.proofs.Common.{◌≡◌, inl, inr, ℕ, zero, suc, ◌<◌, Bool, true, false, cond, eqb, List, [], ◌∷◌, ◌++◌, length, map, refl, sym, ap, subst, ◌∙◌, arith}
use Rattle.std.specs.List.{Contains, dedup, flat_map}
use Rattle.std.specs.List.Sorted.{IsPermutation, IsSorted, IsStrictlySortedBy}
use Rattle.std.specs.Str.{bytes_eq}
use Rattle.std.specs.Ordering.{is_lt, nat_cmp}
use Rattle.std.specs.Cmp.{IsEquivalence}
use Rattle.std.specs.Cmp.Lexicographic.{slice_cmp}
use Rattle.std.proofs.lemmas.Bool.{eqb-true, eq-eqb}
use Rattle.std.proofs.lemmas.Cmp.{nat_list_cmp_total}
use Rattle.std.proofs.lemmas.List.{nil_from_length}
use Rattle.std.proofs.lemmas.List.Elements.{All-append, All-cons, All-head, All-nil, All-tail, Contains-append_left, Contains-append_right, Contains-append_cases}
use Rattle.std.proofs.lemmas.List.Kept.{Contains-dedup, Contains-from_dedup, IsStrictlySortedBy-dedup}
use Rattle.std.proofs.lemmas.List.Sorted.{Contains-permutation, IsPermutation-sym}
use Rattle.std.proofs.lemmas.Map.Keys.{Less-from_sorted}
use Rattle.std.proofs.lemmas.Map.Text.{is_eq-slice_cmp}
use Rattle.std.proofs.lemmas.Slice.Eq.{bytes_eq-Decides}
use Rattle.std.specs.Prelude.{All}
use Rattle.type_model.specs.declared.term.TypeId.{TypeId}
use Rattle.type_model.specs.declared.term.TypeName.{TypeName}
use Rattle.type_model.specs.GoTypes.{GoType, BasicType, DefinedType, PointerTo, SliceOf, ArrayOf, MapOf, ChanOf, FuncOf, StructOf, InterfaceOf, AreBelow, type_at}
use Rattle.type_model.specs.declared.table.TypeTable.{TypeTable}
use Rattle.type_model.specs.Tables.{types_in}
use Rattle.package_faces.specs.declared.interface.Interface.{Interface}
use Rattle.package_faces.specs.declared.interface.Exported.{Exported}
use Rattle.package_faces.specs.declared.interface.ExportedType.{ExportedType}
use Rattle.package_faces.specs.declared.interface.ExportForm.{ExportForm}
use Rattle.package_faces.specs.declared.interface.ExportForm.TheVariants as form
use Rattle.package_faces.specs.Interfaces.{form_in, object_in, defined_in, face_of, id_of, IsObjectIn, IsDefinedIn, IsInterfaceIn}
use Rattle.package_faces.specs.Reaching.{Reaches}
use Rattle.export_text.specs.Reaching.{nothing_declared}
use Rattle.export_text.specs.Searching.{AreReached, methods_ids}
use Rattle.export_text.specs.Mentions.{form_types, object_types, defined_types, face_types, mention_in, AreMentions, AreSorted}
use Rattle.export_text.specs.MentionIds.{form_ids, object_ids, defined_ids, face_ids}
use Rattle.export_text.proofs.NextLaws.{Low, map_append, methods_low, methods_seen, one_low}

-- ---- the types of an interface's text, by number

module _ (T : List GoType) where
  abbrev pub seen : List TypeId → List GoType
  seen ids = map (λ id. type_at T id) ids

  form_seen : (f : ExportForm) → seen (form_ids f) ≡ form_types (form_in T f)
  form_seen (form.Constant id c) = refl
  form_seen (form.Variable id) = refl
  form_seen (form.Function id) = refl
  form_seen (form.Own id) = refl
  form_seen (form.Alias id) = refl

  objects_seen : (objects : List Exported) → seen (flat_map object_ids objects) ≡ flat_map object_types (map (λ o. object_in T o) objects)
  objects_seen [] = refl
  objects_seen (o ∷ objects) =
      map_append (λ id. type_at T id) (object_ids o) (flat_map object_ids objects)
      ∙ ap (λ (l : List GoType). l ++ seen (flat_map object_ids objects)) (form_seen o.form)
      ∙ ap (λ (l : List GoType). form_types (form_in T o.form) ++ l) (objects_seen objects)

  defined_seen : (d : ExportedType) → seen (defined_ids d) ≡ defined_types (defined_in T d)
  defined_seen d = ap (λ (l : List GoType). type_at T d.under ∷ l) (methods_seen T d.methods)

  defineds_seen : (types : List ExportedType) → seen (flat_map defined_ids types) ≡ flat_map defined_types (map (λ d. defined_in T d) types)
  defineds_seen [] = refl
  defineds_seen (d ∷ types) =
      map_append (λ id. type_at T id) (defined_ids d) (flat_map defined_ids types)
      ∙ ap (λ (l : List GoType). l ++ seen (flat_map defined_ids types)) (defined_seen d)
      ∙ ap (λ (l : List GoType). defined_types (defined_in T d) ++ l) (defineds_seen types)

  pub face_seen : (i : Interface) → seen (face_ids i) ≡ face_types (face_of T i)
  face_seen i =
      map_append (λ id. type_at T id) (flat_map object_ids i.objects) (flat_map defined_ids i.types)
      ∙ ap (λ (l : List GoType). l ++ seen (flat_map defined_ids i.types)) (objects_seen i.objects)
      ∙ ap (λ (l : List GoType). flat_map object_types (map (λ o. object_in T o) i.objects) ++ l) (defineds_seen i.types)

-- ---- they are types of the table

form_low : (n : ℕ) (f : ExportForm) → (id_of f).0 < n → AreBelow n (form_ids f)
form_low n (form.Constant id c) low = one_low n id low
form_low n (form.Variable id) low = one_low n id low
form_low n (form.Function id) low = one_low n id low
form_low n (form.Own id) low = All-nil (Low n)
form_low n (form.Alias id) low = one_low n id low

objects_low : (path : List ℕ) (n : ℕ) (T : List GoType) (objects : List Exported) → All (IsObjectIn path n T) objects → AreBelow n (flat_map object_ids objects)
objects_low path n T [] h = All-nil (Low n)
objects_low path n T (o ∷ objects) h =
    All-append (Low n) (object_ids o) (flat_map object_ids objects) (form_low n o.form (All-head (IsObjectIn path n T) o objects h).0) (objects_low path n T objects (All-tail (IsObjectIn path n T) o objects h))

defined_low : (n : ℕ) (d : ExportedType) → IsDefinedIn n d → AreBelow n (defined_ids d)
defined_low n d h = All-cons (Low n) d.under (methods_ids d.methods) h.0 (methods_low n d.methods h.1)

defineds_low : (n : ℕ) (types : List ExportedType) → All (IsDefinedIn n) types → AreBelow n (flat_map defined_ids types)
defineds_low n [] h = All-nil (Low n)
defineds_low n (d ∷ types) h =
    All-append (Low n) (defined_ids d) (flat_map defined_ids types) (defined_low n d (All-head (IsDefinedIn n) d types h)) (defineds_low n types (All-tail (IsDefinedIn n) d types h))

pub face_low : (n : ℕ) (T : List GoType) (i : Interface) → IsInterfaceIn n T i → AreBelow n (face_ids i)
face_low n T i h = All-append (Low n) (flat_map object_ids i.objects) (flat_map defined_ids i.types) (objects_low i.path n T i.objects h.objects.each) (defineds_low n i.types h.defined.each)

-- ---- items of joined lists

pub joined : {A B : Type 0} (f : A → List B) (xs : List A) (x : A) (y : B) → Contains xs x → Contains (f x) y → Contains (flat_map f xs) y
joined f [] x y (k, low, is) has = absurd (omega (arith, low))
joined f (z ∷ xs) x y (zero, low, is) has = Contains-append_left (f z) (flat_map f xs) y (subst (λ a. Contains (f a) y) (sym is) has)
joined f (z ∷ xs) x y (suc k, low, is) has = Contains-append_right (f z) (flat_map f xs) y (joined f xs x y (k, omega (arith, low), is) has)

pub parted : {A B : Type 0} (f : A → List B) (xs : List A) (y : B) → Contains (flat_map f xs) y → (x : A) × Contains xs x × Contains (f x) y
parted f [] y (k, low, is) = absurd (omega (arith, low))
parted f (z ∷ xs) y c = elim (Contains-append_cases (f z) (flat_map f xs) y c) [
  | inl here ↦ (z, (0, omega arith, refl), here)
  | inr later ↦ let r = parted f xs y later in (r.0, (suc r.1.0, omega (arith, r.1.1), r.1.2), r.2)
]

-- ---- the package that a type mentions

pub none_there : {A : Type 0} (x : A) → Contains [] x → ⊥
none_there x (k, low, is) = absurd (omega (arith, low))

only_there : {A : Type 0} (x y : A) → Contains (x ∷ []) y → x ≡ y
only_there x y (zero, low, is) = is
only_there x y (suc k, low, is) = absurd (omega (arith, low))

pub record Mentioned (path : List ℕ) (g : GoType) (p : List ℕ) : Type 0 where
  pub name : TypeName
  pub is : g ≡ DefinedType name
  pub of : name.package ≡ p
  pub other : p ≡ path → ⊥
  pub some : p ≡ [] → ⊥

by_tests : (path : List ℕ) (name : TypeName) (p : List ℕ) (own none : Bool) → bytes_eq name.package path ≡ own → eqb (length name.package) 0 ≡ none
    → Contains (cond own [] (cond none [] (name.package ∷ []))) p → Mentioned path (DefinedType name) p
by_tests path name p true none e f c = absurd (none_there p c)
by_tests path name p false true e f c = absurd (none_there p c)
by_tests path name p false false e f c =
    let same : name.package ≡ p = only_there name.package p c in
    record {
      name = name;
      is = refl;
      of = same;
      other = λ own. absurd (let t = (bytes_eq-Decides name.package path).1 (same ∙ own) in cc);
      some = λ empty. absurd (let t = eq-eqb (length name.package) 0 (ap length (same ∙ empty)) in cc);
    }

pub mentioned : (path : List ℕ) (of : GoType) (p : List ℕ) → Contains (mention_in path of) p → Mentioned path of p
mentioned path (BasicType kind) p c = absurd (none_there p c)
mentioned path (DefinedType name) p c = by_tests path name p (bytes_eq name.package path) (eqb (length name.package) 0) refl refl c
mentioned path (PointerTo of) p c = absurd (none_there p c)
mentioned path (SliceOf of) p c = absurd (none_there p c)
mentioned path (ArrayOf size of) p c = absurd (none_there p c)
mentioned path (MapOf key of) p c = absurd (none_there p c)
mentioned path (ChanOf direction of) p c = absurd (none_there p c)
mentioned path (FuncOf of) p c = absurd (none_there p c)
mentioned path (StructOf fields) p c = absurd (none_there p c)
mentioned path (InterfaceOf methods) p c = absurd (none_there p c)

kept_by : (owner : List ℕ) (own none : Bool) → own ≡ false → none ≡ false → Contains (cond own [] (cond none [] (owner ∷ []))) owner
kept_by owner true none e f = absurd cc
kept_by owner false true e f = absurd cc
kept_by owner false false e f = (0, omega arith, refl)

not_own : (a b : List ℕ) (t : Bool) → bytes_eq a b ≡ t → (a ≡ b → ⊥) → t ≡ false
not_own a b true e apart = absurd (apart ((bytes_eq-Decides a b).0 e))
not_own a b false e apart = refl

not_empty : (a : List ℕ) (t : Bool) → eqb (length a) 0 ≡ t → (a ≡ [] → ⊥) → t ≡ false
not_empty a true e some = absurd (some (nil_from_length a (eqb-true (length a) 0 e)))
not_empty a false e some = refl

pub mentions_it : (path : List ℕ) (name : TypeName) → (name.package ≡ path → ⊥) → (name.package ≡ [] → ⊥) → Contains (mention_in path (DefinedType name)) name.package
mentions_it path name other some =
    kept_by name.package (bytes_eq name.package path) (eqb (length name.package) 0) (not_own name.package path (bytes_eq name.package path) refl other) (not_empty name.package (eqb (length name.package) 0) refl some)

-- ---- all of them

pub mentions_are : (t : TypeTable) (i : Interface) (start ids : List TypeId) (names paths : List (List ℕ)) → start ≡ face_ids i → AreReached t nothing_declared i.path start ids
    → names ≡ flat_map (λ id. mention_in i.path (type_at (types_in t) id)) ids → AreSorted names paths → AreMentions (face_of (types_in t) i) paths
mentions_are t i start ids names paths begun found are sorted = record {
  order = sorted.order;
  each = λ p c.
      let r = parted (λ id. mention_in i.path (type_at (types_in t) id)) ids p (subst (λ (l : List (List ℕ)). Contains l p) are (sorted.from p c)) in
      let m = mentioned i.path (type_at (types_in t) r.0) p r.2 in
      record {
        name = m.name;
        stands = subst (λ (z : GoType). Reaches nothing_declared i.path (face_types (face_of (types_in t) i)) z) m.is (subst (λ (l : List GoType). Reaches nothing_declared i.path l (type_at (types_in t) r.0)) begin (found.sound r.0 r.1));
        of = m.of;
        other = m.other;
        some = m.some;
      };
  all = λ p m.
      let l = found.all (DefinedType m.name) (subst (λ (l : List GoType). Reaches nothing_declared i.path l (DefinedType m.name)) (sym begin) m.stands) in
      let here = mentions_it i.path m.name (λ e. m.other (sym m.of ∙ e)) (λ e. m.some (sym m.of ∙ e)) in
      let there : Contains (mention_in i.path (type_at (types_in t) l.0)) m.name.package = subst (λ (z : GoType). Contains (mention_in i.path z) m.name.package) (sym l.2) here in
      let had = joined (λ id. mention_in i.path (type_at (types_in t) id)) ids l.0 m.name.package l.1 there in
      sorted.all p (subst (λ (l : List (List ℕ)). Contains l p) (sym are) (subst (λ (q : List ℕ). Contains (flat_map (λ id. mention_in i.path (type_at (types_in t) id)) ids) q) m.of had));
} where
  begin : map (λ id. type_at (types_in t) id) start ≡ face_types (face_of (types_in t) i)
  begin = ap (λ (l : List TypeId). map (λ id. type_at (types_in t) id) l) begun ∙ face_seen (types_in t) i

-- ---- a sort and the loss of repeats

same_bools : (b c : Bool) → (b ≡ true → c ≡ true) → (c ≡ true → b ≡ true) → b ≡ c
same_bools true c f g = sym (f refl)
same_bools false true f g = g refl
same_bools false false f g = refl

equal_texts : IsEquivalence bytes_eq
equal_texts = record {
  refl = λ x. (bytes_eq-Decides x x).1 refl;
  symm = λ x y. same_bools (bytes_eq x y) (bytes_eq y x)
      (λ h. (bytes_eq-Decides y x).1 (sym ((bytes_eq-Decides x y).0 h))) (λ h. (bytes_eq-Decides x y).1 (sym ((bytes_eq-Decides y x).0 h)));
  congr = λ x y z h. ap (λ t. bytes_eq t z) ((bytes_eq-Decides x y).0 h);
}

pub sorted_texts : (texts sorted names : List (List ℕ)) → IsPermutation texts sorted → IsSorted (slice_cmp nat_cmp) sorted → names ≡ dedup bytes_eq sorted → AreSorted texts names
sorted_texts texts sorted names moved order is =
    let strict : IsStrictlySortedBy (slice_cmp nat_cmp) (dedup bytes_eq sorted) = IsStrictlySortedBy-dedup nat_list_cmp_total (λ x y. sym (is_eq-slice_cmp x y)) sorted order in
    subst (λ (l : List (List ℕ)). AreSorted texts l) (sym is) (record {
      order = λ i j d lt within. ap is_lt (Less-from_sorted (slice_cmp nat_cmp) (dedup bytes_eq sorted) i j d strict lt within);
      from = λ name h. Contains-permutation sorted texts name (IsPermutation-sym texts sorted moved) (Contains-from_dedup bytes_eq sorted name h);
      all = λ name h. Contains-dedup equal_texts (λ x y. (bytes_eq-Decides x y).0) sorted name (Contains-permutation texts sorted name moved h);
    })
