-- What a package exports, as it is listed.
use Rattle.std.proofs.Common.{◌≡◌, ℕ, ◌+◌, ◌<◌, ◌↔◌, ◌==◌, IsTrue, Bool, true, false, if◌then◌else◌, List, [], ◌∷◌, ◌++◌, map, length, slice_get, get_or, Option, Some, None, option_and_then, below_more, refl, sym, ap, ◌∙◌, subst, inl, inr, arith}
use Rattle.std.specs.List.{Contains}
use Rattle.std.specs.List.Sorted.{IsPermutation, IsSortedBy}
use Rattle.std.proofs.lemmas.Bool.Decides.{nat_tests}
use Rattle.std.proofs.lemmas.List.Sorted.{All-permutation, Contains-permutation, IsPermutation-map}
use Rattle.std.proofs.lemmas.List.Elements.{All-contains, All-push, Contains-get_or, Contains-append_left, Contains-push, Contains-push_cases}
use Rattle.std.proofs.lemmas.List.{get_or-map, length-map, map-append}
use Rattle.std.proofs.lemmas.Option.{slice_get_within}
use Rattle.go_tree.specs.Lexeme.{place_of}
use Rattle.go_tree.specs.declared.tree.NodeRef.{NodeRef}
use Rattle.package_faces.specs.declared.interface.Exported.{Exported}
use Rattle.package_faces.specs.declared.interface.ExportForm.{ExportForm}
use Rattle.package_faces.specs.Faces.{Form, ObjectOut}
use Rattle.std.specs.Ordering.{is_lt, nat_cmp}
use Rattle.std.specs.Cmp.Lexicographic.{slice_cmp}
use Rattle.package_faces.specs.Interfaces.{form_in, object_in, IsObjectIn, AreObjectsIn}
use Rattle.package_faces.specs.Reaching.{own_name}
use Rattle.type_model.specs.declared.term.Term.{Term}
use Rattle.type_model.specs.declared.term.Term.TheVariants.{Basic, Defined, Pointer, Slice, Array, Map, Chan, Func, Struct, Interface}
use Rattle.type_model.specs.Tables.{count, types_in, is_named}
use Rattle.typed_marks.specs.declared.state.State.{State}
use Rattle.package_faces.specs.Orders.{object_before, rises}
use Rattle.type_model.specs.Declarations.{Declaration}
use Rattle.type_model.specs.GoTypes.{GoType, type_of}
use Rattle.typed_marks.specs.declared.item.Item.{Item}
use Rattle.typed_marks.specs.Meanings.{Meaning, declared}
use Rattle.unit_read.specs.Units.{Unit, name_at}
use Rattle.unit_rows.specs.Redeclared.{package_names}
use Rattle.check_pkg.specs.Exports.{is_named_in, outs_in, forms_in, IsFormIn, ExportsNamed, AddsNamed, AddsExport, AreDistinct}
use Rattle.check_pkg.specs.Interfaces.{is_exported, form_of, object_item, ExportsNth, IsExported}
use Rattle.check_pkg.specs.Names.{spelled_names}
use Rattle.check_pkg.proofs.Lists.{same_some}
use Rattle.check_pkg.proofs.NameOrder.{before, distinct_push, distinct_permuted, sorted_rise}

-- a declaration is no object
pub declared_formless : (path name : List ℕ) (o : Option Declaration) → None ≡ form_of path name (declared o)
declared_formless path name None = refl
declared_formless path name (Some d) = refl

some_is : {X : Type 0} (a b : X) → Some a ≡ Some b → a ≡ b
some_is a b h = cc

-- ---- one object

abbrev made : List ℕ → Form → ObjectOut
made name form = record { name = name; form = form }

one_out : (path : List ℕ) (marks : Item → Meaning) (name : List ℕ) (at : NodeRef) (a b : ObjectOut) → ExportsNamed path marks name at a → ExportsNamed path marks name at b → a ≡ b
one_out path marks name at a b (exported, named, is) (shown, called, other) =
    ap (λ (n : List ℕ). made n a.form) (named ∙ sym called) ∙ ap (made b.name) (some_is a.form b.form (sym is ∙ other))

pub named_hidden : (path : List ℕ) (marks : Item → Meaning) (name : List ℕ) (at : NodeRef) (list : List ObjectOut) → is_exported name ≡ false → AddsNamed path marks name at list list
named_hidden path marks name at list hidden = record { adds = inl refl; has = λ out (exported, named, is). absurd (let e : false ≡ true = sym hidden ∙ exported in cc) }

pub named_without : (path : List ℕ) (marks : Item → Meaning) (name : List ℕ) (at : NodeRef) (list : List ObjectOut) → form_of path name (marks (object_item at)) ≡ None → AddsNamed path marks name at list list
named_without path marks name at list none = record {
  adds = inl refl;
  has = λ out (exported, named, is). absurd (differ out.form (sym none ∙ is));
} where
  differ : (f : Form) → None ≡ Some f → ⊥
  differ f e = cc

pub named_one : (path : List ℕ) (marks : Item → Meaning) (name : List ℕ) (at : NodeRef) (out : ObjectOut) (old new : List ObjectOut) → is_exported name ≡ true → out.name ≡ name
    → form_of path name (marks (object_item at)) ≡ Some out.form → new ≡ old ++ out ∷ [] → AddsNamed path marks name at old new
named_one path marks name at out old new exported named is push =
    let here : ExportsNamed path marks name at out = (exported, named, is) in
    record {
      adds = inr (out, push, here);
      has = λ x by.
          subst (λ (xs : List ObjectOut). Contains xs x) (sym push)
          (subst (λ (y : ObjectOut). Contains (old ++ out ∷ []) y) (one_out path marks name at out x here by) (Contains-push old out));
    }

-- ---- a type that is the package's own

-- whether it is that of a name, by its term
pub named_term : (path name : List ℕ) (types : List GoType) (term : Term) → is_named_in path name term ≡ is_named (own_name path name) (type_of types term)
named_term path name types (Basic kind) = refl
named_term path name types (Defined other) = refl
named_term path name types (Pointer of) = refl
named_term path name types (Slice of) = refl
named_term path name types (Array size of) = refl
named_term path name types (Map key of) = refl
named_term path name types (Chan direction of) = refl
named_term path name types (Func of) = refl
named_term path name types (Struct fields) = refl
named_term path name types (Interface methods) = refl

-- ---- one object more

-- what is exported by a name stands last
pub named_push : (path : List ℕ) (marks : Item → Meaning) (name : List ℕ) (at : NodeRef) (s : State) (old new : List Exported) (form : ExportForm) → is_exported name ≡ true
    → forms_in s (Some form) ≡ form_of path name (marks (object_item at)) → new ≡ old ++ record { name = name; form = form } ∷ [] → AddsNamed path marks name at (outs_in s old) (outs_in s new)
named_push path marks name at s old new form exported is push =
    named_one path marks name at (made name (form_in (types_in s.table) form)) (outs_in s old) (outs_in s new) exported refl (sym is)
    (ap (outs_in s) push ∙ map-append (λ (e : Exported). object_in (types_in s.table) e) old (record { name = name; form = form } ∷ []))

pub within_push : (path name : List ℕ) (s : State) (old new : List Exported) (form : ExportForm) → new ≡ old ++ record { name = name; form = form } ∷ [] → AreObjectsIn path (count s.table) (types_in s.table) old
    → IsFormIn path name s form → AreObjectsIn path (count s.table) (types_in s.table) new
within_push path name s old new form push within over =
    let P = IsObjectIn path (count s.table) (types_in s.table) in
    subst (λ (l : List Exported). AreObjectsIn path (count s.table) (types_in s.table) l) (sym push)
    (record { each = All-push P old (record { name = name; form = form }) within.each over })

-- ---- the name at a place

named_nth : (u : Unit) (marks : Item → Meaning) (k : ℕ) (at : NodeRef) (out : ObjectOut) → slice_get (package_names u) k ≡ Some at → ExportsNth u marks k out
    → ExportsNamed u.path marks (name_at u at) at out × (place_of (spelled_names u) (name_at u at) ≡ Some k)
named_nth u marks k at out read r =
    let same : r.name ≡ at = same_some (slice_get (package_names u) k) r.name at r.there read in
    subst (λ (n : NodeRef). ExportsNamed u.path marks (name_at u n) n out × (place_of (spelled_names u) (name_at u n) ≡ Some k)) same
    ((r.exported, r.named, r.form), r.first)

pub export_of : (u : Unit) (marks : Item → Meaning) (k : ℕ) (at : NodeRef) (name : List ℕ) (old new : List ObjectOut) → slice_get (package_names u) k ≡ Some at → name ≡ name_at u at
    → place_of (spelled_names u) name ≡ Some k → AddsNamed u.path marks name at old new → AddsExport u marks k old new
export_of u marks k at name old new read is first adds =
    let here : AddsNamed u.path marks (name_at u at) at old new = subst (λ (q : List ℕ). AddsNamed u.path marks q at old new) is adds in
    record {
      adds = elim here.adds [
        | inl same ↦ inl same
        | inr (out, push, (exported, named, form)) ↦ inr (
          out,
          push,
          record {
            name = at;
            there = read;
            first = ap (place_of (spelled_names u)) (sym is) ∙ first;
            exported = exported;
            named = named;
            form = form;
          },
        )
      ];
      has = λ out r. here.has out (named_nth u marks k at out read r).0;
    }

pub export_later : (u : Unit) (marks : Item → Meaning) (k : ℕ) (at : NodeRef) (name : List ℕ) (list : List ObjectOut) → slice_get (package_names u) k ≡ Some at → name ≡ name_at u at
    → ¬ (place_of (spelled_names u) name ≡ Some k) → AddsExport u marks k list list
export_later u marks k at name list read is later = record {
  adds = inl refl;
  has = λ out r. absurd (later (ap (place_of (spelled_names u)) is ∙ (named_nth u marks k at out read r).1));
}

pub export_none : (u : Unit) (marks : Item → Meaning) (k : ℕ) (list : List ObjectOut) → slice_get (package_names u) k ≡ None → AddsExport u marks k list list
export_none u marks k list none = record {
  adds = inl refl;
  has = λ out r. absurd (differ r.name (sym none ∙ r.there));
} where
  differ : (n : NodeRef) → None ≡ Some n → ⊥
  differ n e = cc

-- ---- the list

-- what the first few names export
pub record Exports (u : Unit) (marks : Item → Meaning) (count : ℕ) (list : List ObjectOut) : Type 0 where
  pub sound : (out : ObjectOut) → Contains list out → (k : ℕ) × (k < count) × ExportsNth u marks k out
  pub all : (k : ℕ) → k < count → (out : ObjectOut) → ExportsNth u marks k out → Contains list out
  pub distinct : AreDistinct list

pub no_exports : (u : Unit) (marks : Item → Meaning) (list : List ObjectOut) → list ≡ [] → Exports u marks 0 list
no_exports u marks list is = subst (λ (x : List ObjectOut). Exports u marks 0 x) (sym is) record {
  sound = λ out (k, low, e). absurd (omega arith);
  all = λ k low out by. absurd (omega arith);
  distinct = λ i j a b apart first second. absurd cc;
}

-- constants at two places have two names
apart_from : (u : Unit) (marks : Item → Meaning) (k j : ℕ) (out other : ObjectOut) → j < k → ExportsNth u marks k out → ExportsNth u marks j other → ¬ (other.name ≡ out.name)
apart_from u marks k j out other low r s same =
    let names : name_at u s.name ≡ name_at u r.name = sym s.named ∙ (same ∙ r.named) in
    let places : j ≡ k = some_is j k (sym s.first ∙ (ap (place_of (spelled_names u)) names ∙ r.first)) in
    absurd (omega arith)

pub exports_more : (u : Unit) (marks : Item → Meaning) (k : ℕ) (old new : List ObjectOut) → Exports u marks k old → AddsExport u marks k old new → Exports u marks (k + 1) new
exports_more u marks k old new was adds = elim adds.adds [
  | inl is ↦ record {
    sound = λ out h. let r = was.sound out (subst (λ (xs : List ObjectOut). Contains xs out) is h) in let low = r.1 in (r.0, omega arith, r.2);
    all = below_more (λ j. (out : ObjectOut) → ExportsNth u marks j out → Contains new out) k
        (λ j low out by. subst (λ (xs : List ObjectOut). Contains xs out) (sym is) (was.all j low out by)) adds.has;
    distinct = subst AreDistinct (sym is) was.distinct;
  }
  | inr (out, push, by) ↦ record {
    sound = λ x h. elim (Contains-push_cases old out x (subst (λ (xs : List ObjectOut). Contains xs x) push h)) [
      | inl older ↦ let r = was.sound x older in let low = r.1 in (r.0, omega arith, r.2)
      | inr same ↦ (k, omega arith, subst (λ (y : ObjectOut). ExportsNth u marks k y) same by)
    ];
    all = below_more (λ j. (x : ObjectOut) → ExportsNth u marks j x → Contains new x) k
        (λ j low x is. subst (λ (xs : List ObjectOut). Contains xs x) (sym push) (Contains-append_left old (out ∷ []) x (was.all j low x is))) adds.has;
    distinct = subst AreDistinct (sym push)
        (distinct_push old out was.distinct (λ x older. let r = was.sound x older in apart_from u marks k r.0 out x r.1 by r.2));
  }
]

-- the list has what the package exports
pub all_exports : (u : Unit) (marks : Item → Meaning) (count : ℕ) (list : List ObjectOut) → count ≡ length (package_names u) → Exports u marks count list
    → (out : ObjectOut) → Contains list out ↔ IsExported u marks out
all_exports u marks count list size exports out = (
  λ h. let r = exports.sound out h in (r.0, r.2),
  λ (k, r). let low = slice_get_within (package_names u) k r.name r.there in exports.all k (omega arith) out r,
)

pub sorted_rises : (list sorted : List ObjectOut) → AreDistinct list → IsPermutation list sorted → IsSortedBy before sorted → rises object_before sorted ≡ true
sorted_rises list sorted distinct moved rising = sorted_rise sorted (distinct_permuted list sorted moved distinct) rising

pub all_sorted : (P : ObjectOut → Type 0) (list sorted : List ObjectOut) → IsPermutation list sorted → ((out : ObjectOut) → Contains list out ↔ P out) → (out : ObjectOut) → Contains sorted out ↔ P out
all_sorted P list sorted moved all out = (
  λ h. All-contains P sorted out (All-permutation P list sorted moved (λ k d low. (all (get_or list k d)).0 (Contains-get_or list k d low))) h,
  λ e. Contains-permutation list sorted out moved ((all out).1 e),
)

-- ---- over the table

pub none_within : (path : List ℕ) (s : State) (list : List Exported) → list ≡ [] → AreObjectsIn path (count s.table) (types_in s.table) list
none_within path s list is = subst (λ (l : List Exported). AreObjectsIn path (count s.table) (types_in s.table) l) (sym is) record { each = λ k d low. absurd (omega arith) }

pub within_sorted : (path : List ℕ) (s : State) (list sorted : List Exported) → IsPermutation list sorted → AreObjectsIn path (count s.table) (types_in s.table) list
    → AreObjectsIn path (count s.table) (types_in s.table) sorted
within_sorted path s list sorted moved within = record { each = All-permutation (IsObjectIn path (count s.table) (types_in s.table)) list sorted moved within.each }

pub outs_permuted : (s : State) (list sorted : List Exported) → IsPermutation list sorted → IsPermutation (outs_in s list) (outs_in s sorted)
outs_permuted s list sorted moved = IsPermutation-map (λ e. object_in (types_in s.table) e) list sorted moved

-- what is sorted by what it gives
sorted_map : {X Y : Type 0} (lt : Y → Y → Bool) (f : X → Y) (xs : List X) → IsSortedBy (λ a b. lt (f a) (f b)) xs → IsSortedBy lt (map f xs)
sorted_map lt f [] sorted k d low high = absurd (omega arith)
sorted_map lt f (x ∷ xs) sorted k d low high =
    let within : k + 1 < length (x ∷ xs) = rw length-map at high in
    rw (get_or-map f (x ∷ xs) (k + 1) x d within, get_or-map f (x ∷ xs) k x d (omega arith)) (sorted k x low within)

pub outs_sorted : (s : State) (list : List Exported) → IsSortedBy (λ (a b : Exported). is_lt (slice_cmp nat_cmp a.name b.name)) list → IsSortedBy before (outs_in s list)
outs_sorted s list sorted = sorted_map before (λ (e : Exported). object_in (types_in s.table) e) list sorted

-- ---- whether a place is the first

eq_true : (a b : ℕ) → (a == b) ≡ true → a ≡ b
eq_true a b h = grind (arith, nat_tests)

true_eq : (a b : ℕ) → a ≡ b → (a == b) ≡ true
true_eq a b h = grind (arith, nat_tests)

pub is_place : (o : Option ℕ) (first place : ℕ) → o ≡ Some first → IsTrue (first == place) ↔ (o ≡ Some place)
is_place o first place is = (
  λ h. is ∙ ap Some (eq_true first place h),
  λ h. true_eq first place (some_is first place (sym is ∙ h)),
)

pub no_place : (o : Option ℕ) (place : ℕ) → o ≡ None → IsTrue false ↔ (o ≡ Some place)
no_place o place is = (λ h. absurd cc, λ h. absurd (let e : None ≡ Some place = sym is ∙ h in cc))
