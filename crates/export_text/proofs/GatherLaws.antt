-- What is gathered is the interface that a package exports, where it exports one.
use Rattle.std.proofs.Common.{◌≡◌, ℕ, suc, ◌+◌, ◌<◌, Bool, true, false, cond, List, [], ◌∷◌, length, map, get_or, Option, Some, None, refl, sym, ap, subst, ◌∙◌, arith}
use Rattle.std.specs.Prelude.{IfSome, IsSomeAnd}
use Rattle.std.specs.Global.{Vec}
use Rattle.std.specs.List.{Contains}
use Rattle.std.specs.List.Sorted.{IsPermutation, IsSortedBy}
use Rattle.std.specs.Cmp.{IsTotalOrder}
use Rattle.std.specs.Ordering.{is_lt, nat_cmp, ordering_then}
use Rattle.std.specs.Cmp.Lexicographic.{slice_cmp}
use Rattle.std.proofs.lemmas.Cmp.{nat_list_cmp_total, on_total, then_total}
use Rattle.std.proofs.lemmas.List.{get_or-map, length-map}
use Rattle.std.proofs.lemmas.List.Elements.{All-contains, All-from_recursion, All-map, All-weaker}
use Rattle.std.proofs.lemmas.List.Sorted.{IsPermutation-sym, IsPermutation-trans}
use Rattle.gv_bytes.proofs.Options.{some_is}
use Rattle.type_model.specs.declared.term.TypeId.{TypeId}
use Rattle.type_model.specs.declared.term.TypeName.{TypeName}
use Rattle.type_model.specs.GoTypes.{GoType, DefinedType, AreBelow, type_at}
use Rattle.type_model.specs.Parts.{GoMethod, method_of}
use Rattle.type_model.specs.Declarations.{Declaration, Declarations}
use Rattle.type_model.specs.declared.table.TypeTable.{TypeTable}
use Rattle.type_model.specs.Tables.{types_in, count, declarations_in}
use Rattle.package_faces.specs.Orders.{rises, rises_after, defined_before, method_before}
use Rattle.package_faces.specs.declared.interface.Exported.{Exported}
use Rattle.package_faces.specs.declared.interface.ExportedType.{ExportedType}
use Rattle.package_faces.specs.declared.interface.ExportForm.{ExportForm}
use Rattle.package_faces.specs.declared.interface.ExportForm.TheVariants as form
use Rattle.package_faces.specs.Faces.{ObjectOut, DefinedOut, Face}
use Rattle.export_text.specs.Faces.{IsDefinedOut, IsFace, IsFaceText, face_text}
use Rattle.package_faces.specs.Interfaces.{form_in, object_in, defined_in, id_of, IsOwn, IsObjectIn, AreObjectsIn}
use Rattle.package_faces.specs.Reaching.{Reaches, form_root, own_name, roots, IsDeclared, IsExportOf}
use Rattle.export_text.specs.Reaching.{IsExportText}
use Rattle.export_text.specs.Searching.{AreReached}
use Rattle.export_text.specs.Listing.{AllCanBeListed, AreListed, IsOwnType, type_stands}
use Rattle.export_text.specs.Gathering.{CanBeExported, IsGathered}
use Rattle.export_text.proofs.SearchLaws.{contained, mapped, read, unmapped}
use Rattle.export_text.proofs.SortLaws.{apart_permuted, rising_apart, sorted_rises}
use Rattle.export_text.proofs.ExportLaws.{less_of, one_of_types, one_types, same_declared}

-- ---- methods

methods_total : IsTotalOrder (λ (a b : GoMethod). ordering_then (slice_cmp nat_cmp a.name b.name) (slice_cmp nat_cmp a.owner b.owner))
methods_total = then_total (on_total (λ (m : GoMethod). m.name) nat_list_cmp_total) (on_total (λ (m : GoMethod). m.owner) nat_list_cmp_total)

method_then : (a b c : GoMethod) → method_before a b ≡ true → method_before b c ≡ true → method_before a c ≡ true
method_then a b c p q =
    ap is_lt (methods_total.trans a b c (less_of (ordering_then (slice_cmp nat_cmp a.name b.name) (slice_cmp nat_cmp a.owner b.owner)) p) (less_of (ordering_then (slice_cmp nat_cmp b.name c.name) (slice_cmp nat_cmp b.owner c.owner)) q))

-- the methods of one declaration, sorted, rise where they rise in some order
sorted_methods_rise : (declared mine theirs : List GoMethod) → IsPermutation declared mine → IsPermutation declared theirs → IsSortedBy method_before mine → rises method_before theirs ≡ true → rises method_before mine ≡ true
sorted_methods_rise declared mine theirs p q sorted rise =
    let moved : IsPermutation theirs mine = IsPermutation-trans theirs declared mine (IsPermutation-sym declared theirs q) p in
    sorted_rises method_before mine (apart_permuted method_before theirs mine moved (rising_apart method_before method_then theirs rise)) sorted

-- ---- one interface

module _ (ds : Declarations) (path name : List ℕ) (objects : List ObjectOut) where
  gathered_defined : (d e : DefinedOut) → d.name ≡ e.name → IsDeclared ds path d → IsDeclared ds path e → IsSortedBy method_before d.methods → IsDefinedOut e → d ≡ e
  gathered_defined d e same p q sorted fits =
      let one : p.declaration ≡ q.declaration = some_is p.declaration q.declaration (sym p.is ∙ ap (λ (n : List ℕ). ds (own_name path n)) same ∙ q.is) in
      let mine : IsPermutation q.declaration.methods d.methods = subst (λ (x : Declaration). IsPermutation x.methods d.methods) one p.methods in
      let rise : rises method_before d.methods ≡ true = sorted_methods_rise q.declaration.methods d.methods e.methods mine q.methods sorted fits.1.1.1 in
      same_declared ds path name objects d e same p q rise fits.1.1.1

  module _ (f g : Face) (p : IsGathered ds path name objects f) (q : IsExportOf ds path name objects g) (fits : IsFace g) where
    fit_of : (e : DefinedOut) → Contains g.types e → IsDefinedOut e
    fit_of e c = All-contains IsDefinedOut g.types e (All-from_recursion IsDefinedOut g.types fits.1.1.1.0.1) c

    there : (d : DefinedOut) → Contains f.types d → Contains g.types d
    there d c =
        let other = q.all (own_name path d.name) refl (p.export.reached d c) in
        let same : d.name ≡ other.0.name = ap (λ (n : TypeName). n.name) other.2 in
        subst (λ (x : DefinedOut). Contains g.types x) (sym (gathered_defined d other.0 same (p.export.declared d c) (q.declared other.0 other.1) (p.sorted d c) (fit_of other.0 other.1))) other.1

    back : (e : DefinedOut) → Contains g.types e → Contains f.types e
    back e c =
        let other = p.export.all (own_name path e.name) refl (q.reached e c) in
        let same : other.0.name ≡ e.name = sym (ap (λ (n : TypeName). n.name) other.2) in
        subst (λ (x : DefinedOut). Contains f.types x) (gathered_defined other.0 e same (p.export.declared other.0 other.1) (q.declared e c) (p.sorted other.0 other.1) (fit_of e c)) other.1

    pub one_gathered : f ≡ g
    one_gathered = one_of_types ds path name objects f g p.export q (one_types f.types g.types p.rise fits.1.1.1.1 there back)

  -- where there is an interface, each type of the package that is reached is plain
  pub exported_can : (g : Face) → IsExportOf ds path name objects g → CanBeExported ds path objects
  exported_can g q = record {
    each = λ of reach n is own.
        let other = q.all n own (subst (λ (x : GoType). Reaches ds path (roots path objects) x) is reach) in
        let d = q.declared other.0 other.1 in
        record { global = ap (λ (x : TypeName). x.local) other.2; declaration = d.declaration; is = ap ds other.2 ∙ d.is };
  }

-- ---- what is gathered from a table

rises_after_map : {A B : Type 0} (f : A → B) (before : B → B → Bool) (x : A) (xs : List A) → rises_after before (f x) (map f xs) ≡ rises_after (λ a b. before (f a) (f b)) x xs
rises_after_map f before x [] = refl
rises_after_map f before x (y ∷ xs) = ap (λ (b : Bool). cond (before (f x) (f y)) b false) (rises_after_map f before y xs)

rises_map : {A B : Type 0} (f : A → B) (before : B → B → Bool) (xs : List A) → rises before (map f xs) ≡ rises (λ a b. before (f a) (f b)) xs
rises_map f before [] = refl
rises_map f before (x ∷ xs) = rises_after_map f before x xs

sorted_map : {A B : Type 0} (f : A → B) (before : B → B → Bool) (xs : List A) → IsSortedBy (λ a b. before (f a) (f b)) xs → IsSortedBy before (map f xs)
sorted_map f before [] sorted k d low high = absurd (omega (arith, high))
sorted_map {B = B} f before (x ∷ xs) sorted k d low high =
    let size : length (map f (x ∷ xs)) ≡ length (x ∷ xs) = length-map (x ∷ xs) f in
    let within : k + 1 < length (x ∷ xs) = omega (arith, high, size) in
    let first : get_or (map f (x ∷ xs)) k d ≡ f (get_or (x ∷ xs) k x) = get_or-map f (x ∷ xs) k x d (omega (arith, within)) in
    let second : get_or (map f (x ∷ xs)) (k + 1) d ≡ f (get_or (x ∷ xs) (k + 1) x) = get_or-map f (x ∷ xs) (k + 1) x d within in
    ap (λ (b : B). before b (get_or (map f (x ∷ xs)) k d)) second ∙ ap (λ (b : B). before (f (get_or (x ∷ xs) (k + 1) x)) b) first ∙ sorted k x low within

-- the types of objects are types of the table
pub roots_in : (path : List ℕ) (n : ℕ) (types : List GoType) (objects : List Exported) → AreObjectsIn path n types objects → AreBelow n (map (λ o. id_of o.form) objects)
roots_in path n types objects h = All-map (λ (id : TypeId). id.0 < n) (λ (o : Exported). id_of o.form) objects (All-weaker (IsObjectIn path n types) (λ (o : Exported). (id_of o.form).0 < n) (λ o one. one.0) objects h.each)

module _ (t : TypeTable) (path name : List ℕ) (objects : List Exported) (within : AreObjectsIn path (count t) (types_in t) objects) where
  abbrev pub outs : List ObjectOut
  outs = map (λ o. object_in (types_in t) o) objects

  root_is : (n : List ℕ) (f : ExportForm) → IsOwn path (types_in t) n f → type_at (types_in t) (id_of f) ≡ form_root path n (form_in (types_in t) f)
  root_is n (form.Constant id c) own = refl
  root_is n (form.Variable id) own = refl
  root_is n (form.Function id) own = refl
  root_is n (form.Own id) own = own
  root_is n (form.Alias id) own = refl

  roots_are : (os : List Exported) → ((o : Exported) → Contains os o → IsOwn path (types_in t) o.name o.form)
      → map (λ id. type_at (types_in t) id) (map (λ o. id_of o.form) os) ≡ roots path (map (λ o. object_in (types_in t) o) os)
  roots_are [] own = refl
  roots_are (o ∷ os) own =
      ap (λ (x : GoType). x ∷ map (λ id. type_at (types_in t) id) (map (λ o. id_of o.form) os)) (root_is o.name o.form (own o (0, omega arith, refl)))
      ∙ ap (λ (xs : List GoType). form_root path o.name (form_in (types_in t) o.form) ∷ xs) (roots_are os (λ x (k, low, is). own x (suc k, omega (arith, low), is)))

  pub roots_seen : map (λ id. type_at (types_in t) id) (map (λ o. id_of o.form) objects) ≡ roots path outs
  roots_seen = roots_are objects (λ o c. (All-contains (IsObjectIn path (count t) (types_in t)) objects o within.each c).1)

  module _ (ids : List TypeId) (found : AreReached t (declarations_in t) path (map (λ o. id_of o.form) objects) ids) where
    reach : (of : GoType) → Reaches (declarations_in t) path (map (λ id. type_at (types_in t) id) (map (λ o. id_of o.form) objects)) of → Reaches (declarations_in t) path (roots path outs) of
    reach of r = subst (λ (start : List GoType). Reaches (declarations_in t) path start of) roots_seen r

    unreach : (of : GoType) → Reaches (declarations_in t) path (roots path outs) of → Reaches (declarations_in t) path (map (λ id. type_at (types_in t) id) (map (λ o. id_of o.form) objects)) of
    unreach of r = subst (λ (start : List GoType). Reaches (declarations_in t) path start of) (sym roots_seen) r

    -- what can be exported can be listed, and the other way
    pub can_list : CanBeExported (declarations_in t) path outs → AllCanBeListed t path ids
    can_list h id c = h.each (type_at (types_in t) id) (reach (type_at (types_in t) id) (found.sound id c))

    pub can_export : AllCanBeListed t path ids → CanBeExported (declarations_in t) path outs
    can_export h = record {
      each = λ of r n is own. let l = found.all of (unreach of r) in h l.0 l.1 n (l.2 ∙ is) own;
    }

    module _ (types : List ExportedType) (listed : AreListed t path ids (length ids) types) (rise : rises type_stands types ≡ true) where
      abbrev pub gathered : Face
      gathered = record { path = path; name = name; objects = outs; types = map (λ d. defined_in (types_in t) d) types }

      -- each stands for one that is listed
      record Comes (d : DefinedOut) : Type 0 where
        from : ExportedType
        id : TypeId
        has : Contains ids id
        own : IsOwnType t path id from
        is : defined_in (types_in t) from ≡ d

      comes : (d : DefinedOut) → Contains gathered.types d → Comes d
      comes d c =
          let x = unmapped (λ d. defined_in (types_in t) d) types d c in
          let l = listed.each x.0 x.1 in
          record { from = x.0; id = l.2; has = contained ids l.2 l.0 l.3; own = l.4; is = x.2 }

      pub is_gathered : IsGathered (declarations_in t) path name outs gathered
      is_gathered = record {
        export = record {
          path_is = refl;
          name_is = refl;
          objects_are = refl;
          reached = λ d c.
              let x = comes d c in
              let named : type_at (types_in t) x.id ≡ DefinedType (own_name path d.name) = x.own.name ∙ ap (λ (z : DefinedOut). DefinedType (own_name path z.name)) x.is in
              subst (λ (z : GoType). Reaches (declarations_in t) path (roots path outs) z) named (reach (type_at (types_in t) x.id) (found.sound x.id x.has));
          declared = λ d c. let x = comes d c in subst (λ (z : DefinedOut). IsDeclared (declarations_in t) path z) x.is x.own.declared;
          all = λ n own r.
              let l = found.all (DefinedType n) (unreach (DefinedType n) r) in
              let at = read ids l.0 l.1 in
              let d = listed.all at.0 l.0 n at.1 at.2 l.2 own in
              let one : DefinedType n ≡ DefinedType (own_name path d.0.name) = sym l.2 ∙ d.2.name in
              let same : n ≡ own_name path d.0.name = cc in
              (defined_in (types_in t) d.0, mapped (λ d. defined_in (types_in t) d) types d.0 d.1, same);
        };
        rise = rises_map (λ d. defined_in (types_in t) d) defined_before types ∙ rise;
        sorted = λ d c.
            let x = comes d c in
            subst (λ (z : DefinedOut). IsSortedBy method_before z.methods) x.is (sorted_map (λ m. method_of (types_in t) m) method_before x.from.methods x.own.sorted);
      }

-- ---- what is written of it

module _ (ds : Declarations) (path name : List ℕ) (objects : List ObjectOut) (f : Face) (g : IsGathered ds path name objects f) where
  pub export_found : (o : Option (Vec ℕ)) → IfSome o (λ text. IsFaceText f text.items) → IfSome o (λ text. IsExportText ds path name objects text.items)
  export_found None h = tt
  export_found (Some text) h = record { face = f; export = g.export; text = h }

  pub export_only : (o : Option (Vec ℕ)) → (IsFace f → IsSomeAnd o (λ text. text.items ≡ face_text f)) → (bytes : List ℕ) → IsExportText ds path name objects bytes → IsSomeAnd o (λ text. text.items ≡ bytes)
  export_only None only bytes h = only (subst IsFace (sym (one_gathered ds path name objects f h.face g h.export h.text.value)) h.text.value)
  export_only (Some text) only bytes h =
      let one = one_gathered ds path name objects f h.face g h.export h.text.value in
      only (subst IsFace (sym one) h.text.value) ∙ ap face_text one ∙ sym h.text.whole
