-- What is listed of types, one type more.
use Rattle.std.proofs.Common.{◌≡◌, ◌⊎◌, inl, inr, ℕ, ◌+◌, ◌<◌, true, false, List, [], ◌∷◌, ◌++◌, map, slice_get, Option, option_map, Some, None, refl, sym, ap, subst, ◌∙◌, arith}
use Rattle.std.specs.List.{Contains}
use Rattle.std.specs.List.Sorted.{IsPermutation, IsSortedBy}
use Rattle.std.specs.Cmp.{IsTotalOrder}
use Rattle.std.specs.Str.{bytes_eq}
use Rattle.std.proofs.lemmas.Slice.Eq.{bytes_eq-Decides}
use Rattle.std.specs.Ordering.{is_lt, nat_cmp, ordering_reverse, ordering_then}
use Rattle.std.specs.Cmp.Lexicographic.{slice_cmp}
use Rattle.std.specs.declared.cmp.Ordering.{Ordering}
use Rattle.std.specs.declared.cmp.Ordering.TheVariants.{Less, Equal, Greater}
use Rattle.std.proofs.lemmas.Cmp.{nat_list_cmp_total, on_total, then_total}
use Rattle.std.proofs.lemmas.List.Elements.{All-contains, All-contains_itself, All-weaker, Contains-push, Contains-push_cases, Contains-append_left}
use Rattle.std.proofs.lemmas.List.Sorted.{Contains-permutation, IsPermutation-sym}
use Rattle.std.proofs.lemmas.Option.{same_Some, slice_get_within}
use Rattle.gv_base.proofs.FileLemmas.{same-path}
use Rattle.type_model.specs.declared.term.TypeId.{TypeId}
use Rattle.type_model.specs.declared.term.TypeName.{TypeName}
use Rattle.type_model.specs.declared.term.Method.{Method}
use Rattle.type_model.specs.GoTypes.{GoType, DefinedType, AreBelow, type_at}
use Rattle.type_model.specs.declared.table.TypeTable.{TypeTable}
use Rattle.std.specs.Option.{option_map_or}
use Rattle.gv_bytes.proofs.Options.{some_is}
use Rattle.type_model.specs.Parts.{GoMethod, method_of}
use Rattle.type_model.specs.Declarations.{Declaration, Declarations, under_of, declared_methods}
use Rattle.type_model.specs.Tables.{IsTable, types_in, count, declarations_in}
use Rattle.type_model.proofs.TypeLaws.{push_cases}
use Rattle.package_faces.specs.Orders.{rises}
use Rattle.package_faces.specs.declared.interface.ExportedType.{ExportedType}
use Rattle.package_faces.specs.Interfaces.{IsDefinedIn, AreDefinedIn}
use Rattle.package_faces.specs.Reaching.{own_name}
use Rattle.export_text.specs.Searching.{AreReached, Once}
use Rattle.export_text.specs.Listing.{AreListed, AreNamedOnce, CanBeListed, IsForeign, IsListedIn, IsOwnType, IsPlain, method_stands, type_stands}
use Rattle.export_text.proofs.SearchLaws.{at_or_before, contained}
use Rattle.export_text.proofs.SortLaws.{Apart, apart_permuted, sorted_rises}

pub numbered_total : IsTotalOrder (λ (a b : Method). ordering_then (slice_cmp nat_cmp a.name b.name) (slice_cmp nat_cmp a.package b.package))
numbered_total = then_total (on_total (λ (m : Method). m.name) nat_list_cmp_total) (on_total (λ (m : Method). m.package) nat_list_cmp_total)

numbered : ℕ → TypeId
numbered n = record { 0 = n }

same_id : (a b : TypeId) → a.0 ≡ b.0 → a ≡ b
unfolding numbered
same_id a b e = ap numbered e

-- ---- whose type it is

pub not_own : (path : List ℕ) (g : GoType) (name : TypeName) → g ≡ DefinedType name → bytes_eq name.package path ≡ false → IsForeign path g
not_own path g name is other n same own =
    let one : DefinedType name ≡ DefinedType n = sym is ∙ same in
    let names : name ≡ n = cc in
    let here : bytes_eq name.package path ≡ true = (bytes_eq-Decides name.package path).1 (ap (λ (x : TypeName). x.package) names ∙ own) in
    absurd (let wrong = here in let right = other in cc)

pub foreign_can : (ds : Declarations) (path : List ℕ) (g : GoType) → IsForeign path g → CanBeListed ds path g
foreign_can ds path g foreign n is own = absurd (foreign n is own)

pub plain_can : (ds : Declarations) (path : List ℕ) (g : GoType) (name : TypeName) → g ≡ DefinedType name → IsPlain ds name → CanBeListed ds path g
plain_can ds path g name named plain n is own =
    let one : DefinedType name ≡ DefinedType n = sym named ∙ is in
    let names : name ≡ n = cc in
    subst (λ (x : TypeName). IsPlain ds x) names plain

-- ---- what a defined type is declared with

record Has (o : Option Declaration) (u : GoType) : Type 0 where
  declaration : Declaration
  is : o ≡ Some declaration
  under : u ≡ declaration.under

has_declaration : (o : Option Declaration) (u : GoType) → Some u ≡ option_map (λ (d : Declaration). d.under) o → Has o u
has_declaration None u e = absurd cc
has_declaration (Some d) u e = record { declaration = d; is = refl; under = some_is u d.under e }

module _ (t : TypeTable) (id : TypeId) (name : TypeName) (named : type_at (types_in t) id ≡ DefinedType name) where
  pub not_declared : ◌≡◌ {A = Option GoType} None (under_of (declarations_in t) (type_at (types_in t) id)) → IsPlain (declarations_in t) name → ⊥
  not_declared none plain =
      let e : ◌≡◌ {A = Option GoType} None (option_map (λ (d : Declaration). d.under) (Some plain.declaration)) = none ∙ ap (under_of (declarations_in t)) named ∙ ap (option_map (λ (d : Declaration). d.under)) plain.is in
      absurd cc

  module _ (global : name.local ≡ 0) (u : GoType) (under : Some u ≡ under_of (declarations_in t) (type_at (types_in t) id)) where
    had : Has (declarations_in t name) u
    had = has_declaration (declarations_in t name) u (under ∙ ap (under_of (declarations_in t)) named)

    pub plain_is : IsPlain (declarations_in t) name
    plain_is = record { global = global; declaration = had.declaration; is = had.is }

  pub own_type_is : (d : ExportedType) → name.local ≡ 0 → d.name ≡ name.name → Some (type_at (types_in t) d.under) ≡ under_of (declarations_in t) (type_at (types_in t) id)
      → IsPermutation (declared_methods (declarations_in t) (type_at (types_in t) id)) (map (λ (m : Method). method_of (types_in t) m) d.methods) → IsSortedBy method_stands d.methods → IsDefinedIn (count t) d → IsOwnType t name.package id d
  own_type_is d global same under moved sorted below =
      let ds = declarations_in t in
      let own : name ≡ own_name name.package d.name =
      ap (λ (n : ℕ). record { «package» = name.package; name = name.name; local = n }) global ∙ ap (λ (x : List ℕ). own_name name.package x) (sym same) in
      let h = has_declaration (ds name) (type_at (types_in t) d.under) (under ∙ ap (under_of ds) named) in
      let methods : declared_methods ds (type_at (types_in t) id) ≡ h.declaration.methods = ap (declared_methods ds) named ∙ ap (λ (o : Option Declaration). option_map_or (λ (d : Declaration). d.methods) o []) h.is in
      record {
        name = named ∙ ap DefinedType own;
        declared = record {
          declaration = h.declaration;
          is = ap ds (sym own) ∙ h.is;
          under = h.under;
          methods = subst (λ (l : List GoMethod). IsPermutation l (map (λ (m : Method). method_of (types_in t) m) d.methods)) methods moved;
        };
        sorted = sorted;
        below = below;
      }

-- ---- none yet

pub none_listed : (t : TypeTable) (path : List ℕ) (ids : List TypeId) → AreListed t path ids 0 []
none_listed t path ids = record {
  each = λ d (k, low, is). absurd (omega (arith, low));
  all = λ k id name low e is own. absurd (omega (arith, low));
}

pub none_named : AreNamedOnce []
none_named = record { once = λ i j a b first second same. absurd cc }

-- ---- one type more

module _ (t : TypeTable) (path : List ℕ) (ids : List TypeId) (k : ℕ) (types : List ExportedType) (id : TypeId) (l : AreListed t path ids k types) (here : slice_get ids k ≡ Some id) where
  -- of it nothing is listed
  pub nothing_listed : IsForeign path (type_at (types_in t) id) → AreListed t path ids (k + 1) types
  nothing_listed none = record {
    each = λ d c. let e = l.each d c in (e.0, omega (arith, e.1), e.2, e.3, e.4);
    all = λ j x name low e is own. elim (at_or_before j k low) [
      | inl same ↦
          let one : id ≡ x = same_Some id x (sym here ∙ (ap (λ i. slice_get ids i) (sym same) ∙ e)) in
          absurd (none name (ap (λ (z : TypeId). type_at (types_in t) z) one ∙ is) own)
      | inr less ↦ l.all j x name less e is own
    ];
  }

  module _ (once : AreNamedOnce types) (table : IsTable t) (below : AreBelow (count t) ids) (distinct : Once ids) (d : ExportedType) (after : List ExportedType) (grown : after ≡ types ++ d ∷ []) (own : IsOwnType t path id d) where
    fresh : (x : ExportedType) → Contains types x → x.name ≡ d.name → ⊥
    fresh x c same =
        let e = l.each x c in
        let one : type_at (types_in t) e.2 ≡ type_at (types_in t) id = e.4.name ∙ ap (λ (n : List ℕ). DefinedType (own_name path n)) same ∙ sym own.name in
        let low = slice_get_within ids e.0 e.2 e.3 in
        let there = All-contains (λ (x : TypeId). x.0 < count t) ids e.2 below (contained ids e.2 e.0 e.3) in
        let mine = All-contains (λ (x : TypeId). x.0 < count t) ids id below (contained ids id k here) in
        let number : e.2.0 ≡ id.0 = table.terms.once e.2.0 id.0 there mine one in
        let at : e.0 ≡ k = distinct e.0 k id (e.3 ∙ ap Some (same_id e.2 id number)) here in
        absurd (omega (arith, at, e.1))

    once_more : (i j : ℕ) (a b : ExportedType) → slice_get (types ++ d ∷ []) i ≡ Some a → slice_get (types ++ d ∷ []) j ≡ Some b → a.name ≡ b.name → i ≡ j
    once_more i j a b first second same = elim (push_cases types d i a first) [
      | inl was ↦ elim (push_cases types d j b second) [
        | inl too ↦ once.once i j a b was too same
        | inr (at, is) ↦ absurd (fresh a (contained types a i was) (same ∙ ap (λ (x : ExportedType). x.name) is))
      ]
      | inr (at, is) ↦ elim (push_cases types d j b second) [
        | inl too ↦ absurd (fresh b (contained types b j too) (sym same ∙ ap (λ (x : ExportedType). x.name) is))
        | inr (there, are) ↦ at ∙ sym there
      ]
    ]

    pushed : AreListed t path ids (k + 1) (types ++ d ∷ [])
    pushed = record {
      each = λ x c. elim (Contains-push_cases types d x c) [
        | inl was ↦ let e = l.each x was in (e.0, omega (arith, e.1), e.2, e.3, e.4)
        | inr same ↦ (k, omega arith, id, here, subst (λ (z : ExportedType). IsOwnType t path id z) same own)
      ];
      all = λ j x name low e is belongs. elim (at_or_before j k low) [
        | inl same ↦
            let one : id ≡ x = same_Some id x (sym here ∙ (ap (λ i. slice_get ids i) (sym same) ∙ e)) in
            (d, Contains-push types d, subst (λ (z : TypeId). IsOwnType t path z d) one own)
        | inr less ↦ let w = l.all j x name less e is belongs in (w.0, Contains-append_left types (d ∷ []) w.0 w.1, w.2)
      ];
    }

    pub one_listed : AreListed t path ids (k + 1) after
    one_listed = subst (λ (l : List ExportedType). AreListed t path ids (k + 1) l) (sym grown) pushed

    pub one_named : AreNamedOnce after
    one_named = subst AreNamedOnce (sym grown) (record { once = once_more })

pub listed_more : (t : TypeTable) (path : List ℕ) (ids : List TypeId) (k : ℕ) (types after : List ExportedType) (id : TypeId) → slice_get ids k ≡ Some id → IsTable t → AreBelow (count t) ids → Once ids
    → AreListed t path ids k types → AreNamedOnce types → IsListedIn t path id types after → AreListed t path ids (k + 1) after × AreNamedOnce after
listed_more t path ids k types after id here table below distinct l once (Some d, is, grown) =
    (one_listed t path ids k types id l here once table below distinct d after grown is, one_named t path ids k types id l here once table below distinct d after grown is)
listed_more t path ids k types after id here table below distinct l once (None, is, same) =
    (subst (λ (l : List ExportedType). AreListed t path ids (k + 1) l) (sym same) (nothing_listed t path ids k types id l here is), subst AreNamedOnce (sym same) once)

-- ---- sorted

tells_apart : (a b : List ℕ) (o : Ordering) → slice_cmp nat_cmp a b ≡ o → (a ≡ b → ⊥) → (is_lt (slice_cmp nat_cmp a b) ≡ true) ⊎ (is_lt (slice_cmp nat_cmp b a) ≡ true)
tells_apart a b Less e apart = inl (ap is_lt e)
tells_apart a b Equal e apart = absurd (apart (same-path a b e))
tells_apart a b Greater e apart = inr (ap is_lt (nat_list_cmp_total.antisymm b a ∙ ap ordering_reverse e))

names_apart : (types : List ExportedType) → AreNamedOnce types → Apart type_stands types
names_apart types once i j a b apart first second =
    tells_apart a.name b.name (slice_cmp nat_cmp a.name b.name) refl (λ same. apart (once.once i j a b first second same))

-- they rise when they are sorted
pub listed_rise : (types sorted : List ExportedType) → AreNamedOnce types → IsPermutation types sorted → IsSortedBy type_stands sorted → rises type_stands sorted ≡ true
listed_rise types sorted once moved order = sorted_rises type_stands sorted (apart_permuted type_stands types sorted moved (names_apart types once)) order

-- they are the same in any order
pub listed_still : (t : TypeTable) (path : List ℕ) (ids : List TypeId) (many : ℕ) (types sorted : List ExportedType) → IsPermutation types sorted → AreListed t path ids many types → AreListed t path ids many sorted
listed_still t path ids many types sorted moved l = record {
  each = λ d c. l.each d (Contains-permutation sorted types d (IsPermutation-sym types sorted moved) c);
  all = λ k id name low e is own. let w = l.all k id name low e is own in (w.0, Contains-permutation types sorted w.0 moved w.1, w.2);
}

-- they are types of the table
pub listed_in : (t : TypeTable) (path : List ℕ) (ids : List TypeId) (many : ℕ) (types : List ExportedType) → AreListed t path ids many types → AreDefinedIn (count t) types
listed_in t path ids many types l = record {
  each = All-weaker (Contains types) (IsDefinedIn (count t)) (λ d c. let e = l.each d c in e.4.below) types (All-contains_itself types);
}

-- what is reached is of the table
pub reached_below : (t : TypeTable) (ds : Declarations) (path : List ℕ) (start ids : List TypeId) → AreReached t ds path start ids → AreBelow (count t) ids
reached_below t ds path start ids r = All-weaker (Contains ids) (λ (id : TypeId). id.0 < count t) r.within ids (All-contains_itself ids)
