-- The packages of a list are declared in a table, one after the other.
use Rattle.std.proofs.Common.{◌≡◌, ◌⊎◌, inl, inr, ℕ, ◌+◌, ◌<◌, ◌≤◌, ◌==◌, Bool, true, false, if◌then◌else◌, List, [], ◌∷◌, ◌++◌, length, map, take, slice_get, Option, Some, None, option_map, refl, sym, ap, ◌∙◌, subst, arith}
use Rattle.std.specs.Prelude.{All}
use Rattle.std.proofs.Math.Path.{fun_ext}
use Rattle.std.specs.Str.{bytes_eq}
use Rattle.std.proofs.lemmas.List.{take_more, take_all, length-map}
use Rattle.std.proofs.lemmas.Option.{same_Some, slice_get-map, slice_get_within, get_or_from_slice_get}
use Rattle.package_faces.specs.declared.interface.Interface.{Interface}
use Rattle.package_faces.specs.Faces.{Face}
use Rattle.package_faces.specs.Interfaces.{face_of, faces_of, IsInterfaceIn, AreInterfacesIn}
use Rattle.package_faces.proofs.FaceLaws.{face_stays, interface_grows}
use Rattle.type_model.specs.declared.term.TypeName.{TypeName}
use Rattle.type_model.specs.declared.table.TypeTable.{TypeTable}
use Rattle.type_model.specs.Declarations.{Declaration, Declarations}
use Rattle.type_model.specs.Tables.{IsTable, count, declarations_in, terms_in, types_in}
use Rattle.type_model.proofs.TypeLaws.{extends-itself}
use Rattle.face_table.specs.Fitting.{AreFit, AreFresh, Declares, DeclaresFace, DeclaresTypes, IsStuckAt, counts_at, given, universe, with_face, with_types}
use Rattle.face_table.proofs.DeclareLemmas.{extends_then}
use Rattle.face_table.proofs.FaceLemmas.{by_error, by_own, by_local, found_in, given_more, not_stuck}
use Rattle.face_table.proofs.FitLemmas.{are_fit}

-- ---- one package

pub face_apart : (t : TypeTable) (own : List ℕ) (faces : List Face) (k : ℕ) (f : Face) → IsTable t → counts_at own faces k f ≡ false → DeclaresFace t t own faces k f true
face_apart t own faces k f table apart = (
  λ is. absurd (let never : false ≡ true = sym apart ∙ is in cc),
  record {
    table = table;
    extends = extends-itself (terms_in t);
    declared = λ name. sym (ap (λ (b : Bool). (if b then with_types f.path f.types (declarations_in t) else declarations_in t) name) apart);
  },
)

pub face_told : (old new : TypeTable) (own : List ℕ) (faces : List Face) (k : ℕ) (f : Face) (fit : Bool) → counts_at own faces k f ≡ true → DeclaresTypes old new f.path f.types fit
    → DeclaresFace old new own faces k f fit
face_told old new own faces k f true is (fresh, declares) = (
  λ counts. fresh,
  record {
    table = declares.table;
    extends = declares.extends;
    declared = λ name. declares.declared name ∙ sym (ap (λ (b : Bool). (if b then with_types f.path f.types (declarations_in old) else declarations_in old) name) is);
  },
)
face_told old new own faces k f false is stuck = (is, stuck)

-- ---- all packages

nothing_found : (own : List ℕ) (name : TypeName) → None ≡ by_own own name (by_local name (found_in [] name))
nothing_found own name = outer (bytes_eq own name.package) where
  inner : (b : Bool) → None ≡ (if b then found_in [] name else None)
  inner true = refl
  inner false = refl

  outer : (b : Bool) → None ≡ (if b then None else by_local name (found_in [] name))
  outer true = refl
  outer false = inner (name.local == 0)

take_none : (xs : List Face) → take 0 xs ≡ []
take_none [] = refl
take_none (x ∷ xs) = refl

-- what the first so many packages declare is declared, and each type of them was fresh in its turn
pub record GivesFirst (old now : TypeTable) (own : List ℕ) (faces : List Face) (k : ℕ) : Type 0 where
  pub declares : Declares old now (given own (take k faces))
  pub fresh : (j : ℕ) (f : Face) → j < k → slice_get faces j ≡ Some f → counts_at own faces j f ≡ true → AreFresh f.path f.types (given own (take j faces))

pub none_given : (t : TypeTable) (own : List ℕ) (faces : List Face) → IsTable t → ((name : TypeName) → declarations_in t name ≡ universe name) → GivesFirst t t own faces 0
none_given t own faces table error = record {
  declares = record {
    table = table;
    extends = extends-itself (terms_in t);
    declared = λ name. error name ∙ (ap (by_error name) (nothing_found own name) ∙ ap (λ (l : List Face). given own l name) (sym (take_none faces)));
  };
  fresh = λ j f low. absurd (omega (arith, low));
}

below_or : (j k : ℕ) → j < k + 1 → (j < k) ⊎ (j ≡ k)
below_or j k low = grind arith

module _ (old now : TypeTable) (own : List ℕ) (list : List Interface) (k : ℕ) (i : Interface) (within : AreInterfacesIn (count old) (types_in old) list) (at : slice_get list k ≡ Some i)
    (before : GivesFirst old now own (faces_of (types_in old) list) k) where
  abbrev faces : List Face
  faces = faces_of (types_in old) list

  abbrev f : Face
  f = face_of (types_in old) i

  its : IsInterfaceIn (count old) (types_in old) i
  its = subst (IsInterfaceIn (count old) (types_in old)) (get_or_from_slice_get list k i i at) (within.each k i (slice_get_within list k i at))

  pub its_now : IsInterfaceIn (count now) (types_in now) i
  its_now = interface_grows (terms_in old) (terms_in now) before.declares.extends i its

  same : face_of (types_in now) i ≡ f
  same = face_stays (terms_in old) (terms_in now) before.declares.extends i its

  face_at : slice_get faces k ≡ Some f
  face_at = slice_get-map (λ i. face_of (types_in old) i) list k ∙ ap (option_map (λ i. face_of (types_in old) i)) at

  taken : take (k + 1) faces ≡ take k faces ++ f ∷ []
  taken = take_more faces k f (slice_get_within faces k f face_at) ∙ ap (λ (y : Face). take k faces ++ y ∷ []) (get_or_from_slice_get faces k f f face_at)

  ext : declarations_in now ≡ given own (take k faces)
  ext = fun_ext before.declares.declared

  -- the types of one package more were fresh
  more_fresh : (counts_at own faces k f ≡ true → AreFresh f.path f.types (declarations_in now)) → (j : ℕ) (g : Face) → j < k + 1 → slice_get faces j ≡ Some g → counts_at own faces j g ≡ true
      → AreFresh g.path g.types (given own (take j faces))
  more_fresh fresh j g low at_j counts = elim (below_or j k low) [
    | inl less ↦ before.fresh j g less at_j counts
    | inr here ↦
        let one : g ≡ f = same_Some g f (sym at_j ∙ (ap (slice_get faces) here ∙ face_at)) in
        let told : counts_at own faces k f ≡ true = subst (λ (x : Face). counts_at own faces k x ≡ true) one (subst (λ (n : ℕ). counts_at own faces n g ≡ true) here counts) in
        subst (λ (n : ℕ). AreFresh g.path g.types (given own (take n faces))) (sym here)
        (subst (λ (x : Face). AreFresh x.path x.types (given own (take k faces))) (sym one) (subst (AreFresh f.path f.types) ext (fresh told)))
  ]

  pub more_given : (next : TypeTable) → DeclaresFace now next own faces k (face_of (types_in now) i) true → GivesFirst old next own faces (k + 1)
  more_given next told = by (subst (λ (g : Face). DeclaresFace now next own faces k g true) same told) where
    by : DeclaresFace now next own faces k f true → GivesFirst old next own faces (k + 1)
    by (fresh, declares) = record {
      declares = record {
        table = declares.table;
        extends = extends_then (terms_in old) (terms_in now) (terms_in next) before.declares.extends declares.extends;
        declared = λ name.
            declares.declared name
            ∙ (ap (λ (ds : Declarations). with_face own faces k f ds name) ext
            ∙ (given_more own faces k f face_at (λ is. subst (AreFresh f.path f.types) ext (fresh is)) name
            ∙ ap (λ (l : List Face). given own l name) (sym taken)));
      };
      fresh = more_fresh fresh;
    }

  pub stuck_given : (next : TypeTable) → DeclaresFace now next own faces k (face_of (types_in now) i) false → AreFit own faces → ⊥
  stuck_given next told fit = by (subst (λ (g : Face). DeclaresFace now next own faces k g false) same told) where
    by : DeclaresFace now next own faces k f false → ⊥
    by (is, (j, stuck)) = not_stuck own faces k f face_at is fit j (subst (λ (ds : Declarations). IsStuckAt f.path f.types ds j) ext stuck)

module _ (old now : TypeTable) (own : List ℕ) (list : List Interface) (k : ℕ) (end : length list ≤ k) (before : GivesFirst old now own (faces_of (types_in old) list) k) where
  pub all_given : Declares old now (given own (faces_of (types_in old) list))
  all_given = subst (λ (l : List Face). Declares old now (given own l)) all before.declares where
    all : take k (faces_of (types_in old) list) ≡ faces_of (types_in old) list
    all = take_all k (faces_of (types_in old) list) (omega (arith, length-map list (λ i. face_of (types_in old) i), end))

  pub all_fit : AreFit own (faces_of (types_in old) list)
  all_fit =
      are_fit own (faces_of (types_in old) list) now all_given.table all_given.declared
      (λ j f at. before.fresh j f (low j (slice_get_within (faces_of (types_in old) list) j f at)) at)
    where
      low : (j : ℕ) → j < length (faces_of (types_in old) list) → j < k
      low j within = omega (arith, length-map list (λ i. face_of (types_in old) i), end, within)
