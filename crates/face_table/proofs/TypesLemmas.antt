-- The types of a package are declared, one after the other.
use Rattle.std.proofs.Common.{◌≡◌, ℕ, ◌+◌, ◌<◌, ◌≤◌, true, false, if◌then◌else◌, List, [], ◌∷◌, ◌++◌, length, map, take, slice_get, Option, Some, None, option_map, refl, sym, ap, ◌∙◌, subst, arith}
use Rattle.std.specs.Prelude.{All}
use Rattle.std.proofs.lemmas.List.{take_more, take_all, length-map}
use Rattle.std.proofs.lemmas.Option.{slice_get-map, slice_get_within, get_or_from_slice_get}
use Rattle.package_faces.specs.declared.interface.ExportedType.{ExportedType}
use Rattle.package_faces.specs.Declaring.{declaration_out}
use Rattle.package_faces.specs.Faces.{DefinedOut}
use Rattle.package_faces.specs.Interfaces.{defined_in, IsDefinedIn, AreDefinedIn}
use Rattle.package_faces.specs.Reaching.{own_name}
use Rattle.package_faces.proofs.FaceLaws.{defined_stays, defined_grows}
use Rattle.type_model.specs.declared.term.TypeName.{TypeName}
use Rattle.type_model.specs.declared.table.TypeTable.{TypeTable}
use Rattle.type_model.specs.Declarations.{Declaration, Declarations}
use Rattle.type_model.specs.Tables.{IsTable, count, declarations_in, is_same_name, terms_in, types_in}
use Rattle.type_model.proofs.TypeLaws.{extends-itself}
use Rattle.face_table.specs.Fitting.{AreFresh, Declares, DeclaresType, DeclaresTypes, IsStuckAt, IsUnfit, with_one, with_types}
use Rattle.face_table.proofs.DeclareLemmas.{extends_then, unfit_for}
use Rattle.face_table.proofs.GivenLemmas.{fresh_push, with_push}

abbrev pub outs : TypeTable → List ExportedType → List DefinedOut
outs t types = map (λ d. defined_in (types_in t) d) types

-- the first so many are declared
pub record DeclaresFirst (old now : TypeTable) (path : List ℕ) (types : List ExportedType) (i : ℕ) : Type 0 where
  pub fresh : AreFresh path (take i (outs old types)) (declarations_in old)
  pub declares : Declares old now (with_types path (take i (outs old types)) (declarations_in old))

pub none_first : (t : TypeTable) (path : List ℕ) (types : List ExportedType) → IsTable t → DeclaresFirst t t path types 0
none_first t path types table = record {
  fresh = subst (λ (l : List DefinedOut). AreFresh path l (declarations_in t)) (sym (take_none (outs t types))) tt;
  declares = record {
    table = table;
    extends = extends-itself (terms_in t);
    declared = λ name. ap (λ (l : List DefinedOut). with_types path l (declarations_in t) name) (sym (take_none (outs t types)));
  };
} where
  take_none : (xs : List DefinedOut) → take 0 xs ≡ []
  take_none [] = refl
  take_none (x ∷ xs) = refl

one_more : (it : Declaration) (name : TypeName) (a b : Declarations) → ((n : TypeName) → a n ≡ b n) → (n : TypeName) → with_one name it a n ≡ with_one name it b n
one_more it name a b same n = ap (λ (o : Option Declaration). if is_same_name name n then Some it else o) (same n)

module _ (old now : TypeTable) (path : List ℕ) (types : List ExportedType) (i : ℕ) (d : ExportedType) (within : AreDefinedIn (count old) types) (at : slice_get types i ≡ Some d)
    (first : DeclaresFirst old now path types i) where
  its : IsDefinedIn (count old) d
  its = subst (IsDefinedIn (count old)) (get_or_from_slice_get types i d d at) (within.each i d (slice_get_within types i d at))

  pub its_now : IsDefinedIn (count now) d
  its_now = defined_grows (terms_in old) (terms_in now) first.declares.extends d its

  abbrev out : DefinedOut
  out = defined_in (types_in old) d

  same_out : defined_in (types_in now) d ≡ out
  same_out = defined_stays (terms_in old) (terms_in now) first.declares.extends d its

  out_at : slice_get (outs old types) i ≡ Some out
  out_at = slice_get-map (λ d. defined_in (types_in old) d) types i ∙ ap (option_map (λ d. defined_in (types_in old) d)) at

  taken : take (i + 1) (outs old types) ≡ take i (outs old types) ++ out ∷ []
  taken = take_more (outs old types) i out (slice_get_within (outs old types) i out out_at)
      ∙ ap (λ (y : DefinedOut). take i (outs old types) ++ y ∷ []) (get_or_from_slice_get (outs old types) i out out out_at)

  abbrev so_far : Declarations
  so_far = with_types path (take i (outs old types)) (declarations_in old)

  pub first_more : (next : TypeTable) → DeclaresType now next path (defined_in (types_in now) d) true → DeclaresFirst old next path types (i + 1)
  first_more next (none, declares) = record {
    fresh = subst (λ (l : List DefinedOut). AreFresh path l (declarations_in old)) (sym taken)
        (fresh_push path (take i (outs old types)) out (declarations_in old) first.fresh (sym (first.declares.declared (own_name path d.name)) ∙ none));
    declares = record {
      table = declares.table;
      extends = extends_then (terms_in old) (terms_in now) (terms_in next) first.declares.extends declares.extends;
      declared = λ name.
          declares.declared name
          ∙ (ap (λ (o : DefinedOut). with_one (own_name path d.name) (declaration_out o) (declarations_in now) name) same_out
          ∙ (one_more (declaration_out out) (own_name path d.name) (declarations_in now) so_far first.declares.declared name
          ∙ (sym (with_push path (take i (outs old types)) out (declarations_in old) name)
          ∙ ap (λ (l : List DefinedOut). with_types path l (declarations_in old) name) (sym taken))));
    };
  }

  pub first_stuck : (next : TypeTable) → DeclaresType now next path (defined_in (types_in now) d) false → DeclaresTypes old next path (outs old types) false
  first_stuck next unfit = (
    i,
    record {
      of = out;
      there = out_at;
      fresh = first.fresh;
      unfit = unfit_for (declarations_in now) so_far (own_name path d.name) (defined_in (types_in now) d).under out.under first.declares.declared (ap (λ (o : DefinedOut). o.under) same_out) unfit;
    },
  )

-- all of them
pub all_first : (old now : TypeTable) (path : List ℕ) (types : List ExportedType) (i : ℕ) → length types ≤ i → DeclaresFirst old now path types i → DeclaresTypes old now path (outs old types) true
all_first old now path types i end first = (
  subst (λ (l : List DefinedOut). AreFresh path l (declarations_in old)) all first.fresh,
  subst (λ (l : List DefinedOut). Declares old now (with_types path l (declarations_in old))) all first.declares,
) where
  all : take i (outs old types) ≡ outs old types
  all = take_all i (outs old types) (omega (arith, length-map types (λ d. defined_in (types_in old) d), end))
