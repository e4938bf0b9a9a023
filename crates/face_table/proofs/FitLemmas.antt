-- What is declared is fit.
use Rattle.std.proofs.Common.{◌≡◌, ℕ, zero, suc, ◌&&◌, Bool, true, false, not, cond, if◌then◌else◌, List, [], ◌∷◌, map, take, slice_get, option_and_then, option_map, Option, Some, None, refl, sym, ap, ◌∙◌, subst}
use Rattle.std.specs.List.{position_from}
use Rattle.std.specs.Str.{bytes_eq}
use Rattle.std.proofs.lemmas.Option.{same_Some}
use Rattle.std.proofs.lemmas.Slice.Eq.{bytes_eq-Decides}
use Rattle.go_tree.specs.Lexeme.{place_of}
use Rattle.package_faces.specs.Declaring.{first_named, path_of, defined_name, declaration_out, declared_in}
use Rattle.package_faces.specs.Faces.{DefinedOut, Face}
use Rattle.package_faces.specs.Reaching.{own_name}
use Rattle.type_model.specs.declared.term.Declared.{Declared}
use Rattle.type_model.specs.declared.term.TypeName.{TypeName}
use Rattle.type_model.specs.declared.table.TypeTable.{TypeTable}
use Rattle.type_model.specs.Declarations.{Declaration, Declarations}
use Rattle.type_model.specs.GoTypes.{is_defined}
use Rattle.type_model.specs.Tables.{IsTable, declarations_in, declaration_of, declared_as, is_same_name, types_in}
use Rattle.type_model.proofs.DeclarationLaws.{declared_from}
use Rattle.type_model.proofs.EndLaws.{meets_as, none_holds_itself}
use Rattle.typed_tree.specs.Universe.{error_name}
use Rattle.unit_read.specs.Units.{error_declaration}
use Rattle.face_table.specs.Fitting.{AreFit, AreFresh, Counts, counts_at, given, is_place, names_in, paths_in, with_one}
use Rattle.face_table.proofs.FaceLemmas.{by_own, by_local, first_at, found_in, true_place}
use Rattle.face_table.proofs.GivenLemmas.{position_up, same_own}

-- what a table has declared has no defined type as its underlying type
pub declared_plain : (t : TypeTable) (name : TypeName) (d : Declaration) → IsTable t → declarations_in t name ≡ Some d → is_defined d.under ≡ false
declared_plain t name d table is = by (declared_as name (types_in t) t.declared.items) refl is where
  by : (o : Option Declared) → declared_as name (types_in t) t.declared.items ≡ o → option_map (λ x. declaration_of (types_in t) x) o ≡ Some d → is_defined d.under ≡ false
  by None at e = absurd cc
  by (Some x) at e =
      let beside = declared_from name (types_in t) t.declared.items x at in
      subst (λ (y : Declaration). is_defined y.under ≡ false) (same_Some (declaration_of (types_in t) x) d e) (table.plain beside.0 x beside.1)

-- a type that is fresh wasn't declared before, and is the first of its name
fresh_at : (path : List ℕ) (types : List DefinedOut) (ds : Declarations) (i : ℕ) (d : DefinedOut) → AreFresh path types ds → slice_get types i ≡ Some d
    → (ds (own_name path d.name) ≡ None) × (place_of (map defined_name types) d.name ≡ Some i)
fresh_at path [] ds i d fresh there = absurd cc
fresh_at path (x ∷ types) ds zero d fresh there =
    let one : x ≡ d = same_Some x d there in (
      subst (λ (y : DefinedOut). ds (own_name path y.name) ≡ None) one fresh.0,
      ap (λ (b : Bool). cond b (Some 0) (position_from (λ spelling. bytes_eq spelling d.name) 1 (map defined_name types)))
          (ap (λ (y : DefinedOut). bytes_eq y.name d.name) one ∙ (bytes_eq-Decides d.name d.name).1 refl),
    )
fresh_at path (x ∷ types) ds (suc i) d fresh there =
    by (bytes_eq x.name d.name) refl (fresh_at path types (with_one (own_name path x.name) (declaration_out x) ds) i d fresh.1 there)
  where
    by : (b : Bool) → bytes_eq x.name d.name ≡ b
        → (with_one (own_name path x.name) (declaration_out x) ds (own_name path d.name) ≡ None) × (place_of (map defined_name types) d.name ≡ Some i)
        → (ds (own_name path d.name) ≡ None) × (place_of (map defined_name (x ∷ types)) d.name ≡ Some (suc i))
    by true e rest =
        let never : Some (declaration_out x) ≡ None =
        ap (λ (b : Bool). if b then Some (declaration_out x) else ds (own_name path d.name)) (sym (same_own path x.name d.name ∙ e)) ∙ rest.0 in
        absurd cc
    by false e rest = (
      ap (λ (b : Bool). if b then Some (declaration_out x) else ds (own_name path d.name)) (sym (same_own path x.name d.name ∙ e)) ∙ rest.0,
      ap (λ (b : Bool). cond b (Some 0) (position_from (λ spelling. bytes_eq spelling d.name) 1 (map defined_name types))) e
          ∙ (position_up (λ spelling. bytes_eq spelling d.name) 0 (map defined_name types) ∙ ap (option_map suc) rest.1),
    )

-- ---- a type of a package that counts

module _ (own : List ℕ) (faces : List Face) (k i : ℕ) (f : Face) (d : DefinedOut) (counts : Counts own faces k f) (there : slice_get f.types i ≡ Some d)
    (fresh : AreFresh f.path f.types (given own (take k faces))) where
  abbrev its_name : TypeName
  its_name = own_name f.path d.name

  its_fresh : (given own (take k faces) its_name ≡ None) × (place_of (names_in f) d.name ≡ Some i)
  its_fresh = fresh_at f.path f.types (given own (take k faces)) i d fresh there

  its_place : place_of (names_in f) d.name ≡ Some i
  its_place = its_fresh.1

  not_error : is_same_name its_name error_name ≡ false
  not_error = by (is_same_name its_name error_name) refl where
    by : (b : Bool) → is_same_name its_name error_name ≡ b → is_same_name its_name error_name ≡ false
    by false e = e
    by true e =
        let never : Some error_declaration ≡ None =
        ap (λ (b : Bool). if b then Some error_declaration else by_own own its_name (by_local its_name (found_in (take k faces) its_name))) (sym e) ∙ its_fresh.0 in
        absurd cc

  its_given : given own faces its_name ≡ Some (declaration_out d)
  its_given =
      ap (λ (b : Bool). if b then Some error_declaration else by_own own its_name (by_local its_name (found_in faces its_name))) not_error
      ∙ (ap (λ (b : Bool). if b then None else found_in faces its_name) counts.2
      ∙ (ap (option_and_then (declared_in d.name)) (first_at path_of f.path faces k f counts.0 counts.1)
      ∙ ap (option_map declaration_out) (first_at defined_name d.name f.types i d there its_place)))

-- whether it counts, of one that does
counts_told : (own : List ℕ) (faces : List Face) (k : ℕ) (f : Face) → Counts own faces k f → counts_at own faces k f ≡ true
counts_told own faces k f counts = ap (λ (b : Bool). not b && is_place k (place_of (paths_in faces) f.path)) counts.2 ∙ true_place k (place_of (paths_in faces) f.path) counts.1

-- what a table has declared, each type in its turn, is fit
pub are_fit : (own : List ℕ) (faces : List Face) (t : TypeTable) → IsTable t → ((name : TypeName) → declarations_in t name ≡ given own faces name)
    → ((k : ℕ) (f : Face) → slice_get faces k ≡ Some f → counts_at own faces k f ≡ true → AreFresh f.path f.types (given own (take k faces))) → AreFit own faces
are_fit own faces t table declared fresh = record {
  once = λ k i f d counts there. its_place own faces k i f d counts there (turn k f counts);
  other = λ k i f d counts there. not_error own faces k i f d counts there (turn k f counts);
  plain = λ k i f d counts there. declared_plain t (own_name f.path d.name) (declaration_out d) table (at_last k i f d counts there);
  ends = λ k i f d counts there met.
      none_holds_itself (declarations_in t) table.ends (own_name f.path d.name) (declaration_out d) (at_last k i f d counts there)
      (meets_as (declarations_in t) (given own faces) (λ name. sym (declared name)) (own_name f.path d.name) d.under met);
} where
  turn : (k : ℕ) (f : Face) → Counts own faces k f → AreFresh f.path f.types (given own (take k faces))
  turn k f counts = fresh k f counts.0 (counts_told own faces k f counts)

  at_last : (k i : ℕ) (f : Face) (d : DefinedOut) → Counts own faces k f → slice_get f.types i ≡ Some d → declarations_in t (own_name f.path d.name) ≡ Some (declaration_out d)
  at_last k i f d counts there = declared (own_name f.path d.name) ∙ its_given own faces k i f d counts there (turn k f counts)
