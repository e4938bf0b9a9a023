-- Functions by name and by number, in code.
use Rattle.std.proofs.Common.{◌≡◌, ◌<◌, ◌+◌, ◌==◌, ℕ, zero, suc, Bool, true, false, List, [], ◌∷◌, map, length, Option, Some, None, refl, sym, ap, ◌∙◌, subst, if◌then◌else◌, arith, is_some}
use Rattle.std.specs.Prelude.{slice_get, bytes_eq, option_and_then, ◌&&◌}
use Rattle.std.specs.Option.{option_map_or}
use Rattle.std.proofs.lemmas.Bool.{eq-eqb}
use Rattle.std.proofs.lemmas.Option.{slice_get_within}
use Rattle.fact_codec.specs.declared.wraps.WrapKind.{WrapKind}
use Rattle.fact_codec.specs.declared.wraps.WrapKind.TheVariants as wrap
use Rattle.fact_codec.specs.declared.wraps.Wraps.{Wraps}
use Rattle.fact_codec.specs.declared.wraps.Wraps.TheVariants as wraps
use Rattle.fact_codec.specs.Kinds.{has_kind}
use Rattle.go_tree.specs.declared.tree.NodeRef.{NodeRef}
use Rattle.least.specs.Tables.{Member, member}
use Rattle.own_functions.specs.declared.functions.Declared.{Declared}
use Rattle.own_functions.specs.Functions.{Named, name_in, functions, names, first_of, number}
use Rattle.own_functions.specs.InCode.{named_in}
use Rattle.own_functions.proofs.NameLemmas.{place_there, mapped_there}
use Rattle.typed_marks.specs.declared.item.Item.{Item}
use Rattle.typed_marks.specs.Meanings.{Meaning}
use Rattle.unit_read.specs.Units.{Unit}
use Rattle.vet_printf.specs.declared.buckets.Buckets.{Buckets}
use Rattle.vet_printf.specs.declared.known.Known.{Known}
use Rattle.vet_printf.specs.Knowing.{has_number, own_place}
use Rattle.vet_printf.specs.Walk.{stands_at, number_if, number_named, owner_number, declared_name, Given, both_of, contribution, after, walk_nodes, walk_files, Fills, IsSized, AreFilled}
use Rattle.vet_printf.specs.Wraps.{number_of}
use Rattle.vet_printf.proofs.ReaderLemmas.{same_some}

-- ---- kinds

pub kind_had : (fact : Wraps) (kind : WrapKind) → has_kind fact kind ≡ has_number (number_of kind) fact
kind_had wraps.Print wrap.Print = refl
kind_had wraps.Print wrap.Printf = refl
kind_had wraps.Print wrap.Errorf = refl
kind_had wraps.Printf wrap.Print = refl
kind_had wraps.Printf wrap.Printf = refl
kind_had wraps.Printf wrap.Errorf = refl
kind_had wraps.PrintPrintf wrap.Print = refl
kind_had wraps.PrintPrintf wrap.Printf = refl
kind_had wraps.PrintPrintf wrap.Errorf = refl
kind_had wraps.Errorf wrap.Print = refl
kind_had wraps.Errorf wrap.Printf = refl
kind_had wraps.Errorf wrap.Errorf = refl
kind_had wraps.PrintErrorf wrap.Print = refl
kind_had wraps.PrintErrorf wrap.Printf = refl
kind_had wraps.PrintErrorf wrap.Errorf = refl
kind_had wraps.PrintfErrorf wrap.Print = refl
kind_had wraps.PrintfErrorf wrap.Printf = refl
kind_had wraps.PrintfErrorf wrap.Errorf = refl
kind_had wraps.Each wrap.Print = refl
kind_had wraps.Each wrap.Printf = refl
kind_had wraps.Each wrap.Errorf = refl

-- ---- numbers

pub first_below : (u : Unit) (name : List ℕ) (i : ℕ) → first_of u name ≡ Some i → i < length (functions u)
first_below u name i e = let (x, there, same) = mapped_there name_in (functions u) i name (place_there (names u) name i e) in slice_get_within (functions u) i x there

pub place_below : (u : Unit) (path name : List ℕ) (i : ℕ) → own_place u path name ≡ Some i → i < length (functions u)
place_below u path name i e = by (bytes_eq path u.path) e where
  by : (b : Bool) → (if b then first_of u name else None) ≡ Some i → i < length (functions u)
  by true e = first_below u name i e
  by false e = absurd (cc)

-- a member of a kind has the number of its name
pub own_is : (kind : ℕ) (u : Unit) (path name : List ℕ) → number kind u (member path name kind) ≡ own_place u path name
own_is kind u path name = ap (λ b. if (b && bytes_eq path u.path) then first_of u name else None) (eq-eqb kind kind refl)

-- ---- the function that a node declares

stands_mapped : (f d : ℕ) (list : List Declared) (i : ℕ) → option_map_or (λ (x : Declared). stands_at f d (named_in x)) (slice_get list i) false ≡ option_map_or (stands_at f d) (slice_get (map named_in list) i) false
stands_mapped f d [] i = refl
stands_mapped f d (x ∷ list) zero = refl
stands_mapped f d (x ∷ list) (suc i) = stands_mapped f d list i

pub number_told : (u : Unit) (f d i : ℕ) (list : List Declared) (b : Bool) → map named_in list ≡ functions u → b ≡ option_map_or (λ (x : Declared). stands_at f d (named_in x)) (slice_get list i) false
    → (if b then Some i else None) ≡ number_if u f d i
number_told u f d i list b are is = ap (λ c. if c then Some i else None) (is ∙ (stands_mapped f d list i ∙ ap (λ (l : List Named). option_map_or (stands_at f d) (slice_get l i) false) are))

-- its number is one of a function
pub owner_below : (u : Unit) (f d i : ℕ) → owner_number u f d ≡ Some i → i < length (functions u)
owner_below u f d i e = by_name (declared_name u f d) e where
  by_item : (j : ℕ) (o : Option Named) → slice_get (functions u) j ≡ o → (if option_map_or (stands_at f d) o false then Some j else None) ≡ Some i → i < length (functions u)
  by_item j None there e = absurd (cc)
  by_item j (Some x) there e = by_test (stands_at f d x) e where
    by_test : (b : Bool) → (if b then Some j else None) ≡ Some i → i < length (functions u)
    by_test true e = subst (λ (n : ℕ). n < length (functions u)) (same_some e) (slice_get_within (functions u) j x there)
    by_test false e = absurd (cc)

  by_number : (o : Option ℕ) → option_and_then (number_if u f d) o ≡ Some i → i < length (functions u)
  by_number None e = absurd (cc)
  by_number (Some j) e = by_item j (slice_get (functions u) j) refl e

  by_name : (o : Option (List ℕ)) → option_and_then (number_named u f d) o ≡ Some i → i < length (functions u)
  by_name None e = absurd (cc)
  by_name (Some name) e = by_number (first_of u name) e

-- ---- buckets

pub fills_none : (count : ℕ) (given : Member → Bool) (number : Member → Option ℕ) (b : Buckets) → Fills count given number None b b
fills_none count given number b lists were = were

-- where nothing is known of what is called nothing is given
pub none_given : (kind : ℕ) (i : Option ℕ) (o : Option (List ℕ × List ℕ)) (b : Bool) → b ≡ is_some o → b ≡ false → None ≡ both_of kind i o
none_given kind None o b told out = refl
none_given kind (Some i) None b told out = refl
none_given kind (Some i) (Some x) b told out = absurd (let is : is_some (Some x) ≡ false = sym told ∙ out in cc)

pub fills_as : (count : ℕ) (given : Member → Bool) (number : Member → Option ℕ) (x y : Option Given) (old new : Buckets) → x ≡ y → Fills count given number x old new → Fills count given number y old new
fills_as count given number x y old new e fills = subst (λ (o : Option Given). Fills count given number o old new) e fills

module _ (k : Known) (u : Unit) (kind : ℕ) where
  pub filled_sized : (lists : ℕ → List Member) (b : Buckets) → AreFilled k u kind lists b → IsSized (length (functions u)) b
  filled_sized lists b are = record { flags = are.flags; rows = are.rows }

  pub filled_as : (lists more : ℕ → List Member) (b : Buckets) → lists ≡ more → AreFilled k u kind lists b → AreFilled k u kind more b
  filled_as lists more b e are = subst (λ (l : ℕ → List Member). AreFilled k u kind l b) e are
