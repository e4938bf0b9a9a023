-- The basic types in a table, added one by one.
use Rattle.std.proofs.Common.{◌≡◌, ℕ, zero, suc, ◌+◌, ◌<◌, ◌≤◌, inl, inr, ◌++◌, Bool, true, false, ◌&&◌, List, [], ◌∷◌, length, map, take, min, slice_get, Some, refl, sym, ap, ◌∙◌, subst, arith, nat_eq, eqb→eq, T, length-append}
use Rattle.std.proofs.lemmas.List.{length-take, length-map}
use Rattle.gv_base.specs.declared.constant.Kind.{Kind}
use Rattle.gv_base.specs.declared.constant.Kind.TheVariants as k
use Rattle.type_model.specs.declared.term.TypeId.{TypeId}
use Rattle.type_model.specs.declared.term.TypeName.{TypeName}
use Rattle.type_model.specs.declared.term.Term.{Term}
use Rattle.type_model.specs.declared.term.Term.TheVariants.{Basic, Defined}
use Rattle.type_model.specs.declared.table.TypeTable.{TypeTable}
use Rattle.type_model.specs.declared.table.Added.TheVariants.{Id}
use Rattle.type_model.specs.GoTypes.{BasicType, DefinedType, type_number}
use Rattle.type_model.specs.Tables.{IsTable, Grown, IsAdded, IsAppended, types_in, terms_in, count}
use Rattle.type_model.proofs.TypeLaws.{type_number-read}
use Rattle.typed_tree.specs.Basics.{number_of_kind, kinds, HasKinds, IsUniverse}
use Rattle.typed_tree.specs.Universe.{error_name}

-- ---- numbers of kinds

abbrev numbered : ℕ → List Kind → Bool
numbered n [] = true
numbered n (kind ∷ rest) = nat_eq (number_of_kind kind) n && numbered (suc n) rest

all_numbered : numbered 0 kinds ≡ true
all_numbered = refl

both : (x y : Bool) → (x && y) ≡ true → (x ≡ true) × (y ≡ true)
both true true h = (refl, refl)
both true false h = absurd (cc)
both false y h = absurd (cc)

one_number : (m n : ℕ) → nat_eq m n ≡ true → m ≡ n
one_number m n e = eqb→eq m n (subst (λ (x : Bool). T x) (sym e) tt)

one_some : {A : Type 0} (x y : A) → Some x ≡ Some y → x ≡ y
one_some x y e = cc

number_from : (rest : List Kind) (n i : ℕ) (kind : Kind) → numbered n rest ≡ true → slice_get rest i ≡ Some kind → number_of_kind kind ≡ n + i
number_from [] n i kind e read = absurd (cc)
number_from (x ∷ rest) n zero kind e read =
    let parts = both (nat_eq (number_of_kind x) n) (numbered (suc n) rest) e in
    let first : number_of_kind x ≡ n = one_number (number_of_kind x) n parts.0 in
    let same : number_of_kind kind ≡ number_of_kind x = ap number_of_kind (sym (one_some x kind read)) in
    omega arith
number_from (x ∷ rest) n (suc i) kind e read =
    let parts = both (nat_eq (number_of_kind x) n) (numbered (suc n) rest) e in
    let more : number_of_kind kind ≡ suc n + i = number_from rest (suc n) i kind parts.1 read in
    omega arith

number_at : (i : ℕ) (kind : Kind) → slice_get kinds i ≡ Some kind → number_of_kind kind ≡ i
number_at i kind read = let e : number_of_kind kind ≡ 0 + i = number_from kinds 0 i kind all_numbered read in omega arith

kind_there : (kind : Kind) → slice_get kinds (number_of_kind kind) ≡ Some kind
kind_there k.Bool = refl
kind_there _ = refl

kind_low : (kind : Kind) → number_of_kind kind < 18
kind_low k.Bool = omega arith
kind_low _ = omega arith

-- ---- the first few kinds as terms

abbrev first_terms : ℕ → List Kind → List Term
first_terms n rest = map (λ kind. Basic kind) (take n rest)

term_there : (rest : List Kind) (n i : ℕ) (kind : Kind) → i < n → slice_get rest i ≡ Some kind → slice_get (first_terms n rest) i ≡ Some (Basic kind)
term_there [] n i kind low read = absurd (cc)
term_there (x ∷ rest) zero i kind low read = absurd (omega arith)
term_there (x ∷ rest) (suc n) zero kind low read = ap (λ (o : Kind). Some (Basic o)) (one_some x kind read)
term_there (x ∷ rest) (suc n) (suc i) kind low read = term_there rest n i kind (omega arith) read

some_term : (rest : List Kind) (n i : ℕ) → i < length (first_terms n rest) → (kind : Kind) × (slice_get rest i ≡ Some kind) × (slice_get (first_terms n rest) i ≡ Some (Basic kind))
some_term rest zero i low = absurd (omega arith)
some_term [] (suc n) i low = absurd (omega arith)
some_term (x ∷ rest) (suc n) zero low = (x, refl, refl)
some_term (x ∷ rest) (suc n) (suc i) low = some_term rest n i (omega arith)

one_more : (rest : List Kind) (n : ℕ) (kind : Kind) → slice_get rest n ≡ Some kind → first_terms (suc n) rest ≡ first_terms n rest ++ Basic kind ∷ []
one_more [] n kind read = absurd (cc)
one_more (x ∷ rest) zero kind read = ap (λ (o : Kind). Basic o ∷ []) (one_some x kind read)
one_more (x ∷ rest) (suc n) kind read = ap (λ (l : List Term). Basic x ∷ l) (one_more rest n kind read)

few_terms : (n : ℕ) → length (first_terms n kinds) ≤ n
few_terms n =
    let as_kinds : length (first_terms n kinds) ≡ length (take n kinds) = length-map (take n kinds) (λ kind. Basic kind) in
    let few : length (take n kinds) ≡ min n 18 = length-take n kinds in
    omega arith

-- ---- what a table says of them

type_there : (t : TypeTable) (n i : ℕ) (kind : Kind) → HasKinds t n → i < n → slice_get kinds i ≡ Some kind → type_number (types_in t) i ≡ BasicType kind
type_there t n i kind has low read =
    type_number-read (terms_in t) i (Basic kind) has.table.terms
    (ap (λ (l : List Term). slice_get l i) has.terms ∙ term_there kinds n i kind low read)

-- what stands in the table is one of the first kinds
some_kind : (old new : TypeTable) (n i : ℕ) → HasKinds old n → terms_in new ≡ terms_in old → IsTable new → i < count new
    → (kind : Kind) × (number_of_kind kind ≡ i) × (i < n) × (type_number (types_in new) i ≡ BasicType kind)
some_kind old new n i has same table low =
    let are : terms_in new ≡ first_terms n kinds = same ∙ has.terms in
    let size : length (terms_in new) ≡ length (first_terms n kinds) = ap length are in
    let term = some_term kinds n i (omega arith) in
    (term.0, number_at i term.0 term.1, omega (arith, few_terms n), type_number-read (terms_in new) i (Basic term.0) table.terms (ap (λ (l : List Term). slice_get l i) are ∙ term.2))

one_kind : (a b : Kind) → BasicType a ≡ BasicType b → a ≡ b
one_kind a b e = cc

pub adds_kind : (old new : TypeTable) (kind : Kind) (id : TypeId) → HasKinds old (number_of_kind kind) → Grown old new → IsAdded old new (Basic kind) (Id id)
    → IsAppended old new (Basic kind) (Id id) → HasKinds new (number_of_kind kind + 1)
adds_kind old new kind id has grown added (inl same) =
    let there = some_kind old new (number_of_kind kind) id.0 has same grown.table added.0 in
    let one : there.0 ≡ kind = one_kind there.0 kind (sym there.3 ∙ added.1) in
    let numbers : number_of_kind there.0 ≡ number_of_kind kind = ap number_of_kind one in
    let low : id.0 < number_of_kind kind = there.2 in
    let at : number_of_kind there.0 ≡ id.0 = there.1 in
    absurd (omega arith)
adds_kind old new kind id has grown added (inr (place, terms)) = record {
  table = grown.table;
  terms =
      terms ∙ (ap (λ (l : List Term). l ++ Basic kind ∷ []) has.terms ∙ (sym (one_more kinds (number_of_kind kind) kind (kind_there kind))
      ∙ ap (λ n. first_terms n kinds) next));
  undeclared = λ name. grown.declarations name ∙ has.undeclared name;
} where
  next : suc (number_of_kind kind) ≡ number_of_kind kind + 1
  next = omega arith

other_type : (kind : Kind) (name : TypeName) → BasicType kind ≡ DefinedType name → ⊥
other_type kind name e = cc

pub adds_error : (old new : TypeTable) (name : TypeName) (id : TypeId) → name ≡ error_name → HasKinds old 18 → Grown old new → IsAdded old new (Defined name) (Id id)
    → IsAppended old new (Defined name) (Id id) → IsUniverse new
adds_error old new name id is has grown added (inl same) =
    let there = some_kind old new 18 id.0 has same grown.table added.0 in
    absurd (other_type there.0 name (sym there.3 ∙ added.1))
adds_error old new name id is has grown added (inr (place, terms)) = record {
  basics = record {
    table = grown.table;
    basic = λ kind.
        (grown.extends (number_of_kind kind) (below kind)).1
        ∙ type_there old 18 (number_of_kind kind) kind has (kind_low kind) (kind_there kind);
    error = ap (λ n. type_number (types_in new) n) (sym last) ∙ (added.1 ∙ ap (λ (x : TypeName). DefinedType x) is);
    many = let low : id.0 < count new = added.0 in let at : id.0 ≡ 18 = last in omega arith;
  };
  few = ap length terms ∙ (length-append (terms_in old) (Defined name ∷ []) ∙ ap (λ n. n + 1) size);
  undeclared = λ other. grown.declarations other ∙ has.undeclared other;
} where
  size : count old ≡ 18
  size = ap length has.terms

  last : id.0 ≡ 18
  last = place ∙ size

  below : (kind : Kind) → number_of_kind kind < count old
  below kind = let low : number_of_kind kind < 18 = kind_low kind in let all : count old ≡ 18 = size in omega arith
