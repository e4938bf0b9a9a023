-- Methods of types, as lists of method sets have them.
use Rattle.std.proofs.Common.{◌≡◌, ◌<◌, ◌↔◌, ◌⊎◌, ◌||◌, ◌==◌, ℕ, Bool, true, false, List, [], ◌∷◌, map, length, get_or, refl, sym, ap, ◌∙◌, subst, inl, inr, arith}
use Rattle.std.specs.List.{Contains, list_any}
use Rattle.std.proofs.lemmas.Bool.Decides.{nat_tests}
use Rattle.std.proofs.lemmas.List.Elements.{Contains-append_left, Contains-append_right, Contains-append_cases, Contains-push, Contains-push_cases}
use Rattle.type_model.specs.declared.term.Method.{Method}
use Rattle.type_model.specs.declared.term.TypeId.{TypeId}
use Rattle.type_model.specs.declared.table.TypeTable.{TypeTable}
use Rattle.type_model.specs.GoTypes.{GoType, types_at, methods_of, SignatureBelow, MethodsBelow}
use Rattle.type_model.specs.Parts.{GoMethod, method_of}
use Rattle.type_model.specs.Tables.{types_in, declarations_in}
use Rattle.method_sets.specs.Selections.{IsMethodSet}
use Rattle.vet_printf.specs.declared.asking.Wanted.{Wanted}
use Rattle.vet_printf.specs.Fitting.{are_none, is_wanted, Has}
use Rattle.vet_printf.specs.Forwards.{has_none}

pub none_counted : (types : List GoType) (list : List TypeId) → (length list == 0) ≡ are_none (types_at types list)
none_counted types [] = refl
none_counted types (id ∷ list) = grind (arith, nat_tests)

pub methods_counted : (types : List GoType) (list : List Method) → (length list == 0) ≡ has_none (methods_of types list)
methods_counted types [] = refl
methods_counted types (m ∷ list) = grind (arith, nat_tests)

or_cases : (a b : Bool) → (a || b) ≡ true → (a ≡ true) ⊎ (b ≡ true)
or_cases true b e = inl refl
or_cases false b e = inr e

or_left : (a b : Bool) → a ≡ true → (a || b) ≡ true
or_left a b e = ap (λ x. x || b) e

or_right : (a b : Bool) → b ≡ true → (a || b) ≡ true
or_right true b e = refl
or_right false b e = e

none_in : {X : Type 0} (b : X) → Contains [] b → ⊥
none_in b (k, low, e) = omega arith

single_is : {X : Type 0} (a b : X) → Contains (a ∷ []) b → a ≡ b
single_is {X} a b there = elim (Contains-push_cases {X = X} [] a b there) [ inl none ↦ absurd (none_in b none) | inr same ↦ same ]

pub any_has : {X : Type 0} (test : X → Bool) (xs : List X) → list_any test xs ≡ true → (x : X) × Contains xs x × (test x ≡ true)
any_has {X} test [] e = absurd (cc)
any_has {X} test (y ∷ xs) e = elim (or_cases (test y) (list_any test xs) e) [
  | inl here ↦ (y, Contains-append_left (y ∷ []) xs y (Contains-push [] y), here)
  | inr later ↦ (let r = any_has test xs later in (r.0, Contains-append_right (y ∷ []) xs r.0 r.1, r.2))
]

pub has_any : {X : Type 0} (test : X → Bool) (xs : List X) (x : X) → Contains xs x → test x ≡ true → list_any test xs ≡ true
has_any {X} test [] x there e = absurd (none_in x there)
has_any {X} test (y ∷ xs) x there e = elim (Contains-append_cases (y ∷ []) xs x there) [
  | inl here ↦ or_left (test y) (list_any test xs) (ap test (single_is y x here) ∙ e)
  | inr later ↦ or_right (test y) (list_any test xs) (has_any test xs x later e)
]

-- the set of a type has such a method where the list of its set has one
pub set_has : (t : TypeTable) (of : GoType) (methods : List Method) (wanted : Wanted) → IsMethodSet t of methods
    → (list_any (is_wanted wanted) (map (method_of (types_in t)) methods) ≡ true) ↔ Has (declarations_in t) of wanted
set_has t of methods wanted set = (
  λ e. (let r = any_has (is_wanted wanted) (map (method_of (types_in t)) methods) e in (r.0, (set.each r.0).0 r.1, r.2)),
  λ h. has_any (is_wanted wanted) (map (method_of (types_in t)) methods) h.0 ((set.each h.0).1 h.1) h.2,
)

pub set_told : (t : TypeTable) (of : GoType) (methods list : List Method) (wanted : Wanted) (b : Bool) → IsMethodSet t of methods → list ≡ methods
    → b ≡ list_any (is_wanted wanted) (map (method_of (types_in t)) list) → (b ≡ true) ↔ Has (declarations_in t) of wanted
set_told t of methods list wanted b set same told =
    subst (λ (x : Bool). (x ≡ true) ↔ Has (declarations_in t) of wanted) (sym (told ∙ ap (λ (l : List Method). list_any (is_wanted wanted) (map (method_of (types_in t)) l)) same)) (set_has t of methods wanted set)

pub below_at : (n : ℕ) (methods : List Method) (i : ℕ) (m : Method) → i < length methods → m ≡ get_or methods i m → MethodsBelow n methods → SignatureBelow n m.of
below_at n methods i m low is below = subst (λ (x : Method). SignatureBelow n x.of) (sym is) (below i m low)
