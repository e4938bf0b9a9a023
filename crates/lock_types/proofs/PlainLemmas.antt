-- Methods that take and give nothing: as they are found, and as method sets have them.
use Rattle.std.proofs.Common.{◌≡◌, ◌↔◌, ◌⊎◌, ◌&&◌, ◌||◌, not, ℕ, Bool, true, false, cond, List, [], ◌∷◌, map, Option, Some, None, refl, sym, ap, ◌∙◌, subst, inl, inr, arith}
use Rattle.std.proofs.Math.Path.{fun_ext}
use Rattle.std.specs.Bool.{Decides}
use Rattle.std.specs.List.{Contains, find}
use Rattle.std.specs.Option.{option_map_or}
use Rattle.std.specs.Str.{bytes_eq}
use Rattle.std.proofs.lemmas.Slice.Eq.{bytes_eq-Decides}
use Rattle.std.proofs.lemmas.List.Elements.{Contains-append_left, Contains-append_right, Contains-append_cases, Contains-push, Contains-push_cases}
use Rattle.type_model.specs.declared.term.Method.{Method}
use Rattle.type_model.specs.declared.term.Signature.{Signature}
use Rattle.type_model.specs.declared.term.TypeId.{TypeId}
use Rattle.type_model.specs.declared.table.TypeTable.{TypeTable}
use Rattle.type_model.specs.GoTypes.{GoType, BasicType, DefinedType, PointerTo, SliceOf, ArrayOf, MapOf, ChanOf, FuncOf, StructOf, InterfaceOf, GoSignature, From, NoType, AndType, GoTypes, GoMethods, types_at, signature_of}
use Rattle.type_model.specs.Parts.{GoMethod, method_of}
use Rattle.type_model.specs.Declarations.{Declarations, under_of, held}
use Rattle.type_model.specs.Tables.{types_in, declarations_in}
use Rattle.method_sets.specs.declared.selection.Selected.{Selected}
use Rattle.method_sets.specs.declared.selection.Selected.TheVariants as selected
use Rattle.method_sets.specs.declared.selection.Selection.{Selection}
use Rattle.method_sets.specs.declared.selection.Selection.TheVariants as selection
use Rattle.method_sets.specs.Members.{Name, selector, identifier, Part, AField, AMethod, Member, meets, members, member_of}
use Rattle.method_sets.specs.Paths.{is_pointer, base, IsDefinedPointer, IsInterface, Begins, Selects, IsAmbiguous, NoPath}
use Rattle.method_sets.specs.Selections.{Shows, IsGiven, IsSelection, IsInSet, IsMethodSet}
use Rattle.lock_types.specs.Locks.{plain, plain_method, HasMethod, HasBoth, is_struct, is_struct_type, IsLocker, IsLock, ByItself, ByPart}
use Rattle.lock_types.specs.InTable.{is_empty, is_plain, is_plain_method, any_plain, is_plain_part, is_plain_selection, holds, holds_type}

and_cases : (a b : Bool) → (a && b) ≡ true → (a ≡ true) × (b ≡ true)
and_cases true true e = (refl, refl)
and_cases true false e = absurd (cc)
and_cases false b e = absurd (cc)

same_bytes : (x y : List ℕ) → bytes_eq x y ≡ true → x ≡ y
same_bytes x y e = at (bytes_eq x y) (bytes_eq-Decides x y) e where
  at : (b : Bool) → Decides b (x ≡ y) → b ≡ true → x ≡ y
  at true d h = d.0 refl
  at false d h = absurd (cc)

bytes_same : (x : List ℕ) → bytes_eq x x ≡ true
bytes_same x = at (bytes_eq x x) (bytes_eq-Decides x x) where
  at : (b : Bool) → Decides b (x ≡ x) → b ≡ true
  at true d = refl
  at false d = d.1 refl

-- ---- signatures

none_of : (types : List GoType) (ids : List TypeId) → is_empty ids ≡ true → types_at types ids ≡ NoType
none_of types [] e = refl
none_of types (id ∷ ids) e = absurd (cc)

of_none : (types : List GoType) (ids : List TypeId) → types_at types ids ≡ NoType → is_empty ids ≡ true
of_none types [] e = refl
of_none types (id ∷ ids) e = absurd (cc)

not_false : (b : Bool) → not b ≡ true → b ≡ false
not_false true e = absurd (cc)
not_false false e = refl

from_same : (a b c d : GoTypes) (v w : Bool) → a ≡ b → c ≡ d → v ≡ w → From a c v ≡ From b d w
from_same a b c d v w e f g = ap (λ x. From x c v) e ∙ (ap (λ x. From b x v) f ∙ ap (λ x. From b d x) g)

plain_is : (types : List GoType) (s : Signature) → is_plain s ≡ true → signature_of types s ≡ plain
plain_is types s e =
    let a = and_cases (is_empty s.params) (is_empty s.results && not s.variadic) e in
    let b = and_cases (is_empty s.results) (not s.variadic) a.1 in
    from_same (types_at types s.params) NoType (types_at types s.results) NoType s.variadic false (none_of types s.params a.0) (none_of types s.results b.0) (not_false s.variadic b.1)

abbrev params_of : GoSignature → GoTypes
params_of (From params results variadic) = params

abbrev results_of : GoSignature → GoTypes
results_of (From params results variadic) = results

abbrev variadic_of : GoSignature → Bool
variadic_of (From params results variadic) = variadic

all_true : (a b c : Bool) → a ≡ true → b ≡ true → c ≡ false → (a && (b && not c)) ≡ true
all_true a b c e f g = ap (λ x. x && (b && not c)) e ∙ (ap (λ x. x && not c) f ∙ ap (λ x. not x) g)

is_plain_of : (types : List GoType) (s : Signature) → signature_of types s ≡ plain → is_plain s ≡ true
is_plain_of types s e =
    all_true (is_empty s.params) (is_empty s.results) s.variadic (of_none types s.params (ap params_of e)) (of_none types s.results (ap results_of e)) (ap variadic_of e)

-- ---- lists of methods

abbrev method : List ℕ → List ℕ → Bool → GoSignature → GoMethod
method name owner pointer of = record { name = name; owner = owner; pointer = pointer; of = of }

method_same : (name owner : List ℕ) (pointer : Bool) (of other : GoSignature) (n o : List ℕ) → name ≡ n → owner ≡ o → of ≡ other → method name owner pointer of ≡ method n o pointer other
method_same name owner pointer of other n o e f g = ap (λ x. method x owner pointer of) e ∙ (ap (λ x. method n x pointer of) f ∙ ap (λ x. method n o pointer x) g)

plain_method_is : (types : List GoType) (name : List ℕ) (m : Method) → is_plain_method name m ≡ true → method_of types m ≡ plain_method name m.pointer
plain_method_is types name m e =
    let a = and_cases (bytes_eq m.name name && bytes_eq m.package []) (is_plain m.of) e in
    let b = and_cases (bytes_eq m.name name) (bytes_eq m.package []) a.0 in
    method_same m.name m.package m.pointer (signature_of types m.of) plain name [] (same_bytes m.name name b.0) (same_bytes m.package [] b.1) (plain_is types m.of a.1)

is_plain_method_of : (types : List GoType) (name : List ℕ) (m : Method) (pointer : Bool) → method_of types m ≡ plain_method name pointer → is_plain_method name m ≡ true
is_plain_method_of types name m pointer e =
    let n : m.name ≡ name = ap (λ (x : GoMethod). x.name) e in
    let o : m.package ≡ [] = ap (λ (x : GoMethod). x.owner) e in
    let s = is_plain_of types m.of (ap (λ (x : GoMethod). x.of) e) in
    ap (λ b. (b && bytes_eq m.package []) && is_plain m.of) (ap (λ x. bytes_eq x name) n ∙ bytes_same name)
    ∙ (ap (λ b. b && is_plain m.of) (ap (λ x. bytes_eq x []) o ∙ bytes_same []) ∙ s)

or_cases : (a b : Bool) → (a || b) ≡ true → (a ≡ true) ⊎ (b ≡ true)
or_cases true b e = inl refl
or_cases false b e = inr e

or_left : (a b : Bool) → a ≡ true → (a || b) ≡ true
or_left a b e = ap (λ x. x || b) e

or_right : (a b : Bool) → b ≡ true → (a || b) ≡ true
or_right true b e = refl
or_right false b e = e

none_in : {X : Type 0} (b : X) → Contains [] b → ⊥
none_in b (k, low, e) = omega arith

single_is : {X : Type 0} (a b : X) → Contains (a ∷ []) b → a ≡ b
single_is {X} a b there = elim (Contains-push_cases {X = X} [] a b there) [ inl none ↦ absurd (none_in b none) | inr same ↦ same ]

any_has : (types : List GoType) (name : List ℕ) (methods : List Method) → any_plain name methods ≡ true → (pointer : Bool) × Contains (map (λ m. method_of types m) methods) (plain_method name pointer)
any_has types name [] e = absurd (cc)
any_has types name (m ∷ methods) e = elim (or_cases (is_plain_method name m) (any_plain name methods) e) [
  | inl here ↦ (
    m.pointer,
    subst (λ x. Contains (method_of types m ∷ map (λ m. method_of types m) methods) x) (plain_method_is types name m here)
        (Contains-append_left (method_of types m ∷ []) (map (λ m. method_of types m) methods) (method_of types m) (Contains-push [] (method_of types m))),
  )
  | inr later ↦ (let r = any_has types name methods later in (r.0, Contains-append_right (method_of types m ∷ []) (map (λ m. method_of types m) methods) (plain_method name r.0) r.1))
]

has_any : (types : List GoType) (name : List ℕ) (methods : List Method) (pointer : Bool) → Contains (map (λ m. method_of types m) methods) (plain_method name pointer) → any_plain name methods ≡ true
has_any types name [] pointer there = absurd (none_in (plain_method name pointer) there)
has_any types name (m ∷ methods) pointer there = elim (Contains-append_cases (method_of types m ∷ []) (map (λ m. method_of types m) methods) (plain_method name pointer) there) [
  | inl here ↦ or_left (is_plain_method name m) (any_plain name methods) (is_plain_method_of types name m pointer (single_is (method_of types m) (plain_method name pointer) here))
  | inr later ↦ or_right (is_plain_method name m) (any_plain name methods) (has_any types name methods pointer later)
]

-- the set of a type has the method where the list of its set has it
pub set_has : (t : TypeTable) (of : GoType) (methods : List Method) (name : List ℕ) → IsMethodSet t of methods → (any_plain name methods ≡ true) ↔ HasMethod (declarations_in t) of name
set_has t of methods name set = (
  λ e. (let r = any_has (types_in t) name methods e in (r.0, (set.each (plain_method name r.0)).0 r.1)),
  λ h. has_any (types_in t) name methods h.0 ((set.each (plain_method name h.0)).1 h.1),
)

-- ---- what is selected from a struct

-- a struct type is no pointer, and none stands for it
record IsStruct (ds : Declarations) (of : GoType) : Type 0 where
  pub plain : is_pointer of ≡ false
  pub based : base of ≡ of
  pub pointer : (p : GoType) → IsDefinedPointer ds of p → ⊥
  pub interface : IsInterface ds of → ⊥

struct_under : (ds : Declarations) (of : GoType) (under : GoType) → is_struct_type ds of ≡ true → under_of ds of ≡ Some under → is_struct under ≡ true
struct_under ds of under struct e = sym (ap (λ o. option_map_or is_struct o false) e) ∙ struct

struct_pointer : (g : GoType) → is_struct g ≡ true → is_pointer g ≡ true → ⊥
struct_pointer (BasicType kind) s p = cc
struct_pointer (DefinedType name) s p = cc
struct_pointer (PointerTo of) s p = cc
struct_pointer (SliceOf of) s p = cc
struct_pointer (ArrayOf size of) s p = cc
struct_pointer (MapOf key of) s p = cc
struct_pointer (ChanOf direction of) s p = cc
struct_pointer (FuncOf of) s p = cc
struct_pointer (StructOf fields) s p = cc
struct_pointer (InterfaceOf methods) s p = cc

not_pointer : (ds : Declarations) (of : GoType) → is_struct_type ds of ≡ true → (is_pointer of ≡ false) × (base of ≡ of)
not_pointer ds (BasicType kind) s = (refl, refl)
not_pointer ds (DefinedType name) s = (refl, refl)
not_pointer ds (PointerTo of) s = absurd (cc)
not_pointer ds (SliceOf of) s = (refl, refl)
not_pointer ds (ArrayOf size of) s = (refl, refl)
not_pointer ds (MapOf key of) s = (refl, refl)
not_pointer ds (ChanOf direction of) s = (refl, refl)
not_pointer ds (FuncOf of) s = (refl, refl)
not_pointer ds (StructOf fields) s = (refl, refl)
not_pointer ds (InterfaceOf methods) s = (refl, refl)

struct_is : (ds : Declarations) (of : GoType) → is_struct_type ds of ≡ true → IsStruct ds of
struct_is ds of struct = record {
  plain = (not_pointer ds of struct).0;
  based = (not_pointer ds of struct).1;
  pointer = λ p (defined, under, is). struct_pointer p (struct_under ds of p struct under) is;
  interface = λ (methods, under). no_interface methods (struct_under ds of (InterfaceOf methods) struct under);
} where
  no_interface : (methods : GoMethods) → is_struct (InterfaceOf methods) ≡ true → ⊥
  no_interface methods e = cc

-- paths begin at the type itself, also from a pointer to it
begins_at : (ds : Declarations) (of a : GoType) → IsStruct ds of → Begins ds of a → a ≡ of
begins_at ds of a is (inl (none, opens)) = sym opens.0 ∙ is.based
begins_at ds of a is (inr (p, defined, opens)) = absurd (is.pointer p defined)

undefined_pointer : (ds : Declarations) (of p : GoType) → IsDefinedPointer ds (PointerTo of) p → ⊥
undefined_pointer ds of p (defined, under, is) = cc

pointer_begins_at : (ds : Declarations) (of a : GoType) → Begins ds (PointerTo of) a → a ≡ of
pointer_begins_at ds of a (inl (none, opens)) = sym opens.0
pointer_begins_at ds of a (inr (p, defined, opens)) = absurd (undefined_pointer ds of p defined)

pointer_begins : (ds : Declarations) (of : GoType) → IsStruct ds of → Begins ds (PointerTo of) of
pointer_begins ds of is = inl (undefined_pointer ds of, (refl, λ e. is.interface))

-- ---- names

names_same : (name : List ℕ) → selector name [] ≡ identifier name []
names_same name = fun_ext (λ (n : List ℕ). fun_ext (λ (owner : List ℕ). at (bytes_eq n name) (bytes_eq owner []))) where
  at : (a b : Bool) → (a && (b || b)) ≡ (a && b)
  at true true = refl
  at true false = refl
  at false b = refl

-- what is found meets the test
find_meets : (test : Member → Bool) (list : List Member) (m : Member) → find test list ≡ Some m → test m ≡ true
find_meets test [] m e = absurd (cc)
find_meets test (x ∷ list) m e = at (test x) refl (find_meets test list m) e where
  same : (a b : Member) → Some a ≡ Some b → a ≡ b
  same a b e = cc

  at : (b : Bool) → test x ≡ b → (find test list ≡ Some m → test m ≡ true) → cond b (Some x) (find test list) ≡ Some m → test m ≡ true
  at true t others e = ap test (sym (same x m e)) ∙ t
  at false t others e = others e

member_is : (ds : Declarations) (name : List ℕ) (of : GoType) (m : Member) → member_of ds (identifier name []) of ≡ Some m → (m.name ≡ name) × (m.owner ≡ [])
member_is ds name of m e =
    let both = and_cases (bytes_eq m.name name) (bytes_eq m.owner []) (find_meets (meets (identifier name [])) (members ds of) m e) in
    (same_bytes m.name name both.0, same_bytes m.owner [] both.1)

-- ---- selections

abbrev made : List ℕ → List ℕ → Part → Member
made name owner part = record { name = name; owner = owner; is = part }

-- the method is in the set of the pointer
in_set : (ds : Declarations) (of : GoType) (name : List ℕ) (a : GoType) (path : List ℕ) (m : Member) (pointer : Bool) → IsStruct ds of → a ≡ of → Selects ds (selector name []) a path m → m.is ≡ AMethod plain pointer
    → IsInSet ds (PointerTo of) (plain_method name pointer)
in_set ds of name a path m pointer is same selects part =
    let here : Selects ds (identifier name []) of path m = subst (λ (n : Name). Selects ds n of path m) (names_same name) (subst (λ (x : GoType). Selects ds (selector name []) x path m) same selects) in
    let named = member_is ds name here.to m here.has in
    let m_is : m ≡ made name [] (AMethod plain pointer) =
    ap (λ x. made x m.owner m.is) named.0 ∙ (ap (λ x. made name x m.is) named.1 ∙ ap (λ x. made name [] x) part) in
    record {
      from = of;
      path = path;
      begins = pointer_begins ds of is;
      given = undefined_pointer ds of;
      selects = subst (λ (x : Member). Selects ds (identifier name []) of path x) m_is here;
      receiver = λ e. inl refl;
    }

module _ (t : TypeTable) (of : GoType) (name : List ℕ)
    (only : (ds : Declarations) (n : Name) (a : GoType) (p q : List ℕ) (m k : Member) → Selects ds n a p m → Selects ds n a q k → (p ≡ q) × (m ≡ k))
    (apart : (ds : Declarations) (n : Name) (a : GoType) (p : List ℕ) (m : Member) (d : ℕ) → Selects ds n a p m → IsAmbiguous ds n a d → ⊥)
    (nothing : (ds : Declarations) (n : Name) (a : GoType) (p : List ℕ) (m : Member) → NoPath ds n a → Selects ds n a p m → ⊥) where
  -- what the set of the pointer has is selected from the type
  selected_from : (pointer : Bool) → IsInSet (declarations_in t) (PointerTo of) (plain_method name pointer)
      → (path : List ℕ) × Selects (declarations_in t) (selector name []) of path (made name [] (AMethod plain pointer))
  selected_from pointer set = (
    set.path,
    subst (λ (n : Name). Selects (declarations_in t) n of set.path (made name [] (AMethod plain pointer))) (sym (names_same name))
        (subst (λ (x : GoType). Selects (declarations_in t) (identifier name []) x set.path (made name [] (AMethod plain pointer))) (pointer_begins_at (declarations_in t) of set.from set.begins) set.selects),
  )

  shown : (kind : Selected) (m : Member) → Shows t kind m.is → is_plain_part kind ≡ true → (pointer : Bool) × (m.is ≡ AMethod plain pointer)
  shown (selected.Field id) m shows e = absurd (cc)
  shown (selected.Method s pointer) m shows e = (pointer, shows.1 ∙ ap (λ x. AMethod x pointer) (plain_is (types_in t) s e))

  abbrev signature_in : Part → GoSignature
  signature_in (AField field) = From (AndType field NoType) NoType false
  signature_in (AMethod s pointer) = s

  shows_plain : (kind : Selected) (pointer : Bool) → Shows t kind (AMethod plain pointer) → is_plain_part kind ≡ true
  shows_plain (selected.Field id) pointer shows = absurd (let e = shows.1 in cc)
  shows_plain (selected.Method s p) pointer shows = is_plain_of (types_in t) s (sym (ap signature_in shows.1))

  given_to : IsStruct (declarations_in t) of → (part : Part) → IsGiven (declarations_in t) of part
  given_to is (AField field) = tt
  given_to is (AMethod s pointer) = is.pointer

  pub pointer_selects : (sel : Selection) → is_struct_type (declarations_in t) of ≡ true → IsSelection t of (selector name []) sel → (is_plain_selection sel ≡ true) ↔ HasMethod (declarations_in t) (PointerTo of) name
  pointer_selects (selection.Found path kind) struct (a, m, begins, selects, shows, given) =
      let is = struct_is (declarations_in t) of struct in
      let here = begins_at (declarations_in t) of a is begins in (
        λ e. (let (pointer, part) = shown kind m shows e in (pointer, in_set (declarations_in t) of name a path m pointer is here selects part)),
        λ (pointer, set). (
            let (way, other) = selected_from pointer set in
            let one = only (declarations_in t) (selector name []) of path way m (made name [] (AMethod plain pointer)) (subst (λ (x : GoType). Selects (declarations_in t) (selector name []) x path m) here selects) other in
            shows_plain kind pointer (subst (λ (x : Part). Shows t kind x) (ap (λ (x : Member). x.is) one.1) shows)
            ),
      )
  pointer_selects (selection.Ambiguous depth) struct (a, begins, ambiguous) =
      let here = begins_at (declarations_in t) of a (struct_is (declarations_in t) of struct) begins in (
        λ e. absurd (cc),
        λ (pointer, set). absurd (
            let (way, other) = selected_from pointer set in
            apart (declarations_in t) (selector name []) of way (made name [] (AMethod plain pointer)) depth other (subst (λ (x : GoType). IsAmbiguous (declarations_in t) (selector name []) x depth) here ambiguous)
            ),
      )
  pointer_selects selection.Absent struct none =
      let is = struct_is (declarations_in t) of struct in (
        λ e. absurd (cc),
        λ (pointer, set). absurd (
            let (way, other) = selected_from pointer set in
            elim (none of (inl (is.pointer, (is.based, λ e. is.interface)))) [
              | inl no_path ↦ nothing (declarations_in t) (selector name []) of way (made name [] (AMethod plain pointer)) no_path other
              | inr (path, m, selects, lacks) ↦ lacks (given_to is m.is)
            ]
            ),
      )

-- ---- lockers

pub both_of : (P Q : Type 0) (b : Bool) → P → (b ≡ true) ↔ Q → (b ≡ true) ↔ (P × Q)
both_of P Q b p tells = (λ e. (p, tells.0 e), λ h. tells.1 h.1)

pub both_fail : (P Q : Type 0) (b : Bool) → (b ≡ true) ↔ P → b ≡ false → (false ≡ true) ↔ (P × Q)
both_fail P Q b tells failed = (λ e. absurd (cc), λ h. absurd (differ b failed (tells.1 h.0))) where
  differ : (b : Bool) → b ≡ false → b ≡ true → ⊥
  differ b p q = cc

pub both_tested : (P Q : Type 0) (a b : Bool) → (a ≡ true) ↔ P → (b ≡ true) ↔ Q → ((a && b) ≡ true) ↔ (P × Q)
both_tested P Q a b one other = (λ e. (let h = and_cases a b e in (one.0 h.0, other.0 h.1)), λ h. joined a b (one.1 h.0) (other.1 h.1)) where
  joined : (a b : Bool) → a ≡ true → b ≡ true → (a && b) ≡ true
  joined a b e f = ap (λ x. x && b) e ∙ f

pub locker_is : (ds : Declarations) (of : GoType) (b : Bool) → is_struct_type ds of ≡ true → HasBoth ds (PointerTo of) → (b ≡ true) ↔ HasBoth ds of → (not b ≡ true) ↔ IsLocker ds of
locker_is ds of b struct pointer tells = (
  λ e. record { struct = struct; pointer = pointer; value = λ h. differ b (tells.1 h) e },
  λ l. fails b (λ e. l.value (tells.0 e)),
) where
  differ : (b : Bool) → b ≡ true → not b ≡ true → ⊥
  differ true e f = cc
  differ false e f = cc

  fails : (b : Bool) → (b ≡ true → ⊥) → not b ≡ true
  fails true none = absurd (none refl)
  fails false none = refl

pub no_locker : (ds : Declarations) (of : GoType) (b : Bool) → (b ≡ true) ↔ HasBoth ds (PointerTo of) → b ≡ false → (false ≡ true) ↔ IsLocker ds of
no_locker ds of b tells failed = (λ e. absurd (cc), λ l. absurd (differ b failed (tells.1 l.pointer))) where
  differ : (b : Bool) → b ≡ false → b ≡ true → ⊥
  differ b p q = cc

pub no_struct : (ds : Declarations) (of : GoType) → is_struct_type ds of ≡ false → (false ≡ true) ↔ IsLocker ds of
no_struct ds of failed = (λ e. absurd (cc), λ l. absurd (differ (is_struct_type ds of) failed l.struct)) where
  differ : (b : Bool) → b ≡ false → b ≡ true → ⊥
  differ b p q = cc

-- ---- what holds nothing is no lock type

no_struct_held : (x : GoType) → holds x ≡ false → is_struct x ≡ false
no_struct_held (BasicType kind) e = refl
no_struct_held (DefinedType name) e = refl
no_struct_held (PointerTo of) e = refl
no_struct_held (SliceOf of) e = refl
no_struct_held (ArrayOf size of) e = refl
no_struct_held (MapOf key of) e = refl
no_struct_held (ChanOf direction of) e = refl
no_struct_held (FuncOf of) e = refl
no_struct_held (StructOf fields) e = absurd (cc)
no_struct_held (InterfaceOf methods) e = refl

none_held : (ds : Declarations) (x : GoType) → holds x ≡ false → held ds x ≡ []
none_held ds (BasicType kind) e = refl
none_held ds (DefinedType name) e = absurd (cc)
none_held ds (PointerTo of) e = refl
none_held ds (SliceOf of) e = refl
none_held ds (ArrayOf size of) e = absurd (cc)
none_held ds (MapOf key of) e = refl
none_held ds (ChanOf direction of) e = refl
none_held ds (FuncOf of) e = refl
none_held ds (StructOf fields) e = absurd (cc)
none_held ds (InterfaceOf methods) e = refl

none_under : (ds : Declarations) (o : Option GoType) → option_map_or holds o false ≡ false → (option_map_or is_struct o false ≡ false) × (option_map_or (held ds) o [] ≡ [])
none_under ds None e = (refl, refl)
none_under ds (Some x) e = (no_struct_held x e, none_held ds x e)

pub unlocked : (ds : Declarations) (of : GoType) → holds_type ds of ≡ false → IsLock ds of → ⊥
unlocked ds of none (ByItself _ l) = differ (is_struct_type ds of) (none_under ds (under_of ds of) none).0 l.struct where
  differ : (b : Bool) → b ≡ false → b ≡ true → ⊥
  differ b p q = cc
unlocked ds of none (ByPart _ part there lock) = nowhere part (subst (λ (l : List GoType). Contains l part) (none_under ds (under_of ds of) none).1 there) where
  nowhere : (x : GoType) → Contains [] x → ⊥
  nowhere x (k, low, e) = omega (arith, low)
