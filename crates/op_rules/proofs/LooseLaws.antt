-- An untyped operand goes beside one of a type exactly where it is assignable to that type.
use Rattle.std.proofs.Common.{◌≡◌, T, Bool, true, false, ◌&&◌, ◌||◌, if◌then◌else◌, Option, Some, None, int_le, inl, inr, refl, sym, ap, ◌∙◌, subst}
use lib.Signed.{le_z_yes}
use Rattle.gv_base.specs.declared.constant.Const.{Const}
use Rattle.gv_base.specs.declared.constant.Const.TheVariants as const
use Rattle.gv_base.specs.declared.constant.Kind.{Kind}
use Rattle.gv_base.specs.declared.constant.Kind.TheVariants as k
use Rattle.gv_base.specs.Fits.{Values, Truths, Integers, Texts, NoConstants, values_of, IsAmong, Fits}
use Rattle.const_eval.specs.Meaning.{is_among}
use Rattle.type_model.specs.declared.term.Dir.TheVariants.{Both}
use Rattle.type_model.specs.Declarations.{Declarations, under_of}
use Rattle.type_model.specs.GoTypes.{GoType, GoMethods, BasicType, DefinedType, PointerTo, SliceOf, ArrayOf, MapOf, ChanOf, FuncOf, StructOf, InterfaceOf, NoMethod, AndMethod}
use Rattle.type_model.specs.Identity.{Identical, SameBasics}
use Rattle.type_rel.specs.Assigning.{Assignable, holds_nil, Identicals, SameUnder, Implementing, Narrowing, Nils, Represented, ByDefault, UntypedTruths}
use Rattle.type_rel.specs.Kinds.{is_untyped, is_integer}
use Rattle.type_rel.specs.Methods.{ProvidesAll}
use Rattle.typed_tree.specs.Operands.{fits_in, is_boolean, is_nil}
use Rattle.op_rules.specs.Beside.{kind_goes, fits_beside, basic_goes, value_goes, goes_beside}
use Rattle.op_rules.specs.Loose.{IsLoose, IsTyped, GoesAsAssigned}
use Rattle.op_rules.specs.Operands.{Operand}
use Rattle.op_rules.specs.Types.{is_empty_interface}
use Rattle.op_rules.proofs.ApartLaws.{one_under}
use Rattle.rule_words.specs.Types.{is_of}

-- ---- values

holds : (b : Bool) → T b → b ≡ true
holds true t = refl
holds false t = absurd t

held : (b : Bool) → b ≡ true → T b
held true h = tt
held false h = absurd cc

both : (a b : Bool) → a ≡ true → b ≡ true → (a && b) ≡ true
both true b p q = q
both false b p q = absurd cc

halves : (a b : Bool) → (a && b) ≡ true → (a ≡ true) × (b ≡ true)
halves true b h = (refl, h)
halves false b h = absurd cc

among_yes : (c : Const) (v : Values) → is_among c v ≡ true → IsAmong c v
among_yes (const.Truth b) Truths h = tt
among_yes (const.Truth b) (Integers first last) h = absurd cc
among_yes (const.Truth b) Texts h = absurd cc
among_yes (const.Truth b) NoConstants h = absurd cc
among_yes (const.Int n) Truths h = absurd cc
among_yes (const.Int n) (Integers first last) h =
    let p = halves (int_le first n) (int_le n last) h in (le_z_yes (held (int_le first n) p.0), le_z_yes (held (int_le n last) p.1))
among_yes (const.Int n) Texts h = absurd cc
among_yes (const.Int n) NoConstants h = absurd cc
among_yes (const.Text t) Truths h = absurd cc
among_yes (const.Text t) (Integers first last) h = absurd cc
among_yes (const.Text t) Texts h = tt
among_yes (const.Text t) NoConstants h = absurd cc

among_back : (c : Const) (v : Values) → IsAmong c v → is_among c v ≡ true
among_back (const.Truth b) Truths h = refl
among_back (const.Truth b) (Integers first last) h = absurd h
among_back (const.Truth b) Texts h = absurd h
among_back (const.Truth b) NoConstants h = absurd h
among_back (const.Int n) Truths h = absurd h
among_back (const.Int n) (Integers first last) (low, high) =
    both (int_le first n) (int_le n last) (holds (int_le first n) low.le) (holds (int_le n last) high.le)
among_back (const.Int n) Texts h = absurd h
among_back (const.Int n) NoConstants h = absurd h
among_back (const.Text t) Truths h = absurd h
among_back (const.Text t) (Integers first last) h = absurd h
among_back (const.Text t) Texts h = refl
among_back (const.Text t) NoConstants h = absurd h

none_among : (c : Const) → IsAmong c NoConstants → ⊥
none_among (const.Truth b) h = h
none_among (const.Int n) h = h
none_among (const.Text t) h = h

-- ---- the tests, opened

abbrev fits_kind : Option Const → Kind → Kind → Bool
fits_kind None kind wide = (is_boolean kind && is_boolean wide) || (is_integer kind && is_integer wide)
fits_kind (Some c) kind wide = fits_in c wide

abbrev fits_basic : Option Const → Kind → GoType → Bool
fits_basic value kind (BasicType wide) = fits_kind value kind wide
fits_basic value kind (DefinedType name) = false
fits_basic value kind (PointerTo of) = false
fits_basic value kind (SliceOf of) = false
fits_basic value kind (ArrayOf size of) = false
fits_basic value kind (MapOf key of) = false
fits_basic value kind (ChanOf direction of) = false
fits_basic value kind (FuncOf of) = false
fits_basic value kind (StructOf fields) = false
fits_basic value kind (InterfaceOf methods) = false

abbrev is_empty : GoType → Bool
is_empty (BasicType wide) = false
is_empty (DefinedType name) = false
is_empty (PointerTo of) = false
is_empty (SliceOf of) = false
is_empty (ArrayOf size of) = false
is_empty (MapOf key of) = false
is_empty (ChanOf direction of) = false
is_empty (FuncOf of) = false
is_empty (StructOf fields) = false
is_empty (InterfaceOf NoMethod) = true
is_empty (InterfaceOf (AndMethod n p r s methods)) = false

abbrev beside : Bool → Kind → Option Const → GoType → Bool
beside nil kind value at = if nil then holds_nil at else (is_empty at || fits_basic value kind at)

abbrev goes_of : GoType → Option Const → GoType → Bool
goes_of of value at = if is_of is_nil of then holds_nil at else (is_empty_interface at || is_of (λ kind. is_of (fits_beside value kind) at) of)

goes_open : (x : Operand) (at : GoType) → goes_beside x at ≡ goes_of x.of x.value at
unfolding goes_beside value_goes basic_goes
goes_open x at = refl

goes_shut : (kind : Kind) (value : Option Const) (at : GoType) → goes_of (BasicType kind) value at ≡ beside (is_nil kind) kind value at
unfolding is_of is_empty_interface fits_beside kind_goes
goes_shut kind None (BasicType wide) = refl
goes_shut kind (Some c) (BasicType wide) = refl
goes_shut kind value (DefinedType name) = refl
goes_shut kind value (PointerTo of) = refl
goes_shut kind value (SliceOf of) = refl
goes_shut kind value (ArrayOf size of) = refl
goes_shut kind value (MapOf key of) = refl
goes_shut kind value (ChanOf direction of) = refl
goes_shut kind value (FuncOf of) = refl
goes_shut kind value (StructOf fields) = refl
goes_shut kind value (InterfaceOf NoMethod) = refl
goes_shut kind value (InterfaceOf (AndMethod n p r s methods)) = refl

goes_is : (x : Operand) (kind : Kind) (at : GoType) → x.of ≡ BasicType kind → goes_beside x at ≡ beside (is_nil kind) kind x.value at
goes_is x kind at e = goes_open x at ∙ (ap (λ t. goes_of t x.value at) e ∙ goes_shut kind x.value at)

-- ---- what goes is assignable

boolean_kind : (wide : Kind) → fits_kind None k.UntypedBool wide ≡ true → is_untyped wide ≡ false → wide ≡ k.Bool
boolean_kind k.Bool h t = refl
boolean_kind k.UntypedBool h t = absurd cc
boolean_kind _ h t = absurd cc

truth_goes : (ds : Declarations) (to at : GoType) → under_of ds to ≡ Some at → IsTyped at → (is_empty at || fits_basic None k.UntypedBool at) ≡ true
    → Assignable ds (BasicType k.UntypedBool) None NoMethod to
truth_goes ds to (BasicType wide) u typed h = UntypedTruths refl (u ∙ ap (λ x. Some (BasicType x)) (boolean_kind wide h (typed wide refl)))
truth_goes ds to (DefinedType name) u typed h = absurd cc
truth_goes ds to (PointerTo of) u typed h = absurd cc
truth_goes ds to (SliceOf of) u typed h = absurd cc
truth_goes ds to (ArrayOf size of) u typed h = absurd cc
truth_goes ds to (MapOf key of) u typed h = absurd cc
truth_goes ds to (ChanOf direction of) u typed h = absurd cc
truth_goes ds to (FuncOf of) u typed h = absurd cc
truth_goes ds to (StructOf fields) u typed h = absurd cc
truth_goes ds to (InterfaceOf NoMethod) u typed h = Implementing NoMethod u tt
truth_goes ds to (InterfaceOf (AndMethod n p r s methods)) u typed h = absurd cc

constant_goes : (ds : Declarations) (kind : Kind) (c : Const) (to at : GoType) → is_untyped kind ≡ true → under_of ds to ≡ Some at
    → (is_empty at || fits_basic (Some c) kind at) ≡ true → Assignable ds (BasicType kind) (Some c) NoMethod to
constant_goes ds kind c to (BasicType wide) free u h = Represented kind wide c refl free refl u (among_yes c (values_of wide) h)
constant_goes ds kind c to (DefinedType name) free u h = absurd cc
constant_goes ds kind c to (PointerTo of) free u h = absurd cc
constant_goes ds kind c to (SliceOf of) free u h = absurd cc
constant_goes ds kind c to (ArrayOf size of) free u h = absurd cc
constant_goes ds kind c to (MapOf key of) free u h = absurd cc
constant_goes ds kind c to (ChanOf direction of) free u h = absurd cc
constant_goes ds kind c to (FuncOf of) free u h = absurd cc
constant_goes ds kind c to (StructOf fields) free u h = absurd cc
constant_goes ds kind c to (InterfaceOf NoMethod) free u h = ByDefault kind c NoMethod refl free refl u tt
constant_goes ds kind c to (InterfaceOf (AndMethod n p r s methods)) free u h = absurd cc

-- a constant is no nil
no_nil : (kind : Kind) (c : Const) → Fits c kind → is_nil kind ≡ false
no_nil k.UntypedNil c fits = absurd (none_among c fits)
no_nil _ c fits = refl

goes : (ds : Declarations) (kind : Kind) (value : Option Const) (to at : GoType) → IsLoose kind value → under_of ds to ≡ Some at → IsTyped at
    → beside (is_nil kind) kind value at ≡ true → Assignable ds (BasicType kind) value NoMethod to
goes ds kind None to at (inl e) u typed h =
    subst (λ (x : Kind). Assignable ds (BasicType x) None NoMethod to) (sym e) (Nils at refl u (sym (ap (λ x. beside (is_nil x) x None at) e) ∙ h))
goes ds kind None to at (inr e) u typed h =
    subst (λ (x : Kind). Assignable ds (BasicType x) None NoMethod to) (sym e) (truth_goes ds to at u typed (sym (ap (λ x. beside (is_nil x) x None at) e) ∙ h))
goes ds kind (Some c) to at (free, fits) u typed h = constant_goes ds kind c to at free u (sym (ap (λ b. beside b kind (Some c) at) (no_nil kind c fits)) ∙ h)

-- ---- what is assignable goes

untyped_of : (kind : Kind) (value : Option Const) → IsLoose kind value → is_untyped kind ≡ true
untyped_of kind None (inl e) = ap is_untyped e
untyped_of kind None (inr e) = ap is_untyped e
untyped_of kind (Some c) (free, fits) = free

one_basic : (kind : Kind) (to : GoType) → Identical (BasicType kind) to → to ≡ BasicType kind
one_basic _ _ (SameBasics kind) = refl

never_typed : (kind : Kind) (at : GoType) → is_untyped kind ≡ true → IsTyped at → at ≡ BasicType kind → ⊥
never_typed kind at free typed e = let never : true ≡ false = sym free ∙ typed kind e in cc

interface_goes : (nil : Bool) (kind : Kind) (value : Option Const) (wanted : GoMethods) → ProvidesAll NoMethod wanted → beside nil kind value (InterfaceOf wanted) ≡ true
interface_goes true kind value NoMethod all = refl
interface_goes false kind value NoMethod all = refl
interface_goes nil kind value (AndMethod n p r s methods) all = absurd all.0

truth_back : (value : Option Const) → IsLoose k.UntypedBool value → fits_basic value k.UntypedBool (BasicType k.Bool) ≡ true
truth_back None loose = refl
truth_back (Some (const.Truth b)) loose = refl
truth_back (Some (const.Int n)) (free, fits) = absurd fits
truth_back (Some (const.Text t)) (free, fits) = absurd fits

nil_back : (kind : Kind) (value : Option Const) (c : Const) → IsLoose kind value → value ≡ Some c → is_nil kind ≡ false
nil_back kind None c loose e = absurd cc
nil_back kind (Some d) c (free, fits) e = no_nil kind d fits

basic_once : (a b : Kind) → BasicType a ≡ BasicType b → a ≡ b
basic_once a b e = cc

back : (ds : Declarations) (kind : Kind) (value : Option Const) (to at : GoType) → IsLoose kind value → under_of ds to ≡ Some at → IsTyped at
    → Assignable ds (BasicType kind) value NoMethod to → beside (is_nil kind) kind value at ≡ true
back ds kind value to at loose u typed (Identicals same) =
    let e = one_basic kind to same in
    absurd (never_typed kind at (untyped_of kind value loose) typed (one_under (under_of ds to) at (BasicType kind) u (ap (under_of ds) e)))
back ds kind value to at loose u typed (SameUnder under other p q same one) =
    let first : BasicType kind ≡ under = one_under (Some (BasicType kind)) (BasicType kind) under refl p in
    let e = one_basic kind other (subst (λ (x : GoType). Identical x other) (sym first) same) in
    absurd (never_typed kind at (untyped_of kind value loose) typed (one_under (under_of ds to) at other u q ∙ e))
back ds kind value to at loose u typed (Implementing wanted q all) =
    ap (λ x. beside (is_nil kind) kind value x) (one_under (under_of ds to) at (InterfaceOf wanted) u q) ∙ interface_goes (is_nil kind) kind value wanted all
back ds kind value to at loose u typed (Narrowing direction of other p q same one) =
    absurd (let never : BasicType kind ≡ ChanOf Both of = one_under (Some (BasicType kind)) (BasicType kind) (ChanOf Both of) refl p in cc)
back ds kind value to at loose u typed (Nils under e q nil) =
    let is : kind ≡ k.UntypedNil = basic_once kind k.UntypedNil e in
    ap (λ b. beside b kind value at) (ap is_nil is) ∙ (ap holds_nil (one_under (under_of ds to) at under u q) ∙ nil)
back ds kind value to at loose u typed (Represented found wide c e free is q fit) =
    ap (λ b. beside b kind value at) (nil_back kind value c loose is)
    ∙ (ap (λ x. is_empty x || fits_basic value kind x) (one_under (under_of ds to) at (BasicType wide) u q)
    ∙ (ap (λ v. fits_kind v kind wide) is ∙ among_back c (values_of wide) fit))
back ds kind value to at loose u typed (ByDefault found c wanted e free is q all) =
    ap (λ x. beside (is_nil kind) kind value x) (one_under (under_of ds to) at (InterfaceOf wanted) u q) ∙ interface_goes (is_nil kind) kind value wanted all
back ds kind value to at loose u typed (UntypedTruths e q) =
    let is : kind ≡ k.UntypedBool = basic_once kind k.UntypedBool e in
    ap (λ x. beside (is_nil x) x value at) is
    ∙ (ap (λ x. is_empty x || fits_basic value k.UntypedBool x) (one_under (under_of ds to) at (BasicType k.Bool) u q)
    ∙ truth_back value (subst (λ (x : Kind). IsLoose x value) is loose))

pub goes_assigned : GoesAsAssigned
goes_assigned ds x kind to at e loose u typed = (
  λ h. subst (λ (of : GoType). Assignable ds of x.value NoMethod to) (sym e) (goes ds kind x.value to at loose u typed (sym (goes_is x kind at e) ∙ h)),
  λ a. goes_is x kind at e ∙ back ds kind x.value to at loose u typed (subst (λ (of : GoType). Assignable ds of x.value NoMethod to) e a),
)
