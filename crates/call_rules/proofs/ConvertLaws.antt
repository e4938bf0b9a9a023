-- Constants are converted to basic types exactly where they are convertible.
use Rattle.std.proofs.Common.{◌≡◌, ◌⊎◌, ℕ, ℤ, List, Bool, true, false, Option, Some, inl, inr, refl, sym, ap, ◌∙◌, subst, ◌||◌}
use Rattle.gv_base.specs.declared.constant.Const.{Const}
use Rattle.gv_base.specs.declared.constant.Const.TheVariants as const
use Rattle.gv_base.specs.declared.constant.Kind.{Kind}
use Rattle.gv_base.specs.declared.constant.Kind.TheVariants as k
use Rattle.gv_base.specs.Fits.{Fits, IsAmong, Values, Truths, Integers, Texts, NoConstants, values_of}
use Rattle.gv_base.specs.Kinds.{is_integer, is_string, is_boolean, is_integers, is_texts, is_truths}
use Rattle.gv_base.proofs.Lists.{some_once}
use Rattle.type_model.specs.Declarations.{Declarations, under_of}
use Rattle.type_model.specs.GoTypes.{GoType, BasicType, DefinedType, PointerTo, SliceOf, ChanOf, InterfaceOf, NoMethod}
use Rattle.type_model.specs.Identity.{Identical, SameBasics, SameDefineds, SamePointers as SamePointerTypes, SameSlices, SameArrays, SameMaps, SameChannels, SameFunctions, SameStructs, SameInterfaces}
use Rattle.type_model.specs.Tags.{untagged}
use Rattle.type_rel.specs.Assigning.{Assignable, Identicals, SameUnder, Implementing, Narrowing, Nils, Represented, ByDefault, UntypedTruths}
use Rattle.type_rel.specs.Converting.{Convertible, Assigned, SameShape, SamePointers, BothIntegers, ToString, FromString, SliceToArray}
use Rattle.type_rel.specs.Kinds.{is_untyped}
use Rattle.call_rules.specs.Converting.{is_convertible}
use Rattle.call_rules.specs.Laws.{IsConstantOf, ConstantsConvert}

-- ---- constants and kinds

int_among : (z : ℤ) (w : Values) → IsAmong (const.Int z) w → is_integers w ≡ true
int_among z Truths never = absurd never
int_among z (Integers first last) is = refl
int_among z Texts never = absurd never
int_among z NoConstants never = absurd never

text_among : (t : List ℕ) (w : Values) → IsAmong (const.Text t) w → is_texts w ≡ true
text_among t Truths never = absurd never
text_among t (Integers first last) never = absurd never
text_among t Texts is = refl
text_among t NoConstants never = absurd never

truth_among : (b : Bool) (w : Values) → IsAmong (const.Truth b) w → is_truths w ≡ true
truth_among b Truths is = refl
truth_among b (Integers first last) never = absurd never
truth_among b Texts never = absurd never
truth_among b NoConstants never = absurd never

or_left : (a b : Bool) → a ≡ true → (a || b) ≡ true
or_left a b e = ap (λ x. x || b) e

or_right : (a b : Bool) → b ≡ true → (a || b) ≡ true
or_right true b e = refl
or_right false b e = e

or_split : (a b : Bool) → (a || b) ≡ true → (a ≡ true) ⊎ (b ≡ true)
or_split true b e = inl refl
or_split false b e = inr e

-- what fits a kind converts to it
fits_converts : (c : Const) (kind : Kind) → Fits c kind → is_convertible c kind ≡ true
unfolding is_convertible
fits_converts (const.Int z) kind is = or_left (is_integer kind) (is_string kind) (int_among z (values_of kind) is)
fits_converts (const.Text t) kind is = text_among t (values_of kind) is
fits_converts (const.Truth b) kind is = truth_among b (values_of kind) is

-- an integer converts to integers and texts
integer_converts : (c : Const) (a kind : Kind) → Fits c a → is_integer a ≡ true → (is_integer kind ≡ true) ⊎ (is_string kind ≡ true) → is_convertible c kind ≡ true
unfolding is_convertible
integer_converts (const.Int z) a kind is int (inl e) = or_left (is_integer kind) (is_string kind) e
integer_converts (const.Int z) a kind is int (inr e) = or_right (is_integer kind) (is_string kind) e
integer_converts (const.Text t) a kind is int either = absurd (no_text (values_of a) is int) where
  no_text : (w : Values) → IsAmong (const.Text t) w → is_integers w ≡ true → ⊥
  no_text Truths never int = never
  no_text (Integers first last) never int = never
  no_text Texts is int = cc
  no_text NoConstants never int = never
integer_converts (const.Truth b) a kind is int either = absurd (no_truth (values_of a) is int) where
  no_truth : (w : Values) → IsAmong (const.Truth b) w → is_integers w ≡ true → ⊥
  no_truth Truths is int = cc
  no_truth (Integers first last) never int = never
  no_truth Texts never int = never
  no_truth NoConstants never int = never

-- ---- underlying types

same_kinds : (a b : Kind) → Identical (BasicType a) (BasicType b) → a ≡ b
same_kinds _ _ (SameBasics kind) = refl

same_unders : (x y : GoType) (a b : Kind) → x ≡ BasicType a → y ≡ BasicType b → Identical x y → a ≡ b
same_unders x y a b p q same = same_kinds a b (subst (λ (w : GoType). Identical (BasicType a) w) q (subst (λ (w : GoType). Identical w y) p same))

one_under : (o : Option GoType) (x y : GoType) → o ≡ Some x → o ≡ Some y → x ≡ y
one_under o x y p q = cc

converts_itself : (c : Const) (a kind : Kind) → Fits c a → a ≡ kind → is_convertible c kind ≡ true
converts_itself c a kind is same = fits_converts c kind (subst (λ (x : Kind). Fits c x) same is)

-- ---- what is convertible passes

module _ (ds : Declarations) (v to : GoType) (a kind : Kind) (c : Const) (of : IsConstantOf ds v a c) (into : under_of ds to ≡ Some (BasicType kind)) where
  by_unders : (under other : GoType) → under_of ds v ≡ Some under → under_of ds to ≡ Some other → Identical (untagged under) (untagged other) → is_convertible c kind ≡ true
  by_unders under other from at same =
      let p : under ≡ BasicType a = one_under (under_of ds v) under (BasicType a) from of.under in
      let q : other ≡ BasicType kind = one_under (under_of ds to) other (BasicType kind) at into in
      converts_itself c a kind of.fits (same_unders (untagged under) (untagged other) a kind (ap untagged p) (ap untagged q) same)

  by_identical : (under other : GoType) → under_of ds v ≡ Some under → under_of ds to ≡ Some other → Identical under other → is_convertible c kind ≡ true
  by_identical under other from at same =
      let p : under ≡ BasicType a = one_under (under_of ds v) under (BasicType a) from of.under in
      let q : other ≡ BasicType kind = one_under (under_of ds to) other (BasicType kind) at into in
      converts_itself c a kind of.fits (same_unders under other a kind p q same)

  represented : (b : Const) (wide : Kind) → Some c ≡ Some b → under_of ds to ≡ Some (BasicType wide) → Fits b wide → is_convertible c kind ≡ true
  represented b wide value at fits =
      let same : b ≡ c = sym (some_once value) in
      let one : BasicType wide ≡ BasicType kind = one_under (under_of ds to) (BasicType wide) (BasicType kind) at into in
      let e : wide ≡ kind = cc in
      converts_itself c wide kind (subst (λ (x : Const). Fits x wide) same fits) e

  never_other : (x : GoType) → under_of ds to ≡ Some x → x ≡ BasicType kind
  never_other x at = one_under (under_of ds to) x (BasicType kind) at into

  never_from : (x : GoType) → under_of ds v ≡ Some x → x ≡ BasicType a
  never_from x at = one_under (under_of ds v) x (BasicType a) at of.under

  identical_under : (x y : GoType) → Identical x y → under_of ds x ≡ Some (BasicType a) → under_of ds y ≡ Some (BasicType kind) → a ≡ kind
  identical_under _ _ (SameBasics z) p q = cc
  identical_under _ _ (SameDefineds name) p q = let one : BasicType a ≡ BasicType kind = one_under (under_of ds (DefinedType name)) (BasicType a) (BasicType kind) p q in cc
  identical_under _ _ (SamePointerTypes x y same) p q = absurd cc
  identical_under _ _ (SameSlices x y same) p q = absurd cc
  identical_under _ _ (SameArrays size x y same) p q = absurd cc
  identical_under _ _ (SameMaps x y z w same more) p q = absurd cc
  identical_under _ _ (SameChannels direction x y same) p q = absurd cc
  identical_under _ _ (SameFunctions x y same) p q = absurd cc
  identical_under _ _ (SameStructs x y same) p q = absurd cc
  identical_under _ _ (SameInterfaces x y same more) p q = absurd cc

  nil_fits : (b : Const) → Fits b k.UntypedNil → ⊥
  nil_fits (const.Int z) never = never
  nil_fits (const.Text t) never = never
  nil_fits (const.Truth b) never = never

  of_nil : v ≡ BasicType k.UntypedNil → ⊥
  of_nil e =
      let one : BasicType k.UntypedNil ≡ BasicType a = never_from (BasicType k.UntypedNil) (ap (under_of ds) e) in
      let same : a ≡ k.UntypedNil = cc in
      nil_fits c (subst (λ (x : Kind). Fits c x) same of.fits)

  of_truth : v ≡ BasicType k.UntypedBool → under_of ds to ≡ Some (BasicType k.Bool) → is_convertible c kind ≡ true
  of_truth e at =
      let one : BasicType k.UntypedBool ≡ BasicType a = never_from (BasicType k.UntypedBool) (ap (under_of ds) e) in
      let same : a ≡ k.UntypedBool = cc in
      let two : BasicType k.Bool ≡ BasicType kind = never_other (BasicType k.Bool) at in
      let boolean : k.Bool ≡ kind = cc in
      converts_itself c k.Bool kind (subst (λ (x : Kind). Fits c x) same of.fits) boolean

  assigned_converts : Assignable ds v (Some c) NoMethod to → is_convertible c kind ≡ true
  assigned_converts (Identicals same) = converts_itself c a kind of.fits (identical_under v to same of.under into)
  assigned_converts (SameUnder under other from at same one) = by_identical under other from at same
  assigned_converts (Implementing wanted at provides) = let e : InterfaceOf wanted ≡ BasicType kind = never_other (InterfaceOf wanted) at in absurd cc
  assigned_converts (Narrowing direction x y from at same one) = let e : ChanOf direction y ≡ BasicType kind = never_other (ChanOf direction y) at in absurd cc
  assigned_converts (Nils under e at holds) = absurd (of_nil e)
  assigned_converts (Represented z wide b e untyped value at fits) = represented b wide value at fits
  assigned_converts (ByDefault z b wanted e untyped value at provides) = let e : InterfaceOf wanted ≡ BasicType kind = never_other (InterfaceOf wanted) at in absurd cc
  assigned_converts (UntypedTruths e at) = of_truth e at

  basic_kind : (x : Kind) → under_of ds v ≡ Some (BasicType x) → is_integer x ≡ true → is_integer a ≡ true
  basic_kind x at e = let one : BasicType x ≡ BasicType a = never_from (BasicType x) at in let same : x ≡ a = cc in subst (λ (y : Kind). is_integer y ≡ true) same e

  pub converts : Convertible ds v (Some c) NoMethod to → is_convertible c kind ≡ true
  converts (Assigned assigned) = assigned_converts assigned
  converts (SameShape (under, other, from, at, same)) = by_unders under other from at same
  converts (SamePointers base other e f same) = let one : PointerTo base ≡ BasicType a = never_from (PointerTo base) (ap (under_of ds) e) in absurd cc
  converts (BothIntegers (x, from, int) (y, at, more)) =
      let two : BasicType y ≡ BasicType kind = never_other (BasicType y) at in
      let same : y ≡ kind = cc in
      integer_converts c a kind of.fits (basic_kind x from int) (inl (subst (λ (z : Kind). is_integer z ≡ true) same more))
  converts (ToString (inl (x, from, int)) (y, at, more)) =
      let two : BasicType y ≡ BasicType kind = never_other (BasicType y) at in
      let same : y ≡ kind = cc in
      integer_converts c a kind of.fits (basic_kind x from int) (inr (subst (λ (z : Kind). is_string z ≡ true) same more))
  converts (ToString (inr (element, from, bytes)) text) = let e : SliceOf element ≡ BasicType a = never_from (SliceOf element) from in absurd cc
  converts (FromString text (element, at, bytes)) = let e : SliceOf element ≡ BasicType kind = never_other (SliceOf element) at in absurd cc
  converts (SliceToArray x y from pointed same) = let e : SliceOf x ≡ BasicType a = never_from (SliceOf x) from in absurd cc

-- ---- what passes is convertible

text_fits : (t : List ℕ) (w : Values) → is_texts w ≡ true → IsAmong (const.Text t) w
text_fits t Truths e = absurd cc
text_fits t (Integers first last) e = absurd cc
text_fits t Texts e = tt
text_fits t NoConstants e = absurd cc

truth_fits : (b : Bool) (w : Values) → is_truths w ≡ true → IsAmong (const.Truth b) w
truth_fits b Truths e = tt
truth_fits b (Integers first last) e = absurd cc
truth_fits b Texts e = absurd cc
truth_fits b NoConstants e = absurd cc

text_kind : (x : Kind) → is_string x ≡ true → is_untyped x ≡ false → x ≡ k.Text
text_kind k.Text e typed = refl
text_kind x e typed = absurd cc

truth_kind : (x : Kind) → is_boolean x ≡ true → is_untyped x ≡ false → x ≡ k.Bool
truth_kind k.Bool e typed = refl
truth_kind x e typed = absurd cc

module _ (ds : Declarations) (v to : GoType) (a kind : Kind) (c : Const) (of : IsConstantOf ds v a c) (into : under_of ds to ≡ Some (BasicType kind)) (typed : is_untyped kind ≡ false) where
  same_shape : a ≡ kind → Convertible ds v (Some c) NoMethod to
  same_shape same = SameShape (BasicType a, BasicType kind, of.under, into, subst (λ (x : Kind). Identical (BasicType a) (BasicType x)) same (SameBasics a))

  -- an untyped one is represented, a typed one of the same kind
  taken : (b : Bool) → is_untyped a ≡ b → Fits c kind → (is_untyped a ≡ false → a ≡ kind) → Convertible ds v (Some c) NoMethod to
  taken true untyped fits same = Assigned (Represented a kind c (of.untyped untyped) untyped refl into fits)
  taken false at fits same = same_shape (same at)

  of_integer : (z : ℤ) → Fits (const.Int z) a → (is_integer kind ≡ true) ⊎ (is_string kind ≡ true) → Convertible ds v (Some c) NoMethod to
  of_integer z fits (inl e) = BothIntegers (a, of.under, int_among z (values_of a) fits) (kind, into, e)
  of_integer z fits (inr e) = ToString (inl (a, of.under, int_among z (values_of a) fits)) (kind, into, e)

  of_text : (t : List ℕ) → c ≡ const.Text t → is_string kind ≡ true → Convertible ds v (Some c) NoMethod to
  of_text t e text =
      let fits : Fits (const.Text t) a = subst (λ (x : Const). Fits x a) e of.fits in
      taken (is_untyped a) refl (subst (λ (x : Const). Fits x kind) (sym e) (text_fits t (values_of kind) text))
      (λ at. text_kind a (text_among t (values_of a) fits) at ∙ sym (text_kind kind text typed))

  of_a_truth : (b : Bool) → c ≡ const.Truth b → is_boolean kind ≡ true → Convertible ds v (Some c) NoMethod to
  of_a_truth b e truth =
      let fits : Fits (const.Truth b) a = subst (λ (x : Const). Fits x a) e of.fits in
      taken (is_untyped a) refl (subst (λ (x : Const). Fits x kind) (sym e) (truth_fits b (values_of kind) truth))
      (λ at. truth_kind a (truth_among b (values_of a) fits) at ∙ sym (truth_kind kind truth typed))

  pub passes : (d : Const) → c ≡ d → is_convertible d kind ≡ true → Convertible ds v (Some c) NoMethod to
  unfolding is_convertible
  passes (const.Int z) e is = of_integer z (subst (λ (x : Const). Fits x a) e of.fits) (or_split (is_integer kind) (is_string kind) is)
  passes (const.Text t) e is = of_text t e is
  passes (const.Truth b) e is = of_a_truth b e is

pub constants_convert : ConstantsConvert
constants_convert ds v to a kind c of into typed = (λ is. passes ds v to a kind c of into typed c refl is, λ convertible. converts ds v to a kind c of into convertible)
