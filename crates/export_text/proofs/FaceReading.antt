-- The reader of interfaces: a line for each record, a word for each field.
use Rattle.std.proofs.Common.{◌≡◌, ℕ, ◌-◌, ◌^◌, Bool, false, cond, eqb, IsTrue, List, [], ◌∷◌, ◌++◌, Option, Some, None, refl, sym, ap, subst, ◌∙◌, inl, inr}
use Rattle.std.proofs.lemmas.Bool.{eqb-true}
use Rattle.gv_bytes.specs.Spelling.{items, AreItems}
use Rattle.gv_bytes.specs.Reading.{◌>>=◌, Reads, natural_at, each_at, items_at}
use Rattle.gv_bytes.proofs.Options.{chosen, some_is}
use Rattle.gv_bytes.proofs.Items.{lists}
use Rattle.type_model.specs.GoTypes.{GoType, GoSignature, BasicType, DefinedType, PointerTo, SliceOf, ArrayOf, MapOf, ChanOf, FuncOf, StructOf, InterfaceOf}
use Rattle.type_model.specs.Parts.{GoMethod}
use Rattle.package_faces.specs.Orders.{rises, object_before, defined_before, method_before}
use Rattle.type_texts.specs.Fields.{value, IsConst, name_at, value_at}
use Rattle.type_texts.specs.Readers.{Reader, seq_at, via_at, kept_at}
use Rattle.type_texts.specs.Texts.{type_text, IsType}
use Rattle.type_texts.specs.Building.{type_at}
use Rattle.package_faces.specs.Faces.{Form, ConstantForm, VariableForm, FunctionForm, OwnForm, AliasForm, ObjectOut, DefinedOut, Face}
use Rattle.export_text.specs.Faces.{mark_of, form_rest, form_text, object_text, method_text, defined_text, face_text, IsForm, IsObjectOut, IsMethodOut, IsDefinedOut, IsFace, IsFaceText, function_of, function_at, constant_of, constant_at, form_rest_at, form_at, object_out, object_at, method_out, method_at, methods_at, defined_out, defined_at, objects_at, defineds_at, face_out, face_at, face_in}
use Rattle.type_texts.proofs.FieldReading.{names, bits, values}
use Rattle.type_texts.proofs.TypeReading.{types}
use Rattle.type_texts.proofs.Readers.{seq, via, part, kept, tagged, whole_take, whole_again}

is_function : (t : GoType) (s : GoSignature) → function_of t ≡ Some s → FuncOf s ≡ t
is_function (BasicType kind) s e = absurd cc
is_function (DefinedType name) s e = absurd cc
is_function (PointerTo of) s e = absurd cc
is_function (SliceOf of) s e = absurd cc
is_function (ArrayOf size of) s e = absurd cc
is_function (MapOf key of) s e = absurd cc
is_function (ChanOf direction of) s e = absurd cc
is_function (FuncOf of) s e = ap FuncOf (sym (some_is of s e))
is_function (StructOf fields) s e = absurd cc
is_function (InterfaceOf methods) s e = absurd cc

functions : Reads (λ s. IsType (FuncOf s)) (λ s. type_text (FuncOf s)) function_at
unfolding function_at
functions = part function_of FuncOf is_function (λ s. refl) types

constants : Reads (λ x. IsType x.0 × IsConst x.1) (λ x. type_text x.0 ++ value x.1) (seq_at type_at value_at)
constants = seq types values

-- what stands behind the mark of a form
abbrev Behind : ℕ → List ℕ → Form × List ℕ → Type 0
Behind c rest y = (mark_of y.0 ≡ c) × (rest ≡ form_rest y.0 ++ y.1) × IsForm y.0

-- a form that holds a value
holds : {A : Type 0} {P : A → Type 0} {s : A → List ℕ} {a : Reader A} (to : A → Form) (mark : ℕ) → ((x : A) → mark_of (to x) ≡ mark) → ((x : A) → s x ≡ form_rest (to x)) → ((x : A) → P x → IsForm (to x)) → Reads P s a
    → (rest : List ℕ) (y : Form × List ℕ) → via_at to a rest ≡ Some y → Behind mark rest y
holds {A} {P} {s} {a} to mark is text_is fits r rest y e = at (a rest) refl e
  where
    at : (o : Option (A × List ℕ)) → a rest ≡ o → (o >>= λ x. Some (to x.0, x.1)) ≡ Some y → Behind mark rest y
    at None e1 e2 = absurd cc
    at (Some x) e1 e2 =
        let t = r.takes rest x e1 in
        subst (λ (z : Form × List ℕ). Behind mark rest z) (some_is (to x.0, x.1) y e2) (is x.0, t.0 ∙ ap (λ (u : List ℕ). u ++ x.1) (text_is x.0), fits x.0 t.1)

own : (rest : List ℕ) (y : Form × List ℕ) → ◌≡◌ {A = Option (Form × List ℕ)} (Some (OwnForm, rest)) (Some y) → Behind 116 rest y
own rest y e = subst (λ (z : Form × List ℕ). Behind 116 rest z) (some_is (OwnForm, rest) y e) (refl, refl, tt)

abbrev picked : List (ℕ × Reader Form) → ℕ → Reader Form
picked [] c rest = None
picked (r ∷ rows) c rest = cond (eqb c r.0) (r.1 rest) (picked rows c rest)

abbrev AreRight : List (ℕ × Reader Form) → Type 0
AreRight [] = Unit {0}
AreRight (r ∷ rows) = ((rest : List ℕ) (y : Form × List ℕ) → r.1 rest ≡ Some y → Behind r.0 rest y) × AreRight rows

pick : (rows : List (ℕ × Reader Form)) → AreRight rows → (c : ℕ) (rest : List ℕ) (y : Form × List ℕ) → picked rows c rest ≡ Some y → Behind c rest y
pick [] right c rest y e = absurd cc
pick (r ∷ rows) right c rest y e =
    elim (chosen (eqb c r.0) (r.1 rest) (picked rows c rest) (Some y) e) [
      | inl p ↦ subst (λ (b : ℕ). Behind b rest y) (sym (eqb-true c r.0 p.0)) (right.0 rest y p.1)
      | inr p ↦ pick rows right.1 c rest y p.1
    ]

abbrev ROWS : List (ℕ × Reader Form)
ROWS = (107, constant_at) ∷ (118, via_at VariableForm type_at) ∷ (102, via_at FunctionForm type_at) ∷ (116, λ rest. Some (OwnForm, rest)) ∷ (97, via_at AliasForm type_at) ∷ []

rows_right : AreRight ROWS
unfolding constant_at
rows_right = (
  holds constant_of 107 (λ x. refl) (λ x. refl) (λ x h. h) constants,
  (
    holds VariableForm 118 (λ x. refl) (λ x. refl) (λ x h. h) types,
    (
      holds FunctionForm 102 (λ x. refl) (λ x. refl) (λ x h. h) types,
      (
        own,
        (
          holds AliasForm 97 (λ x. refl) (λ x. refl) (λ x h. h) types,
          tt,
        ),
      ),
    ),
  ),
)

form_take : (c : ℕ) (rest : List ℕ) (y : Form × List ℕ) → form_rest_at c rest ≡ Some y → Behind c rest y
form_take c rest y e = pick ROWS rows_right c rest y e

form_again : (f : Form) (rest : List ℕ) → IsForm f → form_rest_at (mark_of f) (form_rest f ++ rest) ≡ Some (f, rest)
unfolding constant_at
form_again (ConstantForm t c) rest fits = rw (constants.again (t, c) rest fits) refl
form_again (VariableForm t) rest fits = rw (types.again t rest fits) refl
form_again (FunctionForm t) rest fits = rw (types.again t rest fits) refl
form_again OwnForm rest fits = refl
form_again (AliasForm t) rest fits = rw (types.again t rest fits) refl

forms : Reads IsForm form_text form_at
unfolding form_at
forms = tagged mark_of form_rest_at form_take form_again

objects : Reads IsObjectOut object_text object_at
unfolding object_at
objects = via object_out (λ o. (o.name, o.form)) (λ x h. refl) (λ o. refl) (seq names forms)

methods : Reads IsMethodOut method_text method_at
unfolding method_at
methods = via method_out (λ m. (m.name, (m.owner, (m.pointer, m.of)))) (λ x h. refl) (λ m. refl) (seq names (seq names (seq bits functions)))

ordered_methods : Reads (λ ms. AreItems IsMethodOut ms × IsTrue (rises method_before ms)) (items method_text) methods_at
unfolding methods_at
ordered_methods = kept (rises method_before) (lists methods)

defineds : Reads IsDefinedOut defined_text defined_at
unfolding defined_at
defineds = via defined_out (λ d. (d.name, (d.under, d.methods))) (λ x h. refl) (λ d. refl) (seq names (seq types ordered_methods))

ordered_objects : Reads (λ os. AreItems IsObjectOut os × IsTrue (rises object_before os)) (items object_text) objects_at
unfolding objects_at
ordered_objects = kept (rises object_before) (lists objects)

ordered_defineds : Reads (λ ds. AreItems IsDefinedOut ds × IsTrue (rises defined_before ds)) (items defined_text) defineds_at
unfolding defineds_at
ordered_defineds = kept (rises defined_before) (lists defineds)

pub faces : Reads IsFace face_text face_at
unfolding face_at
faces = via face_out (λ f. (f.path, (f.name, (f.objects, f.types)))) (λ x h. refl) (λ f. refl) (seq names (seq names (seq ordered_objects ordered_defineds)))

pub face_take : (bytes : List ℕ) (f : Face) → face_in bytes ≡ Some f → IsFaceText f bytes
unfolding face_in
face_take bytes f e = let t = whole_take faces bytes f e in record { value = t.0; whole = t.1 }

pub face_again : (bytes : List ℕ) (f : Face) → IsFaceText f bytes → face_in bytes ≡ Some f
unfolding face_in
face_again bytes f h = ap face_in h.whole ∙ whole_again faces f h.value

-- ---- what the parts read, the whole reads

pub defined_read : (bytes one two three name : List ℕ) (u v : GoType) (ms : List GoMethod) → name_at bytes ≡ Some (name, one) → type_at one ≡ Some (u, two) → methods_at two ≡ Some (ms, three) → u ≡ v
    → defined_at bytes ≡ Some (record { name = name; under = v; methods = ms }, three)
unfolding defined_at
defined_read bytes one two three name u v ms a b c e = rw (a, b, c) (ap (λ (t : GoType). Some (record { name = name; under = t; methods = ms }, three)) e)

pub face_read : (bytes one two three four path name : List ℕ) (os now : List ObjectOut) (ds : List DefinedOut) → name_at bytes ≡ Some (path, one) → name_at one ≡ Some (name, two) → objects_at two ≡ Some (os, three) → defineds_at three ≡ Some (ds, four) → os ≡ now
    → face_at bytes ≡ Some (record { path = path; name = name; objects = now; types = ds }, four)
unfolding face_at
face_read bytes one two three four path name os now ds a b c d e = rw (a, b, c, d) (ap (λ (l : List ObjectOut). Some (record { path = path; name = name; objects = l; types = ds }, four)) e)

-- ---- a list that doesn't rise isn't read

kept_not : {A : Type 0} (item : Reader A) (test : List A → Bool) (bytes rest more : List ℕ) (count : ℕ) (list : List A) → natural_at (2 ^ 64 - 1) bytes ≡ Some (count, rest) → each_at item count rest ≡ Some (list, more) → test list ≡ false
    → kept_at test (items_at item) bytes ≡ None
unfolding items_at
kept_not item test bytes rest more count list a b off = rw (a, b, off) refl

pub methods_not : (bytes rest more : List ℕ) (count : ℕ) (list : List GoMethod) → natural_at (2 ^ 64 - 1) bytes ≡ Some (count, rest) → each_at method_at count rest ≡ Some (list, more) → rises method_before list ≡ false → methods_at bytes ≡ None
unfolding methods_at
methods_not bytes rest more count list = kept_not method_at (rises method_before) bytes rest more count list

pub objects_not : (bytes rest more : List ℕ) (count : ℕ) (list : List ObjectOut) → natural_at (2 ^ 64 - 1) bytes ≡ Some (count, rest) → each_at object_at count rest ≡ Some (list, more) → rises object_before list ≡ false → objects_at bytes ≡ None
unfolding objects_at
objects_not bytes rest more count list = kept_not object_at (rises object_before) bytes rest more count list

pub defineds_not : (bytes rest more : List ℕ) (count : ℕ) (list : List DefinedOut) → natural_at (2 ^ 64 - 1) bytes ≡ Some (count, rest) → each_at defined_at count rest ≡ Some (list, more) → rises defined_before list ≡ false → defineds_at bytes ≡ None
unfolding defineds_at
defineds_not bytes rest more count list = kept_not defined_at (rises defined_before) bytes rest more count list
