-- What is gathered of a text: of a type, of an object, of a defined type, of an interface.
use Rattle.std.proofs.Common.{◌≡◌, ℕ, zero, suc, ◌≤◌, List, [], ◌∷◌, ◌++◌, length, Option, Some, refl, sym, ap, ◌∙◌, arith, append_assoc, length-append}
use Rattle.std.proofs.lemmas.List.{append-nil}
use Rattle.std.proofs.lemmas.Grind.{flat_map-append}
use Rattle.std.specs.List.{AllByRecursion, flat_map}
use Rattle.gv_bytes.specs.Spelling.{natural, text, items, AreItems}
use Rattle.gv_bytes.proofs.Options.{just}
use Rattle.type_model.specs.GoTypes.{GoType, GoSignature, GoTypes, GoFields, GoMethods, BasicType, DefinedType, PointerTo, SliceOf, ArrayOf, MapOf, ChanOf, FuncOf, StructOf, InterfaceOf, From, NoType, AndType, NoField, AndField, NoMethod, AndMethod}
use Rattle.type_model.specs.Parts.{GoMethod, type_list}
use Rattle.package_faces.specs.Faces.{Form, ConstantForm, VariableForm, FunctionForm, OwnForm, AliasForm, ObjectOut, DefinedOut, Face}
use Rattle.package_faces.specs.Reaching.{signature_parts, method_parts}
use Rattle.type_texts.specs.declared.pieces.Piece.{Piece}
use Rattle.type_texts.specs.declared.pieces.Piece.TheVariants as piece
use Rattle.type_texts.specs.declared.pieces.Sort.{Sort}
use Rattle.type_texts.specs.declared.pieces.Sort.TheVariants as sort
use Rattle.type_texts.specs.Fields.{truth_of, value}
use Rattle.type_texts.specs.Texts.{type_count, type_text, IsType}
use Rattle.type_texts.specs.Rows.{type_row, signature_row, types_row, fields_row, methods_row}
use Rattle.type_texts.specs.Pieces.{wants_of, piece_text, pieces_text, Serves}
use Rattle.type_texts.proofs.FieldReading.{names, bits, sizes, values}
use Rattle.type_texts.proofs.PieceReading.{pieces, row_short}
use Rattle.type_texts.proofs.TypeRows.{row_text, row_serves}
use Rattle.export_text.specs.Faces.{mark_of, form_rest, form_text, object_text, method_text, defined_text, IsForm, IsObjectOut, IsMethodOut, IsDefinedOut, IsFaceText}
use Rattle.export_text.specs.Mentions.{form_types, object_types, defined_types, face_types}
use Rattle.export_text.specs.Skimming.{mention_of, owner_of, row_skimmed, type_skimmed, each_skimmed, items_skimmed, constant_skimmed, form_rest_skimmed, form_skimmed, object_skimmed, method_skimmed, defined_skimmed, face_skimmed}

-- ---- what a type mentions, in the order of its text

abbrev mutual
  pub type_names : List ℕ → GoType → List (List ℕ)
  type_names path (BasicType kind) = []
  type_names path (DefinedType name) = mention_of path name.package
  type_names path (PointerTo of) = type_names path of
  type_names path (SliceOf of) = type_names path of
  type_names path (ArrayOf size of) = type_names path of
  type_names path (MapOf key of) = type_names path key ++ type_names path of
  type_names path (ChanOf direction of) = type_names path of
  type_names path (FuncOf of) = signature_names path of
  type_names path (StructOf fields) = fields_names path fields
  type_names path (InterfaceOf methods) = methods_names path methods

  pub signature_names : List ℕ → GoSignature → List (List ℕ)
  signature_names path (From params results variadic) = types_names path params ++ types_names path results

  pub types_names : List ℕ → GoTypes → List (List ℕ)
  types_names path NoType = []
  types_names path (AndType of types) = type_names path of ++ types_names path types

  pub fields_names : List ℕ → GoFields → List (List ℕ)
  fields_names path NoField = []
  fields_names path (AndField name owner embedded of tag fields) = type_names path of ++ fields_names path fields

  pub methods_names : List ℕ → GoMethods → List (List ℕ)
  methods_names path NoMethod = []
  methods_names path (AndMethod name owner pointer of methods) = signature_names path of ++ methods_names path methods

-- ---- and its pieces

abbrev piece_names : List ℕ → Piece → List (List ℕ)
piece_names path p = flat_map (mention_of path) (owner_of p)

abbrev pieces_names : List ℕ → List Piece → List (List ℕ)
pieces_names path ps = flat_map (λ p. piece_names path p) ps

over : (a b c d : List (List ℕ)) → b ≡ c ++ d → a ++ b ≡ (a ++ c) ++ d
over a b c d e = ap (λ (t : List (List ℕ)). a ++ t) e ∙ sym (append_assoc a c d)

mutual
  row_names : (path : List ℕ) (t : GoType) (rest : List Piece) → pieces_names path (type_row t rest) ≡ type_names path t ++ pieces_names path rest
  row_names path (BasicType k) rest = refl
  row_names path (DefinedType name) rest = ap (λ (l : List (List ℕ)). l ++ pieces_names path rest) (append-nil (mention_of path name.package))
  row_names path (PointerTo of) rest = row_names path of rest
  row_names path (SliceOf of) rest = row_names path of rest
  row_names path (ArrayOf size of) rest = row_names path of rest
  row_names path (MapOf key of) rest =
      row_names path key (type_row of rest) ∙ over (type_names path key) (pieces_names path (type_row of rest)) (type_names path of) (pieces_names path rest) (row_names path of rest)
  row_names path (ChanOf direction of) rest = row_names path of rest
  row_names path (FuncOf of) rest = signature_row_names path of rest
  row_names path (StructOf fields) rest = fields_row_names path fields rest
  row_names path (InterfaceOf methods) rest = methods_row_names path methods rest

  signature_row_names : (path : List ℕ) (s : GoSignature) (rest : List Piece) → pieces_names path (signature_row s rest) ≡ signature_names path s ++ pieces_names path rest
  signature_row_names path (From params results variadic) rest =
      types_row_names path params (piece.List (type_count results) ∷ types_row results rest)
      ∙ over (types_names path params) (pieces_names path (types_row results rest)) (types_names path results) (pieces_names path rest) (types_row_names path results rest)

  types_row_names : (path : List ℕ) (ts : GoTypes) (rest : List Piece) → pieces_names path (types_row ts rest) ≡ types_names path ts ++ pieces_names path rest
  types_row_names path NoType rest = refl
  types_row_names path (AndType of types) rest =
      row_names path of (types_row types rest) ∙ over (type_names path of) (pieces_names path (types_row types rest)) (types_names path types) (pieces_names path rest) (types_row_names path types rest)

  fields_row_names : (path : List ℕ) (fs : GoFields) (rest : List Piece) → pieces_names path (fields_row fs rest) ≡ fields_names path fs ++ pieces_names path rest
  fields_row_names path NoField rest = refl
  fields_row_names path (AndField name owner embedded of tag fields) rest =
      row_names path of (piece.Tag tag ∷ fields_row fields rest)
      ∙ over (type_names path of) (pieces_names path (fields_row fields rest)) (fields_names path fields) (pieces_names path rest) (fields_row_names path fields rest)

  methods_row_names : (path : List ℕ) (ms : GoMethods) (rest : List Piece) → pieces_names path (methods_row ms rest) ≡ methods_names path ms ++ pieces_names path rest
  methods_row_names path NoMethod rest = refl
  methods_row_names path (AndMethod name owner pointer of methods) rest =
      signature_row_names path of (methods_row methods rest)
      ∙ over (signature_names path of) (pieces_names path (methods_row methods rest)) (methods_names path methods) (pieces_names path rest) (methods_row_names path methods rest)

-- ---- going through a row

row_gives : (path : List ℕ) (n : ℕ) (wants : List Sort) (ps : List Piece) (out : List (List ℕ)) (rest : List ℕ) → length ps ≤ n → Serves wants ps
    → row_skimmed path n wants out (pieces_text ps ++ rest) ≡ Some (out ++ pieces_names path ps, rest)
unfolding row_skimmed
row_gives path zero [] [] out rest le h = ap (λ (l : List (List ℕ)). just (l, rest)) (sym (append-nil out))
row_gives path (suc n) [] [] out rest le h = ap (λ (l : List (List ℕ)). just (l, rest)) (sym (append-nil out))
row_gives path n [] (p ∷ ps) out rest le h = absurd h
row_gives path n (s ∷ wants) [] out rest le h = absurd h
row_gives path zero (s ∷ wants) (p ∷ ps) out rest le h = absurd (omega (arith, le))
row_gives path (suc n) (s ∷ wants) (p ∷ ps) out rest le h =
    ap (row_skimmed path (suc n) (s ∷ wants) out) (append_assoc (piece_text p) (pieces_text ps) rest)
    ∙ rw ((pieces s).again p (pieces_text ps ++ rest) h.0) (
    row_gives path n (wants_of p ++ wants) ps (out ++ piece_names path p) rest (omega (arith, le)) h.1
    ∙ ap (λ (l : List (List ℕ)). just (l, rest)) (append_assoc out (piece_names path p) (pieces_names path ps))
    )

type_gives : (path : List ℕ) (t : GoType) (out : List (List ℕ)) (rest : List ℕ) → IsType t → type_skimmed path out (type_text t ++ rest) ≡ Some (out ++ type_names path t, rest)
unfolding type_skimmed
type_gives path t out rest fits =
    let row = type_row t [] in
    let spelled : pieces_text row ≡ type_text t = row_text t [] ∙ append-nil (type_text t) in
    let short : length row ≤ length (type_text t ++ rest) = omega (arith, row_short row, ap length spelled, length-append (type_text t) rest) in
    let told : pieces_names path row ≡ type_names path t = row_names path t [] ∙ append-nil (type_names path t) in
    ap (λ (r : List ℕ). row_skimmed path (length (type_text t ++ rest)) (sort.OneType ∷ []) out (r ++ rest)) (sym spelled)
    ∙ row_gives path (length (type_text t ++ rest)) (sort.OneType ∷ []) row out rest short (row_serves t [] [] fits.fits tt)
    ∙ ap (λ (l : List (List ℕ)). just (out ++ l, rest)) told

-- ---- lists

-- what a part of the text adds
abbrev Adds : {A : Type 0} → (A → Type 0) → (A → List ℕ) → (A → List (List ℕ)) → (List (List ℕ) → List ℕ → Option (List (List ℕ) × List ℕ)) → Type 0
Adds {A} IsValid spelling told one = (x : A) (out : List (List ℕ)) (rest : List ℕ) → IsValid x → one out (spelling x ++ rest) ≡ Some (out ++ told x, rest)

each_gives : {A : Type 0} (IsValid : A → Type 0) (spelling : A → List ℕ) (told : A → List (List ℕ)) (one : List (List ℕ) → List ℕ → Option (List (List ℕ) × List ℕ)) → Adds IsValid spelling told one
    → (xs : List A) (out : List (List ℕ)) (rest : List ℕ) → AllByRecursion IsValid xs → each_skimmed one (length xs) out (flat_map spelling xs ++ rest) ≡ Some (out ++ flat_map told xs, rest)
unfolding each_skimmed
each_gives IsValid spelling told one adds [] out rest h = ap (λ (l : List (List ℕ)). just (l, rest)) (sym (append-nil out))
each_gives IsValid spelling told one adds (x ∷ xs) out rest h =
    ap (each_skimmed one (suc (length xs)) out) (append_assoc (spelling x) (flat_map spelling xs) rest)
    ∙ rw (adds x out (flat_map spelling xs ++ rest) h.0) (
    each_gives IsValid spelling told one adds xs (out ++ told x) rest h.1 ∙ ap (λ (l : List (List ℕ)). just (l, rest)) (append_assoc out (told x) (flat_map told xs))
    )

items_give : {A : Type 0} (IsValid : A → Type 0) (spelling : A → List ℕ) (told : A → List (List ℕ)) (one : List (List ℕ) → List ℕ → Option (List (List ℕ) × List ℕ)) → Adds IsValid spelling told one
    → (xs : List A) (out : List (List ℕ)) (rest : List ℕ) → AreItems IsValid xs → items_skimmed one out (items spelling xs ++ rest) ≡ Some (out ++ flat_map told xs, rest)
unfolding items_skimmed
items_give IsValid spelling told one adds xs out rest h =
    ap (items_skimmed one out) (append_assoc (natural (length xs)) (flat_map spelling xs) rest)
    ∙ rw (sizes.again (length xs) (flat_map spelling xs ++ rest) h.0) (each_gives IsValid spelling told one adds xs out rest h.1)

-- ---- an interface

module _ (path : List ℕ) where
  abbrev all_names : List GoType → List (List ℕ)
  all_names types = flat_map (λ t. type_names path t) types

  one_more : (t : GoType) (out : List (List ℕ)) (rest : List ℕ) → ◌≡◌ {A = Option (List (List ℕ) × List ℕ)} (Some (out ++ type_names path t, rest)) (Some (out ++ all_names (t ∷ []), rest))
  one_more t out rest = ap (λ (l : List (List ℕ)). just (out ++ l, rest)) (sym (append-nil (type_names path t)))

  form_gives : (f : Form) (out : List (List ℕ)) (rest : List ℕ) → IsForm f → form_rest_skimmed path out (mark_of f) (form_rest f ++ rest) ≡ Some (out ++ all_names (form_types f), rest)
  unfolding constant_skimmed
  form_gives (ConstantForm t c) out rest fits =
      ap (constant_skimmed path out) (append_assoc (type_text t) (value c) rest) ∙ rw (type_gives path t out (value c ++ rest) fits.0, values.again c rest fits.1) (one_more t out rest)
  form_gives (VariableForm t) out rest fits = type_gives path t out rest fits ∙ one_more t out rest
  form_gives (FunctionForm t) out rest fits = type_gives path t out rest fits ∙ one_more t out rest
  form_gives OwnForm out rest fits = ap (λ (l : List (List ℕ)). just (l, rest)) (sym (append-nil out))
  form_gives (AliasForm t) out rest fits = type_gives path t out rest fits ∙ one_more t out rest

  object_gives : Adds IsObjectOut object_text (λ o. all_names (object_types o)) (object_skimmed path)
  unfolding object_skimmed form_skimmed
  object_gives o out rest fits =
      ap (object_skimmed path out) (append_assoc (text o.name) (form_text o.form) rest) ∙ rw (names.again o.name (form_text o.form ++ rest) fits.0) (form_gives o.form out rest fits.1)

  behind : (a b c d rest : List ℕ) → (a ++ (b ++ (c ++ d))) ++ rest ≡ a ++ (b ++ (c ++ (d ++ rest)))
  behind a b c d rest =
      append_assoc a (b ++ (c ++ d)) rest ∙ ap (λ (l : List ℕ). a ++ l) (append_assoc b (c ++ d) rest ∙ ap (λ (l : List ℕ). b ++ l) (append_assoc c d rest))

  method_gives : Adds IsMethodOut method_text (λ m. signature_names path m.of) (method_skimmed path)
  unfolding method_skimmed
  method_gives m out rest fits =
      let bit = natural (truth_of m.pointer) in
      let of = type_text (FuncOf m.of) in
      ap (method_skimmed path out) (behind (text m.name) (text m.owner) bit of rest)
      ∙ rw (names.again m.name (text m.owner ++ (bit ++ (of ++ rest))) fits.0, names.again m.owner (bit ++ (of ++ rest)) fits.1.0, bits.again m.pointer (of ++ rest) tt) (type_gives path (FuncOf m.of) out rest fits.1.1.1)

  abbrev defined_names : DefinedOut → List (List ℕ)
  defined_names d = type_names path d.under ++ flat_map (λ m. signature_names path m.of) d.methods

  defined_gives : Adds IsDefinedOut defined_text defined_names (defined_skimmed path)
  unfolding defined_skimmed
  defined_gives d out rest fits =
      let under = type_text d.under in
      let methods = items method_text d.methods in
      let parts : (text d.name ++ (under ++ methods)) ++ rest ≡ text d.name ++ (under ++ (methods ++ rest)) = append_assoc (text d.name) (under ++ methods) rest ∙ ap (λ (l : List ℕ). text d.name ++ l) (append_assoc under methods rest) in
      ap (defined_skimmed path out) parts
      ∙ rw (names.again d.name (under ++ (methods ++ rest)) fits.0, type_gives path d.under out (methods ++ rest) fits.1.0) (
      items_give IsMethodOut method_text (λ m. signature_names path m.of) (method_skimmed path) method_gives d.methods (out ++ type_names path d.under) rest fits.1.1.0
      ∙ ap (λ (l : List (List ℕ)). just (l, rest)) (append_assoc out (type_names path d.under) (flat_map (λ m. signature_names path m.of) d.methods))
      )

  -- the same by the types that stand in the text

  types_are : (ts : GoTypes) → types_names path ts ≡ all_names (type_list ts)
  types_are NoType = refl
  types_are (AndType of types) = ap (λ (l : List (List ℕ)). type_names path of ++ l) (types_are types)

  pub signature_are : (s : GoSignature) → signature_names path s ≡ all_names (signature_parts s)
  signature_are (From params results variadic) =
      ap (λ (l : List (List ℕ)). l ++ types_names path results) (types_are params) ∙ ap (λ (l : List (List ℕ)). all_names (type_list params) ++ l) (types_are results)
      ∙ sym (flat_map-append (λ t. type_names path t) (type_list params) (type_list results))

  methods_are : (ms : List GoMethod) → flat_map (λ m. signature_names path m.of) ms ≡ all_names (flat_map method_parts ms)
  methods_are [] = refl
  methods_are (m ∷ ms) =
      ap (λ (l : List (List ℕ)). l ++ flat_map (λ m. signature_names path m.of) ms) (signature_are m.of) ∙ ap (λ (l : List (List ℕ)). all_names (signature_parts m.of) ++ l) (methods_are ms)
      ∙ sym (flat_map-append (λ t. type_names path t) (method_parts m) (flat_map method_parts ms))

  objects_are : (os : List ObjectOut) → flat_map (λ o. all_names (object_types o)) os ≡ all_names (flat_map object_types os)
  objects_are [] = refl
  objects_are (o ∷ os) =
      ap (λ (l : List (List ℕ)). all_names (object_types o) ++ l) (objects_are os) ∙ sym (flat_map-append (λ t. type_names path t) (object_types o) (flat_map object_types os))

  defined_are : (d : DefinedOut) → defined_names d ≡ all_names (defined_types d)
  defined_are d = ap (λ (l : List (List ℕ)). type_names path d.under ++ l) (methods_are d.methods)

  defineds_are : (ds : List DefinedOut) → flat_map defined_names ds ≡ all_names (flat_map defined_types ds)
  defineds_are [] = refl
  defineds_are (d ∷ ds) =
      ap (λ (l : List (List ℕ)). l ++ flat_map defined_names ds) (defined_are d) ∙ ap (λ (l : List (List ℕ)). all_names (defined_types d) ++ l) (defineds_are ds)
      ∙ sym (flat_map-append (λ t. type_names path t) (defined_types d) (flat_map defined_types ds))

-- what is gathered of an interface's text: what the types in it mention
pub face_gives : (f : Face) (bytes : List ℕ) → IsFaceText f bytes → face_skimmed bytes ≡ Some (flat_map (λ t. type_names f.path t) (face_types f))
unfolding face_skimmed
face_gives f bytes h =
    let objects = items object_text f.objects in
    let types = items defined_text f.types in
    let whole : bytes ≡ text f.path ++ (text f.name ++ (objects ++ (types ++ []))) = h.whole ∙ ap (λ (l : List ℕ). text f.path ++ (text f.name ++ (objects ++ l))) (sym (append-nil types)) in
    let first = flat_map (λ o. all_names f.path (object_types o)) f.objects in
    let second = flat_map (λ d. defined_names f.path d) f.types in
    let same : first ++ second ≡ flat_map (λ t. type_names f.path t) (face_types f) =
    ap (λ (l : List (List ℕ)). l ++ second) (objects_are f.path f.objects) ∙ ap (λ (l : List (List ℕ)). all_names f.path (flat_map object_types f.objects) ++ l) (defineds_are f.path f.types)
    ∙ sym (flat_map-append (λ t. type_names f.path t) (flat_map object_types f.objects) (flat_map defined_types f.types)) in
    ap face_skimmed whole
    ∙ rw (
      names.again f.path (text f.name ++ (objects ++ (types ++ []))) h.value.0,
      names.again f.name (objects ++ (types ++ [])) h.value.1.0,
      items_give IsObjectOut object_text (λ o. all_names f.path (object_types o)) (object_skimmed f.path) (object_gives f.path) f.objects [] (types ++ []) h.value.1.1.0.0,
      items_give IsDefinedOut defined_text (λ d. defined_names f.path d) (defined_skimmed f.path) (defined_gives f.path) f.types first [] h.value.1.1.1.0,
    ) (ap (λ (l : List (List ℕ)). just l) same)
