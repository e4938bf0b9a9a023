-- Types as rows of pieces: their text, and that they serve what is wanted.
use Rattle.std.proofs.Common.{◌≡◌, ℕ, suc, ◌+◌, ◌<◌, ◌^◌, List, [], ◌∷◌, ◌++◌, refl, sym, ap, ◌∙◌, arith, append_assoc}
use Rattle.gv_bytes.specs.Spelling.{natural, text}
use Rattle.type_model.specs.GoTypes.{GoType, GoSignature, GoTypes, GoFields, GoMethods, BasicType, DefinedType, PointerTo, SliceOf, ArrayOf, MapOf, ChanOf, FuncOf, StructOf, InterfaceOf, From, NoType, AndType, NoField, AndField, NoMethod, AndMethod}
use Rattle.type_texts.specs.declared.pieces.Piece.{Piece}
use Rattle.type_texts.specs.declared.pieces.Piece.TheVariants as piece
use Rattle.type_texts.specs.declared.pieces.Sort.{Sort}
use Rattle.type_texts.specs.declared.pieces.Sort.TheVariants as sort
use Rattle.type_texts.specs.Fields.{truth_of, dir_number}
use Rattle.type_texts.specs.Texts.{type_count, field_count, method_count, is_variadic, type_text, signature_text, types_text, fields_text, methods_text, Fits, SignatureFits, TypesFit, FieldsFit, MethodsFit}
use Rattle.type_texts.specs.Rows.{type_row, signature_row, types_row, fields_row, methods_row}
use Rattle.type_texts.specs.Pieces.{copies, piece_text, pieces_text, Serves}

-- ---- the text of the row is the text of the type

over : (a b c d : List ℕ) → b ≡ c ++ d → a ++ b ≡ (a ++ c) ++ d
over a b c d e = ap (λ (t : List ℕ). a ++ t) e ∙ sym (append_assoc a c d)

mutual
  unfolding piece_text

  pub row_text : (t : GoType) (rest : List Piece) → pieces_text (type_row t rest) ≡ type_text t ++ pieces_text rest
  row_text (BasicType k) rest = refl
  row_text (DefinedType name) rest = refl
  row_text (PointerTo of) rest = ap (λ (r : List ℕ). 112 ∷ r) (row_text of rest)
  row_text (SliceOf of) rest = ap (λ (r : List ℕ). 115 ∷ r) (row_text of rest)
  row_text (ArrayOf size of) rest = ap (λ (r : List ℕ). 97 ∷ r) (over (natural size) (pieces_text (type_row of rest)) (type_text of) (pieces_text rest) (row_text of rest))
  row_text (MapOf key of) rest =
      ap (λ (r : List ℕ). 109 ∷ r) (row_text key (type_row of rest) ∙ over (type_text key) (pieces_text (type_row of rest)) (type_text of) (pieces_text rest) (row_text of rest))
  row_text (ChanOf direction of) rest = ap (λ (r : List ℕ). 99 ∷ r) (over (natural (dir_number direction)) (pieces_text (type_row of rest)) (type_text of) (pieces_text rest) (row_text of rest))
  row_text (FuncOf of) rest =
      ap (λ (r : List ℕ). 102 ∷ r) (over (natural (truth_of (is_variadic of))) (pieces_text (signature_row of rest)) (signature_text of) (pieces_text rest) (signature_row_text of rest))
  row_text (StructOf fields) rest =
      ap (λ (r : List ℕ). 116 ∷ r) (over (natural (field_count fields)) (pieces_text (fields_row fields rest)) (fields_text fields) (pieces_text rest) (fields_row_text fields rest))
  row_text (InterfaceOf methods) rest =
      ap (λ (r : List ℕ). 105 ∷ r) (over (natural (method_count methods)) (pieces_text (methods_row methods rest)) (methods_text methods) (pieces_text rest) (methods_row_text methods rest))

  signature_row_text : (s : GoSignature) (rest : List Piece) → pieces_text (signature_row s rest) ≡ signature_text s ++ pieces_text rest
  signature_row_text (From params results variadic) rest =
      let last = over (natural (type_count results)) (pieces_text (types_row results rest)) (types_text results) (pieces_text rest) (types_row_text results rest) in
      let first = over (natural (type_count params)) (pieces_text (types_row params (piece.List (type_count results) ∷ types_row results rest))) (types_text params) (pieces_text (piece.List (type_count results) ∷ types_row results rest)) (types_row_text params (piece.List (type_count results) ∷ types_row results rest)) in
      first ∙ over (natural (type_count params) ++ types_text params) (pieces_text (piece.List (type_count results) ∷ types_row results rest)) (natural (type_count results) ++ types_text results) (pieces_text rest) last

  types_row_text : (ts : GoTypes) (rest : List Piece) → pieces_text (types_row ts rest) ≡ types_text ts ++ pieces_text rest
  types_row_text NoType rest = refl
  types_row_text (AndType of types) rest =
      row_text of (types_row types rest) ∙ over (type_text of) (pieces_text (types_row types rest)) (types_text types) (pieces_text rest) (types_row_text types rest)

  fields_row_text : (fs : GoFields) (rest : List Piece) → pieces_text (fields_row fs rest) ≡ fields_text fs ++ pieces_text rest
  fields_row_text NoField rest = refl
  fields_row_text (AndField name owner embedded of tag fields) rest =
      let one = over (text tag) (pieces_text (fields_row fields rest)) (fields_text fields) (pieces_text rest) (fields_row_text fields rest) in
      let two = row_text of (piece.Tag tag ∷ fields_row fields rest) ∙ over (type_text of) (pieces_text (piece.Tag tag ∷ fields_row fields rest)) (text tag ++ fields_text fields) (pieces_text rest) one in
      let front = append_assoc (text name) (text owner ++ natural (truth_of embedded)) (pieces_text (type_row of (piece.Tag tag ∷ fields_row fields rest))) ∙ ap (λ (r : List ℕ). text name ++ r) (append_assoc (text owner) (natural (truth_of embedded)) (pieces_text (type_row of (piece.Tag tag ∷ fields_row fields rest)))) in
      let three = over (natural (truth_of embedded)) (pieces_text (type_row of (piece.Tag tag ∷ fields_row fields rest))) (type_text of ++ (text tag ++ fields_text fields)) (pieces_text rest) two in
      let four = over (text owner) (natural (truth_of embedded) ++ pieces_text (type_row of (piece.Tag tag ∷ fields_row fields rest))) (natural (truth_of embedded) ++ (type_text of ++ (text tag ++ fields_text fields))) (pieces_text rest) three in
      front ∙ over (text name) (text owner ++ (natural (truth_of embedded) ++ pieces_text (type_row of (piece.Tag tag ∷ fields_row fields rest)))) (text owner ++ (natural (truth_of embedded) ++ (type_text of ++ (text tag ++ fields_text fields)))) (pieces_text rest) four

  methods_row_text : (ms : GoMethods) (rest : List Piece) → pieces_text (methods_row ms rest) ≡ methods_text ms ++ pieces_text rest
  methods_row_text NoMethod rest = refl
  methods_row_text (AndMethod name owner pointer of methods) rest =
      let bit = natural (truth_of (is_variadic of)) in
      let behind = pieces_text (signature_row of (methods_row methods rest)) in
      let one = signature_row_text of (methods_row methods rest) ∙ over (signature_text of) (pieces_text (methods_row methods rest)) (methods_text methods) (pieces_text rest) (methods_row_text methods rest) in
      let two = over (natural (truth_of (is_variadic of))) behind (signature_text of ++ methods_text methods) (pieces_text rest) one in
      let three : 102 ∷ (natural (truth_of (is_variadic of)) ++ behind) ≡ (102 ∷ (natural (truth_of (is_variadic of)) ++ (signature_text of ++ methods_text methods))) ++ pieces_text rest = ap (λ (r : List ℕ). 102 ∷ r) two in
      let four = over (text owner) (102 ∷ (natural (truth_of (is_variadic of)) ++ behind)) (102 ∷ (natural (truth_of (is_variadic of)) ++ (signature_text of ++ methods_text methods))) (pieces_text rest) three in
      append_assoc (text name) (text owner) (102 ∷ (natural (truth_of (is_variadic of)) ++ behind))
      ∙ over (text name) (text owner ++ (102 ∷ (natural (truth_of (is_variadic of)) ++ behind))) (text owner ++ (102 ∷ (natural (truth_of (is_variadic of)) ++ (signature_text of ++ methods_text methods)))) (pieces_text rest) four

-- ---- the row serves one type wanted

mutual
  pub row_serves : (t : GoType) (wants : List Sort) (rest : List Piece) → Fits t → Serves wants rest → Serves (sort.OneType ∷ wants) (type_row t rest)
  row_serves (BasicType k) wants rest fits h = ((refl, tt), h)
  row_serves (DefinedType name) wants rest fits h = ((refl, fits), h)
  row_serves (PointerTo of) wants rest fits h = ((refl, tt), row_serves of wants rest fits h)
  row_serves (SliceOf of) wants rest fits h = ((refl, tt), row_serves of wants rest fits h)
  row_serves (ArrayOf size of) wants rest fits h = ((refl, fits.0), row_serves of wants rest fits.1 h)
  row_serves (MapOf key of) wants rest fits h = ((refl, tt), row_serves key (sort.OneType ∷ wants) (type_row of rest) fits.0 (row_serves of wants rest fits.1 h))
  row_serves (ChanOf direction of) wants rest fits h = ((refl, tt), row_serves of wants rest fits h)
  row_serves (FuncOf of) wants rest fits h = ((refl, tt), signature_serves of wants rest fits h)
  row_serves (StructOf fields) wants rest fits h = ((refl, fits.0), fields_serve fields wants rest fits.1 h)
  row_serves (InterfaceOf methods) wants rest fits h = ((refl, fits.0.0), methods_serve methods wants rest fits.1 h)

  signature_serves : (s : GoSignature) (wants : List Sort) (rest : List Piece) → SignatureFits s → Serves wants rest → Serves (sort.SomeTypes ∷ sort.SomeTypes ∷ wants) (signature_row s rest)
  signature_serves (From params results variadic) wants rest fits h =
      let last : Serves (sort.SomeTypes ∷ wants) (piece.List (type_count results) ∷ types_row results rest) = ((refl, fits.1.0), types_serve results wants rest fits.1.1 h) in
      ((refl, fits.0.0), types_serve params (sort.SomeTypes ∷ wants) (piece.List (type_count results) ∷ types_row results rest) fits.0.1 last)

  types_serve : (ts : GoTypes) (wants : List Sort) (rest : List Piece) → TypesFit ts → Serves wants rest → Serves (copies (type_count ts) sort.OneType ++ wants) (types_row ts rest)
  types_serve NoType wants rest fits h = h
  types_serve (AndType of types) wants rest fits h =
      let next : 1 + type_count types ≡ suc (type_count types) = omega arith in
      rw next (row_serves of (copies (type_count types) sort.OneType ++ wants) (types_row types rest) fits.0 (types_serve types wants rest fits.1 h))

  fields_serve : (fs : GoFields) (wants : List Sort) (rest : List Piece) → FieldsFit fs → Serves wants rest → Serves (copies (field_count fs) sort.OneField ++ wants) (fields_row fs rest)
  fields_serve NoField wants rest fits h = h
  fields_serve (AndField name owner embedded of tag fields) wants rest fits h =
      let next : 1 + field_count fields ≡ suc (field_count fields) = omega arith in
      let after : Serves (copies (field_count fields) sort.OneField ++ wants) (fields_row fields rest) = fields_serve fields wants rest fits.3 h in
      let behind : Serves (sort.OneTag ∷ (copies (field_count fields) sort.OneField ++ wants)) (piece.Tag tag ∷ fields_row fields rest) = ((refl, fits.2), after) in
      rw next ((refl, fits.0), row_serves of (sort.OneTag ∷ (copies (field_count fields) sort.OneField ++ wants)) (piece.Tag tag ∷ fields_row fields rest) fits.1 behind)

  methods_serve : (ms : GoMethods) (wants : List Sort) (rest : List Piece) → MethodsFit ms → Serves wants rest → Serves (copies (method_count ms) sort.OneMethod ++ wants) (methods_row ms rest)
  methods_serve NoMethod wants rest fits h = h
  methods_serve (AndMethod name owner pointer of methods) wants rest fits h =
      let next : 1 + method_count methods ≡ suc (method_count methods) = omega arith in
      let after : Serves (copies (method_count methods) sort.OneMethod ++ wants) (methods_row methods rest) = methods_serve methods wants rest fits.2 h in
      let behind : Serves (sort.OneSignature ∷ (copies (method_count methods) sort.OneMethod ++ wants)) (piece.Signature (is_variadic of) ∷ signature_row of (methods_row methods rest)) = ((refl, tt), signature_serves of (copies (method_count methods) sort.OneMethod ++ wants) (methods_row methods rest) fits.1 after) in
      rw next ((refl, fits.0), behind)
