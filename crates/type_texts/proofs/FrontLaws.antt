-- The row of parts, which parts serve what is wanted, and what stands in front of those that do.
use Rattle.std.proofs.Common.{◌≡◌, ℕ, zero, suc, ◌+◌, ◌<◌, ◌^◌, false, List, [], ◌∷◌, ◌++◌, Some, refl, ap, arith}
use Rattle.gv_bytes.specs.Spelling.{IsText}
use Rattle.gv_bytes.specs.Reading.{◌>>=◌}
use Rattle.type_model.specs.GoTypes.{GoType, GoSignature, GoTypes, GoFields, GoMethods, NoType, AndType, NoField, NoMethod}
use Rattle.type_texts.specs.declared.pieces.Piece.{Piece}
use Rattle.type_texts.specs.declared.pieces.Piece.TheVariants as piece
use Rattle.type_texts.specs.declared.pieces.Sort.{Sort}
use Rattle.type_texts.specs.declared.pieces.Sort.TheVariants as sort
use Rattle.type_texts.specs.Fields.{IsName}
use Rattle.type_texts.specs.Texts.{type_count, field_count, method_count, is_variadic, Fits, SignatureFits, TypesFit, FieldsFit, MethodsFit, IsType}
use Rattle.type_texts.specs.Rows.{type_row, signature_row, types_row, fields_row, methods_row}
use Rattle.type_texts.specs.Pieces.{copies}
use Rattle.type_texts.specs.Building.{Part, TypePart, ListPart, FieldPart, TagPart, MethodPart, SignaturePart, and_field, and_method, types_off, fields_off, methods_off}

abbrev pub part_row : Part → List Piece → List Piece
part_row (TypePart t) rest = type_row t rest
part_row (ListPart ts) rest = piece.List (type_count ts) ∷ types_row ts rest
part_row (FieldPart f) rest = piece.Field f.name f.owner f.embedded ∷ type_row f.of (piece.Tag f.tag ∷ rest)
part_row (TagPart tag) rest = piece.Tag tag ∷ rest
part_row (MethodPart m) rest = piece.Method m.name m.owner m.pointer ∷ piece.Signature (is_variadic m.of) ∷ signature_row m.of rest
part_row (SignaturePart of) rest = piece.Signature (is_variadic of) ∷ signature_row of rest

abbrev pub parts_row : List Part → List Piece
parts_row [] = []
parts_row (x ∷ parts) = part_row x (parts_row parts)

abbrev pub IsPart : Sort → Part → Type 0
IsPart sort.OneType (TypePart t) = IsType t
IsPart sort.SomeTypes (ListPart ts) = (type_count ts < 2 ^ 64) × TypesFit ts
IsPart sort.OneField (FieldPart f) = (IsName f.name × IsName f.owner) × Fits f.of × IsText f.tag
IsPart sort.OneTag (TagPart tag) = IsText tag
IsPart sort.OneMethod (MethodPart m) = ((IsName m.name × IsName m.owner) × (m.pointer ≡ false)) × SignatureFits m.of
IsPart sort.OneSignature (SignaturePart of) = SignatureFits of
IsPart s x = ⊥

abbrev pub Are : List Sort → List Part → Type 0
Are [] [] = Unit {0}
Are [] (x ∷ parts) = ⊥
Are (s ∷ wants) [] = ⊥
Are (s ∷ wants) (x ∷ parts) = IsPart s x × Are wants parts

-- ---- what stands in front

pub record HasType (wants : List Sort) (parts : List Part) : Type 0 where
  pub t : GoType
  pub more : List Part
  pub is : parts ≡ TypePart t ∷ more
  pub fits : IsType t
  pub rest : Are wants more

pub has_type : (wants : List Sort) (parts : List Part) → Are (sort.OneType ∷ wants) parts → HasType wants parts
has_type wants [] h = absurd h
has_type wants (TypePart t ∷ more) h = record { t = t; more = more; is = refl; fits = h.0; rest = h.1 }
has_type wants (ListPart ts ∷ more) h = absurd h.0
has_type wants (FieldPart f ∷ more) h = absurd h.0
has_type wants (TagPart tag ∷ more) h = absurd h.0
has_type wants (MethodPart m ∷ more) h = absurd h.0
has_type wants (SignaturePart of ∷ more) h = absurd h.0

pub record HasList (wants : List Sort) (parts : List Part) : Type 0 where
  pub ts : GoTypes
  pub more : List Part
  pub is : parts ≡ ListPart ts ∷ more
  pub fits : (type_count ts < 2 ^ 64) × TypesFit ts
  pub rest : Are wants more

pub has_list : (wants : List Sort) (parts : List Part) → Are (sort.SomeTypes ∷ wants) parts → HasList wants parts
has_list wants [] h = absurd h
has_list wants (TypePart t ∷ more) h = absurd h.0
has_list wants (ListPart ts ∷ more) h = record { ts = ts; more = more; is = refl; fits = h.0; rest = h.1 }
has_list wants (FieldPart f ∷ more) h = absurd h.0
has_list wants (TagPart tag ∷ more) h = absurd h.0
has_list wants (MethodPart m ∷ more) h = absurd h.0
has_list wants (SignaturePart of ∷ more) h = absurd h.0

pub record HasTag (wants : List Sort) (parts : List Part) : Type 0 where
  pub tag : List ℕ
  pub more : List Part
  pub is : parts ≡ TagPart tag ∷ more
  pub fits : IsText tag
  pub rest : Are wants more

pub has_tag : (wants : List Sort) (parts : List Part) → Are (sort.OneTag ∷ wants) parts → HasTag wants parts
has_tag wants [] h = absurd h
has_tag wants (TypePart t ∷ more) h = absurd h.0
has_tag wants (ListPart ts ∷ more) h = absurd h.0
has_tag wants (FieldPart f ∷ more) h = absurd h.0
has_tag wants (TagPart tag ∷ more) h = record { tag = tag; more = more; is = refl; fits = h.0; rest = h.1 }
has_tag wants (MethodPart m ∷ more) h = absurd h.0
has_tag wants (SignaturePart of ∷ more) h = absurd h.0

pub record HasSignature (wants : List Sort) (parts : List Part) : Type 0 where
  pub s : GoSignature
  pub more : List Part
  pub is : parts ≡ SignaturePart s ∷ more
  pub fits : SignatureFits s
  pub rest : Are wants more

pub has_signature : (wants : List Sort) (parts : List Part) → Are (sort.OneSignature ∷ wants) parts → HasSignature wants parts
has_signature wants [] h = absurd h
has_signature wants (TypePart t ∷ more) h = absurd h.0
has_signature wants (ListPart ts ∷ more) h = absurd h.0
has_signature wants (FieldPart f ∷ more) h = absurd h.0
has_signature wants (TagPart tag ∷ more) h = absurd h.0
has_signature wants (MethodPart m ∷ more) h = absurd h.0
has_signature wants (SignaturePart of ∷ more) h = record { s = of; more = more; is = refl; fits = h.0; rest = h.1 }

pub record HasTypes (n : ℕ) (wants : List Sort) (parts : List Part) : Type 0 where
  pub ts : GoTypes
  pub more : List Part
  pub off : types_off n parts ≡ Some (ts, more)
  pub size : type_count ts ≡ n
  pub row : parts_row parts ≡ types_row ts (parts_row more)
  pub fits : TypesFit ts
  pub rest : Are wants more

pub has_types : (n : ℕ) (wants : List Sort) (parts : List Part) → Are (copies n sort.OneType ++ wants) parts → HasTypes n wants parts
has_types zero wants parts h = record { ts = NoType; more = parts; off = refl; size = refl; row = refl; fits = tt; rest = h }
has_types (suc n) wants [] h = absurd h
has_types (suc n) wants (TypePart t ∷ parts) h =
    let r = has_types n wants parts h.1 in
    record {
      ts = AndType t r.ts;
      more = r.more;
      off = rw r.off refl;
      size = omega (arith, r.size);
      row = ap (λ (x : List Piece). type_row t x) r.row;
      fits = (h.0.fits, r.fits);
      rest = r.rest;
    }
has_types (suc n) wants (ListPart ts ∷ parts) h = absurd h.0
has_types (suc n) wants (FieldPart f ∷ parts) h = absurd h.0
has_types (suc n) wants (TagPart tag ∷ parts) h = absurd h.0
has_types (suc n) wants (MethodPart m ∷ parts) h = absurd h.0
has_types (suc n) wants (SignaturePart of ∷ parts) h = absurd h.0

pub record HasFields (n : ℕ) (wants : List Sort) (parts : List Part) : Type 0 where
  pub fs : GoFields
  pub more : List Part
  pub off : fields_off n parts ≡ Some (fs, more)
  pub size : field_count fs ≡ n
  pub row : parts_row parts ≡ fields_row fs (parts_row more)
  pub fits : FieldsFit fs
  pub rest : Are wants more

pub has_fields : (n : ℕ) (wants : List Sort) (parts : List Part) → Are (copies n sort.OneField ++ wants) parts → HasFields n wants parts
has_fields zero wants parts h = record { fs = NoField; more = parts; off = refl; size = refl; row = refl; fits = tt; rest = h }
has_fields (suc n) wants [] h = absurd h
has_fields (suc n) wants (TypePart t ∷ parts) h = absurd h.0
has_fields (suc n) wants (ListPart ts ∷ parts) h = absurd h.0
has_fields (suc n) wants (FieldPart f ∷ parts) h =
    let r = has_fields n wants parts h.1 in
    record {
      fs = and_field f r.fs;
      more = r.more;
      off = rw r.off refl;
      size = omega (arith, r.size);
      row = ap (λ (x : List Piece). piece.Field f.name f.owner f.embedded ∷ type_row f.of (piece.Tag f.tag ∷ x)) r.row;
      fits = (h.0.0, h.0.1, h.0.2, r.fits);
      rest = r.rest;
    }
has_fields (suc n) wants (TagPart tag ∷ parts) h = absurd h.0
has_fields (suc n) wants (MethodPart m ∷ parts) h = absurd h.0
has_fields (suc n) wants (SignaturePart of ∷ parts) h = absurd h.0

pub record HasMethods (n : ℕ) (wants : List Sort) (parts : List Part) : Type 0 where
  pub ms : GoMethods
  pub more : List Part
  pub off : methods_off n parts ≡ Some (ms, more)
  pub size : method_count ms ≡ n
  pub row : parts_row parts ≡ methods_row ms (parts_row more)
  pub fits : MethodsFit ms
  pub rest : Are wants more

pub has_methods : (n : ℕ) (wants : List Sort) (parts : List Part) → Are (copies n sort.OneMethod ++ wants) parts → HasMethods n wants parts
has_methods zero wants parts h = record { ms = NoMethod; more = parts; off = refl; size = refl; row = refl; fits = tt; rest = h }
has_methods (suc n) wants [] h = absurd h
has_methods (suc n) wants (TypePart t ∷ parts) h = absurd h.0
has_methods (suc n) wants (ListPart ts ∷ parts) h = absurd h.0
has_methods (suc n) wants (FieldPart f ∷ parts) h = absurd h.0
has_methods (suc n) wants (TagPart tag ∷ parts) h = absurd h.0
has_methods (suc n) wants (MethodPart m ∷ parts) h =
    let r = has_methods n wants parts h.1 in
    record {
      ms = and_method m r.ms;
      more = r.more;
      off = rw r.off refl;
      size = omega (arith, r.size);
      row = ap (λ (x : List Piece). piece.Method m.name m.owner m.pointer ∷ piece.Signature (is_variadic m.of) ∷ signature_row m.of x) r.row;
      fits = (h.0.0, h.0.1, r.fits);
      rest = r.rest;
    }
has_methods (suc n) wants (SignaturePart of ∷ parts) h = absurd h.0
