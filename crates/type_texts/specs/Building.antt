-- What a row of pieces makes, from its end: each piece is placed over the parts behind it.
use Rattle.std.specs.Prelude.{ℕ, zero, suc, nat_lt, Bool, List, [], ◌∷◌, length, Option, Some, None, if◌then◌else◌}
use Rattle.gv_bytes.specs.Reading.{◌>>=◌}
use Rattle.type_model.specs.GoTypes.{GoType, GoSignature, GoTypes, GoFields, GoMethods, BasicType, DefinedType, PointerTo, SliceOf, ArrayOf, MapOf, ChanOf, FuncOf, StructOf, InterfaceOf, From, NoType, AndType, NoField, AndField, NoMethod, AndMethod, nodes}
use Rattle.type_model.specs.Parts.{GoField, GoMethod}
use Rattle.type_texts.specs.declared.pieces.Piece.{Piece}
use Rattle.type_texts.specs.declared.pieces.Piece.TheVariants as piece
use Rattle.type_texts.specs.declared.pieces.Sort.TheVariants as sort
use Rattle.type_texts.specs.Orders.{methods_rise}
use Rattle.type_texts.specs.Readers.{Reader}
use Rattle.type_texts.specs.Pieces.{pieces_at}

pub data Part : Type 0 where
  TypePart : GoType → Part
  ListPart : GoTypes → Part
  FieldPart : GoField → Part
  TagPart : List ℕ → Part
  MethodPart : GoMethod → Part
  SignaturePart : GoSignature → Part

-- ---- what stands in front

abbrev pub type_off : List Part → Option (GoType × List Part)
type_off (TypePart t ∷ parts) = Some (t, parts)
type_off parts = None

abbrev pub list_off : List Part → Option (GoTypes × List Part)
list_off (ListPart ts ∷ parts) = Some (ts, parts)
list_off parts = None

abbrev pub tag_off : List Part → Option (List ℕ × List Part)
tag_off (TagPart tag ∷ parts) = Some (tag, parts)
tag_off parts = None

abbrev pub signature_off : List Part → Option (GoSignature × List Part)
signature_off (SignaturePart s ∷ parts) = Some (s, parts)
signature_off parts = None

abbrev pub field_off : List Part → Option (GoField × List Part)
field_off (FieldPart f ∷ parts) = Some (f, parts)
field_off parts = None

abbrev pub method_off : List Part → Option (GoMethod × List Part)
method_off (MethodPart m ∷ parts) = Some (m, parts)
method_off parts = None

-- so many of them in front
abbrev pub each_off : {X L : Type 0} → L → (X → L → L) → (List Part → Option (X × List Part)) → ℕ → List Part → Option (L × List Part)
each_off nil cons one zero parts = Some (nil, parts)
each_off nil cons one (suc n) parts = one parts >>= λ x. each_off nil cons one n x.1 >>= λ more. Some (cons x.0 more.0, more.1)

abbrev pub and_field : GoField → GoFields → GoFields
and_field f fields = AndField f.name f.owner f.embedded f.of f.tag fields

abbrev pub and_method : GoMethod → GoMethods → GoMethods
and_method m methods = AndMethod m.name m.owner m.pointer m.of methods

abbrev pub types_off : ℕ → List Part → Option (GoTypes × List Part)
types_off n parts = each_off NoType AndType type_off n parts

abbrev pub fields_off : ℕ → List Part → Option (GoFields × List Part)
fields_off n parts = each_off NoField and_field field_off n parts

abbrev pub methods_off : ℕ → List Part → Option (GoMethods × List Part)
methods_off n parts = each_off NoMethod and_method method_off n parts

abbrev pub lists_off : Bool → List Part → Option (GoSignature × List Part)
lists_off variadic parts = list_off parts >>= λ params. list_off params.1 >>= λ results. Some (From params.0 results.0 variadic, results.1)

-- ---- what comes over it

-- a type of at most 10,000 nodes
abbrev pub small : GoType → Option GoType
small t = if nat_lt 10000 (nodes t) then None else Some t

abbrev pub type_over : GoType → List Part → Option (List Part)
type_over t parts = small t >>= λ s. Some (TypePart s ∷ parts)

-- methods in order
abbrev pub in_order : GoMethods → Option GoMethods
in_order methods = if methods_rise methods then Some methods else None

-- the interface type of methods in order comes over the parts
abbrev pub interface_over : GoMethods → List Part → Option (List Part)
interface_over methods parts = in_order methods >>= λ o. type_over (InterfaceOf o) parts

-- a piece over the parts behind it
abbrev pub placed : Piece → List Part → Option (List Part)
placed (piece.Basic k) parts = type_over (BasicType k) parts
placed (piece.Defined name) parts = type_over (DefinedType name) parts
placed piece.Pointer parts = type_off parts >>= λ t. type_over (PointerTo t.0) t.1
placed piece.Slice parts = type_off parts >>= λ t. type_over (SliceOf t.0) t.1
placed (piece.Array n) parts = type_off parts >>= λ t. type_over (ArrayOf n t.0) t.1
placed piece.Map parts = type_off parts >>= λ k. type_off k.1 >>= λ t. type_over (MapOf k.0 t.0) t.1
placed (piece.Chan direction) parts = type_off parts >>= λ t. type_over (ChanOf direction t.0) t.1
placed (piece.Func variadic) parts = lists_off variadic parts >>= λ s. type_over (FuncOf s.0) s.1
placed (piece.List n) parts = types_off n parts >>= λ ts. Some (ListPart ts.0 ∷ ts.1)
placed (piece.Struct n) parts = fields_off n parts >>= λ fs. type_over (StructOf fs.0) fs.1
placed (piece.Field name owner embedded) parts = type_off parts >>= λ t. tag_off t.1 >>= λ tag. Some (FieldPart (record { name = name; owner = owner; embedded = embedded; of = t.0; tag = tag.0 }) ∷ tag.1)
placed (piece.Tag tag) parts = Some (TagPart tag ∷ parts)
placed (piece.Interface n) parts = methods_off n parts >>= λ ms. interface_over ms.0 ms.1
placed (piece.Method name owner pointer) parts = signature_off parts >>= λ s. Some (MethodPart (record { name = name; owner = owner; pointer = pointer; of = s.0 }) ∷ s.1)
placed (piece.Signature variadic) parts = lists_off variadic parts >>= λ s. Some (SignaturePart s.0 ∷ s.1)

-- the pieces over what is there, the last one first
abbrev pub built_over : List Piece → Option (List Part) → Option (List Part)
built_over [] parts = parts
built_over (p ∷ ps) parts = built_over ps parts >>= placed p

abbrev pub built : List Piece → Option (List Part)
built ps = built_over ps (Some [])

-- a type in front of the bytes
unfoldable pub type_at : Reader GoType
type_at bytes = do
  ps ← pieces_at (length bytes) (sort.OneType ∷ []) bytes
  parts ← built ps.0
  t ← type_off parts
  Some (t.0, ps.1)
