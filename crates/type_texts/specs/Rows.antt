-- A type as a row of pieces: what stands before its parts, and then its parts.
use Rattle.std.specs.Prelude.{List, ◌∷◌}
use Rattle.type_model.specs.GoTypes.{GoType, GoSignature, GoTypes, GoFields, GoMethods, BasicType, DefinedType, PointerTo, SliceOf, ArrayOf, MapOf, ChanOf, FuncOf, StructOf, InterfaceOf, From, NoType, AndType, NoField, AndField, NoMethod, AndMethod}
use Rattle.type_texts.specs.declared.pieces.Piece.{Piece}
use Rattle.type_texts.specs.declared.pieces.Piece.TheVariants as piece
use Rattle.type_texts.specs.Texts.{type_count, field_count, method_count, is_variadic}

-- a type's pieces, in front of others
abbrev mutual
  pub type_row : GoType → List Piece → List Piece
  type_row (BasicType k) rest = piece.Basic k ∷ rest
  type_row (DefinedType name) rest = piece.Defined name ∷ rest
  type_row (PointerTo of) rest = piece.Pointer ∷ type_row of rest
  type_row (SliceOf of) rest = piece.Slice ∷ type_row of rest
  type_row (ArrayOf size of) rest = piece.Array size ∷ type_row of rest
  type_row (MapOf key of) rest = piece.Map ∷ type_row key (type_row of rest)
  type_row (ChanOf direction of) rest = piece.Chan direction ∷ type_row of rest
  type_row (FuncOf of) rest = piece.Func (is_variadic of) ∷ signature_row of rest
  type_row (StructOf fields) rest = piece.Struct (field_count fields) ∷ fields_row fields rest
  type_row (InterfaceOf methods) rest = piece.Interface (method_count methods) ∷ methods_row methods rest

  pub signature_row : GoSignature → List Piece → List Piece
  signature_row (From params results variadic) rest = piece.List (type_count params) ∷ types_row params (piece.List (type_count results) ∷ types_row results rest)

  pub types_row : GoTypes → List Piece → List Piece
  types_row NoType rest = rest
  types_row (AndType of types) rest = type_row of (types_row types rest)

  pub fields_row : GoFields → List Piece → List Piece
  fields_row NoField rest = rest
  fields_row (AndField name owner embedded of tag fields) rest = piece.Field name owner embedded ∷ type_row of (piece.Tag tag ∷ fields_row fields rest)

  pub methods_row : GoMethods → List Piece → List Piece
  methods_row NoMethod rest = rest
  methods_row (AndMethod name owner pointer of methods) rest = piece.Method name owner pointer ∷ piece.Signature (is_variadic of) ∷ signature_row of (methods_row methods rest)
