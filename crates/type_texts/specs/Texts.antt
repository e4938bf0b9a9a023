-- The text of a type (Go 1.17, "Types"), and which types have one.
use Rattle.std.specs.Prelude.{◌≡◌, ℕ, ◌≤◌, ◌<◌, ◌+◌, ◌^◌, IsTrue, Bool, false, List, [], ◌∷◌, ◌++◌}
use Rattle.gv_base.specs.Kinds.{kind_number}
use Rattle.gv_bytes.specs.Spelling.{natural, text, IsText}
use Rattle.type_model.specs.GoTypes.{GoType, GoSignature, GoTypes, GoFields, GoMethods, BasicType, DefinedType, PointerTo, SliceOf, ArrayOf, MapOf, ChanOf, FuncOf, StructOf, InterfaceOf, From, NoType, AndType, NoField, AndField, NoMethod, AndMethod, nodes}
use Rattle.type_texts.specs.Fields.{truth_of, dir_number, IsName}
use Rattle.type_texts.specs.Orders.{methods_rise}

abbrev pub type_count : GoTypes → ℕ
type_count NoType = 0
type_count (AndType of types) = 1 + type_count types

abbrev pub field_count : GoFields → ℕ
field_count NoField = 0
field_count (AndField name owner embedded of tag fields) = 1 + field_count fields

abbrev pub method_count : GoMethods → ℕ
method_count NoMethod = 0
method_count (AndMethod name owner pointer of methods) = 1 + method_count methods

abbrev pub is_variadic : GoSignature → Bool
is_variadic (From params results variadic) = variadic

-- `b` kind; `d` package, name; `p` type; `s` type; `a` length, type; `m` key, element; `c` direction, type; `f` 0 or 1 for
-- variadic, parameters, results; `t` fields: name, package, 0 or 1 for embedded, type, tag; `i` methods: name, package, `f` type.
-- A list is its count and its items.
abbrev mutual
  pub type_text : GoType → List ℕ
  type_text (BasicType kind) = 98 ∷ natural (kind_number kind)
  type_text (DefinedType name) = 100 ∷ (text name.package ++ text name.name)
  type_text (PointerTo of) = 112 ∷ type_text of
  type_text (SliceOf of) = 115 ∷ type_text of
  type_text (ArrayOf size of) = 97 ∷ (natural size ++ type_text of)
  type_text (MapOf key of) = 109 ∷ (type_text key ++ type_text of)
  type_text (ChanOf direction of) = 99 ∷ (natural (dir_number direction) ++ type_text of)
  type_text (FuncOf of) = 102 ∷ (natural (truth_of (is_variadic of)) ++ signature_text of)
  type_text (StructOf fields) = 116 ∷ (natural (field_count fields) ++ fields_text fields)
  type_text (InterfaceOf methods) = 105 ∷ (natural (method_count methods) ++ methods_text methods)

  -- the parameters and the results
  pub signature_text : GoSignature → List ℕ
  signature_text (From params results variadic) = (natural (type_count params) ++ types_text params) ++ (natural (type_count results) ++ types_text results)

  pub types_text : GoTypes → List ℕ
  types_text NoType = []
  types_text (AndType of types) = type_text of ++ types_text types

  pub fields_text : GoFields → List ℕ
  fields_text NoField = []
  fields_text (AndField name owner embedded of tag fields) = text name ++ (text owner ++ (natural (truth_of embedded) ++ (type_text of ++ (text tag ++ fields_text fields))))

  pub methods_text : GoMethods → List ℕ
  methods_text NoMethod = []
  methods_text (AndMethod name owner pointer of methods) = text name ++ (text owner ++ (102 ∷ (natural (truth_of (is_variadic of)) ++ (signature_text of ++ methods_text methods))))

-- what can be spelled: names are UTF-8; no defined type is local; lists, tags and arrays have a length in 64 bits; the methods of
-- an interface are in order, and none has a receiver
abbrev mutual
  pub Fits : GoType → Type 0
  Fits (BasicType kind) = Unit {0}
  Fits (DefinedType name) = (IsName name.package × IsName name.name) × (name.local ≡ 0)
  Fits (PointerTo of) = Fits of
  Fits (SliceOf of) = Fits of
  Fits (ArrayOf size of) = (size < 2 ^ 64) × Fits of
  Fits (MapOf key of) = Fits key × Fits of
  Fits (ChanOf direction of) = Fits of
  Fits (FuncOf of) = SignatureFits of
  Fits (StructOf fields) = (field_count fields < 2 ^ 64) × FieldsFit fields
  Fits (InterfaceOf methods) = ((method_count methods < 2 ^ 64) × IsTrue (methods_rise methods)) × MethodsFit methods

  pub SignatureFits : GoSignature → Type 0
  SignatureFits (From params results variadic) = ((type_count params < 2 ^ 64) × TypesFit params) × ((type_count results < 2 ^ 64) × TypesFit results)

  pub TypesFit : GoTypes → Type 0
  TypesFit NoType = Unit {0}
  TypesFit (AndType of types) = Fits of × TypesFit types

  pub FieldsFit : GoFields → Type 0
  FieldsFit NoField = Unit {0}
  FieldsFit (AndField name owner embedded of tag fields) = (IsName name × IsName owner) × Fits of × IsText tag × FieldsFit fields

  pub MethodsFit : GoMethods → Type 0
  MethodsFit NoMethod = Unit {0}
  MethodsFit (AndMethod name owner pointer of methods) = ((IsName name × IsName owner) × (pointer ≡ false)) × SignatureFits of × MethodsFit methods

-- what has a text: at most 10,000 nodes
pub record IsType (of : GoType) : Type 0 where
  pub fits : Fits of
  pub small : nodes of ≤ 10000
