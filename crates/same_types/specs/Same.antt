-- Identical types, as a test (Go 1.17, "Type identity"). Types of a table are identical exactly where they are one, so that this asks whether
-- they are one: of one form, with the same parts in their order.
use Rattle.std.specs.Prelude.{nat_eq, Bool, true, false, not, if◌then◌else◌, ◌&&◌}
use Rattle.std.specs.Str.{bytes_eq}
use Rattle.gv_base.specs.Kinds.{kind_number}
use Rattle.gv_base.specs.declared.constant.Kind.{Kind}
use Rattle.type_model.specs.declared.term.Dir.{Dir}
use Rattle.type_model.specs.declared.term.Dir.TheVariants as d
use Rattle.type_model.specs.GoTypes.{GoType, GoSignature, GoTypes, GoFields, GoMethods, BasicType, DefinedType, PointerTo, SliceOf, ArrayOf, MapOf, ChanOf, FuncOf, StructOf, InterfaceOf, From, NoType, AndType, NoField, AndField, NoMethod, AndMethod}
use Rattle.type_model.specs.Tables.{is_same_name}

abbrev pub same_truth : Bool → Bool → Bool
same_truth a b = if a then b else not b

abbrev pub same_kind_number : Kind → Kind → Bool
same_kind_number a b = nat_eq (kind_number a) (kind_number b)

abbrev pub same_direction : Dir → Dir → Bool
same_direction d.Both d.Both = true
same_direction d.Send d.Send = true
same_direction d.Receive d.Receive = true
same_direction _ _ = false

abbrev mutual
  pub same_type : GoType → GoType → Bool
  same_type (BasicType a0) (BasicType b0) = same_kind_number a0 b0
  same_type (DefinedType a0) (DefinedType b0) = is_same_name a0 b0
  same_type (PointerTo a0) (PointerTo b0) = same_type a0 b0
  same_type (SliceOf a0) (SliceOf b0) = same_type a0 b0
  same_type (ArrayOf a0 a1) (ArrayOf b0 b1) = nat_eq a0 b0 && same_type a1 b1
  same_type (MapOf a0 a1) (MapOf b0 b1) = same_type a0 b0 && same_type a1 b1
  same_type (ChanOf a0 a1) (ChanOf b0 b1) = same_direction a0 b0 && same_type a1 b1
  same_type (FuncOf a0) (FuncOf b0) = same_signature a0 b0
  same_type (StructOf a0) (StructOf b0) = same_fields a0 b0
  same_type (InterfaceOf a0) (InterfaceOf b0) = same_methods a0 b0
  same_type _ _ = false

  pub same_signature : GoSignature → GoSignature → Bool
  same_signature (From a0 a1 a2) (From b0 b1 b2) = same_types a0 b0 && (same_types a1 b1 && same_truth a2 b2)

  pub same_types : GoTypes → GoTypes → Bool
  same_types NoType NoType = true
  same_types (AndType a0 a1) (AndType b0 b1) = same_type a0 b0 && same_types a1 b1
  same_types _ _ = false

  pub same_fields : GoFields → GoFields → Bool
  same_fields NoField NoField = true
  same_fields (AndField a0 a1 a2 a3 a4 a5) (AndField b0 b1 b2 b3 b4 b5) = bytes_eq a0 b0 && (bytes_eq a1 b1 && (same_truth a2 b2 && (same_type a3 b3 && (bytes_eq a4 b4 && same_fields a5 b5))))
  same_fields _ _ = false

  pub same_methods : GoMethods → GoMethods → Bool
  same_methods NoMethod NoMethod = true
  same_methods (AndMethod a0 a1 a2 a3 a4) (AndMethod b0 b1 b2 b3 b4) = bytes_eq a0 b0 && (bytes_eq a1 b1 && (same_truth a2 b2 && (same_signature a3 b3 && same_methods a4 b4)))
  same_methods _ _ = false
