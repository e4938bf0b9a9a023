-- Two types pass the test exactly where they are one.
use Rattle.std.proofs.Common.{◌≡◌, ℕ, nat_eq, Bool, true, false, ◌&&◌, List, IsTrue, ◌↔◌, refl, sym, ap, ◌∙◌}
use Rattle.std.specs.Str.{bytes_eq}
use Rattle.std.proofs.lemmas.Bool.{eqb-true, eq-eqb}
use Rattle.std.proofs.lemmas.Slice.Eq.{bytes_eq-Decides}
use Rattle.gv_base.specs.Kinds.{kind_number}
use Rattle.gv_base.specs.declared.constant.Kind.{Kind}
use Rattle.gv_base.proofs.KindNumbers.{kind_once}
use Rattle.type_model.specs.declared.term.Dir.{Dir}
use Rattle.type_model.specs.declared.term.Dir.TheVariants as d
use Rattle.type_model.specs.declared.term.TypeName.{TypeName}
use Rattle.type_model.specs.GoTypes.{GoType, GoSignature, GoTypes, GoFields, GoMethods, BasicType, DefinedType, PointerTo, SliceOf, ArrayOf, MapOf, ChanOf, FuncOf, StructOf, InterfaceOf, From, NoType, AndType, NoField, AndField, NoMethod, AndMethod}
use Rattle.type_model.specs.Tables.{is_same_name}
use Rattle.same_types.specs.Same.{same_truth, same_kind_number, same_direction, same_type, same_signature, same_types, same_fields, same_methods}

first_of : (a b : Bool) → (a && b) ≡ true → a ≡ true
first_of true b e = refl
first_of false b e = absurd cc

rest_of : (a b : Bool) → (a && b) ≡ true → b ≡ true
rest_of true b e = e
rest_of false b e = absurd cc

both_of : (a b : Bool) → a ≡ true → b ≡ true → (a && b) ≡ true
both_of true b p q = q
both_of false b p q = absurd cc

-- ---- parts

numbers_one : (a b : ℕ) → nat_eq a b ≡ true → a ≡ b
numbers_one a b e = eqb-true a b e

number_itself : (a : ℕ) → nat_eq a a ≡ true
number_itself a = eq-eqb a a refl

texts_one : (a b : List ℕ) → bytes_eq a b ≡ true → a ≡ b
texts_one a b e = (bytes_eq-Decides a b).0 e

text_itself : (a : List ℕ) → bytes_eq a a ≡ true
text_itself a = (bytes_eq-Decides a a).1 refl

truths_one : (a b : Bool) → same_truth a b ≡ true → a ≡ b
truths_one true b e = sym e
truths_one false true e = absurd cc
truths_one false false e = refl

truth_itself : (a : Bool) → same_truth a a ≡ true
truth_itself true = refl
truth_itself false = refl

kinds_one : (a b : Kind) → same_kind_number a b ≡ true → a ≡ b
kinds_one a b e = kind_once a b (numbers_one (kind_number a) (kind_number b) e)

kind_itself : (a : Kind) → same_kind_number a a ≡ true
kind_itself a = number_itself (kind_number a)

directions_one : (a b : Dir) → same_direction a b ≡ true → a ≡ b
directions_one d.Both d.Both e = refl
directions_one d.Both d.Send e = absurd cc
directions_one d.Both d.Receive e = absurd cc
directions_one d.Send d.Both e = absurd cc
directions_one d.Send d.Send e = refl
directions_one d.Send d.Receive e = absurd cc
directions_one d.Receive d.Both e = absurd cc
directions_one d.Receive d.Send e = absurd cc
directions_one d.Receive d.Receive e = refl

direction_itself : (a : Dir) → same_direction a a ≡ true
direction_itself d.Both = refl
direction_itself d.Send = refl
direction_itself d.Receive = refl

abbrev name_with : List ℕ → List ℕ → ℕ → TypeName
name_with owner name local = record { «package» = owner; name = name; local = local }

names_one : (a b : TypeName) → is_same_name a b ≡ true → a ≡ b
names_one a b e =
    let owners : a.package ≡ b.package = texts_one a.package b.package (first_of (bytes_eq a.package b.package) (bytes_eq a.name b.name && nat_eq a.local b.local) e) in
    let rest = rest_of (bytes_eq a.package b.package) (bytes_eq a.name b.name && nat_eq a.local b.local) e in
    let names : a.name ≡ b.name = texts_one a.name b.name (first_of (bytes_eq a.name b.name) (nat_eq a.local b.local) rest) in
    let locals : a.local ≡ b.local = numbers_one a.local b.local (rest_of (bytes_eq a.name b.name) (nat_eq a.local b.local) rest) in
    let same : name_with a.package a.name a.local ≡ name_with b.package b.name b.local = cc in same

name_itself : (a : TypeName) → is_same_name a a ≡ true
name_itself a = both_of (bytes_eq a.package a.package) (bytes_eq a.name a.name && nat_eq a.local a.local) (text_itself a.package)
    (both_of (bytes_eq a.name a.name) (nat_eq a.local a.local) (text_itself a.name) (number_itself a.local))

-- ---- types

mutual
  pub type_itself : (a : GoType) → same_type a a ≡ true
  type_itself (BasicType a0) = kind_itself a0
  type_itself (DefinedType a0) = name_itself a0
  type_itself (PointerTo a0) = type_itself a0
  type_itself (SliceOf a0) = type_itself a0
  type_itself (ArrayOf a0 a1) = both_of (nat_eq a0 a0) (same_type a1 a1) (number_itself a0) (type_itself a1)
  type_itself (MapOf a0 a1) = both_of (same_type a0 a0) (same_type a1 a1) (type_itself a0) (type_itself a1)
  type_itself (ChanOf a0 a1) = both_of (same_direction a0 a0) (same_type a1 a1) (direction_itself a0) (type_itself a1)
  type_itself (FuncOf a0) = signature_itself a0
  type_itself (StructOf a0) = fields_themselves a0
  type_itself (InterfaceOf a0) = methods_themselves a0

  signature_itself : (a : GoSignature) → same_signature a a ≡ true
  signature_itself (From a0 a1 a2) = both_of (same_types a0 a0) (same_types a1 a1 && same_truth a2 a2) (types_themselves a0) (both_of (same_types a1 a1) (same_truth a2 a2) (types_themselves a1) (truth_itself a2))

  types_themselves : (a : GoTypes) → same_types a a ≡ true
  types_themselves NoType = refl
  types_themselves (AndType a0 a1) = both_of (same_type a0 a0) (same_types a1 a1) (type_itself a0) (types_themselves a1)

  fields_themselves : (a : GoFields) → same_fields a a ≡ true
  fields_themselves NoField = refl
  fields_themselves (AndField a0 a1 a2 a3 a4 a5) = both_of (bytes_eq a0 a0) (bytes_eq a1 a1 && (same_truth a2 a2 && (same_type a3 a3 && (bytes_eq a4 a4 && same_fields a5 a5)))) (text_itself a0) (both_of (bytes_eq a1 a1) (same_truth a2 a2 && (same_type a3 a3 && (bytes_eq a4 a4 && same_fields a5 a5))) (text_itself a1) (both_of (same_truth a2 a2) (same_type a3 a3 && (bytes_eq a4 a4 && same_fields a5 a5)) (truth_itself a2) (both_of (same_type a3 a3) (bytes_eq a4 a4 && same_fields a5 a5) (type_itself a3) (both_of (bytes_eq a4 a4) (same_fields a5 a5) (text_itself a4) (fields_themselves a5)))))

  methods_themselves : (a : GoMethods) → same_methods a a ≡ true
  methods_themselves NoMethod = refl
  methods_themselves (AndMethod a0 a1 a2 a3 a4) = both_of (bytes_eq a0 a0) (bytes_eq a1 a1 && (same_truth a2 a2 && (same_signature a3 a3 && same_methods a4 a4))) (text_itself a0) (both_of (bytes_eq a1 a1) (same_truth a2 a2 && (same_signature a3 a3 && same_methods a4 a4)) (text_itself a1) (both_of (same_truth a2 a2) (same_signature a3 a3 && same_methods a4 a4) (truth_itself a2) (both_of (same_signature a3 a3) (same_methods a4 a4) (signature_itself a3) (methods_themselves a4))))

mutual
  pub types_one : (a b : GoType) → same_type a b ≡ true → a ≡ b
  types_one (BasicType a0) (BasicType b0) e = ap BasicType (kinds_one a0 b0 e)
  types_one (BasicType a0) (DefinedType b0) e = absurd cc
  types_one (BasicType a0) (PointerTo b0) e = absurd cc
  types_one (BasicType a0) (SliceOf b0) e = absurd cc
  types_one (BasicType a0) (ArrayOf b0 b1) e = absurd cc
  types_one (BasicType a0) (MapOf b0 b1) e = absurd cc
  types_one (BasicType a0) (ChanOf b0 b1) e = absurd cc
  types_one (BasicType a0) (FuncOf b0) e = absurd cc
  types_one (BasicType a0) (StructOf b0) e = absurd cc
  types_one (BasicType a0) (InterfaceOf b0) e = absurd cc
  types_one (DefinedType a0) (BasicType b0) e = absurd cc
  types_one (DefinedType a0) (DefinedType b0) e = ap DefinedType (names_one a0 b0 e)
  types_one (DefinedType a0) (PointerTo b0) e = absurd cc
  types_one (DefinedType a0) (SliceOf b0) e = absurd cc
  types_one (DefinedType a0) (ArrayOf b0 b1) e = absurd cc
  types_one (DefinedType a0) (MapOf b0 b1) e = absurd cc
  types_one (DefinedType a0) (ChanOf b0 b1) e = absurd cc
  types_one (DefinedType a0) (FuncOf b0) e = absurd cc
  types_one (DefinedType a0) (StructOf b0) e = absurd cc
  types_one (DefinedType a0) (InterfaceOf b0) e = absurd cc
  types_one (PointerTo a0) (BasicType b0) e = absurd cc
  types_one (PointerTo a0) (DefinedType b0) e = absurd cc
  types_one (PointerTo a0) (PointerTo b0) e = ap PointerTo (types_one a0 b0 e)
  types_one (PointerTo a0) (SliceOf b0) e = absurd cc
  types_one (PointerTo a0) (ArrayOf b0 b1) e = absurd cc
  types_one (PointerTo a0) (MapOf b0 b1) e = absurd cc
  types_one (PointerTo a0) (ChanOf b0 b1) e = absurd cc
  types_one (PointerTo a0) (FuncOf b0) e = absurd cc
  types_one (PointerTo a0) (StructOf b0) e = absurd cc
  types_one (PointerTo a0) (InterfaceOf b0) e = absurd cc
  types_one (SliceOf a0) (BasicType b0) e = absurd cc
  types_one (SliceOf a0) (DefinedType b0) e = absurd cc
  types_one (SliceOf a0) (PointerTo b0) e = absurd cc
  types_one (SliceOf a0) (SliceOf b0) e = ap SliceOf (types_one a0 b0 e)
  types_one (SliceOf a0) (ArrayOf b0 b1) e = absurd cc
  types_one (SliceOf a0) (MapOf b0 b1) e = absurd cc
  types_one (SliceOf a0) (ChanOf b0 b1) e = absurd cc
  types_one (SliceOf a0) (FuncOf b0) e = absurd cc
  types_one (SliceOf a0) (StructOf b0) e = absurd cc
  types_one (SliceOf a0) (InterfaceOf b0) e = absurd cc
  types_one (ArrayOf a0 a1) (BasicType b0) e = absurd cc
  types_one (ArrayOf a0 a1) (DefinedType b0) e = absurd cc
  types_one (ArrayOf a0 a1) (PointerTo b0) e = absurd cc
  types_one (ArrayOf a0 a1) (SliceOf b0) e = absurd cc
  types_one (ArrayOf a0 a1) (ArrayOf b0 b1) e =
      let p0 : a0 ≡ b0 = numbers_one a0 b0 (first_of (nat_eq a0 b0) (same_type a1 b1) e) in
      let e0 = rest_of (nat_eq a0 b0) (same_type a1 b1) e in
      let p1 : a1 ≡ b1 = types_one a1 b1 e0 in
      let same : ArrayOf a0 a1 ≡ ArrayOf b0 b1 = cc in same
  types_one (ArrayOf a0 a1) (MapOf b0 b1) e = absurd cc
  types_one (ArrayOf a0 a1) (ChanOf b0 b1) e = absurd cc
  types_one (ArrayOf a0 a1) (FuncOf b0) e = absurd cc
  types_one (ArrayOf a0 a1) (StructOf b0) e = absurd cc
  types_one (ArrayOf a0 a1) (InterfaceOf b0) e = absurd cc
  types_one (MapOf a0 a1) (BasicType b0) e = absurd cc
  types_one (MapOf a0 a1) (DefinedType b0) e = absurd cc
  types_one (MapOf a0 a1) (PointerTo b0) e = absurd cc
  types_one (MapOf a0 a1) (SliceOf b0) e = absurd cc
  types_one (MapOf a0 a1) (ArrayOf b0 b1) e = absurd cc
  types_one (MapOf a0 a1) (MapOf b0 b1) e =
      let p0 : a0 ≡ b0 = types_one a0 b0 (first_of (same_type a0 b0) (same_type a1 b1) e) in
      let e0 = rest_of (same_type a0 b0) (same_type a1 b1) e in
      let p1 : a1 ≡ b1 = types_one a1 b1 e0 in
      let same : MapOf a0 a1 ≡ MapOf b0 b1 = cc in same
  types_one (MapOf a0 a1) (ChanOf b0 b1) e = absurd cc
  types_one (MapOf a0 a1) (FuncOf b0) e = absurd cc
  types_one (MapOf a0 a1) (StructOf b0) e = absurd cc
  types_one (MapOf a0 a1) (InterfaceOf b0) e = absurd cc
  types_one (ChanOf a0 a1) (BasicType b0) e = absurd cc
  types_one (ChanOf a0 a1) (DefinedType b0) e = absurd cc
  types_one (ChanOf a0 a1) (PointerTo b0) e = absurd cc
  types_one (ChanOf a0 a1) (SliceOf b0) e = absurd cc
  types_one (ChanOf a0 a1) (ArrayOf b0 b1) e = absurd cc
  types_one (ChanOf a0 a1) (MapOf b0 b1) e = absurd cc
  types_one (ChanOf a0 a1) (ChanOf b0 b1) e =
      let p0 : a0 ≡ b0 = directions_one a0 b0 (first_of (same_direction a0 b0) (same_type a1 b1) e) in
      let e0 = rest_of (same_direction a0 b0) (same_type a1 b1) e in
      let p1 : a1 ≡ b1 = types_one a1 b1 e0 in
      let same : ChanOf a0 a1 ≡ ChanOf b0 b1 = cc in same
  types_one (ChanOf a0 a1) (FuncOf b0) e = absurd cc
  types_one (ChanOf a0 a1) (StructOf b0) e = absurd cc
  types_one (ChanOf a0 a1) (InterfaceOf b0) e = absurd cc
  types_one (FuncOf a0) (BasicType b0) e = absurd cc
  types_one (FuncOf a0) (DefinedType b0) e = absurd cc
  types_one (FuncOf a0) (PointerTo b0) e = absurd cc
  types_one (FuncOf a0) (SliceOf b0) e = absurd cc
  types_one (FuncOf a0) (ArrayOf b0 b1) e = absurd cc
  types_one (FuncOf a0) (MapOf b0 b1) e = absurd cc
  types_one (FuncOf a0) (ChanOf b0 b1) e = absurd cc
  types_one (FuncOf a0) (FuncOf b0) e = ap FuncOf (signatures_one a0 b0 e)
  types_one (FuncOf a0) (StructOf b0) e = absurd cc
  types_one (FuncOf a0) (InterfaceOf b0) e = absurd cc
  types_one (StructOf a0) (BasicType b0) e = absurd cc
  types_one (StructOf a0) (DefinedType b0) e = absurd cc
  types_one (StructOf a0) (PointerTo b0) e = absurd cc
  types_one (StructOf a0) (SliceOf b0) e = absurd cc
  types_one (StructOf a0) (ArrayOf b0 b1) e = absurd cc
  types_one (StructOf a0) (MapOf b0 b1) e = absurd cc
  types_one (StructOf a0) (ChanOf b0 b1) e = absurd cc
  types_one (StructOf a0) (FuncOf b0) e = absurd cc
  types_one (StructOf a0) (StructOf b0) e = ap StructOf (fields_one a0 b0 e)
  types_one (StructOf a0) (InterfaceOf b0) e = absurd cc
  types_one (InterfaceOf a0) (BasicType b0) e = absurd cc
  types_one (InterfaceOf a0) (DefinedType b0) e = absurd cc
  types_one (InterfaceOf a0) (PointerTo b0) e = absurd cc
  types_one (InterfaceOf a0) (SliceOf b0) e = absurd cc
  types_one (InterfaceOf a0) (ArrayOf b0 b1) e = absurd cc
  types_one (InterfaceOf a0) (MapOf b0 b1) e = absurd cc
  types_one (InterfaceOf a0) (ChanOf b0 b1) e = absurd cc
  types_one (InterfaceOf a0) (FuncOf b0) e = absurd cc
  types_one (InterfaceOf a0) (StructOf b0) e = absurd cc
  types_one (InterfaceOf a0) (InterfaceOf b0) e = ap InterfaceOf (methods_one a0 b0 e)

  signatures_one : (a b : GoSignature) → same_signature a b ≡ true → a ≡ b
  signatures_one (From a0 a1 a2) (From b0 b1 b2) e =
      let p0 : a0 ≡ b0 = lists_one a0 b0 (first_of (same_types a0 b0) (same_types a1 b1 && same_truth a2 b2) e) in
      let e0 = rest_of (same_types a0 b0) (same_types a1 b1 && same_truth a2 b2) e in
      let p1 : a1 ≡ b1 = lists_one a1 b1 (first_of (same_types a1 b1) (same_truth a2 b2) e0) in
      let e1 = rest_of (same_types a1 b1) (same_truth a2 b2) e0 in
      let p2 : a2 ≡ b2 = truths_one a2 b2 e1 in
      let same : From a0 a1 a2 ≡ From b0 b1 b2 = cc in same

  lists_one : (a b : GoTypes) → same_types a b ≡ true → a ≡ b
  lists_one NoType NoType e = refl
  lists_one NoType (AndType b0 b1) e = absurd cc
  lists_one (AndType a0 a1) NoType e = absurd cc
  lists_one (AndType a0 a1) (AndType b0 b1) e =
      let p0 : a0 ≡ b0 = types_one a0 b0 (first_of (same_type a0 b0) (same_types a1 b1) e) in
      let e0 = rest_of (same_type a0 b0) (same_types a1 b1) e in
      let p1 : a1 ≡ b1 = lists_one a1 b1 e0 in
      let same : AndType a0 a1 ≡ AndType b0 b1 = cc in same

  fields_one : (a b : GoFields) → same_fields a b ≡ true → a ≡ b
  fields_one NoField NoField e = refl
  fields_one NoField (AndField b0 b1 b2 b3 b4 b5) e = absurd cc
  fields_one (AndField a0 a1 a2 a3 a4 a5) NoField e = absurd cc
  fields_one (AndField a0 a1 a2 a3 a4 a5) (AndField b0 b1 b2 b3 b4 b5) e =
      let p0 : a0 ≡ b0 = texts_one a0 b0 (first_of (bytes_eq a0 b0) (bytes_eq a1 b1 && (same_truth a2 b2 && (same_type a3 b3 && (bytes_eq a4 b4 && same_fields a5 b5)))) e) in
      let e0 = rest_of (bytes_eq a0 b0) (bytes_eq a1 b1 && (same_truth a2 b2 && (same_type a3 b3 && (bytes_eq a4 b4 && same_fields a5 b5)))) e in
      let p1 : a1 ≡ b1 = texts_one a1 b1 (first_of (bytes_eq a1 b1) (same_truth a2 b2 && (same_type a3 b3 && (bytes_eq a4 b4 && same_fields a5 b5))) e0) in
      let e1 = rest_of (bytes_eq a1 b1) (same_truth a2 b2 && (same_type a3 b3 && (bytes_eq a4 b4 && same_fields a5 b5))) e0 in
      let p2 : a2 ≡ b2 = truths_one a2 b2 (first_of (same_truth a2 b2) (same_type a3 b3 && (bytes_eq a4 b4 && same_fields a5 b5)) e1) in
      let e2 = rest_of (same_truth a2 b2) (same_type a3 b3 && (bytes_eq a4 b4 && same_fields a5 b5)) e1 in
      let p3 : a3 ≡ b3 = types_one a3 b3 (first_of (same_type a3 b3) (bytes_eq a4 b4 && same_fields a5 b5) e2) in
      let e3 = rest_of (same_type a3 b3) (bytes_eq a4 b4 && same_fields a5 b5) e2 in
      let p4 : a4 ≡ b4 = texts_one a4 b4 (first_of (bytes_eq a4 b4) (same_fields a5 b5) e3) in
      let e4 = rest_of (bytes_eq a4 b4) (same_fields a5 b5) e3 in
      let p5 : a5 ≡ b5 = fields_one a5 b5 e4 in
      let same : AndField a0 a1 a2 a3 a4 a5 ≡ AndField b0 b1 b2 b3 b4 b5 = cc in same

  methods_one : (a b : GoMethods) → same_methods a b ≡ true → a ≡ b
  methods_one NoMethod NoMethod e = refl
  methods_one NoMethod (AndMethod b0 b1 b2 b3 b4) e = absurd cc
  methods_one (AndMethod a0 a1 a2 a3 a4) NoMethod e = absurd cc
  methods_one (AndMethod a0 a1 a2 a3 a4) (AndMethod b0 b1 b2 b3 b4) e =
      let p0 : a0 ≡ b0 = texts_one a0 b0 (first_of (bytes_eq a0 b0) (bytes_eq a1 b1 && (same_truth a2 b2 && (same_signature a3 b3 && same_methods a4 b4))) e) in
      let e0 = rest_of (bytes_eq a0 b0) (bytes_eq a1 b1 && (same_truth a2 b2 && (same_signature a3 b3 && same_methods a4 b4))) e in
      let p1 : a1 ≡ b1 = texts_one a1 b1 (first_of (bytes_eq a1 b1) (same_truth a2 b2 && (same_signature a3 b3 && same_methods a4 b4)) e0) in
      let e1 = rest_of (bytes_eq a1 b1) (same_truth a2 b2 && (same_signature a3 b3 && same_methods a4 b4)) e0 in
      let p2 : a2 ≡ b2 = truths_one a2 b2 (first_of (same_truth a2 b2) (same_signature a3 b3 && same_methods a4 b4) e1) in
      let e2 = rest_of (same_truth a2 b2) (same_signature a3 b3 && same_methods a4 b4) e1 in
      let p3 : a3 ≡ b3 = signatures_one a3 b3 (first_of (same_signature a3 b3) (same_methods a4 b4) e2) in
      let e3 = rest_of (same_signature a3 b3) (same_methods a4 b4) e2 in
      let p4 : a4 ≡ b4 = methods_one a4 b4 e3 in
      let same : AndMethod a0 a1 a2 a3 a4 ≡ AndMethod b0 b1 b2 b3 b4 = cc in same

-- a test of whether they are one gives the same
pub same_as : (r : Bool) (a b : GoType) → (IsTrue r ↔ (a ≡ b)) → r ≡ same_type a b
same_as true a b is = let e : a ≡ b = is.0 refl in sym (ap (λ t. same_type a t) (sym e) ∙ type_itself a)
same_as false a b is = by (same_type a b) refl where
  by : (s : Bool) → same_type a b ≡ s → false ≡ s
  by true e = let never : IsTrue false = is.1 (types_one a b e) in absurd cc
  by false e = refl
