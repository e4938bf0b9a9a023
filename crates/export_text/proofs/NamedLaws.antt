-- What is gathered of an interface's text is what the interface mentions.
use Rattle.std.proofs.Common.{◌≡◌, inl, inr, suc, Bool, true, false, cond, ℕ, List, [], ◌∷◌, ◌++◌, map, None, refl, sym, ap, subst, ◌∙◌, arith}
use Rattle.std.specs.List.{Contains, flat_map}
use Rattle.std.specs.Option.{option_map_or}
use Rattle.std.specs.Str.{bytes_eq}
use Rattle.std.proofs.lemmas.Grind.{flat_map-append}
use Rattle.std.proofs.lemmas.List.{append-nil}
use Rattle.std.proofs.lemmas.List.Elements.{Contains-append_left, Contains-append_right, Contains-append_cases}
use Rattle.type_model.specs.declared.term.TypeName.{TypeName}
use Rattle.type_model.specs.GoTypes.{GoType, GoSignature, GoTypes, GoFields, GoMethods, BasicType, DefinedType, PointerTo, SliceOf, ArrayOf, MapOf, ChanOf, FuncOf, StructOf, InterfaceOf, From, NoType, AndType, NoField, AndField, NoMethod, AndMethod}
use Rattle.type_model.specs.Parts.{type_list, field_list, method_list}
use Rattle.package_faces.specs.Faces.{Face}
use Rattle.package_faces.specs.Reaching.{Reaches, ReachesStart, ReachesNext, next_types, declared_parts, field_part, method_parts, signature_parts}
use Rattle.export_text.specs.Reaching.{nothing_declared}
use Rattle.export_text.specs.Mentions.{face_types, mention_in, AreMentions, AreSorted}
use Rattle.export_text.proofs.MentionLaws.{joined, parted, none_there, mentioned, mentions_it}
use Rattle.export_text.proofs.SkimLaws.{type_names, signature_names, types_names, fields_names, methods_names, signature_are}

-- ---- a type that stands in the text: what it mentions is mentioned by a name that stands there

pub record Named (path : List ℕ) (start : List GoType) (p : List ℕ) : Type 0 where
  pub name : TypeName
  pub stands : Reaches nothing_declared path start (DefinedType name)
  pub has : Contains (mention_in path (DefinedType name)) p

module _ (path : List ℕ) (start : List GoType) (p : List ℕ) where
  abbrev Stand : List GoType → Type 0
  Stand types = (x : GoType) → Contains types x → Reaches nothing_declared path start x

  later : (y : GoType) (types : List GoType) → Stand (y ∷ types) → Stand types
  later y types all x h = all x (suc h.0, omega (arith, h.1), h.2)

  mutual
    pub named : (t : GoType) → Reaches nothing_declared path start t → Contains (type_names path t) p → Named path start p
    named (BasicType kind) r c = absurd (none_there p c)
    named (DefinedType name) r c = record { name = name; stands = r; has = c }
    named (PointerTo of) r c = named of (ReachesNext (PointerTo of) of r (0, omega arith, refl)) c
    named (SliceOf of) r c = named of (ReachesNext (SliceOf of) of r (0, omega arith, refl)) c
    named (ArrayOf size of) r c = named of (ReachesNext (ArrayOf size of) of r (0, omega arith, refl)) c
    named (MapOf key of) r c = elim (Contains-append_cases (type_names path key) (type_names path of) p c) [
      | inl front ↦ named key (ReachesNext (MapOf key of) key r (0, omega arith, refl)) front
      | inr back ↦ named of (ReachesNext (MapOf key of) of r (1, omega arith, refl)) back
    ]
    named (ChanOf direction of) r c = named of (ReachesNext (ChanOf direction of) of r (0, omega arith, refl)) c
    named (FuncOf of) r c = named_signature of (λ x h. ReachesNext (FuncOf of) x r h) c
    named (StructOf fields) r c = named_fields fields (λ x h. ReachesNext (StructOf fields) x r h) c
    named (InterfaceOf methods) r c = named_methods methods (λ x h. ReachesNext (InterfaceOf methods) x r h) c

    named_signature : (s : GoSignature) → Stand (signature_parts s) → Contains (signature_names path s) p → Named path start p
    named_signature (From params results variadic) all c = elim (Contains-append_cases (types_names path params) (types_names path results) p c) [
      | inl front ↦ named_types params (λ x h. all x (Contains-append_left (type_list params) (type_list results) x h)) front
      | inr back ↦ named_types results (λ x h. all x (Contains-append_right (type_list params) (type_list results) x h)) back
    ]

    named_types : (ts : GoTypes) → Stand (type_list ts) → Contains (types_names path ts) p → Named path start p
    named_types NoType all c = absurd (none_there p c)
    named_types (AndType of types) all c = elim (Contains-append_cases (type_names path of) (types_names path types) p c) [
      | inl front ↦ named of (all of (0, omega arith, refl)) front
      | inr back ↦ named_types types (later of (type_list types) all) back
    ]

    named_fields : (fs : GoFields) → Stand (map field_part (field_list fs)) → Contains (fields_names path fs) p → Named path start p
    named_fields NoField all c = absurd (none_there p c)
    named_fields (AndField name owner embedded of tag fields) all c = elim (Contains-append_cases (type_names path of) (fields_names path fields) p c) [
      | inl front ↦ named of (all of (0, omega arith, refl)) front
      | inr back ↦ named_fields fields (later of (map field_part (field_list fields)) all) back
    ]

    named_methods : (ms : GoMethods) → Stand (flat_map method_parts (method_list ms)) → Contains (methods_names path ms) p → Named path start p
    named_methods NoMethod all c = absurd (none_there p c)
    named_methods (AndMethod name owner pointer of methods) all c = elim (Contains-append_cases (signature_names path of) (methods_names path methods) p c) [
      | inl front ↦ named_signature of (λ x h. all x (Contains-append_left (signature_parts of) (flat_map method_parts (method_list methods)) x h)) front
      | inr back ↦ named_methods methods (λ x h. all x (Contains-append_right (signature_parts of) (flat_map method_parts (method_list methods)) x h)) back
    ]

-- ---- and what a part of a type mentions, the type does

module _ (path : List ℕ) where
  abbrev all_names : List GoType → List (List ℕ)
  all_names types = flat_map (λ t. type_names path t) types

  fields_are : (fs : GoFields) → fields_names path fs ≡ all_names (map field_part (field_list fs))
  fields_are NoField = refl
  fields_are (AndField name owner embedded of tag fields) = ap (λ (l : List (List ℕ)). type_names path of ++ l) (fields_are fields)

  methods_are : (ms : GoMethods) → methods_names path ms ≡ all_names (flat_map method_parts (method_list ms))
  methods_are NoMethod = refl
  methods_are (AndMethod name owner pointer of methods) =
      ap (λ (l : List (List ℕ)). l ++ methods_names path methods) (signature_are path of) ∙ ap (λ (l : List (List ℕ)). all_names (signature_parts of) ++ l) (methods_are methods)
      ∙ sym (flat_map-append (λ t. type_names path t) (signature_parts of) (flat_map method_parts (method_list methods)))

  nothing_next : (own : Bool) → ◌≡◌ {A = List GoType} (cond own (option_map_or declared_parts None []) []) []
  nothing_next true = refl
  nothing_next false = refl

  among : (types : List GoType) (part : GoType) (p : List ℕ) → Contains types part → Contains (type_names path part) p → Contains (all_names types) p
  among types part p has c = joined (λ t. type_names path t) types part p has c

  only : (of part : GoType) (p : List ℕ) → Contains (of ∷ []) part → Contains (type_names path part) p → Contains (type_names path of) p
  only of part p has c = subst (λ (l : List (List ℕ)). Contains l p) (append-nil (type_names path of)) (among (of ∷ []) part p has c)

  part_in : (of part : GoType) (p : List ℕ) → Contains (next_types nothing_declared path of) part → Contains (type_names path part) p → Contains (type_names path of) p
  part_in (BasicType kind) part p has c = absurd (none_there part has)
  part_in (DefinedType name) part p has c = absurd (none_there part (subst (λ (l : List GoType). Contains l part) (nothing_next (bytes_eq name.package path)) has))
  part_in (PointerTo of) part p has c = only of part p has c
  part_in (SliceOf of) part p has c = only of part p has c
  part_in (ArrayOf size of) part p has c = only of part p has c
  part_in (MapOf key of) part p has c =
      subst (λ (l : List (List ℕ)). Contains (type_names path key ++ l) p) (append-nil (type_names path of)) (among (key ∷ of ∷ []) part p has c)
  part_in (ChanOf direction of) part p has c = only of part p has c
  part_in (FuncOf of) part p has c = subst (λ (l : List (List ℕ)). Contains l p) (sym (signature_are path of)) (among (signature_parts of) part p has c)
  part_in (StructOf fields) part p has c = subst (λ (l : List (List ℕ)). Contains l p) (sym (fields_are fields)) (among (map field_part (field_list fields)) part p has c)
  part_in (InterfaceOf methods) part p has c = subst (λ (l : List (List ℕ)). Contains l p) (sym (methods_are methods)) (among (flat_map method_parts (method_list methods)) part p has c)

  mentioned_from : (start : List GoType) (t : GoType) (p : List ℕ) → Reaches nothing_declared path start t → Contains (type_names path t) p → Contains (all_names start) p
  mentioned_from start t p (ReachesStart _ has) c = among start t p has c
  mentioned_from start t p (ReachesNext of _ before has) c = mentioned_from start of p before (part_in of t p has c)

-- ---- all of them

pub text_mentions_are : (f : Face) (found paths : List (List ℕ)) → found ≡ flat_map (λ t. type_names f.path t) (face_types f) → AreSorted found paths → AreMentions f paths
text_mentions_are f found paths are sorted = record {
  order = sorted.order;
  each = λ p c.
      let r = parted (λ t. type_names f.path t) (face_types f) p (subst (λ (l : List (List ℕ)). Contains l p) are (sorted.from p c)) in
      let n = named f.path (face_types f) p r.0 (ReachesStart r.0 r.1) r.2 in
      let m = mentioned f.path (DefinedType n.name) p n.has in
      record {
        name = m.name;
        stands = subst (λ (z : GoType). Reaches nothing_declared f.path (face_types f) z) m.is n.stands;
        of = m.of;
        other = m.other;
        some = m.some;
      };
  all = λ p m.
      let here = mentions_it f.path m.name (λ e. m.other (sym m.of ∙ e)) (λ e. m.some (sym m.of ∙ e)) in
      let there = mentioned_from f.path (face_types f) (DefinedType m.name) m.name.package m.stands here in
      sorted.all p (subst (λ (l : List (List ℕ)). Contains l p) (sym are) (subst (λ (q : List ℕ). Contains (flat_map (λ t. type_names f.path t) (face_types f)) q) m.of there));
}
