-- Values on a stack: what stands last, that they stay where the table grows, and so many taken off.
use Rattle.std.proofs.Common.{◌≡◌, ℕ, suc, ◌+◌, ◌-◌, ◌<◌, ◌≤◌, List, [], ◌∷◌, ◌++◌, length, map, Option, Some, None, refl, sym, ap, subst, ◌∙◌, arith}
use Rattle.std.specs.Prelude.{All}
use Rattle.std.proofs.lemmas.List.Elements.{All-head, All-tail, All-push, All-pop, All-weaker}
use Rattle.gv_bytes.specs.Reading.{◌>>=◌, Fails}
use Rattle.gv_bytes.specs.declared.unread.Unread.{Unread}
use Rattle.gv_bytes.specs.declared.unread.Unread.TheVariants as unread
use Rattle.type_model.specs.declared.term.TypeId.{TypeId}
use Rattle.type_model.specs.declared.term.Field.{Field}
use Rattle.type_model.specs.declared.term.Method.{Method}
use Rattle.type_model.specs.declared.term.Term.{Term}
use Rattle.type_model.specs.GoTypes.{GoType, GoTypes, GoFields, GoMethods, NoType, AndType, NoField, NoMethod, type_at, types_at, fields_of, methods_of, types_of, AreBelow}
use Rattle.type_model.specs.Parts.{method_of}
use Rattle.type_model.specs.Tables.{Extends}
use Rattle.type_model.proofs.TypeLaws.{AgreeBelow, signature_same}
use Rattle.type_texts.specs.declared.values.Value.{Value}
use Rattle.type_texts.specs.declared.values.Value.TheVariants as value
use Rattle.type_texts.specs.Building.{Part, TypePart, ListPart, FieldPart, MethodPart, SignaturePart, each_off, and_field, and_method}
use Rattle.type_texts.specs.Values.{part_of, field_of, parts_over, parts_in, IsBelow, Stand, fronted}

pub over_last : (types : List GoType) (values : List Value) (v : Value) (parts : List Part) → parts_over types (values ++ v ∷ []) parts ≡ part_of types v ∷ parts_over types values parts
over_last types [] v parts = refl
over_last types (x ∷ values) v parts = over_last types values v (part_of types x ∷ parts)

-- what stands last comes first
pub last_first : (types : List GoType) (old new : List Value) (v : Value) → old ≡ new ++ v ∷ [] → parts_in types old ≡ part_of types v ∷ parts_in types new
last_first types old new v is = ap (λ (values : List Value). parts_in types values) is ∙ over_last types new v []

pub stand_nil : (n : ℕ) → Stand n []
stand_nil n = record { each = λ k d lt. absurd (omega (arith, lt)) }

pub stand_push : (n : ℕ) (values new : List Value) (v : Value) → new ≡ values ++ v ∷ [] → IsBelow n v → Stand n values → Stand n new
stand_push n values new v is below h = record { each = subst (λ (x : List Value). All (IsBelow n) x) (sym is) (All-push (IsBelow n) values v h.each below) }

pub stand_pop : (n : ℕ) (old new : List Value) (v : Value) → old ≡ new ++ v ∷ [] → Stand n old → Stand n new × IsBelow n v
stand_pop n old new v is h = let p = All-pop (IsBelow n) old new (Some v) is h.each in (record { each = p.0 }, p.1)

-- ---- the table grows

module _ (old new : List Term) (grown : Extends old new) where
  pub agree : AgreeBelow (length old) (types_of new) (types_of old)
  agree i lt = (grown i lt).1

  ids_more : (ids : List TypeId) → AreBelow (length old) ids → AreBelow (length new) ids
  ids_more ids below = All-weaker (λ (x : TypeId). x.0 < length old) (λ (x : TypeId). x.0 < length new) (λ x lt. (grown x.0 lt).0) ids below

  ids_stay : (ids : List TypeId) → AreBelow (length old) ids → types_at (types_of new) ids ≡ types_at (types_of old) ids
  ids_stay [] below = refl
  ids_stay (id ∷ ids) below =
      let first : type_at (types_of new) id ≡ type_at (types_of old) id = agree id.0 (All-head (λ (x : TypeId). x.0 < length old) id ids below) in
      let rest : types_at (types_of new) ids ≡ types_at (types_of old) ids = ids_stay ids (All-tail (λ (x : TypeId). x.0 < length old) id ids below) in
      ap (λ (t : GoType). AndType t (types_at (types_of new) ids)) first ∙ ap (λ (ts : GoTypes). AndType (type_at (types_of old) id) ts) rest

  value_more : (v : Value) → IsBelow (length old) v → IsBelow (length new) v
  value_more (value.Type id) below = (grown id.0 below).0
  value_more (value.List ids) below = ids_more ids below
  value_more (value.Field f) below = (grown f.of.0 below).0
  value_more (value.Tag tag) below = tt
  value_more (value.Method m) below = (ids_more m.of.params below.0, ids_more m.of.results below.1)
  value_more (value.Signature s) below = (ids_more s.params below.0, ids_more s.results below.1)

  value_stays : (v : Value) → IsBelow (length old) v → part_of (types_of new) v ≡ part_of (types_of old) v
  value_stays (value.Type id) below = ap TypePart (agree id.0 below)
  value_stays (value.List ids) below = ap ListPart (ids_stay ids below)
  value_stays (value.Field f) below =
      ap (λ (t : GoType). FieldPart (record { name = f.name; owner = f.package; embedded = f.embedded; of = t; tag = f.tag })) (agree f.of.0 below)
  value_stays (value.Tag tag) below = refl
  value_stays (value.Method m) below =
      ap (λ s. MethodPart (record { name = m.name; owner = m.package; pointer = m.pointer; of = s })) (signature_same (types_of new) (types_of old) (length old) agree m.of below)
  value_stays (value.Signature s) below = ap SignaturePart (signature_same (types_of new) (types_of old) (length old) agree s below)

  over_stays : (values : List Value) (parts : List Part) → All (IsBelow (length old)) values → parts_over (types_of new) values parts ≡ parts_over (types_of old) values parts
  over_stays [] parts h = refl
  over_stays (v ∷ values) parts h =
      ap (λ (p : Part). parts_over (types_of new) values (p ∷ parts)) (value_stays v (All-head (IsBelow (length old)) v values h))
      ∙ over_stays values (part_of (types_of old) v ∷ parts) (All-tail (IsBelow (length old)) v values h)

  pub parts_stay : (values : List Value) → Stand (length old) values → parts_in (types_of new) values ≡ parts_in (types_of old) values
  parts_stay values h = over_stays values [] h.each

  pub stand_more : (values : List Value) → Stand (length old) values → Stand (length new) values
  stand_more values h = record { each = All-weaker (IsBelow (length old)) (IsBelow (length new)) value_more values h.each }

-- a type comes over what stands, in the table that has it
pub type_pushed : (old new : List Term) (values after : List Value) (id : TypeId) (t : GoType) → Extends old new → Stand (length old) values → after ≡ values ++ value.Type id ∷ [] → type_at (types_of new) id ≡ t
    → parts_in (types_of new) after ≡ TypePart t ∷ parts_in (types_of old) values
type_pushed old new values after id t grown stand is same =
    last_first (types_of new) after values (value.Type id) is
    ∙ ap (λ (x : GoType). TypePart x ∷ parts_in (types_of new) values) same
    ∙ ap (λ (parts : List Part). TypePart t ∷ parts) (parts_stay old new grown values stand)

pub type_stands : (old new : List Term) (values after : List Value) (id : TypeId) → Extends old new → Stand (length old) values → after ≡ values ++ value.Type id ∷ [] → id.0 < length new → Stand (length new) after
type_stands old new values after id grown stand is below = stand_push (length new) values after (value.Type id) is below (stand_more old new grown values stand)

-- ---- so many taken off

abbrev pub with_front : {X L : Type 0} → (X → L → L) → List X → Option (L × List Part) → Option (L × List Part)
with_front cons front read = read >>= λ more. Some (fronted cons front more.0, more.1)

module _ {X L : Type 0} (nil : L) (cons : X → L → L) (one : List Part → Option (X × List Part)) where
  fronted_last : (front : List X) (x : X) (more : L) → fronted cons (front ++ x ∷ []) more ≡ fronted cons front (cons x more)
  fronted_last [] x more = refl
  fronted_last (y ∷ front) x more = ap (cons y) (fronted_last front x more)

  regroup : (front : List X) (x : X) (read : Option (L × List Part)) → with_front cons front (read >>= λ more. Some (cons x more.0, more.1)) ≡ with_front cons (front ++ x ∷ []) read
  regroup front x (Some more) = ap (λ (l : L). Some (l, more.1)) (sym (fronted_last front x more.0))
  regroup front x None = refl

  pub goes_on : (front : List X) (count i : ℕ) (parts : List Part) (x : X) (after : List Part) (total : Option (L × List Part)) → i < count → one parts ≡ Some (x, after)
      → with_front cons front (each_off nil cons one (count - i) parts) ≡ total → with_front cons (front ++ x ∷ []) (each_off nil cons one (count - (i + 1)) after) ≡ total
  goes_on front count i parts x after total lt h so_far =
      let k : count - i ≡ suc (count - (i + 1)) = omega (arith, lt) in
      let step : with_front cons front (each_off nil cons one (count - i) parts) ≡ with_front cons (front ++ x ∷ []) (each_off nil cons one (count - (i + 1)) after) = rw (k, h) (regroup front x (each_off nil cons one (count - (i + 1)) after)) in
      sym step ∙ so_far

  ends : (front : List X) (count i : ℕ) (parts : List Part) (total : Option (L × List Part)) → i < count → one parts ≡ None
      → with_front cons front (each_off nil cons one (count - i) parts) ≡ total → total ≡ None
  ends front count i parts total lt h so_far =
      let k : count - i ≡ suc (count - (i + 1)) = omega (arith, lt) in
      let step : with_front cons front (each_off nil cons one (count - i) parts) ≡ None = rw (k, h) refl in
      sym so_far ∙ step

  pub fails : (e : Unread) (front : List X) (count i : ℕ) (parts : List Part) (total : Option (L × List Part)) → i < count → Fails e (one parts)
      → with_front cons front (each_off nil cons one (count - i) parts) ≡ total → Fails e total
  fails unread.Memory front count i parts total lt h so_far = tt
  fails unread.Unspelled front count i parts total lt h so_far = ends front count i parts total lt h so_far

  pub is_done : (front : List X) (count i : ℕ) (parts : List Part) (total : Option (L × List Part)) → count ≤ i → with_front cons front (each_off nil cons one (count - i) parts) ≡ total
      → total ≡ Some (fronted cons front nil, parts)
  is_done front count i parts total le so_far =
      let k : count - i ≡ 0 = omega (arith, le) in
      let step : with_front cons front (each_off nil cons one (count - i) parts) ≡ Some (fronted cons front nil, parts) = rw k refl in
      sym so_far ∙ step

pub map_push : {A B : Type 0} (f : A → B) (xs : List A) (x : A) → map f (xs ++ x ∷ []) ≡ map f xs ++ f x ∷ []
map_push f [] x = refl
map_push f (y ∷ xs) x = ap (λ zs. f y ∷ zs) (map_push f xs x)

pub types_fronted : (types : List GoType) (ids : List TypeId) → fronted AndType (map (λ (id : TypeId). type_at types id) ids) NoType ≡ types_at types ids
types_fronted types [] = refl
types_fronted types (id ∷ ids) = ap (λ (ts : GoTypes). AndType (type_at types id) ts) (types_fronted types ids)

pub fields_fronted : (types : List GoType) (fields : List Field) → fronted and_field (map (λ (f : Field). field_of types f) fields) NoField ≡ fields_of types fields
fields_fronted types [] = refl
fields_fronted types (f ∷ fields) = ap (λ (fs : GoFields). and_field (field_of types f) fs) (fields_fronted types fields)

pub methods_fronted : (types : List GoType) (methods : List Method) → fronted and_method (map (λ (m : Method). method_of types m) methods) NoMethod ≡ methods_of types methods
methods_fronted types [] = refl
methods_fronted types (m ∷ methods) = ap (λ (ms : GoMethods). and_method (method_of types m) ms) (methods_fronted types methods)
