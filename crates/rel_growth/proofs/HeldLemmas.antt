-- What a type holds, by the numbers of a table; and a comparable type, of which all that is met is declared.
use Rattle.std.proofs.Common.{◌≡◌, ℕ, zero, suc, ◌<◌, List, [], ◌∷◌, length, map, Option, Some, None, option_map, IfSome, refl, ap, subst, arith}
use Rattle.std.specs.List.{All, Contains}
use Rattle.std.specs.Option.{option_map_or, option_to_list}
use Rattle.std.proofs.lemmas.List.Elements.{All-nil, All-cons, All-map}
use Rattle.type_model.specs.declared.term.TypeId.{TypeId}
use Rattle.type_model.specs.declared.term.TypeName.{TypeName}
use Rattle.type_model.specs.declared.term.Field.{Field}
use Rattle.type_model.specs.declared.term.Term.{Term}
use Rattle.type_model.specs.declared.term.Term.TheVariants.{Basic, Defined, Pointer, Slice, Array, Map, Chan, Func, Struct, Interface}
use Rattle.type_model.specs.GoTypes.{GoType, GoFields, BasicType, DefinedType, PointerTo, ArrayOf, ChanOf, StructOf, InterfaceOf, type_at, type_of, fields_of, IsOver, AreBelow}
use Rattle.type_model.specs.Parts.{GoField, field_list}
use Rattle.type_model.specs.Declarations.{Declaration, Declarations, under_of, held, Meets, MeetsName, MeetsHeld}
use Rattle.type_rel.specs.Comparability.{Comparable, Basics, Pointers, Channels, Interfaces, Structs, Arrays, Definitions, AreComparable, NoMore, OneMore}
use Rattle.type_growth.specs.Growth.{IsDeclared, IsKnown}
use Rattle.type_growth.proofs.GrowthLaws.{under_known}
use Rattle.rel_growth.specs.Compare.{EnoughToCompare}
use Rattle.rel_growth.specs.Meeting.{held_in}

name_held : (types : List GoType) (u : Option TypeId) (o : Option Declaration) → option_map (λ id. type_at types id) u ≡ option_map (λ (d : Declaration). d.under) o
    → map (λ id. type_at types id) (option_to_list u) ≡ option_map_or (λ (d : Declaration). d.under ∷ []) o []
name_held types None None e = refl
name_held types None (Some d) e = absurd cc
name_held types (Some id) None e = absurd cc
name_held types (Some id) (Some d) e = let same : type_at types id ≡ d.under = cc in ap (λ (x : GoType). x ∷ []) same

fields_held : (types : List GoType) (fields : List Field) → map (λ id. type_at types id) (map (λ (f : Field). f.of) fields) ≡ map (λ (f : GoField). f.of) (field_list (fields_of types fields))
fields_held types [] = refl
fields_held types (f ∷ fields) = ap (λ (l : List GoType). type_at types f.of ∷ l) (fields_held types fields)

-- the types that a term holds are those that its type holds
pub held_seen : (ds : Declarations) (types : List GoType) (term : Term) (u : Option TypeId) → option_map (λ id. type_at types id) u ≡ under_of ds (type_of types term)
    → map (λ id. type_at types id) (held_in term u) ≡ held ds (type_of types term)
held_seen ds types (Basic kind) u e = refl
held_seen ds types (Defined name) u e = name_held types u (ds name) e
held_seen ds types (Pointer of) u e = refl
held_seen ds types (Slice of) u e = refl
held_seen ds types (Array size of) u e = refl
held_seen ds types (Map key of) u e = refl
held_seen ds types (Chan direction of) u e = refl
held_seen ds types (Func of) u e = refl
held_seen ds types (Struct fields) u e = fields_held types fields
held_seen ds types (Interface methods) u e = refl

one_below : (n : ℕ) (id : TypeId) → id.0 < n → AreBelow n (id ∷ [])
one_below n id low = All-cons (λ (x : TypeId). x.0 < n) id [] low (All-nil (λ (x : TypeId). x.0 < n))

under_below : (n : ℕ) (u : Option TypeId) → IfSome u (λ id. id.0 < n) → AreBelow n (option_to_list u)
under_below n None low = All-nil (λ (x : TypeId). x.0 < n)
under_below n (Some id) low = one_below n id low

pub held_below : (m n : ℕ) (term : Term) (u : Option TypeId) → IsOver m term → m < n → IfSome u (λ id. id.0 < n) → AreBelow n (held_in term u)
held_below m n (Basic kind) u over low under = All-nil (λ (x : TypeId). x.0 < n)
held_below m n (Defined name) u over low under = under_below n u under
held_below m n (Pointer of) u over low under = All-nil (λ (x : TypeId). x.0 < n)
held_below m n (Slice of) u over low under = All-nil (λ (x : TypeId). x.0 < n)
held_below m n (Array size of) u over low under = one_below n of (omega (arith, over, low))
held_below m n (Map key of) u over low under = All-nil (λ (x : TypeId). x.0 < n)
held_below m n (Chan direction of) u over low under = All-nil (λ (x : TypeId). x.0 < n)
held_below m n (Func of) u over low under = All-nil (λ (x : TypeId). x.0 < n)
held_below m n (Struct fields) u over low under = All-map (λ (x : TypeId). x.0 < n) (λ (f : Field). f.of) fields (each over)
  where
    each : All (λ (f : Field). f.of.0 < m) fields → All (λ (f : Field). f.of.0 < n) fields
    each all k d inside = let below = all k d inside in omega (arith, below, low)
held_below m n (Interface methods) u over low under = All-nil (λ (x : TypeId). x.0 < n)

-- ---- comparable types

-- enough is declared where the type is known, and enough for what it holds
enough_of : (ds : Declarations) (of : GoType) → IsKnown ds of → ((part : GoType) → Contains (held ds of) part → EnoughToCompare ds part) → EnoughToCompare ds of
enough_of ds of known parts o (MeetsName _ e) = known o e
enough_of ds of known parts o (MeetsHeld _ part has rest) = parts part has o rest

nothing_held : (ds : Declarations) (part : GoType) → Contains [] part → EnoughToCompare ds part
nothing_held ds part (k, low, at) = absurd (omega (arith, low))

one_held : (ds : Declarations) (of part : GoType) → EnoughToCompare ds of → Contains (of ∷ []) part → EnoughToCompare ds part
one_held ds of part enough (zero, low, at) = subst (λ (x : GoType). EnoughToCompare ds x) at enough
one_held ds of part enough (suc k, low, at) = absurd (omega (arith, low))

under_held : (ds : Declarations) (o : Option Declaration) (under part : GoType) → option_map (λ (d : Declaration). d.under) o ≡ Some under → EnoughToCompare ds under
    → Contains (option_map_or (λ (d : Declaration). d.under ∷ []) o []) part → EnoughToCompare ds part
under_held ds None under part e enough has = absurd cc
under_held ds (Some d) under part e enough has =
    let same : under ≡ d.under = cc in one_held ds d.under part (subst (λ (x : GoType). EnoughToCompare ds x) same enough) has

mutual
  -- of a comparable type all that is met is declared
  pub comparable_enough : (ds : Declarations) (of : GoType) → Comparable ds of → EnoughToCompare ds of
  comparable_enough ds _ (Basics kind is) = enough_of ds (BasicType kind) (λ o e. absurd cc) (nothing_held ds)
  comparable_enough ds _ (Pointers of) = enough_of ds (PointerTo of) (λ o e. absurd cc) (nothing_held ds)
  comparable_enough ds _ (Channels direction of) = enough_of ds (ChanOf direction of) (λ o e. absurd cc) (nothing_held ds)
  comparable_enough ds _ (Interfaces methods) = enough_of ds (InterfaceOf methods) (λ o e. absurd cc) (nothing_held ds)
  comparable_enough ds _ (Structs fields are) = enough_of ds (StructOf fields) (λ o e. absurd cc) (fields_enough ds fields are)
  comparable_enough ds _ (Arrays size of is) = enough_of ds (ArrayOf size of) (λ o e. absurd cc) (λ part has. one_held ds of part (comparable_enough ds of is) has)
  comparable_enough ds _ (Definitions name under e is) =
      enough_of ds (DefinedType name) (under_known ds (DefinedType name) under e) (λ part has. under_held ds (ds name) under part e (comparable_enough ds under is) has)

  fields_enough : (ds : Declarations) (fields : GoFields) → AreComparable ds fields → (part : GoType) → Contains (map (λ (f : GoField). f.of) (field_list fields)) part → EnoughToCompare ds part
  fields_enough ds _ NoMore part (k, low, at) = absurd (omega (arith, low))
  fields_enough ds _ (OneMore name owner embedded of tag fields is are) part (zero, low, at) = subst (λ (x : GoType). EnoughToCompare ds x) at (comparable_enough ds of is)
  fields_enough ds _ (OneMore name owner embedded of tag fields is are) part (suc k, low, at) = fields_enough ds fields are part (k, omega (arith, low), at)
