-- What is met from a type, where two sets of declarations agree on all names that are met; and what stands in the text of an interface.
use Rattle.std.proofs.Common.{◌≡◌, ◌⊎◌, inl, inr, ℕ, zero, suc, ◌<◌, List, [], ◌∷◌, length, Option, Some, None, refl, sym, ap, subst, arith}
use Rattle.std.specs.List.{Contains, flat_map}
use Rattle.std.specs.Option.{option_map_or}
use Rattle.std.proofs.lemmas.List.Elements.{Contains-append_left, Contains-append_right}
use Rattle.type_model.specs.declared.term.TypeName.{TypeName}
use Rattle.type_model.specs.GoTypes.{GoType, BasicType, DefinedType, PointerTo, SliceOf, ArrayOf, MapOf, ChanOf, FuncOf, StructOf, InterfaceOf}
use Rattle.type_model.specs.Declarations.{Declaration, Declarations, held, Meets, MeetsName, MeetsHeld}
use Rattle.package_faces.specs.Faces.{DefinedOut, Face}
use Rattle.package_faces.specs.Reaching.{Reaches, ReachesStart, ReachesNext, next_types}
use Rattle.export_text.specs.Reaching.{nothing_declared}
use Rattle.export_text.specs.Mentions.{StandsIn, defined_types, face_types, object_types}
use Rattle.action_graph.proofs.StayFaces.{contains_head as contains-head}

pub type-cases : {X : Type 0} (x y : X) (xs : List X) → Contains (x ∷ xs) y → (x ≡ y) ⊎ Contains xs y
type-cases x y xs (zero, l, c) = inl c
type-cases x y xs (suc k, l, c) = inr (k, (let m : suc k < length (x ∷ xs) = l in omega arith), c)

pub none-of : {X : Type 0} (y : X) → Contains [] y → ⊥
none-of y c = let l : c.0 < 0 = c.1 in omega arith

-- ---- two sets of declarations

module _ (small big : Declarations) (K : TypeName → Type 0) (same : (n : TypeName) → K n → big n ≡ small n)
    (next : (n m : TypeName) (d : Declaration) → K n → small n ≡ Some d → Meets nothing_declared m d.under → K m) where
  same-held : (of : GoType) → ((m : TypeName) → Meets nothing_declared m of → K m) → held big of ≡ held small of
  same-held (BasicType kind) within = refl
  same-held (DefinedType name) within = ap (λ (o : Option Declaration). option_map_or (λ (d : Declaration). d.under ∷ []) o []) (same name (within name (MeetsName (DefinedType name) refl)))
  same-held (PointerTo of) within = refl
  same-held (SliceOf of) within = refl
  same-held (ArrayOf size of) within = refl
  same-held (MapOf key of) within = refl
  same-held (ChanOf direction of) within = refl
  same-held (FuncOf of) within = refl
  same-held (StructOf fields) within = refl
  same-held (InterfaceOf methods) within = refl

  declared-within : (n : TypeName) (part : GoType) (o : Option Declaration) → small n ≡ o → K n → Contains (option_map_or (λ (d : Declaration). d.under ∷ []) o []) part → (m : TypeName) → Meets nothing_declared m part → K m
  declared-within n part None at k has m meets = absurd (none-of part has)
  declared-within n part (Some d) at k has m meets = elim (type-cases d.under part [] has) [
    | inl e ↦ next n m d k at (subst (λ (t : GoType). Meets nothing_declared m t) (sym e) meets)
    | inr h ↦ absurd (none-of part h)
  ]

  held-within : (of part : GoType) → ((m : TypeName) → Meets nothing_declared m of → K m) → Contains (held small of) part → (m : TypeName) → Meets nothing_declared m part → K m
  held-within (BasicType kind) part within has m meets = absurd (none-of part has)
  held-within (DefinedType name) part within has m meets = declared-within name part (small name) refl (within name (MeetsName (DefinedType name) refl)) has m meets
  held-within (PointerTo of) part within has m meets = absurd (none-of part has)
  held-within (SliceOf of) part within has m meets = absurd (none-of part has)
  held-within (ArrayOf size of) part within has m meets = within m (MeetsHeld (ArrayOf size of) part has meets)
  held-within (MapOf key of) part within has m meets = absurd (none-of part has)
  held-within (ChanOf direction of) part within has m meets = absurd (none-of part has)
  held-within (FuncOf of) part within has m meets = absurd (none-of part has)
  held-within (StructOf fields) part within has m meets = within m (MeetsHeld (StructOf fields) part has meets)
  held-within (InterfaceOf methods) part within has m meets = absurd (none-of part has)

  -- where both agree on all that is met, what is met over one is met over the other
  pub meets-among : (name : TypeName) (of : GoType) → ((m : TypeName) → Meets nothing_declared m of → K m) → Meets big name of → Meets small name of
  meets-among name of within (MeetsName _ e) = MeetsName of e
  meets-among name of within (MeetsHeld _ part has rest) =
      let here : Contains (held small of) part = subst (λ (l : List GoType). Contains l part) (same-held of within) has in
      MeetsHeld of part here (meets-among name part (held-within of part within here) rest)

-- ---- what stands in a text

held-next : (path : List ℕ) (of part : GoType) → Contains (held nothing_declared of) part → Contains (next_types nothing_declared path of) part
held-next path (BasicType kind) part has = absurd (none-of part has)
held-next path (DefinedType name) part has = absurd (none-of part has)
held-next path (PointerTo of) part has = absurd (none-of part has)
held-next path (SliceOf of) part has = absurd (none-of part has)
held-next path (ArrayOf size of) part has = has
held-next path (MapOf key of) part has = absurd (none-of part has)
held-next path (ChanOf direction of) part has = absurd (none-of part has)
held-next path (FuncOf of) part has = absurd (none-of part has)
held-next path (StructOf fields) part has = has
held-next path (InterfaceOf methods) part has = absurd (none-of part has)

reaches-met : (path : List ℕ) (start : List GoType) (m : TypeName) (of : GoType) → Reaches nothing_declared path start of → Meets nothing_declared m of → Reaches nothing_declared path start (DefinedType m)
reaches-met path start m of reaches (MeetsName _ e) = subst (λ (t : GoType). Reaches nothing_declared path start t) e reaches
reaches-met path start m of reaches (MeetsHeld _ part has rest) = reaches-met path start m part (ReachesNext of part reaches (held-next path of part has)) rest

flat-in : {X Y : Type 0} (f : X → List Y) (xs : List X) (x : X) (y : Y) → Contains xs x → Contains (f x) y → Contains (flat_map f xs) y
flat-in f [] x y c h = absurd (none-of x c)
flat-in f (z ∷ xs) x y c h = elim (type-cases z x xs c) [
  | inl e ↦ Contains-append_left (f z) (flat_map f xs) y (subst (λ (w : _). Contains (f w) y) (sym e) h)
  | inr g ↦ Contains-append_right (f z) (flat_map f xs) y (flat-in f xs x y g h)
]

-- what is met from the underlying type of a type of the interface stands in the text
pub met-stands : (f : Face) (d : DefinedOut) (m : TypeName) → Contains f.types d → Meets nothing_declared m d.under → StandsIn f (DefinedType m)
met-stands f d m c meets =
    let there : Contains (face_types f) d.under =
    Contains-append_right (flat_map object_types f.objects) (flat_map defined_types f.types) d.under (flat-in defined_types f.types d d.under c (contains-head d.under _)) in
    reaches-met f.path (face_types f) m d.under (ReachesStart d.under there) meets

-- from a type that holds nothing and is none that is defined, nothing is met
pub nothing-met : (m : TypeName) (of : GoType) → held nothing_declared of ≡ [] → ((n : TypeName) → of ≡ DefinedType n → ⊥) → Meets nothing_declared m of → ⊥
nothing-met m of none other (MeetsName _ e) = other m e
nothing-met m of none other (MeetsHeld _ part has rest) = none-of part (subst (λ (l : List GoType). Contains l part) none has)
