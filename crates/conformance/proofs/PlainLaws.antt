-- What the rows declare holds no name.
use Rattle.std.proofs.Common.{◌≡◌, ◌<◌, true, false, [], Option, Some, None, option_map, refl, ap, arith}
use Rattle.std.specs.List.{Contains}
use Rattle.type_model.specs.declared.term.TypeName.{TypeName}
use Rattle.type_model.specs.GoTypes.{GoType, BasicType, DefinedType, PointerTo, SliceOf, ArrayOf, MapOf, ChanOf, FuncOf, StructOf, InterfaceOf, is_defined}
use Rattle.type_model.specs.Declarations.{Declaration, Declarations, held, Meets, MeetsName, MeetsHeld}
use Rattle.conformance.specs.Plain.{is_plain}

nothing_in : {X : Type 0} (p : X) → Contains [] p → ⊥
nothing_in p has = let low : has.0 < 0 = has.1 in omega (arith, low)

holds_none : (ds : Declarations) (g p : GoType) → is_plain g ≡ true → Contains (held ds g) p → ⊥
holds_none ds (BasicType kind) p e has = nothing_in p has
holds_none ds (DefinedType name) p e has = absurd cc
holds_none ds (PointerTo of) p e has = nothing_in p has
holds_none ds (SliceOf of) p e has = nothing_in p has
holds_none ds (ArrayOf size of) p e has = absurd cc
holds_none ds (MapOf key of) p e has = nothing_in p has
holds_none ds (ChanOf direction of) p e has = nothing_in p has
holds_none ds (FuncOf of) p e has = nothing_in p has
holds_none ds (StructOf fields) p e has = absurd cc
holds_none ds (InterfaceOf methods) p e has = nothing_in p has

pub plain_meets : (ds : Declarations) (name : TypeName) (g : GoType) → is_plain g ≡ true → Meets ds name g → ⊥
plain_meets ds name g e (MeetsName _ is) = let no : is_plain g ≡ false = ap is_plain is in absurd cc
plain_meets ds name g e (MeetsHeld _ part has met) = holds_none ds g part e has

pub plain_undefined : (g : GoType) → is_plain g ≡ true → is_defined g ≡ false
plain_undefined (DefinedType name) e = absurd cc
plain_undefined g e = refl

pub undeclared : (o : Option Declaration) → None ≡ option_map (λ (d : Declaration). d.under) o → o ≡ None
undeclared None e = refl
undeclared (Some d) e = absurd cc
