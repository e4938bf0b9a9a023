-- Interface types.
use Rattle.std.proofs.Common.{◌≡◌, true, refl}
use Rattle.type_model.specs.Declarations.{Declarations}
use Rattle.type_model.specs.GoTypes.{GoType, BasicType, DefinedType, PointerTo, SliceOf, ArrayOf, MapOf, ChanOf, FuncOf, StructOf, InterfaceOf}
use Rattle.type_rel.specs.Answers.{IsInterface}
use Rattle.rule_words.specs.Types.{is_interface}

pub interface_known : (ds : Declarations) (of : GoType) → is_interface of ≡ true → IsInterface ds of
unfolding is_interface
interface_known ds (BasicType kind) is = absurd cc
interface_known ds (DefinedType name) is = absurd cc
interface_known ds (PointerTo of) is = absurd cc
interface_known ds (SliceOf of) is = absurd cc
interface_known ds (ArrayOf size of) is = absurd cc
interface_known ds (MapOf key of) is = absurd cc
interface_known ds (ChanOf direction of) is = absurd cc
interface_known ds (FuncOf of) is = absurd cc
interface_known ds (StructOf fields) is = absurd cc
interface_known ds (InterfaceOf methods) is = (methods, refl)
