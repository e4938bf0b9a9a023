-- The underlying type of `error`, as it is added to a table.
use Rattle.std.proofs.Common.{◌≡◌, ◌≤◌, false, [], ◌∷◌, codes, ap, ◌∙◌, subst, arith}
use Rattle.gv_base.specs.declared.constant.Kind.TheVariants as k
use Rattle.type_model.specs.declared.table.TypeTable.{TypeTable}
use Rattle.type_model.specs.declared.table.Added.{Added}
use Rattle.type_model.specs.declared.table.Added.TheVariants.{Id, TooWide}
use Rattle.type_model.specs.declared.term.Term.{Term}
use Rattle.type_model.specs.declared.term.Term.TheVariants.{Interface}
use Rattle.type_model.specs.declared.term.TypeId.{TypeId}
use Rattle.type_model.specs.GoTypes.{GoType, InterfaceOf, AndMethod, NoMethod, From, NoType, AndType, type_at, type_of, nodes}
use Rattle.type_model.specs.Tables.{IsAdded, types_in}
use Rattle.typed_tree.specs.Basics.{HasBasics}
use Rattle.face_table.specs.Universes.{error_method, error_under}

abbrev interface_with : GoType → GoType
interface_with of = InterfaceOf (AndMethod (codes "Error") [] false (From NoType (AndType of NoType) false) NoMethod)

under_is : (t : TypeTable) (term : Term) → HasBasics t → term ≡ Interface (error_method ∷ []) → type_of (types_in t) term ≡ error_under
under_is t term has is = ap (type_of (types_in t)) is ∙ ap interface_with (has.basic k.Text)

-- it isn't too wide
pub too_wide : (old new : TypeTable) (term : Term) (added : Added) → HasBasics old → term ≡ Interface (error_method ∷ []) → added ≡ TooWide → IsAdded old new term added → ⊥
too_wide old new term added has is wide by =
    let given : IsAdded old new term TooWide = subst (IsAdded old new term) wide by in
    let many = given.0 in
    let size = ap nodes (under_is old term has is) in
    let few : nodes error_under ≤ 10000 = omega arith in
    absurd (omega arith)

pub is_under : (old new : TypeTable) (term : Term) (added : Added) (id : TypeId) → HasBasics old → term ≡ Interface (error_method ∷ []) → added ≡ Id id → IsAdded old new term added
    → type_at (types_in new) id ≡ error_under
is_under old new term added id has is there by =
    let given : IsAdded old new term (Id id) = subst (IsAdded old new term) there by in
    given.1 ∙ under_is old term has is
