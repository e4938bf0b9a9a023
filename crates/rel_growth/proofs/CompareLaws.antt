-- Whether a type is comparable lasts.
use Rattle.std.specs.List.{Contains}
use Rattle.std.proofs.Common.{◌≡◌, suc, [], ◌∷◌, map, Option, Some, None, option_map, refl, sym, ◌∙◌, arith}
use Rattle.std.specs.Option.{option_map_or}
use Rattle.type_model.specs.declared.term.TypeName.{TypeName}
use Rattle.type_model.specs.GoTypes.{GoType, GoFields, DefinedType, ArrayOf, StructOf}
use Rattle.type_model.specs.Parts.{GoField, field_list}
use Rattle.type_model.specs.Declarations.{Declaration, Declarations, under_of, held, MeetsName, MeetsHeld}
use Rattle.type_rel.specs.Comparability.{Comparable, Basics, Pointers, Channels, Interfaces, Structs, Arrays, Definitions, AreComparable, NoMore, OneMore}
use Rattle.type_growth.specs.Growth.{Grows, IsDeclared}
use Rattle.type_growth.specs.Lasting.{Lasts}
use Rattle.type_growth.proofs.GrowthLaws.{under_grows, same_under, declared_stays, meets_grows, meets_back}
use Rattle.rel_growth.specs.Compare.{EnoughToCompare, NeedsToCompare, SaysComparable}
use Rattle.rel_growth.proofs.Truths.{one_truth, truth_moves}

mutual
  pub comparable_grows : (ds more : Declarations) (of : GoType) → Grows ds more → Comparable ds of → Comparable more of
  comparable_grows ds more _ grows (Basics kind is) = Basics kind is
  comparable_grows ds more _ grows (Pointers of) = Pointers of
  comparable_grows ds more _ grows (Channels direction of) = Channels direction of
  comparable_grows ds more _ grows (Interfaces methods) = Interfaces methods
  comparable_grows ds more _ grows (Structs fields are) = Structs fields (fields_grow ds more fields grows are)
  comparable_grows ds more _ grows (Arrays size of is) = Arrays size of (comparable_grows ds more of grows is)
  comparable_grows ds more _ grows (Definitions name under e is) = Definitions name under (under_grows ds more (DefinedType name) under grows e) (comparable_grows ds more under grows is)

  fields_grow : (ds more : Declarations) (fields : GoFields) → Grows ds more → AreComparable ds fields → AreComparable more fields
  fields_grow ds more _ grows NoMore = NoMore
  fields_grow ds more _ grows (OneMore name owner embedded of tag fields is are) =
      OneMore name owner embedded of tag fields (comparable_grows ds more of grows is) (fields_grow ds more fields grows are)

-- what a type holds is known if it is
held_enough : (ds : Declarations) (of part : GoType) → EnoughToCompare ds of → Contains (held ds of) part → EnoughToCompare ds part
held_enough ds of part enough has o m = enough o (MeetsHeld of part has m)

under_held : (ds : Declarations) (name : TypeName) (under : GoType) → IsDeclared ds name → under_of ds (DefinedType name) ≡ Some under → Contains (held ds (DefinedType name)) under
under_held ds name under (d, at) e = at_name (ds name) e
  where
    at_name : (o : Option Declaration) → option_map (λ (x : Declaration). x.under) o ≡ Some under → Contains (option_map_or (λ (x : Declaration). x.under ∷ []) o []) under
    at_name None e = absurd cc
    at_name (Some x) e = let same : x.under ≡ under = cc in (0, omega arith, same)

mutual
  pub comparable_back : (ds more : Declarations) (of : GoType) → Grows ds more → EnoughToCompare ds of → Comparable more of → Comparable ds of
  comparable_back ds more _ grows enough (Basics kind is) = Basics kind is
  comparable_back ds more _ grows enough (Pointers of) = Pointers of
  comparable_back ds more _ grows enough (Channels direction of) = Channels direction of
  comparable_back ds more _ grows enough (Interfaces methods) = Interfaces methods
  comparable_back ds more _ grows enough (Structs fields are) =
      Structs fields (fields_back ds more fields grows (λ part has. held_enough ds (StructOf fields) part enough has) are)
  comparable_back ds more _ grows enough (Arrays size of is) =
      Arrays size of (comparable_back ds more of grows (held_enough ds (ArrayOf size of) of enough (0, omega arith, refl)) is)
  comparable_back ds more _ grows enough (Definitions name under e is) =
      let known : IsDeclared ds name = enough name (MeetsName (DefinedType name) refl) in
      let here : under_of ds (DefinedType name) ≡ Some under = sym (same_under ds more (DefinedType name) grows (λ o same. enough o (MeetsName (DefinedType name) same))) ∙ e in
      Definitions name under here (comparable_back ds more under grows (held_enough ds (DefinedType name) under enough (under_held ds name under known here)) is)

  fields_back : (ds more : Declarations) (fields : GoFields) → Grows ds more
      → ((part : GoType) → Contains (map (λ (f : GoField). f.of) (field_list fields)) part → EnoughToCompare ds part) → AreComparable more fields → AreComparable ds fields
  fields_back ds more _ grows enough NoMore = NoMore
  fields_back ds more _ grows enough (OneMore name owner embedded of tag fields is are) =
      OneMore name owner embedded of tag fields
      (comparable_back ds more of grows (enough of (0, omega arith, refl)) is)
      (fields_back ds more fields grows (λ part (k, low, at). enough part (suc k, omega (arith, low), at)) are)

pub comparing_lasts : Lasts EnoughToCompare NeedsToCompare SaysComparable
comparing_lasts = record {
  enough = λ ds more of grows enough o m. declared_stays ds more o grows (enough o (meets_back ds more o of grows enough m));
  says = λ ds more of b grows enough says.
      truth_moves (Comparable ds of) (Comparable more of) b (comparable_grows ds more of grows) (comparable_back ds more of grows enough) says;
  once = λ ds of a b p r. one_truth (Comparable ds of) a b p r;
  needs = λ ds more of o grows (m, was) none. (meets_grows ds more o of grows m, none);
  missing = λ ds of o (m, none). none;
  apart = λ ds of o enough (m, none). let has = (enough o m).1 in absurd cc;
}
