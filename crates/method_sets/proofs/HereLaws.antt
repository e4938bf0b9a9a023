-- A name that a type itself has.
use Rattle.std.proofs.Common.{◌≡◌, ℕ, List, [], ◌∷◌, length, Option, Some, None, option_map, refl, sym, subst, inr, arith}
use Rattle.type_model.specs.declared.table.TypeTable.{TypeTable}
use Rattle.type_model.specs.GoTypes.{GoType}
use Rattle.type_model.specs.Declarations.{Declarations}
use Rattle.type_model.specs.Tables.{declarations_in}
use Rattle.type_growth.specs.Growth.{IsKnown}
use Rattle.method_sets.specs.declared.selection.Selected.{Selected}
use Rattle.method_sets.specs.declared.selection.Selection.TheVariants as selection
use Rattle.method_sets.specs.Members.{Name, Part, Member, member_of}
use Rattle.method_sets.specs.Paths.{Leads, IsPath, Selects}
use Rattle.method_sets.specs.Selections.{Shows, IsAnswer}
use Rattle.method_sets.specs.Levels.{IsKnownTo, EnoughFrom}
use Rattle.method_sets.proofs.Settles.{has_member}

-- no path is shorter than that of no fields, and no other is as short
selects_here : (ds : Declarations) (name : Name) (a : GoType) (m : Member) → member_of ds name a ≡ Some m → Selects ds name a [] m
selects_here ds name a m has = record {
  to = a;
  leads = refl;
  has = has;
  least = λ other path. omega arith;
  only = λ other path long. none other long;
} where
  none : (other : List ℕ) → length other ≡ 0 → other ≡ []
  none [] long = refl
  none (k ∷ other) long = absurd (omega (arith, long))

pub settled_here : (t : TypeTable) (a : GoType) (name : Name) (part : Part) (path : List ℕ) (kind : Selected) → Some part ≡ option_map (λ (m : Member). m.is) (member_of (declarations_in t) name a) → path ≡ []
    → Shows t kind part → IsAnswer t a name (selection.Found path kind)
settled_here t a name part path kind has is shows =
    let m = has_member (member_of (declarations_in t) name a) part has in (
      m.0,
      subst (λ (p : List ℕ). Selects (declarations_in t) name a p m.0) (sym is) (selects_here (declarations_in t) name a m.0 m.1),
      subst (λ (x : Part). Shows t kind x) (sym m.2) shows,
    )

-- the type is all that has to be known
pub enough_here : (t : TypeTable) (a : GoType) (name : Name) (part : Part) → Some part ≡ option_map (λ (m : Member). m.is) (member_of (declarations_in t) name a) → IsKnown (declarations_in t) a
    → EnoughFrom (declarations_in t) name a
enough_here t a name part has known = let m = has_member (member_of (declarations_in t) name a) part has in inr ([], (a, m.0, refl, m.1), known_to) where
  known_to : IsKnownTo (declarations_in t) a 0
  known_to [] b low leads = subst (λ (x : GoType). IsKnown (declarations_in t) x) leads known
  known_to (k ∷ way) b low leads = absurd (omega (arith, low))
