-- The search comes to an object and what it needs only where the object is declared.
use Rattle.std.proofs.Common.{◌≡◌, ℕ, ◌&&◌, Bool, true, false, if◌then◌else◌, List, [], ◌∷◌, ◌++◌, Option, Some, None, refl, sym, ap, ◌∙◌, subst, inl, inr}
use Rattle.std.specs.List.{flat_map}
use Rattle.std.specs.Prelude.{◌==◌}
use Rattle.std.specs.Option.{option_map_or}
use Rattle.go_tree.specs.Spells.{Among}
use Rattle.go_tree.specs.declared.tree.Node.{Node}
use Rattle.go_tree.specs.declared.tree.NodeKind.{NodeKind}
use Rattle.go_tree.specs.declared.tree.NodeRef.{NodeRef}
use Rattle.object_order.specs.declared.spot.Mode.{Mode}
use Rattle.object_order.specs.declared.spot.Mode.TheVariants as m
use Rattle.object_order.specs.declared.spot.Form.{Form}
use Rattle.object_order.specs.declared.spot.Form.TheVariants as f
use Rattle.object_order.specs.declared.spot.Role.{Role}
use Rattle.object_order.specs.declared.spot.Role.TheVariants as r
use Rattle.object_order.specs.declared.spot.Entry.{Entry}
use Rattle.object_order.specs.declared.spot.Spot.{Spot}
use Rattle.object_order.specs.Spots.{World, place, spots, is_block, is_array, is_interface, is_name, is_paren, is_plain, below, descends, crosses, types, besides, restings, enters, joins, first_part, down, into, across, from_root, under, to_kin, beside, moves}
use Rattle.object_order.specs.Orders.{is_needs}
use Rattle.object_order.proofs.SpotLemmas.{among_left, among_right, among_cases}

pub flat_from : {X Y : Type 0} (f : X → List Y) (xs : List X) (y : Y) → Among y (flat_map f xs) → (x : X) × Among x xs × Among y (f x)
flat_from f [] y h = absurd h
flat_from f (x ∷ xs) y h = elim (among_cases y (f x) (flat_map f xs) h) [
  | inl here ↦ (x, inl refl, here)
  | inr more ↦ (let (z, among, there) = flat_from f xs y more in (z, inr among, there))
]

pub flat_among : {X Y : Type 0} (f : X → List Y) (xs : List X) (x : X) (y : Y) → Among x xs → Among y (f x) → Among y (flat_map f xs)
flat_among f [] x y h there = absurd h
flat_among f (z ∷ xs) x y (inl same) there = among_left y (f z) (flat_map f xs) (subst (λ v. Among y (f v)) (sym same) there)
flat_among f (z ∷ xs) x y (inr h) there = among_right y (f z) (flat_map f xs) (flat_among f xs x y h there)

pub spots_are : (modes : List Mode) (at : NodeRef) (s : Spot) → Among s (spots modes at) → Among s.mode modes × (s.at ≡ at)
spots_are [] at s h = absurd h
spots_are (x ∷ modes) at s (inl same) = (inl (ap (λ (v : Spot). v.mode) same), sym (ap (λ (v : Spot). v.at) same))
spots_are (x ∷ modes) at s (inr h) = let (among, same) = spots_are modes at s h in (inr among, same)

-- none of the modes is that of an object and what it needs
abbrev AreOther : List Mode → Type 0
AreOther [] = Unit {0}
AreOther (x ∷ modes) = (is_needs x ≡ false) × AreOther modes

not_other : (modes : List Mode) (x : Mode) → AreOther modes → Among x modes → is_needs x ≡ true → ⊥
not_other [] x are h e = absurd h
not_other (y ∷ modes) x are (inl same) e = no_both (sym are.0 ∙ (ap is_needs same ∙ e)) where
  no_both : false ≡ true → ⊥
  no_both p = cc
not_other (y ∷ modes) x are (inr h) e = not_other modes x are.1 h e

if_other : (b : Bool) (one other : List Mode) → AreOther one → AreOther other → AreOther (if b then one else other)
if_other true one other p q = p
if_other false one other p q = q

below_other : (mode : Mode) (kind : NodeKind) (first : Bool) (part : NodeKind) → AreOther (below mode kind first part)
below_other m.Needs _ _ _ = tt
below_other m.Reach _ _ _ = tt
below_other m.Steps _ _ _ = tt
below_other m.Follow _ _ _ = tt
below_other m.Kin _ _ _ = tt
below_other m.Direct kind first part = if_other (is_plain kind) (m.Direct ∷ []) [] (refl, tt) tt
below_other m.Lengths kind first part = if_other (is_array kind && first) (m.Whole ∷ []) (m.Lengths ∷ []) (refl, tt) (refl, tt)
below_other m.Whole _ _ _ = (refl, tt)
below_other m.Aliases _ _ _ = (refl, tt)
below_other m.AliasSteps _ _ _ = (refl, tt)
below_other m.Embeds kind first part = if_other (is_interface kind && is_name part) (m.Alone ∷ m.Embeds ∷ []) (m.Embeds ∷ []) (refl, (refl, tt)) (refl, tt)
below_other m.Alone kind first part = if_other (is_paren kind) (m.Alone ∷ []) [] (refl, tt) tt

types_other : (mode : Mode) (form : Form) → AreOther (types mode form)
types_other m.Needs f.Other = (refl, (refl, tt))
types_other m.Needs f.Defined = (refl, (refl, tt))
types_other m.Needs f.Alias = (refl, (refl, (refl, tt)))
types_other m.Reach form = (refl, tt)
types_other m.Steps f.Other = tt
types_other m.Steps f.Defined = (refl, (refl, (refl, tt)))
types_other m.Steps f.Alias = (refl, (refl, tt))
types_other m.Follow f.Other = tt
types_other m.Follow f.Defined = tt
types_other m.Follow f.Alias = (refl, tt)
types_other m.Kin form = tt
types_other m.Direct form = tt
types_other m.Lengths form = tt
types_other m.Whole form = tt
types_other m.Aliases form = tt
types_other m.AliasSteps form = tt
types_other m.Embeds form = tt
types_other m.Alone form = tt

besides_other : (mode : Mode) → AreOther (besides mode)
besides_other m.Needs = (refl, tt)
besides_other m.Reach = (refl, tt)
besides_other m.Steps = tt
besides_other m.Follow = tt
besides_other m.Kin = tt
besides_other m.Direct = tt
besides_other m.Lengths = tt
besides_other m.Whole = tt
besides_other m.Aliases = tt
besides_other m.AliasSteps = tt
besides_other m.Embeds = tt
besides_other m.Alone = tt

restings_other : (mode : Mode) → AreOther (restings mode)
restings_other m.Needs = (refl, tt)
restings_other m.Reach = (refl, tt)
restings_other m.Steps = tt
restings_other m.Follow = tt
restings_other m.Kin = tt
restings_other m.Direct = tt
restings_other m.Lengths = tt
restings_other m.Whole = tt
restings_other m.Aliases = tt
restings_other m.AliasSteps = tt
restings_other m.Embeds = tt
restings_other m.Alone = tt

enters_other : (mode : Mode) (form : Form) (role : Role) → AreOther (enters mode form role)
enters_other mode form r.Typing = types_other mode form
enters_other mode form r.Beside = besides_other mode
enters_other mode form r.Resting = restings_other mode

module _ (w : World) (t s : Spot) (e : is_needs s.mode ≡ true) where
  -- the object is declared
  abbrev Stands : NodeRef → Type 0
  Stands at = (d : Entry) × (w.entry at ≡ Some d)

  no_spots : (modes : List Mode) (at : NodeRef) → AreOther modes → Among s (spots modes at) → ⊥
  no_spots modes at are h = not_other modes s.mode are (spots_are modes at s h).0 e

  no_down : (node : Node) (part : ℕ) (o : Option Node)
      → Among s (option_map_or (λ (n : Node). spots (descends t.mode node.kind (part == first_part node) n.kind) (place t.at.file part)) o []) → ⊥
  no_down node part None h = h
  no_down node part (Some n) h = no_spots (descends t.mode node.kind (part == first_part node) n.kind) (place t.at.file part)
      (if_other (is_block n.kind) [] (below t.mode node.kind (part == first_part node) n.kind) tt (below_other t.mode node.kind (part == first_part node) n.kind)) h

  no_into : (o : Option Node) → Among s (option_map_or (λ (node : Node). flat_map (down w t node) node.parts) o []) → ⊥
  no_into None h = h
  no_into (Some node) h = let (part, among, there) = flat_from (down w t node) node.parts s h in no_down node part (w.node (place t.at.file part)) there

  crossed : (u : NodeRef) (o : Option Entry) → w.entry u ≡ o → (modes : Entry → List Mode) → Among s (option_map_or (λ (d : Entry). spots (modes d) u) o []) → Stands s.at
  crossed u None is modes h = absurd h
  crossed u (Some d) is modes h = (d, ap (λ (x : NodeRef). w.entry x) (spots_are (modes d) u s h).1 ∙ is)

  by_across : (o : Option NodeRef) → Among s (option_map_or (λ (u : NodeRef). option_map_or (λ (d : Entry). spots (crosses t.mode d.form) u) (w.entry u) []) o []) → Stands s.at
  by_across None h = absurd h
  by_across (Some u) h = crossed u (w.entry u) refl (λ d. crosses t.mode d.form) h

  no_under : (o : Option Entry) → Among s (option_map_or (λ (d : Entry). flat_map (from_root t d.form) d.roots) o []) → ⊥
  no_under None h = h
  no_under (Some d) h = let (root, among, there) = flat_from (from_root t d.form) d.roots s h in
      no_spots (enters t.mode d.form root.role) (place t.at.file root.node) (enters_other t.mode d.form root.role) there

  by_kin : Among s (beside w t) → Stands s.at
  by_kin h = let (u, among, there) = flat_from (to_kin w t.mode) (w.kin t.at) s h in crossed u (w.entry u) refl (λ d. joins t.mode d.form) there

  pub comes_declared : Among s (moves w t) → (d : Entry) × (w.entry s.at ≡ Some d)
  comes_declared h = elim (among_cases s (into w t ++ across w t ++ under w t) (beside w t) h) [
    | inr kin ↦ by_kin kin
    | inl most ↦ elim (among_cases s (into w t ++ across w t) (under w t) most) [
      | inr down_there ↦ absurd (no_under (w.entry t.at) down_there)
      | inl front ↦ elim (among_cases s (into w t) (across w t) front) [
        | inl inner ↦ absurd (no_into (w.node t.at) inner)
        | inr over ↦ by_across (w.meant t.at) over
      ]
    ]
  ]
