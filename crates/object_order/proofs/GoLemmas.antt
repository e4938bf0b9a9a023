-- Where the search goes on from a spot: into a part, across to an object that is mentioned, under a declaration, or beside a type.
use Rattle.std.proofs.Common.{◌≡◌, ℕ, ◌⊎◌, Bool, true, false, if◌then◌else◌, List, [], ◌∷◌, ◌++◌, Option, Some, None, refl, sym, ap, ◌∙◌, subst, inl, inr}
use Rattle.std.specs.Prelude.{◌==◌}
use Rattle.std.specs.List.{flat_map}
use Rattle.std.specs.Option.{option_map_or}
use Rattle.go_tree.specs.Spells.{Among}
use Rattle.go_tree.specs.declared.tree.Node.{Node}
use Rattle.go_tree.specs.declared.tree.NodeRef.{NodeRef}
use Rattle.object_order.specs.declared.spot.Mode.{Mode}
use Rattle.object_order.specs.declared.spot.Form.{Form}
use Rattle.object_order.specs.declared.spot.Root.{Root}
use Rattle.object_order.specs.declared.spot.Entry.{Entry}
use Rattle.object_order.specs.declared.spot.Spot.{Spot}
use Rattle.object_order.specs.Spots.{World, place, spot, spots, is_block, below, descends, crosses, enters, joins, first_part, down, into, across, from_root, under, to_kin, beside, moves}
use Rattle.object_order.specs.Cases.{IsPart, IsMention}
use Rattle.object_order.proofs.SpotLemmas.{among_left, among_right, among_cases, same_place}
use Rattle.object_order.proofs.MoveLemmas.{flat_from, flat_among, spots_are}

pub record GoesInto (w : World) (x : Mode) (at : NodeRef) (y : Mode) (to : NodeRef) : Type 0 where
  pub part : IsPart w at to
  pub mode : Among y (below x part.node.kind (to.node == first_part part.node) part.inner.kind)

pub record GoesAcross (w : World) (x : Mode) (at : NodeRef) (y : Mode) (to : NodeRef) : Type 0 where
  pub mention : IsMention w at to
  pub mode : Among y (crosses x mention.entry.form)

pub record GoesUnder (w : World) (x : Mode) (at : NodeRef) (y : Mode) (to : NodeRef) : Type 0 where
  pub entry : Entry
  pub declared : w.entry at ≡ Some entry
  pub root : Root
  pub among : Among root entry.roots
  pub at_is : place at.file root.node ≡ to
  pub mode : Among y (enters x entry.form root.role)

pub record GoesBeside (w : World) (x : Mode) (at : NodeRef) (y : Mode) (to : NodeRef) : Type 0 where
  pub entry : Entry
  pub kin : Among to (w.kin at)
  pub declared : w.entry to ≡ Some entry
  pub mode : Among y (joins x entry.form)

pub data Goes (w : World) (x : Mode) (at : NodeRef) (y : Mode) (to : NodeRef) : Type 0 where
  goes_into : GoesInto w x at y to → Goes w x at y to
  goes_across : GoesAcross w x at y to → Goes w x at y to
  goes_under : GoesUnder w x at y to → Goes w x at y to
  goes_beside : GoesBeside w x at y to → Goes w x at y to

-- ---- from the search

outside : (b : Bool) (modes : List Mode) (y : Mode) → Among y (if b then [] else modes) → (b ≡ false) × Among y modes
outside true modes y h = absurd h
outside false modes y h = (refl, h)

module _ (w : World) (t s : Spot) where
  by_down : (node : Node) (part : ℕ) (o : Option Node) → w.node t.at ≡ Some node → Among part node.parts → w.node (place t.at.file part) ≡ o
      → Among s (option_map_or (λ (n : Node). spots (descends t.mode node.kind (part == first_part node) n.kind) (place t.at.file part)) o []) → GoesInto w t.mode t.at s.mode s.at
  by_down node part None is among there h = absurd h
  by_down node part (Some inner) is among there h =
      let (mode, at_is) = spots_are (descends t.mode node.kind (part == first_part node) inner.kind) (place t.at.file part) s h in
      let (no_body, mode_is) = outside (is_block inner.kind) (below t.mode node.kind (part == first_part node) inner.kind) s.mode mode in
      let piece : IsPart w t.at (place t.at.file part) = record { node = node; inner = inner; «is» = is; among = among; file = refl; there = there; no_body = no_body } in
      let goes : GoesInto w t.mode t.at s.mode (place t.at.file part) = record { part = piece; mode = mode_is } in
      subst (λ (x : NodeRef). GoesInto w t.mode t.at s.mode x) (sym at_is) goes

  by_into : (o : Option Node) → w.node t.at ≡ o → Among s (option_map_or (λ (node : Node). flat_map (down w t node) node.parts) o []) → GoesInto w t.mode t.at s.mode s.at
  by_into None is h = absurd h
  by_into (Some node) is h = let (part, among, there) = flat_from (down w t node) node.parts s h in
      by_down node part (w.node (place t.at.file part)) is among refl there

  by_entry : (u : NodeRef) (o : Option Entry) → w.meant t.at ≡ Some u → w.entry u ≡ o
      → Among s (option_map_or (λ (d : Entry). spots (crosses t.mode d.form) u) o []) → GoesAcross w t.mode t.at s.mode s.at
  by_entry u None is declared h = absurd h
  by_entry u (Some d) is declared h =
      let (mode, at_is) = spots_are (crosses t.mode d.form) u s h in
      let mention : IsMention w t.at u = record { entry = d; meant = is; declared = declared } in
      let goes : GoesAcross w t.mode t.at s.mode u = record { mention = mention; mode = mode } in
      subst (λ (x : NodeRef). GoesAcross w t.mode t.at s.mode x) (sym at_is) goes

  by_across : (o : Option NodeRef) → w.meant t.at ≡ o
      → Among s (option_map_or (λ (u : NodeRef). option_map_or (λ (d : Entry). spots (crosses t.mode d.form) u) (w.entry u) []) o []) → GoesAcross w t.mode t.at s.mode s.at
  by_across None is h = absurd h
  by_across (Some u) is h = by_entry u (w.entry u) is refl h

  by_under : (o : Option Entry) → w.entry t.at ≡ o → Among s (option_map_or (λ (d : Entry). flat_map (from_root t d.form) d.roots) o []) → GoesUnder w t.mode t.at s.mode s.at
  by_under None is h = absurd h
  by_under (Some d) is h =
      let (root, among, there) = flat_from (from_root t d.form) d.roots s h in
      let (mode, at_is) = spots_are (enters t.mode d.form root.role) (place t.at.file root.node) s there in
      record { entry = d; declared = is; root = root; among = among; at_is = sym at_is; mode = mode }

  by_kin : (u : NodeRef) (o : Option Entry) → Among u (w.kin t.at) → w.entry u ≡ o → Among s (option_map_or (λ (d : Entry). spots (joins t.mode d.form) u) o [])
      → GoesBeside w t.mode t.at s.mode s.at
  by_kin u None among is h = absurd h
  by_kin u (Some d) among is h =
      let (mode, at_is) = spots_are (joins t.mode d.form) u s h in
      let goes : GoesBeside w t.mode t.at s.mode u = record { entry = d; kin = among; declared = is; mode = mode } in
      subst (λ (x : NodeRef). GoesBeside w t.mode t.at s.mode x) (sym at_is) goes

  by_beside : Among s (beside w t) → GoesBeside w t.mode t.at s.mode s.at
  by_beside h = let (u, among, there) = flat_from (to_kin w t.mode) (w.kin t.at) s h in by_kin u (w.entry u) among refl there

  pub goes_of : Among s (moves w t) → Goes w t.mode t.at s.mode s.at
  goes_of h = elim (among_cases s (into w t ++ across w t ++ under w t) (beside w t) h) [
    | inr kin ↦ goes_beside (by_beside kin)
    | inl most ↦ elim (among_cases s (into w t ++ across w t) (under w t) most) [
      | inr below_it ↦ goes_under (by_under (w.entry t.at) refl below_it)
      | inl front ↦ elim (among_cases s (into w t) (across w t) front) [
        | inl inner ↦ goes_into (by_into (w.node t.at) refl inner)
        | inr over ↦ goes_across (by_across (w.meant t.at) refl over)
      ]
    ]
  ]

-- ---- to the search

are_spots : (modes : List Mode) (at : NodeRef) (y : Mode) → Among y modes → Among (spot y at) (spots modes at)
are_spots [] at y h = absurd h
are_spots (x ∷ modes) at y (inl same) = inl (ap (λ (v : Mode). spot v at) same)
are_spots (x ∷ modes) at y (inr h) = inr (are_spots modes at y h)

allowed : (b : Bool) (modes : List Mode) (y : Mode) → b ≡ false → Among y modes → Among y (if b then [] else modes)
allowed true modes y e h = absurd (cc)
allowed false modes y e h = h

module _ (w : World) (x : Mode) (at : NodeRef) (y : Mode) (to : NodeRef) where
  abbrev pub from : Spot
  from = spot x at

  abbrev pub In : List Spot → Type 0
  In row = Among (spot y to) row

  pub down_there : (p : IsPart w at to) → Among y (below x p.node.kind (to.node == first_part p.node) p.inner.kind) → In (down w from p.node to.node)
  down_there p mode =
      let here : place at.file to.node ≡ to = same_place (place at.file to.node) to (sym p.file) refl in
      let known : w.node (place at.file to.node) ≡ Some p.inner = ap (λ (v : NodeRef). w.node v) here ∙ p.there in
      let listed : Among y (descends x p.node.kind (to.node == first_part p.node) p.inner.kind) =
      allowed (is_block p.inner.kind) (below x p.node.kind (to.node == first_part p.node) p.inner.kind) y p.no_body mode in
      let among : Among (spot y (place at.file to.node)) (spots (descends x p.node.kind (to.node == first_part p.node) p.inner.kind) (place at.file to.node)) =
      are_spots (descends x p.node.kind (to.node == first_part p.node) p.inner.kind) (place at.file to.node) y listed in
      let moved : Among (spot y (place at.file to.node)) (down w from p.node to.node) =
      subst (λ (o : Option Node). Among (spot y (place at.file to.node)) (option_map_or (λ (n : Node). spots (descends x p.node.kind (to.node == first_part p.node) n.kind) (place at.file to.node)) o []))
      (sym known) among in
      subst (λ (v : NodeRef). Among (spot y v) (down w from p.node to.node)) here moved

  into_there : GoesInto w x at y to → In (into w from)
  into_there g = subst (λ (o : Option Node). In (option_map_or (λ (node : Node). flat_map (down w from node) node.parts) o [])) (sym g.part.«is»)
      (flat_among (down w from g.part.node) g.part.node.parts to.node (spot y to) g.part.among (down_there g.part g.mode))

  pub across_there : GoesAcross w x at y to → In (across w from)
  across_there g =
      let listed : In (spots (crosses x g.mention.entry.form) to) = are_spots (crosses x g.mention.entry.form) to y g.mode in
      let known : In (option_map_or (λ (d : Entry). spots (crosses x d.form) to) (w.entry to) []) =
      subst (λ (o : Option Entry). In (option_map_or (λ (d : Entry). spots (crosses x d.form) to) o [])) (sym g.mention.declared) listed in
      subst (λ (o : Option NodeRef). In (option_map_or (λ (u : NodeRef). option_map_or (λ (d : Entry). spots (crosses x d.form) u) (w.entry u) []) o [])) (sym g.mention.meant) known

  pub root_there : (g : GoesUnder w x at y to) → Among (spot y (place at.file g.root.node)) (from_root from g.entry.form g.root)
  root_there g = are_spots (enters x g.entry.form g.root.role) (place at.file g.root.node) y g.mode

  under_there : GoesUnder w x at y to → In (under w from)
  under_there g =
      let here : In (from_root from g.entry.form g.root) = subst (λ (v : NodeRef). Among (spot y v) (from_root from g.entry.form g.root)) g.at_is (root_there g) in
      subst (λ (o : Option Entry). In (option_map_or (λ (d : Entry). flat_map (from_root from d.form) d.roots) o [])) (sym g.declared)
      (flat_among (from_root from g.entry.form) g.entry.roots g.root (spot y to) g.among here)

  pub beside_there : GoesBeside w x at y to → In (beside w from)
  beside_there g =
      let listed : In (spots (joins x g.entry.form) to) = are_spots (joins x g.entry.form) to y g.mode in
      let known : In (to_kin w x to) = subst (λ (o : Option Entry). In (option_map_or (λ (d : Entry). spots (joins x d.form) to) o [])) (sym g.declared) listed in
      flat_among (to_kin w x) (w.kin at) to (spot y to) g.kin known

  pub moves_to : Goes w x at y to → Among (spot y to) (moves w (spot x at))
  moves_to (goes_into g) = among_left (spot y to) (into w from ++ across w from ++ under w from) (beside w from)
      (among_left (spot y to) (into w from ++ across w from) (under w from) (among_left (spot y to) (into w from) (across w from) (into_there g)))
  moves_to (goes_across g) = among_left (spot y to) (into w from ++ across w from ++ under w from) (beside w from)
      (among_left (spot y to) (into w from ++ across w from) (under w from) (among_right (spot y to) (into w from) (across w from) (across_there g)))
  moves_to (goes_under g) = among_left (spot y to) (into w from ++ across w from ++ under w from) (beside w from)
      (among_right (spot y to) (into w from ++ across w from) (under w from) (under_there g))
  moves_to (goes_beside g) = among_right (spot y to) (into w from ++ across w from ++ under w from) (beside w from) (beside_there g)
