-- What a search leaves out leads to no object: it is quiet, and quiet nodes lead to quiet nodes alone.
use Rattle.std.proofs.Common.{◌≡◌, ◌⊎◌, ◌&&◌, Bool, true, false, if◌then◌else◌, List, [], ◌∷◌, ◌++◌, Option, Some, None, refl, sym, ap, ◌∙◌, subst, inl, inr}
use Rattle.std.specs.Prelude.{◌==◌}
use Rattle.std.specs.List.{flat_map}
use Rattle.std.specs.Option.{option_map_or}
use Rattle.go_tree.specs.Spells.{Among}
use Rattle.go_tree.specs.declared.tree.Node.{Node}
use Rattle.go_tree.specs.declared.tree.NodeKind.{NodeKind}
use Rattle.go_tree.specs.declared.tree.NodeRef.{NodeRef}
use Rattle.object_order.specs.declared.spot.Mode.{Mode}
use Rattle.object_order.specs.declared.spot.Mode.TheVariants as m
use Rattle.object_order.specs.declared.spot.Form.{Form}
use Rattle.object_order.specs.declared.spot.Form.TheVariants as f
use Rattle.object_order.specs.declared.spot.Role.{Role}
use Rattle.object_order.specs.declared.spot.Role.TheVariants as r
use Rattle.object_order.specs.declared.spot.Entry.{Entry}
use Rattle.object_order.specs.declared.spot.Spot.{Spot}
use Rattle.object_order.specs.Paths.{Path}
use Rattle.object_order.specs.Spots.{World, place, spot, is_array, is_interface, is_name, is_paren, is_plain, below, crosses, types, besides, restings, enters, joins, first_part, down, into, across, from_root, under, beside, moves}
use Rattle.object_order.specs.Trimmed.{is_inner, is_joined, trimmed_down, trimmed_into, trimmed_root, trimmed_under, trimmed_beside, trimmed_moves}
use Rattle.object_order.specs.Quiet.{AreQuiet}
use Rattle.object_order.specs.Orders.{GoesBy, NeedsBy}
use Rattle.object_order.proofs.SpotLemmas.{among_left, among_right, among_cases, same_place}
use Rattle.object_order.proofs.MoveLemmas.{flat_from, flat_among}
use Rattle.object_order.proofs.GoLemmas.{GoesInto, GoesAcross, GoesUnder, GoesBeside, Goes, goes_into, goes_across, goes_under, goes_beside, goes_of, down_there, across_there, root_there, beside_there}
use Rattle.object_order.proofs.HopLemmas.{path_over}

cases_of : (b : Bool) → (b ≡ true) ⊎ (b ≡ false)
cases_of true = inl refl
cases_of false = inr refl

no_both : {P : Type 0} (b : Bool) → b ≡ true → b ≡ false → P
no_both true e h = absurd (cc)
no_both false e h = absurd (cc)

-- ---- what is looked for where

abbrev AreInner : List Mode → Type 0
AreInner [] = Unit {0}
AreInner (x ∷ modes) = (is_inner x ≡ true) × AreInner modes

of_inner : (modes : List Mode) (x : Mode) → AreInner modes → Among x modes → is_inner x ≡ true
of_inner [] x are h = absurd h
of_inner (y ∷ modes) x are (inl same) = ap is_inner (sym same) ∙ are.0
of_inner (y ∷ modes) x are (inr h) = of_inner modes x are.1 h

if_inner : (b : Bool) (one other : List Mode) → AreInner one → AreInner other → AreInner (if b then one else other)
if_inner true one other p q = p
if_inner false one other p q = q

below_inner : (mode : Mode) (kind : NodeKind) (first : Bool) (part : NodeKind) → AreInner (below mode kind first part)
below_inner m.Needs _ _ _ = tt
below_inner m.Reach _ _ _ = tt
below_inner m.Steps _ _ _ = tt
below_inner m.Follow _ _ _ = tt
below_inner m.Kin _ _ _ = tt
below_inner m.Direct kind first part = if_inner (is_plain kind) (m.Direct ∷ []) [] (refl, tt) tt
below_inner m.Lengths kind first part = if_inner (is_array kind && first) (m.Whole ∷ []) (m.Lengths ∷ []) (refl, tt) (refl, tt)
below_inner m.Whole _ _ _ = (refl, tt)
below_inner m.Aliases _ _ _ = (refl, tt)
below_inner m.AliasSteps _ _ _ = (refl, tt)
below_inner m.Embeds kind first part = if_inner (is_interface kind && is_name part) (m.Alone ∷ m.Embeds ∷ []) (m.Embeds ∷ []) (refl, (refl, tt)) (refl, tt)
below_inner m.Alone kind first part = if_inner (is_paren kind) (m.Alone ∷ []) [] (refl, tt) tt

below_from : (x : Mode) (kind : NodeKind) (first : Bool) (part : NodeKind) (y : Mode) → Among y (below x kind first part) → is_inner x ≡ true
below_from m.Needs _ _ _ y h = absurd h
below_from m.Reach _ _ _ y h = absurd h
below_from m.Steps _ _ _ y h = absurd h
below_from m.Follow _ _ _ y h = absurd h
below_from m.Kin _ _ _ y h = absurd h
below_from m.Direct _ _ _ y h = refl
below_from m.Lengths _ _ _ y h = refl
below_from m.Whole _ _ _ y h = refl
below_from m.Aliases _ _ _ y h = refl
below_from m.AliasSteps _ _ _ y h = refl
below_from m.Embeds _ _ _ y h = refl
below_from m.Alone _ _ _ y h = refl

crosses_from : (x : Mode) (form : Form) (y : Mode) → Among y (crosses x form) → is_inner x ≡ true
crosses_from m.Needs form y h = absurd h
crosses_from m.Reach form y h = absurd h
crosses_from m.Steps form y h = absurd h
crosses_from m.Follow form y h = absurd h
crosses_from m.Kin form y h = absurd h
crosses_from m.Direct form y h = refl
crosses_from m.Lengths form y h = refl
crosses_from m.Whole form y h = refl
crosses_from m.Aliases form y h = refl
crosses_from m.AliasSteps form y h = refl
crosses_from m.Embeds form y h = refl
crosses_from m.Alone form y h = refl

types_from : (x : Mode) (form : Form) (y : Mode) → Among y (types x form) → is_inner x ≡ false
types_from m.Needs form y h = refl
types_from m.Reach form y h = refl
types_from m.Steps form y h = refl
types_from m.Follow form y h = refl
types_from m.Kin form y h = refl
types_from m.Direct form y h = absurd h
types_from m.Lengths form y h = absurd h
types_from m.Whole form y h = absurd h
types_from m.Aliases form y h = absurd h
types_from m.AliasSteps form y h = absurd h
types_from m.Embeds form y h = absurd h
types_from m.Alone form y h = absurd h

besides_from : (x y : Mode) → Among y (besides x) → is_inner x ≡ false
besides_from m.Needs y h = refl
besides_from m.Reach y h = refl
besides_from m.Steps y h = refl
besides_from m.Follow y h = refl
besides_from m.Kin y h = refl
besides_from m.Direct y h = absurd h
besides_from m.Lengths y h = absurd h
besides_from m.Whole y h = absurd h
besides_from m.Aliases y h = absurd h
besides_from m.AliasSteps y h = absurd h
besides_from m.Embeds y h = absurd h
besides_from m.Alone y h = absurd h

restings_from : (x y : Mode) → Among y (restings x) → is_inner x ≡ false
restings_from m.Needs y h = refl
restings_from m.Reach y h = refl
restings_from m.Steps y h = refl
restings_from m.Follow y h = refl
restings_from m.Kin y h = refl
restings_from m.Direct y h = absurd h
restings_from m.Lengths y h = absurd h
restings_from m.Whole y h = absurd h
restings_from m.Aliases y h = absurd h
restings_from m.AliasSteps y h = absurd h
restings_from m.Embeds y h = absurd h
restings_from m.Alone y h = absurd h

enters_from : (x : Mode) (form : Form) (role : Role) (y : Mode) → Among y (enters x form role) → is_inner x ≡ false
enters_from x form r.Typing y h = types_from x form y h
enters_from x form r.Beside y h = besides_from x y h
enters_from x form r.Resting y h = restings_from x y h

types_inner : (mode : Mode) (form : Form) → AreInner (types mode form)
types_inner m.Needs f.Other = (refl, (refl, tt))
types_inner m.Needs f.Defined = (refl, (refl, tt))
types_inner m.Needs f.Alias = (refl, (refl, (refl, tt)))
types_inner m.Reach form = (refl, tt)
types_inner m.Steps f.Other = tt
types_inner m.Steps f.Defined = (refl, (refl, (refl, tt)))
types_inner m.Steps f.Alias = (refl, (refl, tt))
types_inner m.Follow f.Other = tt
types_inner m.Follow f.Defined = tt
types_inner m.Follow f.Alias = (refl, tt)
types_inner m.Kin form = tt
types_inner m.Direct form = tt
types_inner m.Lengths form = tt
types_inner m.Whole form = tt
types_inner m.Aliases form = tt
types_inner m.AliasSteps form = tt
types_inner m.Embeds form = tt
types_inner m.Alone form = tt

besides_inner : (mode : Mode) → AreInner (besides mode)
besides_inner m.Needs = (refl, tt)
besides_inner m.Reach = (refl, tt)
besides_inner m.Steps = tt
besides_inner m.Follow = tt
besides_inner m.Kin = tt
besides_inner m.Direct = tt
besides_inner m.Lengths = tt
besides_inner m.Whole = tt
besides_inner m.Aliases = tt
besides_inner m.AliasSteps = tt
besides_inner m.Embeds = tt
besides_inner m.Alone = tt

restings_inner : (mode : Mode) → AreInner (restings mode)
restings_inner m.Needs = (refl, tt)
restings_inner m.Reach = (refl, tt)
restings_inner m.Steps = tt
restings_inner m.Follow = tt
restings_inner m.Kin = tt
restings_inner m.Direct = tt
restings_inner m.Lengths = tt
restings_inner m.Whole = tt
restings_inner m.Aliases = tt
restings_inner m.AliasSteps = tt
restings_inner m.Embeds = tt
restings_inner m.Alone = tt

enters_inner : (mode : Mode) (form : Form) (role : Role) → AreInner (enters mode form role)
enters_inner mode form r.Typing = types_inner mode form
enters_inner mode form r.Beside = besides_inner mode
enters_inner mode form r.Resting = restings_inner mode

joins_from : (x : Mode) (form : Form) (y : Mode) → Among y (joins x form) → (is_joined x ≡ true) × (is_inner x ≡ false)
joins_from m.Needs form y h = absurd h
joins_from m.Reach form y h = (refl, refl)
joins_from m.Steps form y h = absurd h
joins_from m.Follow form y h = absurd h
joins_from m.Kin form y h = (refl, refl)
joins_from m.Direct form y h = absurd h
joins_from m.Lengths form y h = absurd h
joins_from m.Whole form y h = absurd h
joins_from m.Aliases form y h = absurd h
joins_from m.AliasSteps form y h = absurd h
joins_from m.Embeds form y h = absurd h
joins_from m.Alone form y h = absurd h

-- ---- lists

kept : {X : Type 0} (b : Bool) (x : X) (xs : List X) → b ≡ false → Among x xs → Among x (if b then [] else xs)
kept true x xs e h = absurd (cc)
kept false x xs e h = h

was_kept : {X : Type 0} (b : Bool) (x : X) (xs : List X) → Among x (if b then [] else xs) → Among x xs
was_kept true x xs h = absurd h
was_kept false x xs h = h

chosen : {X : Type 0} (b : Bool) (x : X) (xs ys : List X) → b ≡ true → Among x xs → Among x (if b then xs else ys)
chosen true x xs ys e h = h
chosen false x xs ys e h = absurd (cc)

unchosen : {X : Type 0} (b : Bool) (x : X) (xs ys : List X) → b ≡ false → Among x ys → Among x (if b then xs else ys)
unchosen true x xs ys e h = absurd (cc)
unchosen false x xs ys e h = h

was_chosen : {X : Type 0} (b : Bool) (x : X) (xs ys : List X) → Among x (if b then xs else ys) → Among x xs ⊎ Among x ys
was_chosen true x xs ys h = inl h
was_chosen false x xs ys h = inr h

-- each gives less
flat_less : {X Y : Type 0} (g h : X → List Y) (xs : List X) (y : Y) → ((x : X) → Among y (g x) → Among y (h x)) → Among y (flat_map g xs) → Among y (flat_map h xs)
flat_less g h xs y less among = let (x, there, has) = flat_from g xs y among in flat_among h xs x y there (less x has)

none_some : {X P : Type 0} (o : Option X) (x : X) → o ≡ None → o ≡ Some x → P
none_some None x e h = absurd (cc)
none_some (Some y) x e h = absurd (cc)

-- ---- what is left out

module _ (w : World) (quiet : NodeRef → Bool) where
  -- what is looked for in a quiet node
  abbrev IsLeft : Mode → NodeRef → Type 0
  IsLeft y to = (is_inner y ≡ true) × (quiet to ≡ true)

  module _ (x : Mode) (at : NodeRef) (y : Mode) (to : NodeRef) where
    abbrev Trims : Type 0
    Trims = Among (spot y to) (trimmed_moves quiet w (spot x at))

    trims_into : GoesInto w x at y to → quiet to ≡ false → Trims
    trims_into g loud =
        let here : place at.file to.node ≡ to = same_place (place at.file to.node) to (sym g.part.file) refl in
        let lies : Among (spot y to) (trimmed_down quiet w (spot x at) g.part.node to.node) =
        kept (quiet (place at.file to.node)) (spot y to) (down w (spot x at) g.part.node to.node) (ap quiet here ∙ loud) (down_there w x at y to g.part g.mode) in
        let among : Among (spot y to) (trimmed_into quiet w (spot x at)) =
        subst (λ (o : Option Node). Among (spot y to) (option_map_or (λ (node : Node). flat_map (trimmed_down quiet w (spot x at) node) node.parts) o [])) (sym g.part.«is»)
        (flat_among (trimmed_down quiet w (spot x at) g.part.node) g.part.node.parts to.node (spot y to) g.part.among lies) in
        chosen (is_inner x) (spot y to) (trimmed_into quiet w (spot x at) ++ across w (spot x at)) (trimmed_under quiet w (spot x at) ++ trimmed_beside w (spot x at))
        (below_from x g.part.node.kind (to.node == first_part g.part.node) g.part.inner.kind y g.mode)
        (among_left (spot y to) (trimmed_into quiet w (spot x at)) (across w (spot x at)) among)

    trims_across : GoesAcross w x at y to → Trims
    trims_across g =
        chosen (is_inner x) (spot y to) (trimmed_into quiet w (spot x at) ++ across w (spot x at)) (trimmed_under quiet w (spot x at) ++ trimmed_beside w (spot x at))
        (crosses_from x g.mention.entry.form y g.mode) (among_right (spot y to) (trimmed_into quiet w (spot x at)) (across w (spot x at)) (across_there w x at y to g))

    trims_under : GoesUnder w x at y to → quiet to ≡ false → Trims
    trims_under g loud =
        let listed : Among (spot y (place at.file g.root.node)) (from_root (spot x at) g.entry.form g.root) = root_there w x at y to g in
        let lies : Among (spot y to) (trimmed_root quiet (spot x at) g.entry.form g.root) =
        kept (quiet (place at.file g.root.node)) (spot y to) (from_root (spot x at) g.entry.form g.root) (ap quiet g.at_is ∙ loud)
        (subst (λ (v : NodeRef). Among (spot y v) (from_root (spot x at) g.entry.form g.root)) g.at_is listed) in
        let among : Among (spot y to) (trimmed_under quiet w (spot x at)) =
        subst (λ (o : Option Entry). Among (spot y to) (option_map_or (λ (d : Entry). flat_map (trimmed_root quiet (spot x at) d.form) d.roots) o [])) (sym g.declared)
        (flat_among (trimmed_root quiet (spot x at) g.entry.form) g.entry.roots g.root (spot y to) g.among lies) in
        unchosen (is_inner x) (spot y to) (trimmed_into quiet w (spot x at) ++ across w (spot x at)) (trimmed_under quiet w (spot x at) ++ trimmed_beside w (spot x at))
        (enters_from x g.entry.form g.root.role y g.mode) (among_left (spot y to) (trimmed_under quiet w (spot x at)) (trimmed_beside w (spot x at)) among)

    trims_beside : GoesBeside w x at y to → Trims
    trims_beside g =
        let (joined, outer) = joins_from x g.entry.form y g.mode in
        let among : Among (spot y to) (trimmed_beside w (spot x at)) = chosen (is_joined x) (spot y to) (beside w (spot x at)) [] joined (beside_there w x at y to g) in
        unchosen (is_inner x) (spot y to) (trimmed_into quiet w (spot x at) ++ across w (spot x at)) (trimmed_under quiet w (spot x at) ++ trimmed_beside w (spot x at))
        outer (among_right (spot y to) (trimmed_under quiet w (spot x at)) (trimmed_beside w (spot x at)) among)

    trims : Goes w x at y to → Trims ⊎ IsLeft y to
    trims (goes_into g) = elim (cases_of (quiet to)) [
      | inl is ↦ inr (of_inner (below x g.part.node.kind (to.node == first_part g.part.node) g.part.inner.kind) y (below_inner x g.part.node.kind (to.node == first_part g.part.node) g.part.inner.kind) g.mode, is)
      | inr loud ↦ inl (trims_into g loud)
    ]
    trims (goes_across g) = inl (trims_across g)
    trims (goes_under g) = elim (cases_of (quiet to)) [
      | inl is ↦ inr (of_inner (enters x g.entry.form g.root.role) y (enters_inner x g.entry.form g.root.role) g.mode, is)
      | inr loud ↦ inl (trims_under g loud)
    ]
    trims (goes_beside g) = inl (trims_beside g)

  -- the search goes on as it did
  in_trimmed : (s t : Spot) → Among t (moves w s) → Among t (trimmed_moves quiet w s) ⊎ IsLeft t.mode t.at
  in_trimmed s t h = trims s.mode s.at t.mode t.at (goes_of w s t h)

  less_into : (s t : Spot) (o : Option Node) → Among t (option_map_or (λ (node : Node). flat_map (trimmed_down quiet w s node) node.parts) o [])
      → Among t (option_map_or (λ (node : Node). flat_map (down w s node) node.parts) o [])
  less_into s t None h = h
  less_into s t (Some node) h = flat_less (trimmed_down quiet w s node) (down w s node) node.parts t (λ part there. was_kept (quiet (place s.at.file part)) t (down w s node part) there) h

  less_under : (s t : Spot) (o : Option Entry) → Among t (option_map_or (λ (d : Entry). flat_map (trimmed_root quiet s d.form) d.roots) o [])
      → Among t (option_map_or (λ (d : Entry). flat_map (from_root s d.form) d.roots) o [])
  less_under s t None h = h
  less_under s t (Some d) h = flat_less (trimmed_root quiet s d.form) (from_root s d.form) d.roots t (λ root there. was_kept (quiet (place s.at.file root.node)) t (from_root s d.form root) there) h

  less_beside : (b : Bool) (s t : Spot) → Among t (if b then beside w s else []) → Among t (beside w s)
  less_beside true s t h = h
  less_beside false s t h = absurd h

  -- the search goes on nowhere else
  pub of_trimmed : (s t : Spot) → Among t (trimmed_moves quiet w s) → Among t (moves w s)
  of_trimmed s t h = elim (was_chosen (is_inner s.mode) t (trimmed_into quiet w s ++ across w s) (trimmed_under quiet w s ++ trimmed_beside w s) h) [
    | inl inner ↦ among_left t (into w s ++ across w s ++ under w s) (beside w s) (among_left t (into w s ++ across w s) (under w s) (elim (among_cases t (trimmed_into quiet w s) (across w s) inner) [
      | inl deep ↦ among_left t (into w s) (across w s) (less_into s t (w.node s.at) deep)
      | inr over ↦ among_right t (into w s) (across w s) over
    ]))
    | inr outer ↦ elim (among_cases t (trimmed_under quiet w s) (trimmed_beside w s) outer) [
      | inl roots ↦ among_left t (into w s ++ across w s ++ under w s) (beside w s) (among_right t (into w s ++ across w s) (under w s) (less_under s t (w.entry s.at) roots))
      | inr kin ↦ among_right t (into w s ++ across w s ++ under w s) (beside w s) (less_beside (is_joined s.mode) s t kin)
    ]
  ]

  module _ (are : AreQuiet false w.node w.meant quiet) where
    left_goes : (x : Mode) (at : NodeRef) (y : Mode) (to : NodeRef) → IsLeft x at → Goes w x at y to → IsLeft y to
    left_goes x at y to (inner, is) (goes_into g) =
        let here : place at.file to.node ≡ to = same_place (place at.file to.node) to (sym g.part.file) refl in
        let flagged = (are at is).parts g.part.node g.part.inner to.node g.part.«is» g.part.among (ap (λ (v : NodeRef). w.node v) here ∙ g.part.there) g.part.no_body in (
          of_inner (below x g.part.node.kind (to.node == first_part g.part.node) g.part.inner.kind) y (below_inner x g.part.node.kind (to.node == first_part g.part.node) g.part.inner.kind) g.mode,
          ap quiet (sym here) ∙ flagged,
        )
    left_goes x at y to (inner, is) (goes_across g) = none_some (w.meant at) to (are at is).mentions g.mention.meant
    left_goes x at y to (inner, is) (goes_under g) = no_both (is_inner x) inner (enters_from x g.entry.form g.root.role y g.mode)
    left_goes x at y to (inner, is) (goes_beside g) = no_both (is_inner x) inner (joins_from x g.entry.form y g.mode).1

    left_on : (via : List Spot) (s t : Spot) → IsLeft s.mode s.at → Path (GoesBy (moves w)) s via t → IsLeft t.mode t.at
    left_on [] s t left path = left_goes s.mode s.at t.mode t.at left (goes_of w s t path)
    left_on (c ∷ via) s t left path = left_on via c t (left_goes s.mode s.at c.mode c.at left (goes_of w s c path.0)) path.1

    -- a way to an object passes nothing that is left out
    trimmed_path : (via : List Spot) (s t : Spot) → is_inner t.mode ≡ false → Path (GoesBy (moves w)) s via t → Path (GoesBy (trimmed_moves quiet w)) s via t
    trimmed_path [] s t outer path = elim (in_trimmed s t path) [ inl h ↦ h | inr left ↦ no_both (is_inner t.mode) left.0 outer ]
    trimmed_path (c ∷ via) s t outer path = elim (in_trimmed s c path.0) [
      | inl h ↦ (h, trimmed_path via c t outer path.1)
      | inr left ↦ no_both (is_inner t.mode) (left_on via c t left path.1).0 outer
    ]

    pub to_trimmed : (o u : NodeRef) → NeedsBy (moves w) o u → NeedsBy (trimmed_moves quiet w) o u
    to_trimmed o u (inl (via, past, path)) = inl (via, past, trimmed_path via (spot m.Needs o) (spot m.Needs u) refl path)
    to_trimmed o u (inr (same, (via, path))) = inr (same, (via, trimmed_path via (spot m.Steps o) (spot m.Steps o) refl path))

  pub from_trimmed : (o u : NodeRef) → NeedsBy (trimmed_moves quiet w) o u → NeedsBy (moves w) o u
  from_trimmed o u (inl (via, past, path)) = inl (via, past, path_over (GoesBy (trimmed_moves quiet w)) (GoesBy (moves w)) of_trimmed (spot m.Needs o) via (spot m.Needs u) path)
  from_trimmed o u (inr (same, (via, path))) = inr (same, (via, path_over (GoesBy (trimmed_moves quiet w)) (GoesBy (moves w)) of_trimmed (spot m.Steps o) via (spot m.Steps o) path))
