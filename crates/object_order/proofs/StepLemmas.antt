-- Steps from type to type, in the search and by their cases.
use Rattle.std.proofs.Common.{◌≡◌, ◌⊎◌, ◌&&◌, Bool, true, false, if◌then◌else◌, List, [], ◌∷◌, refl, sym, ap, ◌∙◌, subst, inl, inr}
use Rattle.std.specs.Prelude.{◌==◌}
use Rattle.go_tree.specs.Spells.{Among}
use Rattle.go_tree.specs.declared.tree.NodeRef.{NodeRef}
use Rattle.object_order.specs.declared.spot.Mode.{Mode}
use Rattle.object_order.specs.declared.spot.Mode.TheVariants as m
use Rattle.object_order.specs.declared.spot.Form.{Form}
use Rattle.object_order.specs.declared.spot.Form.TheVariants as f
use Rattle.object_order.specs.declared.spot.Role.{Role}
use Rattle.object_order.specs.declared.spot.Role.TheVariants as r
use Rattle.object_order.specs.declared.spot.Spot.{Spot}
use Rattle.object_order.specs.Paths.{Path, Leads}
use Rattle.object_order.specs.Spots.{World, spot, is_array, is_interface, is_name, is_paren, is_plain, crosses, types, besides, restings, enters, joins, first_part, moves}
use Rattle.object_order.specs.Orders.{GoesBy, Turns}
use Rattle.object_order.specs.Cases.{IsPart, Within, itself, deeper, IsMention, Mentions, Is, IsRoot, NamesAlone, names, follows, in_parens, Embeds, IsType, StepsTo, to_alias, to_embedded, to_named}
use Rattle.object_order.proofs.HopLemmas.{leads_join}
use Rattle.object_order.proofs.GoLemmas.{GoesInto, GoesAcross, GoesUnder, GoesBeside, Goes, goes_into, goes_across, goes_under, goes_beside, goes_of, moves_to}
use Rattle.object_order.proofs.FindLemmas.{chosen, either_of, both_of, only_of, root_of, no_root}
use Rattle.object_order.proofs.ArriveLemmas.{among_chosen, under_root, across_to}

is_steps : Mode → Bool
is_steps m.Steps = true
is_steps m.Needs = false
is_steps m.Reach = false
is_steps m.Follow = false
is_steps m.Kin = false
is_steps m.Direct = false
is_steps m.Lengths = false
is_steps m.Whole = false
is_steps m.Aliases = false
is_steps m.AliasSteps = false
is_steps m.Embeds = false
is_steps m.Alone = false

steps_mode : (x : Mode) → is_steps x ≡ true → m.Steps ≡ x
unfolding is_steps
steps_mode m.Steps e = refl
steps_mode m.Needs e = absurd (cc)
steps_mode m.Reach e = absurd (cc)
steps_mode m.Follow e = absurd (cc)
steps_mode m.Kin e = absurd (cc)
steps_mode m.Direct e = absurd (cc)
steps_mode m.Lengths e = absurd (cc)
steps_mode m.Whole e = absurd (cc)
steps_mode m.Aliases e = absurd (cc)
steps_mode m.AliasSteps e = absurd (cc)
steps_mode m.Embeds e = absurd (cc)
steps_mode m.Alone e = absurd (cc)

bool_cases : (b : Bool) → (b ≡ true) ⊎ (b ≡ false)
bool_cases true = inl refl
bool_cases false = inr refl

module _ (w : World) (u : NodeRef) where
  -- the types to which a spot leads by one step
  abbrev Takes : Mode → NodeRef → Type 0
  Takes m.Steps at = StepsTo w at u
  Takes m.Follow at = (to : NodeRef) × Is w at f.Alias × IsRoot w at r.Typing to × NamesAlone w to u
  Takes m.AliasSteps at = Mentions w at u × Is w u f.Alias
  Takes m.Embeds at = Embeds w at u
  Takes m.Alone at = NamesAlone w at u
  Takes m.Needs at = ⊥
  Takes m.Reach at = ⊥
  Takes m.Kin at = ⊥
  Takes m.Direct at = ⊥
  Takes m.Lengths at = ⊥
  Takes m.Whole at = ⊥
  Takes m.Aliases at = ⊥

  abbrev Ends : Mode → NodeRef → Type 0
  Ends y to = ((m.Steps ≡ y) × (to ≡ u)) ⊎ ((is_steps y ≡ false) × Takes y to)

  steps_only : (y : Mode) → m.Steps ≡ y → is_steps y ≡ false → ⊥
  unfolding is_steps
  steps_only y e other = apart (ap is_steps e ∙ other) where
    apart : true ≡ false → ⊥
    apart p = cc

  take : (x y : Mode) (to : NodeRef) → is_steps x ≡ false → x ≡ y → Ends y to → Takes x to
  take x y to other e (inl (is, same)) = absurd (steps_only y is (ap is_steps (sym e) ∙ other))
  take x y to other e (inr (other_mode, takes)) = subst (λ (v : Mode). Takes v to) (sym e) takes

  take_type : (y : Mode) (to : NodeRef) → m.Steps ≡ y → Ends y to → to ≡ u
  take_type y to e (inl (is, same)) = same
  take_type y to e (inr (other_mode, takes)) = absurd (steps_only y e other_mode)

  by_into : (x : Mode) (at : NodeRef) (y : Mode) (to : NodeRef) → GoesInto w x at y to → Ends y to → Takes x at
  unfolding is_steps
  by_into m.AliasSteps at y to g h =
      let (mentions, alias) = take m.AliasSteps y to refl (only_of m.AliasSteps y g.mode) h in
      ((mentions.0, deeper g.part mentions.1, mentions.2), alias)
  by_into m.Embeds at y to g h = embeds (is_interface g.part.node.kind && is_name g.part.inner.kind) refl g.mode where
    further : Takes m.Embeds to → Embeds w at u
    further (i, n, lies, p, interface, name, alone) = (i, n, deeper g.part lies, p, interface, name, alone)

    embeds : (b : Bool) → (is_interface g.part.node.kind && is_name g.part.inner.kind) ≡ b → Among y (if b then m.Alone ∷ m.Embeds ∷ [] else m.Embeds ∷ []) → Embeds w at u
    embeds true is (inl e) = let (interface, name) = both_of (is_interface g.part.node.kind) (is_name g.part.inner.kind) is in
        (at, to, itself refl, g.part, interface, name, take m.Alone y to refl e h)
    embeds true is (inr e) = further (take m.Embeds y to refl (only_of m.Embeds y e) h)
    embeds false is e = further (take m.Embeds y to refl (only_of m.Embeds y e) h)
  by_into m.Alone at y to g h =
      let (paren, is) = chosen (is_paren g.part.node.kind) m.Alone y g.mode in in_parens g.part paren (take m.Alone y to refl is h)
  by_into m.Direct at y to g h = take m.Direct y to refl (chosen (is_plain g.part.node.kind) m.Direct y g.mode).1 h
  by_into m.Lengths at y to g h = elim (either_of (is_array g.part.node.kind && (to.node == first_part g.part.node)) m.Whole m.Lengths y g.mode) [
    | inl (counts, is) ↦ take m.Whole y to refl is h
    | inr is ↦ take m.Lengths y to refl is h
  ]
  by_into m.Whole at y to g h = take m.Whole y to refl (only_of m.Whole y g.mode) h
  by_into m.Aliases at y to g h = take m.Aliases y to refl (only_of m.Aliases y g.mode) h
  by_into m.Needs at y to g h = absurd g.mode
  by_into m.Reach at y to g h = absurd g.mode
  by_into m.Kin at y to g h = absurd g.mode
  by_into m.Steps at y to g h = absurd g.mode
  by_into m.Follow at y to g h = absurd g.mode

  alias_step : (form : Form) (at : NodeRef) (y : Mode) (to : NodeRef) → IsMention w at to → Is w to form → Among y (crosses m.AliasSteps form) → Ends y to → Takes m.AliasSteps at
  alias_step f.Alias at y to mention is (inl e) h = let same = take_type y to e h in
      ((at, itself refl, subst (λ (v : NodeRef). IsMention w at v) same mention), subst (λ (v : NodeRef). Is w v f.Alias) same is)
  alias_step f.Alias at y to mention is (inr n) h = absurd n
  alias_step f.Defined at y to mention is n h = absurd n
  alias_step f.Other at y to mention is n h = absurd n

  named_step : (form : Form) (at : NodeRef) (y : Mode) (to : NodeRef) → IsMention w at to → Is w to form → Among y (crosses m.Alone form) → Ends y to → Takes m.Alone at
  unfolding is_steps
  named_step f.Alias at y to mention is (inl e) h = let (type_at, alias, root, alone) = take m.Follow y to refl e h in follows mention alias root alone
  named_step f.Alias at y to mention is (inr n) h = absurd n
  named_step f.Defined at y to mention is (inl e) h = let same = take_type y to e h in
      names (subst (λ (v : NodeRef). IsMention w at v) same mention) (subst (λ (v : NodeRef). Is w v f.Defined) same is)
  named_step f.Defined at y to mention is (inr n) h = absurd n
  named_step f.Other at y to mention is n h = absurd n

  no_aliases : (form : Form) (y : Mode) (to : NodeRef) → Among y (crosses m.Aliases form) → Ends y to → ⊥
  unfolding is_steps
  no_aliases f.Alias y to (inl e) h = take m.Needs y to refl e h
  no_aliases f.Alias y to (inr n) h = n
  no_aliases f.Defined y to n h = n
  no_aliases f.Other y to n h = n

  no_whole : (y : Mode) (to : NodeRef) → Among y (m.Needs ∷ m.Reach ∷ []) → Ends y to → ⊥
  unfolding is_steps
  no_whole y to (inl e) h = take m.Needs y to refl e h
  no_whole y to (inr e) h = take m.Reach y to refl (only_of m.Reach y e) h

  by_across : (x : Mode) (at : NodeRef) (y : Mode) (to : NodeRef) → GoesAcross w x at y to → Ends y to → Takes x at
  unfolding is_steps
  by_across m.AliasSteps at y to g h = alias_step g.mention.entry.form at y to g.mention (g.mention.entry, g.mention.declared, refl) g.mode h
  by_across m.Alone at y to g h = named_step g.mention.entry.form at y to g.mention (g.mention.entry, g.mention.declared, refl) g.mode h
  by_across m.Direct at y to g h = take m.Needs y to refl (only_of m.Needs y g.mode) h
  by_across m.Whole at y to g h = no_whole y to g.mode h
  by_across m.Aliases at y to g h = no_aliases g.mention.entry.form y to g.mode h
  by_across m.Needs at y to g h = absurd g.mode
  by_across m.Reach at y to g h = absurd g.mode
  by_across m.Kin at y to g h = absurd g.mode
  by_across m.Steps at y to g h = absurd g.mode
  by_across m.Follow at y to g h = absurd g.mode
  by_across m.Lengths at y to g h = absurd g.mode
  by_across m.Embeds at y to g h = absurd g.mode

  type_step : (form : Form) (at : NodeRef) (y : Mode) (to : NodeRef) → Is w at form → IsRoot w at r.Typing to → Among y (types m.Steps form) → Ends y to → StepsTo w at u
  unfolding is_steps
  type_step f.Alias at y to is root (inl e) h = let (mentions, alias) = take m.AliasSteps y to refl e h in to_alias to (inl is) root mentions alias
  type_step f.Alias at y to is root (inr e) h = to_embedded to (inl is) root (take m.Embeds y to refl (only_of m.Embeds y e) h)
  type_step f.Defined at y to is root (inl e) h = let (mentions, alias) = take m.AliasSteps y to refl e h in to_alias to (inr is) root mentions alias
  type_step f.Defined at y to is root (inr (inl e)) h = to_embedded to (inr is) root (take m.Embeds y to refl e h)
  type_step f.Defined at y to is root (inr (inr e)) h = to_named to is root (take m.Alone y to refl (only_of m.Alone y e) h)
  type_step f.Other at y to is root n h = absurd n

  root_step : (role : Role) (form : Form) (at : NodeRef) (y : Mode) (to : NodeRef) → Is w at form → IsRoot w at role to → Among y (enters m.Steps form role) → Ends y to → StepsTo w at u
  root_step r.Typing form at y to is root modes h = type_step form at y to is root modes h
  root_step r.Beside form at y to is root n h = absurd n
  root_step r.Resting form at y to is root n h = absurd n

  follow_type : (form : Form) (at : NodeRef) (y : Mode) (to : NodeRef) → Is w at form → IsRoot w at r.Typing to → Among y (types m.Follow form) → Ends y to → Takes m.Follow at
  unfolding is_steps
  follow_type f.Alias at y to is root e h = (to, is, root, take m.Alone y to refl (only_of m.Alone y e) h)
  follow_type f.Defined at y to is root n h = absurd n
  follow_type f.Other at y to is root n h = absurd n

  follow_root : (role : Role) (form : Form) (at : NodeRef) (y : Mode) (to : NodeRef) → Is w at form → IsRoot w at role to → Among y (enters m.Follow form role) → Ends y to → Takes m.Follow at
  follow_root r.Typing form at y to is root modes h = follow_type form at y to is root modes h
  follow_root r.Beside form at y to is root n h = absurd n
  follow_root r.Resting form at y to is root n h = absurd n

  no_type : (form : Form) (y : Mode) (to : NodeRef) → Among y (types m.Needs form) → Ends y to → ⊥
  unfolding is_steps
  no_type f.Alias y to (inl e) h = take m.Direct y to refl e h
  no_type f.Alias y to (inr (inl e)) h = take m.Lengths y to refl e h
  no_type f.Alias y to (inr (inr e)) h = take m.Aliases y to refl (only_of m.Aliases y e) h
  no_type f.Defined y to (inl e) h = take m.Direct y to refl e h
  no_type f.Defined y to (inr e) h = take m.Lengths y to refl (only_of m.Lengths y e) h
  no_type f.Other y to (inl e) h = take m.Direct y to refl e h
  no_type f.Other y to (inr e) h = take m.Lengths y to refl (only_of m.Lengths y e) h

  no_needs : (role : Role) (form : Form) (y : Mode) (to : NodeRef) → Among y (enters m.Needs form role) → Ends y to → ⊥
  unfolding is_steps
  no_needs r.Typing form y to e h = no_type form y to e h
  no_needs r.Beside form y to e h = take m.Lengths y to refl (only_of m.Lengths y e) h
  no_needs r.Resting form y to e h = take m.Whole y to refl (only_of m.Whole y e) h

  no_reach : (role : Role) (form : Form) (y : Mode) (to : NodeRef) → Among y (enters m.Reach form role) → Ends y to → ⊥
  unfolding is_steps
  no_reach r.Typing form y to e h = take m.Whole y to refl (only_of m.Whole y e) h
  no_reach r.Beside form y to e h = take m.Whole y to refl (only_of m.Whole y e) h
  no_reach r.Resting form y to e h = take m.Whole y to refl (only_of m.Whole y e) h

  by_under : (x : Mode) (at : NodeRef) (y : Mode) (to : NodeRef) → GoesUnder w x at y to → Ends y to → Takes x at
  by_under m.Steps at y to g h = root_step g.root.role g.entry.form at y to (g.entry, g.declared, refl) (root_of w u m.Steps at y to g.root.role g refl) g.mode h
  by_under m.Follow at y to g h = follow_root g.root.role g.entry.form at y to (g.entry, g.declared, refl) (root_of w u m.Follow at y to g.root.role g refl) g.mode h
  by_under m.Needs at y to g h = no_needs g.root.role g.entry.form y to g.mode h
  by_under m.Reach at y to g h = no_reach g.root.role g.entry.form y to g.mode h
  by_under m.Kin at y to g h = absurd (no_root w u m.Kin g.root.role g.entry.form y (λ z n. n) (λ n. n) (λ n. n) g.mode)
  by_under m.Direct at y to g h = absurd (no_root w u m.Direct g.root.role g.entry.form y (λ z n. n) (λ n. n) (λ n. n) g.mode)
  by_under m.Lengths at y to g h = absurd (no_root w u m.Lengths g.root.role g.entry.form y (λ z n. n) (λ n. n) (λ n. n) g.mode)
  by_under m.Whole at y to g h = absurd (no_root w u m.Whole g.root.role g.entry.form y (λ z n. n) (λ n. n) (λ n. n) g.mode)
  by_under m.Aliases at y to g h = absurd (no_root w u m.Aliases g.root.role g.entry.form y (λ z n. n) (λ n. n) (λ n. n) g.mode)
  by_under m.AliasSteps at y to g h = absurd (no_root w u m.AliasSteps g.root.role g.entry.form y (λ z n. n) (λ n. n) (λ n. n) g.mode)
  by_under m.Embeds at y to g h = absurd (no_root w u m.Embeds g.root.role g.entry.form y (λ z n. n) (λ n. n) (λ n. n) g.mode)
  by_under m.Alone at y to g h = absurd (no_root w u m.Alone g.root.role g.entry.form y (λ z n. n) (λ n. n) (λ n. n) g.mode)

  no_kin : (form : Form) (y : Mode) (to : NodeRef) → Among y (joins m.Kin form) → Ends y to → ⊥
  unfolding is_steps
  no_kin f.Alias y to e h = take m.Kin y to refl (only_of m.Kin y e) h
  no_kin f.Other y to e h = take m.Reach y to refl (only_of m.Reach y e) h
  no_kin f.Defined y to n h = n

  no_methods : (form : Form) (y : Mode) (to : NodeRef) → Among y (joins m.Reach form) → Ends y to → ⊥
  unfolding is_steps
  no_methods f.Alias y to e h = take m.Kin y to refl (only_of m.Kin y e) h
  no_methods f.Other y to e h = take m.Reach y to refl (only_of m.Reach y e) h
  no_methods f.Defined y to n h = n

  by_beside : (x : Mode) (at : NodeRef) (y : Mode) (to : NodeRef) → GoesBeside w x at y to → Ends y to → Takes x at
  by_beside m.Reach at y to g h = no_methods g.entry.form y to g.mode h
  by_beside m.Kin at y to g h = no_kin g.entry.form y to g.mode h
  by_beside m.Needs at y to g h = absurd g.mode
  by_beside m.Steps at y to g h = absurd g.mode
  by_beside m.Follow at y to g h = absurd g.mode
  by_beside m.Direct at y to g h = absurd g.mode
  by_beside m.Lengths at y to g h = absurd g.mode
  by_beside m.Whole at y to g h = absurd g.mode
  by_beside m.Aliases at y to g h = absurd g.mode
  by_beside m.AliasSteps at y to g h = absurd g.mode
  by_beside m.Embeds at y to g h = absurd g.mode
  by_beside m.Alone at y to g h = absurd g.mode

  step_by : (s c : Spot) → Goes w s.mode s.at c.mode c.at → Ends c.mode c.at → Takes s.mode s.at
  step_by s c (goes_into g) h = by_into s.mode s.at c.mode c.at g h
  step_by s c (goes_across g) h = by_across s.mode s.at c.mode c.at g h
  step_by s c (goes_under g) h = by_under s.mode s.at c.mode c.at g h
  step_by s c (goes_beside g) h = by_beside s.mode s.at c.mode c.at g h

module _ (w : World) where
  abbrev TakesFirst : Spot → NodeRef → Type 0
  TakesFirst s u = (v : NodeRef) × Takes w v s.mode s.at × ((v ≡ u) ⊎ Leads (StepsTo w) v u)

  onward : (s : Spot) (u : NodeRef) → m.Steps ≡ s.mode → TakesFirst s u → Leads (StepsTo w) s.at u
  onward s u is (v, takes, rest) = from (subst (λ (x : Mode). Takes w v x s.at) (sym is) takes) rest where
    from : StepsTo w s.at v → (v ≡ u) ⊎ Leads (StepsTo w) v u → Leads (StepsTo w) s.at u
    from step (inl same) = ([], subst (λ (x : NodeRef). StepsTo w s.at x) same step)
    from step (inr leads) = (v ∷ leads.0, (step, leads.1))

  first_type : (via : List Spot) (s : Spot) (u : NodeRef) → Path (GoesBy (moves w)) s via (spot m.Steps u) → TakesFirst s u
  first_type [] s u path = (u, step_by w u s (spot m.Steps u) (goes_of w s (spot m.Steps u) path) (inl (refl, refl)), inl refl)
  first_type (c ∷ via) s u path = elim (bool_cases (is_steps c.mode)) [
    | inl is ↦ (let e : m.Steps ≡ c.mode = steps_mode c.mode is in
        (c.at, step_by w c.at s c (goes_of w s c path.0) (inl (e, refl)), inr (onward c u e (first_type via c u path.1))))
    | inr other ↦ (let (v, takes, rest) = first_type via c u path.1 in (v, step_by w v s c (goes_of w s c path.0) (inr (other, takes)), rest))
  ]

  pub turns_steps : (o : NodeRef) → Turns (moves w) o → Leads (StepsTo w) o o
  turns_steps o turns = onward (spot m.Steps o) o refl (first_type turns.0 (spot m.Steps o) o turns.1)

  -- ---- and back

  abbrev Walks : Mode → NodeRef → NodeRef → Type 0
  Walks x at u = Leads (GoesBy (moves w)) (spot x at) (spot m.Steps u)

  last : (x : Mode) (at u : NodeRef) → Goes w x at m.Steps u → Walks x at u
  last x at u g = ([], moves_to w x at m.Steps u g)

  next : (x : Mode) (at : NodeRef) (y : Mode) (to u : NodeRef) → Goes w x at y to → Walks y to u → Walks x at u
  next x at y to u g walks = (spot y to ∷ walks.0, (moves_to w x at y to g, walks.1))

  alias_down : {at n : NodeRef} (u : NodeRef) → Within w at n → Walks m.AliasSteps n u → Walks m.AliasSteps at u
  alias_down u (itself e) walks = subst (λ (v : NodeRef). Walks m.AliasSteps v u) (sym e) walks
  alias_down u (deeper {a} {b} p lies) walks = next m.AliasSteps a m.AliasSteps b u (goes_into (record { part = p; mode = inl refl })) (alias_down u lies walks)

  still_embeds : (b : Bool) → Among m.Embeds (if b then m.Alone ∷ m.Embeds ∷ [] else m.Embeds ∷ [])
  still_embeds true = inr (inl refl)
  still_embeds false = inl refl

  embeds_down : {at n : NodeRef} (u : NodeRef) → Within w at n → Walks m.Embeds n u → Walks m.Embeds at u
  embeds_down u (itself e) walks = subst (λ (v : NodeRef). Walks m.Embeds v u) (sym e) walks
  embeds_down u (deeper {a} {b} p lies) walks =
      next m.Embeds a m.Embeds b u (goes_into (record { part = p; mode = still_embeds (is_interface p.node.kind && is_name p.inner.kind) })) (embeds_down u lies walks)

  alone_walks : {at u : NodeRef} → NamesAlone w at u → Walks m.Alone at u
  alone_walks (names {at} {u} mention is) = last m.Alone at u (across_to w m.Alone m.Steps at u f.Defined mention is (inl refl))
  alone_walks (follows {at} {a} {to} {u} mention alias root rest) = next m.Alone at m.Follow a u (across_to w m.Alone m.Follow at a f.Alias mention alias (inl refl))
      (next m.Follow a m.Alone to u (under_root w m.Follow m.Alone a to r.Typing f.Alias alias root (inl refl)) (alone_walks rest))
  alone_walks (in_parens {at} {part} {u} p paren rest) = next m.Alone at m.Alone part u (goes_into (record { part = p; mode = among_chosen (is_paren p.node.kind) m.Alone paren })) (alone_walks rest)

  both_embed : (a b : Bool) → a ≡ true → b ≡ true → Among m.Alone (if a && b then m.Alone ∷ m.Embeds ∷ [] else m.Embeds ∷ [])
  both_embed true true e h = inl refl
  both_embed true false e h = absurd (cc)
  both_embed false b e h = absurd (cc)

  embeds_walk : (at u : NodeRef) → Embeds w at u → Walks m.Embeds at u
  embeds_walk at u (i, n, lies, p, interface, name, alone) = embeds_down u lies
      (next m.Embeds i m.Alone n u (goes_into (record { part = p; mode = both_embed (is_interface p.node.kind) (is_name p.inner.kind) interface name })) (alone_walks alone))

  aliases_walk : (at u : NodeRef) → Mentions w at u → Is w u f.Alias → Walks m.AliasSteps at u
  aliases_walk at u (n, lies, mention) is = alias_down u lies (last m.AliasSteps n u (across_to w m.AliasSteps m.Steps n u f.Alias mention is (inl refl)))

  step_walks : (t u : NodeRef) → StepsTo w t u → Walks m.Steps t u
  step_walks t u (to_alias at (inl alias) root mentions is) = next m.Steps t m.AliasSteps at u (under_root w m.Steps m.AliasSteps t at r.Typing f.Alias alias root (inl refl)) (aliases_walk at u mentions is)
  step_walks t u (to_alias at (inr defined) root mentions is) = next m.Steps t m.AliasSteps at u (under_root w m.Steps m.AliasSteps t at r.Typing f.Defined defined root (inl refl)) (aliases_walk at u mentions is)
  step_walks t u (to_embedded at (inl alias) root embeds) = next m.Steps t m.Embeds at u (under_root w m.Steps m.Embeds t at r.Typing f.Alias alias root (inr (inl refl))) (embeds_walk at u embeds)
  step_walks t u (to_embedded at (inr defined) root embeds) = next m.Steps t m.Embeds at u (under_root w m.Steps m.Embeds t at r.Typing f.Defined defined root (inr (inl refl))) (embeds_walk at u embeds)
  step_walks t u (to_named at defined root alone) = next m.Steps t m.Alone at u (under_root w m.Steps m.Alone t at r.Typing f.Defined defined root (inr (inr (inl refl)))) (alone_walks alone)

  steps_walk : (via : List NodeRef) (t u : NodeRef) → Path (StepsTo w) t via u → Walks m.Steps t u
  steps_walk [] t u path = step_walks t u path
  steps_walk (c ∷ via) t u path = leads_join (GoesBy (moves w)) (spot m.Steps t) (spot m.Steps c) (spot m.Steps u) (step_walks t c path.0) (steps_walk via c u path.1)

  pub steps_turn : (o : NodeRef) → Leads (StepsTo w) o o → Turns (moves w) o
  steps_turn o leads = steps_walk leads.0 o o leads.1
