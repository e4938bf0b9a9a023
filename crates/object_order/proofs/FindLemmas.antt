-- What the search finds from a spot is what the four cases say of it.
use Rattle.std.proofs.Common.{◌≡◌, ◌⊎◌, ◌&&◌, Bool, true, false, if◌then◌else◌, List, [], ◌∷◌, refl, sym, ap, ◌∙◌, subst, inl, inr}
use Rattle.std.specs.Prelude.{◌==◌}
use Rattle.go_tree.specs.Spells.{Among}
use Rattle.go_tree.specs.declared.tree.NodeKind.{NodeKind}
use Rattle.go_tree.specs.declared.tree.NodeRef.{NodeRef}
use Rattle.object_order.specs.declared.spot.Mode.{Mode}
use Rattle.object_order.specs.declared.spot.Mode.TheVariants as m
use Rattle.object_order.specs.declared.spot.Form.{Form}
use Rattle.object_order.specs.declared.spot.Form.TheVariants as f
use Rattle.object_order.specs.declared.spot.Role.{Role}
use Rattle.object_order.specs.declared.spot.Role.TheVariants as r
use Rattle.object_order.specs.declared.spot.Spot.{Spot}
use Rattle.object_order.specs.Paths.{Path}
use Rattle.object_order.specs.Spots.{World, spot, is_array, is_interface, is_name, is_paren, is_plain, below, crosses, types, besides, restings, enters, joins, first_part, moves}
use Rattle.object_order.specs.Orders.{GoesBy, is_needs, ArePassed, Arrives}
use Rattle.object_order.specs.Cases.{IsPart, Within, itself, deeper, Plainly, at_once, under_plain, IsMention, Mentions, MentionsDirectly, Is, IsRoot, HasMention, IsLength, RestsOn, IsMethodOf, own, by_name, Reaches, ReachedFrom, there, on, NeedsOf, by_type, by_alias, by_expression}
use Rattle.object_order.proofs.GoLemmas.{GoesInto, GoesAcross, GoesUnder, GoesBeside, Goes, goes_into, goes_across, goes_under, goes_beside, goes_of}

-- ---- rows of modes

pub needs_only : (y : Mode) → m.Needs ≡ y → is_needs y ≡ false → ⊥
needs_only y e other = apart (ap is_needs e ∙ other) where
  apart : true ≡ false → ⊥
  apart p = cc

pub chosen : (b : Bool) (x y : Mode) → Among y (if b then x ∷ [] else []) → (b ≡ true) × (x ≡ y)
chosen true x y (inl e) = (refl, e)
chosen true x y (inr h) = absurd h
chosen false x y h = absurd h

pub either_of : (b : Bool) (x z y : Mode) → Among y (if b then x ∷ [] else z ∷ []) → ((b ≡ true) × (x ≡ y)) ⊎ (z ≡ y)
either_of true x z y (inl e) = inl (refl, e)
either_of true x z y (inr h) = absurd h
either_of false x z y (inl e) = inr e
either_of false x z y (inr h) = absurd h

pub both_of : (a b : Bool) → (a && b) ≡ true → (a ≡ true) × (b ≡ true)
both_of true b e = (refl, e)
both_of false b e = absurd (cc)

pub only_of : (x y : Mode) → Among y (x ∷ []) → x ≡ y
only_of x y (inl e) = e
only_of x y (inr h) = absurd h

module _ (w : World) (u : NodeRef) where
  -- what the search finds from a spot
  abbrev pub Finds : Mode → NodeRef → Type 0
  Finds m.Needs at = NeedsOf w at u
  Finds m.Reach at = (v : NodeRef) × Reaches w at v × ReachedFrom w v u
  Finds m.Kin at = (k : NodeRef) × (v : NodeRef) × IsMethodOf w at k × HasMention w k v × ReachedFrom w v u
  Finds m.Direct at = MentionsDirectly w at u
  Finds m.Lengths at = (a : NodeRef) × (e : NodeRef) × (v : NodeRef) × Within w at a × IsLength w a e × Mentions w e v × ReachedFrom w v u
  Finds m.Whole at = (v : NodeRef) × Mentions w at v × ReachedFrom w v u
  Finds m.Aliases at = Mentions w at u × Is w u f.Alias
  Finds m.Steps at = ⊥
  Finds m.Follow at = ⊥
  Finds m.AliasSteps at = ⊥
  Finds m.Embeds at = ⊥
  Finds m.Alone at = ⊥

  -- it is the object, or goes on to it
  abbrev pub Hits : Mode → NodeRef → Type 0
  Hits y to = ((m.Needs ≡ y) × (to ≡ u)) ⊎ ((is_needs y ≡ false) × Finds y to)

  -- a hit at a spot of a known mode that isn't an object's
  hit : (x y : Mode) (to : NodeRef) → is_needs x ≡ false → x ≡ y → Hits y to → Finds x to
  hit x y to other e (inl (is, same)) = absurd (needs_only y is (ap is_needs (sym e) ∙ other))
  hit x y to other e (inr (other_mode, finds)) = subst (λ (v : Mode). Finds v to) (sym e) finds

  hit_object : (y : Mode) (to : NodeRef) → m.Needs ≡ y → Hits y to → to ≡ u
  hit_object y to e (inl (is, same)) = same
  hit_object y to e (inr (other_mode, finds)) = absurd (needs_only y e other_mode)

  by_into : (x : Mode) (at : NodeRef) (y : Mode) (to : NodeRef) → GoesInto w x at y to → Hits y to → Finds x at
  by_into m.Direct at y to g h =
      let (plain, is) = chosen (is_plain g.part.node.kind) m.Direct y g.mode in
      let (n, lies, mention) = hit m.Direct y to refl is h in
      (n, under_plain g.part plain lies, mention)
  by_into m.Lengths at y to g h = elim (either_of (is_array g.part.node.kind && (to.node == first_part g.part.node)) m.Whole m.Lengths y g.mode) [
    | inl (counts, is) ↦ (let (array, first) = both_of (is_array g.part.node.kind) (to.node == first_part g.part.node) counts in
        let (v, mentions, reached) = hit m.Whole y to refl is h in
        (at, to, v, itself refl, (g.part, array, first), mentions, reached))
    | inr is ↦ (let (a, e, v, lies, length_is, mentions, reached) = hit m.Lengths y to refl is h in
        (a, e, v, deeper g.part lies, length_is, mentions, reached))
  ]
  by_into m.Whole at y to g h =
      let (v, mentions, reached) = hit m.Whole y to refl (only_of m.Whole y g.mode) h in
      (v, (mentions.0, deeper g.part mentions.1, mentions.2), reached)
  by_into m.Aliases at y to g h =
      let (mentions, alias) = hit m.Aliases y to refl (only_of m.Aliases y g.mode) h in
      ((mentions.0, deeper g.part mentions.1, mentions.2), alias)
  by_into m.AliasSteps at y to g h = hit m.AliasSteps y to refl (only_of m.AliasSteps y g.mode) h
  by_into m.Embeds at y to g h = no_embeds (is_interface g.part.node.kind && is_name g.part.inner.kind) g.mode where
    no_embeds : (b : Bool) → Among y (if b then m.Alone ∷ m.Embeds ∷ [] else m.Embeds ∷ []) → ⊥
    no_embeds true (inl e) = hit m.Alone y to refl e h
    no_embeds true (inr e) = hit m.Embeds y to refl (only_of m.Embeds y e) h
    no_embeds false e = hit m.Embeds y to refl (only_of m.Embeds y e) h
  by_into m.Alone at y to g h = hit m.Alone y to refl (chosen (is_paren g.part.node.kind) m.Alone y g.mode).1 h
  by_into m.Needs at y to g h = absurd g.mode
  by_into m.Reach at y to g h = absurd g.mode
  by_into m.Kin at y to g h = absurd g.mode
  by_into m.Steps at y to g h = absurd g.mode
  by_into m.Follow at y to g h = absurd g.mode

  -- the mention of what is found
  moved : (at to : NodeRef) → IsMention w at to → to ≡ u → IsMention w at u
  moved at to mention same = subst (λ (v : NodeRef). IsMention w at v) same mention

  across_alias : (form : Form) (at : NodeRef) (y : Mode) (to : NodeRef) → (mention : IsMention w at to) → mention.entry.form ≡ form → Among y (crosses m.Aliases form) → Hits y to → Finds m.Aliases at
  across_alias f.Alias at y to mention form_is (inl e) h =
      let same = hit_object y to e h in
      ((at, itself refl, moved at to mention same), subst (λ (v : NodeRef). Is w v f.Alias) same (mention.entry, mention.declared, form_is))
  across_alias f.Alias at y to mention form_is (inr n) h = absurd n
  across_alias f.Defined at y to mention form_is n h = absurd n
  across_alias f.Other at y to mention form_is n h = absurd n

  across_steps : (form : Form) (y : Mode) (to : NodeRef) → Among y (crosses m.AliasSteps form) → Hits y to → ⊥
  across_steps f.Alias y to (inl e) h = hit m.Steps y to refl e h
  across_steps f.Alias y to (inr n) h = n
  across_steps f.Defined y to n h = n
  across_steps f.Other y to n h = n

  across_alone : (form : Form) (y : Mode) (to : NodeRef) → Among y (crosses m.Alone form) → Hits y to → ⊥
  across_alone f.Alias y to (inl e) h = hit m.Follow y to refl e h
  across_alone f.Alias y to (inr n) h = n
  across_alone f.Defined y to (inl e) h = hit m.Steps y to refl e h
  across_alone f.Defined y to (inr n) h = n
  across_alone f.Other y to n h = n

  across_whole : (at : NodeRef) (y : Mode) (to : NodeRef) → IsMention w at to → Among y (m.Needs ∷ m.Reach ∷ []) → Hits y to → Finds m.Whole at
  across_whole at y to mention (inl e) h = (to, (at, itself refl, mention), there (hit_object y to e h))
  across_whole at y to mention (inr e) h = let (v, reaches, reached) = hit m.Reach y to refl (only_of m.Reach y e) h in (to, (at, itself refl, mention), on reaches reached)

  by_across : (x : Mode) (at : NodeRef) (y : Mode) (to : NodeRef) → GoesAcross w x at y to → Hits y to → Finds x at
  by_across m.Direct at y to g h = (at, at_once refl, moved at to g.mention (hit_object y to (only_of m.Needs y g.mode) h))
  by_across m.Whole at y to g h = across_whole at y to g.mention g.mode h
  by_across m.Aliases at y to g h = across_alias g.mention.entry.form at y to g.mention refl g.mode h
  by_across m.AliasSteps at y to g h = across_steps g.mention.entry.form y to g.mode h
  by_across m.Alone at y to g h = across_alone g.mention.entry.form y to g.mode h
  by_across m.Needs at y to g h = absurd g.mode
  by_across m.Reach at y to g h = absurd g.mode
  by_across m.Kin at y to g h = absurd g.mode
  by_across m.Steps at y to g h = absurd g.mode
  by_across m.Follow at y to g h = absurd g.mode
  by_across m.Lengths at y to g h = absurd g.mode
  by_across m.Embeds at y to g h = absurd g.mode

  pub root_of : (x : Mode) (at : NodeRef) (y : Mode) (to : NodeRef) (role : Role) → (g : GoesUnder w x at y to) → g.root.role ≡ role → IsRoot w at role to
  root_of x at y to role g is = record { entry = g.entry; declared = g.declared; root = g.root; among = g.among; role_is = is; at_is = g.at_is }

  rests_length : (at to : NodeRef) (role : Role) → IsRoot w at role to → Finds m.Lengths to → NeedsOf w at u
  rests_length at to role root (a, e, v, lies, length_is, mentions, reached) = by_expression e v (inr (role, to, a, root, lies, length_is)) mentions reached

  needs_type : (form : Form) (at : NodeRef) (y : Mode) (to : NodeRef) → Is w at form → IsRoot w at r.Typing to → Among y (types m.Needs form) → Hits y to → NeedsOf w at u
  needs_type form at y to is root modes h = by_form form is modes where
    plain_type : Among y (m.Direct ∷ m.Lengths ∷ []) → NeedsOf w at u
    plain_type (inl e) = by_type to root (hit m.Direct y to refl e h)
    plain_type (inr e) = rests_length at to r.Typing root (hit m.Lengths y to refl (only_of m.Lengths y e) h)

    by_form : (v : Form) → Is w at v → Among y (types m.Needs v) → NeedsOf w at u
    by_form f.Alias alias (inl e) = plain_type (inl e)
    by_form f.Alias alias (inr (inl e)) = plain_type (inr (inl e))
    by_form f.Alias alias (inr (inr e)) = let (mentions, is_alias) = hit m.Aliases y to refl (only_of m.Aliases y e) h in by_alias to alias root mentions is_alias
    by_form f.Defined defined e = plain_type e
    by_form f.Other other e = plain_type e

  needs_root : (role : Role) (form : Form) (at : NodeRef) (y : Mode) (to : NodeRef) → Is w at form → IsRoot w at role to → Among y (enters m.Needs form role) → Hits y to → NeedsOf w at u
  needs_root r.Typing form at y to is root modes h = needs_type form at y to is root modes h
  needs_root r.Beside form at y to is root modes h = rests_length at to r.Beside root (hit m.Lengths y to refl (only_of m.Lengths y modes) h)
  needs_root r.Resting form at y to is root modes h =
      let (v, mentions, reached) = hit m.Whole y to refl (only_of m.Whole y modes) h in by_expression to v (inl root) mentions reached

  reach_root : (role : Role) (form : Form) (at : NodeRef) (y : Mode) (to : NodeRef) → IsRoot w at role to → Among y (enters m.Reach form role) → Hits y to → Finds m.Reach at
  reach_root role form at y to root modes h = let (v, mentions, reached) = hit m.Whole y to refl (whole role modes) h in (v, inl (role, to, root, mentions), reached) where
    whole : (z : Role) → Among y (enters m.Reach form z) → m.Whole ≡ y
    whole r.Typing e = only_of m.Whole y e
    whole r.Beside e = only_of m.Whole y e
    whole r.Resting e = only_of m.Whole y e

  steps_type : (form : Form) (y : Mode) (to : NodeRef) → Among y (types m.Steps form) → Hits y to → ⊥
  steps_type f.Alias y to (inl e) h = hit m.AliasSteps y to refl e h
  steps_type f.Alias y to (inr e) h = hit m.Embeds y to refl (only_of m.Embeds y e) h
  steps_type f.Defined y to (inl e) h = hit m.AliasSteps y to refl e h
  steps_type f.Defined y to (inr (inl e)) h = hit m.Embeds y to refl e h
  steps_type f.Defined y to (inr (inr e)) h = hit m.Alone y to refl (only_of m.Alone y e) h
  steps_type f.Other y to n h = n

  steps_root : (role : Role) (form : Form) (y : Mode) (to : NodeRef) → Among y (enters m.Steps form role) → Hits y to → ⊥
  steps_root r.Typing form y to modes h = steps_type form y to modes h
  steps_root r.Beside form y to n h = n
  steps_root r.Resting form y to n h = n

  follow_type : (form : Form) (y : Mode) (to : NodeRef) → Among y (types m.Follow form) → Hits y to → ⊥
  follow_type f.Alias y to e h = hit m.Alone y to refl (only_of m.Alone y e) h
  follow_type f.Defined y to n h = n
  follow_type f.Other y to n h = n

  follow_root : (role : Role) (form : Form) (y : Mode) (to : NodeRef) → Among y (enters m.Follow form role) → Hits y to → ⊥
  follow_root r.Typing form y to modes h = follow_type form y to modes h
  follow_root r.Beside form y to n h = n
  follow_root r.Resting form y to n h = n

  -- the other modes look into no declaration
  pub no_root : (x : Mode) (role : Role) (form : Form) (y : Mode) → ((z : Form) → Among y (types x z) → ⊥) → (Among y (besides x) → ⊥) → (Among y (restings x) → ⊥) → Among y (enters x form role) → ⊥
  no_root x r.Typing form y a b c h = a form h
  no_root x r.Beside form y a b c h = b h
  no_root x r.Resting form y a b c h = c h

  by_under : (x : Mode) (at : NodeRef) (y : Mode) (to : NodeRef) → GoesUnder w x at y to → Hits y to → Finds x at
  by_under m.Needs at y to g h = needs_root g.root.role g.entry.form at y to (g.entry, g.declared, refl) (root_of m.Needs at y to g.root.role g refl) g.mode h
  by_under m.Reach at y to g h = reach_root g.root.role g.entry.form at y to (root_of m.Reach at y to g.root.role g refl) g.mode h
  by_under m.Steps at y to g h = steps_root g.root.role g.entry.form y to g.mode h
  by_under m.Follow at y to g h = follow_root g.root.role g.entry.form y to g.mode h
  by_under m.Kin at y to g h = absurd (no_root m.Kin g.root.role g.entry.form y (λ z n. n) (λ n. n) (λ n. n) g.mode)
  by_under m.Direct at y to g h = absurd (no_root m.Direct g.root.role g.entry.form y (λ z n. n) (λ n. n) (λ n. n) g.mode)
  by_under m.Lengths at y to g h = absurd (no_root m.Lengths g.root.role g.entry.form y (λ z n. n) (λ n. n) (λ n. n) g.mode)
  by_under m.Whole at y to g h = absurd (no_root m.Whole g.root.role g.entry.form y (λ z n. n) (λ n. n) (λ n. n) g.mode)
  by_under m.Aliases at y to g h = absurd (no_root m.Aliases g.root.role g.entry.form y (λ z n. n) (λ n. n) (λ n. n) g.mode)
  by_under m.AliasSteps at y to g h = absurd (no_root m.AliasSteps g.root.role g.entry.form y (λ z n. n) (λ n. n) (λ n. n) g.mode)
  by_under m.Embeds at y to g h = absurd (no_root m.Embeds g.root.role g.entry.form y (λ z n. n) (λ n. n) (λ n. n) g.mode)
  by_under m.Alone at y to g h = absurd (no_root m.Alone g.root.role g.entry.form y (λ z n. n) (λ n. n) (λ n. n) g.mode)

  -- what a method reaches, its type does
  of_method : (at k : NodeRef) → Among k (w.kin at) → Is w k f.Other → Finds m.Reach k → Finds m.Kin at
  of_method at k kin is (v, inl has, reached) = (k, v, own kin is, has, reached)
  of_method at k kin is (v, inr (j, method, has), reached) = (j, v, by_name f.Other kin is (λ e. cc) method, has, reached)

  of_name : (at a : NodeRef) → Among a (w.kin at) → Is w a f.Alias → Finds m.Kin a → Finds m.Kin at
  of_name at a kin is (k, v, method, has, reached) = (k, v, by_name f.Alias kin is (λ e. cc) method, has, reached)

  kin_reach : (at : NodeRef) → Finds m.Kin at → Finds m.Reach at
  kin_reach at (k, v, method, has, reached) = (v, inr (k, method, has), reached)

  of_kin : (form : Form) (at : NodeRef) (y : Mode) (to : NodeRef) → Among to (w.kin at) → Is w to form → Among y (joins m.Kin form) → Hits y to → Finds m.Kin at
  of_kin f.Alias at y to kin is e h = of_name at to kin is (hit m.Kin y to refl (only_of m.Kin y e) h)
  of_kin f.Other at y to kin is e h = of_method at to kin is (hit m.Reach y to refl (only_of m.Reach y e) h)
  of_kin f.Defined at y to kin is n h = absurd n

  joins_alike : (form : Form) (y : Mode) → Among y (joins m.Reach form) → Among y (joins m.Kin form)
  joins_alike f.Alias y e = e
  joins_alike f.Other y e = e
  joins_alike f.Defined y n = n

  by_beside : (x : Mode) (at : NodeRef) (y : Mode) (to : NodeRef) → GoesBeside w x at y to → Hits y to → Finds x at
  by_beside m.Reach at y to g h = kin_reach at (of_kin g.entry.form at y to g.kin (g.entry, g.declared, refl) (joins_alike g.entry.form y g.mode) h)
  by_beside m.Kin at y to g h = of_kin g.entry.form at y to g.kin (g.entry, g.declared, refl) g.mode h
  by_beside m.Needs at y to g h = absurd g.mode
  by_beside m.Steps at y to g h = absurd g.mode
  by_beside m.Follow at y to g h = absurd g.mode
  by_beside m.Direct at y to g h = absurd g.mode
  by_beside m.Lengths at y to g h = absurd g.mode
  by_beside m.Whole at y to g h = absurd g.mode
  by_beside m.Aliases at y to g h = absurd g.mode
  by_beside m.AliasSteps at y to g h = absurd g.mode
  by_beside m.Embeds at y to g h = absurd g.mode
  by_beside m.Alone at y to g h = absurd g.mode

  by_move : (s c : Spot) → Goes w s.mode s.at c.mode c.at → Hits c.mode c.at → Finds s.mode s.at
  by_move s c (goes_into g) h = by_into s.mode s.at c.mode c.at g h
  by_move s c (goes_across g) h = by_across s.mode s.at c.mode c.at g h
  by_move s c (goes_under g) h = by_under s.mode s.at c.mode c.at g h
  by_move s c (goes_beside g) h = by_beside s.mode s.at c.mode c.at g h

  found_by : (via : List Spot) (s : Spot) → ArePassed via → Path (GoesBy (moves w)) s via (spot m.Needs u) → Finds s.mode s.at
  found_by [] s past path = by_move s (spot m.Needs u) (goes_of w s (spot m.Needs u) path) (inl (refl, refl))
  found_by (c ∷ via) s past path = by_move s c (goes_of w s c path.0) (inr (past.0, found_by via c past.1 path.1))

  -- what the search arrives at from an object is needed
  pub arrives_needs : (o : NodeRef) → Arrives (moves w) (spot m.Needs o) u → NeedsOf w o u
  arrives_needs o (via, past, path) = found_by via (spot m.Needs o) past path
