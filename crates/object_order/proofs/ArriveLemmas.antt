-- What the four cases say that an object needs, the search arrives at.
use Rattle.std.proofs.Common.{◌≡◌, ◌⊎◌, ◌&&◌, Bool, true, false, if◌then◌else◌, List, [], ◌∷◌, refl, sym, ap, ◌∙◌, subst, inl, inr}
use Rattle.std.specs.Prelude.{◌==◌}
use Rattle.go_tree.specs.Spells.{Among}
use Rattle.go_tree.specs.declared.tree.NodeKind.{NodeKind}
use Rattle.go_tree.specs.declared.tree.NodeRef.{NodeRef}
use Rattle.object_order.specs.declared.spot.Mode.{Mode}
use Rattle.object_order.specs.declared.spot.Mode.TheVariants as m
use Rattle.object_order.specs.declared.spot.Form.{Form}
use Rattle.object_order.specs.declared.spot.Form.TheVariants as f
use Rattle.object_order.specs.declared.spot.Role.{Role}
use Rattle.object_order.specs.declared.spot.Role.TheVariants as r
use Rattle.object_order.specs.declared.spot.Spot.{Spot}
use Rattle.object_order.specs.Paths.{Path}
use Rattle.object_order.specs.Spots.{World, place, spot, is_array, is_plain, below, crosses, types, enters, joins, first_part, moves}
use Rattle.object_order.specs.Orders.{GoesBy, is_needs, ArePassed, Arrives}
use Rattle.object_order.specs.Cases.{IsPart, Within, itself, deeper, Plainly, at_once, under_plain, IsMention, Mentions, MentionsDirectly, Is, IsRoot, HasMention, IsLength, RestsOn, IsMethodOf, own, by_name, Reaches, ReachedFrom, there, on}
use Rattle.object_order.proofs.GoLemmas.{GoesInto, GoesAcross, GoesUnder, GoesBeside, Goes, goes_into, goes_across, goes_under, goes_beside, moves_to}
use Rattle.gv_base.proofs.Lists.{same_some}

pub among_chosen : (b : Bool) (x : Mode) → b ≡ true → Among x (if b then x ∷ [] else [])
among_chosen true x e = inl refl
among_chosen false x e = absurd (cc)

among_one : (b : Bool) (x z : Mode) → b ≡ true → Among x (if b then x ∷ [] else z ∷ [])
among_one true x z e = inl refl
among_one false x z e = absurd (cc)

among_other : (b : Bool) (x z : Mode) → b ≡ false → Among z (if b then x ∷ [] else z ∷ [])
among_other true x z e = absurd (cc)
among_other false x z e = inl refl

both_are : (a b : Bool) → a ≡ true → b ≡ true → (a && b) ≡ true
both_are true b e h = h
both_are false b e h = absurd (cc)

both_were : (a b : Bool) → (a && b) ≡ true → (a ≡ true) × (b ≡ true)
both_were true b e = (refl, e)
both_were false b e = absurd (cc)

cases_of : (b : Bool) → (b ≡ true) ⊎ (b ≡ false)
cases_of true = inl refl
cases_of false = inr refl

pub within_join : (w : World) {a b c : NodeRef} → Within w a b → Within w b c → Within w a c
within_join w {c = c} (itself e) rest = subst (λ (x : NodeRef). Within w x c) (sym e) rest
within_join w (deeper p lies) rest = deeper p (within_join w lies rest)

-- the root, seen as where the search goes on
pub under_root : (w : World) (x y : Mode) (o at : NodeRef) (role : Role) (form : Form) → Is w o form → IsRoot w o role at → Among y (enters x form role) → Goes w x o y at
under_root w x y o at role form is root modes = goes_under (record {
  entry = root.entry;
  declared = root.declared;
  root = root.root;
  among = root.among;
  at_is = root.at_is;
  mode = subst (λ (v : Role). Among y (enters x root.entry.form v)) (sym root.role_is) (subst (λ (v : Form). Among y (enters x v role)) form_is modes);
}) where
  form_is : form ≡ root.entry.form
  form_is = sym is.2 ∙ ap (λ (e : _). e.form) (same_some (w.entry o) is.0 root.entry is.1 root.declared)

pub across_to : (w : World) (x y : Mode) (at to : NodeRef) (form : Form) → IsMention w at to → Is w to form → Among y (crosses x form) → Goes w x at y to
across_to w x y at to form mention is modes = goes_across (record {
  mention = mention;
  mode = subst (λ (v : Form). Among y (crosses x v)) form_is modes;
}) where
  form_is : form ≡ mention.entry.form
  form_is = sym is.2 ∙ ap (λ (e : _). e.form) (same_some (w.entry to) is.0 mention.entry is.1 mention.declared)

pub any_form : (w : World) (o : NodeRef) (role : Role) (at : NodeRef) → (root : IsRoot w o role at) → Is w o root.entry.form
any_form w o role at root = (root.entry, root.declared, refl)

module _ (w : World) (u : NodeRef) where
  -- the search arrives at the object
  abbrev pub Comes : Mode → NodeRef → Type 0
  Comes x at = Arrives (moves w) (spot x at) u

  pub now : (x : Mode) (at : NodeRef) → Goes w x at m.Needs u → Comes x at
  now x at g = ([], tt, moves_to w x at m.Needs u g)

  pub next : (x : Mode) (at : NodeRef) (y : Mode) (to : NodeRef) → is_needs y ≡ false → Goes w x at y to → Comes y to → Comes x at
  next x at y to other g (via, past, path) = (spot y to ∷ via, (other, past), (moves_to w x at y to g, path))

  whole_down : {at n : NodeRef} → Within w at n → Comes m.Whole n → Comes m.Whole at
  whole_down (itself e) comes = subst (λ (v : NodeRef). Comes m.Whole v) (sym e) comes
  whole_down (deeper {a} {b} p lies) comes = next m.Whole a m.Whole b refl (goes_into (record { part = p; mode = inl refl })) (whole_down lies comes)

  aliases_down : {at n : NodeRef} → Within w at n → Comes m.Aliases n → Comes m.Aliases at
  aliases_down (itself e) comes = subst (λ (v : NodeRef). Comes m.Aliases v) (sym e) comes
  aliases_down (deeper {a} {b} p lies) comes = next m.Aliases a m.Aliases b refl (goes_into (record { part = p; mode = inl refl })) (aliases_down lies comes)

  direct_down : {at n : NodeRef} → Plainly w at n → Comes m.Direct n → Comes m.Direct at
  direct_down (at_once e) comes = subst (λ (v : NodeRef). Comes m.Direct v) (sym e) comes
  direct_down (under_plain {a} {b} p plain lies) comes =
      next m.Direct a m.Direct b refl (goes_into (record { part = p; mode = among_chosen (is_plain p.node.kind) m.Direct plain })) (direct_down lies comes)

  -- from a declaration of which some node is looked into whole
  reach_root : (o at : NodeRef) (role : Role) → IsRoot w o role at → Comes m.Whole at → Comes m.Reach o
  reach_root o at role root comes = next m.Reach o m.Whole at refl (under_root w m.Reach m.Whole o at role root.entry.form (any_form w o role at root) root (whole role)) comes where
    whole : (z : Role) → Among m.Whole (enters m.Reach root.entry.form z)
    whole r.Typing = inl refl
    whole r.Beside = inl refl
    whole r.Resting = inl refl

  -- from a type to its methods
  by_method : {o k : NodeRef} → IsMethodOf w o k → Comes m.Reach k → Comes m.Reach o × Comes m.Kin o
  by_method {o = o} {k = k} (own among is) comes = (
    next m.Reach o m.Reach k refl (goes_beside (record { entry = is.0; kin = among; declared = is.1; mode = subst (λ (v : Form). Among m.Reach (joins m.Reach v)) (sym is.2) (inl refl) })) comes,
    next m.Kin o m.Reach k refl (goes_beside (record { entry = is.0; kin = among; declared = is.1; mode = subst (λ (v : Form). Among m.Reach (joins m.Kin v)) (sym is.2) (inl refl) })) comes,
  )
  by_method {o = o} (by_name {a = a} form among is not_defined rest) comes = by_form form is not_defined (by_method rest comes) where
    by_form : (v : Form) → Is w a v → (v ≡ f.Defined → ⊥) → Comes m.Reach a × Comes m.Kin a → Comes m.Reach o × Comes m.Kin o
    by_form f.Alias alias not both = (
      next m.Reach o m.Kin a refl (goes_beside (record { entry = alias.0; kin = among; declared = alias.1; mode = subst (λ (v : Form). Among m.Kin (joins m.Reach v)) (sym alias.2) (inl refl) })) both.1,
      next m.Kin o m.Kin a refl (goes_beside (record { entry = alias.0; kin = among; declared = alias.1; mode = subst (λ (v : Form). Among m.Kin (joins m.Kin v)) (sym alias.2) (inl refl) })) both.1,
    )
    by_form f.Other other not both = (
      next m.Reach o m.Reach a refl (goes_beside (record { entry = other.0; kin = among; declared = other.1; mode = subst (λ (v : Form). Among m.Reach (joins m.Reach v)) (sym other.2) (inl refl) })) both.0,
      next m.Kin o m.Reach a refl (goes_beside (record { entry = other.0; kin = among; declared = other.1; mode = subst (λ (v : Form). Among m.Reach (joins m.Kin v)) (sym other.2) (inl refl) })) both.0,
    )
    by_form f.Defined defined not both = absurd (not refl)

  reaching : (o v : NodeRef) → Reaches w o v → ((n : NodeRef) → IsMention w n v → Comes m.Whole n) → Comes m.Reach o
  reaching o v (inl (role, at, root, (n, lies, mention))) seen = reach_root o at role root (whole_down lies (seen n mention))
  reaching o v (inr (k, method, (role, at, root, (n, lies, mention)))) seen = (by_method method (reach_root k at role root (whole_down lies (seen n mention)))).0

  seen_from : {v : NodeRef} → ReachedFrom w v u → (n : NodeRef) → IsMention w n v → Comes m.Whole n
  seen_from (there e) n mention = now m.Whole n (subst (λ (x : NodeRef). Goes w m.Whole n m.Needs x) e
      (goes_across (record { mention = mention; mode = inl refl })))
  seen_from (on {o} {v} reaches rest) n mention = next m.Whole n m.Reach o refl (goes_across (record { mention = mention; mode = inr (inl refl) }))
      (reaching o v reaches (λ k said. seen_from rest k said))

  pub whole_comes : (at v : NodeRef) → Mentions w at v → ReachedFrom w v u → Comes m.Whole at
  whole_comes at v (n, lies, mention) reached = whole_down lies (seen_from reached n mention)

  pub lengths_come : {at a : NodeRef} (e v : NodeRef) → Within w at a → IsLength w a e → Mentions w e v → ReachedFrom w v u → Comes m.Lengths at
  lengths_come {a = a} e v (itself same) (p, array, first) mentions reached = subst (λ (x : NodeRef). Comes m.Lengths x) (sym same)
      (next m.Lengths a m.Whole e refl (goes_into (record { part = p; mode = among_one (is_array p.node.kind && (e.node == first_part p.node)) m.Whole m.Lengths (both_are (is_array p.node.kind) (e.node == first_part p.node) array first) }))
      (whole_comes e v mentions reached))
  lengths_come e v (deeper {a} {b} {c} p lies) length_is mentions reached = elim (cases_of (is_array p.node.kind && (b.node == first_part p.node))) [
    | inl counts ↦ next m.Lengths a m.Whole b refl (goes_into (record { part = p; mode = among_one (is_array p.node.kind && (b.node == first_part p.node)) m.Whole m.Lengths counts }))
        (whole_comes b v (mentions.0, within_join w lies (deeper length_is.0 mentions.1), mentions.2) reached)
    | inr other ↦ next m.Lengths a m.Lengths b refl (goes_into (record { part = p; mode = among_other (is_array p.node.kind && (b.node == first_part p.node)) m.Whole m.Lengths other }))
        (lengths_come e v lies length_is mentions reached)
  ]

  pub by_type_comes : (o at : NodeRef) → IsRoot w o r.Typing at → MentionsDirectly w at u → Comes m.Needs o
  by_type_comes o at root (n, lies, mention) = next m.Needs o m.Direct at refl (under_root w m.Needs m.Direct o at r.Typing root.entry.form (any_form w o r.Typing at root) root (direct root.entry.form))
      (direct_down lies (now m.Direct n (goes_across (record { mention = mention; mode = inl refl })))) where
        direct : (v : Form) → Among m.Direct (types m.Needs v)
        direct f.Alias = inl refl
        direct f.Defined = inl refl
        direct f.Other = inl refl

  pub by_alias_comes : (o at : NodeRef) → Is w o f.Alias → IsRoot w o r.Typing at → Mentions w at u → Is w u f.Alias → Comes m.Needs o
  by_alias_comes o at alias root (n, lies, mention) is = next m.Needs o m.Aliases at refl (under_root w m.Needs m.Aliases o at r.Typing f.Alias alias root (inr (inr (inl refl))))
      (aliases_down lies (now m.Aliases n (across_to w m.Aliases m.Needs n u f.Alias mention is (inl refl))))

  rests_root : (o at a e v : NodeRef) (role : Role) → IsRoot w o role at → Within w at a → IsLength w a e → Mentions w e v → ReachedFrom w v u → Comes m.Needs o
  rests_root o at a e v role root lies length_is mentions reached = by_role role root where
    lengths : Comes m.Lengths at
    lengths = lengths_come e v lies length_is mentions reached

    listed : (x : Form) → Among m.Lengths (types m.Needs x)
    listed f.Alias = inr (inl refl)
    listed f.Defined = inr (inl refl)
    listed f.Other = inr (inl refl)

    by_role : (z : Role) → IsRoot w o z at → Comes m.Needs o
    by_role r.Typing is = next m.Needs o m.Lengths at refl (under_root w m.Needs m.Lengths o at r.Typing is.entry.form (any_form w o r.Typing at is) is (listed is.entry.form)) lengths
    by_role r.Beside is = next m.Needs o m.Lengths at refl (under_root w m.Needs m.Lengths o at r.Beside is.entry.form (any_form w o r.Beside at is) is (inl refl)) lengths
    by_role r.Resting is = next m.Needs o m.Whole at refl (under_root w m.Needs m.Whole o at r.Resting is.entry.form (any_form w o r.Resting at is) is (inl refl))
        (whole_comes at v (mentions.0, within_join w lies (deeper length_is.0 mentions.1), mentions.2) reached)

  pub by_expression_comes : (o e v : NodeRef) → RestsOn w o e → Mentions w e v → ReachedFrom w v u → Comes m.Needs o
  by_expression_comes o e v (inl root) mentions reached =
      next m.Needs o m.Whole e refl (under_root w m.Needs m.Whole o e r.Resting root.entry.form (any_form w o r.Resting e root) root (inl refl)) (whole_comes e v mentions reached)
  by_expression_comes o e v (inr (role, at, a, root, lies, length_is)) mentions reached = rests_root o at a e v role root lies length_is mentions reached
