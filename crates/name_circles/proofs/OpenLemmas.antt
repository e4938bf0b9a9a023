-- Where declarations rest on all that is written in them, a name needs what it leads to.
use Rattle.std.proofs.Common.{◌≡◌, ◌↔◌, ◌⊎◌, ℕ, IsTrue, true, List, [], ◌∷◌, map, slice_get, Option, Some, None, option_map, refl, sym, ap, ◌∙◌, subst, inl, inr}
use Rattle.go_tree.specs.Spells.{Among}
use Rattle.go_tree.specs.declared.tree.Node.{Node}
use Rattle.go_tree.specs.declared.tree.NodeRef.{NodeRef}
use Rattle.object_order.specs.declared.spot.Entry.{Entry}
use Rattle.object_order.specs.declared.spot.Form.{Form}
use Rattle.object_order.specs.declared.spot.Form.TheVariants as f
use Rattle.object_order.specs.declared.spot.Role.{Role}
use Rattle.object_order.specs.declared.spot.Role.TheVariants as r
use Rattle.object_order.specs.declared.spot.Root.{Root}
use Rattle.object_order.specs.Cases.{IsPart, Within, itself, deeper, IsMention, Mentions, Is, IsRoot, HasMention, IsLength, RestsOn, IsMethodOf, own, by_name, Reaches, ReachedFrom, there, on, StepsTo, to_alias, to_embedded, to_named, NeedsOf, by_type, by_alias, by_expression, by_steps}
use Rattle.object_order.specs.Paths.{Path, Leads}
use Rattle.object_order.specs.Spots.{World, place}
use Rattle.name_circles.specs.Circles.{Circles, resting, opened, open_world}

-- ---- paths

then : {A : Type 0} (s : A → A → Type 0) (a b c : A) (via : List A) → Path s a via b → Leads s b c → Leads s a c
then s a b c [] edge (more, path) = (b ∷ more, (edge, path))
then s a b c (x ∷ via) (edge, rest) next = (let on_it = then s x b c via rest next in (x ∷ on_it.0, (edge, on_it.1)))

-- what leads by the one leads by the other
led : {A : Type 0} (s t : A → A → Type 0) → ((a b : A) → s a b → Leads t a b) → (a b : A) (via : List A) → Path s a via b → Leads t a b
led s t each a b [] edge = each a b edge
led s t each a b (x ∷ via) (edge, rest) = (let first = each a x edge in then t a x b first.0 first.1 (led s t each x b via rest))

-- ---- two descriptions with the same mentions

pub record Like (a b : World) : Type 0 where
  pub node : (at : NodeRef) → a.node at ≡ b.node at
  pub meant : (at : NodeRef) → a.meant at ≡ b.meant at
  pub entry : (o : NodeRef) (e : Entry) → a.entry o ≡ Some e → (d : Entry) × (b.entry o ≡ Some d) × (d.form ≡ e.form)
  pub root : (o at : NodeRef) (role : Role) → IsRoot a o role at → (other : Role) × IsRoot b o other at
  pub kin : (t m : NodeRef) → Among m (a.kin t) → Among m (b.kin t)

part : {a b : World} → Like a b → {x y : NodeRef} → IsPart a x y → IsPart b x y
part c {x} {y} p = record { node = p.node; inner = p.inner; «is» = sym (c.node x) ∙ p.«is»; among = p.among; file = p.file; there = sym (c.node y) ∙ p.there; no_body = p.no_body }

within : {a b : World} → Like a b → {x y : NodeRef} → Within a x y → Within b x y
within c (itself e) = itself e
within c (deeper p rest) = deeper (part c p) (within c rest)

mention : {a b : World} → Like a b → {x u : NodeRef} → IsMention a x u → IsMention b x u
mention c {x} {u} m = (let d = c.entry u m.entry m.declared in record { entry = d.0; meant = sym (c.meant x) ∙ m.meant; declared = d.1 })

mentions : {a b : World} → Like a b → {x u : NodeRef} → Mentions a x u → Mentions b x u
mentions c (n, inside, m) = (n, within c inside, mention c m)

has_mention : {a b : World} → Like a b → {o u : NodeRef} → HasMention a o u → HasMention b o u
has_mention c {o} (role, at, is, m) = (let other = c.root o at role is in (other.0, at, other.1, mentions c m))

is_form : {a b : World} → Like a b → {o : NodeRef} {form : Form} → Is a o form → Is b o form
is_form c {o} (e, e_at, same) = (let d = c.entry o e e_at in (d.0, d.1, d.2 ∙ same))

method : {a b : World} → Like a b → {t m : NodeRef} → IsMethodOf a t m → IsMethodOf b t m
method c {t} {m} (own among is) = own (c.kin t m among) (is_form c is)
method c {t} {m} (by_name {a = x} form among is apart more) = by_name form (c.kin t x among) (is_form c is) apart (method c more)

reaches : {a b : World} → Like a b → {o u : NodeRef} → Reaches a o u → Reaches b o u
reaches c (inl m) = inl (has_mention c m)
reaches c (inr (m, of, has)) = inr (m, method c of, has_mention c has)

reached : {a b : World} → Like a b → {o u : NodeRef} → ReachedFrom a o u → ReachedFrom b o u
reached c (there e) = there e
reached c (on step rest) = on (reaches c step) (reached c rest)

-- ---- the opened description has the same mentions

among_resting : (root : Root) (roots : List Root) → Among root roots → Among (resting root) (map resting roots)
among_resting root [] h = absurd h
among_resting root (x ∷ roots) (inl e) = inl (ap resting e)
among_resting root (x ∷ roots) (inr h) = inr (among_resting root roots h)

from_resting : (root : Root) (roots : List Root) → Among root (map resting roots) → (d : Root) × Among d roots × (resting d ≡ root)
from_resting root [] h = absurd h
from_resting root (x ∷ roots) (inl e) = (x, inl refl, e)
from_resting root (x ∷ roots) (inr h) = (let d = from_resting root roots h in (d.0, inr d.1, d.2))

in_opened : (o : Option Entry) (e : Entry) → option_map opened o ≡ Some e → (d : Entry) × (o ≡ Some d) × (opened d ≡ e)
in_opened None e is = absurd cc
in_opened (Some d) e is = (d, refl, cc)

opens : (o : Option Entry) (e : Entry) → o ≡ Some e → option_map opened o ≡ Some (opened e)
opens o e is = ap (option_map opened) is

module _ (w : World) where
  root_out : (o at : NodeRef) (role : Role) → IsRoot w o role at → IsRoot (open_world w) o r.Resting at
  root_out o at role d = record {
    entry = opened d.entry;
    declared = opens (w.entry o) d.entry d.declared;
    root = resting d.root;
    among = among_resting d.root d.entry.roots d.among;
    role_is = refl;
    at_is = d.at_is;
  }

  -- all that is written in a declaration is what it rests on
  record FromRoot (o at : NodeRef) (role : Role) : Type 0 where
    pub other : Role
    pub root : IsRoot w o other at
    pub rests : role ≡ r.Resting

  root_in : (o at : NodeRef) (role : Role) → IsRoot (open_world w) o role at → FromRoot o at role
  root_in o at role d =
      let e = in_opened (w.entry o) d.entry d.declared in
      let among : Among d.root (map resting e.0.roots) = subst (λ (x : Entry). Among d.root x.roots) (sym e.2) d.among in
      let x = from_resting d.root e.0.roots among in
      record {
        other = x.0.role;
        root = record {
          entry = e.0;
          declared = e.1;
          root = x.0;
          among = x.1;
          role_is = refl;
          at_is = ap (λ (y : Root). place o.file y.node) x.2 ∙ d.at_is;
        };
        rests = sym d.role_is ∙ sym (ap (λ (y : Root). y.role) x.2);
      }

  to_open : Like w (open_world w)
  to_open = record {
    node = λ at. refl;
    meant = λ at. refl;
    entry = λ o e is. (opened e, opens (w.entry o) e is, refl);
    root = λ o at role is. (r.Resting, root_out o at role is);
    kin = λ t m among. among;
  }

  from_open : Like (open_world w) w
  from_open = record {
    node = λ at. refl;
    meant = λ at. refl;
    entry = λ o e is. (let d = in_opened (w.entry o) e is in (d.0, d.1, ap (λ (x : Entry). x.form) d.2));
    root = λ o at role is. (let d = root_in o at role is in (d.other, d.root));
    kin = λ t m among. among;
  }

  -- ---- what is needed there is led to

  no_typing : (o at : NodeRef) → IsRoot (open_world w) o r.Typing at → ⊥
  no_typing o at is = (let d = root_in o at r.Typing is in let e = d.rests in cc)

  no_step : (t u : NodeRef) → StepsTo (open_world w) t u → ⊥
  no_step t u (to_alias at is root m alias) = no_typing t at root
  no_step t u (to_embedded at is root e) = no_typing t at root
  no_step t u (to_named at is root rest) = no_typing t at root

  no_turn : (o : NodeRef) → Leads (StepsTo (open_world w)) o o → ⊥
  no_turn o ([], step) = no_step o o step
  no_turn o (x ∷ via, (step, rest)) = no_step o x step

  inner : {a b c : NodeRef} → Within (open_world w) a b → Within (open_world w) b c → Within (open_world w) a c
  inner {a} {b} {c} (itself e) next = subst (λ (x : NodeRef). Within (open_world w) x c) (sym e) next
  inner (deeper p rest) next = deeper p (inner rest next)

  in_length : {a e x : NodeRef} → IsPart (open_world w) a e → Mentions (open_world w) e x → Mentions (open_world w) a x
  in_length p (n, inside, m) = (n, deeper p inside, m)

  in_whole : {at a x : NodeRef} → Within (open_world w) at a → Mentions (open_world w) a x → Mentions (open_world w) at x
  in_whole outer (n, inside, m) = (n, inner outer inside, m)

  rests_in : {o e x : NodeRef} → RestsOn (open_world w) o e → Mentions (open_world w) e x → HasMention (open_world w) o x
  rests_in {o} {e} (inl root) m = (r.Resting, e, root, m)
  rests_in (inr (role, at, a, root, inside, (p, array, first))) m = (role, at, root, in_whole inside (in_length p m))

  leads_from : {v u : NodeRef} → (o : NodeRef) → Reaches w o v → ReachedFrom w v u → Leads (Reaches w) o u
  leads_from {v} {u} o step (there e) = ([], subst (λ (x : NodeRef). Reaches w o x) e step)
  leads_from {v} {u} o step (on {v = x} next rest) = (let more = leads_from v next rest in (v ∷ more.0, (step, more.1)))

  needed : (o u : NodeRef) → NeedsOf (open_world w) o u → Leads (Reaches w) o u
  needed o u (by_type at root m) = absurd (no_typing o at root)
  needed o u (by_alias at alias root m other) = absurd (no_typing o at root)
  needed o u (by_expression e v rests m to) = leads_from o (reaches from_open (inl (rests_in rests m))) (reached from_open to)
  needed o u (by_steps same turn) = absurd (no_turn o turn)

  -- ---- what a name leads to it needs there

  no_method : (o m : NodeRef) → w.kin o ≡ [] → IsMethodOf w o m → ⊥
  no_method o m none (own among is) = subst (λ (xs : List NodeRef). Among m xs) none among
  no_method o m none (by_name {a = x} form among is apart more) = subst (λ (xs : List NodeRef). Among x xs) none among

  needs_first : (o v u : NodeRef) → w.kin o ≡ [] → Reaches w o v → ReachedFrom w v u → NeedsOf (open_world w) o u
  needs_first o v u none (inl (role, at, root, m)) to = by_expression at v (inl (root_out o at role root)) (mentions to_open m) (reached to_open to)
  needs_first o v u none (inr (m, of, has)) to = absurd (no_method o m none of)

  from_path : (v u : NodeRef) (via : List NodeRef) → Path (Reaches w) v via u → ReachedFrom w v u
  from_path v u [] step = on step (there refl)
  from_path v u (x ∷ via) (step, rest) = on step (from_path x u via rest)

  needs_itself : (o : NodeRef) → w.kin o ≡ [] → Circles w o → NeedsOf (open_world w) o o
  needs_itself o none ([], step) = needs_first o o o none step (there refl)
  needs_itself o none (x ∷ via, (step, rest)) = needs_first o x o none step (from_path x o via rest)

  -- A name without methods leads back to itself exactly where its needs do so there.
  pub circle_is : (o : NodeRef) → w.kin o ≡ [] → Leads (NeedsOf (open_world w)) o o ↔ Circles w o
  circle_is o none = (λ turn. led (NeedsOf (open_world w)) (Reaches w) needed o o turn.0 turn.1, λ circle. ([], needs_itself o none circle))
