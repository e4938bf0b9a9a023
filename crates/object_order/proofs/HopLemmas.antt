-- From object to object: what the search leads to is what the needs lead to.
use Rattle.std.proofs.Common.{◌≡◌, ◌⊎◌, Bool, true, false, List, [], ◌∷◌, ◌++◌, refl, sym, ap, ◌∙◌, subst, inl, inr}
use Rattle.go_tree.specs.Spells.{Among}
use Rattle.go_tree.specs.declared.tree.NodeRef.{NodeRef}
use Rattle.object_order.specs.declared.spot.Mode.{Mode}
use Rattle.object_order.specs.declared.spot.Mode.TheVariants as m
use Rattle.object_order.specs.declared.spot.Spot.{Spot}
use Rattle.object_order.specs.Paths.{Path, Leads}
use Rattle.object_order.specs.Spots.{spot}
use Rattle.object_order.specs.Orders.{GoesBy, is_needs, Arrives, Turns, NeedsBy}

cases_of : (b : Bool) → (b ≡ true) ⊎ (b ≡ false)
cases_of true = inl refl
cases_of false = inr refl

needs_mode : (x : Mode) → is_needs x ≡ true → x ≡ m.Needs
needs_mode m.Needs e = refl
needs_mode m.Reach e = absurd (cc)
needs_mode m.Steps e = absurd (cc)
needs_mode m.Follow e = absurd (cc)
needs_mode m.Kin e = absurd (cc)
needs_mode m.Direct e = absurd (cc)
needs_mode m.Lengths e = absurd (cc)
needs_mode m.Whole e = absurd (cc)
needs_mode m.Aliases e = absurd (cc)
needs_mode m.AliasSteps e = absurd (cc)
needs_mode m.Embeds e = absurd (cc)
needs_mode m.Alone e = absurd (cc)

pub needs_spot : (s : Spot) → is_needs s.mode ≡ true → s ≡ spot m.Needs s.at
needs_spot s e = ap (λ (x : Mode). spot x s.at) (needs_mode s.mode e)

pub path_join : {A : Type 0} (r : A → A → Type 0) (a b c : A) (via more : List A) → Path r a via b → Path r b more c → Path r a (via ++ b ∷ more) c
path_join r a b c [] more p q = (p, q)
path_join r a b c (d ∷ via) more p q = (p.0, path_join r d b c via more p.1 q)

pub leads_join : {A : Type 0} (r : A → A → Type 0) (a b c : A) → Leads r a b → Leads r b c → Leads r a c
leads_join r a b c p q = (p.0 ++ b ∷ q.0, path_join r a b c p.0 q.0 p.1 q.1)

pub path_over : {A : Type 0} (r q : A → A → Type 0) → ((a b : A) → r a b → q a b) → (a : A) (via : List A) (b : A) → Path r a via b → Path q a via b
path_over r q f a [] b h = f a b h
path_over r q f a (c ∷ via) b h = (f a c h.0, path_over r q f c via b h.1)

module _ (moves : Spot → List Spot) where
  abbrev pub Hops : NodeRef → NodeRef → Type 0
  Hops a b = Arrives moves (spot m.Needs a) b

  abbrev pub ArrivesFirst : Spot → NodeRef → Type 0
  ArrivesFirst s u = Arrives moves s u ⊎ ((v : NodeRef) × Arrives moves s v × Leads Hops v u)

  -- from an object on
  onward : (s : Spot) (u : NodeRef) → s ≡ spot m.Needs s.at → ArrivesFirst s u → Leads Hops s.at u
  onward s u is (inl arrives) = ([], subst (λ (x : Spot). Arrives moves x u) is arrives)
  onward s u is (inr (v, arrives, leads)) = (v ∷ leads.0, (subst (λ (x : Spot). Arrives moves x v) is arrives, leads.1))

  passed : (s c : Spot) (u : NodeRef) → is_needs c.mode ≡ false → Among c (moves s) → ArrivesFirst c u → ArrivesFirst s u
  passed s c u other one (inl (via, past, path)) = inl (c ∷ via, (other, past), (one, path))
  passed s c u other one (inr (v, (via, past, path), leads)) = inr (v, (c ∷ via, (other, past), (one, path)), leads)

  first_stop : (via : List Spot) (s : Spot) (u : NodeRef) → Path (GoesBy moves) s via (spot m.Needs u) → ArrivesFirst s u
  first_stop [] s u path = inl ([], tt, path)
  first_stop (c ∷ via) s u path = elim (cases_of (is_needs c.mode)) [
    | inl is ↦ (let c_is = needs_spot c is in inr (c.at, ([], tt, subst (λ (x : Spot). Among x (moves s)) c_is path.0), onward c u c_is (first_stop via c u path.1)))
    | inr other ↦ passed s c u other path.0 (first_stop via c u path.1)
  ]

  pub search_hops : (a b : NodeRef) → Leads (GoesBy moves) (spot m.Needs a) (spot m.Needs b) → Leads Hops a b
  search_hops a b leads = onward (spot m.Needs a) b refl (first_stop leads.0 (spot m.Needs a) b leads.1)

  pub hop_search : (a b : NodeRef) → Hops a b → Leads (GoesBy moves) (spot m.Needs a) (spot m.Needs b)
  hop_search a b (via, past, path) = (via, path)

  hops_search : (via : List NodeRef) (a b : NodeRef) → Path Hops a via b → Leads (GoesBy moves) (spot m.Needs a) (spot m.Needs b)
  hops_search [] a b path = hop_search a b path
  hops_search (c ∷ via) a b path = leads_join (GoesBy moves) (spot m.Needs a) (spot m.Needs c) (spot m.Needs b) (hop_search a c path.0) (hops_search via c b path.1)

  -- needs lead by hops, or stand at a type that turns
  by_hops : (via : List NodeRef) (a b : NodeRef) → Path (NeedsBy moves) a via b → Leads Hops a b ⊎ ((b ≡ a) × Turns moves a)
  by_hops [] a b (inl hop) = inl ([], hop)
  by_hops [] a b (inr turn) = inr turn
  by_hops (c ∷ via) a b path = from path.0 (by_hops via c b path.1) where
    from : NeedsBy moves a c → Leads Hops c b ⊎ ((b ≡ c) × Turns moves c) → Leads Hops a b ⊎ ((b ≡ a) × Turns moves a)
    from (inl hop) (inl leads) = inl (c ∷ leads.0, (hop, leads.1))
    from (inl hop) (inr (same, turns)) = inl ([], subst (λ (x : NodeRef). Hops a x) (sym same) hop)
    from (inr (same, turns)) (inl leads) = inl (subst (λ (x : NodeRef). Leads Hops x b) same leads)
    from (inr (same, turns)) (inr (there, turns_there)) = inr (there ∙ same, turns)

  -- where the search leads from object to object, needs do
  pub search_needs : (a b : NodeRef) → Leads (GoesBy moves) (spot m.Needs a) (spot m.Needs b) → Leads (NeedsBy moves) a b
  search_needs a b leads = let hops = search_hops a b leads in (hops.0, path_over Hops (NeedsBy moves) (λ x y h. inl h) a hops.0 b hops.1)

  pub turns_need : (a b : NodeRef) → b ≡ a → Turns moves a → Leads (NeedsBy moves) a b
  turns_need a b same turns = ([], inr (same, turns))

  -- An object's needs lead back to it where the search does, or where its steps do.
  pub cyclic_search : (o : NodeRef) → Leads (NeedsBy moves) o o → Leads (GoesBy moves) (spot m.Needs o) (spot m.Needs o) ⊎ Turns moves o
  cyclic_search o leads = elim (by_hops leads.0 o o leads.1) [
    | inl hops ↦ inl (hops_search hops.0 o o hops.1)
    | inr (same, turns) ↦ inr turns
  ]
