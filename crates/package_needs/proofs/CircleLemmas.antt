-- Where types end, in an order of need.
use Rattle.std.proofs.Common.{◌≡◌, ℕ, zero, suc, ◌+◌, ◌<◌, ◌≤◌, ◌⊎◌, Bool, List, [], ◌∷◌, length, map, set, replicate, slice_get, Option, Some, None, option_map, option_and_then, refl, sym, ap, ◌∙◌, subst, inl, inr, arith}
use Rattle.std.specs.List.{Contains, cons_option}
use Rattle.std.proofs.Math.ListN.{length-set}
use Rattle.std.proofs.lemmas.Option.{slice_get_within, slice_get-map}
use Rattle.go_tree.specs.declared.tree.NodeRef.{NodeRef}
use Rattle.need_order.specs.declared.needed.Needed.{Needed}
use Rattle.need_order.specs.Graphs.{Needs, IsClosed, Path, Leads, IsOrder}
use Rattle.object_order.specs.declared.spot.Entry.{Entry}
use Rattle.object_order.specs.Spots.{World}
use Rattle.package_needs.specs.declared.ends.Link.{Link}
use Rattle.package_needs.specs.Links.{StepsBy, IsLink, AreLinks, row_of, Arrives, at_end, goes_on, cell, ended_to, ended, link_at, AreArrivals}
use Rattle.std.proofs.lemmas.Bool.{cases_eq}
use Rattle.std.proofs.lemmas.List.{length-map, length-replicate}
use Rattle.gv_base.proofs.Lists.{get_set_other, get_set_same, got, same_some, split}

-- ---- one need each

only_one : (o : Option ℕ) (b : ℕ) → Contains (cons_option o []) b → o ≡ Some b
only_one None b (i, low, is) = absurd (omega arith)
only_one (Some x) b (zero, low, is) = ap Some is
only_one (Some x) b (suc i, low, is) = absurd (omega arith)

is_one : (o : Option ℕ) (b : ℕ) → o ≡ Some b → Contains (cons_option o []) b
is_one None b is = absurd (cc)
is_one (Some x) b is = (0, omega arith, (cc))

row_is : (links : List (Option Link)) (a : ℕ) (o : Option (Option Link)) (row : List ℕ) → slice_get links a ≡ o → slice_get (map row_of links) a ≡ Some row
    → (l : Option Link) × (slice_get links a ≡ Some l) × (row_of l ≡ row)
row_is links a None row is at = absurd (none (sym (ap (λ o. option_map row_of o) is) ∙ (sym (slice_get-map row_of links a) ∙ at))) where
  none : ◌≡◌ {A = Option (List ℕ)} None (Some row) → ⊥
  none e = cc
row_is links a (Some l) row is at = (l, is, some (sym (ap (λ o. option_map row_of o) is) ∙ (sym (slice_get-map row_of links a) ∙ at))) where
  some : ◌≡◌ {A = Option (List ℕ)} (Some (row_of l)) (Some row) → row_of l ≡ row
  some e = cc

-- what a declaration needs is where its link goes
needs_link : (links : List (Option Link)) (a b : ℕ) → Needs (map row_of links) a b → (l : Link) × (slice_get links a ≡ Some (Some l)) × (l.to ≡ Some b)
needs_link links a b (row, at, has) = (let (o, o_at, is) = row_is links a (slice_get links a) row refl at in
    from o o_at (only_one (option_and_then (λ (l : Link). l.to) o) b (subst (λ (r : List ℕ). Contains r b) (sym is) has))) where
      from : (o : Option Link) → slice_get links a ≡ Some o → option_and_then (λ (l : Link). l.to) o ≡ Some b → (l : Link) × (slice_get links a ≡ Some (Some l)) × (l.to ≡ Some b)
      from None o_at to = absurd (cc)
      from (Some l) o_at to = (l, o_at, to)

link_needs : (links : List (Option Link)) (a b : ℕ) (l : Link) → slice_get links a ≡ Some (Some l) → l.to ≡ Some b → Needs (map row_of links) a b
link_needs links a b l at to = (cons_option l.to [], slice_get-map row_of links a ∙ ap (λ o. option_map row_of o) at, is_one l.to b to)

-- what is needed is a declaration
pub links_closed : (w : World) (entries : List Entry) (far : Bool) (links : List (Option Link)) → AreLinks w entries far links → IsClosed (map row_of links)
links_closed w entries far links are = record { within = λ a b needs. (let (l, at, to) = needs_link links a b needs in inside a b l at to) } where
  inside : (a b : ℕ) (l : Link) → slice_get links a ≡ Some (Some l) → l.to ≡ Some b → b < length (map row_of links)
  inside a b l at to = (let (e, e_at) = got entries a (let h = slice_get_within links a (Some l) at in let s = are.size in omega arith) in
      let (o, o_at, link) = are.each a e e_at in from e o link (same_some (slice_get links a) o (Some l) o_at at)) where
        from : (e : Entry) (o : Option Link) → IsLink w entries far e o → o ≡ Some l → b < length (map row_of links)
        from e None link is = absurd (cc)
        from e (Some d) (t, gives, peels, steps) is = step d.to (ap (λ (y : Link). y.to) (link_same d is) ∙ to) steps where
          link_same : (d : Link) → Some d ≡ Some l → d ≡ l
          link_same d is = cc

          step : (n : Option ℕ) → n ≡ Some b → StepsBy w entries far d.bare n → b < length (map row_of links)
          step None none steps = absurd (cc)
          step (Some n) n_is (f, u, f_at, gives_u, next_is) = (let h = slice_get_within entries n f f_at in let s = are.size in let same : n ≡ b = (cc) in omega (arith, length-map links row_of))

-- ---- no end in a circle

join : (needs : ℕ → ℕ → Type 0) (a b c : ℕ) (via : List ℕ) → Path needs a via b → needs b c → Leads needs a c
join needs a b c [] path edge = (b ∷ [], (path, edge))
join needs a b c (d ∷ via) (first, rest) edge = (let (more, path) = join needs d b c via rest edge in (d ∷ more, (first, path)))

-- where the links of a declaration lead to an end, they don't lead back to it
pub no_circle : {links : List (Option Link)} {k : ℕ} {x : NodeRef} → Arrives links k x → Leads (Needs (map row_of links)) k k → ⊥
no_circle {links} {k} {x} (at_end l at none same) (via, path) = first via path where
  here : (m : ℕ) → Needs (map row_of links) k m → ⊥
  here m needs = (let (d, d_at, to) = needs_link links k m needs in apart d (same_some (slice_get links k) (Some d) (Some l) d_at at) to) where
    apart : (d : Link) → Some d ≡ Some l → d.to ≡ Some m → ⊥
    apart d is to = let d_is : d ≡ l = (cc) in let some : l.to ≡ Some m = sym (ap (λ (y : Link). y.to) d_is) ∙ to in (cc)

  first : (via : List ℕ) → Path (Needs (map row_of links)) k via k → ⊥
  first [] path = here k path
  first (m ∷ via) (edge, rest) = here m edge
no_circle {links} {k} {x} (goes_on l m at to more) (via, path) = first via path (λ leads. no_circle more leads) where
  here : (n : ℕ) → Needs (map row_of links) k n → n ≡ m
  here n needs = (let (d, d_at, d_to) = needs_link links k n needs in same d (same_some (slice_get links k) (Some d) (Some l) d_at at) d_to) where
    same : (d : Link) → Some d ≡ Some l → d.to ≡ Some n → n ≡ m
    same d is d_to = let d_is : d ≡ l = (cc) in let some : Some m ≡ Some n = sym to ∙ (sym (ap (λ (y : Link). y.to) d_is) ∙ d_to) in (cc)

  edge_on : Needs (map row_of links) k m
  edge_on = link_needs links k m l at to

  first : (via : List ℕ) → Path (Needs (map row_of links)) k via k → (Leads (Needs (map row_of links)) m m → ⊥) → ⊥
  first [] path rest = rest ([], subst (λ (n : ℕ). Needs (map row_of links) n m) (here k path) edge_on)
  first (n ∷ via) (edge, path) rest = rest (join (Needs (map row_of links)) m k m via (subst (λ (y : ℕ). Path (Needs (map row_of links)) y via k) (here n edge) path) edge_on)

-- ---- the table

cell_here : (table : List (Option NodeRef)) (n : ℕ) (o : Option NodeRef) → n < length table → cell (set table n o) n ≡ o
cell_here table n o low = ap (λ (p : Option (Option NodeRef)). option_and_then (λ (q : Option NodeRef). q) p) (get_set_same table n o low)

cell_there : (table : List (Option NodeRef)) (n m : ℕ) (o : Option NodeRef) → (m ≡ n → ⊥) → cell (set table n o) m ≡ cell table m
cell_there table n m o apart = ap (λ (p : Option (Option NodeRef)). option_and_then (λ (q : Option NodeRef). q) p) (get_set_other table n m o apart)

-- what the table says is so, and of the first few declarations of the order it says all
pub record Settled (links : List (Option Link)) (order : List Needed) (table : List (Option NodeRef)) (i : ℕ) : Type 0 where
  pub size : length table ≡ length links
  pub sound : (k : ℕ) (x : NodeRef) → cell table k ≡ Some x → Arrives links k x
  pub full : (j : ℕ) (e : Needed) → j < i → slice_get order j ≡ Some e → (x : NodeRef) → Arrives links e.vertex x → cell table e.vertex ≡ Some x

pub settled_none : (links : List (Option Link)) (order : List Needed) (table : List (Option NodeRef)) → table ≡ replicate (length links) None → Settled links order table 0
settled_none links order table is = record {
  size = ap (λ (xs : List (Option NodeRef)). length xs) is ∙ length-replicate (length links) None;
  sound = λ k x at. absurd (none k x (length links) (sym (ap (λ (xs : List (Option NodeRef)). cell xs k) is) ∙ at));
  full = λ j e low at. absurd (omega arith);
} where
  none : (k : ℕ) (x : NodeRef) (n : ℕ) → cell (replicate n None) k ≡ Some x → ⊥
  none k x zero e = cc
  none zero x (suc n) e = cc
  none (suc k) x (suc n) e = none k x n e

-- what the links of a declaration say is so
ended_arrives : (links : List (Option Link)) (table : List (Option NodeRef)) (k : ℕ) (x : NodeRef) → ((m : ℕ) (y : NodeRef) → cell table m ≡ Some y → Arrives links m y)
    → ended table (link_at links k) ≡ Some x → Arrives links k x
ended_arrives links table k x sound is = from (slice_get links k) refl is where
  from : (o : Option (Option Link)) → slice_get links k ≡ o → ended table (option_and_then (λ (o : Option Link). o) o) ≡ Some x → Arrives links k x
  from None at is = absurd (cc)
  from (Some None) at is = absurd (cc)
  from (Some (Some l)) at is = to l.to refl is where
    to : (n : Option ℕ) → l.to ≡ n → ended_to table l.bare n ≡ Some x → Arrives links k x
    to None none is = at_end l at none (cc)
    to (Some m) some is = goes_on l m at some (sound m x is)

-- where the links lead, the table says
arrives_ended : (links : List (Option Link)) (table : List (Option NodeRef)) (k : ℕ) (x : NodeRef) → ((m : ℕ) → Needs (map row_of links) k m → Arrives links m x → cell table m ≡ Some x)
    → Arrives links k x → ended table (link_at links k) ≡ Some x
arrives_ended links table k x known (at_end l at none same) = ap (λ o. ended table (option_and_then (λ (o : Option Link). o) o)) at ∙ (ap (λ n. ended_to table l.bare n) none ∙ ap Some same)
arrives_ended links table k x known (goes_on l m at to more) = ap (λ o. ended table (option_and_then (λ (o : Option Link). o) o)) at ∙ (ap (λ n. ended_to table l.bare n) to ∙ known m (link_needs links k m l at to) more)

pub settled_more : (links : List (Option Link)) (order : List Needed) (table new : List (Option NodeRef)) (i : ℕ) (item : Needed)
    → IsOrder (Needs (map row_of links)) (length links) order → slice_get order i ≡ Some item → Settled links order table i
    → new ≡ set table item.vertex (ended table (link_at links item.vertex)) → Settled links order new (i + 1)
settled_more links order table new i item is here was now = subst (λ (t : List (Option NodeRef)). Settled links order t (i + 1)) (sym now) (record {
  size = length-set table item.vertex end ∙ was.size;
  sound = λ k x at. sound k x (cases k item.vertex) at;
  full = λ j e low at x arrives. elim (split j i low) [
    | inl before ↦ cell_there table item.vertex e.vertex end (λ same. (let p : j ≡ i = is.once j i e item at here same in omega arith)) ∙ was.full j e before at x arrives
    | inr last ↦ full e (same_some (slice_get order i) item e here (ap (λ y. slice_get order y) (sym last) ∙ at)) x arrives
  ];
}) where
  end : Option NodeRef
  end = ended table (link_at links item.vertex)

  low : item.vertex < length table
  low = let h = is.within i item here in let s = was.size in omega arith

  cases : (k n : ℕ) → (k ≡ n) ⊎ (k ≡ n → ⊥)
  cases k n = cases_eq k n

  sound : (k : ℕ) (x : NodeRef) → (k ≡ item.vertex) ⊎ (k ≡ item.vertex → ⊥) → cell (set table item.vertex end) k ≡ Some x → Arrives links k x
  sound k x (inl same) at = subst (λ n. Arrives links n x) (sym same) (ended_arrives links table item.vertex x was.sound (sym (cell_here table item.vertex end low) ∙ (ap (λ n. cell (set table item.vertex end) n) (sym same) ∙ at)))
  sound k x (inr apart) at = was.sound k x (sym (cell_there table item.vertex k end apart) ∙ at)

  full : (e : Needed) → item ≡ e → (x : NodeRef) → Arrives links e.vertex x → cell (set table item.vertex end) e.vertex ≡ Some x
  full e same x arrives = subst (λ (d : Needed). Arrives links d.vertex x → cell (set table item.vertex end) d.vertex ≡ Some x) same
      (λ arr. cell_here table item.vertex end low ∙ arrives_ended links table item.vertex x (known arr) arr) arrives where
        known : Arrives links item.vertex x → (m : ℕ) → Needs (map row_of links) item.vertex m → Arrives links m x → cell table m ≡ Some x
        known arr m needs more = (let (j, f, before, f_at, f_is) = is.after i item here m needs (λ leads. no_circle arr (let (via, path) = leads in (m ∷ via, (needs, path)))) in
            subst (λ n. cell table n ≡ Some x) f_is (was.full j f before f_at x (subst (λ n. Arrives links n x) (sym f_is) more)))

pub settled_all : (links : List (Option Link)) (order : List Needed) (table : List (Option NodeRef)) (i : ℕ)
    → IsOrder (Needs (map row_of links)) (length links) order → length order ≤ i → Settled links order table i → AreArrivals links table
settled_all links order table i is end was k x = (was.sound k x, λ arrives. all arrives) where
  inside : Arrives links k x → k < length links
  inside (at_end l at none same) = slice_get_within links k (Some l) at
  inside (goes_on l m at to more) = slice_get_within links k (Some l) at

  all : Arrives links k x → cell table k ≡ Some x
  all arrives = (let (j, e, at, same) = is.each k (inside arrives) in
      subst (λ n. cell table n ≡ Some x) same (was.full j e (let h = slice_get_within order j e at in omega arith) at x (subst (λ n. Arrives links n x) (sym same) arrives)))
