-- The objects that are picked from a full order of the graph are in an order of need.
use Rattle.std.proofs.Common.{◌≡◌, ℕ, ◌<◌, ◌⊎◌, ◌↔◌, ◌||◌, Bool, true, false, if◌then◌else◌, IsTrue, List, length, slice_get, Option, Some, None, option_and_then, refl, sym, ap, ◌∙◌, subst, inl, inr, arith}
use Rattle.std.specs.List.{filter_map}
use Rattle.std.specs.Option.{option_map_or}
use Rattle.object_order.specs.declared.rows.SpotRows.{SpotRows}
use Rattle.std.proofs.lemmas.Option.{slice_get_within}
use Rattle.go_tree.specs.Spells.{Among}
use Rattle.go_tree.specs.declared.tree.NodeRef.{NodeRef}
use Rattle.need_order.specs.declared.needed.Needed as vertex
use Rattle.need_order.specs.Graphs as graphs
use Rattle.object_order.specs.declared.needed.Needed.{Needed}
use Rattle.object_order.specs.declared.spot.Mode.TheVariants as m
use Rattle.object_order.specs.declared.spot.Spot.{Spot}
use Rattle.object_order.specs.Paths.{Leads}
use Rattle.object_order.specs.Spots.{spot}
use Rattle.object_order.specs.SpotRows.{kept_in}
use Rattle.object_order.specs.Searches.{key_of, IsExplored}
use Rattle.object_order.specs.Orders.{is_needs, Turns, NeedsBy, IsNeedOrder}
use Rattle.object_order.specs.Picks.{flag_in, turn_of, picked_spot, picked, AreFlags}
use Rattle.object_order.proofs.GraphLemmas.{found_once, path_numbers, leads_spots, leads_numbers}
use Rattle.object_order.proofs.HopLemmas.{needs_spot, hop_search, search_needs, turns_need, cyclic_search}
use Rattle.object_order.proofs.PickLemmas.{picked_from, picked_at, picked_pair, picked_apart}

-- what is searched from, and what is declared
pub record AreSeeds (moves : Spot → List Spot) (seeds : List Spot) (is_object : NodeRef → Type 0) : Type 0 where
  pub needs : (o : NodeRef) → is_object o → Among (spot m.Needs o) seeds
  pub steps : (o : NodeRef) → is_object o → Among (spot m.Steps o) seeds ⊎ (Turns moves o → ⊥)
  pub only : (s : Spot) → Among s seeds ⊎ ((t : Spot) × Among s (moves t)) → is_needs s.mode ≡ true → is_object s.at

or_left : (a b : Bool) → a ≡ true → (a || b) ≡ true
or_left true b e = refl
or_left false b e = absurd (cc)

or_right : (a b : Bool) → b ≡ true → (a || b) ≡ true
or_right true b e = refl
or_right false b e = e

or_cases : (a b : Bool) → (a || b) ≡ true → (a ≡ true) ⊎ (b ≡ true)
or_cases true b e = inl refl
or_cases false b e = inr e

order_cases : (j k : ℕ) → (j < k) ⊎ ((j ≡ k) ⊎ (k < j))
order_cases j k = grind arith

needed_of : NodeRef → Bool → Needed
needed_of o c = record { object = o; cyclic = c }

some_is : {X : Type 0} (a b : X) → Some a ≡ Some b → a ≡ b
some_is a b e = cc

none_some : (i : ℕ) → None ≡ Some i → ⊥
none_some i e = cc

false_true : false ≡ true → ⊥
false_true e = cc

module _ (moves : Spot → List Spot) (seeds found : List Spot) (numbers : SpotRows) (rows : List (List ℕ)) (is_object : NodeRef → Type 0)
    (is : IsExplored moves seeds found numbers rows) (are : AreSeeds moves seeds is_object)
    (order : List vertex.Needed) (flags : List Bool) (full : graphs.IsFullOrder (graphs.Needs rows) (length rows) order) (flagged : AreFlags order flags) where
  -- what a vertex gives that is picked
  abbrev Gives : vertex.Needed → Needed → Type 0
  Gives e y = (slice_get found e.vertex ≡ Some (spot m.Needs y.object)) × (y.cyclic ≡ (e.cyclic || turn_of numbers flags y.object))

  gives_spot : (c : Bool) (s : Spot) (y : Needed) (b : Bool) → is_needs s.mode ≡ b → (if b then Some (needed_of s.at (c || turn_of numbers flags s.at)) else None) ≡ Some y
      → (s ≡ spot m.Needs y.object) × (y.cyclic ≡ (c || turn_of numbers flags y.object))
  unfolding needed_of
  gives_spot c s y true e picks =
      let same : needed_of s.at (c || turn_of numbers flags s.at) ≡ y = some_is _ _ picks in
      let at : s.at ≡ y.object = ap (λ (x : Needed). x.object) same in
      (needs_spot s e ∙ ap (λ (x : NodeRef). spot m.Needs x) at, sym (ap (λ (x : Needed). x.cyclic) same) ∙ ap (λ (x : NodeRef). c || turn_of numbers flags x) at)
  gives_spot c s y false e picks = absurd (cc)

  gives_at : (c : Bool) (o : Option Spot) (y : Needed) → option_and_then (picked_spot numbers flags c) o ≡ Some y → (o ≡ Some (spot m.Needs y.object)) × (y.cyclic ≡ (c || turn_of numbers flags y.object))
  unfolding needed_of
  gives_at c None y e = absurd (cc)
  gives_at c (Some s) y e = let (s_is, cyclic) = gives_spot c s y (is_needs s.mode) refl e in (ap (λ (x : Spot). Some x) s_is, cyclic)

  gives : (e : vertex.Needed) (y : Needed) → picked found numbers flags e ≡ Some y → Gives e y
  gives e y picks = gives_at e.cyclic (slice_get found e.vertex) y picks

  given_back : (e : vertex.Needed) (o : NodeRef) → slice_get found e.vertex ≡ Some (spot m.Needs o) → (y : Needed) × (picked found numbers flags e ≡ Some y) × (y.object ≡ o)
  unfolding needed_of
  given_back e o at = (needed_of o (e.cyclic || turn_of numbers flags o), given, same) where
    given : picked found numbers flags e ≡ Some (needed_of o (e.cyclic || turn_of numbers flags o))
    given = ap (λ (x : Option Spot). option_and_then (picked_spot numbers flags e.cyclic) x) at

    same : (needed_of o (e.cyclic || turn_of numbers flags o)).object ≡ o
    same = refl

  -- an object stands as a vertex, and at a place of the order
  stands : (o : NodeRef) → is_object o → (k : ℕ) × (e : vertex.Needed) × (slice_get order k ≡ Some e) × (slice_get found e.vertex ≡ Some (spot m.Needs o))
  stands o obj =
      let (i, at) = is.way.seeded (spot m.Needs o) (are.needs o obj) in
      let low = slice_get_within found i (spot m.Needs o) at in
      let (k, e, at_k, e_is) = full.«is».each i (let s = is.size in omega arith) in
      (k, e, at_k, ap (λ x. slice_get found x) e_is ∙ at)

  found_object : (e : vertex.Needed) (o : NodeRef) → slice_get found e.vertex ≡ Some (spot m.Needs o) → is_object o
  found_object e o at = are.only (spot m.Needs o) (is.way.from e.vertex (spot m.Needs o) at) refl

  -- a type's steps are marked where they turn
  turn_found : (o : NodeRef) (i : ℕ) → slice_get found i ≡ Some (spot m.Steps o) → (turn_of numbers flags o ≡ true) ↔ Turns moves o
  turn_found o i at =
      let low = slice_get_within found i (spot m.Steps o) at in
      let (k, e, at_k, e_is) = full.«is».each i (let s = is.size in omega arith) in
      let at_e : slice_get found e.vertex ≡ Some (spot m.Steps o) = ap (λ x. slice_get found x) e_is ∙ at in
      let value : turn_of numbers flags o ≡ flag_in flags i = ap (λ (x : Option ℕ). option_map_or (λ n. flag_in flags n) x false) (is.numbered.there i (spot m.Steps o) at) in
      let same : turn_of numbers flags o ≡ e.cyclic = value ∙ (ap (λ n. flag_in flags n) (sym e_is) ∙ flagged k e at_k) in (
        λ turn. leads_spots moves seeds found numbers rows is e.vertex e.vertex (spot m.Steps o) (spot m.Steps o) at_e at_e ((full.«is».cyclic k e at_k).0 (sym same ∙ turn)),
        λ turns. same ∙ (full.«is».cyclic k e at_k).1 (leads_numbers moves seeds found numbers rows is e.vertex e.vertex (spot m.Steps o) (spot m.Steps o) at_e at_e turns),
      )

  -- steps that aren't looked for don't turn
  turn_lost : (o : NodeRef) → is_object o → kept_in numbers (key_of (spot m.Steps o)) ≡ None → Turns moves o → ⊥
  turn_lost o obj none turns = elim (are.steps o obj) [
    | inl seed ↦ (let (i, at) = is.way.seeded (spot m.Steps o) seed in none_some i (sym none ∙ is.numbered.there i (spot m.Steps o) at))
    | inr still ↦ still turns
  ]

  turn_is : (o : NodeRef) → is_object o → (turn_of numbers flags o ≡ true) ↔ Turns moves o
  turn_is o obj = by (kept_in numbers (key_of (spot m.Steps o))) refl where
    by : (q : Option ℕ) → kept_in numbers (key_of (spot m.Steps o)) ≡ q → (turn_of numbers flags o ≡ true) ↔ Turns moves o
    by None none = (
      λ turn. absurd (false_true (sym (ap (λ (x : Option ℕ). option_map_or (λ n. flag_in flags n) x false) none) ∙ turn)),
      λ turns. absurd (turn_lost o obj none turns),
    )
    by (Some i) some = turn_found o i (is.numbered.back i (spot m.Steps o) some)

  one_place : (j k : ℕ) (e f : Needed) → slice_get (filter_map (picked found numbers flags) order) j ≡ Some e → slice_get (filter_map (picked found numbers flags) order) k ≡ Some f → e.object ≡ f.object → j < k → ⊥
  one_place j k e f at_j at_k same less =
      let (a, b, x, z, low, at_x, at_z, picks_x, picks_z) = picked_apart (picked found numbers flags) order j k e f less at_j at_k in
      let one = (gives x e picks_x).0 in
      let two = (gives z f picks_z).0 in
      let vertices : x.vertex ≡ z.vertex = found_once moves seeds found numbers rows is x.vertex z.vertex (spot m.Needs f.object) (one ∙ ap (λ (o : NodeRef). Some (spot m.Needs o)) same) two in
      let places : a ≡ b = full.«is».once a b x z at_x at_z vertices in omega arith

  once : (j k : ℕ) (e f : Needed) → slice_get (filter_map (picked found numbers flags) order) j ≡ Some e → slice_get (filter_map (picked found numbers flags) order) k ≡ Some f → e.object ≡ f.object → j ≡ k
  once j k e f at_j at_k same = elim (order_cases j k) [
    | inl less ↦ absurd (one_place j k e f at_j at_k same less)
    | inr rest ↦ elim rest [
      | inl is_same ↦ is_same
      | inr more ↦ absurd (one_place k j f e at_k at_j (sym same) more)
    ]
  ]

  after : (k : ℕ) (e : Needed) → slice_get (filter_map (picked found numbers flags) order) k ≡ Some e → (u : NodeRef) → NeedsBy moves e.object u → ¬ Leads (NeedsBy moves) u e.object
      → (j : ℕ) × (f : Needed) × (j < k) × (slice_get (filter_map (picked found numbers flags) order) j ≡ Some f) × (f.object ≡ u)
  after k e at u (inr (same, turns)) apart = absurd (apart (subst (λ (x : NodeRef). Leads (NeedsBy moves) x e.object) (sym same) (turns_need moves e.object e.object refl turns)))
  after k e at u (inl hop) apart =
      let (a, x, at_x, picks) = picked_from (picked found numbers flags) order k e at in
      let here = (gives x e picks).0 in
      let search = hop_search moves e.object u hop in
      let (v, at_v, leads) = path_numbers moves seeds found numbers rows is search.0 x.vertex (spot m.Needs e.object) (spot m.Needs u) here search.1 in
      let (b, y, less, at_y, y_is) = full.beyond a x at_x v leads (λ led. apart (search_needs moves u e.object
      (leads_spots moves seeds found numbers rows is v x.vertex (spot m.Needs u) (spot m.Needs e.object) at_v here led))) in
      let (f, picks_f, f_is) = given_back y u (ap (λ n. slice_get found n) y_is ∙ at_v) in
      let (j, i, low, at_j, at_i) = picked_pair (picked found numbers flags) order b a y x f e less at_y at_x picks_f picks in
      let k_is : i ≡ k = once i k e e at_i at refl in
      (j, f, omega arith, at_j, f_is)

  marked : (k : ℕ) (e : Needed) → slice_get (filter_map (picked found numbers flags) order) k ≡ Some e → IsTrue e.cyclic ↔ Leads (NeedsBy moves) e.object e.object
  marked k e at =
      let (a, x, at_x, picks) = picked_from (picked found numbers flags) order k e at in
      let given = gives x e picks in
      let obj = found_object x e.object given.0 in
      let flag = full.«is».cyclic a x at_x in (
        λ set. elim (or_cases x.cyclic (turn_of numbers flags e.object) (sym given.1 ∙ set)) [
          | inl own ↦ search_needs moves e.object e.object (leads_spots moves seeds found numbers rows is x.vertex x.vertex (spot m.Needs e.object) (spot m.Needs e.object) given.0 given.0 (flag.0 own))
          | inr turn ↦ turns_need moves e.object e.object refl ((turn_is e.object obj).0 turn)
        ],
        λ leads. given.1 ∙ elim (cyclic_search moves e.object leads) [
          | inl search ↦ or_left x.cyclic (turn_of numbers flags e.object) (flag.1 (leads_numbers moves seeds found numbers rows is x.vertex x.vertex (spot m.Needs e.object) (spot m.Needs e.object) given.0 given.0 search))
          | inr turns ↦ or_right x.cyclic (turn_of numbers flags e.object) ((turn_is e.object obj).1 turns)
        ],
      )

  pub need_order_of : (result : List Needed) → result ≡ filter_map (picked found numbers flags) order → IsNeedOrder (NeedsBy moves) is_object result
  need_order_of result result_is = subst (λ (x : List Needed). IsNeedOrder (NeedsBy moves) is_object x) (sym result_is) (record {
    only = λ k e at. (let (a, x, at_x, picks) = picked_from (picked found numbers flags) order k e at in found_object x e.object (gives x e picks).0);
    each = λ o obj. (let (k, e, at, here) = stands o obj in
        let (y, picks, same) = given_back e o here in
        let (j, at_j) = picked_at (picked found numbers flags) order k e y at picks in (j, y, at_j, same));
    once = once;
    after = after;
    cyclic = marked;
  })
