-- Where no type leads to a value, the values that lead back to themselves do so by way of values that mention values.
use Rattle.std.proofs.Common.{◌≡◌, ◌⊎◌, ℕ, zero, suc, ◌&&◌, Bool, true, false, not, if◌then◌else◌, List, [], ◌∷◌, ◌++◌, map, slice_get, Option, Some, None, option_map, option_and_then, unwrap_or, refl, sym, ap, ◌∙◌, subst, inl, inr}
use Rattle.std.proofs.lemmas.Option.{slice_get-map}
use Rattle.std.specs.Global.{Vec}
use Rattle.std.specs.HashMap.{HashMap}
use Rattle.std.specs.List.{cons_option, flat_map, list_all}
use Rattle.std.specs.Option.{option_map_or}
use Rattle.go_tree.specs.Spells.{Among}
use Rattle.go_tree.specs.declared.tree.FileTree.{FileTree}
use Rattle.go_tree.specs.declared.tree.NodeRef.{NodeRef}
use Rattle.object_order.specs.declared.needed.Needed.{Needed}
use Rattle.object_order.specs.declared.spot.Entry.{Entry}
use Rattle.object_order.specs.declared.spot.Form.{Form}
use Rattle.object_order.specs.declared.spot.Form.TheVariants as f
use Rattle.object_order.specs.declared.spot.Root.{Root}
use Rattle.object_order.specs.Cases.{IsPart, Within, itself, deeper, Is, HasMention, IsMethodOf, own, by_name, Reaches}
use Rattle.object_order.specs.Names.{AreNamed}
use Rattle.object_order.specs.Paths.{Path}
use Rattle.object_order.specs.Picks.{flag_in}
use Rattle.object_order.specs.Quiet.{AreQuiet, quiet_at}
use Rattle.object_order.specs.Spots.{World, place}
use Rattle.object_order.specs.Views.{node_in, meant_in, entry_in, kin_in, number_in, group_in, itself as cell_itself}
use Rattle.name_circles.specs.Circles.{Circles, AreMarked}
use Rattle.name_circles.specs.Values.{is_value, value_entry, flagged_in, chosen, chosen_items, cells_of, is_still, is_settled, is_still_name, is_still_group, are_apart, leads_on, if_kept, kept_entries, if_cyclic, AreValueCircles}

-- ---- lists

some_same : {X : Type 0} (x y : X) → ◌≡◌ {A = Option X} (Some x) (Some y) → x ≡ y
some_same x y e = cc

none_some : {X : Type 0} (x : X) → ◌≡◌ {A = Option X} None (Some x) → ⊥
none_some x e = cc

no_both : (b : Bool) → b ≡ true → b ≡ false → ⊥
no_both true e h = cc
no_both false e h = cc

not_true : (b : Bool) → (b ≡ true → ⊥) → b ≡ false
not_true true never = absurd (never refl)
not_true false never = refl

both_were : (a b : Bool) → (a && b) ≡ true → (a ≡ true) × (b ≡ true)
both_were true b e = (refl, e)
both_were false b e = absurd (cc)

among_at : {X : Type 0} (xs : List X) (k : ℕ) (x : X) → slice_get xs k ≡ Some x → Among x xs
among_at [] k x e = absurd (cc)
among_at (y ∷ xs) zero x e = inl (some_same y x e)
among_at (y ∷ xs) (suc k) x e = inr (among_at xs k x e)

at_among : {X : Type 0} (xs : List X) (x : X) → Among x xs → (k : ℕ) × (slice_get xs k ≡ Some x)
at_among [] x h = absurd h
at_among (y ∷ xs) x (inl e) = (0, ap Some e)
at_among (y ∷ xs) x (inr h) = let r = at_among xs x h in (suc r.0, r.1)

in_left : {X : Type 0} (x : X) (xs ys : List X) → Among x xs → Among x (xs ++ ys)
in_left x [] ys h = absurd h
in_left x (y ∷ xs) ys (inl e) = inl e
in_left x (y ∷ xs) ys (inr h) = inr (in_left x xs ys h)

in_right : {X : Type 0} (x : X) (xs ys : List X) → Among x ys → Among x (xs ++ ys)
in_right x [] ys h = h
in_right x (y ∷ xs) ys h = inr (in_right x xs ys h)

in_either : {X : Type 0} (x : X) (xs ys : List X) → Among x (xs ++ ys) → Among x xs ⊎ Among x ys
in_either x [] ys h = inr h
in_either x (y ∷ xs) ys (inl e) = inl (inl e)
in_either x (y ∷ xs) ys (inr h) = elim (in_either x xs ys h) [ inl a ↦ inl (inr a) | inr b ↦ inr b ]

flat_in : {X Y : Type 0} (g : X → List Y) (xs : List X) (x : X) (y : Y) → Among x xs → Among y (g x) → Among y (flat_map g xs)
flat_in g [] x y h there = absurd h
flat_in g (z ∷ xs) x y (inl e) there = in_left y (g z) (flat_map g xs) (subst (λ (v : _). Among y (g v)) (sym e) there)
flat_in g (z ∷ xs) x y (inr h) there = in_right y (g z) (flat_map g xs) (flat_in g xs x y h there)

flat_out : {X Y : Type 0} (g : X → List Y) (xs : List X) (y : Y) → Among y (flat_map g xs) → (x : X) × Among x xs × Among y (g x)
flat_out g [] y h = absurd h
flat_out g (z ∷ xs) y h = elim (in_either y (g z) (flat_map g xs) h) [
  | inl here ↦ (z, inl refl, here)
  | inr later ↦ (let (x, among, there) = flat_out g xs y later in (x, inr among, there))
]

all_has : {X : Type 0} (test : X → Bool) (xs : List X) (x : X) → list_all test xs ≡ true → Among x xs → test x ≡ true
all_has test [] x e h = absurd h
all_has test (y ∷ xs) x e (inl same) = ap test (sym same) ∙ (both_were (test y) (list_all test xs) e).0
all_has test (y ∷ xs) x e (inr h) = all_has test xs x (both_were (test y) (list_all test xs) e).1 h

-- ---- declarations by their names

entry_number : {S : Type 0} (entries : List Entry) (numbers : HashMap (ℕ × ℕ) ℕ S) (o : NodeRef) (e : Entry) → entry_in entries numbers o ≡ Some e
    → (n : ℕ) × (number_in numbers (o.file, o.node) ≡ Some n) × (slice_get entries n ≡ Some e)
entry_number entries numbers o e is = by (number_in numbers (o.file, o.node)) refl is where
  by : (x : Option ℕ) → number_in numbers (o.file, o.node) ≡ x → option_and_then (λ n. slice_get entries n) x ≡ Some e
      → (n : ℕ) × (number_in numbers (o.file, o.node) ≡ Some n) × (slice_get entries n ≡ Some e)
  by None none h = absurd (cc)
  by (Some n) there h = (n, there, h)

named_self : {S : Type 0} (entries : List Entry) (numbers : HashMap (ℕ × ℕ) ℕ S) → AreNamed entries numbers → (o : NodeRef) (e : Entry) → entry_in entries numbers o ≡ Some e → e.name ≡ o
named_self entries numbers named o e is =
    let (n, number, at) = entry_number entries numbers o e is in
    let (d, there, same) = named.«is» n o number in
    let one : d ≡ e = some_same d e (sym there ∙ at) in
    ap (λ (x : Entry). x.name) (sym one) ∙ same

flag_of : {S : Type 0} (entries : List Entry) (numbers : HashMap (ℕ × ℕ) ℕ S) (test : Entry → Bool) (o : NodeRef) (e : Entry) → entry_in entries numbers o ≡ Some e
    → flagged_in numbers (map test entries) o ≡ test e
flag_of entries numbers test o e is =
    let (n, number, at) = entry_number entries numbers o e is in
    ap (λ (x : Option ℕ). option_map_or (flag_in (map test entries)) x false) number
    ∙ ap (λ (x : Option Bool). unwrap_or x false) (slice_get-map test entries n ∙ ap (option_map test) at)

-- ---- what nodes mention

module _ {S : Type 0} (numbers : HashMap (ℕ × ℕ) ℕ S) (flags : List Bool) where
  inner_cell : (o : Option (Option NodeRef)) → option_and_then cell_itself (option_map (chosen numbers flags) o) ≡ chosen numbers flags (option_and_then cell_itself o)
  inner_cell None = refl
  inner_cell (Some c) = refl

  cell_in : (xs : List (Option NodeRef)) (k : ℕ) → option_and_then cell_itself (slice_get (map (chosen numbers flags) xs) k) ≡ chosen numbers flags (option_and_then cell_itself (slice_get xs k))
  cell_in xs k = ap (λ (o : Option (Option NodeRef)). option_and_then cell_itself o) (slice_get-map (chosen numbers flags) xs k) ∙ inner_cell (slice_get xs k)

  abbrev cell_of : ℕ → Option (Vec (Option NodeRef)) → Option NodeRef
  cell_of k o = option_and_then (λ (row : Vec (Option NodeRef)). option_and_then cell_itself (slice_get row.items k)) o

  row_in : (k : ℕ) (r m : Option (Vec (Option NodeRef))) → option_map cells_of r ≡ option_map (chosen_items numbers flags) m → cell_of k r ≡ chosen numbers flags (cell_of k m)
  row_in k None None e = refl
  row_in k None (Some m) e = absurd (cc)
  row_in k (Some r) None e = absurd (cc)
  row_in k (Some r) (Some m) e =
      ap (λ (xs : List (Option NodeRef)). option_and_then cell_itself (slice_get xs k)) (some_same r.items (map (chosen numbers flags) m.items) e) ∙ cell_in m.items k

  chosen_meant : (meant rows : List (Vec (Option NodeRef))) → map cells_of rows ≡ map (chosen_items numbers flags) meant → (at : NodeRef) → meant_in rows at ≡ chosen numbers flags (meant_in meant at)
  chosen_meant meant rows are at =
      row_in at.node (slice_get rows at.file) (slice_get meant at.file)
      (sym (slice_get-map cells_of rows at.file) ∙ (ap (λ (xs : List (List (Option NodeRef))). slice_get xs at.file) are ∙ slice_get-map (chosen_items numbers flags) meant at.file))

  unchosen : (b : NodeRef) (o : Option NodeRef) → chosen numbers flags o ≡ Some b → o ≡ Some b
  unchosen b None e = absurd (cc)
  unchosen b (Some u) e = by (flagged_in numbers flags u) e where
    by : (t : Bool) → (if t then Some u else None) ≡ Some b → Some u ≡ Some b
    by true h = h
    by false h = absurd (cc)

-- ---- forms

value_form : (x : Form) (b : Bool) → (if is_value x then b else false) ≡ true → x ≡ f.Other
value_form f.Other b e = refl
value_form f.Defined b e = absurd (cc)
value_form f.Alias b e = absurd (cc)

lead_by : (x : Form) (s : Bool) → (if is_value x then true else s) ≡ true → s ≡ false → (if is_value x then not s else false) ≡ true
lead_by f.Other s e loud = ap not loud
lead_by f.Defined s e loud = absurd (no_both s e loud)
lead_by f.Alias s e loud = absurd (no_both s e loud)

if_both : (a b : Bool) → (if a then b else false) ≡ true → (a ≡ true) × (b ≡ true)
if_both true b e = (refl, e)
if_both false b e = absurd (cc)

-- ---- a package in which no type leads to a value

abbrev pub world_by : {S : Type 0} → List FileTree → List (Vec (Option NodeRef)) → List Entry → HashMap (ℕ × ℕ) ℕ S → List (Vec NodeRef) → World
world_by trees meant entries numbers groups = record { node = node_in trees; meant = meant_in meant; entry = entry_in entries numbers; kin = kin_in groups numbers }

module _ {S : Type 0} (trees : List FileTree) (meant : List (Vec (Option NodeRef))) (entries : List Entry) (numbers : HashMap (ℕ × ℕ) ℕ S) (groups : List (Vec NodeRef)) (quiet : List (Vec Bool))
    (all : List (Vec (Option NodeRef))) (named : AreNamed entries numbers) (all_are : map cells_of all ≡ map (chosen_items numbers (map value_entry entries)) meant)
    (are : AreQuiet false (node_in trees) (meant_in all) (quiet_at quiet)) (settled : list_all (is_settled quiet) entries ≡ true) (still : list_all (is_still_group entries numbers quiet) groups ≡ true) where
  abbrev w : World
  w = world_by trees meant entries numbers groups

  within_quiet : {a n : NodeRef} → Within w a n → quiet_at quiet a ≡ true → quiet_at quiet n ≡ true
  within_quiet (itself e) q = ap (quiet_at quiet) (sym e) ∙ q
  within_quiet {a} (deeper {b = b} p rest) q =
      let here : place a.file b.node ≡ b = ap (λ (x : ℕ). place x b.node) (sym p.file) in
      within_quiet rest (ap (quiet_at quiet) (sym here) ∙ (are a q).parts p.node p.inner b.node p.«is» p.among (ap (node_in trees) here ∙ p.there) p.no_body)

  -- a declaration that mentions a value isn't still
  loud : (o : NodeRef) (e : Entry) (b : NodeRef) → entry_in entries numbers o ≡ Some e → HasMention w o b → Is w b f.Other → is_still quiet e ≡ false
  loud o e b is (role, at, root, m) (d, d_at, other) = not_true (is_still quiet e) (λ silent.
      let (n, inside, mention) = m in
      let same : root.entry ≡ e = some_same root.entry e (sym root.declared ∙ is) in
      let among : Among root.root e.roots = subst (λ (x : Entry). Among root.root x.roots) same root.among in
      let first : quiet_at quiet (place e.name.file root.root.node) ≡ true = all_has (λ (r : Root). quiet_at quiet (place e.name.file r.node)) e.roots root.root silent among in
      let here : quiet_at quiet at ≡ true =
      ap (quiet_at quiet) (sym root.at_is) ∙ (ap (λ (x : NodeRef). quiet_at quiet (place x.file root.root.node)) (sym (named_self entries numbers named o e is)) ∙ first) in
      let none : meant_in all n ≡ None = (are n (within_quiet inside here)).mentions in
      let some : meant_in all n ≡ Some b =
      chosen_meant numbers (map value_entry entries) meant all all_are n
      ∙ (ap (chosen numbers (map value_entry entries)) mention.meant ∙ ap (λ (t : Bool). if t then Some b else None) (flag_of entries numbers value_entry b d d_at ∙ ap is_value other)) in
      none_some b (sym none ∙ some))

  in_nth : (m : NodeRef) (n : ℕ) (o : Option (Vec NodeRef)) → slice_get groups n ≡ o → Among m (option_map_or (λ (g : Vec NodeRef). g.items) o []) → is_still_name entries numbers quiet m ≡ true
  in_nth m n None there h = absurd h
  in_nth m n (Some g) there h = all_has (is_still_name entries numbers quiet) g.items m (all_has (is_still_group entries numbers quiet) groups g still (among_at groups n g there)) h

  in_kin : (m : NodeRef) (o : Option ℕ) → Among m (option_map_or (λ n. group_in groups n) o []) → is_still_name entries numbers quiet m ≡ true
  in_kin m None h = absurd h
  in_kin m (Some n) h = in_nth m n (slice_get groups n) refl h

  method_still : {t m : NodeRef} → IsMethodOf w t m → is_still_name entries numbers quiet m ≡ true
  method_still {t} {m} (own among is) = in_kin m (number_in numbers (t.file, t.node)) among
  method_still (by_name form among is apart more) = method_still more

  no_method : (a b m : NodeRef) → IsMethodOf w a m → HasMention w m b → Is w b f.Other → ⊥
  no_method a b m of (role, at, root, rest) value =
      no_both (is_still quiet root.entry) (ap (λ (o : Option Entry). option_map_or (is_still quiet) o true) (sym root.declared) ∙ method_still of)
      (loud m root.entry b root.declared (role, at, root, rest) value)

  -- a value whose declaration mentions a value
  record Leading (o : NodeRef) : Type 0 where
    pub entry : Entry
    pub declared : entry_in entries numbers o ≡ Some entry
    pub leads : leads_on quiet entry ≡ true

  leading_value : (o : NodeRef) → Leading o → Is w o f.Other
  leading_value o k = (k.entry, k.declared, value_form k.entry.form (not (is_still quiet k.entry)) k.leads)

  entry_among : (o : NodeRef) (e : Entry) → entry_in entries numbers o ≡ Some e → Among e entries
  entry_among o e is = let (n, number, at) = entry_number entries numbers o e is in among_at entries n e at

  step : (a b : NodeRef) → Reaches w a b → Is w b f.Other → Leading a
  step a b (inl (role, at, root, m)) value = record {
    entry = root.entry;
    declared = root.declared;
    leads = lead_by root.entry.form (is_still quiet root.entry) (all_has (is_settled quiet) entries root.entry settled (entry_among a root.entry root.declared))
        (loud a root.entry b root.declared (role, at, root, m) value);
  }
  step a b (inr (m, of, has)) value = absurd (no_method a b m of has value)

  -- what leads to a value does so by way of such values
  leads_there : (a b : NodeRef) (via : List NodeRef) → Path (Reaches w) a via b → Is w b f.Other → Leading a
  leads_there a b [] edge value = step a b edge value
  leads_there a b (c ∷ via) (edge, rest) value = step a c edge (leading_value c (leads_there c b via rest value))

  -- ---- the same by these values alone

  module _ {T : Type 0} (rows : List (Vec (Option NodeRef))) (kept : List Entry) (kept_numbers : HashMap (ℕ × ℕ) ℕ T) (rows_are : map cells_of rows ≡ map (chosen_items numbers (map (leads_on quiet) entries)) meant)
      (kept_are : kept ≡ kept_entries entries numbers (map (leads_on quiet) entries)) (kept_named : AreNamed kept kept_numbers) where
    abbrev flags : List Bool
    flags = map (leads_on quiet) entries

    abbrev few : World
    few = world_by trees rows kept kept_numbers []

    record Stays (d : Entry) : Type 0 where
      pub declared : entry_in entries numbers d.name ≡ Some d
      pub leads : leads_on quiet d ≡ true

    of_kept : (e d : Entry) → Among d (if_kept entries numbers flags e) → Stays d
    of_kept e d h = by (flagged_in numbers flags e.name) refl (entry_in entries numbers e.name) refl h where
      by : (b : Bool) → flagged_in numbers flags e.name ≡ b → (o : Option Entry) → entry_in entries numbers e.name ≡ o → Among d (if b then cons_option o [] else []) → Stays d
      by false is o there k = absurd k
      by true is None there k = absurd k
      by true is (Some x) there (inl same) =
          let here : entry_in entries numbers e.name ≡ Some d = there ∙ ap Some same in
          record {
            declared = ap (entry_in entries numbers) (named_self entries numbers named e.name d here) ∙ here;
            leads = sym (flag_of entries numbers (leads_on quiet) e.name d here) ∙ is;
          }
      by true is (Some x) there (inr k) = absurd k

    kept_is : (k : ℕ) (d : Entry) → slice_get kept k ≡ Some d → Stays d
    kept_is k d there =
        let (e, e_in, d_in) = flat_out (if_kept entries numbers flags) entries d (subst (λ (es : List Entry). Among d es) kept_are (among_at kept k d there)) in
        of_kept e d d_in

    kept_has : (o : NodeRef) (e : Entry) → entry_in entries numbers o ≡ Some e → leads_on quiet e ≡ true → entry_in kept kept_numbers o ≡ Some e
    kept_has o e is leads =
        let name = named_self entries numbers named o e is in
        let flag : flagged_in numbers flags e.name ≡ true = ap (flagged_in numbers flags) name ∙ (flag_of entries numbers (leads_on quiet) o e is ∙ leads) in
        let here : if_kept entries numbers flags e ≡ e ∷ [] =
        ap (λ (b : Bool). if b then cons_option (entry_in entries numbers e.name) [] else []) flag ∙ ap (λ (x : Option Entry). cons_option x []) (ap (entry_in entries numbers) name ∙ is) in
        let among : Among e kept = subst (λ (es : List Entry). Among e es) (sym kept_are)
        (flat_in (if_kept entries numbers flags) entries e e (entry_among o e is) (subst (λ (es : List Entry). Among e es) (sym here) (inl refl))) in
        let (j, there) = at_among kept e among in
        let (k, number) = kept_named.has j e there in
        let (d, d_at, d_name) = kept_named.«is» k e.name number in
        let same : d ≡ e = some_same d e (sym (kept_is k d d_at).declared ∙ (ap (entry_in entries numbers) (d_name ∙ name) ∙ is)) in
        ap (entry_in kept kept_numbers) (sym name) ∙ (ap (λ (x : Option ℕ). option_and_then (λ i. slice_get kept i) x) number ∙ (d_at ∙ ap Some same))

    kept_entry : (o : NodeRef) (d : Entry) → entry_in kept kept_numbers o ≡ Some d → entry_in entries numbers o ≡ Some d
    kept_entry o d is =
        let (n, number, at) = entry_number kept kept_numbers o d is in
        ap (entry_in entries numbers) (sym (named_self kept kept_numbers kept_named o d is)) ∙ (kept_is n d at).declared

    part_to : {a b : NodeRef} → IsPart w a b → IsPart few a b
    part_to p = record { node = p.node; inner = p.inner; «is» = p.«is»; among = p.among; file = p.file; there = p.there; no_body = p.no_body }

    within_to : {a n : NodeRef} → Within w a n → Within few a n
    within_to (itself e) = itself e
    within_to (deeper p rest) = deeper (part_to p) (within_to rest)

    part_from : {a b : NodeRef} → IsPart few a b → IsPart w a b
    part_from p = record { node = p.node; inner = p.inner; «is» = p.«is»; among = p.among; file = p.file; there = p.there; no_body = p.no_body }

    within_from : {a n : NodeRef} → Within few a n → Within w a n
    within_from (itself e) = itself e
    within_from (deeper p rest) = deeper (part_from p) (within_from rest)

    step_to : (a b : NodeRef) → Reaches w a b → Leading b → Reaches few a b
    step_to a b (inl (role, at, root, m)) k =
        let (n, inside, mention) = m in
        let from = step a b (inl (role, at, root, m)) (leading_value b k) in
        let leads : leads_on quiet root.entry ≡ true = subst (λ (e : Entry). leads_on quiet e ≡ true) (some_same from.entry root.entry (sym from.declared ∙ root.declared)) from.leads in
        inl (
          role,
          at,
          record { entry = root.entry; declared = kept_has a root.entry root.declared leads; root = root.root; among = root.among; role_is = root.role_is; at_is = root.at_is },
          (
            n,
            within_to inside,
            record {
              entry = k.entry;
              meant = chosen_meant numbers flags meant rows rows_are n
                  ∙ (ap (chosen numbers flags) mention.meant ∙ ap (λ (t : Bool). if t then Some b else None) (flag_of entries numbers (leads_on quiet) b k.entry k.declared ∙ k.leads));
              declared = kept_has b k.entry k.declared k.leads;
            },
          ),
        )
    step_to a b (inr (m, of, has)) k = absurd (no_method a b m of has (leading_value b k))

    path_to : (a b : NodeRef) (via : List NodeRef) → Path (Reaches w) a via b → Leading b → Path (Reaches few) a via b
    path_to a b [] edge k = step_to a b edge k
    path_to a b (c ∷ via) (edge, rest) k = (step_to a c edge (leads_there c b via rest (leading_value b k)), path_to c b via rest k)

    no_group : (n : ℕ) → group_in [] n ≡ []
    no_group zero = refl
    no_group (suc n) = refl

    no_kin : (o : NodeRef) → few.kin o ≡ []
    no_kin o = by (number_in kept_numbers (o.file, o.node)) where
      by : (x : Option ℕ) → option_map_or (λ n. group_in [] n) x [] ≡ []
      by None = refl
      by (Some n) = no_group n

    no_few : (a m : NodeRef) → IsMethodOf few a m → ⊥
    no_few a m (own among is) = subst (λ (ms : List NodeRef). Among m ms) (no_kin a) among
    no_few a m (by_name {a = x} form among is apart more) = subst (λ (ms : List NodeRef). Among x ms) (no_kin a) among

    step_from : (a b : NodeRef) → Reaches few a b → Reaches w a b
    step_from a b (inl (role, at, root, m)) =
        let (n, inside, mention) = m in
        inl (
          role,
          at,
          record { entry = root.entry; declared = kept_entry a root.entry root.declared; root = root.root; among = root.among; role_is = root.role_is; at_is = root.at_is },
          (
            n,
            within_from inside,
            record {
              entry = mention.entry;
              meant = unchosen numbers flags b (meant_in meant n) (sym (chosen_meant numbers flags meant rows rows_are n) ∙ mention.meant);
              declared = kept_entry b mention.entry mention.declared;
            },
          ),
        )
    step_from a b (inr (m, of, has)) = absurd (no_few a m of)

    path_from : (a b : NodeRef) (via : List NodeRef) → Path (Reaches few) a via b → Path (Reaches w) a via b
    path_from a b [] edge = step_from a b edge
    path_from a b (c ∷ via) (edge, rest) = (step_from a c edge, path_from c b via rest)

    of_cyclic : (e : Needed) (o : NodeRef) → Among o (if_cyclic e) → (e.cyclic ≡ true) × (e.object ≡ o)
    of_cyclic e o h = by e.cyclic refl h where
      by : (b : Bool) → e.cyclic ≡ b → Among o (if b then e.object ∷ [] else []) → (e.cyclic ≡ true) × (e.object ≡ o)
      by true is (inl same) = (is, same)
      by true is (inr k) = absurd k
      by false is k = absurd k

    module _ (order : List Needed) (list : List NodeRef) (marked : AreMarked few kept order) (list_is : list ≡ flat_map if_cyclic order) where
      listed_to : (o : NodeRef) → Among o list → Is w o f.Other × Circles w o
      listed_to o h =
          let (e, e_in, o_in) = flat_out if_cyclic order o (subst (λ (l : List NodeRef). Among o l) list_is h) in
          let (cyclic, same) = of_cyclic e o o_in in
          let (k, there) = at_among order e e_in in
          let (via, path) = subst (λ (x : NodeRef). Circles few x) same ((marked.marks k e there (no_kin e.object)).0 cyclic) in
          let (j, d, d_at, d_name) = marked.only k e there in
          let stays = kept_is j d d_at in
          ((d, ap (entry_in entries numbers) (sym (d_name ∙ same)) ∙ stays.declared, value_form d.form (not (is_still quiet d)) stays.leads), (via, path_from o o via path))

      listed_from : (o : NodeRef) → Is w o f.Other × Circles w o → Among o list
      listed_from o (value, circle) =
          let (via, path) = circle in
          let k = leads_there o o via path value in
          let turn : Circles few o = (via, path_to o o via path k) in
          let (n, number, at) = entry_number kept kept_numbers o k.entry (kept_has o k.entry k.declared k.leads) in
          let (i, item, item_at, same) = marked.each o (n, k.entry, at, named_self entries numbers named o k.entry k.declared) in
          let cyclic : item.cyclic ≡ true = (marked.marks i item item_at (no_kin item.object)).1 (subst (λ (x : NodeRef). Circles few x) (sym same) turn) in
          let one : if_cyclic item ≡ item.object ∷ [] = ap (λ (b : Bool). if b then item.object ∷ [] else []) cyclic in
          subst (λ (l : List NodeRef). Among o l) (sym list_is)
          (flat_in if_cyclic order item o (among_at order i item item_at) (subst (λ (l : List NodeRef). Among o l) (sym one) (inl same)))

pub value_circles_are : {S T : Type 0} (trees : List FileTree) (meant : List (Vec (Option NodeRef))) (entries : List Entry) (numbers : HashMap (ℕ × ℕ) ℕ S) (groups : List (Vec NodeRef)) (quiet : List (Vec Bool))
    (all rows : List (Vec (Option NodeRef))) (kept : List Entry) (kept_numbers : HashMap (ℕ × ℕ) ℕ T) (order : List Needed) (list : List NodeRef) → AreNamed entries numbers
    → map cells_of all ≡ map (chosen_items numbers (map value_entry entries)) meant → AreQuiet false (node_in trees) (meant_in all) (quiet_at quiet) → are_apart entries numbers groups quiet ≡ true
    → map cells_of rows ≡ map (chosen_items numbers (map (leads_on quiet) entries)) meant → kept ≡ kept_entries entries numbers (map (leads_on quiet) entries) → AreNamed kept kept_numbers
    → AreMarked (world_by trees rows kept kept_numbers []) kept order → list ≡ flat_map if_cyclic order → AreValueCircles (world_by trees meant entries numbers groups) list
value_circles_are trees meant entries numbers groups quiet all rows kept kept_numbers order list named all_are are apart rows_are kept_are kept_named marked list_is o =
    let (settled, still) = if_both (list_all (is_settled quiet) entries) (list_all (is_still_group entries numbers quiet) groups) apart in (
      listed_to trees meant entries numbers groups quiet all named all_are are settled still rows kept kept_numbers rows_are kept_are kept_named order list marked list_is o,
      listed_from trees meant entries numbers groups quiet all named all_are are settled still rows kept kept_numbers rows_are kept_are kept_named order list marked list_is o,
    )
