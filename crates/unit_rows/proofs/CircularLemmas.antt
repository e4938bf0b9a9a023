-- The flags of a package say which of its names lead back to themselves.
use Rattle.std.proofs.Common.{◌≡◌, ◌↔◌, ◌&&◌, ◌==◌, ◌⊎◌, ℕ, zero, suc, ◌+◌, ◌<◌, ◌≤◌, IsTrue, Bool, true, false, if◌then◌else◌, List, [], ◌∷◌, ◌++◌, map, length, slice_get, Option, Some, None, option_map, option_and_then, refl, sym, ap, ◌∙◌, subst, inl, inr, arith}
use Rattle.std.proofs.Math.Path.{fun_ext}
use Rattle.std.proofs.lemmas.Bool.Decides.{nat_tests}
use Rattle.std.proofs.lemmas.Option.{slice_get-map, slice_get_within}
use Rattle.std.specs.Global.{Vec}
use Rattle.std.specs.HashMap.{HashMap}
use Rattle.std.specs.List.{flat_map}
use Rattle.std.specs.Option.{option_map_or}
use Rattle.go_tree.specs.Spells.{Among}
use Rattle.go_tree.specs.declared.tree.FileTree.{FileTree}
use Rattle.go_tree.specs.declared.tree.Node.{Node}
use Rattle.go_tree.specs.declared.tree.NodeRef.{NodeRef}
use Rattle.object_order.specs.declared.needed.Needed.{Needed}
use Rattle.object_order.specs.declared.spot.Entry.{Entry}
use Rattle.object_order.specs.declared.spot.Form.{Form}
use Rattle.object_order.specs.declared.spot.Form.TheVariants as form
use Rattle.object_order.specs.Cases.{Is}
use Rattle.object_order.specs.Names.{AreNamed, IsNamed}
use Rattle.object_order.specs.Spots.{World, place}
use Rattle.object_order.specs.Views.{same_key, node_in, number_in, entry_in, meant_in, group_in, kin_in}
use Rattle.package_objects.specs.Declares.{gather, declared}
use Rattle.package_needs.specs.Worlds.{name_of}
use Rattle.const_tree.proofs.ListLemmas.{gather_cases}
use Rattle.name_circles.specs.Circles.{Circles, AreMarked}
use Rattle.name_circles.specs.Values.{AreValueCircles}
use Rattle.unit_read.specs.Rows.{AreRows}
use Rattle.unit_read.specs.Subjects.{flag}
use Rattle.unit_read.specs.Units.{Unit, node_at, nodes_of, object_at, object_in, is_among}
use Rattle.unit_read.proofs.TypeLemmas.{key_itself, same_node}
use Rattle.unit_rows.specs.Circular.{named_at, first_named, is_defined, method_names, methods_by, group_items, is_value, is_number, if_value, nth_value, all_values, if_flagged, flagged, world_of, names_world, IsCircular, AreCircular}
use Rattle.unit_rows.specs.Cyclic.{all_cyclic}
use Rattle.unit_rows.specs.Tables.{is_listed}
use Rattle.unit_rows.proofs.CyclicLemmas.{IsMarked, marked, marks, gather_has}
use Rattle.unit_rows.proofs.NumberLemmas.{among_is, among_there, none_there, only_there}
use Rattle.unit_rows.proofs.ReadLemmas.{cells, in_tree}

-- ---- the first declaration of a name

none_some : {X : Type 0} (x : X) → ◌≡◌ {A = Option X} None (Some x) → ⊥
none_some x e = cc

some_some : {X : Type 0} (x y : X) → ◌≡◌ {A = Option X} (Some x) (Some y) → x ≡ y
some_some x y e = cc

-- a list has none of the name
no_first : (at : NodeRef) (entries : List Entry) → ((k : ℕ) (e : Entry) → slice_get entries k ≡ Some e → e.name ≡ at → ⊥) → first_named at entries ≡ None
no_first at [] none = refl
no_first at (e ∷ entries) none = by (same_key (at.file, at.node) (e.name.file, e.name.node)) refl (no_first at entries (λ k d there. none (suc k) d there)) where
  by : (b : Bool) → same_key (at.file, at.node) (e.name.file, e.name.node) ≡ b → first_named at entries ≡ None → (if b then Some e else first_named at entries) ≡ None
  by true same later = absurd (none 0 e refl (sym (same_node at e.name same)))
  by false same later = later

-- the first of the name is this one
is_first : (at : NodeRef) (entries : List Entry) (n : ℕ) (e : Entry) → slice_get entries n ≡ Some e → e.name ≡ at
    → ((k : ℕ) (d : Entry) → slice_get entries k ≡ Some d → d.name ≡ at → n ≤ k) → first_named at entries ≡ Some e
is_first at [] n e there named least = absurd cc
is_first at (d ∷ entries) zero e there named least =
    let one : d ≡ e = cc in
    let same : at ≡ d.name = sym named ∙ ap (λ (x : Entry). x.name) (sym one) in
    let key : same_key (at.file, at.node) (d.name.file, d.name.node) ≡ true = sym (ap (λ (x : NodeRef). same_key (at.file, at.node) (x.file, x.node)) same) ∙ key_itself (at.file, at.node) in
    ap (λ (b : Bool). if b then Some d else first_named at entries) key ∙ ap Some one
is_first at (d ∷ entries) (suc n) e there named least = by (same_key (at.file, at.node) (d.name.file, d.name.node)) refl (is_first at entries n e there named (λ k x x_at x_is. (let low = least (suc k) x x_at x_is in omega arith))) where
  by : (b : Bool) → same_key (at.file, at.node) (d.name.file, d.name.node) ≡ b → first_named at entries ≡ Some e → (if b then Some d else first_named at entries) ≡ Some e
  by true same later = absurd (let low = least 0 d refl (sym (same_node at d.name same)) in omega arith)
  by false same later = later

module _ {S : Type 0} (entries : List Entry) (numbers : HashMap (ℕ × ℕ) ℕ S) (named : AreNamed entries numbers) where
  -- what the numbers lead to is the first declaration of a name
  entry_is : (at : NodeRef) → entry_in entries numbers at ≡ first_named at entries
  entry_is at = by (number_in numbers (at.file, at.node)) refl where
    by : (o : Option ℕ) → number_in numbers (at.file, at.node) ≡ o → option_and_then (λ n. slice_get entries n) o ≡ first_named at entries
    by None none = sym (no_first at entries (λ k e there same. (let n = named.has k e there in none_some n.0 (sym none ∙ (ap (λ (x : NodeRef). number_in numbers (x.file, x.node)) (sym same) ∙ n.1)))))
    by (Some n) is = (let e = named.«is» n at is in
        e.1 ∙ sym (is_first at entries n e.0 e.1 e.2 (λ k d there same. named.first n k d (ap (λ (x : NodeRef). number_in numbers (x.file, x.node)) same ∙ is) there)))

  -- ---- lists by number

  group_is : (u : Unit) (groups : List (Vec NodeRef)) (n : ℕ) (e : Entry) → map group_items groups ≡ map (methods_by u) entries → slice_get entries n ≡ Some e → group_in groups n ≡ methods_by u e
  group_is u groups n e same there = by (slice_get groups n) refl where
    right : slice_get (map group_items groups) n ≡ Some (methods_by u e)
    right = ap (λ (xs : List (List NodeRef)). slice_get xs n) same ∙ (slice_get-map (methods_by u) entries n ∙ ap (option_map (methods_by u)) there)

    by : (o : Option (Vec NodeRef)) → slice_get groups n ≡ o → option_map_or (λ (group : Vec NodeRef). group.items) o [] ≡ methods_by u e
    by None none = absurd (let left : slice_get (map group_items groups) n ≡ None = slice_get-map group_items groups n ∙ ap (option_map group_items) none in none_some (methods_by u e) (sym left ∙ right))
    by (Some group) is = (let left : slice_get (map group_items groups) n ≡ Some group.items = slice_get-map group_items groups n ∙ ap (option_map group_items) is in some_some group.items (methods_by u e) (sym left ∙ right))

  kin_is : (u : Unit) (groups : List (Vec NodeRef)) → map group_items groups ≡ map (methods_by u) entries → (at : NodeRef) → kin_in groups numbers at ≡ option_map_or (methods_by u) (first_named at entries) []
  kin_is u groups same at = by (number_in numbers (at.file, at.node)) refl ∙ ap (λ (o : Option Entry). option_map_or (methods_by u) o []) (entry_is at) where
    by : (o : Option ℕ) → number_in numbers (at.file, at.node) ≡ o → option_map_or (λ n. group_in groups n) o [] ≡ option_map_or (methods_by u) (option_and_then (λ n. slice_get entries n) o) []
    by None none = refl
    by (Some n) is = (let e = named.«is» n at is in group_is u groups n e.0 same e.1 ∙ sym (ap (λ (o : Option Entry). option_map_or (methods_by u) o []) e.1))

  -- ---- names that are no types

  value_form : (f : Form) → is_value f ≡ true → f ≡ form.Other
  value_form form.Other is = refl
  value_form form.Defined is = absurd cc
  value_form form.Alias is = absurd cc

  record IsValue (at : NodeRef) : Type 0 where
    pub entry : Entry
    pub first : first_named at entries ≡ Some entry
    pub other : entry.form ≡ form.Other

  number_there : (o : Option ℕ) (k : ℕ) → is_number o k ≡ true → o ≡ Some k
  number_there None k is = absurd cc
  number_there (Some n) k is = ap Some (grind (arith, nat_tests))

  both_are : (a b : Bool) → (a && b) ≡ true → (a ≡ true) × (b ≡ true)
  both_are true true is = (refl, refl)
  both_are true false is = absurd cc
  both_are false b is = absurd cc

  in_value : (k j : ℕ) (e : Entry) (at : NodeRef) → slice_get entries k ≡ Some e → slice_get (if_value numbers k e) j ≡ Some at → IsValue at
  in_value k j e at there h = by (is_value e.form && is_number (number_in numbers (e.name.file, e.name.node)) k) refl h where
    by : (b : Bool) → (is_value e.form && is_number (number_in numbers (e.name.file, e.name.node)) k) ≡ b → slice_get (if b then e.name ∷ [] else []) j ≡ Some at → IsValue at
    by false is there_j = absurd (none_there at j there_j)
    by true is there_j =
        let tests = both_are (is_value e.form) (is_number (number_in numbers (e.name.file, e.name.node)) k) is in
        let same = only_there e.name at j there_j in
        let number : number_in numbers (at.file, at.node) ≡ Some k = ap (λ (x : NodeRef). number_in numbers (x.file, x.node)) (sym same) ∙ number_there (number_in numbers (e.name.file, e.name.node)) k tests.1 in
        record {
          entry = e;
          first = sym (entry_is at) ∙ (ap (λ (o : Option ℕ). option_and_then (λ n. slice_get entries n) o) number ∙ there);
          other = value_form e.form tests.0;
        }

  is_value_name : (at : NodeRef) → is_among at (all_values numbers entries) ≡ true → IsValue at
  is_value_name at h =
      let j = among_is at (all_values numbers entries) h in
      let i = gather_cases (nth_value numbers entries) (length entries) j.0 at j.1 in
      by i.0 i.1 (slice_get entries i.0) refl i.3 where
        by : (k j : ℕ) (o : Option Entry) → slice_get entries k ≡ o → slice_get (option_map_or (if_value numbers k) o []) j ≡ Some at → IsValue at
        by k j None none there = absurd (none_there at j there)
        by k j (Some e) is there = in_value k j e at is there

  listed_value : (at : NodeRef) → IsValue at → is_among at (all_values numbers entries) ≡ true
  listed_value at v = by (number_in numbers (at.file, at.node)) refl (entry_is at ∙ v.first) where
    same_number : (k : ℕ) → is_number (Some k) k ≡ true
    same_number k = grind (arith, nat_tests)

    by : (o : Option ℕ) → number_in numbers (at.file, at.node) ≡ o → option_and_then (λ n. slice_get entries n) o ≡ Some v.entry → is_among at (all_values numbers entries) ≡ true
    by None none is = absurd cc
    by (Some n) number is =
        let e = named.«is» n at number in
        let one : e.0 ≡ v.entry = some_some e.0 v.entry (sym e.1 ∙ is) in
        let name : v.entry.name ≡ at = ap (λ (x : Entry). x.name) (sym one) ∙ e.2 in
        let keyed : number_in numbers (v.entry.name.file, v.entry.name.node) ≡ Some n = ap (λ (x : NodeRef). number_in numbers (x.file, x.node)) name ∙ number in
        let test : (is_value v.entry.form && is_number (number_in numbers (v.entry.name.file, v.entry.name.node)) n) ≡ true =
        ap (λ (f : Form). is_value f && is_number (number_in numbers (v.entry.name.file, v.entry.name.node)) n) v.other ∙ (ap (λ (o : Option ℕ). is_number o n) keyed ∙ same_number n) in
        let here : slice_get (if_value numbers n v.entry) 0 ≡ Some at = ap (λ (b : Bool). slice_get (if b then v.entry.name ∷ [] else []) 0) test ∙ ap Some name in
        let there : slice_get (nth_value numbers entries n) 0 ≡ Some at = ap (λ (o : Option Entry). slice_get (option_map_or (if_value numbers n) o []) 0) is ∙ here in
        let r = gather_has (nth_value numbers entries) (length entries) n 0 at (slice_get_within entries n v.entry is) there in
        among_there at (all_values numbers entries) r.0 r.1

  -- a name that has a first declaration is declared
  named_there : (at : NodeRef) (e : Entry) → first_named at entries ≡ Some e → IsNamed entries at
  named_there at e first = by (number_in numbers (at.file, at.node)) refl (entry_is at ∙ first) where
    by : (o : Option ℕ) → number_in numbers (at.file, at.node) ≡ o → option_and_then (λ n. slice_get entries n) o ≡ Some e → IsNamed entries at
    by None none is = absurd cc
    by (Some n) number is = (let d = named.«is» n at number in (n, d.0, d.1, d.2))

-- ---- of a list those that are flagged

from_flagged : (rows : List (Vec Bool)) (names : List NodeRef) (j : ℕ) (at : NodeRef) → slice_get (flagged rows names) j ≡ Some at → (k : ℕ) × (slice_get names k ≡ Some at) × (flag rows at ≡ true)
from_flagged rows [] j at h = absurd (none_there at j h)
from_flagged rows (x ∷ names) j at h = by (flag rows x) refl j h (λ i later. from_flagged rows names i at later) where
  by : (b : Bool) → flag rows x ≡ b → (j : ℕ) → slice_get ((if b then x ∷ [] else []) ++ flagged rows names) j ≡ Some at
      → ((i : ℕ) → slice_get (flagged rows names) i ≡ Some at → (k : ℕ) × (slice_get names k ≡ Some at) × (flag rows at ≡ true))
      → (k : ℕ) × (slice_get (x ∷ names) k ≡ Some at) × (flag rows at ≡ true)
  by true is zero there rest = (let one : x ≡ at = cc in (0, there, ap (λ (y : NodeRef). flag rows y) (sym one) ∙ is))
  by true is (suc j) there rest = (let r = rest j there in (suc r.0, r.1, r.2))
  by false is j there rest = (let r = rest j there in (suc r.0, r.1, r.2))

to_flagged : (rows : List (Vec Bool)) (names : List NodeRef) (k : ℕ) (at : NodeRef) → slice_get names k ≡ Some at → flag rows at ≡ true → (j : ℕ) × (slice_get (flagged rows names) j ≡ Some at)
to_flagged rows [] k at there is = absurd (none_there at k there)
to_flagged rows (x ∷ names) zero at there is =
    let one : x ≡ at = cc in
    (0, ap (λ (b : Bool). slice_get ((if b then x ∷ [] else []) ++ flagged rows names) 0) (ap (λ (y : NodeRef). flag rows y) one ∙ is) ∙ ap Some one)
to_flagged rows (x ∷ names) (suc k) at there is = by (flag rows x) refl (to_flagged rows names k at there is) where
  by : (b : Bool) → flag rows x ≡ b → (j : ℕ) × (slice_get (flagged rows names) j ≡ Some at) → (j : ℕ) × (slice_get ((if b then x ∷ [] else []) ++ flagged rows names) j ≡ Some at)
  by true flag_is r = (suc r.0, r.1)
  by false flag_is r = r

-- ---- one description

abbrev pub world_with : (NodeRef → Option Node) → (NodeRef → Option NodeRef) → (NodeRef → Option Entry) → (NodeRef → List NodeRef) → World
world_with node meant entry kin = record { node = node; meant = meant; entry = entry; kin = kin }

one_node : (u : Unit) (at : NodeRef) → node_in u.trees at ≡ node_at u at
one_node u at = by (slice_get u.trees at.file) where
  by : (o : Option FileTree) → option_and_then (λ (tree : FileTree). slice_get tree.nodes at.node) o ≡ slice_get (nodes_of o) at.node
  by None = refl
  by (Some tree) = refl

one_meant : (u : Unit) (rows : List (Vec (Option NodeRef))) → AreRows (λ f tree n. named_at u (place f n)) u.trees rows (length u.trees) → (at : NodeRef) → meant_in rows at ≡ named_at u at
one_meant u rows are at =
    cells (λ f tree n. named_at u (place f n)) u.trees rows (named_at u)
    (λ x none. ap (λ (o : Option Node). option_and_then name_of (option_and_then (λ (node : Node). object_in u.uses x) o)) none) (λ x tree node there is. refl) are at

-- ---- all

abbrev IsIn : Unit → List Entry → NodeRef → Type 0
IsIn u entries at = Is (world_of u entries) at form.Other × Circles (world_of u entries) at

record AreIn (u : Unit) (entries : List Entry) (flags : NodeRef → Bool) : Type 0 where
  pub each : (at : NodeRef) (node : Node) → node_at u at ≡ Some node → IsTrue (flags at) ↔ IsIn u entries at
  pub others : (at : NodeRef) → node_at u at ≡ None → flags at ≡ false

module _ {S : Type 0} (u : Unit) (entries : List Entry) (numbers : HashMap (ℕ × ℕ) ℕ S) (groups : List (Vec NodeRef)) (meant : List (Vec (Option NodeRef))) (named : AreNamed entries numbers)
    (grouped : map group_items groups ≡ map (methods_by u) entries) (rows : AreRows (λ f tree n. named_at u (place f n)) u.trees meant (length u.trees)) where
  abbrev by_lists : World
  by_lists = world_with (node_in u.trees) (meant_in meant) (entry_in entries numbers) (kin_in groups numbers)

  one_world : by_lists ≡ world_of u entries
  one_world =
      ap (λ (g : NodeRef → Option Node). world_with g (meant_in meant) (entry_in entries numbers) (kin_in groups numbers)) (fun_ext (one_node u))
      ∙ (ap (λ (g : NodeRef → Option NodeRef). world_with (node_at u) g (entry_in entries numbers) (kin_in groups numbers)) (fun_ext (one_meant u meant rows))
      ∙ (ap (λ (g : NodeRef → Option Entry). world_with (node_at u) (named_at u) g (kin_in groups numbers)) (fun_ext (entry_is entries numbers named))
      ∙ ap (λ (g : NodeRef → List NodeRef). world_with (node_at u) (named_at u) (λ at. first_named at entries) g) (fun_ext (kin_is entries numbers named u groups grouped))))

listed_in : (u : Unit) (list : List NodeRef) (at : NodeRef) (node : Node) → node_at u at ≡ Some node → is_listed u.trees list at ≡ is_among at list
listed_in u list at node there = ap (λ (o : Option Node). option_map_or (λ (n : Node). is_among at list) o false) there

-- ---- a search among values alone

among_at : (xs : List NodeRef) (k : ℕ) (x : NodeRef) → slice_get xs k ≡ Some x → Among x xs
among_at [] k x e = absurd cc
among_at (y ∷ xs) zero x e = inl (some_some y x e)
among_at (y ∷ xs) (suc k) x e = inr (among_at xs k x e)

at_among : (xs : List NodeRef) (x : NodeRef) → Among x xs → (k : ℕ) × (slice_get xs k ≡ Some x)
at_among [] x h = absurd h
at_among (y ∷ xs) x (inl e) = (0, ap Some e)
at_among (y ∷ xs) x (inr h) = (let r = at_among xs x h in (suc r.0, r.1))

module _ {S : Type 0} (u : Unit) (entries : List Entry) (numbers : HashMap (ℕ × ℕ) ℕ S) (groups : List (Vec NodeRef)) (meant : List (Vec (Option NodeRef))) (list : List NodeRef) (flags : List (Vec Bool))
    (named : AreNamed entries numbers) (grouped : map group_items groups ≡ map (methods_by u) entries) (rows : AreRows (λ f tree n. named_at u (place f n)) u.trees meant (length u.trees))
    (found : AreValueCircles (world_with (node_in u.trees) (meant_in meant) (entry_in entries numbers) (kin_in groups numbers)) list)
    (flags_are : (at : NodeRef) → flag flags at ≡ is_listed u.trees list at) where
  all_found : AreValueCircles (world_of u entries) list
  all_found = subst (λ (w : World). AreValueCircles w list) (one_world u entries numbers groups meant named grouped rows) found

  found_in : AreIn u entries (flag flags)
  found_in = record {
    each = λ at node there. (
      λ is. (let j = among_is at list (sym (listed_in u list at node there) ∙ (sym (flags_are at) ∙ is)) in (all_found at).0 (among_at list j.0 at j.1)),
      λ circle. (let j = at_among list at ((all_found at).1 circle) in flags_are at ∙ (listed_in u list at node there ∙ among_there at list j.0 j.1)),
    );
    others = λ at none. flags_are at ∙ ap (λ (o : Option Node). option_map_or (λ (n : Node). is_among at list) o false) none;
  }

  pub circular_found : entries ≡ declared u.trees [] → AreCircular u (flag flags)
  circular_found same = (let r = subst (λ (es : List Entry). AreIn u es (flag flags)) same found_in in record { each = r.each; others = r.others })

-- ---- a search among all names

module _ {S : Type 0} (u : Unit) (entries : List Entry) (numbers : HashMap (ℕ × ℕ) ℕ S) (groups : List (Vec NodeRef)) (meant : List (Vec (Option NodeRef))) (order : List Needed)
    (circles flags : List (Vec Bool)) (named : AreNamed entries numbers) (grouped : map group_items groups ≡ map (methods_by u) entries)
    (rows : AreRows (λ f tree n. named_at u (place f n)) u.trees meant (length u.trees))
    (ordered : AreMarked (world_with (node_in u.trees) (meant_in meant) (entry_in entries numbers) (kin_in groups numbers)) entries order)
    (circles_are : (at : NodeRef) → flag circles at ≡ is_listed u.trees (all_cyclic order) at)
    (flags_are : (at : NodeRef) → flag flags at ≡ is_listed u.trees (flagged circles (all_values numbers entries)) at) where
  whole : AreMarked (world_of u entries) entries order
  whole = subst (λ (w : World). AreMarked w entries order) (one_world u entries numbers groups meant named grouped rows) ordered

  no_methods : (at : NodeRef) (e : Entry) → first_named at entries ≡ Some e → e.form ≡ form.Other → (world_of u entries).kin at ≡ []
  no_methods at e first other =
      ap (λ (o : Option Entry). option_map_or (methods_by u) o []) first ∙ ap (λ (f : Form). if is_defined f then method_names u e.name else []) other

  listed : (list : List NodeRef) (at : NodeRef) (node : Node) → node_at u at ≡ Some node → is_listed u.trees list at ≡ is_among at list
  listed = listed_in u

  to_circle : (at : NodeRef) (node : Node) → node_at u at ≡ Some node → flag flags at ≡ true → IsIn u entries at
  to_circle at node there is =
      let list = flagged circles (all_values numbers entries) in
      let j = among_is at list (sym (listed list at node there) ∙ (sym (flags_are at) ∙ is)) in
      let r = from_flagged circles (all_values numbers entries) j.0 at j.1 in
      let v = is_value_name entries numbers named at (among_there at (all_values numbers entries) r.0 r.1) in
      let m = marked order at (sym (listed (all_cyclic order) at node there) ∙ (sym (circles_are at) ∙ r.2)) in
      let none : (world_of u entries).kin m.item.object ≡ [] = ap (λ (o : NodeRef). (world_of u entries).kin o) m.object ∙ no_methods at v.entry v.first v.other in
      ((v.entry, v.first, v.other), subst (λ (o : NodeRef). Circles (world_of u entries) o) m.object ((whole.marks m.number m.item m.there none).0 m.cyclic))

  from_circle : (at : NodeRef) (node : Node) → node_at u at ≡ Some node → IsIn u entries at → flag flags at ≡ true
  from_circle at node there ((e, first, other), circle) =
      let list = flagged circles (all_values numbers entries) in
      let k = among_is at (all_values numbers entries) (listed_value entries numbers named at (record { entry = e; first = first; other = other })) in
      let (i, item, item_at, same) = whole.each at (named_there entries numbers named at e first) in
      let none : (world_of u entries).kin item.object ≡ [] = ap (λ (o : NodeRef). (world_of u entries).kin o) same ∙ no_methods at e first other in
      let cyclic = (whole.marks i item item_at none).1 (subst (λ (o : NodeRef). Circles (world_of u entries) o) (sym same) circle) in
      let turns : flag circles at ≡ true = circles_are at ∙ (listed (all_cyclic order) at node there ∙ marks order at (record { number = i; item = item; there = item_at; cyclic = cyclic; object = same })) in
      let j = to_flagged circles (all_values numbers entries) k.0 at k.1 turns in
      flags_are at ∙ (listed list at node there ∙ among_there at list j.0 j.1)

  are_in : AreIn u entries (flag flags)
  are_in = record {
    each = λ at node there. (to_circle at node there, from_circle at node there);
    others = λ at none. flags_are at ∙ ap (λ (o : Option Node). option_map_or (λ (n : Node). is_among at (flagged circles (all_values numbers entries))) o false) none;
  }

  pub circular_are : entries ≡ declared u.trees [] → AreCircular u (flag flags)
  circular_are same = (let r = subst (λ (es : List Entry). AreIn u es (flag flags)) same are_in in record { each = r.each; others = r.others })
