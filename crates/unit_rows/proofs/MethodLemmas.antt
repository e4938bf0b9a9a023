-- The methods of each type, as they are put into lists.
use Rattle.std.proofs.lemmas.Bool.{cases_lt}
use Rattle.std.proofs.lemmas.List.{length-map}
use Rattle.std.proofs.Common.{◌≡◌, ℕ, zero, suc, ◌+◌, ◌<◌, ◌++◌, ◌==◌, Bool, true, false, cond, if◌then◌else◌, List, [], ◌∷◌, length, map, slice_get, Option, Some, None, option_and_then, refl, sym, ap, ◌∙◌, subst, inl, inr, arith, option_map}
use Rattle.std.specs.Global.{Vec}
use Rattle.std.specs.List.{position_from}
use Rattle.std.specs.Option.{option_map_or}
use Rattle.std.proofs.Math.Path.{fun_ext}
use Rattle.std.proofs.lemmas.Bool.{eqb-true, eqb-false, eq-eqb, ne_eqb, true≢false}
use Rattle.std.proofs.lemmas.Option.{slice_get-map, slice_get_within, slice_get_past}
use Rattle.go_tree.specs.declared.tree.Node.{Node}
use Rattle.go_tree.specs.declared.tree.NodeRef.{NodeRef}
use Rattle.object_order.specs.Views.{same_key, group_in}
use Rattle.package_needs.specs.Groups.{PushesAt}
use Rattle.package_objects.specs.Declares.{gather}
use Rattle.unit_read.specs.Methods.{is_first, if_owned, nth_owned, methods_of, all_methods, owners, group_of, nth_group, named_again}
use Rattle.unit_read.specs.Rows.{AreRows}
use Rattle.unit_read.specs.Subjects.{cell, kept_by}
use Rattle.unit_read.specs.Units.{Unit, node_at, is_this, first_place}
use Rattle.unit_read.proofs.TypeLemmas.{same_node, key_itself}
use Rattle.unit_rows.specs.Grouping.{number_of, put_if, PutsBy, put_owned, put_method, nth_put, AreGroups}
use Rattle.unit_rows.specs.Rows.{first_in}
use Rattle.unit_rows.proofs.ReadLemmas.{firsts_read}

-- ---- lists

pub gather_same : {A : Type 0} (g h : ℕ → List A) → ((i : ℕ) → g i ≡ h i) → (n : ℕ) → gather g n ≡ gather h n
gather_same g h same n = ap (λ (f : ℕ → List _). gather f n) (fun_ext same)

gather_nothing : {A : Type 0} (n : ℕ) → gather {A = A} (λ i. []) n ≡ []
gather_nothing zero = refl
gather_nothing (suc n) = ap (λ xs. xs ++ []) (gather_nothing n)

pub gather_none : {A : Type 0} (g : ℕ → List A) → ((i : ℕ) → g i ≡ []) → (n : ℕ) → gather g n ≡ []
gather_none g none n = gather_same g (λ i. []) none n ∙ gather_nothing n

absent : {A : Type 0} {x : A} → ◌≡◌ {A = Option A} None (Some x) → ⊥
absent e = absurd cc

-- ---- first places

this_is : (t s : NodeRef) → is_this t (Some s) ≡ true → t ≡ s
this_is t s is = same_node t s is

this_itself : (t : NodeRef) → is_this t (Some t) ≡ true
this_itself t = key_itself (t.file, t.node)

-- what stands at a first place is the node
abbrev FirstAt : NodeRef → List (Option NodeRef) → ℕ → ℕ → Type 0
FirstAt t list i k = (j : ℕ) × (o : Option NodeRef) × (k ≡ i + j) × (slice_get list j ≡ Some o) × (is_this t o ≡ true)

first_by : (t : NodeRef) (o : Option NodeRef) (list : List (Option NodeRef)) (i k : ℕ) → (position_from (is_this t) (i + 1) list ≡ Some k → FirstAt t list (i + 1) k)
    → (b : Bool) → is_this t o ≡ b → cond b (Some i) (position_from (is_this t) (i + 1) list) ≡ Some k → FirstAt t (o ∷ list) i k
first_by t o list i k later true is f = (zero, o, (let same : i ≡ k = cc in omega (arith, same)), refl, is)
first_by t o list i k later false not f = let (j, x, at, there, is) = later f in (suc j, x, omega (arith, at), there, is)

first_is : (t : NodeRef) (list : List (Option NodeRef)) (i k : ℕ) → position_from (is_this t) i list ≡ Some k → FirstAt t list i k
first_is t [] i k e = absurd cc
first_is t (o ∷ list) i k e = first_by t o list i k (first_is t list (i + 1) k) (is_this t o) refl e

-- what has no first place stands nowhere
abbrev StandsNowhere : NodeRef → List (Option NodeRef) → Type 0
StandsNowhere t list = (j : ℕ) (o : Option NodeRef) → slice_get list j ≡ Some o → is_this t o ≡ false

none_by : (t : NodeRef) (x : Option NodeRef) (list : List (Option NodeRef)) (i : ℕ) → (position_from (is_this t) (i + 1) list ≡ None → StandsNowhere t list)
    → (b : Bool) → is_this t x ≡ b → cond b (Some i) (position_from (is_this t) (i + 1) list) ≡ None → StandsNowhere t (x ∷ list)
none_by t x list i later true is f j o there = absurd cc
none_by t x list i later false not f zero o there = let same : x ≡ o = cc in subst (λ (y : Option NodeRef). is_this t y ≡ false) same not
none_by t x list i later false not f (suc j) o there = later f j o there

first_none : (t : NodeRef) (list : List (Option NodeRef)) (i : ℕ) → position_from (is_this t) i list ≡ None → StandsNowhere t list
first_none t [] i e j o at = absurd cc
first_none t (x ∷ list) i e j o at = none_by t x list i (first_none t list (i + 1)) (is_this t x) refl e j o at

-- ---- one method more

nothing_after : {A : Type 0} (xs : List A) → xs ++ [] ≡ xs
nothing_after [] = refl
nothing_after (x ∷ xs) = ap (λ r. x ∷ r) (nothing_after xs)

-- a number that isn't this one puts nothing here
put_nothing : (k : ℕ) (number : Option ℕ) (at : NodeRef) (xs ys : List NodeRef) → is_first k number ≡ false → ys ≡ xs → ys ≡ xs ++ put_if k number at
put_nothing k number at xs ys not same = same ∙ (sym (nothing_after xs) ∙ ap (λ (b : Bool). xs ++ (if b then at ∷ [] else [])) (sym not))

pub puts_none : (at : NodeRef) (old : List (Vec NodeRef)) (number : Option ℕ) → number ≡ None → PutsBy number at old old
puts_none at old number none = subst (λ (o : Option ℕ). PutsBy o at old old) (sym none)
    (record { size = refl; each = λ k low. put_nothing k None at (group_in old k) (group_in old k) refl refl })

pub puts_past : (at : NodeRef) (old : List (Vec NodeRef)) (number : Option ℕ) (n : ℕ) → number ≡ Some n → (n < length old → ⊥) → PutsBy number at old old
puts_past at old number n is past = subst (λ (o : Option ℕ). PutsBy o at old old) (sym is) (record {
  size = refl;
  each = λ k low. put_nothing k (Some n) at (group_in old k) (group_in old k) (ne_eqb n k (λ same. past (subst (λ (m : ℕ). m < length old) (sym same) low))) refl;
})

pub puts_at : (at : NodeRef) (old new : List (Vec NodeRef)) (number : Option ℕ) (n : ℕ) → number ≡ Some n → PushesAt old new n at → PutsBy number at old new
puts_at at old new number n is pushes = subst (λ (o : Option ℕ). PutsBy o at old new) (sym is) (record { size = pushes.size; each = λ k low. by k (n == k) refl }) where
  by : (k : ℕ) (b : Bool) → (n == k) ≡ b → group_in new k ≡ group_in old k ++ put_if k (Some n) at
  by k true same = ap (group_in new) (sym (eqb-true n k same)) ∙ (pushes.here
      ∙ (ap (λ (m : ℕ). group_in old m ++ at ∷ []) (eqb-true n k same) ∙ ap (λ (b : Bool). group_in old k ++ (if b then at ∷ [] else [])) (sym same)))
  by k false not = put_nothing k (Some n) at (group_in old k) (group_in new k) not (pushes.others k (λ same. eqb-false n k not (sym same)))

pub groups_none : (kin : List (Vec (Option ℕ))) (owners : List (Option NodeRef)) (methods : List NodeRef) (groups : List (Vec NodeRef)) → length groups ≡ length methods
    → ((k : ℕ) → group_in groups k ≡ []) → AreGroups kin owners methods 0 groups
groups_none kin owners methods groups size bare = record { size = size; each = λ k low. bare k }

pub groups_more : (kin : List (Vec (Option ℕ))) (owners : List (Option NodeRef)) (methods : List NodeRef) (i : ℕ) (old new : List (Vec NodeRef)) (at : NodeRef) (o : Option NodeRef)
    → AreGroups kin owners methods i old → slice_get methods i ≡ Some at → slice_get owners i ≡ Some o → PutsBy (number_of kin o) at old new → AreGroups kin owners methods (i + 1) new
groups_more kin owners methods i old new at o are there its puts = record {
  size = puts.size ∙ are.size;
  each = λ k low. puts.each k (let s = are.size in omega (arith, s, low)) ∙ (ap (λ (xs : List NodeRef). xs ++ put_if k (number_of kin o) at) (are.each k low)
      ∙ (ap (λ (xs : List NodeRef). gather (nth_put kin owners methods k) i ++ xs) (sym (put_here k)) ∙ ap (gather (nth_put kin owners methods k)) (one_more i)));
} where
  put_here : (k : ℕ) → nth_put kin owners methods k i ≡ put_if k (number_of kin o) at
  put_here k = ap (λ (m : Option NodeRef). option_map_or (put_method kin owners k i) m []) there ∙ ap (λ (m : Option (Option NodeRef)). option_map_or (put_owned kin k at) m []) its

  one_more : (n : ℕ) → suc n ≡ n + 1
  one_more n = omega arith

-- ---- the methods of a type

-- the number of a type's list, if the type has a node
abbrev in_node : NodeRef → List (Option NodeRef) → Option Node → Option ℕ
in_node t list o = option_and_then (λ (node : Node). first_place t list) o

first_true : (k : ℕ) (o : Option ℕ) → is_first k o ≡ true → o ≡ Some k
first_true k None e = absurd cc
first_true k (Some i) e = ap Some (eqb-true i k e)

module _ (u : Unit) (kin : List (Vec (Option ℕ))) (groups : List (Vec NodeRef)) (read : AreRows (first_in (owners u)) u.trees kin (length u.trees))
    (are : AreGroups kin (owners u) (all_methods u) (length (all_methods u)) groups) where
  number : (t : NodeRef) → cell kin t ≡ in_node t (owners u) (node_at u t)
  number t = firsts_read u.trees (owners u) kin read t

  owner_there : (i : ℕ) (at : NodeRef) → slice_get (all_methods u) i ≡ Some at → slice_get (owners u) i ≡ Some (u.owner at)
  owner_there i at there = slice_get-map u.owner (all_methods u) i ∙ ap (λ (o : Option NodeRef). option_map u.owner o) there

  -- what a list gets at a place is what the type has there
  put_is : (t : NodeRef) (k i : ℕ) (at : NodeRef) → slice_get (all_methods u) i ≡ Some at → nth_put kin (owners u) (all_methods u) k i ≡ put_if k (number_of kin (u.owner at)) at
  put_is t k i at there = ap (λ (m : Option NodeRef). option_map_or (put_method kin (owners u) k i) m []) there
      ∙ ap (λ (m : Option (Option NodeRef)). option_map_or (put_owned kin k at) m []) (owner_there i at there)

  put_absent : (k i : ℕ) → slice_get (all_methods u) i ≡ None → nth_put kin (owners u) (all_methods u) k i ≡ []
  put_absent k i none = ap (λ (m : Option NodeRef). option_map_or (put_method kin (owners u) k i) m []) none

  -- at the first place of a type it stands
  at_first : (t : NodeRef) (k : ℕ) → first_place t (owners u) ≡ Some k → slice_get (owners u) k ≡ Some (Some t)
  at_first t k e = let (j, o, at, there, is) = first_is t (owners u) 0 k e in
      by o is (subst (λ (n : ℕ). slice_get (owners u) n ≡ Some o) (let same : j ≡ k = omega (arith, at) in same) there) where
        by : (o : Option NodeRef) → is_this t o ≡ true → slice_get (owners u) k ≡ Some o → slice_get (owners u) k ≡ Some (Some t)
        by None is there = absurd cc
        by (Some w) is there = there ∙ ap (λ (x : NodeRef). Some (Some x)) (sym (this_is t w is))

  first_cell : (s : NodeRef) (k : ℕ) → cell kin s ≡ Some k → first_place s (owners u) ≡ Some k
  first_cell s k e = by (node_at u s) (sym (number s) ∙ e) where
    by : (o : Option Node) → in_node s (owners u) o ≡ Some k → first_place s (owners u) ≡ Some k
    by None e = absurd cc
    by (Some node) e = e

  cell_apart : (s t : NodeRef) (k : ℕ) → cell kin s ≡ Some k → first_place t (owners u) ≡ Some k → s ≡ t
  cell_apart s t k e f = let one = at_first s k (first_cell s k e) in let other = at_first t k f in cc

  -- nothing is put where no type has the number
  nothing_put : (k : ℕ) → ((s : NodeRef) → cell kin s ≡ Some k → ⊥) → (i : ℕ) → nth_put kin (owners u) (all_methods u) k i ≡ []
  nothing_put k never i = by (slice_get (all_methods u) i) refl where
    of_number : (s : NodeRef) (n : Option ℕ) → cell kin s ≡ n → is_first k n ≡ false
    of_number s None e = refl
    of_number s (Some j) e = ne_eqb j k (λ same. never s (e ∙ ap Some same))

    of_owner : (o : Option NodeRef) → is_first k (number_of kin o) ≡ false
    of_owner None = refl
    of_owner (Some s) = of_number s (cell kin s) refl

    by : (m : Option NodeRef) → slice_get (all_methods u) i ≡ m → nth_put kin (owners u) (all_methods u) k i ≡ []
    by None none = put_absent k i none
    by (Some at) there = put_is at k i at there ∙ ap (λ (b : Bool). if b then at ∷ [] else []) (of_owner (u.owner at))

  module _ (t : NodeRef) (node : Node) (its : node_at u t ≡ Some node) where
    cell_is : cell kin t ≡ first_place t (owners u)
    cell_is = number t ∙ ap (in_node t (owners u)) its

    all_are : methods_of u t ≡ gather (nth_owned u t) (length (all_methods u))
    all_are = ap (λ (o : Option Node). option_map_or (λ (n : Node). gather (nth_owned u t) (length (all_methods u))) o []) its

    owned_is : (i : ℕ) (at : NodeRef) → slice_get (all_methods u) i ≡ Some at → nth_owned u t i ≡ if_owned u t at
    owned_is i at there = ap (λ (m : Option NodeRef). option_map_or (if_owned u t) m []) there

    owned_absent : (i : ℕ) → slice_get (all_methods u) i ≡ None → nth_owned u t i ≡ []
    owned_absent i none = ap (λ (m : Option NodeRef). option_map_or (if_owned u t) m []) none

    module _ (k : ℕ) (first : first_place t (owners u) ≡ Some k) where
      same_test : (o : Option NodeRef) → is_first k (number_of kin o) ≡ is_this t o
      same_test None = refl
      same_test (Some s) = by (is_this t (Some s)) refl where
        other : (n : Option ℕ) → cell kin s ≡ n → is_this t (Some s) ≡ false → is_first k n ≡ false
        other None e not = refl
        other (Some j) e not = ne_eqb j k (λ same. true≢false (sym (ap (λ (x : NodeRef). is_this t (Some x)) (cell_apart s t k (e ∙ ap Some same) first) ∙ this_itself t) ∙ not))

        by : (b : Bool) → is_this t (Some s) ≡ b → is_first k (cell kin s) ≡ is_this t (Some s)
        by true is = ap (is_first k) (ap (cell kin) (sym (this_is t s is)) ∙ (cell_is ∙ first)) ∙ (eq-eqb k k refl ∙ sym is)
        by false not = other (cell kin s) refl not ∙ sym not

      same_put : (i : ℕ) → nth_put kin (owners u) (all_methods u) k i ≡ nth_owned u t i
      same_put i = by (slice_get (all_methods u) i) refl where
        by : (m : Option NodeRef) → slice_get (all_methods u) i ≡ m → nth_put kin (owners u) (all_methods u) k i ≡ nth_owned u t i
        by None none = put_absent k i none ∙ sym (owned_absent i none)
        by (Some at) there = put_is at k i at there ∙ (ap (λ (b : Bool). if b then at ∷ [] else []) (same_test (u.owner at)) ∙ sym (owned_is i at there))

      low : k < length (all_methods u)
      low = by (slice_get (all_methods u) k) refl where
        by : (m : Option NodeRef) → slice_get (all_methods u) k ≡ m → k < length (all_methods u)
        by None none = absurd (absent (sym (slice_get-map u.owner (all_methods u) k ∙ ap (λ (o : Option NodeRef). option_map u.owner o) none) ∙ at_first t k first))
        by (Some at) there = slice_get_within (all_methods u) k at there

      pub group_is : group_in groups k ≡ methods_of u t
      group_is = are.each k low ∙ (gather_same (nth_put kin (owners u) (all_methods u) k) (nth_owned u t) same_put (length (all_methods u)) ∙ sym all_are)

    none_owned : first_place t (owners u) ≡ None → methods_of u t ≡ []
    none_owned none = all_are ∙ gather_none (nth_owned u t) none_at (length (all_methods u)) where
      none_at : (i : ℕ) → nth_owned u t i ≡ []
      none_at i = by (slice_get (all_methods u) i) refl where
        by : (m : Option NodeRef) → slice_get (all_methods u) i ≡ m → nth_owned u t i ≡ []
        by None gone = owned_absent i gone
        by (Some at) there = owned_is i at there ∙ ap (λ (b : Bool). if b then at ∷ [] else []) (first_none t (owners u) 0 none i (u.owner at) (owner_there i at there))

    kept_node : kept_by groups (cell kin t) ≡ methods_of u t
    kept_node = by (first_place t (owners u)) refl where
      by : (o : Option ℕ) → first_place t (owners u) ≡ o → kept_by groups (cell kin t) ≡ methods_of u t
      by None none = ap (λ (o : Option ℕ). option_map_or (group_in groups) o []) (cell_is ∙ none) ∙ sym (none_owned none)
      by (Some k) first = ap (λ (o : Option ℕ). option_map_or (group_in groups) o []) (cell_is ∙ first) ∙ group_is k first

  pub kept_is : (t : NodeRef) → kept_by groups (cell kin t) ≡ methods_of u t
  kept_is t = by (node_at u t) refl where
    by : (o : Option Node) → node_at u t ≡ o → kept_by groups (cell kin t) ≡ methods_of u t
    by None none = ap (λ (o : Option ℕ). option_map_or (group_in groups) o []) (number t ∙ ap (in_node t (owners u)) none)
        ∙ sym (ap (λ (o : Option Node). option_map_or (λ (n : Node). gather (nth_owned u t) (length (all_methods u))) o []) none)
    by (Some node) its = kept_node t node its

  -- ---- the lists, by their numbers

  bare_group : (k : ℕ) → k < length (all_methods u) → ((s : NodeRef) → cell kin s ≡ Some k → ⊥) → group_in groups k ≡ []
  bare_group k low never = are.each k low ∙ gather_none (nth_put kin (owners u) (all_methods u) k) (nothing_put k never) (length (all_methods u))

  pub nth_is : (k : ℕ) → k < length (all_methods u) → group_in groups k ≡ nth_group u k
  nth_is k low = by (slice_get (owners u) k) refl where
    only : (o : Option NodeRef) → slice_get (owners u) k ≡ Some o → (s : NodeRef) → cell kin s ≡ Some k → o ≡ Some s
    only o there s e = let at = at_first s k (first_cell s k e) in cc

    of_type : (t : NodeRef) → slice_get (owners u) k ≡ Some (Some t) → (b : Bool) → is_first k (first_place t (owners u)) ≡ b → group_in groups k ≡ (if b then methods_of u t else [])
    of_type t there true is = of_node (node_at u t) refl where
      of_node : (o : Option Node) → node_at u t ≡ o → group_in groups k ≡ methods_of u t
      of_node None none = bare_group k low (λ s e. let same : s ≡ t = cell_apart s t k e (first_true k (first_place t (owners u)) is) in
          absent (sym (number t ∙ ap (in_node t (owners u)) none) ∙ (ap (cell kin) (sym same) ∙ e)))
          ∙ sym (ap (λ (o : Option Node). option_map_or (λ (n : Node). gather (nth_owned u t) (length (all_methods u))) o []) none)
      of_node (Some node) its = group_is t node its k (first_true k (first_place t (owners u)) is)
    of_type t there false not = bare_group k low (λ s e. let same : Some t ≡ Some s = only (Some t) there s e in
        true≢false (sym (ap (is_first k) (ap (λ (x : NodeRef). first_place x (owners u)) (let eq : t ≡ s = cc in eq) ∙ first_cell s k e) ∙ eq-eqb k k refl) ∙ not))

    by : (m : Option (Option NodeRef)) → slice_get (owners u) k ≡ m → group_in groups k ≡ nth_group u k
    by None none = bare_group k low (λ s e. absent (sym none ∙ at_first s k (first_cell s k e)))
        ∙ sym (ap (λ (m : Option (Option NodeRef)). option_map_or (λ o. option_map_or (group_of u k) o []) m []) none)
    by (Some None) there = bare_group k low (λ s e. absent (only None there s e))
        ∙ sym (ap (λ (m : Option (Option NodeRef)). option_map_or (λ o. option_map_or (group_of u k) o []) m []) there)
    by (Some (Some t)) there = of_type t there (is_first k (first_place t (owners u))) refl
        ∙ sym (ap (λ (m : Option (Option NodeRef)). option_map_or (λ o. option_map_or (group_of u k) o []) m []) there)

  past_all : (k : ℕ) → (k < length (all_methods u) → ⊥) → group_in groups k ≡ nth_group u k
  past_all k past = ap (λ (m : Option (Vec NodeRef)). option_map_or (λ (g : Vec NodeRef). g.items) m []) (slice_get_past groups k (let s = are.size in omega (arith, s, past)))
      ∙ sym (ap (λ (m : Option (Option NodeRef)). option_map_or (λ o. option_map_or (group_of u k) o []) m [])
      (slice_get_past (owners u) k (let s = length-map (all_methods u) u.owner in omega (arith, s, past))))

  each_is : (k : ℕ) → group_in groups k ≡ nth_group u k
  each_is k = elim (cases_lt k (length (all_methods u))) [
    | inl low ↦ nth_is k low
    | inr high ↦ past_all k (λ low. omega (arith, low, high))
  ]

  -- the methods that have the name of an earlier one, list by list
  pub again_is : (count : ℕ) → count ≡ length (owners u)
      → gather (λ k. named_again u (group_in groups k)) count ≡ gather (λ k. named_again u (nth_group u k)) (length (owners u))
  again_is count same = gather_same (λ k. named_again u (group_in groups k)) (λ k. named_again u (nth_group u k)) (λ k. ap (named_again u) (each_is k)) count
      ∙ ap (gather (λ k. named_again u (nth_group u k))) same

-- ---- in code

pub record Grouped (u : Unit) (kin : List (Vec (Option ℕ))) (groups : List (Vec NodeRef)) : Type 0 where
  pub read : AreRows (first_in (owners u)) u.trees kin (length u.trees)
  pub are : AreGroups kin (owners u) (all_methods u) (length (all_methods u)) groups

pub grouped : (u : Unit) (kin : List (Vec (Option ℕ))) (groups : List (Vec NodeRef)) (methods first second : List NodeRef) (types one other : List (Option NodeRef)) → methods ≡ all_methods u → first ≡ methods
    → types ≡ map u.owner first → one ≡ types → AreRows (first_in one) u.trees kin (length u.trees) → other ≡ types → second ≡ methods → AreGroups kin other second (length second) groups → Grouped u kin groups
grouped u kin groups methods first second types one other all f t o rows p m are = record {
  read = subst (λ (list : List (Option NodeRef)). AreRows (first_in list) u.trees kin (length u.trees)) (o ∙ types_are) rows;
  are = subst (λ (list : List NodeRef). AreGroups kin (owners u) list (length list) groups) (m ∙ all)
      (subst (λ (list : List (Option NodeRef)). AreGroups kin list second (length second) groups) (p ∙ types_are) are);
} where
  types_are : types ≡ owners u
  types_are = t ∙ ap (map u.owner) (f ∙ all)

pub kept_all : (u : Unit) (kin : List (Vec (Option ℕ))) (groups : List (Vec NodeRef)) → Grouped u kin groups → (t : NodeRef) → kept_by groups (cell kin t) ≡ methods_of u t
kept_all u kin groups g t = kept_is u kin groups g.read g.are t

pub again_all : (u : Unit) (kin : List (Vec (Option ℕ))) (groups : List (Vec NodeRef)) → Grouped u kin groups
    → gather (λ k. named_again u (group_in groups k)) (length groups) ≡ gather (λ k. named_again u (nth_group u k)) (length (owners u))
again_all u kin groups g = again_is u kin groups g.read g.are (length groups) (g.are.size ∙ sym (length-map (all_methods u) u.owner))
