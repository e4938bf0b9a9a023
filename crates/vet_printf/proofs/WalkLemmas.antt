-- The walk gathers for each function to whom it hands on.
use Rattle.std.proofs.Common.{◌≡◌, ◌⊎◌, ◌<◌, ◌==◌, inl, inr, ℕ, zero, suc, Bool, true, false, ◌&&◌, List, [], ◌∷◌, ◌++◌, length, Option, Some, None, refl, sym, ap, ◌∙◌, subst, if◌then◌else◌, arith}
use Rattle.std.specs.Prelude.{slice_get, option_map, option_and_then, bytes_eq}
use Rattle.std.specs.List.{Contains}
use Rattle.std.specs.Option.{option_map_or}
use Rattle.std.proofs.lemmas.Bool.{cases_eq, eqb-true, eq-eqb}
use Rattle.std.proofs.lemmas.List.{append_assoc, append-nil}
use Rattle.go_tree.specs.declared.tree.Node.{Node}
use Rattle.go_tree.specs.declared.tree.NodeRef.{NodeRef}
use Rattle.object_order.specs.Spots.{place}
use Rattle.package_objects.specs.Declares.{gather}
use Rattle.typed_marks.specs.declared.item.Item.{Item}
use Rattle.typed_marks.specs.Meanings.{Meaning}
use Rattle.unit_read.specs.Units.{Unit, nodes_at}
use Rattle.least.specs.Tables.{Member, member}
use Rattle.own_functions.specs.Functions.{Named, node_in, functions, functions_in, function_at, function_by, named_at, first_of, nth_name, declared_at, member_at, name_by}
use Rattle.vet_printf.specs.Forwards.{is_spread_call, declaration_of, hands}
use Rattle.vet_printf.specs.Handing.{is_place, declares_at, hands_node, hands_in, hands_from, hands_at, of_kind, forward_at, forwards_in, forwards_by, with_one}
use Rattle.vet_printf.specs.Walk.{name_of, declared_name, stands_at, number_if, number_named, owner_number, Given, both_of, giver_in, giver_of, giver_from, giver, contribution, after, no_lists, walk_nodes, walk_files}
use Rattle.vet_printf.proofs.FailLemmas.{at_place}
use Rattle.vet_printf.proofs.BucketLemmas.{one_here, one_else}
use Rattle.vet_printf.proofs.HandingLemmas.{some_true, true_some, and_both, bytes_same, same_place, place_same, gathered_at, some_in, single_is}
use Rattle.vet_printf.proofs.ReaderLemmas.{same_some, either}

falls : (b : Bool) → (b ≡ true → ⊥) → b ≡ false
falls true none = absurd (none refl)
falls false none = refl

holds_as : (a b : Bool) → (a ≡ true → b ≡ true) → (b ≡ true → a ≡ true) → a ≡ b
holds_as true true f g = refl
holds_as false false f g = refl
holds_as true false f g = sym (f refl)
holds_as false true f g = g refl

-- what is said of a function in the list of the package's
function_said : (u : Unit) (i : ℕ) (x : Named) → slice_get (functions u) i ≡ Some x → declared_name u x.1.file x.1.node ≡ Some x.0
function_said u i x at =
    let f = gathered_at (functions_in u) x (length u.trees) (at_place (functions u) i x at) in
    let n = gathered_at (function_at u f.0) x (length (nodes_at u f.0)) f.2 in
    let node = some_in (function_by u f.0 n.0) (slice_get (nodes_at u f.0) n.0) x n.2 in
    let name = some_in (named_at f.0 n.0) (name_by u f.0 n.0 node.0 node.0.kind) x node.2 in
    let is : (name.0, place f.0 n.0) ≡ x = single_is (name.0, place f.0 n.0) x name.2 in
    subst (λ (y : Named). declared_name u y.1.file y.1.node ≡ Some y.0) is (ap (λ (o : Option Node). option_and_then (name_of u f.0 n.0) o) node.1 ∙ name.1)

-- one that is picked out of what a call gives
abbrev pick : ℕ → Option Given → List Member
pick i None = []
pick i (Some x) = if x.0 == i then x.1 ∷ [] else []

module _ (named : NodeRef → Option (List ℕ × List ℕ)) (u : Unit) (marks : Item → Meaning) (kind i : ℕ) (first : first_of u (nth_name u i) ≡ Some i) where
  abbrev m : Member
  m = member_at kind u i

  -- where it is declared
  declared_is : (x : Named) → slice_get (functions u) i ≡ Some x → declared_at u m.name ≡ Some x.1
  declared_is x at = ap (λ (o : Option ℕ). option_map node_in (option_and_then (slice_get (functions u)) o)) first ∙ ap (λ (o : Option Named). option_map node_in o) at

  function_of : (o : Option Named) (at : NodeRef) → option_map node_in o ≡ Some at → (x : Named) × (o ≡ Some x) × (x.1 ≡ at)
  function_of None at e = absurd cc
  function_of (Some x) at e = (x, refl, same_some e)

  -- the node declares it where it is the number of what the node declares
  owner_is : (f d : ℕ) → declares_at (declared_at u) f d m ≡ true → owner_number u f d ≡ Some i
  owner_is f d e =
      let at = some_true (is_place f d) (declared_at u m.name) e in
      let x = function_of (slice_get (functions u) i) at.0 (sym (ap (λ (o : Option ℕ). option_map node_in (option_and_then (slice_get (functions u)) o)) first) ∙ at.1) in
      let here : x.0.1 ≡ place f d = x.2 ∙ same_place f d at.0 at.2 in
      let name : nth_name u i ≡ x.0.0 = ap (λ (o : Option Named). option_map_or (λ (y : Named). y.0) o []) x.1 in
      let said : declared_name u f d ≡ Some x.0.0 = subst (λ (q : NodeRef). declared_name u q.file q.node ≡ Some x.0.0) here (function_said u i x.0 x.1) in
      ap (λ (o : Option (List ℕ)). option_and_then (number_named u f d) o) said
      ∙ (ap (λ (o : Option ℕ). option_and_then (number_if u f d) o) (ap (first_of u) (sym name) ∙ first)
      ∙ ap (λ b. if b then Some i else None) (true_some (stands_at f d) (slice_get (functions u) i) x.0 x.1 (ap (is_place f d) here ∙ place_same f d)))

  number_is : (f d j : ℕ) (o : Option ℕ) → option_and_then (number_if u f d) o ≡ Some j → option_map_or (stands_at f d) (slice_get (functions u) j) false ≡ true
  number_is f d j None e = absurd cc
  number_is f d j (Some k) e = by (option_map_or (stands_at f d) (slice_get (functions u) k) false) refl e where
    by : (b : Bool) → option_map_or (stands_at f d) (slice_get (functions u) k) false ≡ b → (if b then Some k else None) ≡ Some j → option_map_or (stands_at f d) (slice_get (functions u) j) false ≡ true
    by true is e = subst (λ (q : ℕ). option_map_or (stands_at f d) (slice_get (functions u) q) false ≡ true) (same_some e) is
    by false is e = absurd cc

  is_owner : (f d : ℕ) (o : Option (List ℕ)) → option_and_then (number_named u f d) o ≡ Some i → declares_at (declared_at u) f d m ≡ true
  is_owner f d None e = absurd cc
  is_owner f d (Some name) e =
      let x = some_true (stands_at f d) (slice_get (functions u) i) (number_is f d i (first_of u name) e) in
      true_some (is_place f d) (declared_at u m.name) x.0.1 (declared_is x.0 x.1) x.2

  -- to whom the call hands on, if it does
  abbrev chosen : ℕ → ℕ → Bool → List Member
  chosen f n b = if b then option_map_or (of_kind kind) (named (place f n)) [] else []

  -- what the list of the function gains by a call is what is picked
  picked : (f n : ℕ) → forward_at named (declared_at u) u marks m f n ≡ pick i (contribution named u marks kind f n)
  picked f n = at_node (slice_get (nodes_at u f) n) refl where
    picks : (j : ℕ) (o : Option (List ℕ × List ℕ)) → (if j == i then option_map_or (of_kind kind) o [] else []) ≡ pick i (both_of kind (Some j) o)
    picks j (Some x) = refl
    picks j None = nothing (j == i) where
      nothing : (b : Bool) → (if b then no_lists 0 else []) ≡ no_lists 0
      nothing true = refl
      nothing false = refl

    at_owner : (d : ℕ) (o : Option ℕ) → owner_number u f d ≡ o → chosen f n (declares_at (declared_at u) f d m) ≡ pick i (both_of kind o (named (place f n)))
    at_owner d None none = ap (chosen f n) (falls (declares_at (declared_at u) f d m) (λ e. differ (owner_number u f d) i none (owner_is f d e))) where
      differ : (o : Option ℕ) (k : ℕ) → o ≡ None → o ≡ Some k → ⊥
      differ o k p q = cc
    at_owner d (Some j) is =
        ap (chosen f n) (holds_as (declares_at (declared_at u) f d m) (j == i)
        (λ e. eq-eqb j i (same_some (sym is ∙ owner_is f d e)))
        (λ e. is_owner f d (declared_name u f d) (is ∙ ap (λ k. Some k) (eqb-true j i e))))
        ∙ picks j (named (place f n))

    hands_both : (a b c : Bool) → a ≡ true → (a && (b && c)) ≡ (b && c)
    hands_both a b c e = ap (λ x. x && (b && c)) e

    and_end : (b : Bool) → (b && true) ≡ b
    and_end true = refl
    and_end false = refl

    and_none : (b : Bool) → (b && false) ≡ false
    and_none true = refl
    and_none false = refl

    own : bytes_eq m.path u.path ≡ true
    own = bytes_same m.path u.path refl

    at_hands : (d : ℕ) (b : Bool) → chosen f n (declares_at (declared_at u) f d m && b) ≡ pick i (both_of kind (if b then owner_number u f d else None) (named (place f n)))
    at_hands d true = ap (chosen f n) (and_end (declares_at (declared_at u) f d m)) ∙ at_owner d (owner_number u f d) refl
    at_hands d false = ap (chosen f n) (and_none (declares_at (declared_at u) f d m))

    at_declared : (call : Node) (d : ℕ) (o : Option Node) → chosen f n (declares_at (declared_at u) f d m && option_map_or (hands_node u marks f call kind) o false) ≡ pick i (both_of kind (option_and_then (giver_in u marks kind f call d) o) (named (place f n)))
    at_declared call d None = ap (chosen f n) (and_none (declares_at (declared_at u) f d m))
    at_declared call d (Some node) = at_hands d (hands u marks f call node kind)

    at_inside : (call : Node) (o : Option ℕ) → chosen f n (option_map_or (hands_in (declared_at u) u marks f call m) o false) ≡ pick i (both_of kind (option_and_then (giver_of u marks kind f call) o) (named (place f n)))
    at_inside call None = refl
    at_inside call (Some d) =
        ap (chosen f n) (hands_both (bytes_eq m.path u.path) (declares_at (declared_at u) f d m) (option_map_or (hands_node u marks f call kind) (slice_get (nodes_at u f) d) false) own)
        ∙ at_declared call d (slice_get (nodes_at u f) d)

    at_spread : (call : Node) (b : Bool) → chosen f n (b && option_map_or (hands_in (declared_at u) u marks f call m) (declaration_of u f n) false)
        ≡ pick i (both_of kind (if b then option_and_then (giver_of u marks kind f call) (declaration_of u f n) else None) (named (place f n)))
    at_spread call true = at_inside call (declaration_of u f n)
    at_spread call false = refl

    at_node : (o : Option Node) → slice_get (nodes_at u f) n ≡ o → chosen f n (option_map_or (hands_from (declared_at u) u marks f n m) (slice_get (nodes_at u f) n) false) ≡ pick i (both_of kind (option_and_then (giver_from u marks kind f n) (slice_get (nodes_at u f) n)) (named (place f n)))
    at_node o at = subst (λ (p : Option Node). chosen f n (option_map_or (hands_from (declared_at u) u marks f n m) p false) ≡ pick i (both_of kind (option_and_then (giver_from u marks kind f n) p) (named (place f n)))) (sym at) (by o) where
      by : (p : Option Node) → chosen f n (option_map_or (hands_from (declared_at u) u marks f n m) p false) ≡ pick i (both_of kind (option_and_then (giver_from u marks kind f n) p) (named (place f n)))
      by None = refl
      by (Some call) = at_spread call (is_spread_call call.kind)

  -- ---- the walk

  gains : (lists : ℕ → List Member) (o : Option Given) → after lists o i ≡ lists i ++ pick i o
  gains lists None = sym (append-nil (lists i))
  gains lists (Some x) = either (cases_eq i x.0)
      (λ e. one_here lists x.0 x.1 i e ∙ ap (λ b. lists i ++ (if b then x.1 ∷ [] else [])) (sym (eq-eqb x.0 i (sym e))))
      (λ ne. one_else lists x.0 x.1 i ne ∙ (sym (append-nil (lists i)) ∙ ap (λ b. lists i ++ (if b then x.1 ∷ [] else [])) (sym (falls (x.0 == i) (λ e. ne (sym (eqb-true x.0 i e)))))))

  walked_nodes : (lists : ℕ → List Member) (f n : ℕ) → walk_nodes named u marks kind lists f n i ≡ lists i ++ gather (forward_at named (declared_at u) u marks m f) n
  walked_nodes lists f zero = sym (append-nil (lists i))
  walked_nodes lists f (suc n) =
      gains (walk_nodes named u marks kind lists f n) (contribution named u marks kind f n)
      ∙ (ap (λ l. l ++ pick i (contribution named u marks kind f n)) (walked_nodes lists f n)
      ∙ (ap (λ l. (lists i ++ gather (forward_at named (declared_at u) u marks m f) n) ++ l) (sym (picked f n))
      ∙ append_assoc (lists i) (gather (forward_at named (declared_at u) u marks m f) n) (forward_at named (declared_at u) u marks m f n)))

  walked_files : (f : ℕ) → walk_files named u marks kind f i ≡ gather (forwards_in named (declared_at u) u marks m) f
  walked_files zero = refl
  walked_files (suc f) =
      walked_nodes (walk_files named u marks kind f) f (length (nodes_at u f)) ∙ ap (λ l. l ++ gather (forward_at named (declared_at u) u marks m f) (length (nodes_at u f))) (walked_files f)

  -- all of them
  pub walked : walk_files named u marks kind (length u.trees) i ≡ forwards_by named (declared_at u) u marks m
  walked = walked_files (length u.trees)
