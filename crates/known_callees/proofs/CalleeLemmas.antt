-- What nodes name and bodies call is in the package or in its environment.
use Rattle.std.proofs.Common.{◌≡◌, inl, inr, ℕ, ◌&&◌, Bool, true, false, if◌then◌else◌, List, [], ◌∷◌, map, Option, Some, None, is_some, option_map, slice_get, refl, sym, ap, ◌∙◌, subst}
use Rattle.std.specs.Prelude.{◌==◌, option_and_then}
use Rattle.std.specs.Str.{bytes_eq}
use Rattle.go_tree.specs.declared.bindings.Object.{Object}
use Rattle.go_tree.specs.declared.bindings.Object.TheVariants as o
use Rattle.go_tree.specs.declared.tree.FileTree.{FileTree}
use Rattle.go_tree.specs.declared.tree.Node.{Node}
use Rattle.go_tree.specs.declared.tree.NodeKind.{NodeKind}
use Rattle.go_tree.specs.declared.tree.NodeKind.TheVariants as k
use Rattle.go_tree.specs.declared.tree.NodeRef.{NodeRef}
use Rattle.go_tree.specs.Lexeme.{place_of}
use Rattle.least.specs.Staged.{Sees}
use Rattle.least.specs.Tables.{Member, home}
use Rattle.member_names.specs.Named.{owner_of, IsMethodNamed, NamesMethod, IsNamed}
use Rattle.never_returns.specs.Admits.{Callee, Other, Panic, Named, Body, Admits, Calls, Has, SeeTheirCallees}
use Rattle.object_order.specs.Spots.{place}
use Rattle.own_functions.proofs.NameLemmas.{both_true, mapped_there, place_none, same_bytes, same_number}
use Rattle.own_functions.specs.Functions.{Pair, first_of, is_own, number, declared_at, block_at}
use Rattle.package_faces.specs.Faces.{Face}
use Rattle.package_objects.specs.Declares.{part}
use Rattle.selected_methods.specs.Selected.{declared_by}
use Rattle.type_model.specs.GoTypes.{GoType}
use Rattle.typed_marks.specs.declared.item.Item.{Item}
use Rattle.typed_marks.specs.Meanings.{Meaning}
use Rattle.unit_read.specs.declared.lead.Lead.{Lead}
use Rattle.unit_read.specs.Imports.{lead_at, paths_of}
use Rattle.unit_read.specs.Units.{Unit, nodes_at, object_at, first_spelled, last_spelled, tree_at}
use Rattle.vet_never.specs.Callees.{callee_of, is_panic, member_of, IsMemberCallee, IsCalleeIf, IsCalleeOf, IsCallee}
use Rattle.vet_never.specs.Listed.{is_listed_name, listed_in}
use Rattle.vet_never.specs.Never.{Around, body_with, body_in, body_at, body_of, bodies_in, IsAround}
use Rattle.vet_words.specs.Called.{declares_function, own_function, path_at, path_led, package_path, object_of, owner_path, is_value, with_name, function_by, function_of, function_at}
use Rattle.vet_words.specs.Marked.{known_at, mode_is}
use Rattle.known_callees.specs.Seen.{is_beside, IsSeen, env_of}
use Rattle.known_callees.proofs.MethodLemmas.{selected_seen}
use Rattle.known_callees.proofs.Words.{bound, get_mapped, mapped, no_some, not_none, same_some, where_true}

module _ (u : Unit) where
  pub own_member : (m : Member) → is_own 0 u m ≡ true → (m.kind ≡ 0) × (m.path ≡ u.path)
  own_member m own =
      let both = both_true (m.kind == 0) (bytes_eq m.path u.path) own in
      (same_number m.kind 0 both.0, same_bytes m.path u.path both.1)

  -- what has a number is the package's own
  numbered_own : (m : Member) → is_some (number 0 u m) ≡ true → is_own 0 u m ≡ true
  numbered_own m e = by (is_own 0 u m) e where
    by : (b : Bool) → is_some (if b then first_of u m.name else None) ≡ true → b ≡ true
    by true e = refl
    by false e = e

  pub admitted_own : (a : Around) (N : Member → Bool) (m : Member) → Admits (listed_in u) (bodies_in u a) N m → is_own 0 u m ≡ true
  admitted_own a N m (inl listed) = numbered_own m (both_true (is_listed_name u.path m.name) (is_some (number 0 u m)) listed).1
  admitted_own a N m (inr (b, there, never)) = (where_true (is_own 0 u m) (body_of u a m) b there).0

module _ (u : Unit) (marks : Item → Meaning) where
  -- ---- functions

  pub face_beside : (i : ℕ) (path : List ℕ) → slice_get (paths_of u.env) i ≡ Some path → is_beside u path ≡ true
  face_beside i path there = not_none (place_of (paths_of u.env) path) (λ none. place_none (paths_of u.env) path i none there)

  own_seen : (name : List ℕ) (x : Object) (m : List ℕ × List ℕ) → own_function u name x ≡ Some m → IsSeen u m.0
  own_seen name (o.Package at) m e = inl (sym (ap (λ (y : List ℕ × List ℕ). y.0) (same_some (u.path, name) m (where_true (declares_function u at) (Some (u.path, name)) m e).1)))
  own_seen name (o.Universe i) m e = no_some m e
  own_seen name (o.Import at) m e = no_some m e
  own_seen name (o.Local at) m e = no_some m e

  package_seen : (x : Object) (path : List ℕ) → package_path u x ≡ Some path → IsSeen u path
  package_seen (o.Import at) path e =
      let (l, led, to) = bound (path_led u) (lead_at u at) path e in
      let (i, is, there) = bound (path_at u) l.interface path to in
      let (f, stands, same) = mapped (λ (f : Face). f.path) (slice_get u.env i) path there in
      inr (face_beside i path (get_mapped (λ (x : Face). x.path) u.env i f stands ∙ ap (λ (p : List ℕ). Some p) same))
  package_seen (o.Package at) path e = no_some path e
  package_seen (o.Universe i) path e = no_some path e
  package_seen (o.Local at) path e = no_some path e

  function_seen : (f n : ℕ) (node : Node) (kind : NodeKind) (m : List ℕ × List ℕ) → function_by u marks f n node kind ≡ Some m → IsSeen u m.0
  function_seen f n node k.Name m e =
      let (x, denotes, own) = bound (own_function u (first_spelled u f node)) (object_at u (place f n)) m e in
      own_seen (first_spelled u f node) x m own
  function_seen f n node k.Selector m e =
      let there = (where_true (mode_is is_value (known_at marks f n)) (option_map (with_name (last_spelled u f node)) (owner_path u f node)) m e).1 in
      let (path, owns, named) = mapped (with_name (last_spelled u f node)) (owner_path u f node) m there in
      let (x, denotes, leads) = bound (package_path u) (option_and_then (object_of u f) (part node 0)) path owns in
      subst (λ (p : List ℕ). IsSeen u p) (ap (λ (y : List ℕ × List ℕ). y.0) named) (package_seen x path leads)
  function_seen f n node _ m e = no_some m e

  pub named_seen : (f n : ℕ) (m : List ℕ × List ℕ) → IsNamed u marks f n m → IsSeen u m.0
  named_seen f n m (inl e) =
      let (node, there, is) = bound (function_of u marks f n) (slice_get (nodes_at u f) n) m e in
      function_seen f n node node.kind m is
  named_seen f n m (inr (none, (node, there, (selects, (of, owns, named))))) = selected_seen u marks (last_spelled u f node) of m named

  -- ---- what is called

  no_named : {C : Type 0} (m : Member) → Named m ≡ Other → C
  no_named m e = absurd (cc)

  no_panic : {C : Type 0} (m : Member) → Named m ≡ Panic → C
  no_panic m e = absurd (cc)

  one_named : (a b : Member) → Named a ≡ Named b → a ≡ b
  one_named a b e = cc

  member_seen : (f n : ℕ) (m : Member) → IsMemberCallee u marks f n (Named m) → IsSeen u m.path
  member_seen f n m (inl (x, is, e)) = subst (λ (p : List ℕ). IsSeen u p) (sym (ap (λ (y : Member). y.path) (one_named m (member_of x) e))) (named_seen f n x is)
  member_seen f n m (inr (none, e)) = no_named m e

  callee_seen : (at : NodeRef) (m : Member) → IsCallee u marks at (Named m) → IsSeen u m.path
  callee_seen at m is = by (callee_of (nodes_at u at.file) at.node) is where
    by_panic : (n : ℕ) (p : Bool) → IsCalleeIf u marks at.file n p (Named m) → IsSeen u m.path
    by_panic n true e = no_panic m e
    by_panic n false is = member_seen at.file n m is

    by : (o : Option ℕ) → IsCalleeOf u marks at.file o (Named m) → IsSeen u m.path
    by None e = no_named m e
    by (Some n) is = by_panic n (is_panic u at.file n) is

  -- ---- bodies

  pub body_own : (a : Around) (m : Member) (b : Body) → bodies_in u a m ≡ Some b → is_own 0 u m ≡ true
  body_own a m b e = (where_true (is_own 0 u m) (body_of u a m) b e).0

  -- what a body's statement calls is what is called there
  body_calls : (a : Around) (m : Member) (b : Body) → bodies_in u a m ≡ Some b → (f : ℕ) × ((n : ℕ) → b.callee n ≡ a.callee (place f n))
  body_calls a m b e =
      let there = (where_true (is_own 0 u m) (body_of u a m) b e).1 in
      let (at, declared, is) = bound (body_at u a) (declared_at u m.name) b there in
      let (tree, stands, has) = bound (body_in a at) (tree_at u at.file) b is in
      let (block, blocked, made) = mapped (body_with a at.file tree) (block_at tree.nodes at.node) b has in
      (at.file, λ n. subst (λ (x : Body). x.callee n ≡ a.callee (place at.file n)) made refl)

  pub callees_seen : (a : Around) → IsAround u marks a → SeeTheirCallees (Has (env_of u)) (bodies_in u a)
  callees_seen a is m b has g (n, reached, calls) =
      let (f, callee) = body_calls a m b has in
      let called : IsCallee u marks (place f n) (Named g) = subst (λ (c : Callee). IsCallee u marks (place f n) c) (sym (callee n) ∙ calls) (is.calls (place f n)) in
      to (callee_seen (place f n) g called)
    where
      to : IsSeen u g.path → Sees home (Has (env_of u)) (home m) g
      to (inl own) = inl (own ∙ sym (own_member u m (body_own a m b has)).1)
      to (inr beside) = inr beside
