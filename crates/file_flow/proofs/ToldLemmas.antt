-- Labels that are told from what their names denote.
use Rattle.std.proofs.Common.{◌≡◌, ◌⊎◌, inl, inr, ◌<◌, ◌≤◌, ◌+◌, ℕ, zero, suc, Bool, true, false, cond, List, [], ◌∷◌, length, replicate, set, Option, Some, None, refl, sym, ap, ◌∙◌, subst, arith}
use Rattle.std.specs.Prelude.{slice_get}
use Rattle.std.proofs.lemmas.List.{get_or-set_other, get_or-set_same, length-replicate, length-set}
use Rattle.std.proofs.lemmas.Bool.{cases_eq}
use Rattle.std.proofs.lemmas.Option.{slice_get_within}
use Rattle.go_tree.specs.declared.tree.FileTree.{FileTree}
use Rattle.go_tree.specs.declared.tree.Node.{Node}
use Rattle.flow.specs.Around.{IsTree, label_at}
use Rattle.label_uses.specs.Labels.{is_label, DenotesLabel}
use Rattle.label_uses.specs.Read.{AreLabels, JumpAnswer}
use Rattle.label_uses.specs.declared.answer.Jump.{Jump}
use Rattle.label_uses.specs.declared.answer.Labels.{Labels}
use Rattle.file_flow.specs.Told.{IsLabeledBy, DenotesStatement, AreTold, named_by, AreOwners, owner_of, AreGivenTo, IsPut}
use Rattle.file_flow.proofs.TreeLemmas.{either, same_some}

no_truth : {C : Type 0} → false ≡ true → C
no_truth e = absurd cc

pub no_some : {C : Type 0} (x : ℕ) → None ≡ Some x → C
no_some x e = absurd cc

pub set_put : (at : ℕ) (value : Option ℕ) (old new : List (Option ℕ)) → at < length old → new ≡ set old at value → IsPut at value old new
set_put at value old new low is = record {
  size = ap length is ∙ length-set old at value;
  here = λ under. ap (λ l. label_at l at) is ∙ get_or-set_same old at value None low;
  there = λ j ne. ap (λ l. label_at l j) is ∙ get_or-set_other old at j value None ne;
  outside = λ high. absurd (omega arith);
}

pub no_put : (at : ℕ) (value : Option ℕ) (old new : List (Option ℕ)) → length old ≤ at → new ≡ old → IsPut at value old new
no_put at value old new high same = record {
  size = ap length same;
  here = λ low. absurd (omega arith);
  there = λ j ne. ap (λ l. label_at l j) same;
  outside = λ h. ap (λ l. label_at l at) same;
}

none_there : (n count : ℕ) → label_at (replicate count None) n ≡ None
none_there n zero = refl
none_there zero (suc count) = refl
none_there (suc n) (suc count) = none_there n count

none_at : {C : Type 0} (count : ℕ) (all : List (Option ℕ)) (n l : ℕ) → all ≡ replicate count None → label_at all n ≡ Some l → C
none_at count all n l is e = no_some l (sym (none_there n count) ∙ (sym (ap (λ x. label_at x n) is) ∙ e))

-- Owners.

pub none_owned : (tree : FileTree) (count : ℕ) (owners : List (Option ℕ)) → count ≡ length tree.nodes → owners ≡ replicate count None → AreOwners tree 0 owners
none_owned tree count owners same is = record {
  size = ap length is ∙ (length-replicate count None ∙ same);
  sound = λ n l e. none_at count owners n l is e;
  every = λ n l low labeled. absurd (omega (arith, low));
}

record Named (node : Node) (n : ℕ) : Type 0 where
  labels : is_label node.kind ≡ true
  first : slice_get node.parts 0 ≡ Some n

named_so : (node : Node) (n : ℕ) → named_by node ≡ Some n → Named node n
named_so node n e = by_label (is_label node.kind) refl where
  by_label : (b : Bool) → is_label node.kind ≡ b → Named node n
  by_label true is = record { labels = is; first = sym (ap (λ b. cond b (slice_get node.parts 0) None) is) ∙ e }
  by_label false is = no_some n (sym (ap (λ b. cond b (slice_get node.parts 0) None) is) ∙ e)

so_named : (node : Node) (n : ℕ) → is_label node.kind ≡ true → slice_get node.parts 0 ≡ Some n → named_by node ≡ Some n
so_named node n is first = ap (λ b. cond b (slice_get node.parts 0) None) is ∙ first

-- the name of a labeled statement is what its node says
labeled_name : (tree : FileTree) (l : ℕ) (node : Node) (n : ℕ) → slice_get tree.nodes l ≡ Some node → IsLabeledBy tree n l → named_by node ≡ Some n
labeled_name tree l node n at labeled =
    let same : labeled.node ≡ node = same_some (sym labeled.there ∙ at) in
    ap named_by (sym same) ∙ so_named labeled.node n labeled.labels labeled.first

unnamed_more : (tree : FileTree) (l : ℕ) (node : Node) (old new : List (Option ℕ)) → slice_get tree.nodes l ≡ Some node → named_by node ≡ None → new ≡ old
    → AreOwners tree l old → AreOwners tree (l + 1) new
unnamed_more tree l node old new at none same a = rw same (record {
  size = a.size;
  sound = a.sound;
  every = λ n k low labeled. either (cases_eq k l)
      (λ e. no_some n (sym none ∙ labeled_name tree l node n at (subst (IsLabeledBy tree n) e labeled)))
      (λ ne. a.every n k (omega arith) labeled);
})

named_more : (tree : FileTree) (l : ℕ) (node : Node) (m : ℕ) (old new : List (Option ℕ)) → IsTree tree.nodes → slice_get tree.nodes l ≡ Some node → named_by node ≡ Some m
    → IsPut m (Some l) old new → AreOwners tree l old → AreOwners tree (l + 1) new
named_more tree l node m old new is at named put a =
    let so = named_so node m named in
    let before = is.after l 0 m (node, at, so.first) in
    let under = slice_get_within tree.nodes l node at in
    let size = a.size in
    let here : label_at new m ≡ Some l = put.here (omega arith) in
    record {
      size = put.size ∙ a.size;
      sound = λ n k e. either (cases_eq n m)
          (λ same.
          let one : l ≡ k = same_some (sym here ∙ (sym (ap (label_at new) same) ∙ e)) in
          subst (IsLabeledBy tree n) one (subst (λ x. IsLabeledBy tree x l) (sym same) (record { node = node; there = at; labels = so.labels; first = so.first })))
          (λ ne. a.sound n k (sym (put.there n ne) ∙ e));
      every = λ n k low labeled. either (cases_eq k l)
          (λ e.
          let name : named_by node ≡ Some n = labeled_name tree l node n at (subst (IsLabeledBy tree n) e labeled) in
          let same : n ≡ m = same_some (sym name ∙ named) in
          ap (label_at new) same ∙ (here ∙ ap Some (sym e)))
          (λ ne. either (cases_eq n m)
          (λ same. absurd (ne (is.one k l 0 0 m (labeled.node, labeled.there, labeled.first ∙ ap Some same) (node, at, so.first)).0))
          (λ other. put.there n other ∙ a.every n k (omega arith) labeled));
    }

-- the label of one node more
pub owners_more : (tree : FileTree) (l : ℕ) (node : Node) (name : Option ℕ) (old new : List (Option ℕ)) → IsTree tree.nodes → slice_get tree.nodes l ≡ Some node → name ≡ named_by node
    → ((n : ℕ) → name ≡ Some n → IsPut n (Some l) old new) → (name ≡ None → new ≡ old) → AreOwners tree l old → AreOwners tree (l + 1) new
owners_more tree l node None old new is at told put other a = unnamed_more tree l node old new at (sym told) (other refl) a
owners_more tree l node (Some m) old new is at told put other a = named_more tree l node m old new is at (sym told) (put m refl) a

pub all_owned : (tree : FileTree) (n : ℕ) (owners : List (Option ℕ)) → n ≡ length tree.nodes → AreOwners tree n owners → AreOwners tree (length tree.nodes) owners
all_owned tree n owners end a = subst (λ k. AreOwners tree k owners) end a

-- Jumps.

pub none_given : (jumps : List Jump) (owners : List (Option ℕ)) (count : ℕ) (labels : List (Option ℕ)) → labels ≡ replicate count None → AreGivenTo jumps owners 0 labels
none_given jumps owners count labels is = record {
  sound = λ j l e. none_at count labels j l is e;
  every = λ i jump low at under. absurd (omega (arith, low));
}

given_more : (jumps : List Jump) (owners : List (Option ℕ)) (i : ℕ) (jump : Jump) (old new : List (Option ℕ))
    → ((j k : ℕ) (a b : Jump) → j < k → slice_get jumps j ≡ Some a → slice_get jumps k ≡ Some b → a.name < b.name)
    → slice_get jumps i ≡ Some jump → IsPut jump.name (owner_of owners jump.label) old new → AreGivenTo jumps owners i old → AreGivenTo jumps owners (i + 1) new
given_more jumps owners i jump old new rises at put a = record {
  sound = λ j l e. either (cases_eq j jump.name)
      (λ same. either (below_or (length old) jump.name)
      (λ low. (i, jump, at, sym same, sym (put.here low) ∙ (sym (ap (label_at new) same) ∙ e)))
      (λ high. a.sound j l (ap (label_at old) same ∙ (sym (put.outside high) ∙ (sym (ap (label_at new) same) ∙ e)))))
      (λ ne. a.sound j l (sym (put.there j ne) ∙ e));
  every = λ k other low there under. either (cases_eq k i)
      (λ e.
      let same : other ≡ jump = same_some (sym there ∙ (ap (slice_get jumps) e ∙ at)) in
      let size = put.size in
      let inside : jump.name < length old = subst (λ (x : Jump). x.name < length old) same (subst (λ n. other.name < n) size under) in
      subst (λ (x : Jump). label_at new x.name ≡ owner_of owners x.label) (sym same) (put.here inside))
      (λ ne.
      let less : other.name < jump.name = rises k i other jump (omega arith) there at in
      let size = put.size in
      put.there other.name (λ e. absurd (omega arith)) ∙ a.every k other (omega arith) there (subst (λ n. other.name < n) size under));
}
  where
    below_or : (n m : ℕ) → (m < n) ⊎ (n ≤ m)
    below_or zero m = inr (omega arith)
    below_or (suc n) zero = inl (omega arith)
    below_or (suc n) (suc m) = either (below_or n m) (λ l. inl (omega arith)) (λ h. inr (omega arith))

pub given_by : (jumps : List Jump) (owners : List (Option ℕ)) (i : ℕ) (jump : Jump) (o : Option ℕ) (old new : List (Option ℕ))
    → ((j k : ℕ) (a b : Jump) → j < k → slice_get jumps j ≡ Some a → slice_get jumps k ≡ Some b → a.name < b.name)
    → slice_get jumps i ≡ Some jump → o ≡ owner_of owners jump.label → IsPut jump.name o old new → AreGivenTo jumps owners i old → AreGivenTo jumps owners (i + 1) new
given_by jumps owners i jump o old new rises at same put a = given_more jumps owners i jump old new rises at (subst (λ x. IsPut jump.name x old new) same put) a

pub all_given : (jumps : List Jump) (owners : List (Option ℕ)) (n few : ℕ) (labels : List (Option ℕ)) → n ≡ few → AreGivenTo jumps owners n labels → AreGivenTo jumps owners few labels
all_given jumps owners n few labels end a = subst (λ k. AreGivenTo jumps owners k labels) end a

-- what is given is what is told
pub told_by : (bytes : List ℕ) (tree : FileTree) (found : Labels) (owners labels : List (Option ℕ)) → IsTree tree.nodes
    → ((jump a b : ℕ) → DenotesLabel bytes tree jump a → DenotesLabel bytes tree jump b → a ≡ b)
    → AreLabels bytes tree found
    → AreOwners tree (length tree.nodes) owners → length labels ≡ length tree.nodes → AreGivenTo found.jumps.items owners (length found.jumps.items) labels → AreTold bytes tree labels
told_by bytes tree found owners labels is one are own size given = record {
  sound = λ j l e. let w = given.sound j l e in
      subst (λ x. DenotesStatement bytes tree x l) w.3 (by_label w.1.name w.1.label l (are.denoted w.0 w.1 w.2) w.4);
  every = λ j l d.
      let row = are.jumps.all j (d.denotes.0, d.denotes.1) in
      let head = d.denotes.1.0 in
      let before = is.after head.0 0 j (head.1, head.2, head.4) in
      let under = slice_get_within tree.nodes head.0 head.1 head.2 in
      let low : row.1.name < length labels = subst (λ x. x < length labels) (sym row.3) (omega arith) in
      let here : label_at labels row.1.name ≡ owner_of owners row.1.label =
      given.every row.0 row.1 (slice_get_within found.jumps.items row.0 row.1 row.2) row.2 low in
      ap (label_at labels) (sym row.3) ∙ (here
      ∙ (ap (owner_of owners) (label_is row.1.name row.1.label d.name (are.denoted row.0 row.1 row.2) (subst (λ x. DenotesLabel bytes tree x d.name) (sym row.3) d.denotes))
      ∙ own.every d.name l (slice_get_within tree.nodes l d.labeled.node d.labeled.there) d.labeled));
}
  where
    by_label : (j : ℕ) (label : Option ℕ) (l : ℕ) → JumpAnswer bytes tree j label → owner_of owners label ≡ Some l → DenotesStatement bytes tree j l
    by_label j None l answer e = no_some l e
    by_label j (Some name) l answer e = record { name = name; denotes = answer; labeled = own.sound name l e }

    label_is : (j : ℕ) (label : Option ℕ) (name : ℕ) → JumpAnswer bytes tree j label → DenotesLabel bytes tree j name → label ≡ Some name
    label_is j None name answer d = absurd (answer name d)
    label_is j (Some other) name answer d = ap Some (one j other name answer d)
