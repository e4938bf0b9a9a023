-- Where nothing of a package may be a fault of a body there is none.
use Rattle.std.proofs.Common.{◌≡◌, ℕ, zero, suc, ◌<◌, ◌≤◌, ◌+◌, ◌⊎◌, ◌||◌, ◌&&◌, ◌==◌, nat_lt, if◌then◌else◌, Bool, true, false, List, [], ◌∷◌, length, get_or, slice_get, Option, Some, None, option_and_then, refl, sym, ap, ◌∙◌, subst, inl, inr, arith}
use Rattle.std.specs.Option.{option_map_or}
use Rattle.std.proofs.lemmas.Option.{slice_get_within}
use Rattle.gv_base.proofs.Lists.{same_some, split, got}
use Rattle.go_tree.specs.declared.tree.FileTree.{FileTree}
use Rattle.go_tree.specs.declared.tree.Node.{Node}
use Rattle.go_tree.specs.declared.tree.NodeRef.{NodeRef}
use Rattle.go_tree.specs.Kinds.{is_function}
use Rattle.go_tree.proofs.NodeLemmas.{differ}
use Rattle.object_order.specs.Spots.{place}
use Rattle.node_values.specs.Handed.{IsHandedDown}
use Rattle.node_values.specs.Parents.{at}
use Rattle.node_values.specs.Trees.{IsTree, IsPart, IsOfKind, Holds, part, deep}
use Rattle.node_values.proofs.TreeLemmas.{spelled_tree}
use Rattle.label_uses.specs.Labels.{Heads, is_label}
use Rattle.shadowed_results.specs.Kinds.{is_bare, is_bare_at}
use Rattle.late_list.specs.Late.{IsFoundIn}
use Rattle.late_list.specs.declared.late.LateFault.{LateFault}
use Rattle.unit_read.specs.Places.{place_of}
use Rattle.unit_read.specs.Units.{Unit, node_at, place_at, tree_at, nodes_of}
use Rattle.unit_read.specs.declared.place.Place.{Place as Standing}
use Rattle.body_rules.specs.Asked.{acts, acts_at, is_marked, is_asked}
use Rattle.body_rules.specs.Endings.{flag_of}
use Rattle.body_rules.specs.Files.{IsFaultIn, node_count}
use Rattle.body_rules.specs.Given.{Given}
use Rattle.body_rules.proofs.AskedLemmas.{unasked}
use Rattle.body_facts.specs.Asking.{MayFail, MayFailBelow, Asks}
use Rattle.body_facts.specs.Bodies.{AreBodies}
use Rattle.body_facts.specs.Facts.{IsGivenOf, IsBodyFault}
use Rattle.body_facts.specs.NameTables.{within_rule, is_declaring, declared_by, kind_declares, stands_declared, is_new, is_variable}
use Rattle.body_facts.proofs.StandingLemmas.{stands_in, function_round}

untrue : (b : Bool) → (b ≡ true → ⊥) → b ≡ false
untrue true no_such = absurd (no_such refl)
untrue false no_such = refl

or_cases : (a b : Bool) → (a || b) ≡ true → (a ≡ true) ⊎ (b ≡ true)
or_cases true b e = inl refl
or_cases false b e = inr e

or_left : (a b : Bool) → a ≡ true → (a || b) ≡ true
or_left true b e = refl
or_left false b e = absurd (differ false refl e)

or_right : (a b : Bool) → b ≡ true → (a || b) ≡ true
or_right true b e = refl
or_right false b e = e

both : (a b : Bool) → (a && b) ≡ true → (a ≡ true) × (b ≡ true)
both true b e = (refl, e)
both false b e = absurd (differ false refl e)

-- ---- what stands within a function is held by one

held_by_one : (nodes : List Node) (inside : List Bool) → IsTree nodes → IsHandedDown within_rule false nodes inside → (room n : ℕ) → length nodes ≤ n + room → n < length nodes
    → get_or inside n false ≡ true → (f : ℕ) × IsOfKind is_function nodes f × Holds nodes f n
held_by_one nodes inside tree h zero n past low e = absurd (omega arith)
held_by_one nodes inside tree h (suc room) n past low e = elim (h.are_parents.each n low) [
  | inl is ↦ elim (or_cases (is_function is.0.kind) (get_or inside (at h.parents n) false) (sym (h.handed.given (at h.parents n) n is.0 is.1 is.2 low) ∙ e)) [
    | inl function ↦ (at h.parents n, (is.0, is.1, function), part is)
    | inr later ↦ (
        let r = held_by_one nodes inside tree h room (at h.parents n) (let a = tree.after (at h.parents n) n is in omega arith) (slice_get_within nodes (at h.parents n) is.0 is.1) later in
        (r.0, r.1, deep r.2 is)
        )
  ]
  | inr root ↦ absurd (differ false refl (sym (h.handed.root n (λ p is. root.1 p (slice_get_within nodes p is.0 is.1) is)) ∙ e))
]

-- ---- one file

module _ (u : Unit) (meant : NodeRef → Option NodeRef) (number : ℕ) (text : List ℕ) (tree : FileTree) (has_tree : slice_get u.trees number ≡ Some tree)
    (is_tree : IsTree tree.nodes) (g : Given) (are : IsGivenOf u meant number text tree g) (none : MayFail tree.nodes → ⊥) (n : ℕ) (low : n < length tree.nodes)
  where
    labels : Heads is_label tree.nodes n → ⊥
    labels (p, node, there, kind, first) = none (inl (p, (node, there, or_right (acts tree.nodes node) (is_label node.kind || is_bare node) (or_left (is_label node.kind) (is_bare node) kind))))

    returns : is_bare_at tree.nodes n ≡ true → ⊥
    returns is = by (slice_get tree.nodes n) refl is where
      by : (o : Option Node) → slice_get tree.nodes n ≡ o → option_map_or is_bare o false ≡ true → ⊥
      by None there e = differ false refl e
      by (Some node) there e = none (inl (n, (node, there, or_right (acts tree.nodes node) (is_label node.kind || is_bare node) (or_right (is_label node.kind) (is_bare node) e))))

    acting : acts_at g n ≡ true → ⊥
    acting is = by (slice_get tree.nodes n) refl (sym (ap (λ (l : List Node). option_map_or (acts l) (slice_get l n) false) are.nodes) ∙ is) where
      by : (o : Option Node) → slice_get tree.nodes n ≡ o → option_map_or (acts tree.nodes) o false ≡ true → ⊥
      by None there e = differ false refl e
      by (Some node) there e = none (inl (n, (node, there, or_left (acts tree.nodes node) (is_label node.kind || is_bare node) e)))

    declaring : (inside : List Bool) → IsHandedDown within_rule false tree.nodes inside → is_variable u number inside n ≡ true → ⊥
    declaring inside h is = by_place (place_at u (place number n)) refl one.1 where
      two : (get_or inside n false ≡ true) × ((stands_declared u number n && is_new u number n) ≡ true)
      two = both (get_or inside n false) (stands_declared u number n && is_new u number n) is

      one : (get_or inside n false ≡ true) × (stands_declared u number n ≡ true)
      one = (two.0, (both (stands_declared u number n) (is_new u number n) two.1).0)

      nodes_are : nodes_of (tree_at u number) ≡ tree.nodes
      nodes_are = ap nodes_of has_tree

      by_node : (p : Standing) (o : Option Node) → slice_get tree.nodes p.around ≡ o → kind_declares o ≡ true → place_of tree.nodes n ≡ Some p → ⊥
      by_node p None there kind stands = differ false refl kind
      by_node p (Some node) there kind stands =
          let r = held_by_one tree.nodes inside is_tree h (length tree.nodes) n (omega arith) low one.0 in
          none (inr (r.0, p.around, (r.1, (node, there, kind), function_round tree.nodes p.around n r.0 is_tree (stands_in tree.nodes n p stands) (node, there, kind) r.1 r.2)))

      place_is : place_at u (place number n) ≡ place_of tree.nodes n
      place_is =
          let there = got tree.nodes n low in
          ap (λ (l : List Node). option_and_then (λ (node : Node). place_of l n) (slice_get l n)) nodes_are ∙ ap (option_and_then (λ (node : Node). place_of tree.nodes n)) there.1

      by_place : (o : Option Standing) → place_at u (place number n) ≡ o → option_map_or (declared_by u number) o false ≡ true → ⊥
      by_place None there e = differ false refl e
      by_place (Some p) there e =
          by_node p (slice_get tree.nodes p.around) refl
          (ap (λ (l : List Node). kind_declares (slice_get l p.around)) (sym nodes_are) ∙ (both (kind_declares (node_at u (place number p.around))) (p.slot == 0) e).0)
          (sym place_is ∙ there)

    -- no rule is asked of a node
    pub not_asked : is_asked g n ≡ false
    not_asked = untrue (is_asked g n) (λ e. elim (or_cases (is_marked g n) (acts_at g n) e) [
      | inl marked ↦ elim (or_cases (flag_of g.repeated n) (flag_of g.unused n || (flag_of g.shadowed n || flag_of g.variables n)) marked) [
        | inl repeated ↦ labels ((are.repeated.each n low).0 repeated).1.0
        | inr rest ↦ elim (or_cases (flag_of g.unused n) (flag_of g.shadowed n || flag_of g.variables n) rest) [
          | inl unused ↦ labels ((are.unused.each n low).0 unused).label.0
          | inr more ↦ elim (or_cases (flag_of g.shadowed n) (flag_of g.variables n) more) [
            | inl shadowed ↦ returns ((are.shadowed.each n low).0 shadowed).bare
            | inr variable ↦ declaring are.variables.inside are.variables.within (sym (are.variables.values.each n low) ∙ variable)
          ]
        ]
      ]
      | inr acted ↦ acting acted
    ])

-- ---- a package

pub unasked_body : (u : Unit) (meant : NodeRef → Option NodeRef) (x : LateFault) → AreBodies u.texts u.trees → (Asks u.trees → ⊥) → IsBodyFault u meant x → ⊥
unasked_body u meant x bodies none b = by b.found where
  is_tree : IsTree b.tree.nodes
  is_tree = spelled_tree b.tree b.text (bodies.spelled b.number b.tree b.text b.has_tree b.has_text)

  by : IsFoundIn IsFaultIn node_count b.g x → ⊥
  by (n, low, (rule, (fault, same))) =
      unasked b.g n (not_asked u meant b.number b.text b.tree b.has_tree is_tree b.g b.is_given (λ may. none (b.number, b.tree, b.has_tree, may)) n (subst (λ (l : List Node). n < length l) b.is_given.nodes low)) rule x.place fault

-- one file more
pub none_below_more : (trees : List FileTree) (k : ℕ) (tree : FileTree) → slice_get trees k ≡ Some tree → (MayFail tree.nodes → ⊥) → (MayFailBelow trees k → ⊥) → MayFailBelow trees (k + 1) → ⊥
none_below_more trees k tree there fails before (j, other, low, here, may) = elim (split j k low) [
  | inl less ↦ before (j, other, less, here, may)
  | inr same ↦ fails (subst (λ (t : FileTree). MayFail t.nodes) (same_some (slice_get trees k) other tree (ap (slice_get trees) (sym same) ∙ here) there) may)
]

pub none_below_all : (trees : List FileTree) (k : ℕ) → length trees ≤ k → (MayFailBelow trees k → ⊥) → Asks trees → ⊥
none_below_all trees k past none (j, tree, there, may) = none (j, tree, (let low = slice_get_within trees j tree there in omega (arith, low, past)), there, may)
