-- The innermost node of some kinds that holds each node.
use Rattle.std.proofs.Common.{◌≡◌, ℕ, zero, suc, ◌<◌, ◌+◌, ◌≤◌, ◌⊎◌, Bool, true, false, cond, List, length, get_or, slice_get, Option, Some, None, refl, sym, ap, ◌∙◌, subst, inl, inr, arith}
use Rattle.std.proofs.lemmas.Option.{slice_get_within}
use Rattle.go_tree.specs.declared.tree.Node.{Node}
use Rattle.go_tree.specs.declared.tree.NodeKind.{NodeKind}
use Rattle.node_values.specs.Trees.{IsPart, IsTree, Holds, part, deep, IsOfKind, InnermostOf, IsInnermost, AreInnermost}
use Rattle.node_values.specs.Parents.{at, IsParent, AreParents}
use Rattle.node_values.specs.Handed.{AreHanded}
use Rattle.node_values.proofs.CaseLemmas.{same_some}

-- what holds n comes after it
pub holds_after : (nodes : List Node) → IsTree nodes → (p n : ℕ) → Holds nodes p n → n < p
holds_after nodes tree p n (part is) = tree.after p n is
holds_after nodes tree p n (deep {q = q} held is) = let x = holds_after nodes tree p q held in let y = tree.after q n is in omega arith

-- what holds n is what n is a part of, or holds that
pub holds_by : (nodes : List Node) → IsTree nodes → (g p n : ℕ) → IsPart nodes p n → Holds nodes g n → (g ≡ p) ⊎ Holds nodes g p
holds_by nodes tree g p n has (part is) = inl (tree.one g p n is has)
holds_by nodes tree g p n has (deep {q = q} held is) = inr (subst (λ (x : ℕ). Holds nodes g x) (tree.one q p n is has) held)

-- what holds n where n is a part of nothing
pub holds_none : (nodes : List Node) (g n : ℕ) → ((q : ℕ) → IsPart nodes q n → ⊥) → Holds nodes g n → ⊥
holds_none nodes g n none (part is) = none g is
holds_none nodes g n none (deep {q = q} held is) = none q is

-- there is one innermost node
pub one_innermost : (kinds : NodeKind → Bool) (nodes : List Node) → IsTree nodes → (n f g : ℕ) → InnermostOf kinds nodes n f → InnermostOf kinds nodes n g → f ≡ g
one_innermost kinds nodes tree n f g x y = by (x.innermost g y.kind y.holds) (y.innermost f x.kind x.holds) where
  by : (g ≡ f) ⊎ Holds nodes g f → (f ≡ g) ⊎ Holds nodes f g → f ≡ g
  by (inl e) other = sym e
  by (inr h) (inl e) = e
  by (inr h) (inr k) = let x = holds_after nodes tree g f h in let y = holds_after nodes tree f g k in absurd (omega arith)

other_kind : (kinds : NodeKind → Bool) (nodes : List Node) (g : ℕ) (node : Node) → slice_get nodes g ≡ Some node → kinds node.kind ≡ false → IsOfKind kinds nodes g → ⊥
other_kind kinds nodes g node there is (other, there2, is2) =
    let same : node ≡ other = same_some (slice_get nodes g) node other there there2 in
    let e : false ≡ true = sym is ∙ (ap (λ (x : Node). kinds x.kind) same ∙ is2) in cc

in_kind : (kinds : NodeKind → Bool) (nodes : List Node) → IsTree nodes → (p n : ℕ) (node : Node) → slice_get nodes p ≡ Some node → kinds node.kind ≡ true → IsPart nodes p n → InnermostOf kinds nodes n p
in_kind kinds nodes tree p n node there is has = record {
  kind = (node, there, is);
  holds = part has;
  innermost = λ g one held. holds_by nodes tree g p n has held;
}

in_other : (kinds : NodeKind → Bool) (nodes : List Node) → IsTree nodes → (p n : ℕ) (o : Option ℕ) (node : Node) → slice_get nodes p ≡ Some node → kinds node.kind ≡ false
    → IsPart nodes p n → IsInnermost kinds nodes p o → IsInnermost kinds nodes n o
in_other kinds nodes tree p n (Some b) node there is has f = record {
  kind = f.kind;
  holds = deep f.holds has;
  innermost = λ g one held. elim (holds_by nodes tree g p n has held) [
    | inl same ↦ absurd (other_kind kinds nodes p node there is (subst (λ (x : ℕ). IsOfKind kinds nodes x) same one))
    | inr above ↦ f.innermost g one above
  ];
}
in_other kinds nodes tree p n None node there is has none = λ g one held. elim (holds_by nodes tree g p n has held) [
  | inl same ↦ other_kind kinds nodes p node there is (subst (λ (x : ℕ). IsOfKind kinds nodes x) same one)
  | inr above ↦ none g one above
]

-- what is handed down
abbrev pub inner_rule : (NodeKind → Bool) → ℕ → Node → ℕ → Option ℕ → Option ℕ
inner_rule kinds p node n own = cond (kinds node.kind) (Some p) own

inner_step : (kinds : NodeKind → Bool) (nodes : List Node) (found : List (Option ℕ)) (n p : ℕ) → IsTree nodes → AreHanded (inner_rule kinds) None nodes found → n < length nodes
    → IsParent nodes (length nodes) n p → (IsPart nodes p n → IsInnermost kinds nodes p (get_or found p None)) → IsInnermost kinds nodes n (get_or found n None)
inner_step kinds nodes found n p tree handed low (inl (node, there, has)) up = by (kinds node.kind) refl where
  by : (b : Bool) → kinds node.kind ≡ b → IsInnermost kinds nodes n (get_or found n None)
  by true e = subst (λ (x : Option ℕ). IsInnermost kinds nodes n x) (sym (handed.given p n node there has low ∙ ap (λ c. cond c (Some p) (get_or found p None)) e))
      (in_kind kinds nodes tree p n node there e (node, there, has))
  by false e = subst (λ (x : Option ℕ). IsInnermost kinds nodes n x) (sym (handed.given p n node there has low ∙ ap (λ c. cond c (Some p) (get_or found p None)) e))
      (in_other kinds nodes tree p n (get_or found p None) node there e (node, there, has) (up (node, there, has)))
inner_step kinds nodes found n p tree handed low (inr none) up = subst (λ (x : Option ℕ). IsInnermost kinds nodes n x) (sym (handed.root n alone)) (λ g one held. holds_none nodes g n alone held) where
  alone : (q : ℕ) → IsPart nodes q n → ⊥
  alone q has = none.1 q (slice_get_within nodes q has.0 has.1) has

inner_from : (kinds : NodeKind → Bool) (nodes : List Node) (parents : List ℕ) (found : List (Option ℕ)) → IsTree nodes → AreParents nodes (length nodes) parents
    → AreHanded (inner_rule kinds) None nodes found → (left n : ℕ) → n < length nodes → length nodes ≤ n + left → IsInnermost kinds nodes n (get_or found n None)
inner_from kinds nodes parents found tree parts handed zero n low end = absurd (omega arith)
inner_from kinds nodes parents found tree parts handed (suc left) n low end =
    inner_step kinds nodes found n (at parents n) tree handed low (parts.each n low)
    (λ has. inner_from kinds nodes parents found tree parts handed left (at parents n) (slice_get_within nodes (at parents n) has.0 has.1) (let a = tree.after (at parents n) n has in omega arith))

pub are_innermost : (kinds : NodeKind → Bool) (nodes : List Node) (parents : List ℕ) (found : List (Option ℕ)) → IsTree nodes → AreParents nodes (length nodes) parents
    → AreHanded (inner_rule kinds) None nodes found → AreInnermost kinds nodes found
are_innermost kinds nodes parents found tree parts handed = record {
  size = handed.size;
  each = λ n low. inner_from kinds nodes parents found tree parts handed (length nodes) n low (omega arith);
}
