-- Whether a function holds a node that declares variables, told by the last such node before it.
use Rattle.std.proofs.Common.{◌≡◌, ℕ, zero, suc, ◌<◌, ◌≤◌, ◌+◌, ◌&&◌, nat_lt, if◌then◌else◌, Bool, true, false, List, length, get_or, slice_get, Some, refl, sym, ap, ◌∙◌, subst, inl, inr, arith}
use Rattle.std.proofs.lemmas.Bool.{cases_lt, ltb-true, lt-ltb}
use Rattle.std.proofs.lemmas.Option.{slice_get_within}
use Rattle.gv_base.proofs.Lists.{same_some, split}
use Rattle.go_tree.specs.declared.tree.Node.{Node}
use Rattle.go_tree.specs.declared.tree.NodeKind.{NodeKind}
use Rattle.go_tree.specs.Kinds.{is_function}
use Rattle.go_tree.proofs.NodeLemmas.{differ}
use Rattle.node_values.specs.Ranges.{starts, IsTiled}
use Rattle.node_values.specs.Trees.{IsTree, IsOfKind}
use Rattle.node_values.proofs.RangeLemmas.{held_within}
use Rattle.body_facts.specs.Asking.{DeclaresIn, IsPast, past_of}
use Rattle.body_facts.specs.NameTables.{is_declaring}

pub past_none : (nodes : List Node) → IsPast nodes 0 0
past_none nodes = record { all = λ d low. absurd (omega arith); one = λ d e. absurd (omega arith) }

-- one node more
pub past_more : (nodes : List Node) (n past new : ℕ) (node : Node) → slice_get nodes n ≡ Some node → new ≡ past_of node.kind n past → IsPast nodes n past → IsPast nodes (n + 1) new
past_more nodes n past new node there is was = by (is_declaring node.kind) refl is where
  same : (d : ℕ) → d ≡ n → (is : IsOfKind is_declaring nodes d) → node ≡ is.0
  same d e is = same_some (slice_get nodes n) node is.0 there (ap (slice_get nodes) (sym e) ∙ is.1)

  by : (b : Bool) → is_declaring node.kind ≡ b → new ≡ (if b then suc n else past) → IsPast nodes (n + 1) new
  by true kind e = record {
    all = λ d low is. omega (arith, low, e);
    one = λ d after. (let here : d ≡ n = omega (arith, e, after) in (omega (arith, here), subst (λ (x : ℕ). IsOfKind is_declaring nodes x) (sym here) (node, there, kind)));
  }
  by false kind e = record {
    all = λ d low is. elim (split d n low) [
      | inl before ↦ (let a = was.all d before is in omega (arith, a, e))
      | inr here ↦ absurd (differ (is_declaring node.kind) kind (ap (λ (x : Node). is_declaring x.kind) (same d here is) ∙ is.2))
    ];
    one = λ d after. (let r = was.one d (sym e ∙ after) in (let low = r.0 in omega (arith, low), r.1));
  }

-- the node n holds none of them
pub none_round : (nodes : List Node) (n past begin : ℕ) (node : Node) → IsTree nodes → IsTiled nodes → slice_get nodes n ≡ Some node → begin ≡ get_or (starts nodes) n 0 → IsPast nodes n past
    → (is_function node.kind && nat_lt begin past) ≡ false → ((f d : ℕ) → f < n → DeclaresIn nodes f d → ⊥) → (f d : ℕ) → f < n + 1 → DeclaresIn nodes f d → ⊥
none_round nodes n past begin node tree tiled there starts_at was fails before f d low is = elim (split f n low) [
  | inl less ↦ before f d less is
  | inr here ↦ (
      let held = (held_within nodes tree tiled f d (slice_get_within nodes f is.0.0 is.0.1)).0 is.2 in
      let own : node ≡ is.0.0 = same_some (slice_get nodes n) node is.0.0 there (ap (slice_get nodes) (sym here) ∙ is.0.1) in
      let begins : begin ≤ d = (let a = held.0 in let e : get_or (starts nodes) f 0 ≡ begin = ap (λ (x : ℕ). get_or (starts nodes) x 0) here ∙ sym starts_at in omega (arith, a, e)) in
      let past_d : d < past = was.all d (let a = held.1 in omega (arith, a, here)) is.1 in
      differ (is_function node.kind && nat_lt begin past) fails (both_hold (is_function node.kind) (nat_lt begin past) (ap (λ (x : Node). is_function x.kind) own ∙ is.0.2) (lt-ltb begin past (omega (arith, begins, past_d))))
      )
] where
  both_hold : (a b : Bool) → a ≡ true → b ≡ true → (a && b) ≡ true
  both_hold true b e f = f
  both_hold false b e f = absurd (differ false refl e)

-- it holds one
pub some_round : (nodes : List Node) (n past begin : ℕ) (node : Node) → IsTree nodes → IsTiled nodes → slice_get nodes n ≡ Some node → begin ≡ get_or (starts nodes) n 0 → IsPast nodes n past
    → (is_function node.kind && nat_lt begin past) ≡ true → (f : ℕ) × (d : ℕ) × DeclaresIn nodes f d
some_round nodes n past begin node tree tiled there starts_at was holds = by past refl where
  both_are : (a b : Bool) → (a && b) ≡ true → (a ≡ true) × (b ≡ true)
  both_are true b e = (refl, e)
  both_are false b e = absurd (differ false refl e)

  tests : (is_function node.kind ≡ true) × (nat_lt begin past ≡ true)
  tests = both_are (is_function node.kind) (nat_lt begin past) holds

  begins : begin < past
  begins = ltb-true begin past tests.1

  by : (q : ℕ) → past ≡ q → (f : ℕ) × (d : ℕ) × DeclaresIn nodes f d
  by zero e = absurd (omega (arith, begins, e))
  by (suc d) e =
      let r = was.one d e in
      (n, d, ((node, there, tests.0), r.1, (held_within nodes tree tiled n d (slice_get_within nodes n node there)).1 (omega (arith, begins, e, starts_at), r.0)))
