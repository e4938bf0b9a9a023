-- Which nodes are the first part of a label or a jump.
use Rattle.std.proofs.Common.{◌≡◌, ℕ, zero, suc, ◌<◌, ◌≤◌, ◌+◌, ◌↔◌, Bool, true, false, cond, List, [], ◌∷◌, length, replicate, get_or, slice_get, Option, Some, None, refl, sym, ap, ◌∙◌, subst, inl, inr, arith}
use Rattle.std.specs.List.{Contains}
use Rattle.std.proofs.lemmas.Option.{slice_get_within}
use Rattle.go_tree.specs.declared.tree.Node.{Node}
use Rattle.go_tree.specs.declared.tree.NodeKind.{NodeKind}
use Rattle.label_uses.specs.Functions.{IsPart}
use Rattle.label_uses.specs.Heads.{head_in, flagged, AreHeads, IsNoted}
use Rattle.label_uses.specs.Labels.{Heads}
use Rattle.label_uses.specs.Parents.{IsTree}
use Rattle.label_uses.specs.Rows.{Sets}
use Rattle.label_uses.specs.declared.heads.Headed.{Headed}
use Rattle.label_uses.proofs.CaseLemmas.{before_or_at}
use Rattle.gv_base.proofs.Lists.{same_some}

first_in : (parts : List ℕ) (n : ℕ) → slice_get parts 0 ≡ Some n → Contains parts n
first_in [] n e = absurd (cc)
first_in (x ∷ xs) n e = (0, omega arith, same_some (Some x) x n refl e)

pub part_of : (nodes : List Node) (p n : ℕ) (node : Node) → slice_get nodes p ≡ Some node → slice_get node.parts 0 ≡ Some n → IsPart nodes p n
part_of nodes p n node there first = (node, there, first_in node.parts n first)

-- a node that heads another is one of the nodes
pub head_low : (kinds : NodeKind → Bool) (nodes : List Node) (n : ℕ) → IsTree nodes → Heads kinds nodes n → n < length nodes
head_low kinds nodes n tree (p, node, there, is, first) = let a = tree.after p n (part_of nodes p n node there first) in let b = slice_get_within nodes p node there in omega arith

-- ---- flags

no_flag : (count n : ℕ) → get_or (replicate count false) n false ≡ true → ⊥
no_flag zero n e = absurd (cc)
no_flag (suc count) zero e = absurd (cc)
no_flag (suc count) (suc n) e = no_flag count n e

pub none_headed : (kinds : NodeKind → Bool) (nodes : List Node) (h : Headed) → h.flags.items ≡ replicate (length nodes) false → h.low ≡ length nodes → h.high ≡ 0 → AreHeads kinds nodes 0 h
none_headed kinds nodes h is low high = record {
  size = ap length is ∙ count_false (length nodes);
  sound = λ n e. absurd (no_flag (length nodes) n (sym (ap (λ l. get_or l n false) is) ∙ e));
  every = λ p n node few there head below. absurd (omega arith);
  within = λ n e. absurd (no_flag (length nodes) n (sym (ap (λ l. get_or l n false) is) ∙ e));
  begins = omega (arith, low);
  ends = omega (arith, high);
} where
  count_false : (count : ℕ) → length (replicate count false) ≡ count
  count_false zero = refl
  count_false (suc count) = ap (λ n. suc n) (count_false count)

pub head_of : (b : Bool) (o : Option ℕ) (n : ℕ) → cond b o None ≡ Some n → (b ≡ true) × (o ≡ Some n)
head_of true o n e = (refl, e)
head_of false o n e = absurd (cc)

pub heads_more : (kinds : NodeKind → Bool) (nodes : List Node) (p : ℕ) (node : Node) (old new : Headed) → slice_get nodes p ≡ Some node → AreHeads kinds nodes p old → IsNoted (head_in kinds node) old new → AreHeads kinds nodes (p + 1) new
heads_more kinds nodes p node old new there was now = record {
  size = now.size ∙ was.size;
  sound = λ n e. elim (now.sound n e) [
    | inl before ↦ was.sound n before
    | inr here ↦ (let h = head_of (kinds node.kind) (slice_get node.parts 0) n here.0 in (p, node, there, h.0, h.1))
  ];
  every = λ q n other few at head below. elim (before_or_at q p few) [
    | inl before ↦ now.kept n (was.every q n other before at head below)
    | inr here ↦ now.set n (ap (head_in kinds) (same_some (slice_get nodes p) node other there (ap (slice_get nodes) (sym here) ∙ at)) ∙ head) (let s = was.size in omega arith)
  ];
  within = λ n e. elim (now.sound n e) [
    | inl before ↦ (let w = was.within n before in let l = now.lower in let h = now.higher in let a = w.0 in let b = w.1 in (omega arith, omega arith))
    | inr here ↦ here.1
  ];
  begins = (let l = now.lower in let b = was.begins in omega arith);
  ends = (let e = now.ends (let b = was.ends in let s = was.size in omega arith) in let s = was.size in omega arith);
}

pub heads_all : (kinds : NodeKind → Bool) (nodes : List Node) (p : ℕ) (h : Headed) → p ≡ length nodes → AreHeads kinds nodes p h → AreHeads kinds nodes (length nodes) h
heads_all kinds nodes p h same are = subst (λ (x : ℕ). AreHeads kinds nodes x h) same are

pub noted_none : (head : Option ℕ) (h new : Headed) → new ≡ h → head ≡ None → IsNoted head h new
noted_none head h new same none = subst (IsNoted head h) (sym same) record {
  size = refl;
  sound = λ n e. inl e;
  kept = λ n e. e;
  set = λ n is low. nowhere head n none is;
  lower = omega arith;
  higher = omega arith;
  ends = λ e. e;
} where
  nowhere : {C : Type 0} (o : Option ℕ) (n : ℕ) → o ≡ None → o ≡ Some n → C
  nowhere o n p q = absurd (cc)

pub noted_past : (head : Option ℕ) (h new : Headed) (m : ℕ) → new ≡ h → head ≡ Some m → length h.flags.items ≤ m → IsNoted head h new
noted_past head h new m same is high = subst (IsNoted head h) (sym same) record {
  size = refl;
  sound = λ n e. inl e;
  kept = λ n e. e;
  set = λ n at low. absurd (let e = same_some head n m at is in omega arith);
  lower = omega arith;
  higher = omega arith;
  ends = λ e. e;
}

pub noted_one : (head : Option ℕ) (old new : Headed) (m : ℕ) → head ≡ Some m → m < length old.flags.items → Sets old.flags.items new.flags.items m → new.low ≤ old.low → new.low ≤ m → old.high ≤ new.high → m < new.high
    → (old.high ≤ length old.flags.items → new.high ≤ length old.flags.items) → IsNoted head old new
noted_one head old new m is low sets lower left higher right ends = record {
  size = sets.size;
  sound = λ n e. elim (sets.sound n e) [ inl before ↦ inl before | inr here ↦ inr (is ∙ ap (λ x. Some x) here, (omega arith, omega arith)) ];
  kept = sets.kept;
  set = λ n at below. subst (λ (x : ℕ). flagged new x ≡ true) (same_some head m n is at) (sets.set low);
  lower = lower;
  higher = higher;
  ends = ends;
}

-- ---- what is flagged

pub headed_is : (kinds : NodeKind → Bool) (nodes : List Node) (h : Headed) (n : ℕ) (b : Bool) → AreHeads kinds nodes (length nodes) h → n < length nodes → b ≡ flagged h n → (b ≡ true) ↔ Heads kinds nodes n
headed_is kinds nodes h n b are low is = (
  (λ e. are.sound n (sym is ∙ e)),
  (λ (p, node, there, kind, first). is ∙ are.every p n node (slice_get_within nodes p node there) there (ap (λ k. cond k (slice_get node.parts 0) None) kind ∙ first) low),
)

-- what heads another stands between the two numbers
pub headed_within : (kinds : NodeKind → Bool) (nodes : List Node) (h : Headed) (n : ℕ) → IsTree nodes → AreHeads kinds nodes (length nodes) h → Heads kinds nodes n → (h.low ≤ n) × (n < h.high)
headed_within kinds nodes h n tree are is = are.within n ((headed_is kinds nodes h n (flagged h n) are (head_low kinds nodes n tree is) refl).1 is)
