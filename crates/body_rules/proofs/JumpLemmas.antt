-- Jumps over variables and into blocks.
use Rattle.std.proofs.Common.{◌≡◌, ℕ, ◌<◌, ◌↔◌, Bool, true, false, List, [], ◌∷◌, length, get_or, slice_get, Option, Some, None, IsTrue, nat_lt, not, refl, sym, ap, ◌∙◌, subst, arith}
use Rattle.std.proofs.lemmas.Option.{slice_get_within, slice_get-get_or}
use Rattle.std.specs.Option.{option_map_or}
use Rattle.std.proofs.lemmas.Bool.{ltb-true, lt-ltb}
use Rattle.go_tree.specs.declared.tree.Node.{Node}
use Rattle.go_tree.specs.declared.tree.NodeKind.{NodeKind}
use Rattle.go_tree.specs.declared.tree.NodeKind.TheVariants as k
use Rattle.node_values.specs.Trees.{Holds, IsTree, IsOfKind, InnermostOf, IsInnermost, AreInnermost}
use Rattle.node_values.specs.Ranges.{starts, IsTiled, IsWithin}
use Rattle.node_values.proofs.InnerLemmas.{one_innermost}
use Rattle.node_values.proofs.RangeLemmas.{held_within}
use Rattle.body_rules.specs.Kinds.{is_block, declares}
use Rattle.body_rules.specs.Endings.{kind_of}
use Rattle.body_rules.specs.Jumps.{JumpsOver, JumpsInto}
use Rattle.body_rules.specs.Latest.{IsLatest, AreLatest}

-- ---- what stands in the table of innermost nodes

found_is : (kinds : NodeKind → Bool) (nodes : List Node) (n b : ℕ) (o : Option ℕ) → IsTree nodes → IsInnermost kinds nodes n o → InnermostOf kinds nodes n b → o ≡ Some b
found_is kinds nodes n b (Some f) tree is inner = ap Some (one_innermost kinds nodes tree n f b is inner)
found_is kinds nodes n b None tree none inner = absurd (none b inner.kind inner.holds)

pub in_table : (kinds : NodeKind → Bool) (nodes : List Node) (found : List (Option ℕ)) (n b : ℕ) → IsTree nodes → AreInnermost kinds nodes found → n < length nodes
    → InnermostOf kinds nodes n b → get_or found n None ≡ Some b
in_table kinds nodes found n b tree are low inner = found_is kinds nodes n b (get_or found n None) tree (are.each n low) inner

pub from_table : (kinds : NodeKind → Bool) (nodes : List Node) (found : List (Option ℕ)) (n b : ℕ) → AreInnermost kinds nodes found → n < length nodes
    → get_or found n None ≡ Some b → InnermostOf kinds nodes n b
from_table kinds nodes found n b are low at = subst (λ o. IsInnermost kinds nodes n o) at (are.each n low)

-- ---- kinds

pub kind_at : (nodes : List Node) (d : ℕ) (node : Node) → slice_get nodes d ≡ Some node → kind_of nodes d ≡ node.kind
kind_at nodes d node there = ap (λ o. option_map_or (λ (x : Node). x.kind) o k.Name) there

pub there_is : (nodes : List Node) (i : ℕ) → i < length nodes → (x : Node) × (slice_get nodes i ≡ Some x)
there_is [] i h = absurd (omega arith)
there_is (y ∷ ys) i h = (get_or (y ∷ ys) i y, slice_get-get_or (y ∷ ys) i y h)

of_kind : (nodes : List Node) (d : ℕ) → d < length nodes → declares (kind_of nodes d) ≡ true → IsOfKind declares nodes d
of_kind nodes d low is = let (node, there) = there_is nodes d low in (node, there, sym (ap declares (kind_at nodes d node there)) ∙ is)

-- ---- over a variable

over_some : (nodes : List Node) (blocks : List (Option ℕ)) (n l b d : ℕ) → IsTree nodes → l < length nodes → AreInnermost is_block nodes blocks
    → get_or blocks l None ≡ Some b → IsLatest nodes blocks b l (Some d) → (n < d) ↔ JumpsOver nodes n l
over_some nodes blocks n l b d tree low are at (earlier, last) = (
  λ less. record {
    b = b;
    d = d;
    block = from_table is_block nodes blocks l b are low at;
    after = less;
    before = earlier.0;
    variable = of_kind nodes d (let e = earlier.0 in omega arith) earlier.1;
    inside = from_table is_block nodes blocks d b are (let e = earlier.0 in omega arith) earlier.2;
  },
  λ j. let same = block_same j in
      let up = last j.d (j.before, ap declares (kind_at nodes j.d j.variable.0 j.variable.1) ∙ j.variable.2, in_table is_block nodes blocks j.d b tree are (let e = j.before in omega arith) (subst (λ x. InnermostOf is_block nodes j.d x) same j.inside)) in
      let far = j.after in omega arith,
) where
  block_same : (j : JumpsOver nodes n l) → j.b ≡ b
  block_same j = one_innermost is_block nodes tree l j.b b j.block (from_table is_block nodes blocks l b are low at)

over_none : (nodes : List Node) (blocks : List (Option ℕ)) (n l b : ℕ) → IsTree nodes → l < length nodes → AreInnermost is_block nodes blocks
    → get_or blocks l None ≡ Some b → IsLatest nodes blocks b l None → JumpsOver nodes n l → ⊥
over_none nodes blocks n l b tree low are at none j =
    let same : j.b ≡ b = one_innermost is_block nodes tree l j.b b j.block (from_table is_block nodes blocks l b are low at) in
    none j.d (
      j.before,
      ap declares (kind_at nodes j.d j.variable.0 j.variable.1) ∙ j.variable.2,
      in_table is_block nodes blocks j.d b tree are (let e = j.before in omega arith) (subst (λ x. InnermostOf is_block nodes j.d x) same j.inside),
    )

-- the block of a label is a node
block_low : (nodes : List Node) (n b : ℕ) → InnermostOf is_block nodes n b → b < length nodes
block_low nodes n b inner = slice_get_within nodes b inner.kind.0 inner.kind.1

some_differs : (o : Option ℕ) (b : ℕ) → o ≡ None → o ≡ Some b → ⊥
some_differs o b e f = cc

-- what the last declaration before the label tells
pub over_is : (nodes : List Node) (blocks latest : List (Option ℕ)) (n l b : ℕ) → IsTree nodes → l < length nodes → AreInnermost is_block nodes blocks → AreLatest nodes blocks (length nodes) latest
    → get_or blocks l None ≡ Some b → IsTrue (option_map_or (λ d. nat_lt n d) (get_or latest l None) false) ↔ JumpsOver nodes n l
over_is nodes blocks latest n l b tree low are lasts at = by (get_or latest l None) (lasts.each l b low at (block_low nodes l b (from_table is_block nodes blocks l b are low at))) where
  by : (o : Option ℕ) → IsLatest nodes blocks b l o → IsTrue (option_map_or (λ d. nat_lt n d) o false) ↔ JumpsOver nodes n l
  by None none = (λ h. absurd cc, λ j. absurd (over_none nodes blocks n l b tree low are at none j))
  by (Some d) last =
      let is = over_some nodes blocks n l b d tree low are at last in
      (λ h. is.0 (ltb-true n d h), λ j. lt-ltb n d (is.1 j))

pub no_over : (nodes : List Node) (blocks : List (Option ℕ)) (n l : ℕ) → IsTree nodes → l < length nodes → AreInnermost is_block nodes blocks
    → get_or blocks l None ≡ None → JumpsOver nodes n l → ⊥
no_over nodes blocks n l tree low are at j = some_differs (get_or blocks l None) j.b at (in_table is_block nodes blocks l j.b tree are low j.block)

-- ---- into a block

pub into_some : (nodes : List Node) (blocks : List (Option ℕ)) (n l b : ℕ) → IsTree nodes → IsTiled nodes → l < length nodes → AreInnermost is_block nodes blocks
    → get_or blocks l None ≡ Some b → (IsWithin (starts nodes) b n → ⊥) ↔ JumpsInto nodes n l
into_some nodes blocks n l b tree tiled low are at =
    let inner = from_table is_block nodes blocks l b are low at in
    let range = held_within nodes tree tiled b n (block_low nodes l b inner) in (
      λ out. record { b = b; block = inner; outside = λ h. out (range.0 h) },
      λ j within. j.outside (subst (λ x. Holds nodes x n) (one_innermost is_block nodes tree l b j.b inner j.block) (range.1 within)),
    )

pub into_none : (nodes : List Node) (blocks : List (Option ℕ)) (n l : ℕ) → IsTree nodes → l < length nodes → AreInnermost is_block nodes blocks
    → get_or blocks l None ≡ None → JumpsInto nodes n l → ⊥
into_none nodes blocks n l tree low are at j = some_differs (get_or blocks l None) j.b at (in_table is_block nodes blocks l j.b tree are low j.block)

pub not_true : (b : Bool) (P : Type 0) → IsTrue b ↔ P → IsTrue (not b) ↔ (P → ⊥)
not_true true P is = (λ h. absurd cc, λ out. absurd (out (is.0 refl)))
not_true false P is = (λ h p. (let e : false ≡ true = is.1 p in cc), λ out. refl)
