-- Literals between parentheses.
use Rattle.std.proofs.Common.{◌≡◌, ℕ, zero, suc, ◌-◌, ◌<◌, List, Bool, true, false, not, if◌then◌else◌, refl, sym, ap, ◌∙◌, arith}
use Rattle.go_tree.specs.declared.tree.Node.{Node}
use Rattle.primary_rules.specs.Addresses.{is_composite, passes, is_literal}
use Rattle.rule_words.specs.Nodes.{is_paren}

pub literal_on : (nodes : List Node) (n : ℕ) → 0 < n → not (passes is_paren nodes n) ≡ false → is_literal nodes n ≡ is_literal nodes (n - 1)
literal_on nodes zero behind is = absurd (omega arith)
literal_on nodes (suc n) behind is = by (passes is_paren nodes (suc n)) refl is where
  e : suc n - 1 ≡ n
  e = omega arith

  by : (b : Bool) → passes is_paren nodes (suc n) ≡ b → not b ≡ false → is_literal nodes (suc n) ≡ is_literal nodes (suc n - 1)
  by true same is = ap (λ (b : Bool). if b then is_literal nodes n else passes is_composite nodes (suc n)) same ∙ sym (ap (is_literal nodes) e)
  by false same is = absurd cc

pub literal_first : (nodes : List Node) (n : ℕ) → n ≡ 0 → is_literal nodes n ≡ passes is_composite nodes n
literal_first nodes zero is = refl
literal_first nodes (suc n) is = absurd (omega arith)

pub literal_end : (nodes : List Node) (n : ℕ) → not (passes is_paren nodes n) ≡ true → is_literal nodes n ≡ passes is_composite nodes n
literal_end nodes zero is = refl
literal_end nodes (suc n) is = by (passes is_paren nodes (suc n)) refl is where
  by : (b : Bool) → passes is_paren nodes (suc n) ≡ b → not b ≡ true → is_literal nodes (suc n) ≡ passes is_composite nodes (suc n)
  by true same is = absurd cc
  by false same is = ap (λ (b : Bool). if b then is_literal nodes n else passes is_composite nodes (suc n)) same
