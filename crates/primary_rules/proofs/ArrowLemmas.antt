-- Arrows before channel types.
use Rattle.std.proofs.Common.{◌≡◌, ℕ, zero, suc, ◌-◌, ◌<◌, List, Bool, true, false, not, if◌then◌else◌, refl, sym, ap, ◌∙◌, arith}
use Rattle.go_tree.specs.declared.tree.Node.{Node}
use Rattle.primary_rules.specs.Addresses.{passes}
use Rattle.primary_rules.specs.Arrows.{is_open, is_sending, takes_arrow}

pub arrow_on : (nodes : List Node) (n : ℕ) → 0 < n → not (passes is_sending nodes n) ≡ false → takes_arrow nodes n ≡ takes_arrow nodes (n - 1)
arrow_on nodes zero behind is = absurd (omega arith)
arrow_on nodes (suc n) behind is = by (passes is_sending nodes (suc n)) refl is where
  e : suc n - 1 ≡ n
  e = omega arith

  by : (b : Bool) → passes is_sending nodes (suc n) ≡ b → not b ≡ false → takes_arrow nodes (suc n) ≡ takes_arrow nodes (suc n - 1)
  by true same is = ap (λ (b : Bool). if b then takes_arrow nodes n else passes is_open nodes (suc n)) same ∙ sym (ap (takes_arrow nodes) e)
  by false same is = absurd cc

pub arrow_first : (nodes : List Node) (n : ℕ) → n ≡ 0 → takes_arrow nodes n ≡ passes is_open nodes n
arrow_first nodes zero is = refl
arrow_first nodes (suc n) is = absurd (omega arith)

pub arrow_end : (nodes : List Node) (n : ℕ) → not (passes is_sending nodes n) ≡ true → takes_arrow nodes n ≡ passes is_open nodes n
arrow_end nodes zero is = refl
arrow_end nodes (suc n) is = by (passes is_sending nodes (suc n)) refl is where
  by : (b : Bool) → passes is_sending nodes (suc n) ≡ b → not b ≡ true → takes_arrow nodes (suc n) ≡ passes is_open nodes (suc n)
  by true same is = absurd cc
  by false same is = ap (λ (b : Bool). if b then takes_arrow nodes n else passes is_open nodes (suc n)) same
