-- The node above each node, noted one by one.
use Rattle.std.proofs.Common.{◌≡◌, ℕ, suc, ◌+◌, ◌<◌, ◌&&◌, ◌||◌, nat_eq, Bool, true, false, if◌then◌else◌, List, length, take, get_or, slice_get, Option, Some, refl, sym, ap, ◌∙◌, subst, arith}
use Rattle.std.specs.List.{list_any}
use Rattle.std.specs.Option.{option_map_or}
use Rattle.std.proofs.Math.Dec.{ltb}
use Rattle.std.proofs.lemmas.List.Folds.{list_any_more}
use Rattle.go_tree.specs.declared.tree.Node.{Node}
use Rattle.package_needs.specs.Keys.{above_in, number_at, Marks}
use Rattle.gv_base.proofs.Lists.{item_is}

unmarked : (b : Bool) (x y : Option ℕ) → y ≡ (if b && false then x else y)
unmarked true x y = refl
unmarked false x y = refl

pub parts_none : (old : List (Option ℕ)) (n : ℕ) (parts : List ℕ) → Marks old old n (λ p. ltb p n && list_any (λ q. nat_eq q p) (take 0 parts))
parts_none old n parts = record { size = refl; each = λ p. unmarked (ltb p n) (Some n) (number_at old p) }

either : (low any one : Bool) (x y : Option ℕ) → (if low && one then x else (if low && any then x else y)) ≡ (if low && (any || one) then x else y)
either true true true x y = refl
either true true false x y = refl
either true false true x y = refl
either true false false x y = refl
either false any one x y = refl

pub parts_more : (old mid new : List (Option ℕ)) (n i part : ℕ) (parts : List ℕ) → i < length parts → part ≡ get_or parts i 0
    → Marks old mid n (λ p. ltb p n && list_any (λ q. nat_eq q p) (take i parts)) → Marks mid new n (λ p. ltb p n && nat_eq part p)
    → Marks old new n (λ p. ltb p n && list_any (λ q. nat_eq q p) (take (i + 1) parts))
parts_more old mid new n i part parts low item was now = record {
  size = now.size ∙ was.size;
  each = λ p.
      now.each p ∙ (ap (λ o. if ltb p n && nat_eq part p then Some n else o) (was.each p)
      ∙ (either (ltb p n) (list_any (λ q. nat_eq q p) (take i parts)) (nat_eq part p) (Some n) (number_at old p)
      ∙ ap (λ b. if ltb p n && b then Some n else number_at old p)
      (ap (λ x. list_any (λ q. nat_eq q p) (take i parts) || nat_eq x p) item ∙ sym (list_any_more (λ q. nat_eq q p) parts i 0 low))));
}

pub parts_all : (old new : List (Option ℕ)) (n i : ℕ) (parts : List ℕ) → take i parts ≡ parts → Marks old new n (λ p. ltb p n && list_any (λ q. nat_eq q p) (take i parts))
    → Marks old new n (λ p. ltb p n && list_any (λ q. nat_eq q p) parts)
parts_all old new n i parts is was = subst (λ (xs : List ℕ). Marks old new n (λ p. ltb p n && list_any (λ q. nat_eq q p) xs)) is was

pub record Above (nodes : List Node) (table : List (Option ℕ)) (n : ℕ) : Type 0 where
  pub size : length table ≡ length nodes
  pub each : (p : ℕ) → number_at table p ≡ above_in nodes n p

pub above_more : (nodes : List Node) (table new : List (Option ℕ)) (n : ℕ) (node : Node) → slice_get nodes n ≡ Some node → Above nodes table n
    → Marks table new n (λ p. ltb p n && list_any (λ q. nat_eq q p) node.parts) → Above nodes new (n + 1)
above_more nodes table new n node at was now = record {
  size = now.size ∙ was.size;
  each = λ p. let next : suc n ≡ n + 1 = omega arith in
      now.each p ∙ (ap (λ o. if ltb p n && list_any (λ q. nat_eq q p) node.parts then Some n else o) (was.each p)
      ∙ (sym (ap (λ (o : Option Node). if ltb p n && option_map_or (λ (x : Node). list_any (λ q. nat_eq q p) x.parts) o false then Some n else above_in nodes n p) at)
      ∙ ap (λ k. above_in nodes k p) next));
}

pub above_step : (nodes : List Node) (table new : List (Option ℕ)) (n : ℕ) (node : Node) (parts : List ℕ) → n < length nodes → node ≡ get_or nodes n node → parts ≡ (get_or nodes n node).parts → Above nodes table n
    → Marks table new n (λ p. ltb p n && list_any (λ q. nat_eq q p) parts) → Above nodes new (n + 1)
above_step nodes table new n node parts low item is was now = above_more nodes table new n node (item_is nodes n node low item) was
    (subst (λ (xs : List ℕ). Marks table new n (λ p. ltb p n && list_any (λ q. nat_eq q p) xs)) (is ∙ ap (λ (x : Node). x.parts) (sym item)) now)

pub above_all : (nodes : List Node) (table : List (Option ℕ)) (n : ℕ) → n ≡ length nodes → Above nodes table n → (p : ℕ) → number_at table p ≡ above_in nodes (length nodes) p
above_all nodes table n same was p = was.each p ∙ ap (λ k. above_in nodes k p) same
