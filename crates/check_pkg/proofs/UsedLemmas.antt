-- Which imports are used, as it is noted.
use Rattle.std.proofs.Common.{◌≡◌, ℕ, ◌+◌, ◌≤◌, ◌^◌, ◌⊎◌, ◌↔◌, Bool, true, false, cond, if◌then◌else◌, nat_eq, IsTrue, List, length, slice_get, Option, Some, None, option_and_then, refl, sym, ap, ◌∙◌, subst, inl, inr, arith}
use Rattle.std.proofs.lemmas.Bool.{cases_eq}
use Rattle.std.proofs.lemmas.Bool.Decides.{nat_tests}
use Rattle.std.specs.Global.{Vec}
use Rattle.go_tree.specs.declared.bindings.Object.{Object}
use Rattle.go_tree.specs.declared.tree.FileTree.{FileTree}
use Rattle.object_order.specs.Spots.{place}
use Rattle.package_objects.specs.Declares.{AreSmall}
use Rattle.typed_marks.specs.declared.item.Item.{Item}
use Rattle.typed_marks.specs.Meanings.{Meaning}
use Rattle.unit_read.specs.Subjects.{cell}
use Rattle.unit_read.specs.Units.{Unit, tree_at, nodes_of, nodes_at}
use Rattle.check_pkg.specs.ImportLists.{import_in, Notes, AreUsed}
use Rattle.check_pkg.specs.References.{uses_at}

eq_true : (a b : ℕ) → nat_eq a b ≡ true → a ≡ b
eq_true a b h = grind (arith, nat_tests)

true_eq : (a b : ℕ) → a ≡ b → nat_eq a b ≡ true
true_eq a b h = grind (arith, nat_tests)

some_same : (a b : ℕ) → Some a ≡ Some b → a ≡ b
some_same a b e = cc

-- one is noted
pub one_noted : (at : Option ℕ) (node : ℕ) (old new : ℕ → Bool) → at ≡ Some node → ((q : ℕ) → new q ≡ cond (nat_eq node q) true (old q)) → Notes at old new
one_noted at node old new there is j = by (nat_eq node j) refl (is j) where
  differ : (b : Bool) → b ≡ false → b ≡ true → ⊥
  differ b p q = cc

  by : (b : Bool) → nat_eq node j ≡ b → new j ≡ cond b true (old j) → (IsTrue (new j) ↔ (IsTrue (old j) ⊎ (at ≡ Some j)))
  by true e h = (λ t. inr (there ∙ ap Some (eq_true node j e)), λ t. h)
  by false e h = (
    λ t. inl (sym h ∙ t),
    λ t. elim t [
      | inl before ↦ h ∙ before
      | inr same ↦ absurd (differ (nat_eq node j) e (true_eq node j (some_same node j (sym there ∙ same))))
    ],
  )

-- none is
pub none_noted : (at : Option ℕ) (used : ℕ → Bool) → at ≡ None → Notes at used used
none_noted at used none j = (
  λ t. inl t,
  λ t. elim t [ inl before ↦ before | inr is ↦ absurd (let e : None ≡ Some j = sym none ∙ is in cc) ],
)

-- at first none is
pub none_used : (u : Unit) (marks : Item → Meaning) (f : ℕ) (used : ℕ → Bool) → ((j : ℕ) → used j ≡ false) → AreUsed u marks f 0 used
none_used u marks f used none j = (
  λ t. absurd (let e : false ≡ true = sym (none j) ∙ t in cc),
  λ (k, low, uses). absurd (omega arith),
)

-- one more node
pub used_more : (u : Unit) (marks : Item → Meaning) (f n : ℕ) (old new : ℕ → Bool) (at : Option ℕ) → at ≡ import_in f (uses_at u marks (place f n)) → AreUsed u marks f n old → Notes at old new
    → AreUsed u marks f (n + 1) new
used_more u marks f n old new at is before notes j = (
  λ t. elim ((notes j).0 t) [
    | inl older ↦ let (k, low, uses) = (before j).0 older in (k, omega arith, uses)
    | inr here ↦ (n, omega arith, sym is ∙ here)
  ],
  λ (k, low, uses). (notes j).1 (elim (cases_eq k n) [
    | inl same ↦ inr (is ∙ subst (λ m. import_in f (uses_at u marks (place f m)) ≡ Some j) same uses)
    | inr apart ↦ inl ((before j).1 (k, omega arith, uses))
  ]),
)

pub used_all : (u : Unit) (marks : Item → Meaning) (f n count : ℕ) (used : ℕ → Bool) → n ≡ count → AreUsed u marks f n used → AreUsed u marks f count used
used_all u marks f n count used same are = subst (λ m. AreUsed u marks f m used) same are

-- what denotes nothing uses nothing
pub none_at : (names : Bool) (o : Option Object) → o ≡ None → None ≡ (if names then None else o)
none_at true o is = refl
none_at false o is = sym is

-- there are few nodes in a file
pub nodes_few : (u : Unit) (f : ℕ) → AreSmall u.trees → length (nodes_at u f) ≤ 2 ^ 32
nodes_few u f small = by (tree_at u f) refl where
  by : (o : Option FileTree) → tree_at u f ≡ o → length (nodes_of o) ≤ 2 ^ 32
  by None none = omega arith
  by (Some tree) there = small f tree there

-- the cell of a node, by its row
pub row_seen : (rows : List (Vec (Option Object))) (f n : ℕ) (o : Option (Vec (Option Object))) → o ≡ slice_get rows f
    → option_and_then (λ (row : Vec (Option Object)). option_and_then (λ (x : Option Object). x) (slice_get row.items n)) o ≡ cell rows (place f n)
row_seen rows f n o is = ap (λ (p : Option (Vec (Option Object))). option_and_then (λ (row : Vec (Option Object)). option_and_then (λ (x : Option Object). x) (slice_get row.items n)) p) is
