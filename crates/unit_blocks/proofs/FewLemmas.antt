-- Of fewer than two names none has an earlier one.
use Rattle.std.proofs.Common.{◌≡◌, ℕ, nat_lt, Bool, true, false, if◌then◌else◌, List, [], ◌∷◌, length, Option, Some, None, refl, ap, arith}
use Rattle.std.proofs.lemmas.Bool.{ltb-true, le-ltb}
use Rattle.go_tree.specs.Lexeme.{place_of}
use Rattle.go_tree.specs.declared.bindings.Object.{Object}
use Rattle.go_tree.specs.declared.tree.NodeRef.{NodeRef}
use Rattle.unit_read.specs.Members.{is_later, is_again, all_again}
use Rattle.unit_read.specs.Units.{Unit, is_blank, name_at, object_at}
use Rattle.unit_rows.specs.Redeclared.{named_again}
use Rattle.unit_blocks.specs.Blocks.{unless_used, declared_again}

-- what stands first has none before
not_later : (o : Option ℕ) → is_later 0 o ≡ false
not_later None = refl
not_later (Some first) = le-ltb first 0 (omega arith)

not_again : (names : List (List ℕ)) (name : List ℕ) → is_again names 0 name ≡ false
not_again names name = by (is_blank name) where
  by : (b : Bool) → (if b then false else is_later 0 (place_of names name)) ≡ false
  by true = refl
  by false = not_later (place_of names name)

one_again : (name : List ℕ) (at : NodeRef) → all_again (name ∷ []) (at ∷ []) ≡ []
one_again name at = ap (λ (b : Bool). if b then at ∷ [] else []) (not_again (name ∷ []) name)

pub few_again : (u : Unit) (nodes : List NodeRef) → nat_lt (length nodes) 2 ≡ true → declared_again u nodes ≡ []
few_again u [] few = refl
few_again u (at ∷ []) few = by (object_at u at) where
  by : (o : Option Object) → named_again u (unless_used at o) ≡ []
  by None = one_again (name_at u at) at
  by (Some object) = refl
few_again u (at ∷ next ∷ rest) few = absurd (let low = ltb-true (length (at ∷ next ∷ rest)) 2 few in omega (arith, low))
