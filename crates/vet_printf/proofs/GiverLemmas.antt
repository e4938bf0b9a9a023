-- The function in which a call hands its arguments on has a number.
use Rattle.std.proofs.Common.{◌≡◌, ◌<◌, ℕ, Bool, true, false, Option, Some, None, IfSome, length, refl, sym, ap, ◌∙◌, subst, if◌then◌else◌}
use Rattle.std.specs.Prelude.{slice_get, option_and_then}
use Rattle.go_tree.specs.declared.tree.Node.{Node}
use Rattle.own_functions.specs.Functions.{functions}
use Rattle.typed_marks.specs.declared.item.Item.{Item}
use Rattle.typed_marks.specs.Meanings.{Meaning}
use Rattle.unit_read.specs.Units.{Unit, nodes_at}
use Rattle.vet_printf.specs.Forwards.{is_spread_call, declaration_of, hands}
use Rattle.vet_printf.specs.Walk.{owner_number, giver_in, giver_of, giver_around, giver_from, giver}
use Rattle.vet_printf.proofs.KnownLemmas.{owner_below}

module _ (u : Unit) (marks : Item → Meaning) (kind f : ℕ) where
  chained : {X : Type 0} (g : X → Option ℕ) (o : Option X) → ((x : X) → (i : ℕ) → g x ≡ Some i → i < length (functions u)) → (i : ℕ) → option_and_then g o ≡ Some i → i < length (functions u)
  chained g None h i e = absurd (cc)
  chained g (Some x) h i e = h x i e

  tested : (b : Bool) (o : Option ℕ) → ((i : ℕ) → o ≡ Some i → i < length (functions u)) → (i : ℕ) → (if b then o else None) ≡ Some i → i < length (functions u)
  tested true o h i e = h i e
  tested false o h i e = absurd (cc)

  below_is : (n i : ℕ) → giver u marks kind f n ≡ Some i → i < length (functions u)
  below_is n i e =
      chained (giver_from u marks kind f n) (slice_get (nodes_at u f) n)
      (λ call. tested (is_spread_call call.kind) (giver_around u marks kind f n call)
      (chained (giver_of u marks kind f call) (declaration_of u f n)
      (λ d. chained (giver_in u marks kind f call d) (slice_get (nodes_at u f) d)
      (λ node. tested (hands u marks f call node kind) (owner_number u f d) (λ j g. owner_below u f d j g)))))
      i e

  pub giver_below : (n : ℕ) (o : Option ℕ) → o ≡ giver u marks kind f n → IfSome o (λ i. i < length (functions u))
  giver_below n None e = tt
  giver_below n (Some i) e = below_is n i (sym e)
