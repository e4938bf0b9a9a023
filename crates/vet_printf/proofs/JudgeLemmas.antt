-- Cells of types, one more of which has what is known of arguments of its type.
use Rattle.std.proofs.Common.{◌≡◌, ℕ, zero, suc, List, [], ◌∷◌, set, Option, Some, None, refl, sym, ◌∙◌, subst, inl, inr}
use Rattle.std.specs.Prelude.{slice_get, slice_index_or}
use Rattle.std.proofs.lemmas.List.{length-set}
use Rattle.gv_base.proofs.Lists.{set_cases}
use Rattle.type_model.specs.declared.table.TypeTable.{TypeTable}
use Rattle.type_model.specs.Tables.{declarations_in}
use Rattle.vet_printf.specs.declared.fault.Argument.{Argument}
use Rattle.vet_printf.specs.InTable.{ty}
use Rattle.vet_printf.specs.Tables.{IsArgumentOf, IsJudged, AreJudged}

-- what holds of nothing and of all cells holds of the cell of a number
cell_kept : (P : Option Argument → Type 0) (cells : List (Option Argument)) (n : ℕ) → P None → ((cell : Option Argument) → slice_get cells n ≡ Some cell → P cell) → P (slice_index_or cells n None)
cell_kept P [] zero none each = none
cell_kept P [] (suc n) none each = none
cell_kept P (x ∷ cells) zero none each = each x refl
cell_kept P (x ∷ cells) (suc n) none each = cell_kept P cells n none each

pub judged_at : (t : TypeTable) (n : ℕ) (cells : List (Option Argument)) (cell : Option Argument) → AreJudged t cells → cell ≡ slice_index_or cells n None → IsJudged t n cell
judged_at t n cells cell are is = subst (λ (o : Option Argument). IsJudged t n o) (sym is) (cell_kept (IsJudged t n) cells n tt (λ c at. are.each n c at))

pub one_judged : (t : TypeTable) (n : ℕ) (x : Argument) (old new : List (Option Argument)) → AreJudged t old → IsArgumentOf (declarations_in t) (ty t n) x → new ≡ set old n (Some x) → AreJudged t new
one_judged t n x old new were told is = subst (λ (l : List (Option Argument)). AreJudged t l) (sym is) (record {
  size = length-set old n (Some x) ∙ were.size;
  each = λ k cell at. elim (set_cases old n (Some x) k cell at) [
    | inl (other, before) ↦ were.each k cell before
    | inr (here, same) ↦ subst (λ (o : Option Argument). IsJudged t k o) same (subst (λ (i : ℕ). IsArgumentOf (declarations_in t) (ty t i) x) (sym here) told)
  ];
})
