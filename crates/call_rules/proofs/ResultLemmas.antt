-- Results that are assigned one after the other, until one isn't.
use Rattle.std.proofs.Common.{◌≡◌, ℕ, ◌+◌, ◌≤◌, Bool, true, false, List, ◌∷◌, drop, length, slice_get, Some, refl, sym, subst}
use Rattle.type_model.specs.declared.term.TypeId.{TypeId}
use Rattle.type_model.specs.GoTypes.{GoType, GoSignature, types_at, type_at}
use Rattle.type_questions.specs.declared.reached.Found.{Found}
use Rattle.type_questions.specs.declared.reached.Found.TheVariants as f
use Rattle.type_questions.specs.declared.reached.Reached.{Reached}
use Rattle.type_questions.specs.declared.reached.Reached.TheVariants.{Got, Lost}
use Rattle.type_answers.specs.Coming.{FoundBy}
use Rattle.type_answers.proofs.ComingLaws.{bind_found, bind_waits}
use Rattle.typed_marks.specs.declared.item.Item.{Item}
use Rattle.typed_marks.specs.declared.state.State.{State}
use Rattle.unit_read.specs.declared.subject.Subject.{Subject}
use Rattle.unit_read.specs.Subjects.{unit_of}
use Rattle.call_rules.specs.Given.{param_at}
use Rattle.call_rules.specs.Passing.{result_assigned, then_others, all_assigned}
use Rattle.builtin_rules.proofs.ListLemmas.{dropped_at, dropped_all}
use Rattle.rule_words.specs.Told.{ends}

module _ (u : Subject) (s : State) (sig : GoSignature) (types : List GoType) where
  abbrev pub from : List TypeId → ℕ → Found (Reached Bool) Item → Type 0
  from ids i found = FoundBy u s (λ (x : Reached Bool). x) (all_assigned (unit_of u) sig i (types_at types (drop i ids))) found

  abbrev pub IsAll : List TypeId → Found (Reached Bool) Item → Type 0
  IsAll ids found = FoundBy u s (λ (x : Reached Bool). x) (all_assigned (unit_of u) sig 0 (types_at types ids)) found

  -- what is found of those from a place on is found of all
  abbrev pub IsRest : List TypeId → ℕ → Type 0
  IsRest ids i = (found : Found (Reached Bool) Item) → from ids i found → IsAll ids found

  abbrev pub IsNth : TypeId → ℕ → Found (Reached Bool) Item → Type 0
  IsNth id i found = FoundBy u s (λ (x : Reached Bool). x) (result_assigned (unit_of u) (type_at types id) (param_at sig false i)) found

  pub first_rest : (ids : List TypeId) → IsRest ids 0
  first_rest ids found is = is

  at_place : (ids : List TypeId) (i : ℕ) (id : TypeId) (found : Found (Reached Bool) Item) → slice_get ids i ≡ Some id
      → FoundBy u s (λ (x : Reached Bool). x) (all_assigned (unit_of u) sig i (types_at types (id ∷ drop (i + 1) ids))) found → from ids i found
  at_place ids i id found is here =
      subst (λ (l : List TypeId). FoundBy u s (λ (x : Reached Bool). x) (all_assigned (unit_of u) sig i (types_at types l)) found) (sym (dropped_at ids i id is)) here

  -- the next one is assigned
  rest_on : (ids : List TypeId) (i : ℕ) (id : TypeId) → slice_get ids i ≡ Some id → IsNth id i (f.Is (Got true)) → IsRest ids i → IsRest ids (i + 1)
  rest_on ids i id is nth rest found more =
      rest found (at_place ids i id found is
      (bind_found u s (λ (x : Reached Bool). x) (result_assigned (unit_of u) (type_at types id) (param_at sig false i))
      (then_others (all_assigned (unit_of u) sig (i + 1) (types_at types (drop (i + 1) ids)))) (Got true) found nth more))

  -- it isn't
  not_at : (ids : List TypeId) (i : ℕ) (id : TypeId) → slice_get ids i ≡ Some id → IsNth id i (f.Is (Got false)) → IsRest ids i → IsAll ids (f.Is (Got false))
  not_at ids i id is nth rest =
      rest (f.Is (Got false)) (at_place ids i id (f.Is (Got false)) is
      (bind_found u s (λ (x : Reached Bool). x) (result_assigned (unit_of u) (type_at types id) (param_at sig false i))
      (then_others (all_assigned (unit_of u) sig (i + 1) (types_at types (drop (i + 1) ids)))) (Got false) (f.Is (Got false)) nth refl))

  lost_at : (ids : List TypeId) (i : ℕ) (id : TypeId) → slice_get ids i ≡ Some id → IsNth id i (f.Is Lost) → IsRest ids i → IsAll ids (f.Is Lost)
  lost_at ids i id is nth rest =
      rest (f.Is Lost) (at_place ids i id (f.Is Lost) is
      (bind_found u s (λ (x : Reached Bool). x) (result_assigned (unit_of u) (type_at types id) (param_at sig false i))
      (then_others (all_assigned (unit_of u) sig (i + 1) (types_at types (drop (i + 1) ids)))) Lost (f.Is Lost) nth refl))

  wait_at : (ids : List TypeId) (i : ℕ) (id : TypeId) (j : Item) → slice_get ids i ≡ Some id → IsNth id i (f.Wait j) → IsRest ids i → IsAll ids (f.Wait j)
  wait_at ids i id j is nth rest =
      rest (f.Wait j) (at_place ids i id (f.Wait j) is
      (bind_waits u s (result_assigned (unit_of u) (type_at types id) (param_at sig false i))
      (then_others (all_assigned (unit_of u) sig (i + 1) (types_at types (drop (i + 1) ids)))) j nth))

  pub all_at_last : (ids : List TypeId) (i : ℕ) → length ids ≤ i → IsRest ids i → IsAll ids (f.Is (Got true))
  all_at_last ids i low rest =
      rest (f.Is (Got true)) (subst (λ (l : List TypeId). FoundBy u s (λ (x : Reached Bool). x) (all_assigned (unit_of u) sig i (types_at types l)) (f.Is (Got true)))
      (sym (dropped_all ids i low)) refl)

  -- one that is assignable is passed
  pub passes : (ids : List TypeId) (i : ℕ) (id : TypeId) (found : Found (Reached Bool) Item) → slice_get ids i ≡ Some id → IsNth id i found → ends found ≡ false → IsRest ids i
      → IsRest ids (i + 1)
  passes ids i id (f.Is (Got true)) is nth on rest = rest_on ids i id is nth rest
  passes ids i id (f.Is (Got false)) is nth on rest = absurd cc
  passes ids i id (f.Is Lost) is nth on rest = absurd cc
  passes ids i id (f.Wait j) is nth on rest = absurd cc

  -- what else is found of one is found of all
  pub stops : (ids : List TypeId) (i : ℕ) (id : TypeId) (found : Found (Reached Bool) Item) → slice_get ids i ≡ Some id → IsNth id i found → ends found ≡ true → IsRest ids i
      → IsAll ids found
  stops ids i id (f.Is (Got true)) is nth off rest = absurd cc
  stops ids i id (f.Is (Got false)) is nth off rest = not_at ids i id is nth rest
  stops ids i id (f.Is Lost) is nth off rest = lost_at ids i id is nth rest
  stops ids i id (f.Wait j) is nth off rest = wait_at ids i id j is nth rest
