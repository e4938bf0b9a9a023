-- Nodes that are looked at one after the other, until one isn't quiet.
use Rattle.std.proofs.Common.{◌≡◌, ℕ, ◌+◌, ◌≤◌, Bool, true, false, List, drop, length, slice_get, Option, Some, sym, ap, ◌∙◌}
use Rattle.std.specs.Prelude.{if◌then◌else◌}
use Rattle.mark_walk.specs.Asks.{done}
use Rattle.mark_walk.specs.Telling.{Outcome, Says, Waits, tell, then as goes_from, Sight}
use Rattle.mark_walk.proofs.TellLaws.{told_bind}
use Rattle.type_questions.specs.declared.reached.Found.{Found}
use Rattle.type_questions.specs.declared.reached.Found.TheVariants as fd
use Rattle.type_questions.specs.Questions.{Question, Told}
use Rattle.typed_marks.specs.declared.item.Item.{Item}
use Rattle.typed_marks.specs.Meanings.{Meaning}
use Rattle.rule_words.specs.Asking.{Asks}
use Rattle.rule_words.specs.Scenes.{told_by}
use Rattle.builtin_rules.specs.InCode.{ends}
use Rattle.builtin_rules.specs.Quiet.{every_ask}
use Rattle.builtin_rules.proofs.ListLemmas.{dropped_at, dropped_all}

module _ (sight : Sight Item Meaning Question Told) (f : ℕ → Asks Bool) where
  -- what is told of those from a place on is told of all
  abbrev pub IsRest : List ℕ → ℕ → Type 0
  IsRest list i = tell sight (every_ask f (drop i list)) ≡ tell sight (every_ask f list)

  at_first : (list : List ℕ) (i n : ℕ) (o : Outcome Item Meaning Question Told Bool) → slice_get list i ≡ Some n → o ≡ tell sight (f n)
      → tell sight (every_ask f (drop i list)) ≡ goes_from sight o (λ b. if b then every_ask f (drop (i + 1) list) else done false)
  at_first list i n o is told =
      ap (λ l. tell sight (every_ask f l)) (dropped_at list i n is)
      ∙ told_bind sight (f n) (λ b. if b then every_ask f (drop (i + 1) list) else done false) o (sym told)

  quiet_on : (list : List ℕ) (i n : ℕ) → slice_get list i ≡ Some n → Says true ≡ tell sight (f n) → IsRest list i → IsRest list (i + 1)
  quiet_on list i n is told rest = sym (at_first list i n (Says true) is told) ∙ rest

  loud_at : (list : List ℕ) (i n : ℕ) → slice_get list i ≡ Some n → Says false ≡ tell sight (f n) → IsRest list i → Says false ≡ tell sight (every_ask f list)
  loud_at list i n is told rest = sym (at_first list i n (Says false) is told) ∙ rest

  waits_at : (list : List ℕ) (i n : ℕ) (j : Item) → slice_get list i ≡ Some n → Waits j ≡ tell sight (f n) → IsRest list i → Waits j ≡ tell sight (every_ask f list)
  waits_at list i n j is told rest = sym (at_first list i n (Waits j) is told) ∙ rest

  pub all_quiet : (list : List ℕ) (i : ℕ) → length list ≤ i → IsRest list i → Says true ≡ tell sight (every_ask f list)
  all_quiet list i low rest = sym (ap (λ l. tell sight (every_ask f l)) (dropped_all list i low)) ∙ rest

  -- one that is quiet is passed
  pub goes_on : (list : List ℕ) (i n : ℕ) (found : Found Bool Item) → slice_get list i ≡ Some n → told_by (λ (b : Bool). b) found ≡ tell sight (f n) → ends found ≡ false
      → IsRest list i → IsRest list (i + 1)
  goes_on list i n (fd.Is true) is told quiet rest = quiet_on list i n is told rest
  goes_on list i n (fd.Is false) is told quiet rest = absurd cc
  goes_on list i n (fd.Wait j) is told quiet rest = absurd cc

  -- what else is found of one is found of all
  pub stops : (list : List ℕ) (i n : ℕ) (found : Found Bool Item) → slice_get list i ≡ Some n → told_by (λ (b : Bool). b) found ≡ tell sight (f n) → ends found ≡ true
      → IsRest list i → told_by (λ (b : Bool). b) found ≡ tell sight (every_ask f list)
  stops list i n (fd.Is true) is told loud rest = absurd cc
  stops list i n (fd.Is false) is told loud rest = loud_at list i n is told rest
  stops list i n (fd.Wait j) is told loud rest = waits_at list i n j is told rest
