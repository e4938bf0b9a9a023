-- One step: an item is marked by its rule, or its rule waits for another.
use Rattle.std.proofs.Common.{◌≡◌, Bool, true, false, Option, None, Some, refl, sym, ap, ◌∙◌, subst, inl}
use Rattle.mark_walk.specs.Asks.{done, ask, Gives, Awaits, Adds, Stays}
use Rattle.mark_walk.specs.Marking.{Steps}
use Rattle.mark_walk.specs.Telling.{Outcome, tell}
use Rattle.mark_walk.proofs.AskLaws.{awaited_none}
use Rattle.mark_walk.proofs.TellLaws.{yields_gives, expects_awaits}
use Rattle.rel_growth.specs.Compare.{EnoughToCompare, NeedsToCompare, SaysComparable}
use Rattle.type_growth.specs.Growth.{Grows, IsDeclared}
use Rattle.type_growth.proofs.GrowthLaws.{meets_grows}
use Rattle.type_model.specs.declared.term.TypeName.{TypeName}
use Rattle.type_model.specs.Declarations.{Declaration, Declarations, Meets}
use Rattle.type_model.specs.GoTypes.{GoType}
use Rattle.type_model.specs.Tables.{declarations_in}
use Rattle.type_questions.specs.declared.reached.Found.{Found}
use Rattle.type_questions.specs.declared.reached.Found.TheVariants as f
use Rattle.type_questions.specs.declared.reached.Reached.{Reached}
use Rattle.type_questions.specs.declared.reached.Reached.TheVariants.{Got, Lost}
use Rattle.type_questions.specs.Over.{declared, says_over}
use Rattle.type_questions.specs.Questions.{Question, Told, IsComparable, Holds}
use Rattle.typed_marks.specs.declared.item.Item.{Item}
use Rattle.typed_marks.specs.declared.state.State.{State}
use Rattle.typed_marks.specs.Items.{is_item}
use Rattle.typed_marks.specs.Meanings.{Meaning, Quiet, Declares}
use Rattle.typed_marks.specs.States.{so_far}
use Rattle.unit_read.specs.declared.subject.Subject.{Subject}
use Rattle.unit_read.specs.Units.{Unit, base_of}
use Rattle.unit_read.specs.Subjects.{full_of, unit_of}
use Rattle.rule_words.specs.Asking.{Rule, declarer, declaration_told, nowhere_of}
use Rattle.rule_words.specs.Scenes.{sight, IsScene}
use Rattle.elaborate.specs.Walks.{blocks_of, item_rule, IsItemOf, IsAwaited}
use Rattle.type_answers.specs.Answering.{says_of, pends_of, answers_last}
use Rattle.elaborate.specs.Elaborated.{IsAtWork}
use Rattle.rule_words.specs.declared.step.Step.{Step}
use Rattle.rule_words.specs.declared.step.Step.TheVariants as step
use Rattle.type_answers.specs.Coming.{says_at, pends_at, ComesTo, GivesAt, AwaitsAt}
use Rattle.type_answers.proofs.PendingLemmas.{declared_told}
use Rattle.elaborate.specs.Settling.{StepsAs, StepsBy, YieldsAt, ExpectsAt, IsWholeBy, is_got}
use Rattle.elaborate.proofs.NowhereLemmas.{rule_of_item, nowhere_rule, unmarked_awaited, no_item_nowhere}
use Rattle.elaborate.proofs.WalkLemmas.{sight_so}

module _ (rule : Unit → Item → Rule) (u : Subject) (s next : State) (i : Item) where
  -- the item's rule gives this, and so it does over the full unit
  gives_item : (m : Meaning) → IsItemOf (unit_of u) i → Gives (says_of (full_of u)) (so_far s) (rule (unit_of u) i) m → Gives (says_of (full_of u)) (so_far s) (item_rule rule (full_of u) i) m
  gives_item m is gives = subst (λ (r : Rule). Gives (says_of (full_of u)) (so_far s) r m) (sym (rule_of_item rule (full_of u) i is)) gives

  -- what it waits for has no mark, so that is an item or nowhere
  waits_item : (j : Item) → IsItemOf (unit_of u) i → IsAtWork u s → Awaits (says_of (full_of u)) (pends_of (full_of u)) (so_far s) (rule (unit_of u) i) j → Stays (so_far s) (so_far next)
      → Steps (says_of (full_of u)) (pends_of (full_of u)) (IsAwaited (full_of u)) (item_rule rule (full_of u)) (so_far s) (so_far next) i (Some j)
  waits_item j is work waits stays =
      let awaits : Awaits (says_of (full_of u)) (pends_of (full_of u)) (so_far s) (item_rule rule (full_of u) i) j =
      subst (λ (r : Rule). Awaits (says_of (full_of u)) (pends_of (full_of u)) (so_far s) r j) (sym (rule_of_item rule (full_of u) i is)) waits in
      let none = awaited_none (says_of (full_of u)) (pends_of (full_of u)) (answers_last (full_of u)) (so_far s) (item_rule rule (full_of u) i) j awaits in
      (unmarked_awaited (full_of u) s j work.blocks none, awaits, stays)

-- by how far its rule goes, so by its rule
pub steps_by : (rule : Unit → Item → Rule) (u : Subject) (s next : State) (i : Item) (waits : Option Item) → IsItemOf (unit_of u) i → IsAtWork u s
    → StepsBy u s next i (tell (sight s) (rule (unit_of u) i)) waits
    → Steps (says_of (full_of u)) (pends_of (full_of u)) (IsAwaited (full_of u)) (item_rule rule (full_of u)) (so_far s) (so_far next) i waits
steps_by rule u s next i None is work (m, yields, adds) = (
  m,
  gives_item rule u s next i m is
      (yields_gives (says_of (full_of u)) (sight s) (pends_of (full_of u)) (sight_so u s work.scene) (rule (unit_of u) i) (tell (sight s) (rule (unit_of u) i)) m refl yields),
  adds,
)
steps_by rule u s next i (Some j) is work (expects, stays) =
    waits_item rule u s next i j is work
    (expects_awaits (says_of (full_of u)) (sight s) (pends_of (full_of u)) (sight_so u s work.scene) (rule (unit_of u) i) (tell (sight s) (rule (unit_of u) i)) j refl expects) stays

-- the same, by what the code came to
pub steps_as : (rule : Unit → Item → Rule) (u : Subject) (s next : State) (i : Item) (waits : Option Item) → IsItemOf (unit_of u) i → IsAtWork u s
    → StepsAs u s next i (rule (unit_of u) i) waits
    → Steps (says_of (full_of u)) (pends_of (full_of u)) (IsAwaited (full_of u)) (item_rule rule (full_of u)) (so_far s) (so_far next) i waits
unfolding says_at pends_at
steps_as rule u s next i None is work (m, gives, adds) = (m, gives_item rule u s next i m is gives, adds)
steps_as rule u s next i (Some j) is work (waits, stays) = waits_item rule u s next i j is work waits stays

pub stays_itself : (s : State) → Stays (so_far s) (so_far s)
stays_itself s = record { stays = λ j n e. e; only = λ j n e. e }

-- what is nowhere waits for itself
pub steps_nowhere : (rule : Unit → Item → Rule) (u : Subject) (s : State) (i : Item) → IsAwaited (full_of u) i → is_item (blocks_of (full_of u)) i ≡ false → so_far s i ≡ None
    → Steps (says_of (full_of u)) (pends_of (full_of u)) (IsAwaited (full_of u)) (item_rule rule (full_of u)) (so_far s) (so_far s) i (Some i)
steps_nowhere rule u s i is other none =
    let there : i ≡ nowhere_of (full_of u) = no_item_nowhere (full_of u) i is other in
    let itself : item_rule rule (full_of u) i ≡ ask i (λ m. done Quiet) =
    subst (λ (j : Item). item_rule rule (full_of u) j ≡ ask j (λ m. done Quiet)) (sym there) (nowhere_rule rule (full_of u)) in
    (is, subst (λ (r : Rule). Awaits (says_of (full_of u)) (pends_of (full_of u)) (so_far s) r i) (sym itself) (inl (none, refl)), stays_itself s)

-- what comes of a step that comes to what a rule does comes of the rule
pub comes_yields : (u : Subject) (s : State) (rule : Rule) (x : Step) (m : Meaning) → ComesTo u s rule x → YieldsAt u s x m → GivesAt u s rule m
unfolding says_at pends_at
comes_yields u s rule (step.Says given) m comes same = subst (λ (n : Meaning). GivesAt u s rule n) same comes
comes_yields u s rule (step.Waits i) m comes never = absurd never
comes_yields u s rule (step.Puts asked rest) m comes yields = comes.gives m yields

pub comes_expects : (u : Subject) (s : State) (rule : Rule) (x : Step) (j : Item) → ComesTo u s rule x → ExpectsAt u s x j → AwaitsAt u s rule j
unfolding says_at pends_at
comes_expects u s rule (step.Says given) j comes never = absurd never
comes_expects u s rule (step.Waits i) j comes same = subst (λ (k : Item). AwaitsAt u s rule k) same comes
comes_expects u s rule (step.Puts asked rest) j comes expects = comes.awaits j expects

pub outcome_same : (u : Subject) (s next : State) (i : Item) (one other : Outcome Item Meaning Question Told Meaning) (waits : Option Item) → one ≡ other
    → StepsBy u s next i one waits → StepsBy u s next i other waits
outcome_same u s next i one other waits same steps = subst (λ (o : Outcome Item Meaning Question Told Meaning). StepsBy u s next i o waits) same steps

-- ---- whether all is declared that a type holds

pub whole_by : (u : Subject) (s : State) (of : GoType) (reached : Reached Bool) → says_of (full_of u) (so_far s) (IsComparable of) (Holds reached) → IsWholeBy u s of (f.Is (is_got reached))
whole_by u s of (Got b) says = (b, says)
whole_by u s of Lost says = says

-- a table that declares just that declares enough
pub enough : (u : Subject) (s : State) (of : GoType) → IsScene u s → (b : Bool) → says_of (full_of u) (so_far s) (IsComparable of) (Holds (Got b)) → EnoughToCompare (declarations_in s.table) of
enough u s of scene b (x, same, over) = by x same over where
  ds : Declarations
  ds = declared (base_of (full_of u)) (declarer (unit_of u)) declaration_told (so_far s)

  grows : Grows (declarations_in s.table) ds
  grows name d e = declared_told u s scene name ∙ e

  by : (x : Reached Bool) → Holds (Got b) ≡ Holds x → says_over (base_of (full_of u)) (declarer (unit_of u)) declaration_told EnoughToCompare NeedsToCompare SaysComparable (so_far s) of x
      → EnoughToCompare (declarations_in s.table) of
  by (Got c) e over = λ o meets. (let is = over.0 o (meets_grows (declarations_in s.table) ds o of grows meets) in (is.0, sym (declared_told u s scene o) ∙ is.1))
  by Lost e over = absurd cc
