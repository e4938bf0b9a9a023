-- The walk over a package's items.
use Rattle.std.proofs.Common.{IfSome, IsTrue, MatchOption, ◌≡◌, ◌⊎◌, ℕ, zero, suc, ◌+◌, ◌<◌, ◌≤◌, Bool, true, false, if◌then◌else◌, Option, Some, None, refl, sym, ap, ◌∙◌, subst, inl, inr, arith, true≢false}
use Rattle.rule_words.specs.Scenes.{sight, IsScene}
use Rattle.std.specs.Option.{option_or, option_map_or}
use Rattle.mark_walk.specs.Asks.{Ask, done, Gives, Awaits, Keeps, IsMarked}
use Rattle.mark_walk.specs.Marking.{Goes}
use Rattle.mark_walk.specs.Telling.{IsTrueSight, tell}
use Rattle.mark_walk.proofs.AskLaws.{goes_itself, goes_then, marked_still}
use Rattle.mark_walk.proofs.TellLaws.{yields_gives, expects_awaits}
use Rattle.type_model.specs.declared.term.TypeName.{TypeName}
use Rattle.typed_marks.specs.declared.item.Item.{Item}
use Rattle.typed_marks.specs.declared.item.Stage.{Stage}
use Rattle.typed_marks.specs.declared.state.State.{State}
use Rattle.typed_marks.specs.Items.{is_item, IsItem, stage_number}
use Rattle.typed_marks.specs.Meanings.{Meaning, Quiet}
use Rattle.typed_marks.specs.States.{so_far}
use Rattle.type_model.specs.declared.term.TypeId.{TypeId}
use Rattle.type_model.specs.declared.table.TypeTable.{TypeTable}
use Rattle.type_model.specs.GoTypes.{DefinedType, type_at}
use Rattle.type_model.specs.Declarations.{Declaration, Declarations}
use Rattle.type_model.specs.Tables.{types_in}
use Rattle.type_questions.specs.Judging.{RestsOn, RestsOnNothing}
use Rattle.type_questions.specs.Over.{declared}
use Rattle.unit_read.specs.declared.subject.Subject.{Subject}
use Rattle.unit_read.specs.Units.{Unit}
use Rattle.unit_read.specs.Subjects.{full_of, unit_of}
use Rattle.rule_words.specs.declared.step.Asked.{Asked}
use Rattle.rule_words.specs.declared.step.Rest.{Rest}
use Rattle.rule_words.specs.declared.step.Step.{Step}
use Rattle.rule_words.specs.declared.step.Step.TheVariants as step
use Rattle.rule_words.specs.Steps.{question_in, rest_in, step_in}
use Rattle.elaborate.specs.declared.questions.Answered.{Answered}
use Rattle.rule_words.specs.Answers.{answer_in}
use Rattle.rule_words.specs.Steps.{IsStepOf}
use Rattle.elaborate.specs.Settling.{told_in, Follows, IsSettled, left, outcome_of}
use Rattle.rule_words.specs.Asking.{Rule, declaration_told, item}
use Rattle.mark_walk.specs.declared.walk.Walk.{Walk}
use Rattle.elaborate.specs.Walks.{blocks_of, item_rule, IsItemOf}
use Rattle.type_answers.specs.Answering.{says_of, pends_of}
use Rattle.type_answers.specs.Coming.{says_at, pends_at}
use Rattle.type_answers.proofs.PendingLemmas.{true_sight}
use Rattle.elaborate.specs.Elaborated.{IsAtWork}
use Rattle.elaborate.specs.Covering.{Went, Ended, AreStagesMarked, AreStagesOfNodes, AreNodesMarked, AreBlocksMarked}

-- ---- from state to state

pub went_itself : (rule : Unit → Item → Rule) (u : Subject) (s : State) → IsAtWork u s → Went rule u u s s
went_itself rule u s work = record { work = work; subject = refl; unit = refl; full = refl; goes = goes_itself (says_of (full_of u)) (item_rule rule (full_of u)) (so_far s) }

-- the same package, so the same unit
pub went_by : (rule : Unit → Item → Rule) (u0 u1 : Subject) (s0 s1 : State) → IsAtWork u1 s1 → u1 ≡ u0 → Goes (says_of (full_of u0)) (item_rule rule (full_of u0)) (so_far s0) (so_far s1)
    → Went rule u0 u1 s0 s1
went_by rule u0 u1 s0 s1 work same goes = record { work = work; subject = same; unit = ap unit_of same; full = ap full_of same; goes = goes }

pub went_then : (rule : Unit → Item → Rule) (u0 u1 u2 : Subject) (s0 s1 s2 : State) → Went rule u0 u1 s0 s1 → Went rule u1 u2 s1 s2 → Went rule u0 u2 s0 s2
went_then rule u0 u1 u2 s0 s1 s2 a b = record {
  work = b.work;
  subject = b.subject ∙ a.subject;
  unit = b.unit ∙ a.unit;
  full = b.full ∙ a.full;
  goes = goes_then (says_of (full_of u0)) (item_rule rule (full_of u0)) (so_far s0) (so_far s1) (so_far s2) a.goes
      (subst (λ (u : Unit). Goes (says_of u) (item_rule rule u) (so_far s1) (so_far s2)) a.full b.goes);
}

-- what is said of one package is said of the other, which is the same
pub ended_for : (rule : Unit → Item → Rule) (u0 u1 : Unit) (s : State) (walk : Walk Item) (Marked : (Item → Option Meaning) → Type 0) (circle : Option Item)
    → u1 ≡ u0 → Ended rule u1 s walk Marked circle → Ended rule u0 s walk Marked circle
ended_for rule u0 u1 s walk Marked circle same ended = subst (λ (u : Unit). Ended rule u s walk Marked circle) same ended

pub ended_as : (rule : Unit → Item → Rule) (u : Unit) (s : State) (walk : Walk Item) (One Other : (Item → Option Meaning) → Type 0) (circle : Option Item)
    → (circle ≡ None → One (so_far s) → Other (so_far s)) → Ended rule u s walk One circle → Ended rule u s walk Other circle
ended_as rule u s walk One Other circle turn ended = record {
  rests = ended.rests;
  marked = λ none. turn none (ended.marked none);
  waits = ended.waits;
}

-- ---- what was marked is marked

pub stages_still : (block n count : ℕ) (x y : Item → Option Meaning) → Keeps x y → AreStagesMarked block n count x → AreStagesMarked block n count y
stages_still block n count x y keeps all stage low = marked_still x y (item stage block n) keeps (all stage low)

pub staged_still : (block low until count : ℕ) (x y : Item → Option Meaning) → Keeps x y → AreStagesOfNodes block low until count x → AreStagesOfNodes block low until count y
staged_still block low until count x y keeps all n from before = stages_still block n count x y keeps (all n from before)

pub nodes_still : (block low until : ℕ) (x y : Item → Option Meaning) → Keeps x y → AreNodesMarked block low until x → AreNodesMarked block low until y
nodes_still block low until x y keeps all n from before stage = marked_still x y (item stage block n) keeps (all n from before stage)

pub blocks_still : (u : Unit) (count : ℕ) (x y : Item → Option Meaning) → Keeps x y → AreBlocksMarked u count x → AreBlocksMarked u count y
blocks_still u count x y keeps all i low is = marked_still x y i keeps (all i low is)

-- ---- one question after the other

pub follows_itself : (u : Subject) (s : State) (x : Step) → Follows u s x x
follows_itself u s x = record { yields = λ m is. is; expects = λ i is. is }

pub follows_then : (u : Subject) (s : State) (x y z : Step) → Follows u s x y → Follows u s y z → Follows u s x z
follows_then u s x y z a b = record { yields = λ m is. a.yields m (b.yields m is); expects = λ i is. a.expects i (b.expects i is) }

-- what the table tells of questions is so
pub sight_so : (u : Subject) (s : State) → IsScene u s → IsTrueSight (says_of (full_of u)) (pends_of (full_of u)) (sight s)
unfolding says_at pends_at
sight_so u s scene = true_sight u s scene

-- once the question is answered, the step goes on as its rest says
pub follows_told : (u : Subject) (s : State) (asked : Asked) (rest : Rest) (told : Answered) (next : Step) → IsScene u s
    → says_of (full_of u) (so_far s) (question_in s asked) (told_in s told) → step_in s next ≡ tell (sight s) (rest_in s rest (told_in s told))
    → Follows u s (step.Puts asked rest) next
follows_told u s asked rest told next scene said is = record {
  yields = λ m more. (told_in s told, said, yields_gives (says_of (full_of u)) (sight s) (pends_of (full_of u)) (sight_so u s scene) (rest_in s rest (told_in s told)) (step_in s next) m (sym is) more);
  expects = λ i more. inr (told_in s told, said, expects_awaits (says_of (full_of u)) (sight s) (pends_of (full_of u)) (sight_so u s scene) (rest_in s rest (told_in s told)) (step_in s next) i (sym is) more);
}

-- while the question waits, so does the step
pub follows_waits : (u : Subject) (s : State) (asked : Asked) (rest : Rest) (item : Item) → pends_of (full_of u) (so_far s) (question_in s asked) item
    → Follows u s (step.Puts asked rest) (step.Waits item)
follows_waits u s asked rest item waits = record {
  yields = λ m never. absurd never;
  expects = λ i same. inl (subst (λ (j : Item). pends_of (full_of u) (so_far s) (question_in s asked) j) same waits);
}

-- ---- before anything is marked

or_none : (b : Option Declaration) → option_or b None ≡ b
or_none None = refl
or_none (Some d) = refl

pub first_declared : (base : Declarations) (under : TypeName → Option Item) (so_far : Item → Option Meaning) → ((i : Item) → option_map_or declaration_told (so_far i) None ≡ None)
    → (name : TypeName) → declared base under declaration_told so_far name ≡ base name
first_declared base under so_far none name = by (under name) where
  by : (o : Option Item) → option_or (base name) (option_map_or declaration_told (option_map_or so_far o None) None) ≡ base name
  by None = or_none (base name)
  by (Some i) = ap (λ x. option_or (base name) x) (none i) ∙ or_none (base name)

-- a step that puts no question comes to its outcome
pub outcome_settled : (u : Subject) (s : State) (first now : Step) → left now ≡ 0 → IsStepOf s now → Follows u s first now → IsSettled u s first (outcome_of now)
outcome_settled u s first (step.Says given) none over follows = (over, follows.yields (answer_in s given) refl)
outcome_settled u s first (step.Waits item) none over follows = follows.expects item refl
outcome_settled u s first (step.Puts asked rest) none over follows = absurd (omega arith)

pub none_left : (n : ℕ) (b : Bool) → (0 < n → IsTrue b) → b ≡ false → n ≡ 0
none_left zero b asks no_more = refl
none_left (suc n) b asks no_more = absurd (true≢false (sym (asks (omega arith)) ∙ no_more))
