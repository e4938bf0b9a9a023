-- How the items of a package come to be marked, one after the other.
use Rattle.std.proofs.Common.{◌≡◌, ◌⊎◌, ℕ, ◌<◌, ◌≤◌, ◌+◌, ◌-◌, ◌^◌, ◌&&◌, nat_le, nat_lt, Bool, true, false, List, length, Option, Some, None, slice_get, refl, sym, ap, ◌∙◌, subst, inl, inr, arith}
use Rattle.std.specs.Option.{option_map_or}
use Rattle.std.proofs.lemmas.Option.{slice_get_within}
use Rattle.std.proofs.lemmas.Bool.{le-leb, lt-ltb}
use Rattle.gv_base.proofs.Lists.{same_some}
use Rattle.mark_walk.specs.Asks.{done, Gives, Awaits, Keeps, Adds, IsMarked, Sound, IsFirst, GivesAlone, AreAllMarked, IsTheAnnotation, filled}
use Rattle.mark_walk.specs.Waiting.{IsCircle}
use Rattle.mark_walk.specs.declared.walk.Walk.{Walk}
use Rattle.mark_walk.proofs.AskLaws.{goes_itself, goes_then, goes_step, marked_still, first_sound, the_annotation}
use Rattle.typed_marks.specs.declared.item.Item.{Item}
use Rattle.typed_marks.specs.declared.item.Stage.{Stage}
use Rattle.typed_marks.specs.declared.item.Block.{Block}
use Rattle.typed_marks.specs.declared.state.State.{State}
use Rattle.typed_marks.specs.Items.{is_in, is_item, is_nowhere, IsItem, stage_number}
use Rattle.typed_marks.specs.Meanings.{Meaning, Quiet}
use Rattle.typed_marks.specs.States.{so_far, IsState}
use Rattle.typed_marks.proofs.NumberLemmas.{one_stage, stage_low, in_is, block_of}
use Rattle.unit_read.specs.declared.subject.Subject.{Subject}
use Rattle.unit_read.specs.Units.{Unit, base_of}
use Rattle.unit_read.specs.Passages.{passages}
use Rattle.unit_read.specs.Subjects.{full_of, unit_of, IsRead}
use Rattle.rule_words.specs.Asking.{Rule, type_item, declaration_told, item}
use Rattle.rule_words.specs.Scenes.{IsScene}
use Rattle.type_model.specs.Tables.{declarations_in, terms_in, Extends}
use Rattle.type_model.specs.declared.table.TypeTable.{TypeTable}
use Rattle.type_model.specs.declared.term.TypeName.{TypeName}
use Rattle.typed_tree.specs.Basics.{HasBasics}
use Rattle.elaborate.proofs.NowhereLemmas.{rule_of_item, rule_of_none, missing_alone, missing_unmarked, quiet}
use Rattle.elaborate.proofs.WalkLemmas.{first_declared}
use Rattle.elaborate.specs.Walks.{blocks_of, count_of, item_rule, laid_many, IsItemOf}
use Rattle.type_answers.specs.Answering.{says_of, pends_of, answers_last}
use Rattle.elaborate.specs.Elaborated.{IsAtWork, IsAnnotated, IsInCircle}
use Rattle.elaborate.specs.Types.{AreQuietTypes}
use Rattle.elaborate.specs.Covering.{Went, Ended, IsAtRest, IsCircleAt, IsElaborated, IsNodeOf, IsNodeMarked, AreStagesMarked, AreStagesOfNodes, AreNodesOf, AreNodesMarked, AreBlocksMarked}

-- ---- from one package to the same

pub rest_at : (u0 u1 : Unit) (s : State) (walk : Walk Item) → u1 ≡ u0 → IsAtRest u0 s walk → IsAtRest u1 s walk
rest_at u0 u1 s walk same rests = subst (λ (u : Unit). IsAtRest u s walk) (sym same) rests

pub rest_from : (u0 u1 : Unit) (s : State) (walk : Walk Item) → u1 ≡ u0 → IsAtRest u1 s walk → IsAtRest u0 s walk
rest_from u0 u1 s walk same rests = subst (λ (u : Unit). IsAtRest u s walk) same rests

pub item_at : (u0 u1 : Unit) (i : Item) → u1 ≡ u0 → IsItemOf u0 i → IsItemOf u1 i
item_at u0 u1 i same is = subst (λ (u : Unit). IsItemOf u i) (sym same) is

pub node_at : (u0 u1 : Unit) (block n : ℕ) → u1 ≡ u0 → IsNodeOf u0 block n → IsNodeOf u1 block n
node_at u0 u1 block n same is stage = subst (λ (u : Unit). IsItemOf u (item stage block n)) (sym same) (is stage)

pub flags_at : (rule : Unit → Item → Rule) (u0 u1 : Unit) (block : ℕ) (flags : List Bool) → u1 ≡ u0 → AreQuietTypes rule u0 block flags → AreQuietTypes rule u1 block flags
flags_at rule u0 u1 block flags same quiet = subst (λ (u : Unit). AreQuietTypes rule u block flags) (sym same) quiet

pub scene_for : (u0 u1 : Subject) (s : State) → u1 ≡ u0 → IsScene u1 s → IsScene u0 s
scene_for u0 u1 s same scene = subst (λ (u : Subject). IsScene u s) same scene

-- ---- a circle ends all

pub early : (rule : Unit → Item → Rule) (u0 u1 : Unit) (s : State) (walk : Walk Item) (One Other : (Item → Option Meaning) → Type 0) (circle : Option Item) (i : Item)
    → u1 ≡ u0 → circle ≡ Some i → Ended rule u1 s walk One circle → Ended rule u0 s walk Other (Some i)
early rule u0 u1 s walk One Other circle i same is ended = record {
  rests = λ none. absurd (let never : Some i ≡ None = none in cc);
  marked = λ none. absurd (let never : Some i ≡ None = none in cc);
  waits = subst (λ (u : Unit). IsCircleAt rule u s (Some i)) same (subst (λ (o : Option Item). IsCircleAt rule u1 s o) is ended.waits);
}

-- the item that was to be marked waits for the circle
pub circle_of_item : (rule : Unit → Item → Rule) (u : Unit) (s : State) (walk : Walk Item) (Marked : (Item → Option Meaning) → Type 0) (item i : Item) → IsItemOf u item
    → IsCircle (λ x. Awaits (says_of u) (pends_of u) (so_far s) (item_rule rule u x)) (λ k. k ≡ item) (Some i) → Ended rule u s walk Marked (Some i)
circle_of_item rule u s walk Marked item i is (waits, k, same, way) = record {
  rests = λ none. absurd (let never : Some i ≡ None = none in cc);
  marked = λ none. absurd (let never : Some i ≡ None = none in cc);
  waits = (waits, k, subst (IsItemOf u) (sym same) is, way);
}

pub ended_well : (rule : Unit → Item → Rule) (u : Unit) (s : State) (walk : Walk Item) (Marked : (Item → Option Meaning) → Type 0) → IsAtRest u s walk → Marked (so_far s)
    → Ended rule u s walk Marked None
ended_well rule u s walk Marked rests marked = record { rests = λ none. rests; marked = λ none. marked; waits = tt }

-- ---- more is marked

pub rests_still : (u : Unit) (s next : State) (walk : Walk Item) → Keeps (so_far s) (so_far next) → IsAtRest u s walk → IsAtRest u next walk
rests_still u s next walk keeps rests = record {
  idle = rests.idle;
  size = rests.size;
  met = λ i is noted. marked_still (so_far s) (so_far next) i keeps (rests.met i is noted);
}

-- an item of which its rule says nothing
pub went_quiet : (rule : Unit → Item → Rule) (u : Subject) (s next : State) (i : Item) → IsItemOf (unit_of u) i → rule (unit_of u) i ≡ done Quiet → IsAtWork u next
    → Adds (so_far s) (so_far next) i Quiet → Went rule u u s next
went_quiet rule u s next i is quiet work adds = record {
  work = work;
  subject = refl;
  unit = refl;
  full = refl;
  goes = goes_step (says_of (full_of u)) (pends_of (full_of u)) (answers_last (full_of u)) (IsItemOf (full_of u)) (item_rule rule (full_of u)) (so_far s) (so_far next) i None
      (Quiet, subst (λ (r : Rule). Gives (says_of (full_of u)) (so_far s) r Quiet) (sym (rule_of_item rule (full_of u) i is ∙ quiet)) refl, adds);
}

-- ---- one more is marked

less_or_last : (a k : ℕ) → a < k + 1 → (a < k) ⊎ (a ≡ k)
less_or_last a k low = grind (arith, low)

pub next_stage : (block n k : ℕ) (x : Item → Option Meaning) (stage : Stage) → stage_number stage ≡ k → AreStagesMarked block n k x → IsMarked x (item stage block n)
    → AreStagesMarked block n (k + 1) x
next_stage block n k x stage is all one other low = elim (less_or_last (stage_number other) k low) [
  | inl less ↦ all other less
  | inr last ↦ subst (λ (s : Stage). IsMarked x (item s block n)) (one_stage stage other (is ∙ sym last)) one
]

pub all_stages : (block n k : ℕ) (x : Item → Option Meaning) → 6 ≤ k → AreStagesMarked block n k x → IsNodeMarked block n x
all_stages block n k x enough all stage = all stage (let low = stage_low stage in omega arith)

-- as many as there are
pub stages_to : (block n k count : ℕ) (x : Item → Option Meaning) → count ≤ k → AreStagesMarked block n k x → AreStagesMarked block n count x
stages_to block n k count x enough all stage low = all stage (omega arith)

pub next_staged : (block low n count : ℕ) (x : Item → Option Meaning) → AreStagesOfNodes block low n count x → AreStagesMarked block n count x → AreStagesOfNodes block low (n + 1) count x
next_staged block low n count x all one m from before = elim (less_or_last m n before) [
  | inl less ↦ all m from less
  | inr last ↦ subst (λ (k : ℕ). AreStagesMarked block k count x) (sym last) one
]

pub staged_to : (block low n until count : ℕ) (x : Item → Option Meaning) → until ≤ n → AreStagesOfNodes block low n count x → AreStagesOfNodes block low until count x
staged_to block low n until count x enough all m from before = all m from (omega arith)

pub none_staged : (block low count : ℕ) (x : Item → Option Meaning) → AreStagesOfNodes block low low count x
none_staged block low count x n from before = absurd (omega arith)

-- all of their stages
pub nodes_whole : (block low until : ℕ) (x : Item → Option Meaning) → AreStagesOfNodes block low until 6 x → AreNodesMarked block low until x
nodes_whole block low until x all n from before = all_stages block n 6 x (omega arith) (all n from before)

both_hold : (a b : Bool) → a ≡ true → b ≡ true → (a && b) ≡ true
both_hold true b one other = other
both_hold false b one other = absurd cc

pub nodes_in : (u : Unit) (number : ℕ) (block : Block) → slice_get (blocks_of u) number ≡ Some block → AreNodesOf u number block.low block.end
nodes_in u number block at n from before stage = ap (λ (o : Option Block). option_map_or (is_in n) o false) at ∙ both_hold (nat_le block.low n) (nat_lt n block.end) (le-leb block.low n from) (lt-ltb n block.end before)

node_of : (u : Unit) (x : Item → Option Meaning) (i : Item) (block : Block) → slice_get (blocks_of u) i.block ≡ Some block → AreNodesMarked i.block block.low block.end x → IsItemOf u i → IsMarked x i
node_of u x i block at all is =
    let found = block_of (blocks_of u) i is in
    let same = same_some (slice_get (blocks_of u) i.block) found.0 block found.1 at in
    let place = in_is i.node block (subst (λ (b : Block). is_in i.node b ≡ true) same found.2) in
    all i.node (let here = place.2 in omega arith) (let here = place.2 in let low = place.1 in omega arith) i.stage

pub next_block : (u : Unit) (k : ℕ) (block : Block) (x : Item → Option Meaning) → slice_get (blocks_of u) k ≡ Some block → AreBlocksMarked u k x → AreNodesMarked k block.low block.end x
    → AreBlocksMarked u (k + 1) x
next_block u k block x at all one i low is = elim (less_or_last i.block k low) [
  | inl less ↦ all i less is
  | inr last ↦ node_of u x i block (ap (slice_get (blocks_of u)) last ∙ at) (subst (λ (b : ℕ). AreNodesMarked b block.low block.end x) (sym last) one) is
]

-- a stretch of them
pub nodes_within : (u : Unit) (number low end some until : ℕ) → low ≤ some → until ≤ end → AreNodesOf u number low end → AreNodesOf u number some until
nodes_within u number low end some until from before all n over below = all n (omega arith) (omega arith)

pub no_stage : (block n : ℕ) (x : Item → Option Meaning) → AreStagesMarked block n 0 x
no_stage block n x stage low = absurd (omega arith)

pub none_early : (block low until : ℕ) (x : Item → Option Meaning) → AreStagesOfNodes block low until 0 x
none_early block low until x n from before = no_stage block n x

-- as many as there are
pub blocks_all : (u : Unit) (k count : ℕ) (x : Item → Option Meaning) → count ≤ k → AreBlocksMarked u k x → AreBlocksMarked u count x
blocks_all u k count x enough all i low is = all i (omega arith) is

pub no_block : (u : Unit) (x : Item → Option Meaning) → AreBlocksMarked u 0 x
no_block u x i low = absurd (omega arith)

-- ---- all of it

module _ (rule : Unit → Item → Rule) (u : Unit) (s : State) (same : s.blocks.items ≡ blocks_of u) (unmarked : (i : Item) → IsItemOf u i → so_far s i ≡ None) where
  -- what is no item has no mark where it is nowhere, and else that of which nothing is said
  first_missing : (i : Item) → is_item (blocks_of u) i ≡ false → (b : Bool) → is_nowhere (blocks_of u) i ≡ b → (so_far s i ≡ None) ⊎ ((so_far s i ≡ Some Quiet) × (item_rule rule u i ≡ done Quiet))
  first_missing i none true is = inl (missing_unmarked u s i same is)
  first_missing i none false is = inr (quiet u s i same none is, rule_of_none rule u i none is)

  first_each : (i : Item) → (b : Bool) → is_item (blocks_of u) i ≡ b → (so_far s i ≡ None) ⊎ ((so_far s i ≡ Some Quiet) × (item_rule rule u i ≡ done Quiet))
  first_each i true is = inl (unmarked i is)
  first_each i false is = first_missing i is (is_nowhere (blocks_of u) i) refl

  pub first : IsFirst (item_rule rule u) (so_far s)
  first i = elim (first_each i (is_item (blocks_of u) i) refl) [
    | inl none ↦ inl none
    | inr (marked, gives) ↦ inr (Quiet, marked, gives)
  ]

  pub sound_first : Sound (says_of u) (item_rule rule u) (so_far s)
  sound_first = first_sound (says_of u) (item_rule rule u) (so_far s) first

  pub nothing_declared : (i : Item) → option_map_or declaration_told (so_far s i) None ≡ None
  nothing_declared i = elim (first_each i (is_item (blocks_of u) i) refl) [
    | inl none ↦ ap (λ (o : Option Meaning). option_map_or declaration_told o None) none
    | inr (marked, gives) ↦ ap (λ (o : Option Meaning). option_map_or declaration_told o None) marked
  ]

all_marked : (rule : Unit → Item → Rule) (u : Unit) (x : Item → Option Meaning) → AreBlocksMarked u (length (blocks_of u)) x → AreAllMarked Quiet (item_rule rule u) x
all_marked rule u x all i = by (is_item (blocks_of u) i) refl where
  within : IsItemOf u i → i.block < length (blocks_of u)
  within is = let found = block_of (blocks_of u) i is in slice_get_within (blocks_of u) i.block found.0 found.1

  by : (b : Bool) → is_item (blocks_of u) i ≡ b → IsMarked x i ⊎ GivesAlone (item_rule rule u) i Quiet
  by true is = inl (all i (within is) is)
  by false is = inr (missing_alone rule u i is)

module _ (rule : Unit → Item → Rule) (u0 u1 : Subject) (s0 s1 : State) (went : Went rule u0 u1 s0 s1) (sound : Sound (says_of (full_of u0)) (item_rule rule (full_of u0)) (so_far s0)) where
  sound_now : Sound (says_of (full_of u0)) (item_rule rule (full_of u0)) (so_far s1)
  sound_now = went.goes.sound sound

  pub annotated : AreBlocksMarked (unit_of u0) (length (blocks_of (unit_of u0))) (so_far s1)
      → IsTheAnnotation (says_of (full_of u0)) (item_rule rule (full_of u0)) (filled Quiet (so_far s1))
  annotated all = the_annotation (says_of (full_of u0)) (pends_of (full_of u0)) (answers_last (full_of u0)) Quiet (item_rule rule (full_of u0)) (so_far s1) sound_now
      (all_marked rule (full_of u0) (so_far s1) all)

  pub in_circle : (i : Item) → IsCircleAt rule (full_of u0) s1 (Some i) → IsInCircle rule u0 s1 i
  in_circle i waits = record { sound = sound_now; waits = waits }

-- ---- the blocks of a package that is being marked

-- there is such a block
pub block_there : (u0 u1 : Subject) (s0 s1 : State) (k : ℕ) → s0.blocks.items ≡ blocks_of (unit_of u0) → unit_of u1 ≡ unit_of u0 → s1.blocks.items ≡ blocks_of (unit_of u1)
    → k < length s0.blocks.items → k < length s1.blocks.items
block_there u0 u1 s0 s1 k first same now low = subst (λ (n : ℕ). k < n) (ap (λ (bs : List Block). length bs) (first ∙ sym (now ∙ ap blocks_of same))) low

-- the block is one of the package's, as it was first
pub block_here : (u0 u1 : Unit) (blocks : List Block) (k : ℕ) (block : Block) → u1 ≡ u0 → blocks ≡ blocks_of u1 → slice_get blocks k ≡ Some block → slice_get (blocks_of u0) k ≡ Some block
block_here u0 u1 blocks k block same now at = ap (λ (bs : List Block). slice_get bs k) (sym (now ∙ ap blocks_of same)) ∙ at

-- ---- before anything is marked

pub started : (u : Subject) (s : State) (table : TypeTable) → IsRead u → HasBasics table → Extends u.env.now.types.now (terms_in table) → ((name : TypeName) → declarations_in table name ≡ base_of (full_of u) name)
    → IsState s → s.table ≡ table → s.blocks.items ≡ blocks_of (unit_of u) → length s.cells.items ≡ count_of (unit_of u) → length s.cells.items + 1 < 2 ^ 64
    → ((i : Item) → IsItem s.blocks.items i → so_far s i ≡ None) → IsAtWork u s
started u s table read basics env base state same blocks cells fits unmarked = record {
  scene = record {
    read = read;
    state = state;
    blocks = ap (λ (bs : List Block). length bs) blocks ∙ laid_many 0 (passages (unit_of u).trees);
    basics = subst HasBasics (sym same) basics;
    env = subst (λ (t : TypeTable). Extends u.env.now.types.now (terms_in t)) (sym same) env;
    step = λ name. ap (λ (t : TypeTable). declarations_in t name) same ∙ base name
        ∙ sym (first_declared (base_of (full_of u)) (type_item (unit_of u)) (so_far s)
        (nothing_declared (λ v i. done Quiet) (unit_of u) s blocks (λ i is. unmarked i (subst (λ (bs : List Block). IsItem bs i) (sym blocks) is))) name);
  };
  blocks = blocks;
  cells = cells;
  fits = subst (λ (n : ℕ). n + 1 < 2 ^ 64) cells fits;
}
