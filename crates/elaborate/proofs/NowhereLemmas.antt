-- What is nowhere: it waits for itself, and nothing but items and that has no mark.
use Rattle.std.proofs.Common.{◌≡◌, ◌⊎◌, ℕ, Bool, true, false, if◌then◌else◌, List, Option, Some, None, refl, sym, ap, ◌∙◌, subst, inl, inr, true≢false}
use Rattle.mark_walk.specs.Asks.{done, ask, GivesAlone}
use Rattle.typed_marks.specs.declared.item.Item.{Item}
use Rattle.typed_marks.specs.declared.item.Block.{Block}
use Rattle.typed_marks.specs.declared.state.State.{State}
use Rattle.typed_marks.specs.Items.{is_item, is_nowhere, nowhere, number_of, IsItem}
use Rattle.typed_marks.specs.Meanings.{Meaning, Quiet}
use Rattle.typed_marks.specs.States.{so_far}
use Rattle.typed_marks.proofs.CellLemmas.{unmarked_item, nowhere_is, nowhere_itself, nowhere_unmarked, no_item_quiet}
use Rattle.unit_read.specs.Imports.{bare}
use Rattle.unit_read.specs.Units.{Unit}
use Rattle.rule_words.specs.Asking.{Rule, nowhere_of}
use Rattle.elaborate.specs.Walks.{blocks_of, count_of, number_in, item_rule, missing_rule, IsItemOf, IsAwaited, awaited_number, item_number, nowhere_there, nowhere_no_item}

-- ---- rules

pub rule_of_item : (rule : Unit → Item → Rule) (u : Unit) (i : Item) → IsItemOf u i → item_rule rule u i ≡ rule (bare u) i
rule_of_item rule u i is = ap (λ (b : Bool). if b then rule (bare u) i else missing_rule u i) is

rule_of_missing : (rule : Unit → Item → Rule) (u : Unit) (i : Item) (b : Bool) → is_item (blocks_of u) i ≡ false → is_nowhere (blocks_of u) i ≡ b
    → item_rule rule u i ≡ (if b then ask i (λ m. done Quiet) else done Quiet)
rule_of_missing rule u i b none other =
    ap (λ (b : Bool). if b then rule (bare u) i else missing_rule u i) none ∙ ap (λ (b : Bool). if b then ask i (λ m. done Quiet) else done Quiet) other

-- of what is no item nothing is said
pub rule_of_none : (rule : Unit → Item → Rule) (u : Unit) (i : Item) → is_item (blocks_of u) i ≡ false → is_nowhere (blocks_of u) i ≡ false → item_rule rule u i ≡ done Quiet
rule_of_none rule u i none other = rule_of_missing rule u i false none other

-- what is nowhere waits for itself
pub rule_of_nowhere : (rule : Unit → Item → Rule) (u : Unit) (i : Item) → is_item (blocks_of u) i ≡ false → is_nowhere (blocks_of u) i ≡ true
    → item_rule rule u i ≡ ask i (λ m. done Quiet)
rule_of_nowhere rule u i none is = rule_of_missing rule u i true none is

-- so the rule of what is no item gives Quiet by itself
pub missing_alone : (rule : Unit → Item → Rule) (u : Unit) (i : Item) → is_item (blocks_of u) i ≡ false → GivesAlone (item_rule rule u) i Quiet
missing_alone rule u i none = by (is_nowhere (blocks_of u) i) refl where
  by : (b : Bool) → is_nowhere (blocks_of u) i ≡ b → GivesAlone (item_rule rule u) i Quiet
  by true is = inr (rule_of_nowhere rule u i none is)
  by false other = inl (rule_of_none rule u i none other)

nowhere_so : (u : Unit) → is_nowhere (blocks_of u) (nowhere_of u) ≡ true
nowhere_so u = ap (is_nowhere (blocks_of u)) (sym (nowhere_there u)) ∙ nowhere_itself (blocks_of u)

-- The rule of what is nowhere, whatever rules items have.
pub nowhere_rule : (rule : Unit → Item → Rule) (u : Unit) → item_rule rule u (nowhere_of u) ≡ ask (nowhere_of u) (λ m. done Quiet)
nowhere_rule rule u = rule_of_nowhere rule u (nowhere_of u) (nowhere_no_item u) (nowhere_so u)

-- Rules rest on what rules are given alone.
pub rules_same : (rule : Unit → Item → Rule) (u v : Unit) → bare v ≡ bare u → (i : Item) → item_rule rule v i ≡ item_rule rule u i
rules_same rule u v same i = ap (λ (b : Unit). if is_item (blocks_of b) i then rule b i else missing_rule b i) same

-- ---- what has no mark

pub blocks_same : (s : State) (u : Unit) (i : Item) (b : Bool) → s.blocks.items ≡ blocks_of u → is_item (blocks_of u) i ≡ b → is_item s.blocks.items i ≡ b
blocks_same s u i b same is = subst (λ (blocks : List Block). is_item blocks i ≡ b) (sym same) is

places_same : (s : State) (u : Unit) (i : Item) (b : Bool) → s.blocks.items ≡ blocks_of u → is_nowhere (blocks_of u) i ≡ b → is_nowhere s.blocks.items i ≡ b
places_same s u i b same is = subst (λ (blocks : List Block). is_nowhere blocks i ≡ b) (sym same) is

-- it is an item or nowhere
pub unmarked_awaited : (u : Unit) (s : State) (i : Item) → s.blocks.items ≡ blocks_of u → so_far s i ≡ None → IsAwaited u i
unfolding so_far
unmarked_awaited u s i same none = elim (unmarked_item s.table s.constants.items s.blocks.items s.cells.items i none) [
  | inl is ↦ inl (subst (λ (blocks : List Block). IsItem blocks i) same is)
  | inr there ↦ inr (nowhere_is s.blocks.items i there ∙ (ap nowhere same ∙ nowhere_there u))
]

-- what is nowhere has none
pub missing_unmarked : (u : Unit) (s : State) (i : Item) → s.blocks.items ≡ blocks_of u → is_nowhere (blocks_of u) i ≡ true → so_far s i ≡ None
unfolding so_far
missing_unmarked u s i same is =
    ap (so_far s) (nowhere_is s.blocks.items i (places_same s u i true same is)) ∙ nowhere_unmarked s.table s.constants.items s.blocks.items s.cells.items

-- of what is neither nothing is said
pub quiet : (u : Unit) (s : State) (i : Item) → s.blocks.items ≡ blocks_of u → is_item (blocks_of u) i ≡ false → is_nowhere (blocks_of u) i ≡ false → so_far s i ≡ Some Quiet
unfolding so_far
quiet u s i same none other =
    no_item_quiet s.table s.constants.items s.blocks.items s.cells.items i (blocks_same s u i false same none) (places_same s u i false same other)

-- ---- what is waited for and no item

pub no_item_nowhere : (u : Unit) (i : Item) → IsAwaited u i → is_item (blocks_of u) i ≡ false → i ≡ nowhere_of u
no_item_nowhere u i (inl is) none = absurd (true≢false (sym is ∙ none))
no_item_nowhere u i (inr same) none = same

-- ---- in code

-- whether there is such an item, by the blocks that code looks at
pub is_item_so : (u : Unit) (i : Item) (bs : List Block) (b c : Bool) → bs ≡ blocks_of u → b ≡ is_item bs i → b ≡ c → is_item (blocks_of u) i ≡ c
is_item_so u i bs b c same is e = subst (λ (blocks : List Block). is_item blocks i ≡ c) same (sym is ∙ e)

pub number_there : (u : Unit) (i : Item) (bs : List Block) (n : ℕ) → bs ≡ blocks_of u → is_item (blocks_of u) i ≡ true → n ≡ number_of bs i → n ≡ awaited_number u i
number_there u i bs n same is e = e ∙ (ap (λ (blocks : List Block). number_of blocks i) same ∙ sym (item_number u i is))

pub number_missing : (u : Unit) (i : Item) (n : ℕ) → is_item (blocks_of u) i ≡ false → n ≡ count_of u → n ≡ awaited_number u i
number_missing u i n none e = e ∙ sym (ap (λ (b : Bool). if b then number_in u i else count_of u) none)
