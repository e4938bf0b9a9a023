-- A package as what is walked over: its items and their numbers.
use Rattle.std.proofs.Common.{◌≡◌, ◌⊎◌, ℕ, suc, ◌<◌, ◌+◌, ◌-◌, ◌*◌, List, [], ◌∷◌, length, Bool, true, false, if◌then◌else◌, refl, sym, ap, ◌∙◌, subst, inl, inr, arith, true≢false}
use Rattle.mark_walk.specs.Asks.{done, ask}
use Rattle.mark_walk.specs.Marking.{AreNumbers}
use Rattle.typed_marks.specs.declared.item.Item.{Item}
use Rattle.typed_marks.specs.declared.item.Block.{Block}
use Rattle.typed_marks.specs.declared.item.Stage.{Stage}
use Rattle.typed_marks.specs.declared.item.Stage.TheVariants as s
use Rattle.typed_marks.specs.declared.item.Span.{Span}
use Rattle.typed_marks.specs.Items.{is_item, is_nowhere, nowhere, IsItem, number_of}
use Rattle.typed_marks.specs.Meanings.{Quiet}
use Rattle.typed_marks.specs.States.{laid, room}
use Rattle.typed_marks.proofs.NumberLemmas.{laid_blocks, number_below, one_item}
use Rattle.typed_marks.proofs.CellLemmas.{nowhere_out}
use Rattle.unit_read.specs.declared.passage.Passage.{Passage}
use Rattle.unit_read.specs.Imports.{bare}
use Rattle.unit_read.specs.Units.{Unit}
use Rattle.unit_read.specs.Passages.{passages, spans}
use Rattle.rule_words.specs.Asking.{Rule, nowhere_of}

abbrev pub blocks_of : Unit → List Block
blocks_of u = laid 0 (spans (passages u.trees))

abbrev pub count_of : Unit → ℕ
count_of u = room (spans (passages u.trees))

-- six for each node of each passage
abbrev pub IsItemOf : Unit → Item → Type 0
IsItemOf u i = IsItem (blocks_of u) i

abbrev pub number_in : Unit → Item → ℕ
number_in u i = number_of (blocks_of u) i

-- ---- what is waited for

-- the items, and what is nowhere
abbrev pub IsAwaited : Unit → Item → Type 0
IsAwaited u i = IsItemOf u i ⊎ (i ≡ nowhere_of u)

-- what is nowhere comes after all items
abbrev pub awaited_number : Unit → Item → ℕ
awaited_number u i = if is_item (blocks_of u) i then number_in u i else count_of u

abbrev pub awaited_count : Unit → ℕ
awaited_count u = suc (count_of u)

-- there are as many blocks as passages
pub laid_many : (start : ℕ) (list : List Passage) → length (laid start (spans list)) ≡ length list
laid_many start [] = refl
laid_many start (p ∷ list) = ap suc (laid_many (start + 6 * (p.span.end - p.span.low)) list)

abbrev behind : ℕ → Item
behind n = record { stage = s.Under; block = n; node = 0 }

pub nowhere_there : (u : Unit) → nowhere (blocks_of u) ≡ nowhere_of u
nowhere_there u = ap behind (laid_many 0 (passages u.trees))

pub nowhere_no_item : (u : Unit) → is_item (blocks_of u) (nowhere_of u) ≡ false
nowhere_no_item u = ap (is_item (blocks_of u)) (sym (nowhere_there u)) ∙ nowhere_out (blocks_of u)

pub item_number : (u : Unit) (i : Item) → IsItemOf u i → awaited_number u i ≡ number_in u i
item_number u i is = ap (λ (b : Bool). if b then number_in u i else count_of u) is

pub nowhere_number : (u : Unit) (i : Item) → i ≡ nowhere_of u → awaited_number u i ≡ count_of u
nowhere_number u i same = ap (λ (b : Bool). if b then number_in u i else count_of u) (ap (is_item (blocks_of u)) same ∙ nowhere_no_item u)

pub own_numbers : (u : Unit) → AreNumbers (IsAwaited u) (awaited_number u) (awaited_count u)
own_numbers u = record { within = within; apart = apart } where
  below : (i : Item) → IsItemOf u i → number_in u i < count_of u
  below i is = number_below (blocks_of u) (count_of u) i (laid_blocks (spans (passages u.trees))) is

  within : (i : Item) → IsAwaited u i → awaited_number u i < awaited_count u
  within i (inl is) = let low = below i is in let e = item_number u i is in omega (arith, low, e)
  within i (inr same) = let e = nowhere_number u i same in omega (arith, e)

  -- an item has another number than what is nowhere
  never : (i j : Item) → IsItemOf u i → j ≡ nowhere_of u → awaited_number u i ≡ awaited_number u j → ⊥
  never i j is same e =
      let low = below i is in
      let one = item_number u i is in
      let other = nowhere_number u j same in
      omega (arith, low, one, other, e)

  apart : (i j : Item) → IsAwaited u i → IsAwaited u j → awaited_number u i ≡ awaited_number u j → i ≡ j
  apart i j (inl one) (inl other) same =
      one_item (blocks_of u) (count_of u) (laid_blocks (spans (passages u.trees))) i j one other (sym (item_number u i one) ∙ (same ∙ item_number u j other))
  apart i j (inl one) (inr other) same = absurd (never i j one other same)
  apart i j (inr one) (inl other) same = absurd (never j i other one (sym same))
  apart i j (inr one) (inr other) same = one ∙ sym other

-- the item says what a type is declared with
abbrev pub is_declaring : Stage → Bool
is_declaring s.Before = false
is_declaring s.Wanted = false
is_declaring s.Judged = false
is_declaring s.Placed = false
is_declaring s.Object = false
is_declaring s.Under = true

-- Nothing is said of what is no item; but what is nowhere waits for itself, and so for ever.
abbrev pub missing_rule : Unit → Item → Rule
missing_rule u i = if is_nowhere (blocks_of u) i then ask i (λ m. done Quiet) else done Quiet

-- The rule of an item. It reads the package over what its imports name, and nothing else that is known of other packages.
abbrev pub item_rule : (Unit → Item → Rule) → Unit → Item → Rule
item_rule rule u i = if is_item (blocks_of u) i then rule (bare u) i else missing_rule u i
