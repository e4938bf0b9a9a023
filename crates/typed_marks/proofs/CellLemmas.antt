-- Cells: none is filled, one is.
use Rattle.std.proofs.Common.{◌≡◌, ◌⊎◌, ℕ, zero, suc, ◌+◌, ◌-◌, ◌*◌, ◌≤◌, take, ◌<◌, Bool, true, false, List, [], ◌∷◌, ◌++◌, length, set, slice_get, Option, Some, None, option_map, option_and_then, is_some, if◌then◌else◌, ◌&&◌, refl, sym, ap, ◌∙◌, subst, inl, inr, arith}
use Rattle.std.specs.Prelude.{◌==◌}
use Rattle.std.specs.Option.{option_map_or}
use Rattle.std.proofs.lemmas.Bool.Decides.{Decides-eqb}
use Rattle.std.proofs.lemmas.Option.{slice_get_within}
use Rattle.gv_base.specs.declared.constant.Const.{Const}
use Rattle.gv_base.proofs.Lists.{push_cases, get_set_same, get_set_other, same_some}
use Rattle.mark_walk.specs.Asks.{Adds, Stays}
use Rattle.type_model.specs.declared.table.TypeTable.{TypeTable}
use Rattle.typed_marks.specs.declared.item.Item.{Item}
use Rattle.typed_marks.specs.declared.item.Stage.{Stage}
use Rattle.typed_marks.specs.declared.item.Stage.TheVariants as s
use Rattle.typed_marks.specs.declared.item.Block.{Block}
use Rattle.typed_marks.specs.declared.mark.Mark.{Mark}
use Rattle.typed_marks.specs.declared.mark.Mark.TheVariants.{Silent}
use Rattle.typed_marks.specs.declared.item.Span.{Span}
use Rattle.typed_marks.specs.Items.{is_in, is_item, is_under, is_nowhere, nowhere, IsItem, number_of, AreBlocks}
use Rattle.typed_marks.specs.Meanings.{Meaning, Quiet, mark_in, IsMarkIn}
use Rattle.typed_marks.specs.Cells.{cell, AllNone}
use Rattle.typed_marks.specs.States.{kept, left_out, said_over, block_of, room, laid}
use Rattle.typed_marks.proofs.NumberLemmas.{one_item, number_below}

-- the first items, and one more
pub take_on : {X : Type 0} (xs : List X) (k : ℕ) (x : X) → slice_get xs k ≡ Some x → take (k + 1) xs ≡ take k xs ++ x ∷ []
take_on [] k x e = absurd cc
take_on (y ∷ xs) zero x e = let same : y ≡ x = cc in ap (λ z. z ∷ []) same
take_on (y ∷ xs) (suc k) x e = let next : suc k + 1 ≡ suc (k + 1) = omega arith in rw next (ap (λ l. y ∷ l) (take_on xs k x e))

pub none_at_first : AllNone []
none_at_first n = refl

pub none_more : (old new : List (Option Mark)) → new ≡ old ++ None ∷ [] → AllNone old → AllNone new
none_more old new is none n = by (slice_get new n) refl where
  by : (o : Option (Option Mark)) → slice_get new n ≡ o → cell new n ≡ None
  by None e = ap (λ o. option_and_then (λ (x : Option Mark). x) o) e
  by (Some x) e = elim (push_cases old None x n (ap (λ (xs : List (Option Mark)). slice_get xs n) (sym is) ∙ e)) [
    | inl was ↦ ap (λ o. option_and_then (λ (x : Option Mark). x) o) (e ∙ sym was) ∙ none n
    | inr (last, same) ↦ ap (λ o. option_and_then (λ (x : Option Mark). x) o) e ∙ sym same
  ]

-- where no cell is filled, no item is marked
pub nothing_marked : (t : TypeTable) (constants : List Const) (blocks : List Block) (cells : List (Option Mark)) → AllNone cells → (i : Item) → IsItem blocks i
    → said_over t constants blocks cells i ≡ None
nothing_marked t constants blocks cells none i is =
    ap (λ (b : Bool). option_map (mark_in t constants) (if b then cell cells (number_of blocks i) else left_out blocks i)) is
    ∙ ap (option_map (mark_in t constants)) (none (number_of blocks i))

-- what has no mark is an item, or nowhere
pub unmarked_item : (t : TypeTable) (constants : List Const) (blocks : List Block) (cells : List (Option Mark)) (i : Item) → said_over t constants blocks cells i ≡ None
    → IsItem blocks i ⊎ (is_nowhere blocks i ≡ true)
unmarked_item t constants blocks cells i none = by (is_item blocks i) refl none where
  out : (b : Bool) → is_nowhere blocks i ≡ b → option_map (mark_in t constants) (if b then None else Some Silent) ≡ None → is_nowhere blocks i ≡ true
  out true e none = e
  out false e none = absurd cc

  by : (b : Bool) → is_item blocks i ≡ b → option_map (mark_in t constants) (if b then cell cells (number_of blocks i) else left_out blocks i) ≡ None
      → (is_item blocks i ≡ true) ⊎ (is_nowhere blocks i ≡ true)
  by true e none = inl e
  by false e none = inr (out (is_nowhere blocks i) refl none)

-- of what is no item nothing is said
pub no_item_quiet : (t : TypeTable) (constants : List Const) (blocks : List Block) (cells : List (Option Mark)) (i : Item) → is_item blocks i ≡ false → is_nowhere blocks i ≡ false
    → said_over t constants blocks cells i ≡ Some Quiet
no_item_quiet t constants blocks cells i e other =
    ap (λ (b : Bool). option_map (mark_in t constants) (if b then cell cells (number_of blocks i) else left_out blocks i)) e
    ∙ ap (λ (b : Bool). option_map (mark_in t constants) (if b then None else Some Silent)) other

-- ---- nowhere

both : (a b : Bool) → (a && b) ≡ true → (a ≡ true) × (b ≡ true)
both true b e = (refl, e)
both false b e = absurd cc

under_is : (stage : Stage) → is_under stage ≡ true → stage ≡ s.Under
under_is s.Before e = absurd cc
under_is s.Wanted e = absurd cc
under_is s.Judged e = absurd cc
under_is s.Placed e = absurd cc
under_is s.Object e = absurd cc
under_is s.Under e = refl

-- it is one
pub nowhere_is : (blocks : List Block) (i : Item) → is_nowhere blocks i ≡ true → i ≡ nowhere blocks
nowhere_is blocks i e =
    let outer = both (is_under i.stage) (i.block == length blocks && i.node == 0) e in
    let inner = both (i.block == length blocks) (i.node == 0) outer.1 in
    let stage : i.stage ≡ s.Under = under_is i.stage outer.0 in
    let block : i.block ≡ length blocks = (Decides-eqb i.block (length blocks)).0 inner.0 in
    let node : i.node ≡ 0 = (Decides-eqb i.node 0).0 inner.1 in
    let same : item_of i.stage i.block i.node ≡ item_of s.Under (length blocks) 0 = cc in same where
      item_of : Stage → ℕ → ℕ → Item
      item_of stage block node = record { stage = stage; block = block; node = node }

pub nowhere_itself : (blocks : List Block) → is_nowhere blocks (nowhere blocks) ≡ true
nowhere_itself blocks = ap (λ (b : Bool). b && true) ((Decides-eqb (length blocks) (length blocks)).1 refl)

-- it is no item
pub nowhere_out : (blocks : List Block) → is_item blocks (nowhere blocks) ≡ false
nowhere_out blocks = by (slice_get blocks (length blocks)) refl where
  by : (o : Option Block) → slice_get blocks (length blocks) ≡ o → option_map_or (is_in 0) o false ≡ false
  by None at = refl
  by (Some block) at = absurd (let low : length blocks < length blocks = slice_get_within blocks (length blocks) block at in omega (arith, low))

-- and has no mark
pub nowhere_unmarked : (t : TypeTable) (constants : List Const) (blocks : List Block) (cells : List (Option Mark)) → said_over t constants blocks cells (nowhere blocks) ≡ None
nowhere_unmarked t constants blocks cells =
    ap (λ (b : Bool). option_map (mark_in t constants) (if b then cell cells (number_of blocks (nowhere blocks)) else left_out blocks (nowhere blocks))) (nowhere_out blocks)
    ∙ ap (λ (b : Bool). option_map (mark_in t constants) (if b then None else Some Silent)) (nowhere_itself blocks)

pub none_over : (t : TypeTable) (constants : List Const) (cells : List (Option Mark)) → AllNone cells → (n : ℕ) (mark : Mark) → cell cells n ≡ Some mark → IsMarkIn t constants mark
none_over t constants cells none n mark e = absurd (let is = none n in cc)

set_here : (cells : List (Option Mark)) (n : ℕ) (mark : Mark) → n < length cells → cell (set cells n (Some mark)) n ≡ Some mark
set_here cells n mark low = ap (λ o. option_and_then (λ (x : Option Mark). x) o) (get_set_same cells n (Some mark) low)

set_there : (cells : List (Option Mark)) (n k : ℕ) (mark : Mark) → (k ≡ n → ⊥) → cell (set cells n (Some mark)) k ≡ cell cells k
set_there cells n k mark apart = ap (λ o. option_and_then (λ (x : Option Mark). x) o) (get_set_other cells n k (Some mark) apart)

same_or_not : (a b : ℕ) → (a ≡ b) ⊎ (a ≡ b → ⊥)
same_or_not a b = elim (order a b) [
  | inl less ↦ inr (λ e. omega arith)
  | inr (inl same) ↦ inl same
  | inr (inr more) ↦ inr (λ e. omega arith)
] where
  order : (a b : ℕ) → (a < b) ⊎ ((a ≡ b) ⊎ (b < a))
  order a b = grind arith

-- what is kept of an item, by whether there is one
kept_true : (blocks : List Block) (cells : List (Option Mark)) (i : Item) → IsItem blocks i → kept blocks cells i ≡ cell cells (number_of blocks i)
kept_true blocks cells i is = ap (λ (b : Bool). if b then cell cells (number_of blocks i) else left_out blocks i) is

-- what is kept of an item is said of it
pub kept_said : {A B : Type 0} (says : A → B) (o : Option A) (b : Bool) → b ≡ is_some o → (b ≡ true → (m : B) × (option_map says o ≡ Some m)) × (((m : B) × (option_map says o ≡ Some m)) → b ≡ true)
kept_said says None b e = ((λ t. absurd (let never : false ≡ true = sym e ∙ t in cc)), (λ m. absurd (let never = m.1 in cc)))
kept_said says (Some a) b e = ((λ t. (says a, refl)), (λ m. e))

-- a mark that is over the tables still when it is set
pub over_set : (t : TypeTable) (constants : List Const) (cells : List (Option Mark)) (n : ℕ) (mark : Mark) → n < length cells
    → ((k : ℕ) (m : Mark) → cell cells k ≡ Some m → IsMarkIn t constants m) → IsMarkIn t constants mark
    → (k : ℕ) (m : Mark) → cell (set cells n (Some mark)) k ≡ Some m → IsMarkIn t constants m
over_set t constants cells n mark low all is k m e = elim (same_or_not k n) [
  | inl same ↦ subst (IsMarkIn t constants) (same_some (cell (set cells n (Some mark)) k) mark m (ap (cell (set cells n (Some mark))) same ∙ set_here cells n mark low) e) is
  | inr apart ↦ all k m (sym (set_there cells n k mark apart) ∙ e)
]

module _ (t : TypeTable) (constants : List Const) (blocks : List Block) (cells : List (Option Mark)) (i : Item) (mark : Mark)
    (are : AreBlocks blocks (length cells)) (item : IsItem blocks i) (unmarked : said_over t constants blocks cells i ≡ None) where
  abbrev pub new : List (Option Mark)
  new = set cells (number_of blocks i) (Some mark)

  here : said_over t constants blocks new i ≡ Some (mark_in t constants mark)
  here = ap (option_map (mark_in t constants)) (kept_true blocks new i item ∙ set_here cells (number_of blocks i) mark (number_below blocks (length cells) i are item))

  by_item : (j : Item) → (b : Bool) → is_item blocks j ≡ b → (j ≡ i) ⊎ (kept blocks new j ≡ kept blocks cells j)
  by_item j false e = inr (ap (λ (b : Bool). if b then cell new (number_of blocks j) else left_out blocks j) e ∙ sym (ap (λ (b : Bool). if b then cell cells (number_of blocks j) else left_out blocks j) e))
  by_item j true e = elim (same_or_not (number_of blocks j) (number_of blocks i)) [
    | inl same ↦ inl (one_item blocks (length cells) are j i e item same)
    | inr apart ↦ inr (kept_true blocks new j e ∙ set_there cells (number_of blocks i) (number_of blocks j) mark apart ∙ sym (kept_true blocks cells j e))
  ]

  pub adds_cell : Adds (said_over t constants blocks cells) (said_over t constants blocks new) i (mark_in t constants mark)
  adds_cell = record {
    new = here;
    stays = λ j n e. elim (by_item j (is_item blocks j) refl) [
      | inl same ↦ absurd (let none : said_over t constants blocks cells j ≡ None = ap (said_over t constants blocks cells) same ∙ unmarked in cc)
      | inr is ↦ ap (option_map (mark_in t constants)) is ∙ e
    ];
    only = λ j n e. elim (by_item j (is_item blocks j) refl) [
      | inl same ↦ inl same
      | inr is ↦ inr (sym (ap (option_map (mark_in t constants)) is) ∙ e)
    ];
  }

-- ---- blocks that are laid one after the other

pub room_on : (xs : List Span) (x : Span) → room (xs ++ x ∷ []) ≡ room xs + 6 * (x.end - x.low)
room_on [] x = omega arith
room_on (y ∷ xs) x = let rest : room (xs ++ x ∷ []) ≡ room xs + 6 * (x.end - x.low) = room_on xs x in omega arith

pub laid_on : (n : ℕ) (xs : List Span) (x : Span) → laid n (xs ++ x ∷ []) ≡ laid n xs ++ block_of x (n + room xs) ∷ []
laid_on n [] x = ap (λ k. block_of x k ∷ []) (omega arith)
laid_on n (y ∷ xs) x =
    let start : (n + 6 * (y.end - y.low)) + room xs ≡ n + (6 * (y.end - y.low) + room xs) = omega arith in
    ap (λ l. block_of y n ∷ l) (laid_on (n + 6 * (y.end - y.low)) xs x ∙ ap (λ k. laid (n + 6 * (y.end - y.low)) xs ++ block_of x k ∷ []) start)

-- blocks from the first number on
pub laid_last : (xs : List Span) (x : Span) → laid 0 (xs ++ x ∷ []) ≡ laid 0 xs ++ block_of x (room xs) ∷ []
laid_last xs x = laid_on 0 xs x ∙ ap (λ n. laid 0 xs ++ block_of x n ∷ []) (omega arith)
