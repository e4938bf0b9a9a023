-- What the rows of labels and jumps say.
use Rattle.std.proofs.Common.{◌≡◌, ℕ, ◌<◌, ◌↔◌, Bool, true, false, List, [], length, get_or, slice_get, Option, Some, None, unwrap_or, refl, sym, ap, ◌∙◌, subst, inl, inr, arith}
use Rattle.std.proofs.lemmas.Option.{slice_get_within}
use Rattle.go_tree.specs.declared.tree.FileTree.{FileTree}
use Rattle.file_uses.specs.Numbers.{name_in}
use Rattle.label_uses.specs.declared.answer.Jump.{Jump}
use Rattle.label_uses.specs.declared.answer.Label.{Label}
use Rattle.label_uses.specs.declared.answer.Labels.{Labels}
use Rattle.label_uses.specs.Labels.{is_label, is_jump, Heads, IsLabel, IsJump, IsFirst, DenotesLabel, IsRepeated}
use Rattle.label_uses.specs.Parents.{at, IsTree, AreFunctions}
use Rattle.label_uses.specs.Read.{AreListed, JumpAnswer, IsRow, AreLabels}
use Rattle.label_uses.specs.Rows.{AreGathered, HasName, IsJumpRow, IsLabelRow, AreUsed}
use Rattle.label_uses.specs.Tables.{FirstBelow, AreFirst}
use Rattle.label_uses.proofs.CaseLemmas.{three_ways}
use Rattle.label_uses.proofs.NameLemmas.{head_low}
use Rattle.gv_base.proofs.Lists.{same_some, nothing_there}

pub one_first : (bytes : List ℕ) (tree : FileTree) (n : ℕ) (name : List ℕ) (a b : ℕ) → IsFirst bytes tree n name a → IsFirst bytes tree n name b → a ≡ b
one_first bytes tree n name a b x y = elim (three_ways a b) [
  | inl same ↦ same
  | inr (inl less) ↦ absurd (y.earliest a less x.declared x.function)
  | inr (inr more) ↦ absurd (x.earliest b more y.declared y.function)
]

pub one_denoted : (bytes : List ℕ) (tree : FileTree) (jump a b : ℕ) → DenotesLabel bytes tree jump a → DenotesLabel bytes tree jump b → a ≡ b
one_denoted bytes tree jump a b (p, is, x) (q, is2, y) =
    one_first bytes tree jump p a b x (subst (λ (r : List ℕ). IsFirst bytes tree jump r b) (same_some (name_in bytes tree jump) q p is2.1 is.1) y)

label_low : (bytes : List ℕ) (tree : FileTree) (n : ℕ) (q : List ℕ) → IsTree tree.nodes → IsLabel bytes tree n q → n < length tree.nodes
label_low bytes tree n q is has = head_low is_label tree.nodes n is has.0

jump_low : (bytes : List ℕ) (tree : FileTree) (n : ℕ) (q : List ℕ) → IsTree tree.nodes → IsJump bytes tree n q → n < length tree.nodes
jump_low bytes tree n q is has = head_low is_jump tree.nodes n is has.0

-- the first label of the name in the function of n, or none where there is none
abbrev FirstIs : List ℕ → FileTree → ℕ → List ℕ → Option ℕ → Type 0
FirstIs bytes tree n q None = (label : ℕ) → IsFirst bytes tree n q label → ⊥
FirstIs bytes tree n q (Some label) = IsFirst bytes tree n q label

first_is : (bytes : List ℕ) (tree : FileTree) (functions : List ℕ) (n : ℕ) (q : List ℕ) (o : Option ℕ) → IsTree tree.nodes → AreFunctions tree.nodes functions → n < length tree.nodes
    → FirstBelow (IsLabel bytes tree) (at functions) (length tree.nodes) (at functions n) q o → FirstIs bytes tree n q o
first_is bytes tree functions n q None is are low none = λ label first.
    let here = label_low bytes tree label q is first.declared in
    none label here first.declared (sym ((are.same n label low here).1 first.function))
first_is bytes tree functions n q (Some label) is are low (has, fun, below, earliest) = record {
  declared = has;
  function = (are.same n label low below).0 (sym fun);
  earliest = λ e less other same. earliest e less other (sym ((are.same n e low (label_low bytes tree e q is other)).1 same));
}

-- the answer for a jump
answer_is : (bytes : List ℕ) (tree : FileTree) (n : ℕ) (q : List ℕ) (o : Option ℕ) → IsJump bytes tree n q → FirstIs bytes tree n q o → JumpAnswer bytes tree n o
answer_is bytes tree n q None is none = λ label it. none label (subst (λ (x : List ℕ). IsFirst bytes tree n x label) (same_some (name_in bytes tree n) it.0 q it.1.1 is.1) it.2)
answer_is bytes tree n q (Some label) is first = (q, is, first)

-- a label has a first of its name
first_of : (bytes : List ℕ) (tree : FileTree) (functions : List ℕ) (n first : ℕ) (q : List ℕ) (o : Option ℕ) → IsTree tree.nodes → AreFunctions tree.nodes functions → IsLabel bytes tree n q
    → FirstBelow (IsLabel bytes tree) (at functions) (length tree.nodes) (at functions n) q o → first ≡ unwrap_or o n → IsFirst bytes tree n q first
first_of bytes tree functions n first q None is are has none e = absurd (none n (label_low bytes tree n q is has) has refl)
first_of bytes tree functions n first q (Some label) is are has below e =
    subst (λ (x : ℕ). IsFirst bytes tree n q x) (sym e) (first_is bytes tree functions n q (Some label) is are (label_low bytes tree n q is has) below)

repeated_is : (bytes : List ℕ) (tree : FileTree) (n first : ℕ) (q : List ℕ) → IsLabel bytes tree n q → IsFirst bytes tree n q first → (first < n) ↔ IsRepeated bytes tree n
repeated_is bytes tree n first q has it = ((λ less. (q, has, first, less, it.declared, it.function)), back) where
  back : IsRepeated bytes tree n → first < n
  back (r, has2, e, less, other, same) = elim (three_ways first e) [
    | inl here ↦ omega arith
    | inr (inl lower) ↦ omega arith
    | inr (inr higher) ↦ absurd (it.earliest e higher (subst (λ (x : List ℕ). IsLabel bytes tree e x) (same_some (name_in bytes tree n) r q has2.1 has.1) other) same)
  ]

listed : {A : Type 0} (name : A → ℕ) (Is : A → Type 0) (Has : ℕ → Type 0) (count : ℕ) (rows : List A) → ((a : A) → Is a → Has (name a)) → ((n : ℕ) → Has n → n < count) → AreGathered name Is Has count rows
    → AreListed name Has rows
listed name Is Has count rows has low all = record {
  order = all.order;
  each = λ k a there. has a (all.each k a there).0;
  all = λ n it. all.all n (low n it) it;
}

jump_answer : (bytes : List ℕ) (tree : FileTree) (functions : List ℕ) (table : ℕ → List ℕ → Option ℕ) (j : Jump) → IsTree tree.nodes → AreFunctions tree.nodes functions
    → AreFirst (IsLabel bytes tree) (at functions) (length tree.nodes) table → IsJumpRow (IsJump bytes tree) (at functions) table j → JumpAnswer bytes tree j.name j.label
jump_answer bytes tree functions table j is are firsts (q, has, label) =
    subst (λ (o : Option ℕ). JumpAnswer bytes tree j.name o) (sym label)
    (answer_is bytes tree j.name q (table (at functions j.name) q) has (first_is bytes tree functions j.name q (table (at functions j.name) q) is are (jump_low bytes tree j.name q is has) (firsts (at functions j.name) q)))

-- a label that a jump denotes has its flag
used_by : (bytes : List ℕ) (tree : FileTree) (jumps : List Jump) (used : List Bool) (n jump k : ℕ) (j : Jump) (o : Option ℕ) → AreUsed jumps (length jumps) (length tree.nodes) used → n < length tree.nodes
    → DenotesLabel bytes tree jump n → slice_get jumps k ≡ Some j → j.name ≡ jump → j.label ≡ o → JumpAnswer bytes tree j.name o → get_or used n false ≡ true
used_by bytes tree jumps used n jump k j None flags low denotes there is label none = absurd (none n (subst (λ (x : ℕ). DenotesLabel bytes tree x n) (sym is) denotes))
used_by bytes tree jumps used n jump k j (Some x) flags low denotes there is label it =
    let same : x ≡ n = one_denoted bytes tree j.name x n it (subst (λ (y : ℕ). DenotesLabel bytes tree y n) (sym is) denotes) in
    flags.all k j n (slice_get_within jumps k j there) there (label ∙ ap (λ y. Some y) same) low

pub all_read : (bytes : List ℕ) (tree : FileTree) (functions : List ℕ) (table : ℕ → List ℕ → Option ℕ) (used : List Bool) (r : Labels) → IsTree tree.nodes → AreFunctions tree.nodes functions
    → AreFirst (IsLabel bytes tree) (at functions) (length tree.nodes) table
    → AreGathered (λ (j : Jump). j.name) (IsJumpRow (IsJump bytes tree) (at functions) table) (λ n. HasName (IsJump bytes tree n)) (length tree.nodes) r.jumps.items
    → AreUsed r.jumps.items (length r.jumps.items) (length tree.nodes) used
    → AreGathered (λ (l : Label). l.name) (IsLabelRow (IsLabel bytes tree) (at functions) table used) (λ n. HasName (IsLabel bytes tree n)) (length tree.nodes) r.labels.items
    → AreLabels bytes tree r
all_read bytes tree functions table used r is are firsts jumps flags labels = record {
  labels = listed (λ (l : Label). l.name) (IsLabelRow (IsLabel bytes tree) (at functions) table used) (λ n. HasName (IsLabel bytes tree n)) (length tree.nodes) r.labels.items
      (λ l row. (row.0, row.1)) (λ n has. label_low bytes tree n has.0 is has.1) labels;
  rows = λ k l there. row l (labels.each k l there).0;
  jumps = listed (λ (j : Jump). j.name) (IsJumpRow (IsJump bytes tree) (at functions) table) (λ n. HasName (IsJump bytes tree n)) (length tree.nodes) r.jumps.items
      (λ j row. (row.0, row.1)) (λ n has. jump_low bytes tree n has.0 is has.1) jumps;
  denoted = answers;
} where
  answers : (k : ℕ) (j : Jump) → slice_get r.jumps.items k ≡ Some j → JumpAnswer bytes tree j.name j.label
  answers k j there = jump_answer bytes tree functions table j is are firsts (jumps.each k j there).0

  denotes : (n : ℕ) → get_or used n false ≡ true → (jump : ℕ) × DenotesLabel bytes tree jump n
  denotes n set = let u = flags.sound n set in (u.1.name, subst (λ (o : Option ℕ). JumpAnswer bytes tree u.1.name o) u.3 (answers u.0 u.1 u.2))

  is_set : (n jump : ℕ) → n < length tree.nodes → DenotesLabel bytes tree jump n → get_or used n false ≡ true
  is_set n jump low it =
      let a = jumps.all jump (jump_low bytes tree jump it.0 is it.1) (it.0, it.1) in
      used_by bytes tree r.jumps.items used n jump a.0 a.1 a.1.label flags low it a.2 a.3 refl (answers a.0 a.1 a.2)

  row : (l : Label) → IsLabelRow (IsLabel bytes tree) (at functions) table used l → IsRow bytes tree l
  row l (q, has, first, flag) =
      let it = first_of bytes tree functions l.name l.first q (table (at functions l.name) q) is are has (firsts (at functions l.name) q) first in
      record {
        first = (q, has, it);
        repeated = repeated_is bytes tree l.name l.first q has it;
        used = ((λ e. denotes l.name (sym flag ∙ e)), (λ d. flag ∙ is_set l.name d.0 (label_low bytes tree l.name q is has) d.1));
      }

-- a file without names of labels and without jumps to any
pub none_read : (bytes : List ℕ) (tree : FileTree) (r : Labels) → r.labels.items ≡ [] → r.jumps.items ≡ [] → ((n : ℕ) → Heads is_label tree.nodes n → ⊥) → ((n : ℕ) → Heads is_jump tree.nodes n → ⊥) → AreLabels bytes tree r
none_read bytes tree r labels jumps unnamed still = record {
  labels = nothing (λ (l : Label). l.name) (λ n. (name : List ℕ) × IsLabel bytes tree n name) r.labels.items labels (λ n has. unnamed n has.1.0);
  rows = λ k l there. absurd (nothing_there l (sym (ap (λ x. slice_get x k) labels) ∙ there));
  jumps = nothing (λ (j : Jump). j.name) (λ n. (name : List ℕ) × IsJump bytes tree n name) r.jumps.items jumps (λ n has. still n has.1.0);
  denoted = λ k j there. absurd (nothing_there j (sym (ap (λ x. slice_get x k) jumps) ∙ there));
} where
  nothing : {A : Type 0} (name : A → ℕ) (Is : ℕ → Type 0) (rows : List A) → rows ≡ [] → ((n : ℕ) → Is n → ⊥) → AreListed name Is rows
  nothing name Is rows e none = subst (AreListed name Is) (sym e) (record {
    order = λ j k a b less at_j at_k. absurd (nothing_there a at_j);
    each = λ k a there. absurd (nothing_there a there);
    all = λ n is. absurd (none n is);
  })
