-- The labels and jumps of a file, by node.
use Rattle.std.proofs.Common.{◌≡◌, ℕ, ◌<◌, ◌≤◌, ◌+◌, ◌⊎◌, ◌↔◌, Bool, true, false, List, length, set, get_or, slice_get, Option, Some, None, refl, sym, ap, ◌∙◌, subst, inl, inr, arith, get_or-set_same, get_or-set_other}
use Rattle.std.proofs.Math.ListN.{length-set}
use Rattle.std.proofs.lemmas.Option.{slice_get_within}
use Rattle.go_tree.specs.declared.tree.FileTree.{FileTree}
use Rattle.go_tree.proofs.NodeLemmas.{differ}
use Rattle.gv_base.proofs.Lists.{same_some}
use Rattle.node_values.specs.Flagged.{IsOnly, AreFlagged}
use Rattle.node_values.specs.Handed.{AreTops}
use Rattle.node_values.proofs.CaseLemmas.{nat_cases, before_or_at}
use Rattle.label_uses.specs.declared.answer.Label.{Label}
use Rattle.label_uses.specs.declared.answer.Jump.{Jump}
use Rattle.label_uses.specs.declared.answer.Labels.{Labels}
use Rattle.label_uses.specs.Labels.{IsLabel, DenotesLabel, IsRepeated}
use Rattle.label_uses.specs.Read.{JumpAnswer, AreLabels}
use Rattle.body_facts.specs.LabelTables.{AreDenoted, AreFlagsOf, IsIdle, IsTold, AreTold, AreRising, Tells, TellsRepeated, TellsIdle}

-- ---- one answer more

pub tells_one : (found : List (Option ℕ)) (n : ℕ) (label : Option ℕ) → n < length found → Tells n label found (set found n label)
tells_one found n label low = record {
  size = length-set found n label;
  each = λ m within. elim (nat_cases m n) [
    | inl same ↦ inl (same, ap (λ x. get_or (set found n label) x None) same ∙ get_or-set_same found n label None low)
    | inr other ↦ inr (other, get_or-set_other found n m label None other)
  ];
}

pub tells_past : (found : List (Option ℕ)) (n : ℕ) (label : Option ℕ) → length found ≤ n → Tells n label found found
tells_past found n label high = record { size = refl; each = λ m low. inr ((λ same. absurd (omega arith)), refl) }

pub none_told : (jumps : List Jump) (count : ℕ) (found : List (Option ℕ)) → AreTops count None found → AreTold jumps 0 count found
none_told jumps count found tops = record {
  size = tops.size;
  each = λ m l low. (λ e. absurd (let f : None ≡ Some l = sym (tops.each m) ∙ e in cc), λ (k, j, less, at, named, has). absurd (omega arith));
}

pub told_more : (jumps : List Jump) (i count : ℕ) (j : Jump) (old new : List (Option ℕ)) → AreRising jumps → slice_get jumps i ≡ Some j → Tells j.name j.label old new
    → AreTold jumps i count old → AreTold jumps (i + 1) count new
told_more jumps i count j old new rising there tells was = record { size = tells.size ∙ was.size; each = one } where
  is : (k : ℕ) (a : Jump) → k ≡ i → slice_get jumps k ≡ Some a → a ≡ j
  is k a here at = same_some (slice_get jumps i) a j (ap (λ n. slice_get jumps n) (sym here) ∙ at) there

  now : (m l : ℕ) → m ≡ j.name → get_or new m None ≡ j.label → (get_or new m None ≡ Some l) ↔ IsTold jumps (i + 1) m l
  now m l same value = (
    λ e. (i, j, omega arith, there, sym same, sym value ∙ e),
    λ (k, a, less, at, named, has). elim (before_or_at k i less) [
      | inl before ↦ absurd (let r = rising k i a j before at there in let n : a.name ≡ j.name = named ∙ same in omega arith)
      | inr here ↦ value ∙ (sym (ap (λ (x : Jump). x.label) (is k a here at)) ∙ has)
    ],
  )

  kept : (m l : ℕ) → m < count → (m ≡ j.name → ⊥) → get_or new m None ≡ get_or old m None → (get_or new m None ≡ Some l) ↔ IsTold jumps (i + 1) m l
  kept m l low other value = (
    λ e. (let (k, a, less, at, named, has) = (was.each m l low).0 (sym value ∙ e) in (k, a, omega arith, at, named, has)),
    λ (k, a, less, at, named, has). elim (before_or_at k i less) [
      | inl before ↦ value ∙ (was.each m l low).1 (k, a, before, at, named, has)
      | inr here ↦ absurd (other (sym named ∙ ap (λ (x : Jump). x.name) (is k a here at)))
    ],
  )

  one : (m l : ℕ) → m < count → (get_or new m None ≡ Some l) ↔ IsTold jumps (i + 1) m l
  one m l low = elim (tells.each m (let s = was.size in omega arith)) [
    | inl own ↦ now m l own.0 own.1
    | inr other ↦ kept m l low other.0 other.1
  ]

pub told_all : (jumps : List Jump) (i count : ℕ) (found : List (Option ℕ)) → i ≡ length jumps → AreTold jumps i count found → AreTold jumps (length jumps) count found
told_all jumps i count found same told = subst (λ n. AreTold jumps n count found) same told

-- ---- what the rows of a file say

pub rising_rows : (bytes : List ℕ) (tree : FileTree) (r : Labels) → AreLabels bytes tree r → AreRising r.jumps.items
rising_rows bytes tree r are = λ i k a b less x y. are.jumps.order i k a b less x y

-- a jump denotes one label at most
abbrev pub IsOneLabel : Type 0
IsOneLabel = (bytes : List ℕ) → (tree : FileTree) → (jump a b : ℕ) → DenotesLabel bytes tree jump a → DenotesLabel bytes tree jump b → a ≡ b

told_is : (bytes : List ℕ) (tree : FileTree) (r : Labels) → IsOneLabel → AreLabels bytes tree r → (m l : ℕ) → IsTold r.jumps.items (length r.jumps.items) m l ↔ DenotesLabel bytes tree m l
told_is bytes tree r one are m l = (
  λ (k, j, less, at, named, has). subst (λ n. DenotesLabel bytes tree n l) named (subst (λ (o : Option ℕ). JumpAnswer bytes tree j.name o) has (are.denoted k j at)),
  λ d. back d (are.jumps.all m (d.0, d.1)),
) where
  answers : (j : Jump) (o : Option ℕ) → DenotesLabel bytes tree j.name l → JumpAnswer bytes tree j.name o → o ≡ Some l
  answers j None d none = absurd (none l d)
  answers j (Some x) d it = ap (λ n. Some n) (one bytes tree j.name x l it d)

  back : DenotesLabel bytes tree m l → ((k : ℕ) × (j : Jump) × (slice_get r.jumps.items k ≡ Some j) × (j.name ≡ m)) → IsTold r.jumps.items (length r.jumps.items) m l
  back d (k, j, at, named) = (
    k,
    j,
    slice_get_within r.jumps.items k j at,
    at,
    named,
    answers j j.label (subst (λ n. DenotesLabel bytes tree n l) (sym named) d) (are.denoted k j at),
  )

pub denoted_is : (bytes : List ℕ) (tree : FileTree) (r : Labels) (found : List (Option ℕ)) → IsOneLabel → AreLabels bytes tree r
    → AreTold r.jumps.items (length r.jumps.items) (length tree.nodes) found → AreDenoted bytes tree found
denoted_is bytes tree r found one are told = record {
  size = told.size;
  each = λ m l low. (λ e. (told_is bytes tree r one are m l).0 ((told.each m l low).0 e), λ d. (told.each m l low).1 ((told_is bytes tree r one are m l).1 d));
}

-- ---- rows of labels

pub second_only : (rows : List Label) (k : ℕ) (l : Label) → slice_get rows k ≡ Some l → l.first < l.name → IsOnly (TellsRepeated rows k) (Some l.name)
second_only rows k l there less = (
  (l, there, less, refl),
  λ u (other, at, second, named). sym named ∙ ap (λ (x : Label). x.name) (same_some (slice_get rows k) other l at there),
)

pub second_none : (rows : List Label) (k : ℕ) (l : Label) → slice_get rows k ≡ Some l → l.name ≤ l.first → IsOnly (TellsRepeated rows k) None
second_none rows k l there high = λ u (other, at, second, named).
    absurd (let s : l.first < l.name = subst (λ (x : Label). x.first < x.name) (same_some (slice_get rows k) other l at there) second in omega arith)

pub idle_only : (rows : List Label) (k : ℕ) (l : Label) → slice_get rows k ≡ Some l → l.used ≡ false → IsOnly (TellsIdle rows k) (Some l.name)
idle_only rows k l there unused = (
  (l, there, unused, refl),
  λ u (other, at, idle, named). sym named ∙ ap (λ (x : Label). x.name) (same_some (slice_get rows k) other l at there),
)

pub idle_used : (rows : List Label) (k : ℕ) (l : Label) → slice_get rows k ≡ Some l → l.used ≡ true → IsOnly (TellsIdle rows k) None
idle_used rows k l there used = λ u (other, at, idle, named).
    differ l.used (subst (λ (x : Label). x.used ≡ false) (same_some (slice_get rows k) other l at there) idle) used

pub repeated_is : (bytes : List ℕ) (tree : FileTree) (r : Labels) (flags : List Bool) → AreLabels bytes tree r
    → AreFlagged (TellsRepeated r.labels.items) (length r.labels.items) (length tree.nodes) flags → AreFlagsOf (IsRepeated bytes tree) (length tree.nodes) flags
repeated_is bytes tree r flags are flagged = record {
  size = flagged.size;
  each = λ n low. (λ e. to n ((flagged.each n low).0 e), λ it. (flagged.each n low).1 (back n it (are.labels.all n (it.0, it.1))));
} where
  to : (n : ℕ) → ((k : ℕ) × (k < length r.labels.items) × TellsRepeated r.labels.items k n) → IsRepeated bytes tree n
  to n (k, less, told) = subst (λ m. IsRepeated bytes tree m) told.3 ((are.rows k told.0 told.1).repeated.0 told.2)

  back : (n : ℕ) → IsRepeated bytes tree n → ((k : ℕ) × (l : Label) × (slice_get r.labels.items k ≡ Some l) × (l.name ≡ n))
      → (k : ℕ) × (k < length r.labels.items) × TellsRepeated r.labels.items k n
  back n it (k, l, at, named) = (k, slice_get_within r.labels.items k l at, (l, at, (are.rows k l at).repeated.1 (subst (λ m. IsRepeated bytes tree m) (sym named) it), named))

pub idle_is : (bytes : List ℕ) (tree : FileTree) (r : Labels) (flags : List Bool) → AreLabels bytes tree r
    → AreFlagged (TellsIdle r.labels.items) (length r.labels.items) (length tree.nodes) flags → AreFlagsOf (IsIdle bytes tree) (length tree.nodes) flags
idle_is bytes tree r flags are flagged = record {
  size = flagged.size;
  each = λ n low. (λ e. to n ((flagged.each n low).0 e), λ it. (flagged.each n low).1 (back n it (are.labels.all n (it.name, it.label))));
} where
  own : (k : ℕ) (l : Label) → slice_get r.labels.items k ≡ Some l → l.used ≡ false → IsIdle bytes tree l.name
  own k l at unused =
      let row = are.rows k l at in
      record {
        name = row.first.0;
        label = row.first.1;
        idle = λ jump d. differ l.used unused (row.used.1 (jump, d));
      }

  to : (n : ℕ) → ((k : ℕ) × (k < length r.labels.items) × TellsIdle r.labels.items k n) → IsIdle bytes tree n
  to n (k, less, told) = subst (λ m. IsIdle bytes tree m) told.3 (own k told.0 told.1 told.2)

  unused : (k : ℕ) (l : Label) → slice_get r.labels.items k ≡ Some l → IsIdle bytes tree l.name → (b : Bool) → l.used ≡ b → l.used ≡ false
  unused k l at it false e = e
  unused k l at it true e = absurd (let d = (are.rows k l at).used.0 e in it.idle d.0 d.1)

  back : (n : ℕ) → IsIdle bytes tree n → ((k : ℕ) × (l : Label) × (slice_get r.labels.items k ≡ Some l) × (l.name ≡ n))
      → (k : ℕ) × (k < length r.labels.items) × TellsIdle r.labels.items k n
  back n it (k, l, at, named) =
      let here = subst (λ m. IsIdle bytes tree m) (sym named) it in
      (k, slice_get_within r.labels.items k l at, (l, at, unused k l at here l.used refl, named))
