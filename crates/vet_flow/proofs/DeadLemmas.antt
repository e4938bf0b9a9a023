-- Flags of the statements that can't be reached.
use Rattle.std.proofs.Common.{◌≡◌, ◌↔◌, ◌==◌, ◌⊎◌, ◌<◌, ◌++◌, ◌+◌, ℕ, zero, suc, Bool, true, false, if◌then◌else◌, List, [], ◌∷◌, Option, Some, None, length, get_or, slice_get, refl, sym, ap, ◌∙◌, subst, inl, inr, arith, eqb→eq, eq-eqb, T}
use Rattle.std.specs.Global.{Vec}
use Rattle.std.specs.List.{Contains}
use Rattle.std.specs.Option.{option_map_or}
use Rattle.std.specs.Prelude.{slice_index_or}
use Rattle.std.proofs.lemmas.List.{length_push}
use Rattle.std.proofs.lemmas.Option.{slice_get_within}
use Rattle.gv_base.proofs.Lists.{same_some, push_cases}
use Rattle.go_tree.specs.declared.tree.FileTree.{FileTree}
use Rattle.go_tree.specs.declared.tree.Node.{Node}
use Rattle.unit_read.specs.Subjects.{flag}
use Rattle.unit_read.specs.Units.{Unit, text_in, tree_at, nodes_at, nodes_of}
use Rattle.file_flow.specs.File.{calls_panic, AreUnreachedIn}
use Rattle.findings.specs.Gains.{Gains}
use Rattle.findings.proofs.GainLemmas.{gains_push, gains_none}
use Rattle.vet_flow.specs.Unreachable.{IsDead, IsDeadAt, AreUnset, IsSetFor, is_that, is_among, AreSet, AreDeadFlags, IsDeadRow, AreDeadRows, AreDeadIn}
use Rattle.vet_flow.proofs.LabelLemmas.{dead_moved}

-- ---- flags of numbers

pub no_number : (numbers : List ℕ) (count : ℕ) (flags : List Bool) → AreUnset count flags → AreSet numbers 0 count flags
no_number numbers count flags unset = record { size = unset.size; each = λ m low. unset.each m }

pub number_more : (numbers : List ℕ) (i count : ℕ) (old new : List Bool) → AreSet numbers i count old → IsSetFor (slice_get numbers i) old new → AreSet numbers (i + 1) count new
number_more numbers i count old new was is = subst (λ (k : ℕ). AreSet numbers k count new) (next i) (by (slice_get numbers i) refl is) where
  next : (k : ℕ) → suc k ≡ k + 1
  next k = omega arith

  by : (o : Option ℕ) → slice_get numbers i ≡ o → IsSetFor o old new → AreSet numbers (suc i) count new
  by None e same = subst (λ (l : List Bool). AreSet numbers (suc i) count l) (sym same) (record {
    size = was.size;
    each = λ m low. was.each m low ∙ sym (ap (λ o. if option_map_or (is_that m) o false then true else is_among numbers m i) e);
  })
  by (Some n) e more = record {
    size = more.size ∙ was.size;
    each = λ m low. more.each m (let z = was.size in omega (arith, low, z))
        ∙ (ap (λ b. if n == m then true else b) (was.each m low) ∙ sym (ap (λ o. if option_map_or (is_that m) o false then true else is_among numbers m i) e));
  }

pub all_numbers : (numbers : List ℕ) (i count : ℕ) (flags : List Bool) → i ≡ length numbers → AreSet numbers i count flags → AreSet numbers (length numbers) count flags
all_numbers numbers i count flags e are = subst (λ (k : ℕ). AreSet numbers k count flags) e are

-- ---- one of the numbers

same_at : (a b : ℕ) → (a == b) ≡ true → a ≡ b
same_at a b e = eqb→eq a b (subst (λ (x : Bool). T x) (sym e) tt)

at_place : (xs : List ℕ) (k x : ℕ) → slice_get xs k ≡ Some x → Contains xs x
at_place xs k x e = (k, slice_get_within xs k x e, read xs k x x e) where
  read : (xs : List ℕ) (k x d : ℕ) → slice_get xs k ≡ Some x → get_or xs k d ≡ x
  read [] k x d e = absurd (cc)
  read (y ∷ xs) zero x d e = it y x e where
    it : (a b : ℕ) → Some a ≡ Some b → a ≡ b
    it a b e = cc
  read (y ∷ xs) (suc k) x d e = read xs k x d e

is_in : (numbers : List ℕ) (m i : ℕ) → is_among numbers m i ≡ true → Contains numbers m
is_in numbers m zero e = absurd (cc)
is_in numbers m (suc i) e = by (slice_get numbers i) refl (is_in numbers m i) e where
  by : (o : Option ℕ) → slice_get numbers i ≡ o → (is_among numbers m i ≡ true → Contains numbers m) → (if option_map_or (is_that m) o false then true else is_among numbers m i) ≡ true → Contains numbers m
  by None there others e = others e
  by (Some n) there others e = at (n == m) refl e where
    at : (b : Bool) → (n == m) ≡ b → (if b then true else is_among numbers m i) ≡ true → Contains numbers m
    at true same e = at_place numbers i m (there ∙ ap (λ x. Some x) (same_at n m same))
    at false apart e = others e

among : (numbers : List ℕ) (m i k : ℕ) → k < i → slice_get numbers k ≡ Some m → is_among numbers m i ≡ true
among numbers m zero k low there = absurd (omega arith)
among numbers m (suc i) k low there = elim (below k i low) [
  | inl before ↦ kept (option_map_or (is_that m) (slice_get numbers i) false) (is_among numbers m i) (among numbers m i k before there)
  | inr same ↦ ap (λ b. if b then true else is_among numbers m i) (ap (λ o. option_map_or (is_that m) o false) (ap (λ j. slice_get numbers j) (sym same) ∙ there) ∙ eq-eqb m m refl)
] where
  below : (k i : ℕ) → k < suc i → (k < i) ⊎ (k ≡ i)
  below k i h = grind arith

  kept : (b c : Bool) → c ≡ true → (if b then true else c) ≡ true
  kept true c e = refl
  kept false c e = e

in_is : (numbers : List ℕ) (m : ℕ) → Contains numbers m → is_among numbers m (length numbers) ≡ true
in_is numbers m (k, low, e) = among numbers m (length numbers) k low (read numbers k m low e) where
  read : (xs : List ℕ) (k x : ℕ) → k < length xs → get_or xs k x ≡ x → slice_get xs k ≡ Some x
  read [] k x low e = absurd (omega arith)
  read (y ∷ xs) zero x low e = ap (λ z. Some z) e
  read (y ∷ xs) (suc k) x low e = read xs k x (omega arith) e

-- ---- files

pub flags_dead : (bytes : List ℕ) (tree : FileTree) (numbers : List ℕ) (flags : List Bool) → AreUnreachedIn bytes tree numbers → AreSet numbers (length numbers) (length tree.nodes) flags → AreDeadFlags bytes tree flags
flags_dead bytes tree numbers flags are set n low = (
  λ e. record { labels = are.labels; told = are.told; dead = (are.are.each n).0 (is_in numbers n (length numbers) (sym (set.each n low) ∙ e)) },
  λ d. set.each n low ∙ in_is numbers n ((are.are.each n).1 (dead_moved bytes tree d.labels are.labels (calls_panic bytes tree) n d.told are.told d.dead)),
)

pub tree_dead : (u : Unit) (f : ℕ) (tree : FileTree) (row : List Bool) → tree_at u f ≡ Some tree → AreDeadFlags (text_in u f) tree row → IsDeadRow u f row
tree_dead u f tree row there flags n node at =
    let low : n < length tree.nodes = slice_get_within tree.nodes n node (ap (λ (o : Option FileTree). slice_get (nodes_of o) n) (sym there) ∙ at) in
    let tells = flags n low in (
      λ e. (tree, there, tells.0 e),
      λ (other, is, dead). tells.1 (subst (λ (t : FileTree). IsDead (text_in u f) t n) (same_some (tree_at u f) other tree is there) dead),
    )

pub no_tree : (u : Unit) (f : ℕ) (row : List Bool) → tree_at u f ≡ None → IsDeadRow u f row
no_tree u f row none n node at = absurd (by (slice_get (nodes_of (tree_at u f)) n) (ap (λ (o : Option FileTree). slice_get (nodes_of o) n) none) at) where
  by : (o : Option Node) → o ≡ None → o ≡ Some node → ⊥
  by o p q = cc

-- ---- rows

pub no_rows : (u : Unit) (rows : List (Vec Bool)) → rows ≡ [] → AreDeadRows u 0 rows
no_rows u rows is = subst (λ (l : List (Vec Bool)). AreDeadRows u 0 l) (sym is) (record { size = refl; each = λ f row at. absurd (cc) })

pub row_more : (u : Unit) (n : ℕ) (rows new : List (Vec Bool)) (row : Vec Bool) → AreDeadRows u n rows → IsDeadRow u n row.items → new ≡ rows ++ row ∷ [] → AreDeadRows u (n + 1) new
row_more u n rows new row was is now = subst (λ (l : List (Vec Bool)). AreDeadRows u (n + 1) l) (sym now) (record {
  size = length_push rows row ∙ ap (λ m. m + 1) was.size;
  each = λ f r at. elim (push_cases rows row r f at) [
    | inl before ↦ was.each f r before
    | inr (last, same) ↦ subst (λ (x : Vec Bool). IsDeadRow u f x.items) same (subst (λ (m : ℕ). IsDeadRow u m row.items) (sym (last ∙ was.size)) is)
  ];
})

pub all_rows : (u : Unit) (n total : ℕ) (rows : List (Vec Bool)) → n ≡ total → AreDeadRows u n rows → AreDeadRows u total rows
all_rows u n total rows e are = subst (λ (m : ℕ). AreDeadRows u m rows) e are

there_at : (xs : List (Vec Bool)) (i : ℕ) → i < length xs → (x : Vec Bool) × (slice_get xs i ≡ Some x)
there_at [] i low = absurd (omega arith)
there_at (x ∷ xs) zero low = (x, refl)
there_at (x ∷ xs) (suc i) low = there_at xs i (omega arith)

file_of : (u : Unit) (f n : ℕ) (node : Node) → slice_get (nodes_at u f) n ≡ Some node → f < length u.trees
file_of u f n node there = by (slice_get u.trees f) refl there where
  by : (o : Option FileTree) → slice_get u.trees f ≡ o → slice_get (nodes_of o) n ≡ Some node → f < length u.trees
  by None e is = absurd (cc)
  by (Some tree) e is = slice_get_within u.trees f tree e

pub rows_dead : (u : Unit) (rows : List (Vec Bool)) → AreDeadRows u (length u.trees) rows → AreDeadIn u (flag rows)
rows_dead u rows are at node there =
    let low = file_of u at.file at.node node there in
    let (row, is) = there_at rows at.file (let size = are.size in omega (arith, low, size)) in
    subst (λ (b : Bool). (b ≡ true) ↔ IsDeadAt u at) (sym (ap (λ (o : Option (Vec Bool)). option_map_or (λ (r : Vec Bool). slice_index_or r.items at.node false) o false) is)) (are.each at.file row is at.node node there)

-- ---- what is reported

pub gains_held : {A : Type 0} (P : Type 0) (b : Bool) (r : A) (old new : List A) → (b ≡ true) ↔ P → b ≡ true → new ≡ old ++ r ∷ [] → Gains (λ (d : A). P × (d ≡ r)) old new
gains_held {A} P b r old new tells held is = gains_push (λ (d : A). P × (d ≡ r)) old new r is (tells.0 held, refl) (λ x (p, e). e)

pub gains_unheld : {A : Type 0} (P : Type 0) (b : Bool) (r : A) (list : List A) → (b ≡ true) ↔ P → b ≡ false → Gains (λ (d : A). P × (d ≡ r)) list list
gains_unheld {A} P b r list tells failed = gains_none (λ (d : A). P × (d ≡ r)) list list refl (λ x (p, e). differ b failed (tells.1 p)) where
  differ : (b : Bool) → b ≡ false → b ≡ true → ⊥
  differ b p q = cc
