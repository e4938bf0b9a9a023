-- Where no declaration of a name is known: by the ends of regions, and as the definition has it.
use Rattle.std.proofs.Common.{◌≡◌, ◌==◌, ◌↔◌, ℕ, zero, suc, ◌+◌, ◌<◌, ◌≤◌, ◌⊎◌, ◌&&◌, ◌||◌, not, List, [], ◌∷◌, ◌++◌, Bool, true, false, nat_lt, nat_le, if◌then◌else◌, get_or, is_some, Option, Some, None, length, slice_get, refl, sym, ap, ◌∙◌, subst, inl, inr, arith, eqb→eq, eq-eqb, T}
use Rattle.std.specs.Option.{option_map_or}
use Rattle.std.specs.Bool.{Decides}
use Rattle.std.specs.Str.{bytes_eq}
use Rattle.std.specs.Global.{Vec}
use Rattle.std.proofs.lemmas.Bool.{lt-ltb}
use Rattle.std.proofs.lemmas.Bool.Decides.{nat_tests}
use Rattle.std.proofs.lemmas.List.{length_push}
use Rattle.std.proofs.lemmas.Option.{slice_get_within}
use Rattle.std.proofs.lemmas.Slice.Eq.{bytes_eq-Decides}
use Rattle.go_tree.specs.declared.bindings.Object.TheVariants.{Import, Local, Package}
use Rattle.go_tree.specs.declared.tree.FileTree.{FileTree}
use Rattle.go_tree.specs.declared.tree.NodeRef.{NodeRef}
use Rattle.scopes.specs.declared.scope.Named.{Named}
use Rattle.gv_base.proofs.Lists.{same_some, push_cases}
use Rattle.file_uses.specs.Locals.{IsLocal, IsKnown, HoldsNode}
use Rattle.file_uses.specs.Numbers.{name_in}
use Rattle.file_uses.proofs.FileLemmas.{file_laid}
use Rattle.bind.specs.Answers.{IsRead, AreRead}
use Rattle.bind.specs.Collected.{imports_of}
use Rattle.bind.specs.Denoting.{IsUndeclared}
use Rattle.bind.specs.Package.{narrow, tops_before}
use Rattle.bind.specs.Regions.{Region, Everywhere, OfFile, Nodes, Holds}
use Rattle.bind.specs.Sources.{Source, Sources, name_of, names_in}
use Rattle.bind.specs.Tables.{path_of, IsEarliest}
use Rattle.bind.specs.Undeclared.{is_named, counts, later, end_in, end_at, reach, is_free, end_of, AreZeros, AreEnds, NotesEnd, NotesIf, AreFlagged, last_end, AreUnknown, IsFileRow, AreFileRows, AreUndeclared}
use Rattle.bind.specs.declared.file.File.{File}
use Rattle.bind.proofs.AnswerLemmas.{IsTopOf, IsImportOf, narrow_low, names_are}
use Rattle.bind.proofs.BindLemmas.{top_of, import_of}
use Rattle.bind.proofs.RegionLemmas.{NoLocal, undeclared}

-- ---- the later of two ends

lt_true : (a b : ℕ) → nat_lt a b ≡ true → a < b
lt_true a b e = grind (arith, nat_tests)

lt_false : (a b : ℕ) → nat_lt a b ≡ false → b ≤ a
lt_false a b e = grind (arith, nat_tests)

le_true : (a b : ℕ) → nat_le a b ≡ true → a ≤ b
le_true a b e = grind (arith, nat_tests)

le_false : (a b : ℕ) → nat_le a b ≡ false → b < a
le_false a b e = grind (arith, nat_tests)

later_is : (a b : ℕ) → ((later a b ≡ a) × (b ≤ a)) ⊎ ((later a b ≡ b) × (a < b))
later_is a b = at (nat_lt a b) refl where
  at : (t : Bool) → nat_lt a b ≡ t → (((if t then b else a) ≡ a) × (b ≤ a)) ⊎ (((if t then b else a) ≡ b) × (a < b))
  at true e = inr (refl, lt_true a b e)
  at false e = inl (refl, lt_false a b e)

later_left : (a b : ℕ) → a ≤ later a b
later_left a b = elim (later_is a b) [ inl e ↦ (let l = e.0 in omega arith) | inr e ↦ (let l = e.0 in let h = e.1 in omega arith) ]

later_right : (a b : ℕ) → b ≤ later a b
later_right a b = elim (later_is a b) [ inl e ↦ (let l = e.0 in let h = e.1 in omega arith) | inr e ↦ (let l = e.0 in omega arith) ]

below_later : (n a b : ℕ) → n < later a b → (n < a) ⊎ (n < b)
below_later n a b h = elim (later_is a b) [ inl e ↦ inl (let l = e.0 in omega arith) | inr e ↦ inr (let l = e.0 in omega arith) ]

-- ---- the last end at a node

-- a declaration that counts begins at the node and holds another
record Ends (counts : Named → Bool) (ds : List Named) (s n : ℕ) : Type 0 where
  pub k : ℕ
  pub d : Named
  pub there : slice_get ds k ≡ Some d
  pub counted : counts d ≡ true
  pub start : d.start ≡ s
  pub holds : n < d.end

and_cases : (a b : Bool) → (a && b) ≡ true → (a ≡ true) × (b ≡ true)
and_cases true true e = (refl, refl)
and_cases true false e = absurd (cc)
and_cases false b e = absurd (cc)

same_at : (a b : ℕ) → (a == b) ≡ true → a ≡ b
same_at a b e = eqb→eq a b (subst (λ (x : Bool). T x) (sym e) tt)

below_in : (counts : Named → Bool) (ds : List Named) (s n so_far k : ℕ) (d : Named) → slice_get ds k ≡ Some d → (n < so_far → Ends counts ds s n) → n < end_in counts s so_far d → Ends counts ds s n
below_in counts ds s n so_far k d there others h = at (counts d && (d.start == s)) refl h where
  at : (t : Bool) → (counts d && (d.start == s)) ≡ t → n < (if t then later so_far d.end else so_far) → Ends counts ds s n
  at false e low = others low
  at true e low = elim (below_later n so_far d.end low) [
    | inl before ↦ others before
    | inr here ↦ record { k = k; d = d; there = there; counted = (and_cases (counts d) (d.start == s) e).0; start = same_at d.start s (and_cases (counts d) (d.start == s) e).1; holds = here }
  ]

below_end : (counts : Named → Bool) (ds : List Named) (s n i : ℕ) → n < end_at counts ds s i → Ends counts ds s n
below_end counts ds s n zero h = absurd (omega arith)
below_end counts ds s n (suc i) h = at (slice_get ds i) refl (below_end counts ds s n i) h where
  at : (o : Option Named) → slice_get ds i ≡ o → (n < end_at counts ds s i → Ends counts ds s n) → n < option_map_or (end_in counts s (end_at counts ds s i)) o (end_at counts ds s i) → Ends counts ds s n
  at None e others low = others low
  at (Some d) e others low = below_in counts ds s n (end_at counts ds s i) i d e others low

in_grows : (counts : Named → Bool) (s so_far : ℕ) (d : Named) → so_far ≤ end_in counts s so_far d
in_grows counts s so_far d = at (counts d && (d.start == s)) where
  at : (t : Bool) → so_far ≤ (if t then later so_far d.end else so_far)
  at true = later_left so_far d.end
  at false = omega arith

in_here : (counts : Named → Bool) (s so_far : ℕ) (d : Named) → counts d ≡ true → d.start ≡ s → d.end ≤ end_in counts s so_far d
in_here counts s so_far d counted start = at (counts d) (d.start == s) counted (eq-eqb d.start s start) where
  at : (t v : Bool) → t ≡ true → v ≡ true → d.end ≤ (if t && v then later so_far d.end else so_far)
  at true true e f = later_right so_far d.end
  at true false e f = absurd (cc)
  at false v e f = absurd (cc)

step_grows : (counts : Named → Bool) (s so_far : ℕ) (o : Option Named) → so_far ≤ option_map_or (end_in counts s so_far) o so_far
step_grows counts s so_far None = omega arith
step_grows counts s so_far (Some d) = in_grows counts s so_far d

to_end : (counts : Named → Bool) (ds : List Named) (i k : ℕ) (d : Named) → k < i → slice_get ds k ≡ Some d → counts d ≡ true → d.end ≤ end_at counts ds d.start i
to_end counts ds zero k d low there counted = absurd (omega arith)
to_end counts ds (suc i) k d low there counted = elim (below i k low) [
  | inl before ↦ (let a = to_end counts ds i k d before there counted in let b = step_grows counts d.start (end_at counts ds d.start i) (slice_get ds i) in omega arith)
  | inr same ↦ subst (λ (o : Option Named). d.end ≤ option_map_or (end_in counts d.start (end_at counts ds d.start i)) o (end_at counts ds d.start i))
      (sym (ap (λ x. slice_get ds x) (sym same) ∙ there)) (in_here counts d.start (end_at counts ds d.start i) d counted refl)
] where
  below : (k i : ℕ) → i < suc k → (i < k) ⊎ (i ≡ k)
  below k i h = grind arith

-- ---- ends, one name more

pub no_ends_yet : (counts : Named → Bool) (ds : List Named) (total : ℕ) (ends : List ℕ) → AreZeros total ends → AreEnds counts ds 0 total ends
no_ends_yet counts ds total ends are = record { size = are.size; each = λ s low. are.each s }

-- one that counts, and one that doesn't
pub notes_counted : (counts : Named → Bool) (d : Named) (old new : List ℕ) → counts d ≡ true → NotesEnd (λ x. true) d old new → NotesEnd counts d old new
notes_counted counts d old new e was = record {
  size = was.size;
  each = λ s low. was.each s low ∙ sym (ap (λ b. if b && (d.start == s) then later (end_of old s) d.end else end_of old s) e);
}

pub notes_uncounted : (counts : Named → Bool) (d : Named) (old : List ℕ) → counts d ≡ false → NotesEnd counts d old old
notes_uncounted counts d old e = record { size = refl; each = λ s low. sym (ap (λ b. if b && (d.start == s) then later (end_of old s) d.end else end_of old s) e) }

pub ends_more : (counts : Named → Bool) (ds : List Named) (i total : ℕ) (old new : List ℕ) → AreEnds counts ds i total old → NotesIf counts (slice_get ds i) old new → AreEnds counts ds (i + 1) total new
ends_more counts ds i total old new was notes = subst (λ (k : ℕ). AreEnds counts ds k total new) (next i) (by (slice_get ds i) refl notes) where
  next : (k : ℕ) → suc k ≡ k + 1
  next k = omega arith

  by : (o : Option Named) → slice_get ds i ≡ o → NotesIf counts o old new → AreEnds counts ds (suc i) total new
  by None e same = subst (λ (l : List ℕ). AreEnds counts ds (suc i) total l) (sym same) (record {
    size = was.size;
    each = λ s low. was.each s low ∙ sym (ap (λ o. option_map_or (end_in counts s (end_at counts ds s i)) o (end_at counts ds s i)) e);
  })
  by (Some d) e more = record {
    size = more.size ∙ was.size;
    each = λ s low. more.each s (let z = was.size in omega (arith, low, z))
        ∙ (ap (λ n. end_in counts s n d) (was.each s low) ∙ sym (ap (λ o. option_map_or (end_in counts s (end_at counts ds s i)) o (end_at counts ds s i)) e));
  }

pub all_ends : (counts : Named → Bool) (ds : List Named) (i total : ℕ) (ends : List ℕ) → i ≡ length ds → AreEnds counts ds i total ends → AreEnds counts ds (length ds) total ends
all_ends counts ds i total ends e are = subst (λ (k : ℕ). AreEnds counts ds k total ends) e are

-- ---- rows of flags

pub all_flags : (flag : ℕ → Bool) (n total : ℕ) (row : List Bool) → n ≡ total → AreFlagged flag n row → AreFlagged flag total row
all_flags flag n total row e are = subst (λ (k : ℕ). AreFlagged flag k row) e are

reach_same : (a b : ℕ → ℕ) (n : ℕ) → ((s : ℕ) → s < n → a s ≡ b s) → reach a n ≡ reach b n
reach_same a b zero same = refl
reach_same a b (suc n) same = ap (λ x. later x (a n)) (reach_same a b n (λ s low. same s (omega arith))) ∙ ap (λ x. later (reach b n) x) (same n (omega arith))

pub unknown_outside : (f : File) (name : List ℕ) (outside : Bool) (row : List Bool) → outside ≡ true → AreFlagged (λ n. false) (length f.tree.now.nodes) row → AreUnknown f name outside row
unknown_outside f name outside row e are = subst (λ (b : Bool). AreUnknown f name b row) (sym e) (record { size = are.size; each = λ n low. are.each n low })

pub unknown_inside : (f : File) (name : List ℕ) (outside : Bool) (ends : List ℕ) (row : List Bool) → outside ≡ false
    → AreEnds (counts f name) f.locals.names.items (length f.locals.names.items) (length f.tree.now.nodes) ends → AreFlagged (is_free (end_of ends)) (length ends) row → AreUnknown f name outside row
unknown_inside f name outside ends row e are flagged = subst (λ (b : Bool). AreUnknown f name b row) (sym e) (record {
  size = flagged.size ∙ are.size;
  each = λ n low. flagged.each n (let z = are.size in omega (arith, low, z)) ∙ ap (λ r. nat_le r n) (reach_same (end_of ends) (last_end f name) (suc n) (λ s below. are.each s (omega arith)));
})

-- ---- rows of files

pub file_more : (files : List File) (named : List (List ℕ × List ℕ)) (top : Bool) (name : List ℕ) (n number : ℕ) (f : File) (rows new : List (Vec Bool)) (row : Vec Bool) → slice_get files n ≡ Some f → number ≡ narrow n
    → AreFileRows files named top name n rows → IsFileRow files named number f top name row.items → new ≡ rows ++ row ∷ [] → AreFileRows files named top name (n + 1) new
file_more files named top name n number f rows new row there is was own now = subst (λ (l : List (Vec Bool)). AreFileRows files named top name (n + 1) l) (sym now) (record {
  size = length_push rows row ∙ ap (λ k. k + 1) was.size;
  each = λ i g r at_file at_row. elim (push_cases rows row r i at_row) [
    | inl before ↦ was.each i g r at_file before
    | inr (last, same) ↦ (
        let here : i ≡ n = last ∙ was.size in
        let file : f ≡ g = same_some (slice_get files n) f g there (ap (λ k. slice_get files k) (sym here) ∙ at_file) in
        subst (λ (x : Vec Bool). IsFileRow files named (narrow i) g top name x.items) same
        (subst (λ (x : File). IsFileRow files named (narrow i) x top name row.items) file
        (subst (λ (k : ℕ). IsFileRow files named (narrow k) f top name row.items) (sym here) (subst (λ (k : ℕ). IsFileRow files named k f top name row.items) is own)))
        )
  ];
})

pub all_rows : (files : List File) (named : List (List ℕ × List ℕ)) (top : Bool) (name : List ℕ) (n total : ℕ) (rows : List (Vec Bool)) → n ≡ total → AreFileRows files named top name n rows → AreFileRows files named top name total rows
all_rows files named top name n total rows e are = subst (λ (k : ℕ). AreFileRows files named top name k rows) e are

-- ---- the last end before a node

record Reaches (ends : ℕ → ℕ) (m n : ℕ) : Type 0 where
  pub s : ℕ
  pub low : s < m
  pub holds : n < ends s

below_reach : (ends : ℕ → ℕ) (m n : ℕ) → n < reach ends m → Reaches ends m n
below_reach ends zero n h = absurd (omega arith)
below_reach ends (suc m) n h = elim (below_later n (reach ends m) (ends m) h) [
  | inl before ↦ (let r = below_reach ends m n before in record { s = r.s; low = (let l = r.low in omega arith); holds = r.holds })
  | inr here ↦ record { s = m; low = omega arith; holds = here }
]

to_reach : (ends : ℕ → ℕ) (m s : ℕ) → s < m → ends s ≤ reach ends m
to_reach ends zero s low = absurd (omega arith)
to_reach ends (suc m) s low = elim (below m s low) [
  | inl before ↦ (let a = to_reach ends m s before in let b = later_left (reach ends m) (ends m) in omega arith)
  | inr same ↦ (let b = later_right (reach ends m) (ends m) in let e : ends s ≡ ends m = ap ends same in omega arith)
] where
  below : (k i : ℕ) → i < suc k → (i < k) ⊎ (i ≡ k)
  below k i h = grind arith

-- ---- the names of a file

name_is : (f : File) (s : Source) (q : List ℕ) (n : ℕ) → IsRead f s → is_named f q n ≡ true → name_of s n ≡ Some q
name_is f s q n is h = sym (names_are f s is n) ∙ at (name_in f.bytes.now f.tree.now n) h where
  same : (x : List ℕ) (b : Bool) → Decides b (x ≡ q) → b ≡ true → Some x ≡ Some q
  same x true d e = ap (λ y. Some y) (d.0 refl)
  same x false d e = absurd (cc)

  at : (o : Option (List ℕ)) → option_map_or (λ (x : List ℕ). bytes_eq x q) o false ≡ true → o ≡ Some q
  at None e = absurd (cc)
  at (Some x) e = same x (bytes_eq x q) (bytes_eq-Decides x q) e

is_name : (f : File) (s : Source) (q : List ℕ) (n : ℕ) → IsRead f s → name_of s n ≡ Some q → is_named f q n ≡ true
is_name f s q n is h = ap (λ o. option_map_or (λ (x : List ℕ). bytes_eq x q) o false) (names_are f s is n ∙ h) ∙ same (bytes_eq q q) (bytes_eq-Decides q q) where
  same : (b : Bool) → Decides b (q ≡ q) → b ≡ true
  same true d = refl
  same false d = d.1 refl

count_is : (f : File) (s : Source) → IsRead f s → length f.tree.now.nodes ≡ length s.tree.nodes
count_is f s is = ap (λ (t : FileTree). length t.nodes) is.tree

counted_is : (f : File) (s : Source) (q : List ℕ) (d : Named) → IsRead f s → counts f q d ≡ true → (d.end < length s.tree.nodes) × (name_of s d.node ≡ Some q)
counted_is f s q d is h =
    let both = and_cases (nat_lt d.end (length f.tree.now.nodes)) (is_named f q d.node) h in
    ((let a = lt_true d.end (length f.tree.now.nodes) both.0 in let c = count_is f s is in omega arith), name_is f s q d.node is both.1)

is_counted : (f : File) (s : Source) (q : List ℕ) (d : Named) → IsRead f s → d.end < length s.tree.nodes → name_of s d.node ≡ Some q → counts f q d ≡ true
is_counted f s q d is low named =
    let e : nat_lt d.end (length f.tree.now.nodes) ≡ true = lt-ltb d.end (length f.tree.now.nodes) (let c = count_is f s is in omega arith) in
    ap (λ b. b && is_named f q d.node) e ∙ is_name f s q d.node is named

-- ---- free nodes

holds_is : (r a : Region) (at : NodeRef) → r ≡ a → Holds r at → Holds a at
holds_is r a at e h = subst (λ (x : Region). Holds x at) e h

-- a declaration of the name that holds the node is not free of all: the first of its block has a region that holds it, too
held : (p : Sources) (s : Source) (at : NodeRef) (q : List ℕ) → slice_get p.files at.file ≡ Some s → NoLocal p at q → (fuel k : ℕ) (d : Named) → k < fuel → slice_get (names_in s) k ≡ Some d
    → d.end < length s.tree.nodes → name_of s d.node ≡ Some q → HoldsNode d at.node → ⊥
held p s at q there none zero k d low is_d end named holds = omega arith
held p s at q there none (suc fuel) k d low is_d end named holds =
    none (record { file = at.file; node = d.node }) (Nodes at.file d.start d.end)
    (record { src = s; k = k; d = d; file = there; local = (is_d, earlier (λ j e less is_e end named holds. held p s at q there none fuel j e less is_e end named holds), end); node = refl; named = named; region = refl })
    (refl, holds.0, holds.1) where
      earlier : ((j : ℕ) (e : Named) → j < fuel → slice_get (names_in s) j ≡ Some e → e.end < length s.tree.nodes → name_of s e.node ≡ Some q → HoldsNode e at.node → ⊥) → IsKnown (name_of s) (names_in s) k d → ⊥
      earlier none_before (j, e, before, is_e, block, same) =
          let lies = file_laid s.forest j k e d before is_e is_d in
          none_before j e (omega arith) is_e (let b = block in omega arith) (same ∙ named) ((let a = lies.0 in let h = holds.0 in omega arith), (let h = holds.1 in let b = block in omega arith))

free_is : (p : Sources) (f : File) (s : Source) (at : NodeRef) (q : List ℕ) → slice_get p.files at.file ≡ Some s → IsRead f s → is_free (last_end f q) at.node ≡ true → NoLocal p at q
free_is p f s at q there is free m r b holds =
    let it : (m.file ≡ at.file) × (b.d.start ≤ at.node) × (at.node < b.d.end) = holds_is r (Nodes m.file b.d.start b.d.end) at b.region holds in
    let src : b.src ≡ s = same_some (slice_get p.files m.file) b.src s b.file (ap (λ x. slice_get p.files x) it.0 ∙ there) in
    let local : IsLocal (name_of s) (length s.tree.nodes) (names_in s) b.k b.d = subst (λ (x : Source). IsLocal (name_of x) (length x.tree.nodes) (names_in x) b.k b.d) src b.local in
    let named : name_of s b.d.node ≡ Some q = ap (λ (x : Source). name_of x b.d.node) (sym src) ∙ b.named in
    let listed : slice_get f.locals.names.items b.k ≡ Some b.d = ap (λ x. slice_get x b.k) is.locals.names ∙ local.0 in
    let reached = to_end (counts f q) f.locals.names.items (length f.locals.names.items) b.k b.d (slice_get_within f.locals.names.items b.k b.d listed) listed (is_counted f s q b.d is local.2 named) in
    let low : b.d.start < suc at.node = (let i = it.1 in omega arith) in
    let far = to_reach (last_end f q) (suc at.node) b.d.start low in
    let end = le_true (reach (last_end f q) (suc at.node)) at.node free in
    let i = it.2 in
    omega arith

is_free_there : (p : Sources) (f : File) (s : Source) (at : NodeRef) (q : List ℕ) → slice_get p.files at.file ≡ Some s → IsRead f s → NoLocal p at q → is_free (last_end f q) at.node ≡ true
is_free_there p f s at q there is none = by (is_free (last_end f q) at.node) refl where
  never : is_free (last_end f q) at.node ≡ false → ⊥
  never e =
      let r = below_reach (last_end f q) (suc at.node) at.node (le_false (reach (last_end f q) (suc at.node)) at.node e) in
      let d = below_end (counts f q) f.locals.names.items r.s at.node (length f.locals.names.items) r.holds in
      let c = counted_is f s q d.d is d.counted in
      held p s at q there none (suc d.k) d.k d.d (omega arith) (ap (λ x. slice_get x d.k) (sym is.locals.names) ∙ d.there) c.0 c.1
      ((let l = r.low in let e = d.start in omega arith), d.holds)

  by : (b : Bool) → is_free (last_end f q) at.node ≡ b → b ≡ true
  by true e = refl
  by false e = absurd (never e)

-- ---- the flag of a node

no_local_of : (p : Sources) (at : NodeRef) (q : List ℕ) → IsUndeclared p at q → NoLocal p at q
no_local_of p at q un m r b holds = un (Local m) r b holds

told : (p : Sources) (at : NodeRef) (q : List ℕ) (top spec : Option NodeRef) (free : Bool) → IsTopOf p q top → IsImportOf p at.file q spec → (free ≡ true) ↔ NoLocal p at q
    → ((not (is_some top || is_some spec) && free) ≡ true) ↔ IsUndeclared p at q
told p at q None None free is_top is_spec both = ((λ e. undeclared p at q (both.0 e) is_top is_spec), (λ un. both.1 (no_local_of p at q un)))
told p at q None (Some m) free is_top is_spec both = (
  (λ e. absurd (cc)),
  (λ un. absurd (un (Import m) (OfFile m.file) (record { named = is_spec.0; own = is_top; first = is_spec.2; region = refl }) is_spec.1)),
)
told p at q (Some m) spec free is_top is_spec both = (
  (λ e. absurd (cc)),
  (λ un. absurd (un (Package m) Everywhere (record { named = is_top.0; first = is_top.1; region = refl }) tt)),
)

there_at : (xs : List (Vec Bool)) (i : ℕ) → i < length xs → (x : Vec Bool) × (slice_get xs i ≡ Some x)
there_at [] i low = absurd (omega arith)
there_at (x ∷ xs) zero low = (x, refl)
there_at (x ∷ xs) (suc i) low = there_at xs i (omega arith)

pub all_undeclared : (p : Sources) (fs : List File) (named : List (List ℕ × List ℕ)) (top_names : List ℕ → Option NodeRef) (q : List ℕ) (top : Bool) (rows : List (Vec Bool)) → p.named ≡ named → AreRead fs p.files
    → length fs < 4294967296 → IsEarliest (path_of fs) (tops_before fs (length fs)) top_names → top ≡ is_some (top_names q) → AreFileRows fs named top q (length fs) rows → AreUndeclared p q rows
all_undeclared p fs named top_names q top rows same are few earliest is_top file_rows at s there low =
    let (f, there_f, is) = are.each at.file s there in
    let within : at.file < length fs = slice_get_within fs at.file f there_f in
    let (row, there_row) = there_at rows at.file (let n = file_rows.size in omega arith) in
    let r = file_rows.each at.file f row there_f there_row in
    let number : narrow at.file ≡ at.file = narrow_low at.file (omega arith) in
    let imports : IsEarliest (path_of fs) (imports_of p.named at.file f) r.imports =
    subst (λ (x : ℕ). IsEarliest (path_of fs) (imports_of p.named x f) r.imports) number (subst (λ (l : List (List ℕ × List ℕ)). IsEarliest (path_of fs) (imports_of l (narrow at.file) f) r.imports) (sym same) r.earliest) in
    let flag : get_or row.items at.node false ≡ (not (top || is_some (r.imports q)) && is_free (last_end f q) at.node) = r.flags.each at.node (let c = count_is f s is in omega arith) in
    let flag_is : get_or row.items at.node false ≡ (not (is_some (top_names q) || is_some (r.imports q)) && is_free (last_end f q) at.node) =
    flag ∙ ap (λ b. not (b || is_some (r.imports q)) && is_free (last_end f q) at.node) is_top in
    let both = told p at q (top_names q) (r.imports q) (is_free (last_end f q) at.node) (top_of p fs top_names are few earliest q) (import_of p fs s f at.file r.imports there is imports q)
    (free_is p f s at q there is, is_free_there p f s at q there is) in
    (row, there_row, ((λ e. both.0 (sym flag_is ∙ e)), (λ un. flag_is ∙ both.1 un)))
