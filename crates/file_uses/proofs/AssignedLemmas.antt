-- The names that `:=` assigns.
use Rattle.std.proofs.Common.{◌≡◌, ◌≢◌, ℕ, ◌+◌, ◌<◌, ◌≤◌, ◌⊎◌, ◌&&◌, List, Bool, true, false, not, cond, get_or, slice_get, set, map, Option, Some, length, refl, sym, ap, ◌∙◌, subst, arith, inl, inr, get_or-set_same, get_or-set_other, nat_eq, eqb→eq, eq-eqb, T}
use Rattle.std.proofs.Math.ListN.{length-set}
use Rattle.std.proofs.lemmas.Option.{slice_get_within}
use Rattle.scopes.specs.declared.scope.Named.{Named}
use Rattle.go_tree.specs.declared.tree.Node.{Node}
use Rattle.scopes.specs.declared.visible.Declaration.{Declaration}
use Rattle.file_uses.specs.Assigned.{keyed, SetAlso, Marks, IsMarked, AreMarked, AreFlagged, AreUses}
use Rattle.scopes.specs.Denotes.{IsRefused, IsFlags}
use Rattle.file_uses.specs.Locals.{IsRepeated, IsAssigned}
use Rattle.file_uses.specs.Numbers.{number, IsNumbering}
use Rattle.file_uses.specs.Uses.{IsSet, ArePlain}
use Rattle.file_uses.proofs.LocalLemmas.{by_number, get_map, get_unmap, to_refused, from_refused}
use Rattle.gv_base.proofs.Lists.{same_some}

-- a name, for where there is none
abbrev pub no_named : Named
no_named = record { node = 0; start = 0; «end» = 0; soft = false }

nat_cases : (i j : ℕ) → (i ≡ j) ⊎ (i ≢ j)
nat_cases i j = at (nat_eq i j) refl where
  at : (same : Bool) → nat_eq i j ≡ same → (i ≡ j) ⊎ (i ≢ j)
  at true e = inl (eqb→eq i j (subst (λ (x : Bool). T x) (sym e) tt))
  at false e = inr (λ is. let f : nat_eq i j ≡ true = eq-eqb i j is in cc)

pub set_one : (flags : List Bool) (at : ℕ) → at < length flags → SetAlso flags (set flags at true) at
set_one flags at low = record {
  size = length-set flags at true;
  kept = λ n h. elim (nat_cases n at) [
    | inl same ↦ here n same
    | inr other ↦ get_or-set_other flags at n true false other ∙ h
  ];
  there = λ below. get_or-set_same flags at true false low;
  only = λ n h. elim (nat_cases n at) [
    | inl same ↦ inr same
    | inr other ↦ inl (sym (get_or-set_other flags at n true false other) ∙ h)
  ];
} where
  here : (n : ℕ) → n ≡ at → IsSet (set flags at true) n
  here n same = ap (λ x. get_or (set flags at true) x false) same ∙ get_or-set_same flags at true false low

pub set_past : (flags : List Bool) (at : ℕ) → length flags ≤ at → SetAlso flags flags at
set_past flags at high = record { size = refl; kept = λ n h. h; there = λ below. absurd (omega arith); only = λ n h. inl h }

pub none_marked : (ds : List Named) (first once flags : List Bool) → AreMarked ds first once 0 flags flags
none_marked ds first once flags = record { size = refl; kept = λ n h. h; there = λ k d low. absurd (omega arith); only = λ n h. inl h }

before_or_at : (k i : ℕ) → k < i + 1 → (k < i) ⊎ (k ≡ i)
before_or_at k i h = grind arith

pub one_marked : (ds : List Named) (first once : List Bool) (i : ℕ) (a b c : List Bool) (d : Named) → slice_get ds i ≡ Some d → (d.soft && (not (get_or first i false) && get_or once i false)) ≡ true
    → AreMarked ds first once i a b → SetAlso b c d.node → AreMarked ds first once (i + 1) a c
one_marked ds first once i a b c d there is was now = record {
  size = now.size ∙ was.size;
  kept = λ n h. now.kept n (was.kept n h);
  there = λ k e low marked within. elim (before_or_at k i low) [
    | inl before ↦ now.kept e.node (was.there k e before marked within)
    | inr here ↦
        let same : d ≡ e = same_some (slice_get ds i) d e there (ap (λ x. slice_get ds x) (sym here) ∙ marked.0) in
        subst (λ (x : Named). IsSet c x.node) same (now.there (let s = was.size in let n : d.node ≡ e.node = ap (λ (x : Named). x.node) same in omega arith))
  ];
  only = λ n h. elim (now.only n h) [
    | inl old ↦ was.only n old
    | inr here ↦ inr (i, d, (there, is), sym here)
  ];
}

pub not_marked : (ds : List Named) (first once : List Bool) (i : ℕ) (a b : List Bool) (d : Named) → slice_get ds i ≡ Some d → (d.soft && (not (get_or first i false) && get_or once i false)) ≡ false
    → AreMarked ds first once i a b → AreMarked ds first once (i + 1) a b
not_marked ds first once i a b d there is was = record {
  size = was.size;
  kept = was.kept;
  only = was.only;
  there = λ k e low marked within. elim (before_or_at k i low) [
    | inl before ↦ was.there k e before marked within
    | inr here ↦ absurd (never k e here marked)
  ];
} where
  never : (k : ℕ) (e : Named) → k ≡ i → IsMarked ds first once k e → ⊥
  never k e here marked =
      let same : d ≡ e = same_some (slice_get ds i) d e there (ap (λ x. slice_get ds x) (sym here) ∙ marked.0) in
      let f : (e.soft && (not (get_or first k false) && get_or once k false)) ≡ false =
      ap (λ (x : Named). x.soft && (not (get_or first k false) && get_or once k false)) (sym same)
      ∙ (ap (λ x. d.soft && (not (get_or first x false) && get_or once x false)) here ∙ is) in
      let g : true ≡ false = sym marked.1 ∙ f in cc

pub marks_more : (ds : List Named) (first once : List Bool) (i : ℕ) (a b c : List Bool) (d : Named) (f g : Bool) → slice_get ds i ≡ Some d → get_or first i false ≡ f → get_or once i false ≡ g
    → Marks (d.soft && (not f && g)) b c d.node → AreMarked ds first once i a b → AreMarked ds first once (i + 1) a c
marks_more ds first once i a b c d f g there is_f is_g marks was = at (d.soft && (not f && g)) refl marks where
  as_said : (d.soft && (not (get_or first i false) && get_or once i false)) ≡ (d.soft && (not f && g))
  as_said = ap (λ x. d.soft && (not x && get_or once i false)) is_f ∙ ap (λ x. d.soft && (not f && x)) is_g

  at : (b2 : Bool) → (d.soft && (not f && g)) ≡ b2 → Marks b2 b c d.node → AreMarked ds first once (i + 1) a c
  at true e m = one_marked ds first once i a b c d there (as_said ∙ e) was m
  at false e m = subst (λ (x : List Bool). AreMarked ds first once (i + 1) a x) (sym m) (not_marked ds first once i a b d there (as_said ∙ e) was)

-- ---- what the flags say

three : (a b c : Bool) → (a && (not b && c)) ≡ true → (a ≡ true) × (b ≡ false) × (c ≡ true)
three true true c e = absurd (cc)
three true false true e = (refl, refl, refl)
three true false false e = absurd (cc)
three false b c e = absurd (cc)

from_three : (a b c : Bool) → a ≡ true → b ≡ false → c ≡ true → (a && (not b && c)) ≡ true
from_three a b c e f g = ap (λ x. x && (not b && c)) e ∙ (ap (λ x. not x && c) f ∙ g)

-- an earlier one of the same key is one of the same statement
to_repeated : (name : ℕ → Option (List ℕ)) (total count : ℕ) (numbers : List ℕ) → IsNumbering name total numbers count → (ds : List Named) (k : ℕ) (d : Named) → d.soft ≡ true
    → IsRefused (map (keyed (number numbers) count) ds) k (keyed (number numbers) count d) → IsRepeated name ds k d
to_repeated name total count numbers is ds k d soft (j, a, low, there, block, same) = of_it (get_unmap (keyed (number numbers) count) ds j a there) where
  of_soft : (e : Named) (b : Bool) → e.soft ≡ b → slice_get ds j ≡ Some e → keyed (number numbers) count e ≡ a → IsRepeated name ds k d
  of_soft e true e_soft there_e e_is =
      let start_is : e.start ≡ d.start = ap (λ (x : Declaration). x.end) e_is ∙ block in
      let key_e : number numbers e.node ≡ a.name = sym (ap (λ b. cond b (number numbers e.node) count) e_soft) ∙ ap (λ (x : Declaration). x.name) e_is in
      let key_d : cond d.soft (number numbers d.node) count ≡ number numbers d.node = ap (λ b. cond b (number numbers d.node) count) soft in
      (j, e, low, there_e, e_soft, start_is, (is.same e.node d.node).0 (key_e ∙ (same ∙ key_d)))
  of_soft e false e_soft there_e e_is = absurd (
      let key_e : count ≡ a.name = sym (ap (λ b. cond b (number numbers e.node) count) e_soft) ∙ ap (λ (x : Declaration). x.name) e_is in
      let key_d : a.name ≡ number numbers d.node = same ∙ ap (λ b. cond b (number numbers d.node) count) soft in
      let low_d = is.below d.node in omega arith)

  of_it : (e : Named) × (slice_get ds j ≡ Some e) × (keyed (number numbers) count e ≡ a) → IsRepeated name ds k d
  of_it (e, there_e, e_is) = of_soft e e.soft refl there_e e_is

from_repeated : (name : ℕ → Option (List ℕ)) (total count : ℕ) (numbers : List ℕ) → IsNumbering name total numbers count → (ds : List Named) (k : ℕ) (d : Named) → d.soft ≡ true
    → IsRepeated name ds k d → IsRefused (map (keyed (number numbers) count) ds) k (keyed (number numbers) count d)
from_repeated name total count numbers is ds k d soft (j, e, low, there, e_soft, start, same) = (
  j,
  keyed (number numbers) count e,
  low,
  get_map (keyed (number numbers) count) ds j e there,
  start,
  ap (λ b. cond b (number numbers e.node) count) e_soft ∙ ((is.same e.node d.node).1 same ∙ sym (ap (λ b. cond b (number numbers d.node) count) soft)),
)

marked_assigned : (name : ℕ → Option (List ℕ)) (total count : ℕ) (numbers : List ℕ) → IsNumbering name total numbers count → (ds : List Named) (first once : List Bool)
    → IsFlags (by_number numbers total ds) first → IsFlags (map (keyed (number numbers) count) ds) once → (k : ℕ) (d : Named) → IsMarked ds first once k d → IsAssigned name ds d.node
marked_assigned name total count numbers is ds first once firsts onces k d marked =
    let t = three d.soft (get_or first k false) (get_or once k false) marked.1 in
    let there = marked.0 in
    let known = (firsts.1 k _ (get_map _ ds k d there)).1 t.1 in
    let not_again = (onces.1 k _ (get_map _ ds k d there)).0.0 t.2 in
    (k, d, there, refl, t.0, from_refused name total count numbers is ds k d known, λ again. not_again (from_repeated name total count numbers is ds k d t.0 again))

assigned_marked : (name : ℕ → Option (List ℕ)) (total count : ℕ) (numbers : List ℕ) → IsNumbering name total numbers count → (ds : List Named) (first once : List Bool)
    → IsFlags (by_number numbers total ds) first → IsFlags (map (keyed (number numbers) count) ds) once → (n : ℕ) → IsAssigned name ds n
    → (k : ℕ) × (d : Named) × (d.node ≡ n) × IsMarked ds first once k d
assigned_marked name total count numbers is ds first once firsts onces n (k, d, there, node, soft, known, not_again) =
    let f = firsts.1 k _ (get_map _ ds k d there) in
    let g = onces.1 k _ (get_map _ ds k d there) in (
      k,
      d,
      node,
      (
        there,
        from_three d.soft (get_or first k false) (get_or once k false) soft
            (not_first (get_or first k false) refl (λ e. f.0.0 e (to_refused name total count numbers is ds k d known)))
            (g.0.1 (λ again. not_again (to_repeated name total count numbers is ds k d soft again))),
      ),
    ) where
      not_first : (b : Bool) → get_or first k false ≡ b → (get_or first k false ≡ true → ⊥) → get_or first k false ≡ false
      not_first true e h = absurd (h e)
      not_first false e h = e

-- the flags of the uses
pub all_uses : (name : ℕ → Option (List ℕ)) (total count : ℕ) (numbers : List ℕ) (nodes : List Node) → IsNumbering name total numbers count → (ds : List Named) (first once plain flags : List Bool)
    → IsFlags (by_number numbers total ds) first → IsFlags (map (keyed (number numbers) count) ds) once → ArePlain nodes plain
    → AreMarked ds first once (length ds) plain flags → AreUses name nodes ds flags
all_uses name total count numbers nodes is ds first once plain flags firsts onces are marked = record {
  size = marked.size ∙ are.size;
  uses = λ n h. elim (marked.only n h) [
    | inl old ↦ inl (are.plain n old)
    | inr new ↦ inr (subst (λ (x : ℕ). IsAssigned name ds x) new.3 (marked_assigned name total count numbers is ds first once firsts onces new.0 new.1 new.2))
  ];
  all = λ n low it. elim it [
    | inl none ↦ marked.kept n (are.all n low none)
    | inr assigned ↦ of_marked n low (assigned_marked name total count numbers is ds first once firsts onces n assigned)
  ];
} where
  of_marked : (n : ℕ) → n < length nodes → (k : ℕ) × (d : Named) × (d.node ≡ n) × IsMarked ds first once k d → IsSet flags n
  of_marked n low (k, d, node, mark) =
      subst (λ (x : ℕ). IsSet flags x) node (marked.there k d (slice_get_within ds k d mark.0) mark (let s = are.size in omega arith))

-- ---- the flags of a file, from what the calls say of slices

pub flagged : (nodes : List Node) (names keyed_names marked_names : List Named) (numbers keyed_numbers : List ℕ) (count : ℕ) (first marked_first : List Bool) (keys of_keys : List Declaration)
    (once marked_once plain flags : List Bool) → keyed_names ≡ names → keyed_numbers ≡ numbers → keys ≡ map (keyed (number keyed_numbers) count) keyed_names → of_keys ≡ keys → IsFlags of_keys once
    → ArePlain nodes plain → marked_names ≡ names → marked_first ≡ first → marked_once ≡ once → AreMarked marked_names marked_first marked_once (length marked_names) plain flags
    → AreFlagged nodes names numbers count first flags
flagged nodes names keyed_names marked_names numbers keyed_numbers count first marked_first keys of_keys once marked_once plain flags same_names same_numbers keyed_is same_keys flags_are plains same_marked same_first same_once marked =
    record {
      once = once;
      plain = plain;
      onces = subst (λ (x : List Declaration). IsFlags x once)
          (same_keys ∙ (keyed_is ∙ (ap (λ l. map (keyed (number l) count) keyed_names) same_numbers ∙ ap (λ l. map (keyed (number numbers) count) l) same_names))) flags_are;
      plains = plains;
      marked = subst (λ (x : List Named). AreMarked x first once (length x) plain flags) same_marked
          (subst (λ (x : List Bool). AreMarked marked_names x once (length marked_names) plain flags) same_first
          (subst (λ (x : List Bool). AreMarked marked_names marked_first x (length marked_names) plain flags) same_once marked));
    }
