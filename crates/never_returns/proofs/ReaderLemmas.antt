-- Rows of readers, one more at a time.
use Rattle.std.proofs.Common.{◌≡◌, ◌⊎◌, inl, inr, ◌<◌, ◌≤◌, ◌+◌, ◌↔◌, ℕ, zero, suc, Bool, true, false, cond, IsTrue, List, [], ◌∷◌, ◌++◌, length, get_or, set, Option, Some, None, refl, sym, ap, ◌∙◌, subst, arith}
use Rattle.std.specs.Prelude.{slice_get, slice_index_or, nat_lt}
use Rattle.std.proofs.Math.Path.{fun_ext}
use Rattle.std.proofs.lemmas.Bool.{ltb-false}
use Rattle.least.specs.Work.{set_of}
use Rattle.std.specs.List.{Contains}
use Rattle.std.proofs.lemmas.List.{get_or-set_other, get_or-set_same, length-set, length-append}
use Rattle.std.proofs.lemmas.List.Elements.{Contains-push, Contains-push_cases, Contains-append_left}
use Rattle.std.proofs.lemmas.Bool.{cases_eq}
use Rattle.std.proofs.lemmas.Option.{slice_get_within}
use Rattle.flow.specs.Flow.{stops_of}
use Rattle.flow.specs.Search.{MentionsBy, NeverBy}
use Rattle.never_returns.specs.declared.files.FileFlow.{FileFlow}
use Rattle.never_returns.specs.declared.files.Block.{Block}
use Rattle.never_returns.specs.declared.files.Function.{Function}
use Rattle.never_returns.specs.Bodies.{AreRows, AreAdded, AreReaders, AreMentioned, MentionsAt, BlockBy, BodyBy, AdmitsBy, known, row_of}
use Rattle.never_returns.proofs.NumberLemmas.{either, same_some}

pub row_pushed : (rows : List (List ℕ)) (j : ℕ) → row_of (rows ++ [] ∷ []) j ≡ row_of rows j
row_pushed [] zero = refl
row_pushed [] (suc j) = refl
row_pushed (row ∷ rows) zero = refl
row_pushed (row ∷ rows) (suc j) = row_pushed rows j

pub none_added : (i : ℕ) (mentioned : List ℕ) (rows : List (List ℕ)) → AreAdded i mentioned 0 rows rows
none_added i mentioned rows = record {
  size = refl;
  kept = λ j k c. c;
  added = λ m low under. absurd (omega (arith, low));
  only = λ j k c. inl c;
}

-- where there is no such row
pub not_added : (at i : ℕ) (rows new : List (List ℕ)) → length rows ≤ at → new ≡ rows → AreAdded i (at ∷ []) 1 rows new
not_added at i rows new high same = rw same (record {
  size = refl;
  kept = λ j k c. c;
  added = λ m low under. absurd (beyond m low under);
  only = λ j k c. inl c;
})
  where
    beyond : (m : ℕ) → m < 1 → slice_index_or (at ∷ []) m 0 < length rows → ⊥
    beyond zero low under = omega (arith, under)
    beyond (suc m) low under = omega (arith, low)

-- the row has the reader behind what it had
pub one_added : (at i : ℕ) (rows new : List (List ℕ)) → at < length rows → new ≡ set rows at (row_of rows at ++ i ∷ []) → AreAdded i (at ∷ []) 1 rows new
one_added at i rows new low is = record {
  size = ap length is ∙ length-set rows at (row_of rows at ++ i ∷ []);
  kept = λ j k c. either (cases_eq j at)
      (λ e. subst (λ l. Contains l k) (sym (here j e)) (Contains-append_left (row_of rows at) (i ∷ []) k (subst (λ x. Contains (row_of rows x) k) e c)))
      (λ ne. subst (λ l. Contains l k) (sym (there j ne)) c);
  added = by_place;
  only = λ j k c. either (cases_eq j at)
      (λ e. either (Contains-push_cases (row_of rows at) i k (subst (λ l. Contains l k) (here j e) c))
      (λ was. inl (subst (λ x. Contains (row_of rows x) k) (sym e) was))
      (λ same. inr (sym same)))
      (λ ne. inl (subst (λ l. Contains l k) (there j ne) c));
}
  where
    here : (j : ℕ) → j ≡ at → row_of new j ≡ row_of rows at ++ i ∷ []
    here j e = ap (row_of new) e ∙ (ap (λ l. row_of l at) is ∙ get_or-set_same rows at (row_of rows at ++ i ∷ []) [] low)

    there : (j : ℕ) → (j ≡ at → ⊥) → row_of new j ≡ row_of rows j
    there j ne = ap (λ l. row_of l j) is ∙ get_or-set_other rows at j (row_of rows at ++ i ∷ []) [] ne

    by_place : (m : ℕ) → m < 1 → slice_index_or (at ∷ []) m 0 < length rows → Contains (row_of new (slice_index_or (at ∷ []) m 0)) i
    by_place zero lt under = subst (λ l. Contains l i) (sym (here at refl)) (Contains-push (row_of rows at) i)
    by_place (suc m) lt under = absurd (omega (arith, lt))

-- one that is mentioned more
pub added_more : (i : ℕ) (mentioned : List ℕ) (m at : ℕ) (old rows new : List (List ℕ)) → at ≡ slice_index_or mentioned m 0
    → AreAdded i mentioned m old rows → AreAdded i (at ∷ []) 1 rows new → AreAdded i mentioned (m + 1) old new
added_more i mentioned m at old rows new is a b = record {
  size = b.size ∙ a.size;
  kept = λ j k c. b.kept j k (a.kept j k c);
  added = λ n low under. either (cases_eq n m)
      (λ e.
      let same : slice_index_or mentioned n 0 ≡ at = ap (λ x. slice_index_or mentioned x 0) e ∙ sym is in
      let size = a.size in
      let inside : at < length rows = subst (λ x. x < length rows) same (subst (λ x. slice_index_or mentioned n 0 < x) (sym size) under) in
      subst (λ x. Contains (row_of new x) i) (sym same) (b.added 0 (omega arith) inside))
      (λ ne. b.kept (slice_index_or mentioned n 0) i (a.added n (omega arith) under));
  only = λ j k c. either (b.only j k c) (λ was. a.only j k was) (λ e. inr e);
}

pub no_rows_yet : (files : List FileFlow) (functions : List Function) (rows : List (List ℕ)) → length rows ≡ length functions → ((j : ℕ) → row_of rows j ≡ []) → AreRows files functions 0 rows
no_rows_yet files functions rows size empty = record {
  size = size;
  within = λ j i c. absurd (let there = subst (λ l. Contains l i) (empty j) c in let low = there.1 in omega (arith, low));
  every = λ i j low under m. absurd (omega (arith, low));
}

-- one function more
pub rows_more : (files : List FileFlow) (functions : List Function) (i : ℕ) (g : Function) (found : List ℕ) (old new : List (List ℕ)) → slice_get functions i ≡ Some g
    → AreMentioned files g.body found
    → AreRows files functions i old → AreAdded i found (length found) old new → AreRows files functions (i + 1) new
rows_more files functions i g found old new at all r a = record {
  size = a.size ∙ r.size;
  within = λ j k c. either (a.only j k c) (λ was. r.within j k was) (λ e. let low = slice_get_within functions i g at in omega arith);
  every = λ k j low under m. either (cases_eq k i)
      (λ e.
      let same : m.function ≡ g = same_some (sym m.there ∙ (ap (slice_get functions) e ∙ at)) in
      let c : Contains found j = (subst (λ o. AreMentioned files o found) (ap (λ (x : Function). x.body) (sym same) ∙ m.body) all m.file m.at j).1 m.mentions in
      let size = r.size in
      let here : slice_index_or found c.0 0 ≡ j = default_same found c.0 0 j c.1 ∙ c.2 in
      subst (λ x. Contains (row_of new j) x) (sym e)
      (subst (λ x. Contains (row_of new x) i) here (a.added c.0 c.1 (subst (λ x. x < length old) (sym here) (subst (λ x. j < x) (sym size) under)))))
      (λ ne. a.kept j k (r.every k j (omega arith) under m));
}
  where
    default_same : (xs : List ℕ) (j d e : ℕ) → j < length xs → get_or xs j d ≡ get_or xs j e
    default_same [] j d e lt = absurd (omega (arith, lt))
    default_same (x ∷ xs) zero d e lt = refl
    default_same (x ∷ xs) (suc j) d e lt = default_same xs j d e (omega arith)

pub all_rows : (files : List FileFlow) (functions : List Function) (n : ℕ) (rows : List (List ℕ)) → n ≡ length functions → AreRows files functions n rows → AreRows files functions (length functions) rows
all_rows files functions n rows end r = subst (λ k. AreRows files functions k rows) end r

-- as a proposition
pub readers_so : (files : List FileFlow) (functions : List Function) (rows : List (List ℕ)) → AreRows files functions (length functions) rows → AreReaders files functions rows
readers_so files functions rows r = record {
  size = r.size;
  within = r.within;
  every = λ i j low m. ∣ r.every i j (slice_get_within functions i m.function m.there) low m ∣₁;
}

-- the file of a block is the one that was read
pub mentioned_there : (files : List FileFlow) (block : Block) (file : FileFlow) (found : List ℕ) → slice_get files block.file ≡ Some file
    → ((j : ℕ) → Contains found j ↔ MentionsBy file.graph.now file.calls.now block.node j) → AreMentioned files (Some block) found
mentioned_there files block file found there told f at j = subst (λ (x : FileFlow). Contains found j ↔ MentionsBy x.graph.now x.calls.now block.node j) (same_some (sym there ∙ at)) (told j)

pub none_mentioned : (files : List FileFlow) (block : Block) (found : List ℕ) → length files ≤ block.file → AreMentioned files (Some block) found
none_mentioned files block found high f at j = absurd (let low = slice_get_within files block.file f at in omega arith)

pub block_decided : (files : List FileFlow) (N : ℕ → Bool) (block : Block) (file : FileFlow) (never : Bool) → slice_get files block.file ≡ Some file
    → (IsTrue never ↔ NeverBy file.tree.now file.graph.now (stops_of file.calls.now N) block.node) → IsTrue never ↔ BlockBy files N block
block_decided files N block file never there told = (
  λ t. (file, there, told.0 t),
  λ w. told.1 (subst (λ (x : FileFlow). NeverBy x.tree.now x.graph.now (stops_of x.calls.now N) block.node) (same_some (sym w.1 ∙ there)) w.2),
)

pub no_block : (files : List FileFlow) (N : ℕ → Bool) (block : Block) → length files ≤ block.file → IsTrue false ↔ BlockBy files N block
no_block files N block high = (λ t. absurd (no_truth t), λ w. absurd (let low = slice_get_within files block.file w.0 w.1 in omega arith)) where
  no_truth : false ≡ true → ⊥
  no_truth e = cc

past_set : (flags : List Bool) (j : ℕ) → length flags ≤ j → set_of flags j ≡ false
past_set [] j high = refl
past_set (f ∷ flags) zero high = absurd (omega (arith, high))
past_set (f ∷ flags) (suc j) high = past_set flags j (omega arith)

-- as many flags as functions know of no others
known_same : (members : List Bool) (count : ℕ) → length members ≡ count → known count (set_of members) ≡ set_of members
known_same members count size = fun_ext (λ j. by_low j (nat_lt j count) refl) where
  by_low : (j : ℕ) (b : Bool) → nat_lt j count ≡ b → known count (set_of members) j ≡ set_of members j
  by_low j true e = ap (λ b. cond b (set_of members j) false) e
  by_low j false e = ap (λ b. cond b (set_of members j) false) e ∙ sym (past_set members j (let high = ltb-false j count e in omega arith))

pub admitted_at : (files : List FileFlow) (functions : List Function) (members : List Bool) (i : ℕ) (g : Function) (b : Bool) → slice_get functions i ≡ Some g → length members ≡ length functions
    → (IsTrue b ↔ ((g.listed ≡ true) ⊎ BodyBy files (set_of members) g.body)) → IsTrue b ↔ AdmitsBy files functions (set_of members) i
admitted_at files functions members i g b there size told = (
  λ t. (g, there, subst (λ N. (g.listed ≡ true) ⊎ BodyBy files N g.body) (sym (known_same members (length functions) size)) (told.0 t)),
  λ a. told.1 (subst (λ N. (g.listed ≡ true) ⊎ BodyBy files N g.body) (known_same members (length functions) size)
      (subst (λ (x : Function). (x.listed ≡ true) ⊎ BodyBy files (known (length functions) (set_of members)) x.body) (same_some (sym a.1 ∙ there)) a.2)),
)
