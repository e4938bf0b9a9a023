-- Paths from their ends.
use Rattle.std.proofs.Common.{◌≡◌, ℕ, zero, suc, ◌+◌, ◌-◌, ◌<◌, ◌≤◌, List, [], ◌∷◌, length, take, drop, slice_range, slice_index, Bool, true, false, ◌&&◌, ◌||◌, cond, drop-cons, refl, ap, sym, ◌∙◌, subst, arith}
use Rattle.std.specs.List.{list_all, list_any}
use Rattle.std.proofs.lemmas.Bool.Decides.{Decides-eqb}
use Rattle.import_graph.specs.Sources.{is_slash, onto_first, segments_of, directory_of, is_plain}

-- From `at` on a path has the segment up to `end`, and then others, of which `plain` tells.
pub record Parted (path : List ℕ) (at «end» : ℕ) (plain : Bool) : Type 0 where
  pub order : at ≤ «end»
  pub within : «end» ≤ length path
  pub others : List (List ℕ)
  pub are : segments_of (drop at path) ≡ slice_range path at «end» ∷ others
  pub told : list_all is_plain others ≡ plain

drop-whole : (xs : List ℕ) → drop (length xs) xs ≡ []
drop-whole [] = refl
drop-whole (x ∷ xs) = drop-whole xs

empty-range : (xs : List ℕ) (n : ℕ) → slice_range xs n n ≡ []
empty-range xs n = let e : n - n ≡ 0 = omega arith in ap (λ k. take k (drop n xs)) e

-- a range from one byte earlier
longer-range : (xs : List ℕ) (at stop : ℕ) → at < stop → at < length xs → slice_range xs at stop ≡ slice_index xs at ∷ slice_range xs (suc at) stop
longer-range xs at stop lt within =
    let e : stop - at ≡ suc (stop - suc at) = omega (arith, lt) in
    ap (λ ys. take (stop - at) ys) (drop-cons xs at 0 within) ∙ ap (λ k. take k (slice_index xs at ∷ drop (suc at) xs)) e

pub parted-start : (path : List ℕ) → Parted path (length path) (length path) true
parted-start path = record {
  order = omega arith;
  within = omega arith;
  others = [];
  are = ap segments_of (drop-whole path) ∙ ap (λ s. s ∷ []) (sym (empty-range path (length path)));
  told = refl;
}

-- a byte of the segment
pub parted-byte : (path : List ℕ) (at stop : ℕ) (plain : Bool) → Parted path (suc at) stop plain → is_slash (slice_index path at) ≡ false → Parted path at stop plain
parted-byte path at stop plain parted other =
    let lt : at < length path = omega (arith, parted.order, parted.within) in
    record {
      order = omega (arith, parted.order);
      within = parted.within;
      others = parted.others;
      are = ap segments_of (drop-cons path at 0 lt)
          ∙ ap (λ b. cond b ([] ∷ segments_of (drop (suc at) path)) (onto_first (slice_index path at) (segments_of (drop (suc at) path)))) other
          ∙ ap (onto_first (slice_index path at)) parted.are
          ∙ ap (λ s. s ∷ parted.others) (sym (longer-range path at stop (omega (arith, parted.order)) lt));
      told = parted.told;
    }

-- the slash before the segment
pub parted-slash : (path : List ℕ) (at stop : ℕ) (plain : Bool) → Parted path (suc at) stop plain → is_slash (slice_index path at) ≡ true → Parted path at at (is_plain (slice_range path (suc at) stop) && plain)
parted-slash path at stop plain parted slash =
    let lt : at < length path = omega (arith, parted.order, parted.within) in
    record {
      order = omega arith;
      within = omega (arith, lt);
      others = slice_range path (suc at) stop ∷ parted.others;
      are = ap segments_of (drop-cons path at 0 lt)
          ∙ ap (λ b. cond b ([] ∷ segments_of (drop (suc at) path)) (onto_first (slice_index path at) (segments_of (drop (suc at) path)))) slash
          ∙ ap (λ ss. [] ∷ ss) parted.are
          ∙ ap (λ s. s ∷ slice_range path (suc at) stop ∷ parted.others) (sym (empty-range path at));
      told = ap (λ b. is_plain (slice_range path (suc at) stop) && b) parted.told;
    }

pub parted-whole : (path : List ℕ) (stop : ℕ) (plain : Bool) → Parted path 0 stop plain → list_all is_plain (segments_of path) ≡ (is_plain (take stop path) && plain)
parted-whole path stop plain parted =
    let e : slice_range path 0 stop ≡ take stop path = let z : stop - 0 ≡ stop = omega arith in ap (λ k. take k path) z in
    ap (list_all is_plain) parted.are ∙ ap (λ b. is_plain (slice_range path 0 stop) && b) parted.told ∙ ap (λ s. is_plain s && plain) e

-- the same with what the code knows
pub parted-other : (path : List ℕ) (at n stop : ℕ) (plain : Bool) → n ≡ suc at → Parted path n stop plain → (slice_index path at ≡ 47 → ⊥) → Parted path at stop plain
parted-other path at n stop plain e parted other = parted-byte path at stop plain (subst (λ m. Parted path m stop plain) e parted) (told (is_slash (slice_index path at)) refl)
  where
    told : (b : Bool) → is_slash (slice_index path at) ≡ b → is_slash (slice_index path at) ≡ false
    told false h = h
    told true h = absurd (other ((Decides-eqb (slice_index path at) 47).0 h))

pub parted-at : (path : List ℕ) (at n stop : ℕ) (plain kept : Bool) → n ≡ suc at → Parted path n stop plain → slice_index path at ≡ 47 → kept ≡ (is_plain (slice_range path (at + 1) stop) && plain) → Parted path at at kept
parted-at path at n stop plain kept e parted slash is =
    let f : at + 1 ≡ suc at = omega arith in
    subst (Parted path at at) (sym (is ∙ ap (λ m. is_plain (slice_range path m stop) && plain) f))
    (parted-slash path at stop plain (subst (λ m. Parted path m stop plain) e parted) ((Decides-eqb (slice_index path at) 47).1 slash))

pub no-slash : (path : List ℕ) → list_any is_slash path ≡ false → directory_of path ≡ []
no-slash [] none = refl
no-slash (b ∷ bs) none = ap (λ c. cond c (b ∷ directory_of bs) []) none

-- a slash among the bytes is among all
slash-among : (path : List ℕ) (k : ℕ) → k < length path → is_slash (slice_index path k) ≡ true → list_any is_slash path ≡ true
slash-among [] k lt slash = absurd (omega (arith, lt))
slash-among (b ∷ bs) zero lt slash = ap (λ c. c || list_any is_slash bs) slash
slash-among (b ∷ bs) (suc k) lt slash = ap (λ c. is_slash b || c) (slash-among bs k (omega (arith, lt)) slash) ∙ either (is_slash b)
  where
    either : (c : Bool) → (c || true) ≡ true
    either true = refl
    either false = refl

-- no slash stands behind the place, and one before it, or nothing
pub directory-at : (path : List ℕ) (at : ℕ) → at ≤ length path → list_any is_slash (drop at path) ≡ false → (0 < at → is_slash (slice_index path (at - 1)) ≡ true) → directory_of path ≡ take at path
directory-at path zero le none slash = no-slash path none
directory-at [] (suc n) le none slash = refl
directory-at (b ∷ bs) (suc zero) le none slash =
    ap (λ c. cond c (b ∷ directory_of bs) []) (slash-among (b ∷ bs) 0 (omega arith) (slash (omega arith))) ∙ ap (λ d. b ∷ d) (no-slash bs none)
directory-at (b ∷ bs) (suc (suc n)) le none slash =
    ap (λ c. cond c (b ∷ directory_of bs) []) (slash-among (b ∷ bs) (suc n) (omega (arith, le)) (last n (slash (omega arith))))
    ∙ ap (λ d. b ∷ d) (directory-at bs (suc n) (omega (arith, le)) none (λ lt. before n lt (last n (slash (omega arith)))))
  where
    last : (m : ℕ) → is_slash (slice_index (b ∷ bs) (suc (suc m) - 1)) ≡ true → is_slash (slice_index (b ∷ bs) (suc m)) ≡ true
    last m h = let e : suc (suc m) - 1 ≡ suc m = omega arith in subst (λ k. is_slash (slice_index (b ∷ bs) k) ≡ true) e h

    before : (m : ℕ) → 0 < suc m → is_slash (slice_index (b ∷ bs) (suc m)) ≡ true → is_slash (slice_index bs (suc m - 1)) ≡ true
    before m lt h = let e : suc m - 1 ≡ m = omega arith in subst (λ k. is_slash (slice_index bs k) ≡ true) (sym e) h

pub directory-at-slash : (path : List ℕ) (at : ℕ) → at ≤ length path → list_any is_slash (drop at path) ≡ false → slice_index path (at - 1) ≡ 47 → directory_of path ≡ take at path
directory-at-slash path at le none slash = directory-at path at le none (λ lt. (Decides-eqb (slice_index path (at - 1)) 47).1 slash)
