-- The paths of packages are UTF-8, where those of files and the module's are.
use Rattle.std.proofs.Common.{◌≡◌, ℕ, zero, suc, ◌+◌, ◌-◌, ◌<◌, ◌≤◌, ◌⊎◌, inl, inr, List, [], ◌∷◌, ◌++◌, length, take, drop, slice_index, Bool, true, false, ◌&&◌, ◌||◌, ◌==◌, cond, nat_eq, nat_le, codes, refl, ap, sym, ◌∙◌, subst, arith, IsAscii, fold}
use Rattle.std.specs.List.{list_any, starts_with}
use Rattle.std.specs.Str.{IsUtf8}
use Rattle.std.proofs.lemmas.Bool.{and_parts}
use Rattle.std.proofs.lemmas.Bool.Decides.{Decides-eqb, nat_tests}
use Rattle.std.proofs.lemmas.List.{length-append}
use Rattle.std.proofs.lemmas.Str.{IsCharBoundary-after_ascii, IsUtf8-append, IsUtf8-drop, IsUtf8-from_ascii, IsUtf8-take}
use Rattle.go_tree.specs.ImportPaths.{is_path_byte, segment_step, is_good, are_segments}
use Rattle.go_tree.specs.declared.import_path.Segment.{Segment}
use Rattle.go_tree.specs.declared.import_path.Segment.TheVariants.{Empty, Dot, Dots, Good, Wrong}
use Rattle.import_graph.specs.Sources.{is_slash, directory_of, bare, is_stub, module_package, package_of}
use Rattle.import_graph.proofs.SourceLemmas.{no-slash}

-- ---- lists

take-front : (xs ys : List ℕ) → take (length xs) (xs ++ ys) ≡ xs
take-front [] ys = refl
take-front (x ∷ xs) ys = ap (λ t. x ∷ t) (take-front xs ys)

at-front : (xs ys : List ℕ) (b : ℕ) → slice_index (xs ++ b ∷ ys) (length xs) ≡ b
at-front [] ys b = refl
at-front (x ∷ xs) ys b = at-front xs ys b

drop-front : (n : ℕ) (xs ys : List ℕ) → n ≤ length xs → drop n (xs ++ ys) ≡ drop n xs ++ ys
drop-front zero xs ys low = refl
drop-front (suc n) [] ys low = absurd (omega arith)
drop-front (suc n) (x ∷ xs) ys low = drop-front n xs ys (omega arith)

-- ---- UTF-8

slash-alone : IsUtf8 (47 ∷ [])
slash-alone = IsUtf8-from_ascii (47 ∷ []) low where
  low : (i : ℕ) → slice_index (47 ∷ []) i < 128
  low zero = omega arith
  low (suc i) = omega arith

-- what stands before a slash
before-slash : (text xs rest : List ℕ) → IsUtf8 text → text ≡ xs ++ 47 ∷ rest → IsUtf8 xs
before-slash text xs rest u is =
    let size : length text ≡ length xs + suc (length rest) = ap length is ∙ length-append xs (47 ∷ rest) in
    let byte : slice_index text (length xs) ≡ 47 = ap (λ t. slice_index t (length xs)) is ∙ at-front xs rest 47 in
    subst IsUtf8 (ap (take (length xs)) is ∙ take-front xs (47 ∷ rest))
    (IsUtf8-take text (length xs) u (omega (arith, size), λ low big. absurd (omega (arith, byte, big))))

with-slash : (xs : List ℕ) → IsUtf8 xs → IsUtf8 (xs ++ 47 ∷ [])
with-slash xs u = IsUtf8-append xs (47 ∷ []) u slash-alone

bare-is : (xs : List ℕ) → bare (xs ++ 47 ∷ []) ≡ xs
bare-is xs =
    let size : length (xs ++ 47 ∷ []) - 1 ≡ length xs = (let s = length-append xs (47 ∷ []) in omega (arith, s)) in
    ap (λ n. take n (xs ++ 47 ∷ [])) size ∙ take-front xs (47 ∷ [])

-- ---- directories

-- a path of which this much stands up to its last slash
record Ends (path : List ℕ) : Type 0 where
  front : List ℕ
  rest : List ℕ
  whole : path ≡ front ++ 47 ∷ rest
  part : directory_of path ≡ front ++ 47 ∷ []

first-of : (a b : Bool) → (a || b) ≡ true → b ≡ false → a ≡ true
first-of true b h e = refl
first-of false true h e = absurd (cc)
first-of false false h e = absurd (cc)

ends : (path : List ℕ) → list_any is_slash path ≡ true → Ends path
ends [] h = absurd (cc)
ends (b ∷ bs) h = by (list_any is_slash bs) refl (ends bs) where
  longer : directory_of (b ∷ bs) ≡ b ∷ directory_of bs
  longer = ap (λ c. cond c (b ∷ directory_of bs) []) h

  by : (t : Bool) → list_any is_slash bs ≡ t → (list_any is_slash bs ≡ true → Ends bs) → Ends (b ∷ bs)
  by true e more = let r = more e in record {
    front = b ∷ r.front;
    rest = r.rest;
    whole = ap (λ t. b ∷ t) r.whole;
    part = longer ∙ ap (λ t. b ∷ t) r.part;
  }
  by false e more =
      let same : b ≡ 47 = (Decides-eqb b 47).0 (first-of (is_slash b) (list_any is_slash bs) h e) in
      record {
        front = [];
        rest = bs;
        whole = ap (λ x. x ∷ bs) same;
        part = longer ∙ (ap (λ t. b ∷ t) (no-slash bs e) ∙ ap (λ x. x ∷ []) same);
      }

-- ---- packages

-- the fourth byte of `std/` is a slash
fourth : (xs : List ℕ) → 4 ≤ length xs → starts_with nat_eq (xs ++ 47 ∷ []) (codes "std/") ≡ true → slice_index xs 3 < 128
fourth [] few h = absurd (omega (arith, few))
fourth (a ∷ []) few h = absurd (omega (arith, few))
fourth (a ∷ b ∷ []) few h = absurd (omega (arith, few))
fourth (a ∷ b ∷ c ∷ []) few h = absurd (omega (arith, few))
fourth (a ∷ b ∷ c ∷ d ∷ rest) few h =
    let one = (and_parts (nat_eq 115 a) (nat_eq 116 b && (nat_eq 100 c && (nat_eq 47 d && true))) h).1 in
    let two = (and_parts (nat_eq 116 b) (nat_eq 100 c && (nat_eq 47 d && true)) one).1 in
    let three = (and_parts (nat_eq 100 c) (nat_eq 47 d && true) two).1 in
    let same : 47 ≡ d = (Decides-eqb 47 d).0 (and_parts (nat_eq 47 d) true three).0 in
    omega (arith, same)

-- what stands behind `std/`
behind-std : (xs : List ℕ) → IsUtf8 xs → is_stub (xs ++ 47 ∷ []) ≡ true → IsUtf8 (bare (drop 4 (xs ++ 47 ∷ [])))
behind-std xs u h =
    let parts = and_parts (starts_with nat_eq (xs ++ 47 ∷ []) (codes "std/")) (nat_le 6 (length (xs ++ 47 ∷ []))) h in
    let long : 6 ≤ length (xs ++ 47 ∷ []) = grind (arith, nat_tests, parts.1) in
    let size = length-append xs (47 ∷ []) in
    let few : 4 ≤ length xs = omega (arith, long, size) in
    let low : slice_index xs 3 < 128 = fourth xs few parts.0 in
    subst IsUtf8 (sym (ap bare (drop-front 4 xs (47 ∷ []) few) ∙ bare-is (drop 4 xs)))
    (IsUtf8-drop xs 4 u (IsCharBoundary-after_ascii xs 3 u (omega (arith, few)) low))

module-text : (root xs : List ℕ) → IsUtf8 root → IsUtf8 xs → IsUtf8 (module_package root (xs ++ 47 ∷ []))
module-text root xs v u = by (length (xs ++ 47 ∷ []) == 0) where
  by : (b : Bool) → IsUtf8 (cond b root (root ++ 47 ∷ bare (xs ++ 47 ∷ [])))
  by true = v
  by false = IsUtf8-append root (47 ∷ bare (xs ++ 47 ∷ [])) v (IsUtf8-append (47 ∷ []) (bare (xs ++ 47 ∷ [])) slash-alone (subst IsUtf8 (sym (bare-is xs)) u))

package-in : (root xs : List ℕ) → IsUtf8 root → IsUtf8 xs → IsUtf8 (package_of root (xs ++ 47 ∷ []))
package-in root xs v u = by (is_stub (xs ++ 47 ∷ [])) refl where
  by : (b : Bool) → is_stub (xs ++ 47 ∷ []) ≡ b → IsUtf8 (cond b (bare (drop 4 (xs ++ 47 ∷ []))) (module_package root (xs ++ 47 ∷ [])))
  by true e = behind-std xs u e
  by false e = module-text root xs v u

pub package-text : (root path : List ℕ) → IsUtf8 root → IsUtf8 path → IsUtf8 (package_of root (directory_of path))
package-text root path v u = by (list_any is_slash path) refl where
  by : (b : Bool) → list_any is_slash path ≡ b → IsUtf8 (package_of root (directory_of path))
  by true e = let r = ends path e in subst IsUtf8 (sym (ap (package_of root) r.part)) (package-in root r.front v (before-slash path r.front r.rest u r.whole))
  by false e = subst IsUtf8 (sym (ap (package_of root) (no-slash path e))) v

-- ---- module paths

wrong-stays : (bs : List ℕ) → fold segment_step Wrong bs ≡ Wrong
wrong-stays [] = refl
wrong-stays (b ∷ bs) = wrong-stays bs

path-byte : (b : ℕ) → is_path_byte b ≡ true → b < 128
path-byte b h = grind (arith, nat_tests)

grows : (b : ℕ) → (cond (is_path_byte b) Good Wrong ≡ Wrong) ⊎ (b < 128)
grows b = by (is_path_byte b) refl where
  by : (t : Bool) → is_path_byte b ≡ t → (cond t Good Wrong ≡ Wrong) ⊎ (b < 128)
  by true e = inr (path-byte b e)
  by false e = inl refl

grows-but : (b n : ℕ) (s : Segment) → n < 128 → (cond (b == n) s (cond (is_path_byte b) Good Wrong) ≡ Wrong) ⊎ (b < 128)
grows-but b n s low = by (b == n) refl where
  by : (t : Bool) → (b == n) ≡ t → (cond t s (cond (is_path_byte b) Good Wrong) ≡ Wrong) ⊎ (b < 128)
  by true e = inr (let same : b ≡ n = (Decides-eqb b n).0 e in omega (arith, low, same))
  by false e = grows b

low-byte : (s : Segment) (b : ℕ) → (segment_step s b ≡ Wrong) ⊎ (b < 128)
low-byte Wrong b = inl refl
low-byte Good b = grows-but b 47 Empty (omega arith)
low-byte Empty b = grows-but b 46 Dot (omega arith)
low-byte Dot b = grows-but b 46 Dots (omega arith)
low-byte Dots b = grows b

segments-ascii : (s : Segment) (path : List ℕ) → is_good (fold segment_step s path) ≡ true → (i : ℕ) → slice_index path i < 128
segments-ascii s [] h zero = omega arith
segments-ascii s [] h (suc i) = omega arith
segments-ascii s (b ∷ bs) h zero = elim (low-byte s b) [
  | inl wrong ↦ absurd (let e = ap is_good (ap (λ t. fold segment_step t bs) wrong ∙ wrong-stays bs) in let f : false ≡ true = sym e ∙ h in cc)
  | inr low ↦ low
]
segments-ascii s (b ∷ bs) h (suc i) = segments-ascii (segment_step s b) bs h i

pub segments-text : (path : List ℕ) → are_segments path ≡ true → IsUtf8 path
segments-text path h = IsUtf8-from_ascii path (segments-ascii Empty path h)
