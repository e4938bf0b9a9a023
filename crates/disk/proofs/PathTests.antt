-- Segments, paths and folders by their tests.
use Rattle.std.proofs.Common.{◌≡◌, ◌⊎◌, inl, inr, ℕ, zero, suc, ◌+◌, ◌-◌, ◌<◌, ◌≤◌, List, [], ◌∷◌, ◌++◌, length, drop, codes, Bool, true, false, ◌&&◌, ◌||◌, not, nat_le, bytes_eq, refl, ap, sym, ◌∙◌, subst, arith, append_assoc, flat_map}
use Rattle.std.specs.Prelude.{if◌then◌else◌, nat_eq}
use lib.Pointwise.{pointwise}
use Rattle.std.specs.List.{AllByRecursion, list_all, list_any, ends_with}
use Rattle.std.proofs.lemmas.Bool.{leb-true}
use Rattle.std.proofs.lemmas.List.{append-nil, length-append}
use Rattle.std.proofs.lemmas.List.Folds.{list_all-append}
use Rattle.std.proofs.lemmas.Slice.Eq.{bytes_eq-Decides}
use Rattle.gv_base.specs.Paths.{IsPath, IsSegment, is_segment_byte, joined, slash}
use Rattle.import_graph.specs.Sources.{is_slash, onto_first, segments_of, is_plain, is_source}
use Rattle.disk.specs.Folders.{child}
use Rattle.disk.specs.Names.{is_segment, is_short, is_chosen, is_open, IsFolder}
use Rattle.disk.proofs.Members.{and-true, and-first, and-second, not-same, same-not}

pub le-test : (m n : ℕ) → m ≤ n → nat_le m n ≡ true
le-test m n h = grind (arith, h)

pub segment-of : (name : List ℕ) → is_segment name ≡ true → IsSegment name
segment-of name h =
    let a = and-first (list_all is_segment_byte name) _ h in
    let b = and-second (list_all is_segment_byte name) _ h in
    let c = and-first (nat_le 1 (length name)) _ b in
    let d = and-second (nat_le 1 (length name)) _ b in
    let l : 1 ≤ length name = leb-true 1 (length name) c in
    record {
      each = a;
      some = omega (arith, l);
      not_here = same-not name (codes ".") (and-first (not (bytes_eq name (codes "."))) _ d);
      not_above = same-not name (codes "..") (and-second (not (bytes_eq name (codes "."))) _ d);
    }

pub segment-test : (name : List ℕ) → IsSegment name → is_segment name ≡ true
segment-test name h =
    and-true _ _ h.each (and-true _ _ (le-test 1 (length name) (omega (arith, h.some)))
    (and-true _ _ (not-same name (codes ".") (bytes_eq name (codes ".")) refl h.not_here) (not-same name (codes "..") (bytes_eq name (codes "..")) refl h.not_above)))

all-append : (P : List ℕ → Type 0) (xs ys : List (List ℕ)) → AllByRecursion P xs → AllByRecursion P ys → AllByRecursion P (xs ++ ys)
all-append P [] ys h k = k
all-append P (x ∷ xs) ys h k = (h.0, all-append P xs ys h.1 k)

slashed-append : (xs ys : List (List ℕ)) → flat_map (λ s. slash ∷ s) (xs ++ ys) ≡ flat_map (λ s. slash ∷ s) xs ++ flat_map (λ s. slash ∷ s) ys
slashed-append [] ys = refl
slashed-append (x ∷ xs) ys = ap (λ z. (slash ∷ x) ++ z) (slashed-append xs ys) ∙ sym (append_assoc (slash ∷ x) (flat_map (λ s. slash ∷ s) xs) (flat_map (λ s. slash ∷ s) ys))

joined-more : (first : List ℕ) (others : List (List ℕ)) (name : List ℕ) → joined first others ++ slash ∷ name ≡ joined first (others ++ name ∷ [])
joined-more first others name =
    append_assoc first (flat_map (λ s. slash ∷ s) others) (slash ∷ name)
    ∙ ap (λ z. first ++ z) (ap (λ z. flat_map (λ s. slash ∷ s) others ++ z) (sym (append-nil (slash ∷ name))) ∙ sym (slashed-append others (name ∷ [])))

-- a name in a folder has a path
pub child-path : (folder name : List ℕ) → IsFolder folder → IsSegment name → length (child folder name) ≤ 1024 → IsPath (child folder name)
child-path [] name f seg short = record { first = name; others = []; first_lawful = seg; others_lawful = tt; parts = sym (append-nil name); most = short }
child-path (b ∷ folder) name (inl e) seg short = absurd (let l : length (b ∷ folder) ≡ length {A = ℕ} [] = ap length e in omega (arith, l))
child-path (b ∷ folder) name (inr p) seg short = record {
  first = p.first;
  others = p.others ++ name ∷ [];
  first_lawful = p.first_lawful;
  others_lawful = all-append IsSegment p.others (name ∷ []) p.others_lawful (seg, tt);
  parts = ap (λ z. z ++ slash ∷ name) p.parts ∙ joined-more p.first p.others name;
  most = short;
}

pub child-joined : (folder name : List ℕ) → 0 < length folder → child folder name ≡ folder ++ slash ∷ name
child-joined [] name h = absurd (omega (arith, h))
child-joined (b ∷ folder) name h = refl

pub child-some : (folder name : List ℕ) → IsSegment name → 0 < length (child folder name)
child-some [] name seg = seg.some
child-some (b ∷ folder) name seg = omega arith

-- segments of two parts
segments-some : (d : List ℕ) → 0 < length (segments_of d)
segments-some [] = omega arith
segments-some (b ∷ d) = some (is_slash b) (segments_of d)
  where
    some : (c : Bool) (xs : List (List ℕ)) → 0 < length (if c then [] ∷ xs else onto_first b xs)
    some true xs = omega arith
    some false [] = omega arith
    some false (x ∷ xs) = omega arith

onto-append : (b : ℕ) (xs ys : List (List ℕ)) → 0 < length xs → onto_first b (xs ++ ys) ≡ onto_first b xs ++ ys
onto-append b [] ys h = absurd (omega (arith, h))
onto-append b (x ∷ xs) ys h = refl

segments-append : (d rest : List ℕ) → segments_of (d ++ slash ∷ rest) ≡ segments_of d ++ segments_of rest
segments-append [] rest = refl
segments-append (b ∷ d) rest = step (is_slash b) (segments-append d rest)
  where
    step : (c : Bool) → segments_of (d ++ slash ∷ rest) ≡ segments_of d ++ segments_of rest
        → (if c then [] ∷ segments_of (d ++ slash ∷ rest) else onto_first b (segments_of (d ++ slash ∷ rest))) ≡ (if c then [] ∷ segments_of d else onto_first b (segments_of d)) ++ segments_of rest
    step true e = ap (λ z. [] ∷ z) e
    step false e = ap (onto_first b) e ∙ onto-append b (segments_of d) (segments_of rest) (segments-some d)

plain-parts : (d rest : List ℕ) → list_all is_plain (segments_of (d ++ slash ∷ rest)) ≡ (list_all is_plain (segments_of d) && list_all is_plain (segments_of rest))
plain-parts d rest = ap (list_all is_plain) (segments-append d rest) ∙ list_all-append is_plain (segments_of d) (segments_of rest)

drop-past : (d s : List ℕ) (k : ℕ) → drop (length d + k) (d ++ s) ≡ drop k s
drop-past [] s k = let e : length {A = ℕ} [] + k ≡ k = omega arith in ap (λ n. drop n s) e
drop-past (x ∷ d) s k = let e : length (x ∷ d) + k ≡ suc (length d + k) = omega arith in ap (λ n. drop n (x ∷ (d ++ s))) e ∙ drop-past d s k

-- what stands at the end of a folder's path and of this name
drop-name : (d : List ℕ) (n k : ℕ) → n + k ≡ 13 → drop (length (d ++ codes "/some_file.go") - n) (d ++ codes "/some_file.go") ≡ drop k (codes "/some_file.go")
drop-name d n k e =
    let l : length (d ++ codes "/some_file.go") ≡ length d + 13 = length-append d (codes "/some_file.go") in
    let m : length (d ++ codes "/some_file.go") - n ≡ length d + k = omega (arith, l, e) in
    ap (λ j. drop j (d ++ codes "/some_file.go")) m ∙ drop-past d (codes "/some_file.go") k

-- a folder without a hidden segment is open
open-plain : (d : List ℕ) → list_all is_plain (segments_of d) ≡ true → is_open d ≡ true
open-plain d h =
    and-true (ends_with nat_eq (d ++ codes "/some_file.go") (codes ".go") && not (ends_with nat_eq (d ++ codes "/some_file.go") (codes "_test.go"))) (list_all is_plain (segments_of (d ++ codes "/some_file.go")))
    (and-true (ends_with nat_eq (d ++ codes "/some_file.go") (codes ".go")) (not (ends_with nat_eq (d ++ codes "/some_file.go") (codes "_test.go")))
    (ap (λ z. pointwise nat_eq (codes ".go") z) (drop-name d 3 10 refl)) (ap (λ z. not (pointwise nat_eq (codes "_test.go") z)) (drop-name d 8 5 refl)))
    (plain-parts d (codes "some_file.go") ∙ and-true (list_all is_plain (segments_of d)) (list_all is_plain (segments_of (codes "some_file.go"))) h refl)

pub slash-among : (d rest : List ℕ) → list_any is_slash (d ++ slash ∷ rest) ≡ true
slash-among [] rest = refl
slash-among (b ∷ d) rest = or-true (is_slash b) _ (slash-among d rest)
  where
    or-true : (a c : Bool) → c ≡ true → (a || c) ≡ true
    or-true true c e = refl
    or-true false c e = e

-- a folder is open in which, or below which, a file is chosen
pub open-above : (d rest path : List ℕ) → path ≡ d ++ slash ∷ rest → is_chosen path ≡ true → is_open d ≡ true
open-above d rest path e chosen = open-plain d (and-first _ _ (sym (plain-parts d rest) ∙ ap (λ z. list_all is_plain (segments_of z)) (sym e) ∙ and-second _ _ (source (bytes_eq path (codes "go.mod")) refl chosen)))
  where
    source : (b : Bool) → bytes_eq path (codes "go.mod") ≡ b → (b || is_source path) ≡ true → is_source path ≡ true
    source true is h =
        let same : d ++ slash ∷ rest ≡ codes "go.mod" = sym e ∙ (bytes_eq-Decides path (codes "go.mod")).0 is in
        let f : ◌≡◌ {A = Bool} true false = sym (slash-among d rest) ∙ ap (list_any is_slash) same in
        absurd (let g : ◌≡◌ {A = Bool} false true = sym f in cc)
    source false is h = h

pub shorter-above : (d rest path : List ℕ) → path ≡ d ++ slash ∷ rest → length path ≤ 1024 → length d ≤ 1024
shorter-above d rest path e h = let l : length path ≡ length d + length (slash ∷ rest) = ap length e ∙ length-append d (slash ∷ rest) in omega (arith, l, h)
