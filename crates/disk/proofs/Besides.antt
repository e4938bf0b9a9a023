-- The path of the file that is written beside another.
use Rattle.std.proofs.Common.{◌≡◌, ◌⊎◌, inl, inr, ℕ, zero, suc, ◌<◌, ◌≤◌, List, [], ◌∷◌, ◌++◌, length, get_or, codes, Bool, true, false, ◌&&◌, ◌||◌, ◌==◌, refl, ap, sym, ◌∙◌, subst, arith, flat_map, append_assoc, IsAscii}
use Rattle.std.specs.Prelude.{if◌then◌else◌, nat_le}
use Rattle.std.specs.List.{AllByRecursion, list_all, list_any}
use Rattle.std.proofs.lemmas.List.{append-nil}
use Rattle.std.proofs.lemmas.Bool.{or_cases, and_parts, leb-true, eqb-true}
use Rattle.gv_base.specs.Paths.{IsPath, IsSegment, is_segment_byte, joined, slash}
use Rattle.import_graph.specs.Sources.{is_slash, directory_of}
use Rattle.disk.specs.Held.{beside, IsBeside}
use Rattle.disk.proofs.Members.{and-first, and-second}
use Rattle.disk.proofs.PathTests.{slash-among}

range-small : (low high b : ℕ) → high < 128 → (nat_le low b && nat_le b high) ≡ true → b < 128
range-small low high b h t = let k = leb-true b high (and-second (nat_le low b) _ t) in omega (arith, h, k)

byte-small : (b c : ℕ) → c < 128 → (b == c) ≡ true → b < 128
byte-small b c h t = let e = eqb-true b c t in omega (arith, h, e)

segment-small : (b : ℕ) → is_segment_byte b ≡ true → b < 128
segment-small b h = elim (or_cases _ _ h) [
  | inr a ↦ byte-small b 64 (omega arith) a
  | inl h ↦ elim (or_cases _ _ h) [
    | inr a ↦ byte-small b 126 (omega arith) a
    | inl h ↦ elim (or_cases _ _ h) [
      | inr a ↦ byte-small b 43 (omega arith) a
      | inl h ↦ elim (or_cases _ _ h) [
        | inr a ↦ byte-small b 45 (omega arith) a
        | inl h ↦ elim (or_cases _ _ h) [
          | inr a ↦ byte-small b 46 (omega arith) a
          | inl h ↦ elim (or_cases _ _ h) [
            | inr a ↦ byte-small b 95 (omega arith) a
            | inl h ↦ elim (or_cases _ _ h) [
              | inr a ↦ range-small 48 57 b (omega arith) a
              | inl h ↦ elim (or_cases _ _ h) [
                | inr a ↦ range-small 97 122 b (omega arith) a
                | inl a ↦ range-small 65 90 b (omega arith) a
              ]
            ]
          ]
        ]
      ]
    ]
  ]
]

abbrev Small : List ℕ → Type 0
Small xs = AllByRecursion (λ b. b < 128) xs

small-append : (xs ys : List ℕ) → Small xs → Small ys → Small (xs ++ ys)
small-append [] ys h k = k
small-append (x ∷ xs) ys h k = (h.0, small-append xs ys h.1 k)

small-segment : (xs : List ℕ) → list_all is_segment_byte xs ≡ true → Small xs
small-segment [] h = tt
small-segment (x ∷ xs) h = (segment-small x (and-first (is_segment_byte x) _ h), small-segment xs (and-second (is_segment_byte x) _ h))

small-others : (others : List (List ℕ)) → AllByRecursion IsSegment others → Small (flat_map (λ s. slash ∷ s) others)
small-others [] h = tt
small-others (s ∷ others) h = small-append (slash ∷ s) (flat_map (λ s. slash ∷ s) others) (omega arith, small-segment s h.0.each) (small-others others h.1)

small-path : (path : List ℕ) → IsPath path → Small path
small-path path p = let P : List ℕ → Type 0 = λ z. Small z in subst P (sym p.parts) (small-append p.first (flat_map (λ s. slash ∷ s) p.others) (small-segment p.first p.first_lawful.each) (small-others p.others p.others_lawful))

small-directory : (xs : List ℕ) → Small xs → Small (directory_of xs)
small-directory [] h = tt
small-directory (b ∷ bs) h = at (list_any is_slash (b ∷ bs)) (small-directory bs h.1)
  where
    at : (c : Bool) → Small (directory_of bs) → Small (if c then b ∷ directory_of bs else [])
    at true k = (h.0, k)
    at false k = tt

small-at : (xs : List ℕ) → Small xs → (i : ℕ) → get_or xs i 0 < 128
small-at [] h i = omega arith
small-at (x ∷ xs) h zero = h.0
small-at (x ∷ xs) h (suc i) = small-at xs h.1 i

-- the folder of a path is ASCII
pub directory-ascii : (path : List ℕ) → IsPath path → IsAscii (directory_of path)
directory-ascii path p = small-at (directory_of path) (small-directory path (small-path path p))

-- the folder of a path
directory-slash : (s rest : List ℕ) → directory_of (s ++ slash ∷ rest) ≡ s ++ slash ∷ directory_of rest
directory-slash [] rest = refl
directory-slash (b ∷ s) rest = ap (λ c. if c then b ∷ directory_of (s ++ slash ∷ rest) else []) (slash-among (b ∷ s) rest) ∙ ap (λ z. b ∷ z) (directory-slash s rest)

no-slash : (b : ℕ) (c : Bool) → is_slash b ≡ c → is_segment_byte b ≡ true → c ≡ false
no-slash b false e h = refl
no-slash b true e h =
    let s : b ≡ 47 = eqb-true b 47 e in
    let P : ℕ → Type 0 = λ z. is_segment_byte z ≡ true in
    let t : is_segment_byte 47 ≡ true = subst P s h in
    absurd (let f : ◌≡◌ {A = Bool} false true = t in cc)

none-slash : (xs : List ℕ) → list_all is_segment_byte xs ≡ true → list_any is_slash xs ≡ false
none-slash [] h = refl
none-slash (x ∷ xs) h =
    ap (λ c. c || list_any is_slash xs) (no-slash x (is_slash x) refl (and-first (is_segment_byte x) _ h)) ∙ none-slash xs (and-second (is_segment_byte x) _ h)

directory-none : (s : List ℕ) → list_any is_slash s ≡ false → directory_of s ≡ []
directory-none [] h = refl
directory-none (b ∷ s) h = ap (λ c. if c then b ∷ directory_of s else []) h

-- the path beside one, segment by segment
record Parts (path : List ℕ) : Type 0 where
  pub first : List ℕ
  pub others : List (List ℕ)
  pub first_lawful : IsSegment first
  pub others_lawful : AllByRecursion IsSegment others
  pub parts : beside path ≡ joined first others

new-name : IsSegment (codes ".gvet-new")
new-name = record { each = refl; some = omega arith; not_here = λ e. (let l = ap length e in omega (arith, l)); not_above = λ e. (let l = ap length e in omega (arith, l)) }

beside-parts : (first : List ℕ) (others : List (List ℕ)) → IsSegment first → AllByRecursion IsSegment others → Parts (joined first others)
beside-parts first [] f o =
    let none : directory_of (joined first []) ≡ [] = ap directory_of (append-nil first) ∙ directory-none first (none-slash first f.each) in
    record { first = codes ".gvet-new"; others = []; first_lawful = new-name; others_lawful = tt; parts = ap (λ z. z ++ codes ".gvet-new") none }
beside-parts first (s ∷ ss) f o =
    let k = beside-parts s ss o.0 o.1 in
    record {
      first = first;
      others = k.first ∷ k.others;
      first_lawful = f;
      others_lawful = (k.first_lawful, k.others_lawful);
      parts = ap (λ z. z ++ codes ".gvet-new") (directory-slash first (joined s ss)) ∙ append_assoc first (slash ∷ directory_of (joined s ss)) (codes ".gvet-new") ∙ ap (λ z. first ++ slash ∷ z) k.parts;
    }

-- where it isn't too long, it is a path
pub beside-path : (path : List ℕ) → IsPath path → length (beside path) ≤ 1024 → IsPath (beside path)
beside-path path p short =
    let k : Parts path = let P : List ℕ → Type 0 = λ z. Parts z in subst P (sym p.parts) (beside-parts p.first p.others p.first_lawful p.others_lawful) in
    record { first = k.first; others = k.others; first_lawful = k.first_lawful; others_lawful = k.others_lawful; parts = k.parts; most = short }

pub is-beside : (other path : List ℕ) → IsPath path → other ≡ beside path → length other ≤ 1024 → IsBeside other
is-beside other path p e short =
    let P : List ℕ → Type 0 = λ z. IsPath z in
    let l : length other ≡ length (beside path) = ap length e in
    record { lawful = subst P (sym e) (beside-path path p (omega (arith, l, short))); of = path; is = e }
