-- Whether bytes are a path is decided, so that what says so and no more can be taken for what shows it.
use Rattle.std.proofs.Common.{◌≡◌, ℕ, zero, suc, ◌+◌, ◌<◌, ◌≤◌, ◌==◌, Bool, true, false, cond, List, [], ◌∷◌, ◌++◌, length, get_or, flat_map, map, nat_le, ◌&&◌, All, refl, sym, ap, ◌∙◌, subst, arith}
use Rattle.std.specs.List.{AllByRecursion, list_all}
use Rattle.std.proofs.Math.Logic.{∥∥₁_elim}
use Rattle.std.proofs.Math.Bool.{Bool-set}
use Rattle.std.proofs.lemmas.Bool.{eqb-true, leb-true}
use Rattle.std.proofs.lemmas.List.{get_or-map, length-map}
use Rattle.std.specs.Prelude.{String}
use Rattle.std.specs.Global.{Global}
use Rattle.std.specs.String.{string_bytes}
use Rattle.std.proofs.lemmas.List.Elements.{All-from_recursion}
use Rattle.gv_base.specs.Paths.{IsPath, IsSegment, is_segment_byte, joined}
use Rattle.disk.specs.Names.{is_segment}
use Rattle.disk.proofs.Members.{and-true, and-first, and-second}
use Rattle.disk.proofs.PathTests.{le-test, segment-of, segment-test}

-- the first segment, and those behind it
record Parts : Type 0 where
  first : List ℕ
  others : List (List ℕ)

abbrev onto : Bool → ℕ → Parts → Parts
onto true b p = record { first = []; others = p.first ∷ p.others }
onto false b p = record { first = b ∷ p.first; others = p.others }

abbrev parts_of : List ℕ → Parts
parts_of [] = record { first = []; others = [] }
parts_of (b ∷ bs) = onto (b == 47) b (parts_of bs)

abbrev is_path : List ℕ → Bool
is_path path = (is_segment (parts_of path).first && list_all is_segment (parts_of path).others) && nat_le (length path) 1024

abbrev behind : List (List ℕ) → List ℕ
behind others = flat_map (λ s. 47 ∷ s) others

-- bytes are their parts, joined
whole : (path : List ℕ) → path ≡ joined (parts_of path).first (parts_of path).others
whole [] = refl
whole (b ∷ bs) = by (b == 47) refl (whole bs)
  where
    by : (t : Bool) → (b == 47) ≡ t → bs ≡ joined (parts_of bs).first (parts_of bs).others → b ∷ bs ≡ joined (onto t b (parts_of bs)).first (onto t b (parts_of bs)).others
    by true e h = ap (λ x. x ∷ bs) (eqb-true b 47 e) ∙ ap (λ l. 47 ∷ l) h
    by false e h = ap (λ l. b ∷ l) h

-- a byte of a segment is no slash
no-slash : (b : ℕ) → is_segment_byte b ≡ true → (b == 47) ≡ false
no-slash b h = by (b == 47) refl
  where
    by : (t : Bool) → (b == 47) ≡ t → t ≡ false
    by false e = refl
    by true e = absurd (let clash : ◌≡◌ {A = Bool} false true = subst (λ n. is_segment_byte n ≡ true) (eqb-true b 47 e) h in cc)

-- a segment before what begins with a slash
segment-before : (s : List ℕ) (rest : List ℕ) (others : List (List ℕ)) → list_all is_segment_byte s ≡ true → parts_of rest ≡ record { first = []; others = others } → parts_of (s ++ rest) ≡ record { first = s; others = others }
segment-before [] rest others h e = e
segment-before (b ∷ bs) rest others h e =
    ap (λ t. onto t b (parts_of (bs ++ rest))) (no-slash b (and-first (is_segment_byte b) _ h))
    ∙ ap (λ (p : Parts). record { first = b ∷ p.first; others = p.others }) (segment-before bs rest others (and-second (is_segment_byte b) _ h) e)

slashed : (others : List (List ℕ)) → AllByRecursion IsSegment others → parts_of (behind others) ≡ record { first = []; others = others }
slashed [] h = refl
slashed (s ∷ ss) h = ap (λ (p : Parts). record { first = []; others = p.first ∷ p.others }) (segment-before s (behind ss) ss h.0.each (slashed ss h.1))

joined-parts : (first : List ℕ) (others : List (List ℕ)) → IsSegment first → AllByRecursion IsSegment others → parts_of (joined first others) ≡ record { first = first; others = others }
joined-parts first others f h = segment-before first (behind others) others f.each (slashed others h)

-- ---- the decision

all-tested : (others : List (List ℕ)) → AllByRecursion IsSegment others → list_all is_segment others ≡ true
all-tested [] h = refl
all-tested (s ∷ ss) h = and-true _ _ (segment-test s h.0) (all-tested ss h.1)

all-segments : (others : List (List ℕ)) → list_all is_segment others ≡ true → AllByRecursion IsSegment others
all-segments [] h = tt
all-segments (s ∷ ss) h = (segment-of s (and-first (is_segment s) _ h), all-segments ss (and-second (is_segment s) _ h))

path-test : (path : List ℕ) → IsPath path → is_path path ≡ true
path-test path h =
    let parts : parts_of path ≡ record { first = h.first; others = h.others } = ap parts_of h.parts ∙ joined-parts h.first h.others h.first_lawful h.others_lawful in
    and-true _ _
    (subst (λ (p : Parts). (is_segment p.first && list_all is_segment p.others) ≡ true) (sym parts) (and-true _ _ (segment-test h.first h.first_lawful) (all-tested h.others h.others_lawful)))
    (le-test (length path) 1024 h.most)

path-of : (path : List ℕ) → is_path path ≡ true → IsPath path
path-of path h =
    let both = and-first (is_segment (parts_of path).first && list_all is_segment (parts_of path).others) _ h in
    let short = and-second (is_segment (parts_of path).first && list_all is_segment (parts_of path).others) _ h in
    record {
      first = (parts_of path).first;
      others = (parts_of path).others;
      first_lawful = segment-of (parts_of path).first (and-first (is_segment (parts_of path).first) _ both);
      others_lawful = all-segments (parts_of path).others (and-second (is_segment (parts_of path).first) _ both);
      parts = whole path;
      most = leb-true (length path) 1024 short;
    }

-- paths that are said to be lawful are
pub lawful-paths : (paths : List (List ℕ)) → ∥ AllByRecursion IsPath paths ∥₁ → All IsPath paths
lawful-paths paths h = λ k d lt. path-of (get_or paths k d) (∥∥₁_elim h (Bool-set _ _) (λ a. path-test (get_or paths k d) (All-from_recursion IsPath paths a k d lt)))

-- the path at a place of a list of texts
pub path-at : (paths : List (String Global)) (k : ℕ) (item : String Global) (text : List ℕ) → All IsPath (map string_bytes paths) → k < length paths → item ≡ get_or paths k item → text ≡ string_bytes item → IsPath text
path-at paths k item text are lt is e =
    let l = length-map paths string_bytes in
    subst IsPath (get_or-map string_bytes paths k item text lt ∙ (ap string_bytes (sym is) ∙ sym e)) (are k text (omega arith))
