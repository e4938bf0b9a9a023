-- Paths that are read byte by byte.
use Rattle.std.proofs.Common.{◌≡◌, inl, inr, ℕ, zero, suc, ◌+◌, ◌<◌, ◌≤◌, List, [], ◌∷◌, ◌++◌, length, take, drop, get_or, refl, sym, ap, ◌∙◌, arith, Bool, true, false, append_assoc}
use Rattle.std.specs.Prelude.{codes, ◌&&◌, ◌||◌, ◌==◌, nat_le, ltb, flat_map}
use Rattle.std.specs.Str.{IsAscii}
use Rattle.std.proofs.lemmas.List.{append-nil, length-append, take_all, length-take-le}
use Rattle.std.proofs.lemmas.List.Folds.{list_all-append}
use Rattle.std.proofs.lemmas.Bool.{ne_eqb, cases_eq, or_cases, and_parts, leb-true, ltb-true, eqb-true}
use Rattle.std.specs.List.{AllByRecursion, list_all}
use Rattle.gv_base.specs.Paths.{is_segment_byte, IsSegment, joined, slash, IsPath}
use Rattle.scripts.specs.declared.path.Segment.{Segment}
use Rattle.scripts.specs.declared.path.Segment.TheVariants.{Empty, Dot, Dots, Named, Broken}
use Rattle.scripts.specs.Segments.{is_path_byte, parted, dotted, named, step, segment_after}
use Rattle.scripts.specs.Runs.{IsRun}
use Rattle.scripts.proofs.RunLaws.{run-unique, run-within, cut}
use Rattle.scripts.proofs.Grammar.{append-split}

-- what a segment is that stands so
abbrev Means : Segment → List ℕ → Type 0
Means Empty seg = seg ≡ []
Means Dot seg = seg ≡ codes "."
Means Dots seg = seg ≡ codes ".."
Means Named seg = IsSegment seg
Means Broken seg = ⊥

step-slash : (s : Segment) (b : ℕ) → b ≡ 47 → step s b ≡ parted s
step-slash s b e = rw e refl

step-dot : (s : Segment) (b : ℕ) → b ≡ 46 → step s b ≡ dotted s
step-dot s b e = rw e refl

step-name : (s : Segment) (b : ℕ) → (b ≡ 47 → ⊥) → (b ≡ 46 → ⊥) → step s b ≡ named s
step-name s b h k = let x : (b == 47) ≡ false = ne_eqb b 47 h in let y : (b == 46) ≡ false = ne_eqb b 46 k in rw (x, y) refl

no_slash : (b : ℕ) → is_segment_byte b ≡ true → b ≡ 47 → ⊥
no_slash b h e = let t : is_segment_byte 47 ≡ true = rw e at h in let f : ◌≡◌ {A = Bool} false true = t in cc

-- the last byte of a short text
last-one : (xs : List ℕ) (b c : ℕ) → xs ++ b ∷ [] ≡ c ∷ [] → b ≡ c
last-one [] b c e = cc
last-one (x ∷ []) b c e = let l : length (x ∷ b ∷ []) ≡ length (c ∷ []) = ap length e in absurd (omega arith)
last-one (x ∷ y ∷ xs) b c e = let l : length (x ∷ y ∷ (xs ++ b ∷ [])) ≡ length (c ∷ []) = ap length e in absurd (omega arith)

last-two : (xs : List ℕ) (b c d : ℕ) → xs ++ b ∷ [] ≡ c ∷ d ∷ [] → (xs ≡ c ∷ []) × (b ≡ d)
last-two [] b c d e = let l : length (b ∷ []) ≡ length (c ∷ d ∷ []) = ap length e in absurd (omega arith)
last-two (x ∷ xs) b c d e =
    let t : xs ++ b ∷ [] ≡ d ∷ [] = cc in
    let h : x ≡ c = cc in
    (ap (λ z. x ∷ z) (nothing xs t) ∙ ap (λ z. z ∷ []) h, last-one xs b d t)
  where
    nothing : (xs : List ℕ) → xs ++ b ∷ [] ≡ d ∷ [] → xs ≡ []
    nothing [] e = refl
    nothing (y ∷ xs) e = let l : length (y ∷ (xs ++ b ∷ [])) ≡ length (d ∷ []) = ap length e in let m : length (xs ++ b ∷ []) ≡ length xs + 1 = length-append xs (b ∷ []) in absurd (omega arith)

one-more : (xs : List ℕ) (b : ℕ) → 0 < length (xs ++ b ∷ [])
one-more xs b = let m : length (xs ++ b ∷ []) ≡ length xs + 1 = length-append xs (b ∷ []) in omega arith

all-more : (xs : List ℕ) (b : ℕ) → list_all is_segment_byte xs ≡ true → is_segment_byte b ≡ true → list_all is_segment_byte (xs ++ b ∷ []) ≡ true
all-more xs b h k = list_all-append is_segment_byte xs (b ∷ []) ∙ ap (λ z. z && list_all is_segment_byte (b ∷ [])) h ∙ ap (λ z. z && true) k

each-of : (s : Segment) (seg : List ℕ) → Means s seg → list_all is_segment_byte seg ≡ true
each-of Empty seg m = rw m refl
each-of Dot seg m = rw m refl
each-of Dots seg m = rw m refl
each-of Named seg m = m.each
each-of Broken seg m = absurd m

-- a byte that is no dot makes a segment
named-more : (s : Segment) (seg : List ℕ) (b : ℕ) → Means s seg → is_segment_byte b ≡ true → (b ≡ 46 → ⊥) → IsSegment (seg ++ b ∷ [])
named-more s seg b m h k = record { each = all-more seg b (each-of s seg m) h; some = one-more seg b; not_here = λ e. k (last-one seg b 46 e); not_above = λ e. k (last-two seg b 46 46 e).1 }

dotted-more : (s : Segment) (seg : List ℕ) → Means s seg → Means (dotted s) (seg ++ 46 ∷ [])
dotted-more Empty seg m = ap (λ z. z ++ 46 ∷ []) m
dotted-more Dot seg m = ap (λ z. z ++ 46 ∷ []) m
dotted-more Dots seg m = rw m (record { each = refl; some = omega arith; not_here = λ e. (let l : length (codes "...") ≡ length (codes ".") = ap length e in omega arith); not_above = λ e. (let l : length (codes "...") ≡ length (codes "..") = ap length e in omega arith) })
dotted-more Named seg m = record {
  each = all-more seg 46 m.each refl;
  some = one-more seg 46;
  not_here = λ e. (let l : length (seg ++ 46 ∷ []) ≡ length (codes ".") = ap length e in let k : length (seg ++ 46 ∷ []) ≡ length seg + 1 = length-append seg (46 ∷ []) in let s = m.some in omega arith);
  not_above = λ e. m.not_here (last-two seg 46 46 46 e).0;
}
dotted-more Broken seg m = absurd m

named-as : (s : Segment) (seg : List ℕ) (x : List ℕ) → Means s seg → IsSegment x → Means (named s) x
named-as Empty seg x m h = h
named-as Dot seg x m h = h
named-as Dots seg x m h = h
named-as Named seg x m h = h
named-as Broken seg x m h = absurd m

step-more : (s : Segment) (seg : List ℕ) (b : ℕ) → Means s seg → is_segment_byte b ≡ true → Means (step s b) (seg ++ b ∷ [])
step-more s seg b m h = elim (cases_eq b 46) [
  | inl e ↦ rw (step-dot s b e) (rw e (dotted-more s seg m))
  | inr n ↦ rw (step-name s b (no_slash b h) n) (named-as s seg (seg ++ b ∷ []) m (named-more s seg b m h n))
]

after-more : (s : Segment) (seg xs : List ℕ) → Means s seg → list_all is_segment_byte xs ≡ true → Means (segment_after s xs) (seg ++ xs)
after-more s seg [] m h = rw (append-nil seg) m
after-more s seg (x ∷ xs) m h =
    let p = both (is_segment_byte x) (list_all is_segment_byte xs) h in
    let r : Means (segment_after (step s x) xs) ((seg ++ x ∷ []) ++ xs) = after-more (step s x) (seg ++ x ∷ []) xs (step-more s seg x m p.0) p.1 in
    rw (append_assoc seg (x ∷ []) xs) at r
  where
    both : (a b : Bool) → (a && b) ≡ true → (a ≡ true) × (b ≡ true)
    both true b h = (refl, h)
    both false b h = absurd (let f : ◌≡◌ {A = Bool} false true = h in cc)

broken-stays : (xs : List ℕ) → segment_after Broken xs ≡ Broken
broken-stays [] = refl
broken-stays (x ∷ xs) = elim (cases_eq x 47) [
  | inl e ↦ rw (step-slash Broken x e) (broken-stays xs)
  | inr n ↦ elim (cases_eq x 46) [
    | inl e ↦ rw (step-dot Broken x e) (broken-stays xs)
    | inr k ↦ rw (step-name Broken x n k) (broken-stays xs)
  ]
]

-- segments joined by slashes
record Segmented (path : List ℕ) : Type 0 where
  first : List ℕ
  others : List (List ℕ)
  first_lawful : IsSegment first
  others_lawful : AllByRecursion IsSegment others
  parts : path ≡ joined first others

not-broken : (xs : List ℕ) → segment_after Broken xs ≡ Named → ⊥
not-broken xs e = let t : Broken ≡ Named = sym (broken-stays xs) ∙ e in cc

-- a byte of a path that is no slash is one of a segment
inside : (b : ℕ) → is_path_byte b ≡ true → (b ≡ 47 → ⊥) → is_segment_byte b ≡ true
inside b h n = elim (or_cases (is_segment_byte b) (b == 47) h) [
  | inl a ↦ a
  | inr a ↦ let f : (b == 47) ≡ false = ne_eqb b 47 n in let x : ◌≡◌ {A = Bool} true false = sym a ∙ f in cc
]

parted-named : (s : Segment) (xs : List ℕ) → segment_after (parted s) xs ≡ Named → s ≡ Named
parted-named Empty xs e = absurd (not-broken xs e)
parted-named Dot xs e = absurd (not-broken xs e)
parted-named Dots xs e = absurd (not-broken xs e)
parted-named Named xs e = refl
parted-named Broken xs e = absurd (not-broken xs e)

-- what is read to the end of a segment is segments
sound : (s : Segment) (seg xs : List ℕ) → Means s seg → AllByRecursion (λ b. is_path_byte b ≡ true) xs → segment_after s xs ≡ Named → Segmented (seg ++ xs)
sound s seg [] m a e =
    let h : Means Named seg = rw e at m in
    record { first = seg; others = []; first_lawful = h; others_lawful = tt; parts = refl }
sound s seg (x ∷ xs) m a e = elim (cases_eq x 47) [
  | inl q ↦
      let after : segment_after (parted s) xs ≡ Named = ap (λ z. segment_after z xs) (sym (step-slash s x q)) ∙ e in
      let n : s ≡ Named = parted-named s xs after in
      let h : Means Named seg = rw n at m in
      let r = sound Empty [] xs refl a.1 (ap (λ z. segment_after (parted z) xs) (sym n) ∙ after) in
      record {
        first = seg;
        others = r.first ∷ r.others;
        first_lawful = h;
        others_lawful = (r.first_lawful, r.others_lawful);
        parts = ap (λ z. seg ++ z ∷ xs) q ∙ ap (λ z. seg ++ 47 ∷ z) r.parts;
      }
  | inr n ↦
      let r = sound (step s x) (seg ++ x ∷ []) xs (step-more s seg x m (inside x a.0 n)) a.1 e in
      record { first = r.first; others = r.others; first_lawful = r.first_lawful; others_lawful = r.others_lawful; parts = sym (append_assoc seg (x ∷ []) xs) ∙ r.parts }
]

pub path-whole : (xs : List ℕ) → AllByRecursion (λ b. is_path_byte b ≡ true) xs → segment_after Empty xs ≡ Named → length xs ≤ 1024 → IsPath xs
path-whole xs a e most =
    let r = sound Empty [] xs refl a e in
    record { first = r.first; others = r.others; first_lawful = r.first_lawful; others_lawful = r.others_lawful; parts = r.parts; most = most }

pub after-append : (s : Segment) (xs ys : List ℕ) → segment_after s (xs ++ ys) ≡ segment_after (segment_after s xs) ys
after-append s [] ys = refl
after-append s (x ∷ xs) ys = after-append (step s x) xs ys

means-segment : (s : Segment) (seg : List ℕ) → Means s seg → IsSegment seg → s ≡ Named
means-segment Empty seg m h = let l : length seg ≡ 0 = ap length m in let k = h.some in absurd (omega arith)
means-segment Dot seg m h = absurd (h.not_here m)
means-segment Dots seg m h = absurd (h.not_above m)
means-segment Named seg m h = refl
means-segment Broken seg m h = absurd m

segment-named : (seg : List ℕ) → IsSegment seg → segment_after Empty seg ≡ Named
segment-named seg h = means-segment (segment_after Empty seg) seg (after-more Empty [] seg refl h.each) h

-- segments are read to the end of one
complete : (first : List ℕ) (others : List (List ℕ)) → IsSegment first → AllByRecursion IsSegment others → segment_after Empty (joined first others) ≡ Named
complete first [] h a = ap (segment_after Empty) (append-nil first) ∙ segment-named first h
complete first (next ∷ others) h a =
    after-append Empty first (47 ∷ (next ++ flat_map (λ segment. slash ∷ segment) others)) ∙ ap (λ z. segment_after z (47 ∷ (next ++ flat_map (λ segment. slash ∷ segment) others))) (segment-named first h) ∙ complete next others a.0 a.1

pub path-named : (path : List ℕ) → IsPath path → segment_after Empty path ≡ Named
path-named path h = ap (segment_after Empty) h.parts ∙ complete h.first h.others h.first_lawful h.others_lawful

all-append : (xs ys : List ℕ) → AllByRecursion (λ b. is_path_byte b ≡ true) xs → AllByRecursion (λ b. is_path_byte b ≡ true) ys → AllByRecursion (λ b. is_path_byte b ≡ true) (xs ++ ys)
all-append [] ys h k = k
all-append (x ∷ xs) ys h k = (h.0, all-append xs ys h.1 k)

segment-bytes : (xs : List ℕ) → list_all is_segment_byte xs ≡ true → AllByRecursion (λ b. is_path_byte b ≡ true) xs
segment-bytes [] h = tt
segment-bytes (x ∷ xs) h = let p = both (is_segment_byte x) (list_all is_segment_byte xs) h in (ap (λ z. z || x == 47) p.0, segment-bytes xs p.1)
  where
    both : (a b : Bool) → (a && b) ≡ true → (a ≡ true) × (b ≡ true)
    both true b h = (refl, h)
    both false b h = absurd (let f : ◌≡◌ {A = Bool} false true = h in cc)

joined-bytes : (first : List ℕ) (others : List (List ℕ)) → IsSegment first → AllByRecursion IsSegment others → AllByRecursion (λ b. is_path_byte b ≡ true) (joined first others)
joined-bytes first [] h a = rw (append-nil first) (segment-bytes first h.each)
joined-bytes first (next ∷ others) h a = all-append first (47 ∷ joined next others) (segment-bytes first h.each) (refl, joined-bytes next others a.0 a.1)

-- the bytes of a path
pub path-bytes : (path : List ℕ) → IsPath path → AllByRecursion (λ b. is_path_byte b ≡ true) path
path-bytes path h = rw h.parts (joined-bytes h.first h.others h.first_lawful h.others_lawful)

joined-some : (first : List ℕ) (others : List (List ℕ)) → IsSegment first → 0 < length (joined first others)
joined-some first others h = let l : length (joined first others) ≡ length first + length (flat_map (λ segment. slash ∷ segment) others) = length-append first (flat_map (λ segment. slash ∷ segment) others) in let s = h.some in omega arith

pub path-some : (path : List ℕ) → IsPath path → 0 < length path
path-some path h = rw h.parts (joined-some h.first h.others h.first_lawful)

run-all : (bytes : List ℕ) → IsRun is_path_byte bytes (length bytes) → AllByRecursion (λ b. is_path_byte b ≡ true) bytes
run-all bytes r = rw (take_all (length bytes) bytes (omega arith)) at r.each

-- what may be a path that has not ended
pub path-part : (stop : ℕ) (bytes : List ℕ) → IsRun is_path_byte bytes (length bytes) → segment_after Empty bytes ≡ Named → length bytes ≤ 1024 → (path : List ℕ) × (more : List ℕ) × IsPath path × (0 < length more) × (bytes ++ more ≡ path ++ stop ∷ [])
path-part stop bytes r e most = (bytes, stop ∷ [], path-whole bytes (run-all bytes r) e most, omega arith, refl)

-- what is a path with one more byte
pub path-open : (stop : ℕ) (bytes : List ℕ) → IsRun is_path_byte bytes (length bytes) → named (segment_after Empty bytes) ≡ Named → length bytes < 1024 → (path : List ℕ) × (more : List ℕ) × IsPath path × (0 < length more) × (bytes ++ more ≡ path ++ stop ∷ [])
path-open stop bytes r e most =
    let l : length (bytes ++ 97 ∷ []) ≡ length bytes + 1 = length-append bytes (97 ∷ []) in (
      bytes ++ 97 ∷ [],
      97 ∷ stop ∷ [],
      path-whole (bytes ++ 97 ∷ []) (all-append bytes (97 ∷ []) (run-all bytes r) (refl, tt)) (after-append Empty bytes (97 ∷ []) ∙ e) (omega arith),
      omega arith,
      sym (append_assoc bytes (97 ∷ []) (stop ∷ [])),
    )

empty-list : (xs : List ℕ) → length xs ≡ 0 → xs ≡ []
empty-list [] e = refl
empty-list (x ∷ xs) e = absurd (omega arith)

-- a path that these bytes begin goes on from them
path-continues : (stop : ℕ) → is_path_byte stop ≡ false → (bytes : List ℕ) → IsRun is_path_byte bytes (length bytes) → (path more after : List ℕ) → bytes ++ more ≡ path ++ stop ∷ after → (rest : List ℕ) × (path ≡ bytes ++ rest)
path-continues stop stops bytes r path more after e =
    let w : length bytes ≤ length path = run-within is_path_byte bytes more path stop after (run-all bytes r) stops e in
    elim (append-split bytes path more (stop ∷ after) e) [
      | inl c ↦ (c.more, c.whole)
      | inr c ↦
          let l : length bytes ≡ length path + length c.more = ap length c.whole ∙ length-append path c.more in
          let n : c.more ≡ [] = empty-list c.more (omega arith) in
          ([], sym (append-nil path) ∙ ap (λ z. path ++ z) (sym n) ∙ sym c.whole ∙ sym (append-nil bytes))
    ]

-- a segment of them is none
pub path-broken : (stop : ℕ) → is_path_byte stop ≡ false → (bytes : List ℕ) → IsRun is_path_byte bytes (length bytes) → segment_after Empty bytes ≡ Broken → (path more after : List ℕ) → IsPath path → bytes ++ more ≡ path ++ stop ∷ after → ⊥
path-broken stop stops bytes r b path more after h e =
    let c = path-continues stop stops bytes r path more after e in
    not-broken c.0 (ap (λ z. segment_after z c.0) (sym b) ∙ sym (after-append Empty bytes c.0) ∙ ap (segment_after Empty) (sym c.1) ∙ path-named path h)

-- they are too many
pub path-long : (stop : ℕ) → is_path_byte stop ≡ false → (bytes : List ℕ) → IsRun is_path_byte bytes (length bytes) → 1024 < length bytes → (path more after : List ℕ) → IsPath path → bytes ++ more ≡ path ++ stop ∷ after → ⊥
path-long stop stops bytes r long path more after h e =
    let w : length bytes ≤ length path = run-within is_path_byte bytes more path stop after (run-all bytes r) stops e in
    let m = h.most in omega arith

-- they are as many as a path has, and are none
pub path-full : (stop : ℕ) → is_path_byte stop ≡ false → (bytes : List ℕ) → IsRun is_path_byte bytes (length bytes) → 1024 ≤ length bytes → (segment_after Empty bytes ≡ Named → ⊥) → (path more after : List ℕ) → IsPath path → bytes ++ more ≡ path ++ stop ∷ after → ⊥
path-full stop stops bytes r long n path more after h e =
    let c = path-continues stop stops bytes r path more after e in
    let l : length path ≡ length bytes + length c.0 = ap length c.1 ∙ length-append bytes c.0 in
    let m = h.most in
    let z : c.0 ≡ [] = empty-list c.0 (omega arith) in
    let s : path ≡ bytes = c.1 ∙ ap (λ z. bytes ++ z) z ∙ append-nil bytes in
    n (ap (segment_after Empty) (sym s) ∙ path-named path h)

-- the path that ends where the run does
stopped : (stop : ℕ) → is_path_byte stop ≡ false → (bytes : List ℕ) (n : ℕ) → IsRun is_path_byte bytes n → n < length bytes → (path more after : List ℕ) → IsPath path → bytes ++ more ≡ path ++ stop ∷ after → (take n bytes ≡ path) × (get_or bytes n 0 ≡ stop)
stopped stop stops bytes n r short path more after h e =
    let s = run-unique is_path_byte (take n bytes) path (get_or bytes n 0) stop (drop (n + 1) bytes ++ more) after r.each (path-bytes path h) (r.ends short) stops
    (sym (append_assoc (take n bytes) (get_or bytes n 0 ∷ drop (n + 1) bytes) more) ∙ ap (λ z. z ++ more) (sym (cut bytes n short)) ∙ e) in
    (s.run, s.stop)

-- the run ends at another byte
pub path-stop : (stop : ℕ) → is_path_byte stop ≡ false → (bytes : List ℕ) (n : ℕ) → IsRun is_path_byte bytes n → n < length bytes → (get_or bytes n 0 ≡ stop → ⊥) → (path more after : List ℕ) → IsPath path → bytes ++ more ≡ path ++ stop ∷ after → ⊥
path-stop stop stops bytes n r short never path more after h e = never (stopped stop stops bytes n r short path more after h e).1

-- the run is too long
pub path-longer : (stop : ℕ) → is_path_byte stop ≡ false → (bytes : List ℕ) (n : ℕ) → IsRun is_path_byte bytes n → n < length bytes → 1024 < n → (path more after : List ℕ) → IsPath path → bytes ++ more ≡ path ++ stop ∷ after → ⊥
path-longer stop stops bytes n r short long path more after h e =
    let s = stopped stop stops bytes n r short path more after h e in
    let l : length (take n bytes) ≡ n = length-take-le n bytes r.within in
    let k : length (take n bytes) ≡ length path = ap length s.0 in
    let m = h.most in omega arith

-- the run is no path
pub path-unnamed : (stop : ℕ) → is_path_byte stop ≡ false → (bytes : List ℕ) (n : ℕ) → IsRun is_path_byte bytes n → n < length bytes → (segment_after Empty (take n bytes) ≡ Named → ⊥) → (path more after : List ℕ) → IsPath path → bytes ++ more ≡ path ++ stop ∷ after → ⊥
path-unnamed stop stops bytes n r short never path more after h e =
    let s = stopped stop stops bytes n r short path more after h e in
    never (ap (segment_after Empty) s.0 ∙ path-named path h)

-- a path, and the byte that stops it
pub path-read : (stop : ℕ) (bytes : List ℕ) (n : ℕ) → IsRun is_path_byte bytes n → n ≤ 1024 → n < length bytes → get_or bytes n 0 ≡ stop → segment_after Empty (take n bytes) ≡ Named → IsPath (take n bytes) × (n < length bytes) × (bytes ≡ take n bytes ++ stop ∷ drop (n + 1) bytes)
path-read stop bytes n r most short e named =
    let l : length (take n bytes) ≡ n = length-take-le n bytes r.within in
    (path-whole (take n bytes) r.each named (omega arith), short, cut bytes n short ∙ ap (λ z. take n bytes ++ z ∷ drop (n + 1) bytes) e)

in-range : (low high b : ℕ) → (nat_le low b && nat_le b high) ≡ true → b ≤ high
in-range low high b h = leb-true b high (and_parts (nat_le low b) (nat_le b high) h).1

is-byte : (b c : ℕ) → (b == c) ≡ true → b ≡ c
is-byte b c h = eqb-true b c h

byte-small : (b c : ℕ) → ltb c 128 ≡ true → (b == c) ≡ true → b < 128
byte-small b c h e = let k : c < 128 = ltb-true c 128 h in let f : b ≡ c = is-byte b c e in omega arith

range-small : (low high b : ℕ) → ltb high 128 ≡ true → (nat_le low b && nat_le b high) ≡ true → b < 128
range-small low high b h e = let k : high < 128 = ltb-true high 128 h in let f : b ≤ high = in-range low high b e in omega arith

segment-small : (b : ℕ) → is_segment_byte b ≡ true → b < 128
segment-small b h = elim (or_cases _ _ h) [
  | inr a ↦ byte-small b 64 refl a
  | inl h ↦ elim (or_cases _ _ h) [
    | inr a ↦ byte-small b 126 refl a
    | inl h ↦ elim (or_cases _ _ h) [
      | inr a ↦ byte-small b 43 refl a
      | inl h ↦ elim (or_cases _ _ h) [
        | inr a ↦ byte-small b 45 refl a
        | inl h ↦ elim (or_cases _ _ h) [
          | inr a ↦ byte-small b 46 refl a
          | inl h ↦ elim (or_cases _ _ h) [
            | inr a ↦ byte-small b 95 refl a
            | inl h ↦ elim (or_cases _ _ h) [
              | inr a ↦ range-small 48 57 b refl a
              | inl h ↦ elim (or_cases _ _ h) [
                | inr a ↦ range-small 97 122 b refl a
                | inl a ↦ range-small 65 90 b refl a
              ]
            ]
          ]
        ]
      ]
    ]
  ]
]

path-small : (b : ℕ) → is_path_byte b ≡ true → b < 128
path-small b h = elim (or_cases (is_segment_byte b) (b == 47) h) [
  | inl a ↦ segment-small b a
  | inr a ↦ let e = is-byte b 47 a in omega arith
]

all-small : (xs : List ℕ) → AllByRecursion (λ b. is_path_byte b ≡ true) xs → (i : ℕ) → get_or xs i 0 < 128
all-small [] a i = omega arith
all-small (x ∷ xs) a zero = path-small x a.0
all-small (x ∷ xs) a (suc i) = all-small xs a.1 i

-- a path is ASCII
pub path-ascii : (path : List ℕ) → IsPath path → IsAscii path
path-ascii path h = all-small path (path-bytes path h)
