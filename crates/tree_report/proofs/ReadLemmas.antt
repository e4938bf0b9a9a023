-- Verdicts and heads, file by file.
use Rattle.std.proofs.Common.{◌≡◌, ℕ, zero, suc, ◌+◌, ◌<◌, ◌||◌, Bool, true, false, cond, Option, Some, List, [], ◌∷◌, ◌++◌, length, map, filter, slice_get, get_or, codes, bytes_eq, All, refl, sym, ap, ◌∙◌, subst, arith}
use Rattle.std.proofs.lemmas.Option.{same_Some, slice_get_within, slice_get-get_or}
use Rattle.gv_base.specs.Files.{Entry}
use Rattle.parse_file.specs.declared.verdict.FileVerdict.{FileVerdict}
use Rattle.import_graph.specs.Sources.{is_source}
use Rattle.tree_report.specs.Limits.{is_limited, limited_sizes}

-- what holds of the items and of one item more
pub each-pushed : {X : Type 0} (P : ℕ → X → Type 0) (xs ys : List X) (n : ℕ) (x : X) → ys ≡ xs ++ x ∷ [] → length xs ≡ n
    → ((k : ℕ) (y : X) → slice_get xs k ≡ Some y → P k y) → P n x → (k : ℕ) (y : X) → slice_get ys k ≡ Some y → P k y
each-pushed {X} P xs ys n x is size old new k y at =
    part P xs k old (subst (λ m. P m x) (sym size) new) (subst (λ l. slice_get l k ≡ Some y) is at)
  where
    part : (Q : ℕ → X → Type 0) (zs : List X) (j : ℕ) → ((i : ℕ) (z : X) → slice_get zs i ≡ Some z → Q i z) → Q (length zs) x → slice_get (zs ++ x ∷ []) j ≡ Some y → Q j y
    part Q [] zero old new at = subst (Q 0) (same_Some x y at) new
    part Q [] (suc j) old new at = absurd (let l : j < 0 = slice_get_within [] j y at in omega (arith, l))
    part Q (z ∷ zs) zero old new at = old 0 y at
    part Q (z ∷ zs) (suc j) old new at = part (λ i u. Q (suc i) u) zs j (λ i u read. old (suc i) u read) new at

pub length-pushed : {X : Type 0} (xs ys : List X) (n : ℕ) (x : X) → ys ≡ xs ++ x ∷ [] → length xs ≡ n → length ys ≡ n + 1
length-pushed {X} xs ys n x is size = ap length is ∙ (snoc xs ∙ ap (λ m. m + 1) size)
  where
    snoc : (zs : List X) → length (zs ++ x ∷ []) ≡ length zs + 1
    snoc [] = refl
    snoc (z ∷ zs) = let e = snoc zs in omega (arith, e)

all-first : {X : Type 0} (P : X → Type 0) (x : X) (xs : List X) → All P (x ∷ xs) → P x
all-first P x xs all = all 0 x (omega arith)

all-others : {X : Type 0} (P : X → Type 0) (x : X) (xs : List X) → All P (x ∷ xs) → All P xs
all-others P x xs all n d lt = all (suc n) d (omega (arith, lt))

abbrev sizes : List Entry → List ℕ
sizes = map (λ entry. length entry.1)

abbrev limited : List Entry → List Entry
limited = filter (λ entry. is_limited entry.0)

differ : (b : Bool) → b ≡ true → b ≡ false → ⊥
differ true h k = cc
differ false h k = cc

size-kept : (P : ℕ → Type 0) (e : Entry) (es : List Entry) → is_limited e.0 ≡ true → All P (limited_sizes (e ∷ es)) → All P (length e.1 ∷ sizes (limited es))
size-kept P e es h all = subst (λ b. All P (sizes (cond b (e ∷ limited es) (limited es)))) h all

other-left : (P : ℕ → Type 0) (e : Entry) (es : List Entry) → is_limited e.0 ≡ false → All P (limited_sizes (e ∷ es)) → All P (sizes (limited es))
other-left P e es h all = subst (λ b. All P (sizes (cond b (e ∷ limited es) (limited es)))) h all

-- what holds of the sizes of all files that the limits count holds of that of each
limited-size : (P : ℕ → Type 0) (tree : List Entry) (n : ℕ) (path text : List ℕ) → All P (limited_sizes tree) → slice_get tree n ≡ Some (path, text) → is_limited path ≡ true → P (length text)
limited-size P [] n path text all at is = absurd (let l : n < 0 = slice_get_within [] n (path, text) at in omega (arith, l))
limited-size P (e ∷ es) n path text all at is = by (is_limited e.0) refl n at (λ others k there. limited-size P es k path text others there is)
  where
    by : (b : Bool) → is_limited e.0 ≡ b → (k : ℕ) → slice_get (e ∷ es) k ≡ Some (path, text) → (All P (sizes (limited es)) → (j : ℕ) → slice_get es j ≡ Some (path, text) → P (length text)) → P (length text)
    by true h zero here more = subst (λ (x : Entry). P (length x.1)) (same_Some e (path, text) here) (all-first P (length e.1) (sizes (limited es)) (size-kept P e es h all))
    by true h (suc k) there more = more (all-others P (length e.1) (sizes (limited es)) (size-kept P e es h all)) k there
    by false h zero here more = absurd (differ (is_limited path) is (sym (ap (λ (x : Entry). is_limited x.0) (same_Some e (path, text) here)) ∙ h))
    by false h (suc k) there more = more (other-left P e es h all) k there

-- source files are among them
pub source-limited : (path : List ℕ) → is_source path ≡ true → is_limited path ≡ true
source-limited path h = by (bytes_eq path (codes "go.mod")) (is_source path) h
  where
    by : (a b : Bool) → b ≡ true → (a || b) ≡ true
    by true b e = refl
    by false b e = e

pub source-size : (P : ℕ → Type 0) (tree : List Entry) (n : ℕ) (path text : List ℕ) → All P (limited_sizes tree) → slice_get tree n ≡ Some (path, text) → is_source path ≡ true → P (length text)
source-size P tree n path text all at is = limited-size P tree n path text all at (source-limited path is)

-- what holds of a file and of what is known of it holds of what is read at its number
pub pair-here : (Q : Entry → Option FileVerdict → Type 0) (files : List Entry) (verdicts : List (Option FileVerdict)) (n : ℕ) (entry : Entry) (verdict : Option FileVerdict)
    → slice_get files n ≡ Some entry → verdict ≡ get_or verdicts n verdict → n < length verdicts → Q entry verdict
    → (e : Entry) (v : Option FileVerdict) → slice_get files n ≡ Some e → slice_get verdicts n ≡ Some v → Q e v
pair-here Q files verdicts n entry verdict at is lt holds e v here there =
    let same : entry ≡ e = same_Some entry e (sym at ∙ here) in
    let known : slice_get verdicts n ≡ Some verdict = slice_get-get_or verdicts n verdict lt ∙ ap Some (sym is) in
    let alike : verdict ≡ v = same_Some verdict v (sym known ∙ there) in
    subst (Q e) alike (subst (λ x. Q x verdict) same holds)

-- what holds of what is read at a number holds of the item of that number
pub item-here : {X : Type 0} (Q : X → Type 0) (xs : List X) (n : ℕ) (item : X) → item ≡ get_or xs n item → n < length xs → Q item → (v : X) → slice_get xs n ≡ Some v → Q v
item-here Q xs n item is lt holds v there =
    subst Q (same_Some item v (sym (slice_get-get_or xs n item lt ∙ ap Some (sym is)) ∙ there)) holds
