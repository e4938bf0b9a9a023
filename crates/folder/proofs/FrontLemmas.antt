-- The files of a tree that are read one after the other are those that a run reads, in order of path.
use Rattle.std.proofs.Common.{◌≡◌, ◌≤◌, All, ℕ, zero, suc, ◌+◌, ◌<◌, Bool, true, false, cond, Option, Some, None, List, [], ◌∷◌, ◌++◌, length, map, filter, fold, take, get_or, refl, sym, ap, ◌∙◌, subst, arith, append_assoc}
use Rattle.std.specs.Prelude.{bytes_eq, AllPairs}
use Rattle.std.specs.List.{AllByRecursion}
use Rattle.std.proofs.lemmas.List.{append-nil, length-append, take_all}
use Rattle.std.proofs.lemmas.Slice.Eq.{bytes_eq-Decides}
use Rattle.std.proofs.lemmas.List.Elements.{All-append, All-cons, All-filter, recursion_from_All}
use Rattle.gv_base.specs.Paths.{IsPath}
use Rattle.gv_base.specs.Files.{Entry, AreInOrder, is_before, file_at, put_file}
use Rattle.gv_base.specs.Trees.{AreHeld, ArePaths, IsFront, front_of, paths_of}
use Rattle.gv_base.proofs.FileLemmas.{before-flip, before-other}
use Rattle.folder.specs.Folders.{AreAtPaths, AreFitting, ReadsFronts, front, fronts, is_read, with_front}

-- each of these stands before the path
abbrev pub AreBefore : List ℕ → List Entry → Type 0
AreBefore path files = AllByRecursion (λ e. is_before e.0 path ≡ true) files

-- the file behind those that stand before it
at-behind : (xs ys : List Entry) (y : Entry) → AreBefore y.0 xs → file_at (xs ++ y ∷ ys) y.0 ≡ Some y.1
at-behind [] ys y h = ap (λ b. cond b (Some y.1) (file_at ys y.0)) ((bytes_eq-Decides y.0 y.0).1 refl)
at-behind (x ∷ xs) ys y h = ap (λ b. cond b (Some x.1) (file_at (xs ++ y ∷ ys) y.0)) (before-other x.0 y.0 h.0) ∙ at-behind xs ys y h.1

all-before : (files : List Entry) (path : List ℕ) → AreBefore path files → filter (λ file. is_before file.0 path) files ≡ files
all-before [] path h = refl
all-before (x ∷ xs) path h = ap (λ b. cond b (x ∷ filter (λ file. is_before file.0 path) xs) (filter (λ file. is_before file.0 path) xs)) h.0 ∙ ap (λ t. x ∷ t) (all-before xs path h.1)

none-after : (files : List Entry) (path : List ℕ) → AreBefore path files → filter (λ file. is_before path file.0) files ≡ []
none-after [] path h = refl
none-after (x ∷ xs) path h =
    ap (λ b. cond b (x ∷ filter (λ file. is_before path file.0) xs) (filter (λ file. is_before path file.0) xs)) (before-flip x.0 path h.0) ∙ none-after xs path h.1

put-behind : (files : List Entry) (path bytes : List ℕ) → AreBefore path files → put_file files path bytes ≡ files ++ (path, bytes) ∷ []
put-behind files path bytes h =
    ap (λ t. t ++ (path, bytes) ∷ filter (λ file. is_before path file.0) files) (all-before files path h) ∙ ap (λ t. files ++ (path, bytes) ∷ t) (none-after files path h)

-- what is read of files that stand before a path does
fronts-before : (most : ℕ) (files : List Entry) (path : List ℕ) → AreBefore path files → AreBefore path (fronts most files)
fronts-before most [] path h = tt
fronts-before most (x ∷ xs) path h = by (is_read x.0) (fronts-before most xs path h.1)
  where
    by : (b : Bool) → AreBefore path (fronts most xs) → AreBefore path (map (front most) (cond b (x ∷ filter (λ file. is_read file.0) xs) (filter (λ file. is_read file.0) xs)))
    by true rest = (h.0, rest)
    by false rest = rest

fronts-join : (most : ℕ) (xs ys : List Entry) → fronts most (xs ++ ys) ≡ fronts most xs ++ fronts most ys
fronts-join most [] ys = refl
fronts-join most (x ∷ xs) ys = by (is_read x.0) (fronts-join most xs ys)
  where
    by : (b : Bool) → fronts most (xs ++ ys) ≡ fronts most xs ++ fronts most ys
        → map (front most) (cond b (x ∷ filter (λ file. is_read file.0) (xs ++ ys)) (filter (λ file. is_read file.0) (xs ++ ys)))
        ≡ map (front most) (cond b (x ∷ filter (λ file. is_read file.0) xs) (filter (λ file. is_read file.0) xs)) ++ fronts most ys
    by true rest = ap (λ t. front most x ∷ t) rest
    by false rest = rest

-- one file more
step : (most : ℕ) (xs ys : List Entry) (y : Entry) → AreBefore y.0 xs → with_front most (xs ++ y ∷ ys) (fronts most xs) y.0 ≡ fronts most (xs ++ y ∷ [])
step most xs ys y h = by (is_read y.0) refl ∙ sym (fronts-join most xs (y ∷ []))
  where
    by : (b : Bool) → is_read y.0 ≡ b
        → cond b (put_file (fronts most xs) y.0 (front_of most (file_at (xs ++ y ∷ ys) y.0))) (fronts most xs)
        ≡ fronts most xs ++ map (front most) (cond b (y ∷ []) [])
    by true e =
        put-behind (fronts most xs) y.0 (front_of most (file_at (xs ++ y ∷ ys) y.0)) (fronts-before most xs y.0 h)
        ∙ ap (λ o. fronts most xs ++ (y.0, front_of most o) ∷ []) (at-behind xs ys y h)
    by false e = sym (append-nil (fronts most xs))

-- ---- order

at-length : (xs ys : List Entry) (y d : Entry) → get_or (xs ++ y ∷ ys) (length xs) d ≡ y
at-length [] ys y d = refl
at-length (x ∷ xs) ys y d = at-length xs ys y d

before-here : (xs ys : List Entry) (y : Entry) → AreInOrder (xs ++ y ∷ ys) → AreBefore y.0 xs
before-here [] ys y h = tt
before-here (x ∷ xs) ys y h =
    let size : length (xs ++ y ∷ ys) ≡ length xs + length (y ∷ ys) = length-append xs (y ∷ ys) in (
      subst (λ (e : Entry). is_before x.0 e.0 ≡ true) (at-length xs ys y y) (h 0 (suc (length xs)) y (omega arith) (omega (arith, size))),
      before-here xs ys y (λ i j d lt within. h (suc i) (suc j) d (omega (arith, lt)) (omega (arith, within))),
    )

goes : (most : ℕ) (held xs ys : List Entry) → held ≡ xs ++ ys → AreInOrder held → fold (with_front most held) (fronts most xs) (paths_of ys) ≡ fronts most held
goes most held xs [] e ordered = ap (fronts most) (sym (append-nil xs) ∙ sym e)
goes most held xs (y ∷ ys) e ordered =
    ap (λ t. fold (with_front most held) t (paths_of ys))
    (ap (λ (l : List Entry). with_front most l (fronts most xs) y.0) e ∙ step most xs ys y (before-here xs ys y (subst AreInOrder e ordered)))
    ∙ goes most held (xs ++ y ∷ []) ys (e ∙ sym (append_assoc xs (y ∷ []) ys)) ordered

-- files whose paths are in order are
ordered-by : (files : List Entry) → AllPairs (λ p q. is_before p q ≡ true) (paths_of files) → AreInOrder files
ordered-by files h i j d lt within =
    subst (λ p. is_before p (get_or files j d).0 ≡ true) (path-of files i d) (subst (λ p. is_before (get_or (paths_of files) i d.0) p ≡ true) (path-of files j d) (h i j d.0 lt (subst (λ n. j < n) (sym (size files)) within)))
  where
    path-of : (files : List Entry) (k : ℕ) (d : Entry) → get_or (paths_of files) k d.0 ≡ (get_or files k d).0
    path-of [] k d = refl
    path-of (f ∷ fs) zero d = refl
    path-of (f ∷ fs) (suc k) d = path-of fs k d

    size : (files : List Entry) → length (paths_of files) ≡ length files
    size [] = refl
    size (f ∷ fs) = ap suc (size fs)

-- all paths of a tree, one after the other
pub all-fronts : (most : ℕ) (held : List Entry) (paths : List (List ℕ)) → ArePaths paths → paths ≡ paths_of held → fold (with_front most held) [] paths ≡ fronts most held
all-fronts most held paths are same =
    ap (λ l. fold (with_front most held) [] l) same ∙ goes most held [] held refl (ordered-by held (subst (AllPairs (λ p q. is_before p q ≡ true)) same are.order))

-- what was read of a tree, by whether it tells what it holds
pub reads-by : (most : ℕ) (files now : Option (List Entry)) (paths : List (List ℕ)) (read : List Entry) → ArePaths paths → AreHeld files paths → now ≡ files → ((held : List Entry) → now ≡ Some held → read ≡ fold (with_front most held) [] paths)
    → ReadsFronts most files read
reads-by most None now paths read are held same h = tt
reads-by most (Some held) now paths read are is same h = h held same ∙ all-fronts most held paths are is

-- one path of a tree that tells
pub front-of : (most : ℕ) (view now : Option (List Entry)) (files new : List Entry) (path bytes : List ℕ) → is_read path ≡ true → IsFront view path most bytes → new ≡ put_file files path bytes → (held : List Entry) → view ≡ Some held → new ≡ with_front most held files path
front-of most view now files new path bytes yes_read front put held is =
    let here : bytes ≡ front_of most (file_at held path) = subst (λ v. IsFront v path most bytes) is front in
    put ∙ (ap (put_file files path) here ∙ sym (ap (λ b. cond b (put_file files path (front_of most (file_at held path))) files) yes_read))

-- a file more, of which that holds that holds of the others
put_holds : (P : Entry → Type 0) (files new : List Entry) (path bytes : List ℕ) → P (path, bytes) → new ≡ put_file files path bytes → All P files → All P new
put_holds P files new path bytes is e each =
    subst (All P) (sym e) (All-append P (filter (λ file. is_before file.0 path) files) ((path, bytes) ∷ filter (λ file. is_before path file.0) files) (All-filter (λ file. is_before file.0 path) P files each)
    (All-cons P (path, bytes) (filter (λ file. is_before path file.0) files) is (All-filter (λ file. is_before path file.0) P files each)))

-- a file more at a path
pub put_paths : (files new : List Entry) (path bytes : List ℕ) → IsPath path → new ≡ put_file files path bytes → AreAtPaths files → AreAtPaths new
put_paths files new path bytes is e paths = put_holds (λ (e : Entry). IsPath e.0) files new path bytes is e paths

-- a file more as a run reads it
pub put_fitting : (most : ℕ) (files new : List Entry) (path bytes : List ℕ) → is_read path ≡ true → length bytes ≤ most → new ≡ put_file files path bytes → AreFitting most files → AreFitting most new
put_fitting most files new path bytes chosen short e fit = put_holds (λ (e : Entry). (is_read e.0 ≡ true) × (length e.1 ≤ most)) files new path bytes (chosen, short) e fit

-- files that are as a run reads them are read as they are
whole-files : (most : ℕ) (files : List Entry) → AllByRecursion (λ (e : Entry). (is_read e.0 ≡ true) × (length e.1 ≤ most)) files → fronts most files ≡ files
whole-files most [] h = refl
whole-files most (f ∷ fs) h =
    ap (λ b. map (front most) (cond b (f ∷ filter (λ file. is_read file.0) fs) (filter (λ file. is_read file.0) fs))) h.0.0
    ∙ (ap (λ bytes. (f.0, bytes) ∷ fronts most fs) (take_all most f.1 h.0.1) ∙ ap (λ t. f ∷ t) (whole-files most fs h.1))

pub read-whole : (most : ℕ) (files : List Entry) → AreFitting most files → fronts most files ≡ files
read-whole most files fit = whole-files most files (recursion_from_All (λ (e : Entry). (is_read e.0 ≡ true) × (length e.1 ≤ most)) files fit)
