-- What is asked of the texts of a sound package.
use Rattle.std.proofs.Common.{◌≡◌, ℕ, suc, ◌+◌, ◌-◌, ◌<◌, ◌≤◌, ◌^◌, ◌&&◌, ◌==◌, Bool, true, false, cond, Option, Some, None, List, [], ◌∷◌, ◌++◌, length, map, filter, take, drop, nat_le, length-drop, codes, slice_get, get_or, bytes_eq, refl, sym, ap, ◌∙◌, subst, arith}
use Rattle.std.specs.List.{All}
use Rattle.std.proofs.lemmas.Bool.{and_parts, leb-true}
use Rattle.std.proofs.lemmas.Option.{get_or_from_slice_get, slice_get-get_or}
use Rattle.std.proofs.lemmas.List.Kept.{AllPairs-filter}
use Rattle.std.proofs.lemmas.Slice.Eq.{bytes_eq-Decides}
use Rattle.gv_base.specs.Files.{Entry, AreInOrder, file_at, is_before}
use Rattle.std.proofs.lemmas.List.{length-map, length-take-le}
use Rattle.tree_report.proofs.ReadLemmas.{source-limited, source-size}
use Rattle.import_graph.specs.Sources.{is_source, is_stub, bare, directory_of, module_package, package_of}
use Rattle.gv_base.specs.Paths.{slash}
use Rattle.std.specs.Str.{is_utf8}
use Rattle.go_tree.specs.ImportPaths.{are_segments}
use Rattle.import_graph.specs.Modules.{module_path, module_in, module_line, lines_of, path_named, path_in, is_path, unquoted, second_word, until}
use Rattle.import_graph.specs.declared.go_mod.Stop.TheVariants.{Comment}
use Rattle.import_graph.specs.Packages.{home_of, is_of, numbers_from, files_of, is_stub_path}
use Rattle.import_graph.proofs.ListLemmas.{some-numbers, in-mapped}
use Rattle.analysis_core.specs.Replies.{file_numbered}
use Rattle.gv_driver.specs.Nodes.{AreNamed}
use Rattle.tree_report.specs.Limits.{is_limited, limited_sizes}

-- the files of numbers that pass a test are the files that pass it
numbered-from : (tree whole : List Entry) (test : Entry → Bool) (n : ℕ) → ((k : ℕ) (e : Entry) → slice_get tree k ≡ Some e → file_numbered whole (n + k) ≡ e)
    → map (file_numbered whole) (numbers_from test n tree) ≡ filter test tree
numbered-from [] whole test n at = refl
numbered-from (e ∷ es) whole test n at =
    by (test e) (at 0 e refl) (numbered-from es whole test (suc n) (λ k d read. let s : suc n + k ≡ n + suc k = omega arith in ap (file_numbered whole) s ∙ at (suc k) d read))
  where
    by : (b : Bool) → file_numbered whole (n + 0) ≡ e → map (file_numbered whole) (numbers_from test (suc n) es) ≡ filter test es
        → map (file_numbered whole) (cond b (n ∷ numbers_from test (suc n) es) (numbers_from test (suc n) es)) ≡ cond b (e ∷ filter test es) (filter test es)
    by true here rest =
        let z : n + 0 ≡ n = omega arith in
        ap (λ d. d ∷ map (file_numbered whole) (numbers_from test (suc n) es)) (ap (file_numbered whole) (sym z) ∙ here) ∙ ap (λ ds. e ∷ ds) rest
    by false here rest = rest

pub numbered : (tree : List Entry) (test : Entry → Bool) → map (file_numbered tree) (numbers_from test 0 tree) ≡ filter test tree
numbered tree test = numbered-from tree tree test 0 (λ k e at. let z : 0 + k ≡ k = omega arith in ap (file_numbered tree) z ∙ get_or_from_slice_get tree k e ([], []) at)

-- the test that the files of a path pass
abbrev pub test_of : List Entry → List ℕ → Entry → Bool
test_of tree path = λ file. is_of (is_stub_path tree path) path (home_of (module_path tree) file)

-- the files of a package
pub files-kept : (tree : List Entry) (path : List ℕ) (files : List ℕ) → files ≡ files_of tree path → map (file_numbered tree) files ≡ filter (test_of tree path) tree
files-kept tree path files is = ap (map (file_numbered tree)) is ∙ numbered tree (test_of tree path)

-- a file that passes is a source file of the package of that path
pub source-if-passed : (tree : List Entry) (path : List ℕ) (e : Entry) → test_of tree path e ≡ true → is_source e.0 ≡ true
source-if-passed tree path e h = (and_parts (is_source e.0) _ h).0

nothing-at-all : (paths : List ℕ) → paths ≡ [] → is_source paths ≡ false
nothing-at-all [] e = refl
nothing-at-all (b ∷ bs) e = cc

differ : (b : Bool) → b ≡ true → b ≡ false → ⊥
differ true h k = cc
differ false h k = cc

all-named : (test : Entry → Bool) (tree : List Entry) → ((e : Entry) → test e ≡ true → is_source e.0 ≡ true) → AreNamed (filter test tree)
all-named test [] of = tt
all-named test (e ∷ es) of = by (test e) refl (all-named test es of)
  where
    by : (b : Bool) → test e ≡ b → AreNamed (filter test es) → AreNamed (cond b (e ∷ filter test es) (filter test es))
    by true h rest = (λ empty. differ (is_source e.0) (of e h) (nothing-at-all e.0 empty), rest)
    by false h rest = rest

pub files-named : (tree : List Entry) (path : List ℕ) → AreNamed (filter (test_of tree path) tree)
files-named tree path = all-named (test_of tree path) tree (source-if-passed tree path)

pub files-ordered : (tree : List Entry) (test : Entry → Bool) → AreInOrder tree → AreInOrder (filter test tree)
files-ordered tree test ordered = AllPairs-filter (λ e f. is_before e.0 f.0 ≡ true) test tree ordered

-- a filter that keeps less is no longer
fewer : {X : Type 0} (p q : X → Bool) (xs : List X) → ((x : X) → p x ≡ true → q x ≡ true) → length (filter p xs) ≤ length (filter q xs)
fewer p q [] less = omega arith
fewer {X} p q (x ∷ xs) less = by (p x) (q x) refl refl (fewer p q xs less)
  where
    by : (b c : Bool) → p x ≡ b → q x ≡ c → length (filter p xs) ≤ length (filter q xs) → length (cond b (x ∷ filter p xs) (filter p xs)) ≤ length (cond c (x ∷ filter q xs) (filter q xs))
    by true true h k rest = omega (arith, rest)
    by true false h k rest = absurd (differ (q x) (less x h) k)
    by false true h k rest = omega (arith, rest)
    by false false h k rest = rest

pub files-few : (tree : List Entry) (path : List ℕ) → length (limited_sizes tree) ≤ 10000 → length (filter (test_of tree path) tree) < 2 ^ 32
files-few tree path few =
    let size : length (limited_sizes tree) ≡ length (filter (λ entry. is_limited entry.0) tree) = length-map (filter (λ entry. is_limited entry.0) tree) (λ entry. length entry.1) in
    let less : length (filter (test_of tree path) tree) ≤ length (filter (λ entry. is_limited entry.0) tree) = fewer (test_of tree path) (λ entry. is_limited entry.0) tree (λ e h. source-limited e.0 (source-if-passed tree path e h)) in
    omega (arith, few, size, less)

-- what holds of the sizes of all files that the limits count holds of those of a package's texts
pub texts-of-files : (P : ℕ → Type 0) (tree : List Entry) (path : List ℕ) → All P (limited_sizes tree) → All (λ text. P (length text)) (map (λ entry. entry.1) (filter (test_of tree path) tree))
texts-of-files P tree path all n d lt =
    let found = in-mapped (λ (entry : Entry). entry.1) (test_of tree path) tree (get_or (map (λ (entry : Entry). entry.1) (filter (test_of tree path) tree)) n d) (n, lt, refl_at n d lt) in
    subst (λ (text : List ℕ). P (length text)) found.4 (source-size P tree found.0 found.1.0 found.1.1 all found.2 (source-if-passed tree path found.1 found.3))
  where
    refl_at : (k : ℕ) (e : List ℕ) → k < length (map (λ (entry : Entry). entry.1) (filter (test_of tree path) tree))
        → get_or (map (λ (entry : Entry). entry.1) (filter (test_of tree path) tree)) k (get_or (map (λ (entry : Entry). entry.1) (filter (test_of tree path) tree)) n d)
        ≡ get_or (map (λ (entry : Entry). entry.1) (filter (test_of tree path) tree)) k e
    refl_at k e l = get_or_from_slice_get _ k _ _ (slice_get-get_or _ k e l)

mapped-none : {X Y : Type 0} (f : X → Y) (xs : List X) → map f xs ≡ [] → xs ≡ []
mapped-none f [] e = refl
mapped-none f (x ∷ xs) e = cc

pub has-files : (tree : List Entry) (files : List ℕ) → (files ≡ [] → ⊥) → map (file_numbered tree) files ≡ [] → ⊥
has-files tree files some e = some (mapped-none (file_numbered tree) files e)

-- the path of a package isn't empty
no-segments : (word : List ℕ) → are_segments word ≡ true → word ≡ [] → ⊥
no-segments [] h e = cc
no-segments (b ∷ bs) h e = cc

path-in : (line : List ℕ) → path_in line ≡ [] → ⊥
path-in line = by (is_utf8 line && is_path (unquoted (second_word (until Comment line)))) refl
  where
    by : (b : Bool) → (is_utf8 line && is_path (unquoted (second_word (until Comment line)))) ≡ b → cond b (unquoted (second_word (until Comment line))) (codes "m") ≡ [] → ⊥
    by true h e = no-segments (unquoted (second_word (until Comment line))) (and_parts (are_segments (unquoted (second_word (until Comment line)))) _ (and_parts (is_utf8 line) _ h).1).0 e
    by false h e = cc

path-named : (o : Option (List ℕ)) → path_named o ≡ [] → ⊥
path-named None e = cc
path-named (Some line) e = path-in line e

root-named : (o : Option (List ℕ)) → module_in o ≡ [] → ⊥
root-named None e = cc
root-named (Some bytes) e = path-named (module_line (lines_of bytes)) e

something-appended : (xs ys : List ℕ) → (xs ≡ [] → ⊥) → xs ++ ys ≡ [] → ⊥
something-appended [] ys some e = some refl
something-appended (x ∷ xs) ys some e = cc

module-named : (root dir : List ℕ) → (root ≡ [] → ⊥) → module_package root dir ≡ [] → ⊥
module-named root dir some = by (length dir == 0)
  where
    by : (b : Bool) → cond b root (root ++ slash ∷ bare dir) ≡ [] → ⊥
    by true e = some e
    by false e = something-appended root (slash ∷ bare dir) some e

stub-named : (dir : List ℕ) → is_stub dir ≡ true → bare (drop 4 dir) ≡ [] → ⊥
stub-named dir h e =
    let long : 6 ≤ length dir = leb-true 6 (length dir) (and_parts _ (nat_le 6 (length dir)) h).1 in
    let rest : length (drop 4 dir) ≡ length dir - 4 = length-drop 4 dir in
    let size : length (take (length (drop 4 dir) - 1) (drop 4 dir)) ≡ length (drop 4 dir) - 1 = length-take-le (length (drop 4 dir) - 1) (drop 4 dir) (omega arith) in
    let none : length (bare (drop 4 dir)) ≡ 0 = ap (λ (l : List ℕ). length l) e in
    omega (arith, long, rest, size, none)

package-named : (root dir : List ℕ) → (root ≡ [] → ⊥) → package_of root dir ≡ [] → ⊥
package-named root dir some = by (is_stub dir) refl
  where
    by : (b : Bool) → is_stub dir ≡ b → cond b (bare (drop 4 dir)) (module_package root dir) ≡ [] → ⊥
    by true h e = stub-named dir h e
    by false h e = module-named root dir some e

pub has-path : (tree : List Entry) (path : List ℕ) (files : List ℕ) → files ≡ files_of tree path → (files ≡ [] → ⊥) → path ≡ [] → ⊥
has-path tree path files is some e =
    let found = some-numbers (test_of tree path) 0 tree (λ none. some (is ∙ none)) in
    let passed = (and_parts (is_source found.item.0) _ found.told).1 in
    let same : package_of (module_path tree) (directory_of found.item.0) ≡ path = (bytes_eq-Decides (package_of (module_path tree) (directory_of found.item.0)) path).0 (and_parts _ (bytes_eq (package_of (module_path tree) (directory_of found.item.0)) path) passed).1 in
    package-named (module_path tree) (directory_of found.item.0) (root-named (file_at tree (codes "go.mod"))) (same ∙ e)
