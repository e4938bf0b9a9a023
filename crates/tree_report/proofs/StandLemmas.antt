-- Each place of a tree's error lines and diagnostics stands in one of its files.
use Rattle.std.proofs.Common.{◌≡◌, ℕ, zero, suc, ◌+◌, ◌<◌, ◌≤◌, ◌^◌, Bool, true, false, cond, Option, Some, None, List, [], ◌∷◌, ◌++◌, length, map, filter, flat_map, slice_get, get_or, codes, bytes_eq, refl, sym, ap, ◌∙◌, subst, arith}
use Rattle.std.specs.List.{All, AllByRecursion, list_any, Contains}
use Rattle.std.proofs.lemmas.List.{length-map}
use Rattle.std.proofs.lemmas.List.Elements.{All-append, All-from_recursion, All-map, All-weaker, recursion_from_All}
use Rattle.std.proofs.lemmas.Option.{same_Some, slice_get_within, slice_get-get_or, get_or_from_slice_get}
use Rattle.gv_base.specs.Files.{Entry}
use Rattle.gv_base.specs.declared.place.Place.{Place}
use Rattle.go_tree.specs.declared.head.Head.{Head}
use Rattle.go_tree.specs.declared.head.ImportLine.{ImportLine}
use Rattle.go_tree.specs.Pieces.{Finding}
use Rattle.parse_file.specs.Verdict.{IsVerdict}
use Rattle.parse_file.specs.declared.verdict.FileVerdict.{FileVerdict}
use Rattle.parse_file.specs.declared.verdict.FileVerdict.TheVariants as verdict
use Rattle.parse_file.proofs.PlaceLaws.{ImportLow, refused-low, found-low, name-low, imports-low}
use Rattle.import_graph.specs.Sources.{is_source}
use Rattle.import_graph.specs.Packages.{counts, clash_in, clashes, first_name, head_at, lines_in, missing_at, name_of, numbers_from, files_of, paths_of, is_broken, IsPackage, IsStateOf, IsCyclic}
use Rattle.import_graph.specs.declared.pack.PackState.{PackState}
use Rattle.import_graph.specs.declared.pack.PackState.TheVariants.{Broken, NameClash, MissingImport, ImportCycle, Sound}
use Rattle.import_graph.specs.declared.pack.Package.{Package}
use Rattle.import_graph.proofs.ListLemmas.{get-map}
use Rattle.gv_driver.specs.Judging.{text_of}
use Rattle.gv_driver.specs.NodesStanding.{bytes_at, CanBeMade, IsFoundIn}
use Rattle.gv_driver.specs.MarkLine.{MarkLine}
use Rattle.fix_apply.specs.declared.edits.Fix.{Fix}
use Rattle.fix_apply.specs.Rewriting.{LieIn}
use Rattle.analysis_core.specs.declared.diagnostic.Diagnostic.{Diagnostic}
use Rattle.analysis_core.specs.declared.reply.ErrorLine.{ErrorLine}
use Rattle.analysis_core.specs.declared.reply.FoundLine.{FoundLine}
use Rattle.analysis_core.specs.Replies.{file_numbered}
use Rattle.report_text.specs.Standing.{LiesIn, StandsIn}
use Rattle.report_text.specs.ReplyStanding.{FoundStands}
use Rattle.tree_findings.specs.Lines.{all_lines, fix_in_tree, line_in_tree}
use Rattle.tree_findings.specs.Mending.{Fits as CanMake, FixFits, FoundFits}
use Rattle.gv_driver.specs.declared.reply.Verdict.{Verdict}
use Rattle.gv_driver.specs.declared.reply.Verdict.TheVariants.{Faulty, Blocked, Refused, Accepted}
use Rattle.gv_driver.specs.declared.tree.PackageTexts.{PackageTexts}
use Rattle.gv_driver.specs.Standing.{AllStand, AreFoundIn, AreVerdictsIn, Stands, StandsIn as VerdictStands}
use Rattle.tree_report.specs.Form.{IsForm}
use Rattle.tree_report.specs.Limits.{IsWithin}
use Rattle.tree_report.specs.Reading.{AreRead, AreHeads, IsRead, head_by, head_in}
use Rattle.tree_report.specs.Lines.{line_at, blocked_lines, blocked_lines_at, blocked_line, broken_lines, clash_line, error_lines, is_accepted, lines_from, mark_line, mark_text, missing_line, missing_lines, missing_lines_at, outcome_lines, read_lines, refusal_lines, state_lines, why_text}
use Rattle.tree_report.specs.Reports.{texts_of}
use Rattle.tree_report.proofs.LimitLemmas.{sizes-short}
use Rattle.tree_report.proofs.ReadLemmas.{source-size}
use Rattle.tree_report.proofs.SourceLemmas.{source-if-passed, test_of}

-- ---- what holds of each item of a list, through the ways in which lists are made

each-join : {X : Type 0} (P : X → Type 0) (xs ys : List X) → AllByRecursion P xs → AllByRecursion P ys → AllByRecursion P (xs ++ ys)
each-join P [] ys a b = b
each-join P (x ∷ xs) ys a b = (a.0, each-join P xs ys a.1 b)

each-flat : {X Y : Type 0} (Q : X → Type 0) (P : Y → Type 0) (f : X → List Y) (xs : List X) → AllByRecursion Q xs → ((x : X) → Q x → AllByRecursion P (f x)) → AllByRecursion P (flat_map f xs)
each-flat Q P f [] a h = tt
each-flat Q P f (x ∷ xs) a h = each-join P (f x) (flat_map f xs) (h x a.0) (each-flat Q P f xs a.1 h)

each-map : {X Y : Type 0} (Q : X → Type 0) (P : Y → Type 0) (f : X → Y) (xs : List X) → AllByRecursion Q xs → ((x : X) → Q x → P (f x)) → AllByRecursion P (map f xs)
each-map Q P f [] a h = tt
each-map Q P f (x ∷ xs) a h = (h x a.0, each-map Q P f xs a.1 h)

each-kept : {X : Type 0} (P : X → Type 0) (test : X → Bool) (xs : List X) → AllByRecursion P xs → AllByRecursion P (filter test xs)
each-kept P test [] a = tt
each-kept P test (x ∷ xs) a = by (test x) (each-kept P test xs a.1)
  where
    by : (b : Bool) → AllByRecursion P (filter test xs) → AllByRecursion P (cond b (x ∷ filter test xs) (filter test xs))
    by true rest = (a.0, rest)
    by false rest = rest

-- ---- a source file and a place in it

-- the number is that of a source file
record Fits (tree : List Entry) (n : ℕ) : Type 0 where
  entry : Entry
  at : slice_get tree n ≡ Some entry
  source : is_source entry.0 ≡ true

numbers-fit : (whole tree : List Entry) (test : Entry → Bool) (n : ℕ) → ((k : ℕ) (e : Entry) → slice_get tree k ≡ Some e → slice_get whole (n + k) ≡ Some e) → ((e : Entry) → test e ≡ true → is_source e.0 ≡ true)
    → AllByRecursion (Fits whole) (numbers_from test n tree)
numbers-fit whole [] test n at of = tt
numbers-fit whole (e ∷ es) test n at of =
    by (test e) refl (numbers-fit whole es test (suc n) (λ k d there. let s : suc n + k ≡ n + suc k = omega arith in ap (slice_get whole) s ∙ at (suc k) d there) of)
  where
    by : (b : Bool) → test e ≡ b → AllByRecursion (Fits whole) (numbers_from test (suc n) es) → AllByRecursion (Fits whole) (cond b (n ∷ numbers_from test (suc n) es) (numbers_from test (suc n) es))
    by true h rest = let z : n ≡ n + 0 = omega arith in (record { entry = e; at = ap (slice_get whole) z ∙ at 0 e refl; source = of e h }, rest)
    by false h rest = rest

-- the files of a package are source files
files-fit : (tree : List Entry) (path files : List ℕ) → files ≡ files_of tree path → AllByRecursion (Fits tree) files
files-fit tree path files is =
    subst (AllByRecursion (Fits tree)) (sym is) (numbers-fit tree tree (test_of tree path) 0 (λ k e at. let z : 0 + k ≡ k = omega arith in ap (slice_get tree) z ∙ at) (source-if-passed tree path))

text-at : (tree : List Entry) (n : ℕ) (f : Fits tree n) → file_numbered tree n ≡ f.entry
text-at tree n f = get_or_from_slice_get tree n f.entry ([], []) f.at

lies : (tree : List Entry) (n offset : ℕ) → IsWithin tree → (f : Fits tree n) → offset ≤ length f.entry.1 → LiesIn tree (record { file = n; offset = offset })
lies tree n offset within f low = record {
  file = slice_get_within tree n f.entry f.at;
  offset = subst (λ (e : Entry). offset ≤ length e.1) (sym (text-at tree n f)) low;
  short =
      let small : length f.entry.1 ≤ 4194304 = source-size (λ size. size ≤ 4194304) tree n f.entry.0 f.entry.1 (sizes-short tree within) f.at f.source in
      subst (λ (e : Entry). length e.1 ≤ 2 ^ 31) (sym (text-at tree n f)) (omega (arith, small));
}

stands-at : (tree : List Entry) (path text : List ℕ) (at : Place) → LiesIn tree at → StandsIn tree (line_at path at text)
stands-at tree path text at is = λ place same. subst (LiesIn tree) (some-place at place same) is
  where
    some-place : (a b : Place) → Some a ≡ Some b → a ≡ b
    some-place a b e = cc

-- ---- the lines of one package

refusal-stands : (tree : List Entry) (path : List ℕ) (n : ℕ) (v : FileVerdict) → IsWithin tree → (f : Fits tree n) → IsVerdict f.entry.1 v → AllByRecursion (StandsIn tree) (refusal_lines path n v)
refusal-stands tree path n (verdict.Parsed t) within f is = tt
refusal-stands tree path n (verdict.Lexical offset why) within f is = (stands-at tree path (why_text why) (record { file = n; offset = offset }) (lies tree n offset within f (refused-low f.entry.1 offset why is)), tt)
refusal-stands tree path n (verdict.Syntax offset) within f is = (stands-at tree path (codes "syntax error") (record { file = n; offset = offset }) (lies tree n offset within f (found-low f.entry.1 offset Finding.Syntax is)), tt)
refusal-stands tree path n (verdict.TooDeep offset) within f is = (stands-at tree path (codes "nesting too deep") (record { file = n; offset = offset }) (lies tree n offset within f (found-low f.entry.1 offset Finding.TooDeep is)), tt)

read-stands : (tree : List Entry) (path : List ℕ) (n : ℕ) (v : Option FileVerdict) → IsWithin tree → (f : Fits tree n) → IsRead f.entry v → AllByRecursion (StandsIn tree) (read_lines path n v)
read-stands tree path n None within f is = tt
read-stands tree path n (Some v) within f is = refusal-stands tree path n v within f is.1

-- what is known of a file of this number
known : (tree : List Entry) (verdicts : List (Option FileVerdict)) (n : ℕ) (f : Fits tree n) → AreRead tree verdicts → (slice_get verdicts n ≡ Some (get_or verdicts n None)) × IsRead f.entry (get_or verdicts n None)
known tree verdicts n f read =
    let l : n < length tree = slice_get_within tree n f.entry f.at in
    let size : length verdicts ≡ length tree = read.size in
    let at = slice_get-get_or verdicts n None (omega (arith, l, size)) in
    (at, read.each n f.entry (get_or verdicts n None) f.at at)

broken-stands : (tree : List Entry) (verdicts : List (Option FileVerdict)) (path files : List ℕ) → IsWithin tree → AreRead tree verdicts → AllByRecursion (Fits tree) files
    → AllByRecursion (StandsIn tree) (broken_lines verdicts path files)
broken-stands tree verdicts path files within read fit =
    each-flat (Fits tree) (StandsIn tree) (λ n. read_lines path n (get_or verdicts n None)) files fit (λ n f. read-stands tree path n (get_or verdicts n None) within f (known tree verdicts n f read).1)

-- the places of a head
record HeadLow (text : List ℕ) (h : Head) : Type 0 where
  name : h.name_at ≤ length text
  imports : AllByRecursion (ImportLow text) h.imports

abbrev HeadIn : List ℕ → Option Head → Type 0
HeadIn text None = Unit {0}
HeadIn text (Some h) = HeadLow text h

head-by : (text : List ℕ) (v : FileVerdict) → IsVerdict text v → HeadIn text (head_by text v)
head-by text (verdict.Parsed t) is = record { name = name-low text t is; imports = imports-low text t t.tops is }
head-by text (verdict.Lexical offset why) is = tt
head-by text (verdict.Syntax offset) is = tt
head-by text (verdict.TooDeep offset) is = tt

head-low : (entry : Entry) (v : Option FileVerdict) → IsRead entry v → HeadIn entry.1 (head_in entry v)
head-low entry None is = tt
head-low entry (Some v) is = head-by entry.1 v is.1

head-fits : (tree : List Entry) (verdicts : List (Option FileVerdict)) (heads : List (Option Head)) (n : ℕ) (f : Fits tree n) → AreRead tree verdicts → AreHeads tree verdicts heads → HeadIn f.entry.1 (head_at heads n)
head-fits tree verdicts heads n f read headed =
    let l : n < length tree = slice_get_within tree n f.entry f.at in
    let size : length heads ≡ length tree = headed.size in
    let at = slice_get-get_or heads n None (omega (arith, l, size)) in
    let k = known tree verdicts n f read in
    subst (HeadIn f.entry.1) (sym (headed.each n f.entry (get_or verdicts n None) (head_at heads n) f.at k.0 at)) (head-low f.entry (get_or verdicts n None) k.1)

clash-lies : (tree : List Entry) (name : List ℕ) (n : ℕ) (h : Option Head) → IsWithin tree → (f : Fits tree n) → HeadIn f.entry.1 h → AllByRecursion (LiesIn tree) (clash_in name n h)
clash-lies tree name n None within f low = tt
clash-lies tree name n (Some h) within f low = by (bytes_eq h.name name)
  where
    by : (b : Bool) → AllByRecursion (LiesIn tree) (cond b [] (record { file = n; offset = h.name_at } ∷ []))
    by true = tt
    by false = (lies tree n h.name_at within f low.name, tt)

missing-stands : (tree : List Entry) (paths : List (List ℕ)) (path : List ℕ) (n : ℕ) (line : ImportLine) → IsWithin tree → (f : Fits tree n) → ImportLow f.entry.1 line
    → AllByRecursion (StandsIn tree) (missing_lines_at paths path n line)
missing-stands tree paths path n line within f low = by (list_any (λ p. bytes_eq p line.path) paths)
  where
    by : (b : Bool) → AllByRecursion (StandsIn tree) (map (missing_line path line) (cond b [] (record { file = n; offset = line.at } ∷ [])))
    by true = tt
    by false = (stands-at tree path (codes "missing import \"" ++ (line.path ++ codes "\"")) (record { file = n; offset = line.at }) (lies tree n line.at within f low), tt)

imports-stand : (tree : List Entry) (paths : List (List ℕ)) (path : List ℕ) (n : ℕ) (h : Option Head) → IsWithin tree → (f : Fits tree n) → HeadIn f.entry.1 h
    → AllByRecursion (StandsIn tree) (flat_map (missing_lines_at paths path n) (lines_in h))
imports-stand tree paths path n None within f low = tt
imports-stand tree paths path n (Some h) within f low =
    each-flat (ImportLow f.entry.1) (StandsIn tree) (missing_lines_at paths path n) (filter counts h.imports) (each-kept (ImportLow f.entry.1) counts h.imports low.imports)
    (λ line at. missing-stands tree paths path n line within f at)

-- the file of a package that has this number among the package's files
nth-fits : (tree : List Entry) (files : List ℕ) (k : ℕ) → AllByRecursion (Fits tree) files → k < length files → Fits tree (get_or files k 0)
nth-fits tree [] k fit l = absurd (let m : k < 0 = l in omega (arith, m))
nth-fits tree (n ∷ ns) zero fit l = fit.0
nth-fits tree (n ∷ ns) (suc k) fit l = nth-fits tree ns k fit.1 (omega (arith, l))

text-of-nth : (tree : List Entry) (files : List ℕ) (k : ℕ) → k < length files → get_or (map text_of (map (file_numbered tree) files)) k [] ≡ (file_numbered tree (get_or files k 0)).1
text-of-nth tree [] k l = absurd (let m : k < 0 = l in omega (arith, m))
text-of-nth tree (n ∷ ns) zero l = refl
text-of-nth tree (n ∷ ns) (suc k) l = text-of-nth tree ns k (omega (arith, l))

mark-stands : (tree : List Entry) (path files : List ℕ) (m : MarkLine) → IsWithin tree → AllByRecursion (Fits tree) files → Stands (map (file_numbered tree) files) m → StandsIn tree (mark_line path files m)
mark-stands tree path files m within fit stands =
    let size : length (map (file_numbered tree) files) ≡ length files = length-map files (file_numbered tree) in
    let low : m.at.file < length (map (file_numbered tree) files) = stands.file in
    let l : m.at.file < length files = omega (arith, size, low) in
    let f = nth-fits tree files m.at.file fit l in
    let text : get_or (map text_of (map (file_numbered tree) files)) m.at.file [] ≡ f.entry.1 = text-of-nth tree files m.at.file l ∙ ap (λ (e : Entry). e.1) (text-at tree (get_or files m.at.file 0) f) in
    stands-at tree path (mark_text m.limit m.number) (record { file = get_or files m.at.file 0; offset = m.at.offset }) (lies tree (get_or files m.at.file 0) m.at.offset within f (subst (λ (t : List ℕ). m.at.offset ≤ length t) text stands.offset))

blocked-stands : (tree : List Entry) (packages : List Package) (outcomes : List Verdict) (path imports : List ℕ) → AllByRecursion (StandsIn tree) (blocked_lines packages outcomes path imports)
blocked-stands tree packages outcomes path [] = tt
blocked-stands tree packages outcomes path (q ∷ qs) =
    each-join (StandsIn tree) (blocked_lines_at packages outcomes path q) (blocked_lines packages outcomes path qs) (by (is_accepted (get_or outcomes q Faulty))) (blocked-stands tree packages outcomes path qs)
  where
    by : (b : Bool) → AllByRecursion (StandsIn tree) (cond b [] (blocked_line packages path q ∷ []))
    by true = tt
    by false = (λ place e. cc, tt)

outcome-stands : (tree : List Entry) (packages : List Package) (outcomes : List Verdict) (p : Package) (v : Verdict) → IsWithin tree → AllByRecursion (Fits tree) p.files
    → VerdictStands (map (file_numbered tree) p.files) v → AllByRecursion (StandsIn tree) (outcome_lines packages outcomes p v)
outcome-stands tree packages outcomes p Faulty within fit stands = tt
outcome-stands tree packages outcomes p Blocked within fit stands = blocked-stands tree packages outcomes p.path p.imports
outcome-stands tree packages outcomes p (Refused marks) within fit stands =
    each-map (Stands (map (file_numbered tree) p.files)) (StandsIn tree) (mark_line p.path p.files) marks (recursion_from_All (Stands (map (file_numbered tree) p.files)) marks stands)
    (λ m at. mark-stands tree p.path p.files m within fit at)
outcome-stands tree packages outcomes p Accepted within fit stands = tt

state-stands : (tree : List Entry) (verdicts : List (Option FileVerdict)) (heads : List (Option Head)) (packages : List Package) (outcomes : List Verdict) (p : Package) (v : Verdict) (cyclic : Type 0) (state : PackState)
    → IsForm tree verdicts heads packages → AllByRecursion (Fits tree) p.files → IsStateOf cyclic heads (paths_of packages) p.files state → VerdictStands (map (file_numbered tree) p.files) v
    → AllByRecursion (StandsIn tree) (state_lines heads verdicts packages outcomes p v state)
state-stands tree verdicts heads packages outcomes p v cyclic Broken form fit is stands = broken-stands tree verdicts p.path p.files form.within form.read fit
state-stands tree verdicts heads packages outcomes p v cyclic (NameClash places) form fit is stands =
    each-map (LiesIn tree) (StandsIn tree) (clash_line p.path) places
    (subst (AllByRecursion (LiesIn tree)) (sym is.1) (each-flat (Fits tree) (LiesIn tree) (λ n. clash_in (first_name heads p.files) n (head_at heads n)) p.files fit
    (λ n f. clash-lies tree (first_name heads p.files) n (head_at heads n) form.within f (head-fits tree verdicts heads n f form.read form.headed))))
    (λ at lie. stands-at tree p.path (codes "package name differs") at lie)
state-stands tree verdicts heads packages outcomes p v cyclic (MissingImport places) form fit is stands =
    each-flat (Fits tree) (StandsIn tree) (λ n. flat_map (missing_lines_at (paths_of packages) p.path n) (lines_in (head_at heads n))) p.files fit
    (λ n f. imports-stand tree (paths_of packages) p.path n (head_at heads n) form.within f (head-fits tree verdicts heads n f form.read form.headed))
state-stands tree verdicts heads packages outcomes p v cyclic ImportCycle form fit is stands = (λ place e. cc, tt)
state-stands tree verdicts heads packages outcomes p v cyclic Sound form fit is stands = outcome-stands tree packages outcomes p v form.within fit stands

-- ---- the lines of all packages

-- The verdict of the package of a number stands in its files.
outcome-at : (tree : List Entry) (packages : List Package) (outcomes : List Verdict) (k : ℕ) (p : Package) → AreVerdictsIn (map (texts_of tree) packages) outcomes → slice_get packages k ≡ Some p
    → VerdictStands (map (file_numbered tree) p.files) (get_or outcomes k Faulty)
outcome-at tree packages outcomes k p are at =
    let l : k < length packages = slice_get_within packages k p at in
    let long : length (map (texts_of tree) packages) ≡ length packages = length-map packages (texts_of tree) in
    let size : length outcomes ≡ length (map (texts_of tree) packages) = are.size in
    are.stand k (texts_of tree p) (get_or outcomes k Faulty) (get-map (texts_of tree) packages k p at) (slice_get-get_or outcomes k Faulty (omega (arith, l, long, size)))

lines-stand : (tree : List Entry) (verdicts : List (Option FileVerdict)) (heads : List (Option Head)) (packages : List Package) (outcomes : List Verdict) (k : ℕ) (rest : List Package) → IsForm tree verdicts heads packages
    → AreVerdictsIn (map (texts_of tree) packages) outcomes → ((j : ℕ) (p : Package) → slice_get rest j ≡ Some p → slice_get packages (k + j) ≡ Some p)
    → AllByRecursion (StandsIn tree) (lines_from heads verdicts packages outcomes k rest)
lines-stand tree verdicts heads packages outcomes k [] form are at = tt
lines-stand tree verdicts heads packages outcomes k (p ∷ ps) form are at =
    let z : k ≡ k + 0 = omega arith in
    let here : slice_get packages k ≡ Some p = ap (slice_get packages) z ∙ at 0 p refl in
    let is = form.packed.each k p here in
    each-join (StandsIn tree) (state_lines heads verdicts packages outcomes p (get_or outcomes k Faulty) p.state) (lines_from heads verdicts packages outcomes (suc k) ps)
    (state-stands tree verdicts heads packages outcomes p (get_or outcomes k Faulty) (IsCyclic packages k) p.state form (files-fit tree p.path p.files is.files) is.state (outcome-at tree packages outcomes k p are here))
    (lines-stand tree verdicts heads packages outcomes (suc k) ps form are (λ j q there. let s : suc k + j ≡ k + suc j = omega arith in ap (slice_get packages) s ∙ at (suc j) q there))

-- each place of the error lines stands in one of the files
pub error-lines-stand : (tree : List Entry) (verdicts : List (Option FileVerdict)) (heads : List (Option Head)) (packages : List Package) (outcomes : List Verdict) → IsForm tree verdicts heads packages
    → AreVerdictsIn (map (texts_of tree) packages) outcomes → All (StandsIn tree) (error_lines heads verdicts packages outcomes)
error-lines-stand tree verdicts heads packages outcomes form are =
    All-from_recursion (StandsIn tree) (error_lines heads verdicts packages outcomes)
    (lines-stand tree verdicts heads packages outcomes 0 packages form are (λ j p at. let z : 0 + j ≡ j = omega arith in ap (slice_get packages) z ∙ at))

-- ---- diagnostics

-- a diagnostic of a package stands in one of the files
found-stands : (tree : List Entry) (path files : List ℕ) (d : Diagnostic) → IsWithin tree → AllByRecursion (Fits tree) files → IsFoundIn (map (file_numbered tree) files) d → FoundStands tree (line_in_tree path files d)
found-stands tree path files d within fit stands =
    let size : length (map (file_numbered tree) files) ≡ length files = length-map files (file_numbered tree) in
    let low : d.place.file < length (map (file_numbered tree) files) = stands.file in
    let l : d.place.file < length files = omega (arith, size, low) in
    let f = nth-fits tree files d.place.file fit l in
    let text : get_or (map text_of (map (file_numbered tree) files)) d.place.file [] ≡ f.entry.1 = text-of-nth tree files d.place.file l ∙ ap (λ (e : Entry). e.1) (text-at tree (get_or files d.place.file 0) f) in
    lies tree (get_or files d.place.file 0) d.place.offset within f (subst (λ (t : List ℕ). d.place.offset ≤ length t) text stands.offset)

-- and its fix can be made there
fix-fits : (tree : List Entry) (files : List ℕ) (file : ℕ) (fix : Option Fix) → file < length files → CanBeMade file (bytes_at (map (file_numbered tree) files) file) fix
    → (more : Fix) → fix_in_tree files fix ≡ Some more → FixFits tree more
fix-fits tree files file None l can more is = cc
fix-fits tree files file (Some fix) l can more is =
    let text : bytes_at (map (file_numbered tree) files) file ≡ (file_numbered tree (get_or files file 0)).1 = text-of-nth tree files file l in
    let here : CanMake (file_numbered tree (get_or files file 0)).1 fix.edits = record {
      lie = subst (λ (b : List ℕ). LieIn b fix.edits) text can.lie;
      apart = can.apart;
    } in
    subst (FixFits tree) (same_Some (record { file = get_or files fix.file 0; edits = fix.edits }) more is)
    (subst (λ (n : ℕ). CanMake (file_numbered tree (get_or files n 0)).1 fix.edits) (sym can.file_is) here)

found-fits : (tree : List Entry) (path files : List ℕ) (d : Diagnostic) → IsFoundIn (map (file_numbered tree) files) d → FoundFits tree (line_in_tree path files d)
found-fits tree path files d stands =
    let size : length (map (file_numbered tree) files) ≡ length files = length-map files (file_numbered tree) in
    let low : d.place.file < length (map (file_numbered tree) files) = stands.file in
    fix-fits tree files d.place.file d.fix (omega (arith, size, low)) stands.fix

-- what holds of the diagnostics of each package holds of all
each-line : (P : FoundLine → Type 0) (packages : List Package) (found : List (List Diagnostic))
    → ((k : ℕ) (p : Package) (ds : List Diagnostic) → slice_get packages k ≡ Some p → slice_get found k ≡ Some ds → All (λ d. P (line_in_tree p.path p.files d)) ds) → All P (all_lines packages found)
each-line P [] found h = λ k d lt. absurd (omega (arith, lt))
each-line P (p ∷ ps) [] h = λ k d lt. absurd (omega (arith, lt))
each-line P (p ∷ ps) (ds ∷ found) h =
    All-append P (map (line_in_tree p.path p.files) ds) (all_lines ps found) (All-map P (line_in_tree p.path p.files) ds (h 0 p ds refl refl))
    (each-line P ps found (λ k q es at there. h (suc k) q es at there))

found-at : (tree : List Entry) (packages : List Package) (found : List (List Diagnostic)) (k : ℕ) (p : Package) (ds : List Diagnostic) → AreFoundIn (map (texts_of tree) packages) found → slice_get packages k ≡ Some p → slice_get found k ≡ Some ds
    → All (IsFoundIn (map (file_numbered tree) p.files)) ds
found-at tree packages found k p ds are at there = are.stand k (texts_of tree p) ds (get-map (texts_of tree) packages k p at) there

-- each place of the diagnostics stands in one of the files
pub found-lines-stand : (tree : List Entry) (verdicts : List (Option FileVerdict)) (heads : List (Option Head)) (packages : List Package) (found : List (List Diagnostic)) → IsForm tree verdicts heads packages
    → AreFoundIn (map (texts_of tree) packages) found → All (FoundStands tree) (all_lines packages found)
found-lines-stand tree verdicts heads packages found form are =
    each-line (FoundStands tree) packages found (λ k p ds at there.
    All-weaker (IsFoundIn (map (file_numbered tree) p.files)) (λ d. FoundStands tree (line_in_tree p.path p.files d))
    (λ d is. found-stands tree p.path p.files d form.within (files-fit tree p.path p.files (form.packed.each k p at).files) is) ds (found-at tree packages found k p ds are at there))

-- and their fixes can be made there
pub found-lines-fit : (tree : List Entry) (packages : List Package) (found : List (List Diagnostic)) → AreFoundIn (map (texts_of tree) packages) found → All (FoundFits tree) (all_lines packages found)
found-lines-fit tree packages found are =
    each-line (FoundFits tree) packages found (λ k p ds at there.
    All-weaker (IsFoundIn (map (file_numbered tree) p.files)) (λ d. FoundFits tree (line_in_tree p.path p.files d))
    (λ d is. found-fits tree p.path p.files d is) ds (found-at tree packages found k p ds are at there))
