-- Loops over lists, one item more.
use Rattle.std.proofs.Common.{◌≡◌, ◌==◌, ℕ, zero, suc, ◌+◌, ◌<◌, ◌≤◌, List, [], ◌∷◌, ◌++◌, Bool, true, false, cond, if◌then◌else◌, map, take, drop, get_or, slice_get, Option, Some, None, option_map, option_and_then, length, refl, sym, ap, ◌∙◌, subst, arith, append_assoc, drop-cons}
use denote.Ref.{Bor}
use Rattle.std.specs.Str.{bytes_eq}
use Rattle.std.proofs.lemmas.List.{take_more, append-nil}
use Rattle.go_tree.specs.Head as head
use Rattle.go_tree.specs.Head.{import_line}
use Rattle.go_tree.specs.declared.head.ImportLine.{ImportLine}
use Rattle.scopes.specs.declared.scope.Named.{Named}
use Rattle.go_tree.specs.declared.tree.NodeRef.{NodeRef}
use Rattle.go_tree.specs.declared.bindings.Object.{Object}
use Rattle.go_tree.specs.declared.bindings.Object.TheVariants.{Local}
use Rattle.file_uses.specs.declared.file.Locals.{Locals}
use Rattle.bind.specs.Answers.{Tables, used_name, local_node, outside, chosen, named_answer, answer_of, entry, uses_before}
use Rattle.bind.specs.Collected.{imports_of, AddsUses, AreUsesAt, AreUsesTo}
use Rattle.bind.specs.Imported.{imported}
use Rattle.bind.specs.Imports.{segment_from, specs_in, line_name}
use Rattle.bind.specs.Package.{narrow, ref, listed, tops_of, tops_at, tops_before}
use Rattle.std.specs.HashMap.{HashMap}
use Rattle.bind.specs.Places.{placed, place_from}
use Rattle.bind.specs.Tables.{Adds, IsEarliestOf, IsEarliest, pairs, path_of}
use Rattle.bind.specs.declared.file.File.{File}
use Rattle.bind.specs.declared.table.Declared.{Declared}
use Rattle.bind.proofs.ImportLemmas.{map_join, map_size, lines_are}
use Rattle.bind.proofs.Orders.{made}
use Rattle.bind.proofs.TableLemmas.{one_more}

take_all : {X : Type 0} (xs : List X) (i : ℕ) → length xs ≤ i → take i xs ≡ xs
take_all [] zero h = refl
take_all [] (suc i) h = refl
take_all (x ∷ xs) zero h = absurd (omega arith)
take_all (x ∷ xs) (suc i) h = ap (λ r. x ∷ r) (take_all xs i (omega arith))

drop_all : {X : Type 0} (xs : List X) (i : ℕ) → length xs ≤ i → drop i xs ≡ []
drop_all [] zero h = refl
drop_all [] (suc i) h = refl
drop_all (x ∷ xs) zero h = absurd (omega arith)
drop_all (x ∷ xs) (suc i) h = drop_all xs i (omega arith)

up : (n : ℕ) → suc n ≡ n + 1
up n = omega arith

-- ---- places

if_cond : (b : Bool) (x y : Option ℕ) → (if b then x else y) ≡ cond b x y
if_cond true x y = refl
if_cond false x y = refl

pub place_more : (xs : List (Bor (List ℕ))) (i n : ℕ) (d : Bor (List ℕ)) (old new : List ℕ → Option ℕ) → i < length xs → n ≡ suc i → ((q : List ℕ) → old q ≡ place_from n (map (λ n. n.now) (drop n xs)) q)
    → ((q : List ℕ) → new q ≡ (if bytes_eq (get_or xs i d).now q then Some i else old q)) → (q : List ℕ) → new q ≡ place_from i (map (λ n. n.now) (drop i xs)) q
place_more xs i n d old new low next was now q =
    now q ∙ (if_cond (bytes_eq (get_or xs i d).now q) (Some i) (old q) ∙ (ap (λ o. cond (bytes_eq (get_or xs i d).now q) (Some i) o) (was q ∙ ap (λ m. place_from m (map (λ n. n.now) (drop m xs)) q) next)
    ∙ ap (λ (l : List (Bor (List ℕ))). place_from i (map (λ n. n.now) l) q) (sym (drop-cons xs i d low))))

pub none_placed : {S : Type 0} (places : HashMap (Bor (List ℕ)) ℕ S) → places.entries ≡ [] → (q : List ℕ) → placed places q ≡ None
none_placed places e q = rw e refl

pub place_none : (xs : List (Bor (List ℕ))) (i : ℕ) (q : List ℕ) → length xs ≤ i → place_from i (map (λ n. n.now) (drop i xs)) q ≡ None
place_none xs i q end = ap (λ (l : List (Bor (List ℕ))). place_from i (map (λ n. n.now) l) q) (drop_all xs i end)

-- ---- tables

pub none_earliest : (path : ℕ → List ℕ) (table : List ℕ → Option NodeRef) → ((q : List ℕ) → table q ≡ None) → IsEarliest path [] table
none_earliest path table empty q = subst (λ (o : Option NodeRef). IsEarliestOf path [] q o) (sym (empty q)) (λ other there. let low = there.1 in omega arith)

pub earliest_more : (path : ℕ → List ℕ) (all : List Declared) (i : ℕ) (d : Declared) (old new : List ℕ → Option NodeRef) → i < length all → IsEarliest path (pairs (take i all)) old
    → Adds path old new (get_or all i d).name.now (get_or all i d).at → IsEarliest path (pairs (take (i + 1) all)) new
earliest_more path all i d old new low was adds =
    subst (λ (l : List (List ℕ × NodeRef)). IsEarliest path l new) (sym (ap pairs (take_more all i d low) ∙ map_join (λ (d : Declared). (d.name.now, d.at)) (take i all) (get_or all i d ∷ [])))
    (one_more path (pairs (take i all)) old new (get_or all i d).name.now (get_or all i d).at was adds)

pub earliest_all : (path : ℕ → List ℕ) (all : List Declared) (i : ℕ) (table : List ℕ → Option NodeRef) → length all ≤ i → IsEarliest path (pairs (take i all)) table → IsEarliest path (pairs all) table
earliest_all path all i table end was = subst (λ (l : List Declared). IsEarliest path (pairs l) table) (take_all all i end) was

-- ---- imports

pub segment_more : (path segment new : List ℕ) (i : ℕ) (whole : List ℕ) → i < length path → segment_from segment (drop i path) ≡ whole → new ≡ cond (get_or path i 0 == 47) (drop (i + 1) path) segment
    → segment_from new (drop (i + 1) path) ≡ whole
segment_more path segment new i whole low was is =
    ap (λ s. segment_from s (drop (i + 1) path)) is
    ∙ (ap (λ n. segment_from (cond (get_or path i 0 == 47) (drop n path) segment) (drop n path)) next
    ∙ (sym (ap (λ l. segment_from segment l) (drop-cons path i 0 low)) ∙ was)) where
      next : i + 1 ≡ suc i
      next = omega arith

pub segment_end : (path segment whole : List ℕ) (i : ℕ) → length path ≤ i → segment_from segment (drop i path) ≡ whole → segment ≡ whole
segment_end path segment whole i end was = sym (ap (λ l. segment_from segment l) (drop_all path i end)) ∙ was

drop_at : {X : Type 0} (xs : List X) (i : ℕ) (x : X) → slice_get xs i ≡ Some x → drop i xs ≡ x ∷ drop (suc i) xs
drop_at [] i x e = absurd (cc)
drop_at (y ∷ xs) zero x e = ap (λ z. z ∷ xs) (it y x e) where
  it : {X : Type 0} (y x : X) → Some y ≡ Some x → y ≡ x
  it y x e = cc
drop_at (y ∷ xs) (suc i) x e = drop_at xs i x e

abbrev this_import : List (List ℕ × List ℕ) → ℕ → ℕ → ImportLine → List (List ℕ × NodeRef)
this_import named file node line = listed (line_name named line) (record { file = file; node = node })

pub imported_more : (named : List (List ℕ × List ℕ)) (file : ℕ) (specs : List ℕ) (lines : List ImportLine) (i : ℕ) (line : ImportLine) (now new whole : List (List ℕ × NodeRef)) → i < length specs → slice_get lines i ≡ Some line
    → now ++ imported named file (drop i specs) (drop i lines) ≡ whole → new ≡ now ++ this_import named file (get_or specs i 0) line
    → new ++ imported named file (drop (i + 1) specs) (drop (i + 1) lines) ≡ whole
imported_more named file specs lines i line now new whole low there was is =
    let this : List (List ℕ × NodeRef) = this_import named file (get_or specs i 0) line in
    ap (λ r. r ++ imported named file (drop (i + 1) specs) (drop (i + 1) lines)) is
    ∙ (append_assoc now this (imported named file (drop (i + 1) specs) (drop (i + 1) lines))
    ∙ (ap (λ n. now ++ (this ++ imported named file (drop n specs) (drop n lines))) (sym (up i))
    ∙ (ap (λ r. now ++ r) (sym (ap (λ l. imported named file l (drop i lines)) (drop-cons specs i 0 low) ∙ ap (λ l. imported named file (get_or specs i 0 ∷ drop (suc i) specs) l) (drop_at lines i line there))) ∙ was)))

pub imported_end : (named : List (List ℕ × List ℕ)) (file : ℕ) (specs : List ℕ) (lines : List ImportLine) (i : ℕ) (now whole : List (List ℕ × NodeRef)) → length specs ≤ i
    → now ++ imported named file (drop i specs) (drop i lines) ≡ whole → now ≡ whole
imported_end named file specs lines i now whole end was =
    sym (append-nil now) ∙ (ap (λ l. now ++ imported named file l (drop i lines)) (sym (drop_all specs i end)) ∙ was)

-- ---- files and nodes, one more

pub tops_before_more : (fs : List File) (n number : ℕ) (f : File) (was new : List (List ℕ × NodeRef)) → slice_get fs n ≡ Some f → number ≡ narrow n → was ≡ tops_before fs n
    → new ≡ was ++ tops_of f number f.locals.names.items → new ≡ tops_before fs (n + 1)
tops_before_more fs n number f was new there is so_far this =
    this ∙ (ap (λ m. was ++ tops_of f m f.locals.names.items) is ∙ (ap (λ r. r ++ tops_of f (narrow n) f.locals.names.items) so_far ∙ (ap (λ o. tops_before fs n ++ tops_at o (narrow n)) (sym there) ∙ ap (λ m. tops_before fs m) (up n))))

pub uses_more : (f : File) (number : ℕ) (t : Tables) (n : ℕ) (was now new : List (NodeRef × Object)) → now ≡ was ++ uses_before f number t n → new ≡ now ++ entry (ref number n) (answer_of f number t n)
    → new ≡ was ++ uses_before f number t (n + 1)
uses_more f number t n was now new so_far this =
    this ∙ (ap (λ r. r ++ entry (ref number n) (answer_of f number t n)) so_far ∙ (append_assoc was (uses_before f number t n) (entry (ref number n) (answer_of f number t n)) ∙ ap (λ m. was ++ uses_before f number t m) (up n)))

pub files_more : (fs : List File) (named : List (List ℕ × List ℕ)) (top_names : List ℕ → Option NodeRef) (universe : List ℕ → Option ℕ) (n number : ℕ) (f : File) (front uses : List (NodeRef × Object))
    → slice_get fs n ≡ Some f → number ≡ narrow n → AreUsesTo fs named top_names universe n front → AddsUses fs named top_names universe number f front uses → AreUsesTo fs named top_names universe (n + 1) uses
files_more fs named top_names universe n number f front uses there is was adds =
    subst (λ (m : ℕ). AreUsesTo fs named top_names universe m uses) (up n)
    (front, was, subst (λ (o : Option File). AreUsesAt fs named top_names universe (narrow n) o front uses) (sym there) (subst (λ (m : ℕ). AddsUses fs named top_names universe m f front uses) is adds))

pub tops_all : (f : File) (number : ℕ) (ds names : List Named) (i : ℕ) (was now : List (List ℕ × NodeRef)) → length ds ≤ i → ds ≡ names → now ≡ was ++ tops_of f number (take i ds) → now ≡ was ++ tops_of f number names
tops_all f number ds names i was now end same is = is ∙ ap (λ l. was ++ tops_of f number l) (take_all ds i end ∙ same)

-- the names of a file's imports, by its head
pub file_earliest : (files : List File) (named : List (List ℕ × List ℕ)) (number : ℕ) (f : File) (specs : List ℕ) (lines : List ImportLine) (all : List (List ℕ × NodeRef)) (table : List ℕ → Option NodeRef)
    → specs ≡ specs_in f.tree.now f.tree.now.tops → lines ≡ head.imports_of f.tree.now f.bytes.now f.tree.now.tops → all ≡ imported named number specs lines → IsEarliest (path_of files) all table
    → IsEarliest (path_of files) (imports_of named number f) table
file_earliest files named number f specs lines all table is_specs is_lines is_all was =
    subst (λ (l : List (List ℕ × NodeRef)). IsEarliest (path_of files) l table)
    (is_all ∙ (ap (λ l. imported named number l lines) is_specs ∙ ap (λ l. imported named number (specs_in f.tree.now f.tree.now.tops) l) (is_lines ∙ lines_are f.tree.now f.bytes.now f.tree.now.tops))) was

pub lines_size : (f : File) (specs : List ℕ) (lines : List ImportLine) → specs ≡ specs_in f.tree.now f.tree.now.tops → lines ≡ head.imports_of f.tree.now f.bytes.now f.tree.now.tops → length lines ≡ length specs
lines_size f specs lines is_specs is_lines =
    ap length (is_lines ∙ lines_are f.tree.now f.bytes.now f.tree.now.tops) ∙ (map_size (import_line f.tree.now f.bytes.now) (specs_in f.tree.now f.tree.now.tops) ∙ ap length (sym is_specs))

-- ---- what a node denotes

pub local_answer : (f : File) (number : ℕ) (t : Tables) (n : ℕ) (q : List ℕ) (o : Option ℕ) (node : ℕ) (at : NodeRef) → o ≡ local_node f.locals n → o ≡ Some node → at ≡ ref number node
    → Some (Local at) ≡ named_answer f number t n (Some q)
local_answer f number t n q o node at is there is_at =
    ap (λ a. Some (Local a)) is_at ∙ ap (λ l. chosen (option_map (ref number) l) (outside (t.top_names q) (t.imports q) (t.universe q))) (sym there ∙ is)

pub outside_answer : (f : File) (number : ℕ) (t : Tables) (n : ℕ) (q : List ℕ) (o : Option ℕ) (top imported : Option NodeRef) (place : Option ℕ) (answer : Option Object) → o ≡ local_node f.locals n → o ≡ None
    → top ≡ t.top_names q → imported ≡ t.imports q → place ≡ t.universe q → answer ≡ outside top imported place → answer ≡ named_answer f number t n (Some q)
outside_answer f number t n q o top imported place answer is there is_top is_imported is_place is_answer =
    is_answer ∙ (ap (λ x. outside x imported place) is_top ∙ (ap (λ x. outside (t.top_names q) x place) is_imported ∙ (ap (λ x. outside (t.top_names q) (t.imports q) x) is_place
    ∙ ap (λ l. chosen (option_map (ref number) l) (outside (t.top_names q) (t.imports q) (t.universe q))) (sym there ∙ is))))

pub used_answer : (f : File) (number : ℕ) (t : Tables) (n : ℕ) (q : List ℕ) (answer : Option Object) → used_name f n ≡ Some q → answer ≡ named_answer f number t n (Some q) → answer ≡ answer_of f number t n
used_answer f number t n q answer is is_answer = is_answer ∙ ap (λ o. named_answer f number t n o) (sym is)

pub placed_node : (l : Locals) (n : ℕ) (o : Option ℕ) (k : ℕ) (answer : Option ℕ) → o ≡ get_or l.answers.items n None → o ≡ Some k → answer ≡ option_map (λ (d : Named). d.node) (slice_get l.names.items k)
    → answer ≡ local_node l n
placed_node l n o k answer there is is_answer =
    is_answer ∙ ap (λ p. option_and_then (λ k. option_map (λ (d : Named). d.node) (slice_get l.names.items k)) p) (sym is ∙ there)

pub no_place : (l : Locals) (n : ℕ) (o : Option ℕ) → o ≡ get_or l.answers.items n None → o ≡ None → None ≡ local_node l n
no_place l n o there is = ap (λ p. option_and_then (λ k. option_map (λ (d : Named). d.node) (slice_get l.names.items k)) p) (sym is ∙ there)

-- ---- names with nodes, one more

pub push_listed : (old new : List Declared) (x : Declared) (o : Option (List ℕ)) (at : NodeRef) → new ≡ old ++ x ∷ [] → o ≡ Some x.name.now → x.at ≡ at → pairs new ≡ pairs old ++ listed o at
push_listed old new x o at is named place =
    ap pairs is ∙ (map_join (λ (d : Declared). (d.name.now, d.at)) old (x ∷ [])
    ∙ (ap (λ a. pairs old ++ (x.name.now, a) ∷ []) place ∙ ap (λ n. pairs old ++ listed n at) (sym named)))

pub none_listed : (old : List Declared) (o : Option (List ℕ)) (at : NodeRef) → o ≡ None → pairs old ≡ pairs old ++ listed o at
none_listed old o at is = sym (append-nil (pairs old)) ∙ ap (λ n. pairs old ++ listed n at) (sym is)

pub ref_narrow : (file node n : ℕ) → n ≡ narrow node → made file n ≡ ref file node
ref_narrow file node n is = ap (λ m. made file m) is
