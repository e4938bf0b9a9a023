-- Where refusals stand: in the files of the package, if their tokens do.
use Rattle.std.proofs.Common.{◌≡◌, ℕ, zero, suc, ◌+◌, ◌≤◌, ◌⊎◌, ◌&&◌, Bool, true, false, cond, if◌then◌else◌, List, [], ◌∷◌, ◌++◌, map, take, length, slice_get, slice_index_or, Option, Some, None, option_map, option_and_then, refl, sym, ap, ◌∙◌, subst, inl, inr, arith}
use Rattle.std.specs.List.{Contains}
use Rattle.std.specs.Option.{option_map_or}
use Rattle.std.proofs.lemmas.Option.{slice_get_within, slice_get-map, get_or_from_slice_get}
use Rattle.gv_base.specs.declared.place.Place.{Place}
use Rattle.gv_base.proofs.Lists.{got}
use Rattle.go_tree.specs.Constraints.{is_between, is_constraint as begins_constraint, comment_step, constraint_from}
use Rattle.go_tree.specs.Head.{token_at as token_in}
use Rattle.go_tree.specs.declared.constraint.Comment.{Comment}
use Rattle.go_tree.specs.declared.constraint.Comment.TheVariants.{Between}
use Rattle.go_tree.specs.declared.token.Token.{Token}
use Rattle.go_tree.specs.declared.tree.FileTree.{FileTree}
use Rattle.go_tree.specs.declared.tree.Node.{Node}
use Rattle.go_tree.specs.declared.tree.NodeRef.{NodeRef}
use Rattle.object_order.specs.Spots.{place}
use Rattle.package_objects.specs.Declares.{gather}
use Rattle.const_tree.specs.declared.constant.Spec.{Spec}
use Rattle.const_tree.specs.Constants.{specs_in, is_repeated}
use Rattle.const_tree.proofs.ListLemmas.{gather_cases}
use Rattle.typed_marks.specs.declared.item.Item.{Item}
use Rattle.typed_marks.specs.declared.item.Span.{Span}
use Rattle.typed_marks.specs.Meanings.{Meaning}
use Rattle.unit_read.specs.declared.passage.Passage.{Passage}
use Rattle.unit_read.specs.Imports.{bare}
use Rattle.unit_read.specs.Passages.{passages, file_passage, nth_file, copied, copies_from, copies_by, nth_copy, copies_in, file_copies, values_span}
use Rattle.unit_read.specs.Units.{Unit, text_in, tree_at, nodes_of, node_at}
use Rattle.rule_words.specs.Asking.{Rule}
use Rattle.bind.specs.Answers.{AreSpelled}
use Rattle.late_list.specs.declared.late.LateFault.{LateFault}
use Rattle.body_facts.specs.Facts.{IsBodyFault}
use Rattle.body_facts.proofs.PlaceLemmas.{fault_stands}
use Rattle.check_pkg.specs.declared.refusal.Fault.{Fault}
use Rattle.check_pkg.specs.declared.refusal.Refusal.{Refusal}
use Rattle.check_pkg.specs.declared.late_rules.Late.{Late}
use Rattle.check_pkg.specs.Faults.{start_of, spot, offset_of, constraint_in, constraint_offset, is_constraint, bearer, written_offset, value_in, copied_offset}
use Rattle.check_pkg.specs.Items.{IsRefusedItem}
use Rattle.check_pkg.specs.Late.{late_token}
use Rattle.check_pkg.specs.References.{reads_at}
use Rattle.check_pkg.specs.Packages.{Package, Env, text_of, IsUnit}
use Rattle.check_pkg.specs.Refusals.{IsRefused, HasMarks}

-- the tokens of each file lie in its bytes
pub record AreInText (p : Package) : Type 0 where
  pub each : (f i : ℕ) (tree : FileTree) (token : Token) (file : List ℕ × List ℕ) → slice_get p.trees f ≡ Some tree → slice_get p.files f ≡ Some file → slice_get tree.tokens i ≡ Some token
      → token.start ≤ length file.1

-- the place is in a file of the package
pub record Lies (p : Package) (at : Place) : Type 0 where
  pub file : List ℕ × List ℕ
  pub there : slice_get p.files at.file ≡ Some file
  pub within : at.offset ≤ length file.1

-- ---- build constraints

constraint_low : (state : Comment) (at : ℕ) (rest : List ℕ) (n : ℕ) → constraint_from state at rest ≡ Some n → n ≤ at + length rest
constraint_low state at [] n h = absurd cc
constraint_low state at (b ∷ bs) n h = by (is_between state && begins_constraint (b ∷ bs)) (λ e. constraint_low (comment_step state (b ∷ bs)) (suc at) bs n e) h where
  by : (c : Bool) → (constraint_from (comment_step state (b ∷ bs)) (suc at) bs ≡ Some n → n ≤ suc at + length bs)
      → cond c (Some at) (constraint_from (comment_step state (b ∷ bs)) (suc at) bs) ≡ Some n → n ≤ at + suc (length bs)
  by true later h = let same : at ≡ n = cc in omega arith
  by false later h = let low = later h in omega arith

take_short : (k : ℕ) (xs : List ℕ) → length (take k xs) ≤ length xs
take_short zero xs = omega arith
take_short (suc k) [] = omega arith
take_short (suc k) (x ∷ xs) = let rest = take_short k xs in omega arith

constraint_within : (text : List ℕ) (tree : FileTree) → constraint_in text tree ≤ length text
constraint_within text tree = by (constraint_from Between 0 (take (token_in tree 0).start text)) refl where
  by : (o : Option ℕ) → constraint_from Between 0 (take (token_in tree 0).start text) ≡ o → option_map_or (λ (n : ℕ). n) o 0 ≤ length text
  by None e = omega arith
  by (Some n) e =
      let low = constraint_low Between 0 (take (token_in tree 0).start text) n e in
      let short = take_short (token_in tree 0).start text in
      omega arith

-- ---- places of a unit

-- the bytes of a file that has a tree
file_of : (p : Package) (f : ℕ) (tree : FileTree) → AreSpelled p.trees p.files → slice_get p.trees f ≡ Some tree → (file : List ℕ × List ℕ) × (slice_get p.files f ≡ Some file)
file_of p f tree spelled read =
    let low = slice_get_within p.trees f tree read in
    let size = spelled.size in
    got p.files f (omega arith)

text_is : (p : Package) (env : Env) (u : Unit) (f : ℕ) (file : List ℕ × List ℕ) → IsUnit p env u → slice_get p.files f ≡ Some file → text_in u f ≡ file.1
text_is p env u f file is read =
    ap (λ (texts : List (List ℕ)). slice_index_or texts f []) is.texts
    ∙ get_or_from_slice_get (map text_of p.files) f file.1 [] (slice_get-map text_of p.files f ∙ ap (option_map text_of) read)

token_low : (p : Package) (f i : ℕ) (tree : FileTree) (file : List ℕ × List ℕ) → AreInText p → slice_get p.trees f ≡ Some tree → slice_get p.files f ≡ Some file
    → option_map_or (λ (token : Token). token.start) (slice_get tree.tokens i) 0 ≤ length file.1
token_low p f i tree file within read there = by (slice_get tree.tokens i) refl where
  by : (o : Option Token) → slice_get tree.tokens i ≡ o → option_map_or (λ (token : Token). token.start) o 0 ≤ length file.1
  by None e = omega arith
  by (Some token) e = within.each f i tree token file read there e

start_low : (p : Package) (env : Env) (u : Unit) (f i : ℕ) (tree : FileTree) (file : List ℕ × List ℕ) → IsUnit p env u → AreInText p → slice_get p.trees f ≡ Some tree → slice_get p.files f ≡ Some file
    → start_of u f i ≤ length file.1
start_low p env u f i tree file is within read there =
    subst (λ (o : Option FileTree). option_map_or (λ (token : Token). token.start) (option_and_then (λ (t : FileTree). slice_get t.tokens i) o) 0 ≤ length file.1)
    (sym (ap (λ (ts : List FileTree). slice_get ts f) is.trees ∙ read)) (token_low p f i tree file within read there)

offset_low : (p : Package) (env : Env) (u : Unit) (at : NodeRef) (tree : FileTree) (file : List ℕ × List ℕ) → IsUnit p env u → AreInText p → slice_get p.trees at.file ≡ Some tree
    → slice_get p.files at.file ≡ Some file → offset_of u at ≤ length file.1
offset_low p env u at tree file is within read there = by (node_at u at) where
  by : (o : Option Node) → option_map_or (λ (node : Node). start_of u at.file node.first) o 0 ≤ length file.1
  by None = omega arith
  by (Some node) = start_low p env u at.file node.first tree file is within read there

constraint_lies : (p : Package) (env : Env) (u : Unit) (f : ℕ) (tree : FileTree) (file : List ℕ × List ℕ) → IsUnit p env u → slice_get p.trees f ≡ Some tree → slice_get p.files f ≡ Some file
    → constraint_offset u f ≤ length file.1
constraint_lies p env u f tree file is read found =
    let here : tree_at u f ≡ Some tree = ap (λ (ts : List FileTree). slice_get ts f) is.trees ∙ read in
    subst (λ (o : Option FileTree). option_map_or (constraint_in (text_in u f)) o 0 ≤ length file.1) (sym here)
    (subst (λ (text : List ℕ). constraint_in text tree ≤ length file.1) (sym (text_is p env u f file is found)) (constraint_within file.1 tree))

written_low : (u : Unit) (at : NodeRef) (fault : Fault) (size : ℕ) → offset_of u (place at.file (bearer u at.file at.node fault)) ≤ size → constraint_offset u at.file ≤ size → written_offset u at fault ≤ size
written_low u at fault size node constraint = by (is_constraint fault) where
  by : (b : Bool) → (if b then constraint_offset u at.file else offset_of u (place at.file (bearer u at.file at.node fault))) ≤ size
  by true = constraint
  by false = node

fault_low : (u : Unit) (f n value : ℕ) (o : Option Spec) (fault : Fault) (size : ℕ) → ((m : ℕ) → offset_of u (place f m) ≤ size) → constraint_offset u f ≤ size
    → option_map_or (copied_offset u f value) o (written_offset u (place f n) fault) ≤ size
fault_low u f n value None fault size nodes constraint = written_low u (place f n) fault size (nodes _) constraint
fault_low u f n value (Some spec) fault size nodes constraint = nodes _

-- ---- passages

append_cases : {X : Type 0} (xs ys : List X) (k : ℕ) (x : X) → slice_get (xs ++ ys) k ≡ Some x → ((i : ℕ) × (slice_get xs i ≡ Some x)) ⊎ ((j : ℕ) × (slice_get ys j ≡ Some x))
append_cases [] ys k x h = inr (k, h)
append_cases (y ∷ xs) ys zero x h = inl (zero, h)
append_cases (y ∷ xs) ys (suc k) x h = elim (append_cases xs ys k x h) [
  | inl (i, e) ↦ inl (suc i, e)
  | inr (j, e) ↦ inr (j, e)
]

nothing : {X : Type 0} (k : ℕ) (x : X) → slice_get [] k ≡ Some x → ⊥
nothing k x h = cc

-- the file of a passage has a tree
abbrev HasTree : List FileTree → Passage → Type 0
HasTree trees p = (tree : FileTree) × (slice_get trees p.file ≡ Some tree)

file_there : (trees : List FileTree) (f k : ℕ) (p : Passage) → slice_get (nth_file trees f) k ≡ Some p → HasTree trees p
file_there trees f k p h = by (slice_get trees f) refl h where
  one : (tree : FileTree) (k : ℕ) → slice_get (file_passage f tree ∷ []) k ≡ Some p → f ≡ p.file
  one tree zero e = let same : file_passage f tree ≡ p = cc in ap (λ (q : Passage). q.file) same
  one tree (suc k) e = absurd cc

  by : (o : Option FileTree) → slice_get trees f ≡ o → slice_get (option_map_or (λ (tree : FileTree). file_passage f tree ∷ []) o []) k ≡ Some p → HasTree trees p
  by None is e = absurd (nothing k p e)
  by (Some tree) is e = (tree, ap (slice_get trees) (sym (one tree k e)) ∙ is)

-- a repeated list of a file is of the file
spans_file : (f : ℕ) (spec : Spec) (spans : List Span) (k : ℕ) (p : Passage) → slice_get (map (copied f spec) spans) k ≡ Some p → f ≡ p.file
spans_file f spec [] k p h = absurd cc
spans_file f spec (s ∷ spans) zero p h = let same : copied f spec s ≡ p = cc in ap (λ (q : Passage). q.file) same
spans_file f spec (s ∷ spans) (suc k) p h = spans_file f spec spans k p h

copy_file : (f : ℕ) (nodes : List Node) (spec : Spec) (k : ℕ) (p : Passage) → slice_get (copies_by f nodes spec) k ≡ Some p → f ≡ p.file
copy_file f nodes spec k p h = by (is_repeated nodes spec) spec.source h where
  by : (b : Bool) (o : Option ℕ) → slice_get (if b then option_map_or (copies_from f nodes spec) o [] else []) k ≡ Some p → f ≡ p.file
  by false o e = absurd (nothing k p e)
  by true None e = absurd (nothing k p e)
  by true (Some source) e = spans_file f spec (values_span nodes source) k p e

nth_there : (f : ℕ) (nodes : List Node) (i k : ℕ) (p : Passage) → slice_get (nth_copy f nodes i) k ≡ Some p → f ≡ p.file
nth_there f nodes i k p h = by (slice_get (specs_in nodes) i) h where
  by : (o : Option Spec) → slice_get (option_map_or (copies_by f nodes) o []) k ≡ Some p → f ≡ p.file
  by None e = absurd (nothing k p e)
  by (Some spec) e = copy_file f nodes spec k p e

copies_there : (trees : List FileTree) (f k : ℕ) (p : Passage) → slice_get (file_copies trees f) k ≡ Some p → HasTree trees p
copies_there trees f k p h = by (slice_get trees f) refl h where
  by : (o : Option FileTree) → slice_get trees f ≡ o → slice_get (option_map_or (copies_in f) o []) k ≡ Some p → HasTree trees p
  by None is e = absurd (nothing k p e)
  by (Some tree) is e =
      let (i, j, low, there) = gather_cases (nth_copy f tree.nodes) (length (specs_in tree.nodes)) k p e in
      (tree, ap (slice_get trees) (sym (nth_there f tree.nodes i j p there)) ∙ is)

passage_there : (trees : List FileTree) (k : ℕ) (p : Passage) → slice_get (passages trees) k ≡ Some p → HasTree trees p
passage_there trees k p h = elim (append_cases (gather (nth_file trees) (length trees)) (gather (file_copies trees) (length trees)) k p h) [
  | inl (i, e) ↦ (let (f, j, low, there) = gather_cases (nth_file trees) (length trees) i p e in file_there trees f j p there)
  | inr (i, e) ↦ (let (f, j, low, there) = gather_cases (file_copies trees) (length trees) i p e in copies_there trees f j p there)
]

-- ---- refusals

item_lies : (p : Package) (env : Env) (u : Unit) (marks : Item → Meaning) (x : Refusal) → IsUnit p env u → AreSpelled p.trees p.files → AreInText p → IsRefusedItem (bare u) marks x → Lies p x.place
item_lies p env u marks x is spelled within r =
    let t = passage_there u.trees r.block r.passage r.here in
    let read : slice_get p.trees r.passage.file ≡ Some t.0 = ap (λ (ts : List FileTree). slice_get ts r.passage.file) (sym is.trees) ∙ t.1 in
    let found = file_of p r.passage.file t.0 spelled read in
    subst (Lies p) (sym r.refuses.1) record {
      file = found.0;
      there = found.1;
      within = fault_low (bare u) r.passage.file r.node (value_in (bare u) r.passage r.node) r.passage.spec x.fault (length found.0.1)
          (λ m. offset_low p env u (place r.passage.file m) t.0 found.0 is within read found.1) (constraint_lies p env u r.passage.file t.0 found.0 is read found.1);
    }

tree_there : (u : Unit) (at : NodeRef) (node : Node) → node_at u at ≡ Some node → (tree : FileTree) × (tree_at u at.file ≡ Some tree)
tree_there u at node there = by (tree_at u at.file) refl there where
  by : (o : Option FileTree) → tree_at u at.file ≡ o → slice_get (nodes_of o) at.node ≡ Some node → (tree : FileTree) × (tree_at u at.file ≡ Some tree)
  by None is e = absurd (nothing at.node node e)
  by (Some tree) is e = (tree, is)

late_lies : (p : Package) (env : Env) (u : Unit) (late : Late) (at : NodeRef) (node : Node) (x : Refusal) → IsUnit p env u → AreSpelled p.trees p.files → AreInText p → node_at u at ≡ Some node
    → x.place ≡ spot at.file (start_of u at.file (late_token late node)) → Lies p x.place
late_lies p env u late at node x is spelled within there lies =
    let t = tree_there u at node there in
    let read : slice_get p.trees at.file ≡ Some t.0 = ap (λ (ts : List FileTree). slice_get ts at.file) (sym is.trees) ∙ t.1 in
    let found = file_of p at.file t.0 spelled read in
    subst (Lies p) (sym lies) record { file = found.0; there = found.1; within = start_low p env u at.file (late_token late node) t.0 found.0 is within read found.1 }

body_lies : (p : Package) (env : Env) (u : Unit) (meant : NodeRef → Option NodeRef) (y : LateFault) (x : Refusal) → IsUnit p env u → AreSpelled p.trees p.files → AreInText p → IsBodyFault (bare u) meant y
    → x.place ≡ y.place → Lies p x.place
body_lies p env u meant y x is spelled within fault lies =
    let s = fault_stands (bare u) meant y fault in
    let read : slice_get p.trees y.place.file ≡ Some s.tree = ap (λ (ts : List FileTree). slice_get ts y.place.file) (sym is.trees) ∙ s.there in
    let found = file_of p y.place.file s.tree spelled read in
    subst (Lies p) (sym lies) record {
      file = found.0;
      there = found.1;
      within = subst (λ (n : ℕ). n ≤ length found.0.1) (sym s.offset) (token_low p y.place.file s.token s.tree found.0 within read found.1);
    }

-- each refusal stands in a file of the package
pub refusal_stands : (rule : Unit → Item → Rule) (p : Package) (env : Env) (u : Unit) (list : List Refusal) → IsUnit p env u → AreSpelled p.trees p.files → AreInText p → HasMarks rule u list
    → (x : Refusal) → Contains list x → Lies p x.place
refusal_stands rule p env u list is spelled within has x there = by ((has.each has.marks has.annotated.is x).0 there) where
  by : IsRefused u has.marks x → Lies p x.place
  by (inl item) = item_lies p env u has.marks x is spelled within item
  by (inr (inr (inl (late, (at, refuses, (node, here, (lies, fault))))))) = late_lies p env u late at node x is spelled within here lies
  by (inr (inr (inr (y, found, (lies, fault))))) = body_lies p env u (reads_at (bare u) has.marks) y x is spelled within found lies
  by (inr (inl (at, name, (tree, here, among), named, lies, fault))) =
      let read : slice_get p.trees at.file ≡ Some tree = ap (λ (ts : List FileTree). slice_get ts at.file) (sym is.trees) ∙ here in
      let found = file_of p at.file tree spelled read in
      subst (Lies p) (sym lies) record { file = found.0; there = found.1; within = offset_low p env u at tree found.0 is within read found.1 }
