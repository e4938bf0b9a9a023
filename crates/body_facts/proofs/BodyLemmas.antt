-- The files of a package, one more at a time.
use Rattle.std.proofs.Common.{◌≡◌, ℕ, ◌<◌, ◌≤◌, ◌+◌, ◌↔◌, ◌⊎◌, List, [], ◌∷◌, ◌++◌, length, slice_get, get_or, Option, Some, refl, sym, ap, ◌∙◌, subst, inl, inr, arith}
use Rattle.std.specs.List.{Contains}
use Rattle.std.proofs.lemmas.List.{length_push}
use Rattle.std.proofs.lemmas.Option.{slice_get_within, slice_get-get_or, get_or_from_slice_get}
use Rattle.go_tree.specs.declared.tree.FileTree.{FileTree}
use Rattle.go_tree.specs.declared.tree.NodeRef.{NodeRef}
use Rattle.gv_base.proofs.Lists.{same_some, got, push_cases}
use Rattle.node_values.proofs.TreeLemmas.{spelled_tree}
use Rattle.late_list.specs.declared.late.LateFault.{LateFault}
use Rattle.late_list.specs.Late.{IsFoundIn, IsLate, AreFound}
use Rattle.unit_read.specs.Units.{Unit}
use Rattle.body_rules.specs.declared.file.File.{File}
use Rattle.body_rules.specs.Files.{IsFile, IsFaultIn, node_count}
use Rattle.body_rules.specs.Given.{Given, given}
use Rattle.body_rules.specs.Views.{IsFaultOf, count_of}
use Rattle.body_facts.specs.declared.facts.Facts.{Facts}
use Rattle.body_facts.specs.Facts.{AreFacts, IsGivenOf, IsBodyFault}
use Rattle.body_facts.specs.Bodies.{AreBodies, AreFactsTo, IsTaken, AreFilesTo}
use Rattle.body_facts.proofs.OneLemmas.{one_given}

pub no_facts : (u : Unit) (m : NodeRef → Option NodeRef) (list : List Facts) → list ≡ [] → AreFactsTo u m 0 list
no_facts u m list is = subst (λ (l : List Facts). AreFactsTo u m 0 l) (sym is) record { size = refl; each = λ k t s f a b there. absurd (let low = slice_get_within [] k f there in omega arith) }

pub facts_more : (u : Unit) (m : NodeRef → Option NodeRef) (n : ℕ) (t : FileTree) (s : List ℕ) (f : Facts) (old new : List Facts) → slice_get u.trees n ≡ Some t → slice_get u.texts n ≡ Some s → AreFacts u m n s t f
    → new ≡ old ++ f ∷ [] → AreFactsTo u m n old → AreFactsTo u m (n + 1) new
facts_more u m n t s f old new tree text are is was = subst (λ (l : List Facts). AreFactsTo u m (n + 1) l) (sym is) record {
  size = length_push old f ∙ (let e = was.size in omega arith);
  each = λ k t2 s2 f2 a b there. elim (push_cases old f f2 k there) [
    | inl before ↦ was.each k t2 s2 f2 a b before
    | inr (at, same) ↦ (let e : k ≡ n = at ∙ was.size in
        subst (λ (x : Facts). AreFacts u m k s2 t2 x) same
        (subst (λ (x : FileTree). AreFacts u m k s2 x f) (same_some (slice_get u.trees n) t t2 tree (ap (λ i. slice_get u.trees i) (sym e) ∙ a))
        (subst (λ (x : List ℕ). AreFacts u m k x t f) (same_some (slice_get u.texts n) s s2 text (ap (λ i. slice_get u.texts i) (sym e) ∙ b))
        (subst (λ i. AreFacts u m i s t f) (sym e) are))))
  ];
}

pub facts_all : (u : Unit) (m : NodeRef → Option NodeRef) (n count : ℕ) (list : List Facts) → n ≡ count → AreFactsTo u m n list → AreFactsTo u m count list
facts_all u m n count list same are = subst (λ k. AreFactsTo u m k list) same are

pub no_files : (u : Unit) (m : NodeRef → Option NodeRef) (list : List File) → list ≡ [] → AreFilesTo u m 0 list
no_files u m list is = subst (λ (l : List File). AreFilesTo u m 0 l) (sym is) record { size = refl; each = λ k t s f a b there. absurd (let low = slice_get_within [] k f there in omega arith) }

pub files_more : (u : Unit) (m : NodeRef → Option NodeRef) (n : ℕ) (t : FileTree) (s : List ℕ) (f : File) (old new : List File) → slice_get u.trees n ≡ Some t → slice_get u.texts n ≡ Some s → IsTaken u m n s t f
    → new ≡ old ++ f ∷ [] → AreFilesTo u m n old → AreFilesTo u m (n + 1) new
files_more u m n t s f old new tree text are is was = subst (λ (l : List File). AreFilesTo u m (n + 1) l) (sym is) record {
  size = length_push old f ∙ (let e = was.size in omega arith);
  each = λ k t2 s2 f2 a b there. elim (push_cases old f f2 k there) [
    | inl before ↦ was.each k t2 s2 f2 a b before
    | inr (at, same) ↦ (let e : k ≡ n = at ∙ was.size in
        subst (λ (x : File). IsTaken u m k s2 t2 x) same
        (subst (λ (x : FileTree). IsTaken u m k s2 x f) (same_some (slice_get u.trees n) t t2 tree (ap (λ i. slice_get u.trees i) (sym e) ∙ a))
        (subst (λ (x : List ℕ). IsTaken u m k x t f) (same_some (slice_get u.texts n) s s2 text (ap (λ i. slice_get u.texts i) (sym e) ∙ b))
        (subst (λ i. IsTaken u m i s t f) (sym e) are))))
  ];
}

pub files_all : (u : Unit) (m : NodeRef → Option NodeRef) (n count : ℕ) (list : List File) → n ≡ count → AreFilesTo u m n list → AreFilesTo u m count list
files_all u m n count list same are = subst (λ k. AreFilesTo u m k list) same are

-- what stands in the list stands at a place that has a tree and a text
pub file_known : (u : Unit) (m : NodeRef → Option NodeRef) (files : List File) → AreBodies u.texts u.trees → AreFilesTo u m (length u.trees) files → (f : File) → Contains files f → IsFile (given f)
file_known u m files bodies are f (k, low, e) =
    let (t, tree) = got u.trees k (let s = are.size in omega arith) in
    let (s, text) = got u.texts k (let a = are.size in let b = bodies.size in omega arith) in
    (are.each k t s f tree text (slice_get-get_or files k f low ∙ ap (λ x. Some x) e)).0

pub faults_are : (u : Unit) (m : NodeRef → Option NodeRef) (files : List File) (list : List LateFault) → AreBodies u.texts u.trees → AreFilesTo u m (length u.trees) files → AreFound (IsLate IsFaultOf count_of files) list
    → (x : LateFault) → Contains list x ↔ IsBodyFault u m x
faults_are u m files list bodies are found x = ((λ h. to ((found x).0 h)), (λ b. (found x).1 (back b))) where
  to : IsLate IsFaultOf count_of files x → IsBodyFault u m x
  to (f, (k, low, e), late) =
      let (t, tree) = got u.trees k (let s = are.size in omega arith) in
      let (s, text) = got u.texts k (let a = are.size in let b = bodies.size in omega arith) in
      let taken = are.each k t s f tree text (slice_get-get_or files k f low ∙ ap (λ y. Some y) e) in
      record { number = k; tree = t; text = s; has_tree = tree; has_text = text; g = given f; is_given = taken.1; found = late }

  back : IsBodyFault u m x → IsLate IsFaultOf count_of files x
  back b =
      let low : b.number < length files = (let a = slice_get_within u.trees b.number b.tree b.has_tree in let s = are.size in omega arith) in
      let (f, there) = got files b.number low in
      let taken = are.each b.number b.tree b.text f b.has_tree b.has_text there in
      let same = one_given u m b.number b.text b.tree b.g (given f) (spelled_tree b.tree b.text (bodies.spelled b.number b.tree b.text b.has_tree b.has_text)) b.is_given taken.1 in
      (f, (b.number, low, get_or_from_slice_get files b.number f f there), subst (λ (g : Given). IsFoundIn IsFaultIn node_count g x) same b.found)
