-- The sources of a package, and where names denote what is predeclared.
use Rattle.std.proofs.Common.{◌≡◌, ◌↔◌, ◌<◌, ℕ, zero, suc, Bool, true, false, List, [], ◌∷◌, map, length, Option, Some, None, slice_get, slice_index_or, refl, sym, ap, ◌∙◌, subst, arith}
use Rattle.std.specs.Global.{Vec}
use Rattle.std.proofs.lemmas.Option.{slice_get_within}
use Rattle.std.specs.Option.{option_map_or}
use Rattle.go_tree.specs.Pieces.{Spelled}
use Rattle.go_tree.specs.declared.tree.FileTree.{FileTree}
use Rattle.go_tree.specs.declared.tree.Node.{Node}
use Rattle.go_tree.specs.declared.tree.NodeRef.{NodeRef}
use Rattle.unit_read.specs.Subjects.{flag}
use Rattle.unit_read.specs.Units.{Unit, node_at, nodes_of}
use Rattle.std.specs.List.{Contains}
use Rattle.typed_marks.specs.declared.item.Item.{Item}
use Rattle.typed_marks.specs.Meanings.{Meaning}
use Rattle.analysis_core.specs.declared.diagnostic.Diagnostic.{Diagnostic}
use Rattle.findings.specs.Reported.{IsReported, AreFindings}
use Rattle.vet_simple.specs.RuneTexts.{rune_texts, IsRuneText}
use Rattle.bind.specs.Answers.{AreSpelled}
use Rattle.bind.specs.Denoting.{IsUndeclared}
use Rattle.bind.specs.Sources.{Source, Sources, AreFiles}
use Rattle.bind.specs.Undeclared.{AreUndeclared}
use Rattle.vet_flow.specs.Unreachable.{AreTreesSpelled}
use Rattle.vet_suite.specs.Free.{path_of, text_of, AreSourcesOf, IsFree, AreGiven}

-- where nothing is reported, nothing is of any node
pub none_found : (u : Unit) (marks : Item → Meaning) (free : NodeRef → Bool) (found : List Diagnostic) → AreFindings (IsRuneText free) u marks found → found ≡ [] → (at : NodeRef) (node : Node) → node_at u at ≡ Some node
    → rune_texts free u marks at node ≡ []
none_found u marks free found are empty at node there = by (rune_texts free u marks at node) refl where
  none_in : (d : Diagnostic) → Contains {X = Diagnostic} [] d → ⊥
  none_in d (k, low, e) = omega (arith, low)

  by : (ds : List Diagnostic) → rune_texts free u marks at node ≡ ds → rune_texts free u marks at node ≡ []
  by [] e = e
  by (d ∷ ds) e =
      let reported : IsReported (IsRuneText free) u marks d = record { at = at; node = node; stands = there; is = subst (λ (l : List Diagnostic). Contains l d) (sym e) (0, omega arith, refl) } in
      absurd (none_in d (subst (λ (l : List Diagnostic). Contains l d) empty (are.every d reported)))

abbrev File : Type 0
File = List ℕ × List ℕ

-- files whose trees are spelled have their sources
sources_of : (trees : List FileTree) (files : List File) → AreSpelled trees files → (ss : List Source) × AreFiles trees files ss
sources_of [] [] spelled = ([], tt)
sources_of [] (e ∷ es) spelled = absurd (let size = spelled.size in cc)
sources_of (t ∷ ts) [] spelled = absurd (let size = spelled.size in cc)
sources_of (t ∷ ts) (e ∷ es) spelled =
    let here = spelled.spelled 0 t e refl refl in
    let size : suc (length ts) ≡ suc (length es) = spelled.size in
    let rest = sources_of ts es (record { size = omega arith; spelled = λ i v f tree file. spelled.spelled (suc i) v f tree file }) in
    (record { path = e.0; bytes = e.1; tree = t; forest = here.forest } ∷ rest.0, (refl, refl, refl, here.arena, rest.1))

-- two lists of pairs with the same parts are one
same_pairs : (xs ys : List File) → map path_of xs ≡ map path_of ys → map text_of xs ≡ map text_of ys → xs ≡ ys
same_pairs [] [] paths texts = refl
same_pairs [] (y ∷ ys) paths texts = absurd (cc)
same_pairs (x ∷ xs) [] paths texts = absurd (cc)
same_pairs (x ∷ xs) (y ∷ ys) paths texts =
    ap (λ (f : File). f ∷ xs) (pair x y (head (path_of x) (path_of y) (map path_of xs) (map path_of ys) paths) (head (text_of x) (text_of y) (map text_of xs) (map text_of ys) texts))
    ∙ ap (λ (l : List File). y ∷ l) (same_pairs xs ys (tail (path_of x) (path_of y) (map path_of xs) (map path_of ys) paths) (tail (text_of x) (text_of y) (map text_of xs) (map text_of ys) texts)) where
      pair : (x y : File) → x.0 ≡ y.0 → x.1 ≡ y.1 → x ≡ y
      pair x y e f = ap (λ a. (a, x.1)) e ∙ ap (λ b. (y.0, b)) f

      head : (a b : List ℕ) (xs ys : List (List ℕ)) → a ∷ xs ≡ b ∷ ys → a ≡ b
      head a b xs ys e = cc

      tail : (a b : List ℕ) (xs ys : List (List ℕ)) → a ∷ xs ≡ b ∷ ys → xs ≡ ys
      tail a b xs ys e = cc

tree_of_file : (trees : List FileTree) (files : List File) (ss : List Source) (i : ℕ) (t : FileTree) → AreFiles trees files ss → slice_get trees i ≡ Some t → (s : Source) × (slice_get ss i ≡ Some s) × (s.tree ≡ t)
tree_of_file [] files ss i t are e = absurd (cc)
tree_of_file (x ∷ trees) [] ss i t are e = absurd are
tree_of_file (x ∷ trees) (f ∷ files) [] i t are e = absurd are
tree_of_file (x ∷ trees) (f ∷ files) (s ∷ ss) zero t (tree, path, bytes, arena, others) e = (s, refl, tree ∙ same x t e) where
  same : (a b : FileTree) → Some a ≡ Some b → a ≡ b
  same a b e = cc
tree_of_file (x ∷ trees) (f ∷ files) (s ∷ ss) (suc i) t (tree, path, bytes, arena, others) e = tree_of_file trees files ss i t others e

-- a node that is there stands in a tree
node_in : (u : Unit) (at : NodeRef) (node : Node) → node_at u at ≡ Some node → (t : FileTree) × (slice_get u.trees at.file ≡ Some t) × (at.node < length t.nodes)
node_in u at node there = by (slice_get u.trees at.file) refl there where
  within : (xs : List Node) (i : ℕ) (x : Node) → slice_get xs i ≡ Some x → i < length xs
  within [] i x e = absurd (cc)
  within (y ∷ xs) zero x e = omega arith
  within (y ∷ xs) (suc i) x e = let r = within xs i x e in omega arith

  by : (o : Option FileTree) → slice_get u.trees at.file ≡ o → slice_get (nodes_of o) at.node ≡ Some node → (t : FileTree) × (slice_get u.trees at.file ≡ Some t) × (at.node < length t.nodes)
  by None e is = absurd (cc)
  by (Some t) e is = (t, e, within t.nodes at.node node is)

-- the rows of a call say where the name is free
pub rows_free : (u : Unit) (files named facts : List File) (name : List ℕ) (rows : List (Vec Bool)) → AreGiven u files named facts
    → ((p : Sources) → p.named ≡ named → AreFiles u.trees files p.files → AreUndeclared p name rows) → IsFree (map path_of files) u name (flag rows)
rows_free u files named facts name rows given bound = record {
  sources = record { files = (sources_of u.trees files given.spelled).0; named = named };
  are = record { files = files; paths_are = refl; texts_are = sym given.texts; named = given.named_is; sources = (sources_of u.trees files given.spelled).1 };
  each = λ p are at node there. told p are at node there;
} where
  told : (p : Sources) → AreSourcesOf (map path_of files) u p → (at : NodeRef) (node : Node) → node_at u at ≡ Some node → (flag rows at ≡ true) ↔ IsUndeclared p at name
  told p are at node there =
      let same : are.files ≡ files = same_pairs are.files files are.paths_are (are.texts_are ∙ given.texts) in
      let these : AreFiles u.trees files p.files = subst (λ (l : List File). AreFiles u.trees l p.files) same are.sources in
      let (t, tree, low) = node_in u at node there in
      let (s, source, is) = tree_of_file u.trees files p.files at.file t these tree in
      let (row, at_row, tells) = bound p (are.named ∙ sym given.named_is) these at s source (subst (λ (x : FileTree). at.node < length x.nodes) (sym is) low) in
      subst (λ (b : Bool). (b ≡ true) ↔ IsUndeclared p at name) (sym (ap (λ (o : Option (Vec Bool)). option_map_or (λ (r : Vec Bool). slice_index_or r.items at.node false) o false) at_row)) tells

-- ---- trees

-- the text of each tree spells it
pub trees_spelled : (u : Unit) (files named facts : List File) → AreGiven u files named facts → AreTreesSpelled u
trees_spelled u files named facts given f tree there =
    let (e, file) = there_at files f (let low = slice_get_within u.trees f tree there in let size = given.spelled.size in omega (arith, low, size)) in
    subst (λ (b : List ℕ). Spelled tree.tokens b tree) (sym (text_there files f e file) ∙ ap (λ (l : List (List ℕ)). slice_index_or l f []) (sym given.texts)) (given.spelled.spelled f tree e there file) where
      there_at : (xs : List File) (i : ℕ) → i < length xs → (x : File) × (slice_get xs i ≡ Some x)
      there_at [] i low = absurd (omega arith)
      there_at (x ∷ xs) zero low = (x, refl)
      there_at (x ∷ xs) (suc i) low = there_at xs i (omega arith)

      text_there : (xs : List File) (i : ℕ) (e : File) → slice_get xs i ≡ Some e → slice_index_or (map text_of xs) i [] ≡ e.1
      text_there [] i e there = absurd (cc)
      text_there (x ∷ xs) zero e there = ap text_of (it x e there) where
        it : (a b : File) → Some a ≡ Some b → a ≡ b
        it a b e = cc
      text_there (x ∷ xs) (suc i) e there = text_there xs i e there
