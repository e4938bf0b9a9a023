-- A package has one finding: its refusals and what it exports are lists in a strict order.
use Rattle.std.proofs.Common.{◌≡◌, ℕ, zero, suc, ◌<◌, inl, inr, true, List, [], ◌∷◌, length, Some, slice_get, map, refl, sym, ap, ◌∙◌, subst, arith}
use Rattle.std.specs.declared.cmp.Ordering.{Ordering}
use Rattle.std.specs.declared.cmp.Ordering.TheVariants.{Less, Equal}
use Rattle.std.specs.Ordering.{nat_cmp, is_lt}
use Rattle.std.specs.Cmp.Lexicographic.{slice_cmp}
use Rattle.std.proofs.lemmas.Cmp.{nat_list_cmp_total, tied_itself}
use Rattle.std.proofs.lemmas.Option.{same_Some, slice_get_within}
use Rattle.export_text.proofs.ExportLaws.{in_turn, less_of, one_sorted}
use Rattle.package_faces.specs.Faces.{ObjectOut, Face}
use Rattle.package_faces.specs.Orders.{object_before}
use Rattle.package_faces.specs.Reaching.{IsExportOf}
use Rattle.typed_marks.specs.declared.item.Item.{Item}
use Rattle.typed_marks.specs.Meanings.{Meaning}
use Rattle.go_tree.specs.declared.token.Token.{Token}
use Rattle.go_tree.specs.declared.tree.FileTree.{FileTree}
use Rattle.go_tree.specs.Pieces.{Spelled}
use Rattle.parse_file.specs.declared.verdict.FileVerdict.TheVariants.{Parsed}
use Rattle.parse_file.specs.Verdict.{IsParsed}
use Rattle.parse_file.proofs.VerdictLaws.{one_verdict}
use Rattle.bind.specs.Answers.{AreSpelled}
use Rattle.unit_read.specs.Imports.{bare}
use Rattle.unit_read.specs.Units.{Unit}
use Rattle.go_rules.specs.Stages.{rule}
use Rattle.check_pkg.specs.declared.refusal.Refusal.{Refusal}
use Rattle.check_pkg.specs.Faults.{IsOrdered, Precedes}
use Rattle.check_pkg.specs.Interfaces.{HasExports, HasObjects, IsExported, declarations_of, unit_name}
use Rattle.check_pkg.specs.Packages.{IsUnit, Package}
use Rattle.check_pkg.specs.Refusals.{HasMarks, IsAnnotation, IsRefused}
use Rattle.check_pkg.proofs.OneUnit.{the_unit}
use Rattle.action_graph.specs.Nodes.{Named}
use Rattle.action_graph.specs.Judging.{Judged, Env, AreParsed, IsPackageOf, Finds, line_of, text_of}
use Rattle.action_graph.specs.Judging.Judged.{Accepts, Refuses}
use Rattle.action_graph.proofs.OneList.{IsStrict, same-list}

precedes-trans : (a b c : Refusal) → Precedes a b → Precedes b c → Precedes a c
precedes-trans a b c p q = elim p [
  | inl f ↦ elim q [ inl g ↦ inl (omega (arith, f, g)) | inr g ↦ inl (let e = g.0 in omega (arith, f, e)) ]
  | inr f ↦ elim q [
    | inl g ↦ inl (let e = f.0 in omega (arith, e, g))
    | inr g ↦ inr (
      f.0 ∙ g.0,
      elim f.1 [
        | inl o ↦ elim g.1 [ inl u ↦ inl (omega (arith, o, u)) | inr u ↦ inl (let e = u.0 in omega (arith, o, e)) ]
        | inr o ↦ elim g.1 [ inl u ↦ inl (let e = o.0 in omega (arith, e, u)) | inr u ↦ inr (o.0 ∙ u.0, (let m = o.1 in let n = u.1 in omega (arith, m, n))) ]
      ],
    )
  ]
]

precedes-itself : (a : Refusal) → Precedes a a → ⊥
precedes-itself a p = elim p [ inl f ↦ omega (arith, f) | inr f ↦ elim f.1 [ inl o ↦ omega (arith, o) | inr o ↦ (let n = o.1 in omega (arith, n)) ] ]

precedes : IsStrict Precedes
precedes = record { trans = precedes-trans; itself = precedes-itself }

-- a unit has one list of marks in order
one-refused : (u : Unit) (xs ys : List Refusal) → HasMarks rule u xs → HasMarks rule u ys → IsOrdered xs → IsOrdered ys → xs ≡ ys
one-refused u xs ys one other first second =
    same-list Precedes precedes (IsRefused u other.marks) xs ys first second (one.each other.marks other.annotated.is) (other.each other.marks other.annotated.is)

-- where a unit has no marks, nothing is in a list of them
none-refused : (u : Unit) (xs : List Refusal) → HasMarks rule u [] → HasMarks rule u xs → xs ≡ []
none-refused u [] one other = refl
none-refused u (x ∷ xs) one other =
    let refused : IsRefused u other.marks x = ((other.each other.marks other.annotated.is) x).0 (zero, omega arith, refl) in
    let low = ((one.each other.marks other.annotated.is x).1 refused).1 in
    absurd (omega (arith, low))

-- ---- what is seen of a unit

abbrev NameBefore : ObjectOut → ObjectOut → Type 0
NameBefore a b = object_before a b ≡ true

name-trans : (a b c : ObjectOut) → NameBefore a b → NameBefore b c → NameBefore a c
name-trans a b c h g = ap is_lt (nat_list_cmp_total.trans a.name b.name c.name (less_of (slice_cmp nat_cmp a.name b.name) h) (less_of (slice_cmp nat_cmp b.name c.name) g))

not-less : (o : Ordering) → o ≡ Equal → o ≡ Less → ⊥
not-less o e l = cc

name-itself : (a : ObjectOut) → NameBefore a a → ⊥
name-itself a h = not-less (slice_cmp nat_cmp a.name a.name) (tied_itself nat_list_cmp_total a.name) (less_of (slice_cmp nat_cmp a.name a.name) h)

names : IsStrict NameBefore
names = record { trans = name-trans; itself = name-itself }

module _ (u : Unit) (marks : Item → Meaning) (annotated : IsAnnotation rule u marks) where
  -- a unit has one list of exported objects
  pub one-objects : (os ps : List ObjectOut) → HasObjects rule u os → HasObjects rule u ps → os ≡ ps
  one-objects os ps one other =
      same-list NameBefore names (IsExported (bare u) marks) os ps (in_turn object_before os one.rise) (in_turn object_before ps other.rise) (one.each marks annotated) (other.each marks annotated)

  -- what is seen of a unit is one value
  pub one-seen : (f g : Face) → HasExports rule u f → HasExports rule u g → f ≡ g
  one-seen f g one other =
      let objects : f.objects ≡ g.objects = one-objects f.objects g.objects one.objects other.objects in
      let first : IsExportOf (declarations_of u marks) u.path (unit_name u) g.objects f = subst (λ (os : List ObjectOut). IsExportOf (declarations_of u marks) u.path (unit_name u) os f) objects (one.reached marks annotated) in
      one_sorted (declarations_of u marks) u.path (unit_name u) g.objects f g first (other.reached marks annotated) one.types other.types one.methods other.methods

module _ (p : Package) (env : Env) (spelled : AreSpelled p.trees p.files) (u v : Unit) (one : IsUnit p env u) (other : IsUnit p env v) where
  unit-is : u ≡ v
  unit-is = the_unit p env u v one other spelled

  marks-here : (xs : List Refusal) → HasMarks rule u xs → HasMarks rule v xs
  marks-here xs marks = subst (λ (x : Unit). HasMarks rule x xs) unit-is marks

  exports-here : (f : Face) → HasExports rule u f → HasExports rule v f
  exports-here f exports = subst (λ (x : Unit). HasExports rule x f) unit-is exports

-- there is one finding of a package
pub finds-once : (p : Package) (env : Env) (a b : Judged) → AreSpelled p.trees p.files → Finds p env a → Finds p env b → a ≡ b
finds-once p env (Accepts f) (Accepts g) spelled one other =
    ap Accepts (one-seen other.unit other.marks.marks other.marks.annotated.is f g (exports-here p env spelled one.unit other.unit one.is other.is f one.exports) other.exports)
finds-once p env (Accepts f) (Refuses lines) spelled one other =
    absurd (other.some (none-refused other.unit other.list (marks-here p env spelled one.unit other.unit one.is other.is [] one.marks) other.marks))
finds-once p env (Refuses lines) (Accepts g) spelled one other =
    absurd (one.some (none-refused one.unit one.list (marks-here p env spelled other.unit one.unit other.is one.is [] other.marks) one.marks))
finds-once p env (Refuses lines) (Refuses lines2) spelled one other =
    let same = one-refused other.unit one.list other.list (marks-here p env spelled one.unit other.unit one.is other.is one.list one.marks) other.marks one.ordered other.ordered in
    ap Refuses (one.lines_are ∙ (ap (λ (list : List Refusal). map line_of list) same ∙ sym other.lines_are))

tree-is : (a b : FileTree) → Parsed a ≡ Parsed b → a ≡ b
tree-is a b e = cc

one-tree : (text : List ℕ) (a b : FileTree) → IsParsed text a → IsParsed text b → a ≡ b
one-tree text a b h g = tree-is a b (one_verdict text (Parsed a) (Parsed b) h g)

one-trees : (texts : List (List ℕ)) (a b : List FileTree) → AreParsed texts a → AreParsed texts b → a ≡ b
one-trees [] [] [] h g = refl
one-trees [] [] (t ∷ ts) h g = absurd g
one-trees [] (s ∷ ss) ts h g = absurd h
one-trees (x ∷ xs) [] ts h g = absurd h
one-trees (x ∷ xs) (s ∷ ss) [] h g = absurd g
one-trees (x ∷ xs) (s ∷ ss) (t ∷ ts) h g = ap (λ f. f ∷ ss) (one-tree x s t h.0 g.0) ∙ ap (λ l. t ∷ l) (one-trees xs ss ts h.1 g.1)

-- a tree that is parsed is spelled by its own tokens
spelled-itself : (text : List ℕ) (t : FileTree) → IsParsed text t → Spelled t.tokens text t
spelled-itself text t p = subst (λ (ts : List Token). Spelled ts text t) (ap (λ (u : FileTree). u.tokens) p.spelled.arena) p.spelled

pub as-many : (files : List Named) (trees : List FileTree) → AreParsed (map text_of files) trees → length trees ≡ length files
as-many [] [] h = refl
as-many [] (t ∷ ts) h = absurd h
as-many (x ∷ xs) [] h = absurd h
as-many (x ∷ xs) (t ∷ ts) h = ap suc (as-many xs ts h.1)

spelled-at : (files : List Named) (trees : List FileTree) (i : ℕ) (t : FileTree) (e : Named) → AreParsed (map text_of files) trees → slice_get trees i ≡ Some t → slice_get files i ≡ Some e → Spelled t.tokens e.1 t
spelled-at [] trees i t e h at found = absurd (let lt : i < 0 = slice_get_within [] i e found in omega (arith, lt))
spelled-at (x ∷ xs) [] i t e h at found = absurd h
spelled-at (x ∷ xs) (s ∷ ss) zero t e h at found =
    subst (λ (y : Named). Spelled t.tokens y.1 t) (same_Some x e found) (subst (λ (y : FileTree). Spelled y.tokens x.1 y) (same_Some s t at) (spelled-itself x.1 s h.0))
spelled-at (x ∷ xs) (s ∷ ss) (suc i) t e h at found = spelled-at xs ss i t e h.1 at found

-- parsed trees are spelled
pub all-spelled : (files : List Named) (trees : List FileTree) → AreParsed (map text_of files) trees → AreSpelled trees files
all-spelled files trees h = record { size = as-many files trees h; spelled = λ i t e at found. spelled-at files trees i t e h at found }

-- the trees of a package are spelled by its files
pub package-spelled : (path : List ℕ) (files : List Named) (p : Package) → IsPackageOf path files p → AreSpelled p.trees p.files
package-spelled path files p of = all-spelled p.files p.trees of.trees

-- files are of one package
pub one-package : (path : List ℕ) (files : List Named) (p q : Package) → IsPackageOf path files p → IsPackageOf path files q → p ≡ q
one-package path files p q h g =
    let same : p.files ≡ q.files = h.files ∙ sym g.files in
    let trees : p.trees ≡ q.trees = one-trees (map text_of q.files) p.trees q.trees (subst (λ (x : List Named). AreParsed (map text_of x) p.trees) same h.trees) g.trees in
    ap (λ (x : List ℕ). record { path = x; files = p.files; trees = p.trees }) (h.path_is ∙ sym g.path_is)
    ∙ (ap (λ (x : List Named). record { path = q.path; files = x; trees = p.trees }) same ∙ ap (λ (t : List FileTree). record { path = q.path; files = q.files; trees = t }) trees)
