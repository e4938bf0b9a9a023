-- What comes of a load.
use Rattle.std.proofs.Common.{◌≡◌, ℕ, zero, suc, ◌<◌, ◌≤◌, ◌^◌, List, [], ◌∷◌, length, map, Option, Some, None, IfSome, slice_get, slice_index_or, All, refl, ap, sym, ◌∙◌, subst, arith}
use Rattle.std.proofs.lemmas.List.{length-map}
use Rattle.std.proofs.lemmas.List.Elements.{All-head, All-tail}
use Rattle.std.proofs.lemmas.Option.{same_Some, slice_get_within}
use Rattle.go_tree.specs.declared.tree.FileTree.{FileTree}
use Rattle.bind.specs.Answers.{AreSpelled, AreSmall}
use Rattle.package_faces.specs.declared.interface.Interface.{Interface}
use Rattle.package_faces.specs.Interfaces.{faces_of, AreInterfacesIn}
use Rattle.package_faces.proofs.FaceLaws.{faces_stay, interfaces_grow}
use Rattle.type_model.specs.declared.table.TypeTable.{TypeTable}
use Rattle.type_model.specs.declared.term.Term.{Term}
use Rattle.type_model.specs.Tables.{Extends, count, terms_in, types_in}
use Rattle.check_pkg.specs.declared.typing.Typed.{Typed}
use Rattle.check_pkg.specs.Packages.{package_of}
use Rattle.action_graph.specs.declared.kit.Load.{Load}
use Rattle.action_graph.specs.declared.kit.Load.TheVariants.{Accepted, Refused}
use Rattle.action_graph.specs.declared.kit.LoadInput.{LoadInput}
use Rattle.action_graph.specs.Nodes.{Named}
use Rattle.face_table.specs.Fitting.{AreFit}
use Rattle.action_graph.specs.Judging.{Env, IfAccepted, Judges, AreParsed, HasNothing, IsPackageOf, AreInterfaces, IsReadable, IsOutcome, IsStuckOver, IsStuck, text_of}
use Rattle.action_graph.proofs.JudgingLaws.{faces_once}
use Rattle.action_graph.proofs.OneFinding.{package-spelled}
use Rattle.go_kit.specs.Loading.{IsAcceptedOf, IsTypedOver}
use Rattle.go_kit.specs.Reading.{AreFilesOf, IsShort, TellsOf}

parsed : (texts : List (List ℕ)) (trees : List FileTree) → AreFilesOf texts trees → AreParsed texts trees
parsed [] [] h = tt
parsed [] (t ∷ ts) h = absurd h
parsed (x ∷ xs) [] h = absurd h
parsed (x ∷ xs) (t ∷ ts) h = (h.0.parsed, parsed xs ts h.1)

pub as-many : (texts : List (List ℕ)) (trees : List FileTree) → AreFilesOf texts trees → length texts ≡ length trees
as-many [] [] h = refl
as-many [] (t ∷ ts) h = absurd h
as-many (x ∷ xs) [] h = absurd h
as-many (x ∷ xs) (t ∷ ts) h = ap suc (as-many xs ts h.1)

counted : (texts : List (List ℕ)) (trees : List FileTree) (f : ℕ) (tree : FileTree) → AreFilesOf texts trees → slice_get trees f ≡ Some tree → length tree.nodes ≤ 2 ^ 32
counted texts [] f tree h found = absurd (let lt : f < 0 = slice_get_within [] f tree found in omega (arith, lt))
counted [] (t ∷ ts) f tree h found = absurd h
counted (x ∷ xs) (t ∷ ts) zero tree h found = subst (λ (s : FileTree). length s.nodes ≤ 2 ^ 32) (same_Some t tree found) h.0.few
counted (x ∷ xs) (t ∷ ts) (suc f) tree h found = counted xs ts f tree h.1 found

-- the package of some files, by their trees
pub package-is : (path : List ℕ) (files : List Named) (trees : List FileTree) → AreFilesOf (map text_of files) trees → IsPackageOf path files (package_of path files trees)
package-is path files trees h = record {
  path_is = refl;
  files = refl;
  trees = parsed (map text_of files) trees h;
  small = λ f tree found. counted (map text_of files) trees f tree h found;
}

same-files : (files input : List Named) (trees : List FileTree) → files ≡ input → AreFilesOf (map text_of input) trees → AreFilesOf (map text_of files) trees
same-files files input trees same h = subst (λ (x : List Named). AreFilesOf (map text_of x) trees) (sym same) h

pub files-spelled : (files input : List Named) (trees : List FileTree) → files ≡ input → AreFilesOf (map text_of input) trees → AreSpelled trees files
files-spelled files input trees same h = package-spelled [] files (package_of [] files trees) (package-is [] files trees (same-files files input trees same h))

pub files-small : (input : List Named) (trees : List FileTree) → AreFilesOf (map text_of input) trees → AreSmall trees
files-small input trees h = λ f tree found. counted (map text_of input) trees f tree h found

-- the files of a load that can be read have trees
gathered : (texts : List (List ℕ)) (trees : List FileTree) → AreParsed texts trees → AreSmall trees → All IsShort texts → AreFilesOf texts trees
gathered [] [] h files short = tt
gathered [] (t ∷ ts) h files short = absurd h
gathered (x ∷ xs) [] h files short = absurd h
gathered (x ∷ xs) (t ∷ ts) h files short = (
  record { parsed = h.0; few = files 0 t refl; short = All-head IsShort x xs short },
  gathered xs ts h.1 (λ f tree a. files (suc f) tree a) (All-tail IsShort x xs short),
)

readable-files : (input : LoadInput) (r : IsReadable input) → AreFilesOf (map text_of input.files) r.pack.trees
readable-files input r = gathered (map text_of input.files) r.pack.trees (subst (λ (x : List Named). AreParsed (map text_of x) r.pack.trees) r.of.files r.of.trees) r.of.small r.short

-- files that have trees, and export texts of packages whose types can all be declared, can be read
all-short : (texts : List (List ℕ)) (trees : List FileTree) → AreFilesOf texts trees → (k : ℕ) (d : List ℕ) → k < length texts → IsShort (slice_index_or texts k d)
all-short [] trees h k d low = absurd (omega (arith, low))
all-short (x ∷ xs) [] h k d low = absurd h
all-short (x ∷ xs) (t ∷ ts) h zero d low = h.0.short
all-short (x ∷ xs) (t ∷ ts) h (suc k) d low = all-short xs ts h.1 k d (omega (arith, low))

pub readable : (input : LoadInput) (trees : List FileTree) (env : Env) (own : List ℕ) → length input.files < 2 ^ 32 → AreFilesOf (map text_of input.files) trees → AreInterfaces input.env env
    → own ≡ input.path → AreFit own env → IsReadable input
readable input trees env own few files faces its fit = record {
  few = few;
  short = all-short (map text_of input.files) trees files;
  pack = package_of input.path input.files trees;
  of = package-is input.path input.files trees files;
  env = env;
  faces = faces;
  fit = subst (λ (q : List ℕ). AreFit q env) its fit;
}

pub few-trees : (files : List Named) (trees : List FileTree) → AreFilesOf (map text_of files) trees → length files < 2 ^ 32 → length trees < 2 ^ 32
few-trees files trees h few =
    let a : length (map text_of files) ≡ length trees = as-many (map text_of files) trees h in
    let b : length (map text_of files) ≡ length files = length-map files text_of in
    omega (arith, a, b, few)

outcome-is : (input : LoadInput) (trees : List FileTree) (env : Env) (text : List ℕ) → AreFilesOf (map text_of input.files) trees
    → AreInterfaces input.env env → TellsOf (package_of input.path input.files trees) env text → IsOutcome input text
unfolding Judges
outcome-is input trees env text h faces told = record {
  env = env;
  judged = told.judged;
  faces = faces;
  judges = (package_of input.path input.files trees, (package-is input.path input.files trees h, told.finds));
  tells = told.tells;
}

pub outcome-of : (input : LoadInput) (files : List Named) (trees : List FileTree) (faces : Env) (path text : List ℕ) → AreFilesOf (map text_of input.files) trees
    → AreInterfaces input.env faces → files ≡ input.files → path ≡ input.path → TellsOf (package_of path files trees) faces text → IsOutcome input text
outcome-of input files trees faces path text here read at its told =
    outcome-is input trees faces text here read
    (subst (λ (xs : List Named). TellsOf (package_of input.path xs trees) faces text) at (subst (λ (q : List ℕ). TellsOf (package_of q files trees) faces text) its told))

pub stuck-of : (input : LoadInput) (files : List Named) (trees : List FileTree) (faces : Env) (path : List ℕ) → AreFilesOf (map text_of input.files) trees
    → AreInterfaces input.env faces → files ≡ input.files → path ≡ input.path → HasNothing (package_of path files trees) faces → IsStuck input
unfolding IsStuckOver
stuck-of input files trees faces path here read at its nothing = record {
  env = faces;
  faces = read;
  stuck = (
    package_of input.path input.files trees,
    (
      package-is input.path input.files trees here,
      subst (λ (xs : List Named). HasNothing (package_of input.path xs trees) faces) at (subst (λ (q : List ℕ). HasNothing (package_of q files trees) faces) its nothing),
    ),
  );
}

-- over faces whose types can't all be declared no load can be read
pub unfit : (input : LoadInput) (faces : Env) (own : List ℕ) (text : List ℕ) → AreInterfaces input.env faces → own ≡ input.path → (AreFit own faces → ⊥) → IsReadable input → IsOutcome input text
unfit input faces own text read its bad r =
    let same : r.env ≡ faces = faces_once input.env r.env faces r.faces read in
    absurd (bad (subst (λ (q : List ℕ). AreFit q faces) (sym its) (subst (λ (e : Env). AreFit input.path e) same r.fit)))

pub unread : (input : LoadInput) (files : List Named) (text : List ℕ) → files ≡ input.files
    → ((trees : List FileTree) → AreFilesOf (map text_of files) trees → ⊥) → IsReadable input → IsOutcome input text
unread input files text here none r =
    absurd (none r.pack.trees (subst (λ (xs : List Named). AreFilesOf (map text_of xs) r.pack.trees) (sym here) (readable-files input r)))

-- ---- packages that are accepted

pub accepted-so : {L : Type 0} (load : Load L) (P Q : L → Type 0) → ((l : L) → P l → Q l) → IfAccepted load P → IfAccepted load Q
accepted-so (Accepted loaded export) P Q so h = so loaded h
accepted-so (Refused marks) P Q so h = tt

pub accepted-both : {L : Type 0} (load : Load L) (P Q R : L → Type 0) → ((l : L) → P l → Q l → R l) → IfAccepted load P → IfAccepted load Q → IfAccepted load R
accepted-both (Accepted loaded export) P Q R so h g = so loaded h g
accepted-both (Refused marks) P Q R so h g = tt

pub some-so : {X : Type 0} (o : Option X) (P Q : X → Type 0) → ((x : X) → P x → Q x) → IfSome o P → IfSome o Q
some-so None P Q so h = tt
some-so (Some x) P Q so h = so x h

pub extends-then : (a b c : List Term) → Extends a b → Extends b c → Extends a c
extends-then a b c one other i low =
    let first = one i low in
    let then_so = other i first.0 in
    (then_so.0, then_so.1 ∙ first.1)

-- what is kept of a package over the interfaces that an input's export texts spell, whose types stand in the table under their numbers
pub typed-over : (input : LoadInput) (files : List Named) (trees : List FileTree) (path : List ℕ) (first mid : TypeTable) (env : List Interface) (t : Typed) → files ≡ input.files → path ≡ input.path
    → Extends (terms_in first) (terms_in mid) → Extends (terms_in mid) (terms_in t.state.table) → AreInterfacesIn (count first) (types_in first) env → AreInterfaces input.env (faces_of (types_in first) env)
    → IsAcceptedOf (package_of path files trees) (faces_of (types_in mid) env) t → IsTypedOver input trees env t
typed-over input files trees path first mid env t here its begins ends within read accepted =
    let whole = extends-then (terms_in first) (terms_in mid) (terms_in t.state.table) begins ends in
    let stay : faces_of (types_in t.state.table) env ≡ faces_of (types_in first) env = faces_stay (terms_in first) (terms_in t.state.table) whole env within in
    let half : faces_of (types_in mid) env ≡ faces_of (types_in first) env = faces_stay (terms_in first) (terms_in mid) begins env within in
    record {
      within = interfaces_grow (terms_in first) (terms_in t.state.table) whole env within;
      faces = subst (λ (faces : Env). AreInterfaces input.env faces) (sym stay) read;
      accepted =
          subst (λ (faces : Env). IsAcceptedOf (package_of input.path input.files trees) faces t) (half ∙ sym stay)
          (subst (λ (xs : List Named). IsAcceptedOf (package_of input.path xs trees) (faces_of (types_in mid) env) t) here
          (subst (λ (q : List ℕ). IsAcceptedOf (package_of q files trees) (faces_of (types_in mid) env) t) its accepted));
    }
