-- Reading files and export texts one after another.
use Rattle.std.proofs.Common.{◌≡◌, ℕ, zero, suc, ◌+◌, ◌<◌, ◌≤◌, ◌^◌, List, [], ◌∷◌, ◌++◌, length, take, map, Option, Some, None, MatchOption, IfSome, slice_index_or, refl, ap, sym, ◌∙◌, subst, arith}
use Rattle.std.proofs.lemmas.List.{map-append, get_or-map, length-map, take_all}
use Rattle.export_text.specs.Faces.{IsFaceText}
use Rattle.go_tree.specs.declared.tree.FileTree.{FileTree}
use Rattle.go_tree.specs.declared.token.Why.{Why}
use Rattle.package_faces.specs.declared.interface.Interface.{Interface}
use Rattle.package_faces.specs.Faces.{Face}
use Rattle.package_faces.specs.Interfaces.{face_of, faces_of, IsInterfaceIn, AreInterfacesIn}
use Rattle.package_faces.proofs.FaceLaws.{faces_stay, interfaces_grow}
use Rattle.parse_file.specs.declared.verdict.FileVerdict.{FileVerdict}
use Rattle.parse_file.specs.declared.verdict.FileVerdict.TheVariants.{Parsed, Lexical, Syntax, TooDeep}
use Rattle.parse_file.specs.Verdict.{IsParsed, IsVerdict}
use Rattle.parse_file.proofs.VerdictLaws.{one_verdict}
use Rattle.std.proofs.lemmas.List.Elements.{All-push}
use Rattle.type_model.specs.GoTypes.{GoType}
use Rattle.type_model.specs.declared.table.TypeTable.{TypeTable}
use Rattle.type_model.specs.Tables.{Grown, count, terms_in, types_in}
use Rattle.action_graph.specs.Nodes.{Named}
use Rattle.action_graph.specs.Judging.{Env, AreInterfaces, text_of}
use Rattle.gv_bytes.proofs.Options.{some_is}
use Rattle.export_text.proofs.FaceReading.{face_again}
use Rattle.go_kit.specs.Keeping.{IsKnown}
use Rattle.go_kit.specs.Reading.{IsFileOf, AreFilesOf, IsShort, IsFaceOf}

tree-is : (a b : FileTree) → Parsed a ≡ Parsed b → a ≡ b
tree-is a b e = cc

-- a text that parses has one tree, which is kept where its nodes can be counted
pub kept-answer : (text : List ℕ) (tree : FileTree) (r : Option FileTree) → IsShort text → IsParsed text tree → IfSome r (λ kept. (kept ≡ tree) × (length tree.nodes ≤ 2 ^ 32))
    → (r ≡ None → length tree.nodes ≤ 2 ^ 32 → ⊥) → MatchOption r ((t : FileTree) → IsFileOf text t → ⊥) (λ t. IsFileOf text t)
kept-answer text tree (Some kept) short parsed some none = record {
  parsed = subst (λ (t : FileTree). IsParsed text t) (sym some.0) parsed;
  few = subst (λ (t : FileTree). length t.nodes ≤ 2 ^ 32) (sym some.0) some.1;
  short = short;
}
kept-answer text tree None short parsed some none = λ t h.
    none refl (subst (λ (s : FileTree). length s.nodes ≤ 2 ^ 32) (tree-is t tree (one_verdict text (Parsed t) (Parsed tree) h.parsed parsed)) h.few)

-- another verdict is of a text that has no tree
other-verdict : (text : List ℕ) (v : FileVerdict) → IsVerdict text v → ((t : FileTree) → v ≡ Parsed t → ⊥) → (t : FileTree) → IsFileOf text t → ⊥
other-verdict text v is apart t h = apart t (one_verdict text v (Parsed t) is h.parsed)

pub lexical-none : (text : List ℕ) (offset : ℕ) (why : Why) → IsVerdict text (Lexical offset why) → (t : FileTree) → IsFileOf text t → ⊥
lexical-none text offset why is = other-verdict text (Lexical offset why) is (λ t e. apart t e) where
  apart : (t : FileTree) → Lexical offset why ≡ Parsed t → ⊥
  apart t e = cc

pub syntax-none : (text : List ℕ) (offset : ℕ) → IsVerdict text (Syntax offset) → (t : FileTree) → IsFileOf text t → ⊥
syntax-none text offset is = other-verdict text (Syntax offset) is (λ t e. apart t e) where
  apart : (t : FileTree) → Syntax offset ≡ Parsed t → ⊥
  apart t e = cc

pub deep-none : (text : List ℕ) (offset : ℕ) → IsVerdict text (TooDeep offset) → (t : FileTree) → IsFileOf text t → ⊥
deep-none text offset is = other-verdict text (TooDeep offset) is (λ t e. apart t e) where
  apart : (t : FileTree) → TooDeep offset ≡ Parsed t → ⊥
  apart t e = cc

-- nor has one that is too long
pub long-none : (text : List ℕ) → 2 ^ 24 < length text → (t : FileTree) → IsFileOf text t → ⊥
long-none text long t h = let short = h.short in omega (arith, long, short)

pub take-one-more : {X : Type 0} (xs : List X) (n : ℕ) (d : X) → n < length xs → take (n + 1) xs ≡ take n xs ++ slice_index_or xs n d ∷ []
take-one-more [] n d lt = absurd (omega (arith, lt))
take-one-more (x ∷ xs) zero d lt = refl
take-one-more (x ∷ xs) (suc n) d lt =
    let e : suc n + 1 ≡ suc (n + 1) = omega arith in
    rw e (ap (λ l. x ∷ l) (take-one-more xs n d (omega (arith, lt))))

-- one file more
files-append : (texts : List (List ℕ)) (trees : List FileTree) (text : List ℕ) (tree : FileTree) → AreFilesOf texts trees → IsFileOf text tree → AreFilesOf (texts ++ text ∷ []) (trees ++ tree ∷ [])
files-append [] [] text tree old new = (new, tt)
files-append [] (t ∷ ts) text tree old new = absurd old
files-append (x ∷ xs) [] text tree old new = absurd old
files-append (x ∷ xs) (t ∷ ts) text tree old new = (old.0, files-append xs ts text tree old.1 new)

pub files-more : (files : List Named) (n : ℕ) (d : Named) (text : List ℕ) (trees new : List FileTree) (tree : FileTree) → d ≡ slice_index_or files n d → text ≡ d.1 → n < length files
    → AreFilesOf (map text_of (take n files)) trees → IsFileOf text tree → new ≡ trees ++ tree ∷ [] → AreFilesOf (map text_of (take (n + 1) files)) new
files-more files n d text trees new tree item its lt old read is =
    let here : IsFileOf (slice_index_or files n d).1 tree = subst (λ (x : List ℕ). IsFileOf x tree) (its ∙ ap text_of item) read in
    let e : map text_of (take (n + 1) files) ≡ map text_of (take n files) ++ (slice_index_or files n d).1 ∷ [] = ap (map text_of) (take-one-more files n d lt) ∙ map-append text_of (take n files) (slice_index_or files n d ∷ []) in
    subst (λ ts. AreFilesOf ts new) (sym e)
    (subst (λ ts. AreFilesOf (map text_of (take n files) ++ (slice_index_or files n d).1 ∷ []) ts) (sym is) (files-append (map text_of (take n files)) trees (slice_index_or files n d).1 tree old here))

-- each of the texts has a tree
file-at : (texts : List (List ℕ)) (trees : List FileTree) (n : ℕ) → n < length texts → AreFilesOf texts trees → (tree : FileTree) × IsFileOf (slice_index_or texts n []) tree
file-at [] trees n lt all = absurd (omega (arith, lt))
file-at (x ∷ xs) [] n lt all = absurd all
file-at (x ∷ xs) (t ∷ ts) zero lt all = (t, all.0)
file-at (x ∷ xs) (t ∷ ts) (suc n) lt all = file-at xs ts n (omega (arith, lt)) all.1

pub no-file : (files : List Named) (n : ℕ) (d : Named) (text : List ℕ) → d ≡ slice_index_or files n d → text ≡ d.1 → n < length files → ((tree : FileTree) → IsFileOf text tree → ⊥)
    → (trees : List FileTree) → AreFilesOf (map text_of files) trees → ⊥
no-file files n d text item its lt none trees all =
    let bad : (tree : FileTree) → IsFileOf (slice_index_or files n d).1 tree → ⊥ =
    subst (λ (x : List ℕ). (tree : FileTree) → IsFileOf x tree → ⊥) (its ∙ ap text_of item) none in
    let e : length (map text_of files) ≡ length files = length-map files text_of in
    let same : slice_index_or (map text_of files) n [] ≡ (slice_index_or files n d).1 = get_or-map text_of files n d [] lt in
    let one = file-at (map text_of files) trees n (omega (arith, e, lt)) all in
    bad one.0 (subst (λ t. IsFileOf t one.0) same one.1)

pub all-files : (files : List Named) (n : ℕ) (trees : List FileTree) → length files ≤ n → AreFilesOf (map text_of (take n files)) trees → AreFilesOf (map text_of files) trees
all-files files n trees done all = subst (λ fs. AreFilesOf (map text_of fs) trees) (take_all n files done) all

-- the interface, where its path is that beside the text
pub path-answer : (types : List GoType) (pair : Named) (interface : Interface) (r : Option Interface) → IsFaceText (face_of types interface) pair.1 → ((f : Face) → IsFaceText f pair.1 → f ≡ face_of types interface)
    → IfSome r (λ kept. (kept ≡ interface) × (interface.path ≡ pair.0)) → (r ≡ None → interface.path ≡ pair.0 → ⊥) → MatchOption r ((f : Face) → IsFaceOf pair f → ⊥) (λ i. IsFaceOf pair (face_of types i))
path-answer types pair interface (Some kept) spelled one some none = record {
  spelled = subst (λ (i : Interface). IsFaceText (face_of types i) pair.1) (sym some.0) spelled;
  path = ap (λ (i : Interface). i.path) some.0 ∙ some.1;
}
path-answer types pair interface None spelled one some none = λ f h. none refl (ap (λ (x : Face). x.path) (sym (one f h.spelled)) ∙ h.path)

-- one more
faces-append : (env : List Named) (faces : Env) (x : Named) (i : Face) → AreInterfaces env faces → IsFaceOf x i → AreInterfaces (env ++ x ∷ []) (faces ++ i ∷ [])
faces-append [] [] x i old new = (new.spelled, new.path, tt)
faces-append [] (k ∷ faces) x i old new = absurd old
faces-append (y ∷ env) [] x i old new = absurd old
faces-append (y ∷ env) (k ∷ faces) x i old new = (old.0, old.1, faces-append env faces x i old.2 new)

pub faces-more : (env : List Named) (n : ℕ) (d : Named) (faces new : Env) (i : Face) → d ≡ slice_index_or env n d → n < length env → AreInterfaces (take n env) faces → IsFaceOf d i
    → new ≡ faces ++ i ∷ [] → AreInterfaces (take (n + 1) env) new
faces-more env n d faces new i item lt old read is =
    let here : IsFaceOf (slice_index_or env n d) i = subst (λ (x : Named). IsFaceOf x i) item read in
    subst (λ xs. AreInterfaces xs new) (sym (take-one-more env n d lt))
    (subst (λ fs. AreInterfaces (take n env ++ slice_index_or env n d ∷ []) fs) (sym is) (faces-append (take n env) faces (slice_index_or env n d) i old here))

face-at : (env : List Named) (faces : Env) (n : ℕ) (d : Named) → n < length env → AreInterfaces env faces → (i : Face) × IsFaceOf (slice_index_or env n d) i
face-at [] faces n d lt all = absurd (omega (arith, lt))
face-at (x ∷ xs) [] n d lt all = absurd all
face-at (x ∷ xs) (i ∷ faces) zero d lt all = (i, record { spelled = all.0; path = all.1 })
face-at (x ∷ xs) (i ∷ faces) (suc n) d lt all = face-at xs faces n d (omega (arith, lt)) all.2

pub no-face : (env : List Named) (n : ℕ) (d : Named) → d ≡ slice_index_or env n d → n < length env → ((i : Face) → IsFaceOf d i → ⊥) → (faces : Env) → AreInterfaces env faces → ⊥
no-face env n d item lt bad faces all = let one = face-at env faces n d lt all in bad one.0 (subst (λ (x : Named). IsFaceOf x one.0) (sym item) one.1)

pub all-faces : (env : List Named) (n : ℕ) (faces : Env) → length env ≤ n → AreInterfaces (take n env) faces → AreInterfaces env faces
all-faces env n faces done all = subst (λ xs. AreInterfaces xs faces) (take_all n env done) all

-- ---- interfaces over a table that grows

pub interfaces-more : (env : List Named) (n : ℕ) (d : Named) (old new : TypeTable) (list items : List Interface) (i : Interface) → d ≡ slice_index_or env n d → n < length env → Grown old new
    → AreInterfacesIn (count old) (types_in old) list → AreInterfaces (take n env) (faces_of (types_in old) list) → IsFaceOf d (face_of (types_in new) i) → items ≡ list ++ i ∷ []
    → AreInterfaces (take (n + 1) env) (faces_of (types_in new) items)
interfaces-more env n d old new list items i item lt grown within so_far read is =
    let stay : faces_of (types_in new) list ≡ faces_of (types_in old) list = faces_stay (terms_in old) (terms_in new) grown.extends list within in
    let shape : faces_of (types_in new) items ≡ faces_of (types_in new) list ++ face_of (types_in new) i ∷ [] = ap (λ (xs : List Interface). faces_of (types_in new) xs) is ∙ map-append (λ (x : Interface). face_of (types_in new) x) list (i ∷ []) in
    faces-more env n d (faces_of (types_in new) list) (faces_of (types_in new) items) (face_of (types_in new) i) item lt (subst (λ (fs : Env). AreInterfaces (take n env) fs) (sym stay) so_far) read shape

pub interfaces-within : (old new : TypeTable) (list items : List Interface) (i : Interface) → Grown old new → AreInterfacesIn (count old) (types_in old) list → IsInterfaceIn (count new) (types_in new) i → items ≡ list ++ i ∷ []
    → AreInterfacesIn (count new) (types_in new) items
interfaces-within old new list items i grown within one is =
    subst (λ (xs : List Interface). AreInterfacesIn (count new) (types_in new) xs) (sym is)
    (record { each = All-push (IsInterfaceIn (count new) (types_in new)) list i (interfaces_grow (terms_in old) (terms_in new) grown.extends list within).each one })

-- what was read of the text before is what it spells
pub known-answer : (t : TypeTable) (pair : Named) (text path : List ℕ) (face : Interface) (r : Option Interface) → text ≡ pair.1 → path ≡ pair.0 → IsKnown t (record { text = text; face = face })
    → IfSome r (λ kept. (kept ≡ face) × (face.path ≡ path)) → (r ≡ None → face.path ≡ path → ⊥) → MatchOption r ((f : Face) → IsFaceOf pair f → ⊥) (λ i. IsFaceOf pair (face_of (types_in t) i))
known-answer t pair text path face r its called known some none =
    let spelled : IsFaceText (face_of (types_in t) face) pair.1 = subst (λ (x : List ℕ). IsFaceText (face_of (types_in t) face) x) its known.spelled in
    path-answer (types_in t) pair face r spelled (λ f p. some_is f (face_of (types_in t) face) (sym (face_again pair.1 f p) ∙ face_again pair.1 (face_of (types_in t) face) spelled))
    (subst (λ (q : List ℕ). IfSome r (λ kept. (kept ≡ face) × (face.path ≡ q))) called some) (subst (λ (q : List ℕ). r ≡ None → face.path ≡ q → ⊥) called none)
