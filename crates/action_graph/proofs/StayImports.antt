-- What imports lead to, and by which names, is the same where more is seen of packages, and nothing lacked before.
use Rattle.std.proofs.Common.{◌≡◌, ℕ, zero, suc, Bool, true, false, not, cond, ◌||◌, if◌then◌else◌, Option, Some, None, option_map, option_and_then, List, [], ◌∷◌, map, slice_get, get_or, refl, sym, ap, ◌∙◌, subst}
use Rattle.std.specs.List.{Contains}
use Rattle.std.specs.Option.{option_map_or}
use Rattle.std.specs.Str.{bytes_eq}
use Rattle.std.specs.Prelude.{codes}
use Rattle.std.proofs.lemmas.Option.{get_or_from_slice_get}
use Rattle.go_tree.specs.ImportPaths.{path_of as named_path}
use Rattle.go_tree.specs.Head.{import_line, node_at, token_at, no_token, local_of, named}
use Rattle.go_tree.specs.Pieces.{Spelled}
use Rattle.go_tree.specs.Spelling.{text_of, no_node}
use Rattle.go_tree.specs.Values.{text_value}
use Rattle.go_tree.specs.declared.head.ImportLine.{ImportLine}
use Rattle.go_tree.specs.declared.head.LocalName.{LocalName}
use Rattle.go_tree.specs.declared.head.LocalName.TheVariants as local
use Rattle.go_tree.specs.declared.token.Token.{Token}
use Rattle.go_tree.specs.declared.tree.FileTree.{FileTree}
use Rattle.go_tree.specs.declared.tree.Node.{Node}
use Rattle.go_tree.specs.declared.tree.NodeKind.{NodeKind}
use Rattle.go_tree.specs.declared.tree.NodeKind.TheVariants as k
use Rattle.import_graph.specs.Packages.{counts, is_dot}
use Rattle.package_faces.specs.Declaring.{first_named, path_of}
use Rattle.package_faces.specs.Faces.{Face}
use Rattle.export_text.specs.Mentions.{IsMentioned}
use Rattle.typed_tree.specs.declared.rule.Limit.{Limit}
use Rattle.typed_tree.specs.declared.rule.Limit.TheVariants.{Unsafe, Cgo}
use Rattle.bind.specs.Imports.{package_of, name_or, last_segment, local_name, line_name, specs_in}
use Rattle.unit_read.specs.Imports.{is_import as is_spec, dot_limit, node_limit}
use Rattle.unit_read.specs.Units.{Unit, text_in, tree_at, nodes_of, nodes_at, last_spelled}
use Rattle.unit_read.proofs.BareLemmas.{over, bare_same}
use Rattle.unit_read.specs.Imports.{bare}
use Rattle.action_graph.specs.Closed.{Knows, Grows, is_reserved, Reserved}
use Rattle.action_graph.proofs.StayFaces.{first_cons}
use Rattle.action_graph.proofs.ImportNodes.{specs_listed}

-- A package, by its unit, and a world in which more is seen of others: its files are spelled, nothing lacks of what its imports and the faces that
-- it knows name, and the world has all that it knows, and no package of a path that is none.
pub record Within (u : Unit) (world : List Face) : Type 0 where
  pub spelled : (f : ℕ) (tree : FileTree) → tree_at u f ≡ Some tree → (tokens : List Token) × Spelled tokens (text_in u f) tree
  pub imports : (f n : ℕ) (tree : FileTree) → tree_at u f ≡ Some tree → Contains (specs_in tree tree.tops) n → counts (import_line tree (text_in u f) n) ≡ true
      → (g : Face) × Knows u.env (import_line tree (text_in u f) n).path g
  pub mentions : (g : Face) (path : List ℕ) → Contains u.env g → IsMentioned g path → (h : Face) × Knows u.env path h
  pub grows : Grows u.env world
  pub reserved : Reserved world

-- the path and the name of each package
abbrev pub names_of : List Face → List (List ℕ × List ℕ)
names_of faces = map (λ (f : Face). (f.path, f.name)) faces

-- by which name a package is known
package_named : (faces : List Face) (q : List ℕ) → package_of (names_of faces) q ≡ option_map (λ (f : Face). f.name) (first_named path_of faces q)
package_named [] q = refl
package_named (f ∷ faces) q = by (bytes_eq f.path q) (package_named faces q) ∙ sym (ap (option_map (λ (g : Face). g.name)) (first_cons path_of q f faces)) where
  by : (b : Bool) → package_of (names_of faces) q ≡ option_map (λ (g : Face). g.name) (first_named path_of faces q)
      → cond b (Some f.name) (package_of (names_of faces) q) ≡ option_map (λ (g : Face). g.name) (if b then Some f else first_named path_of faces q)
  by true rest = refl
  by false rest = rest

counts_by : (dot a b c : Bool) → dot ≡ false → (a || (b || c)) ≡ false → not (dot || (a || b)) ≡ true
counts_by true a b c d h = absurd cc
counts_by false true b c d h = absurd cc
counts_by false false true c d h = absurd cc
counts_by false false false c d h = refl

-- ---- the line of a node

token_bytes : (source : List ℕ) (tokens : List Token) (i : ℕ) → text_of source (get_or tokens i no_token) ≡ option_map_or (text_of source) (slice_get tokens i) []
token_bytes source [] i = refl
token_bytes source (t ∷ tokens) zero = refl
token_bytes source (t ∷ tokens) (suc i) = token_bytes source tokens i

no_dot_limit : (a b : Bool) (o : Option Limit) → (if a then Some Unsafe else (if b then Some Cgo else o)) ≡ None → o ≡ None
no_dot_limit true b o h = absurd cc
no_dot_limit false true o h = absurd cc
no_dot_limit false false o h = h

named_plain : (name : List ℕ) → is_dot (named name) ≡ false
named_plain name = by (bytes_eq name (codes "_")) where
  by : (b : Bool) → is_dot (cond b local.Blank (local.Named name)) ≡ false
  by true = refl
  by false = refl

-- what has no limit is no import of all names
not_dot : (kind : NodeKind) (name : List ℕ) → is_spec kind ≡ true → dot_limit kind ≡ None → is_dot (local_of kind name) ≡ false
not_dot k.ImportPath name spec free = refl
not_dot k.ImportDot name spec free = absurd cc
not_dot k.ImportNamed name spec free = named_plain name
not_dot _ name spec free = absurd cc

module _ (u : Unit) (world : List Face) (a : Within u world) where
  here_free : (q : List ℕ) → is_reserved q ≡ true → first_named path_of u.env q ≡ None
  here_free q none = by (first_named path_of u.env q) refl where
    by : (o : Option Face) → first_named path_of u.env q ≡ o → o ≡ None
    by None e = refl
    by (Some f) e = absurd (a.reserved q f none (a.grows q f e))

  there_free : (q : List ℕ) → is_reserved q ≡ true → first_named path_of world q ≡ None
  there_free q none = by (first_named path_of world q) refl where
    by : (o : Option Face) → first_named path_of world q ≡ o → o ≡ None
    by None e = refl
    by (Some f) e = absurd (a.reserved q f none e)

  -- of a path that is no package's the same is known: nothing
  pub free_same : (q : List ℕ) → is_reserved q ≡ true → first_named path_of world q ≡ first_named path_of u.env q
  free_same q none = there_free q none ∙ sym (here_free q none)

  -- and of one of which something is known
  pub known_same : (q : List ℕ) → (g : Face) × Knows u.env q g → first_named path_of world q ≡ first_named path_of u.env q
  known_same q (g, e) = a.grows q g e ∙ sym e

  -- of the path of an import that isn't of all names the same is known
  line_same : (f n : ℕ) (tree : FileTree) → tree_at u f ≡ Some tree → Contains (specs_in tree tree.tops) n → is_dot (import_line tree (text_in u f) n).local ≡ false
      → first_named path_of world (import_line tree (text_in u f) n).path ≡ first_named path_of u.env (import_line tree (text_in u f) n).path
  line_same f n tree at has plain = by (is_reserved line.path) refl where
    line : ImportLine
    line = import_line tree (text_in u f) n

    by : (b : Bool) → is_reserved line.path ≡ b → first_named path_of world line.path ≡ first_named path_of u.env line.path
    by true none = free_same line.path none
    by false some = known_same line.path (a.imports f n tree at has (counts_by (is_dot line.local) (bytes_eq line.path (codes "unsafe")) (bytes_eq line.path (codes "C")) (bytes_eq line.path []) plain some))

  -- each import declares the same name
  pub name_same : (f n : ℕ) (tree : FileTree) → tree_at u f ≡ Some tree → Contains (specs_in tree tree.tops) n
      → line_name (names_of u.env) (import_line tree (text_in u f) n) ≡ line_name (names_of world) (import_line tree (text_in u f) n)
  name_same f n tree at has = by (import_line tree (text_in u f) n).local refl where
    path : List ℕ
    path = (import_line tree (text_in u f) n).path

    default : is_dot (import_line tree (text_in u f) n).local ≡ false → package_of (names_of u.env) path ≡ package_of (names_of world) path
    default plain = package_named u.env path ∙ (ap (option_map (λ (g : Face). g.name)) (sym (line_same f n tree at has plain)) ∙ sym (package_named world path))

    by : (l : LocalName) → (import_line tree (text_in u f) n).local ≡ l → local_name (names_of u.env) path l ≡ local_name (names_of world) path l
    by local.Default is = ap (λ (o : Option (List ℕ)). Some (name_or o (last_segment path))) (default (ap is_dot is))
    by (local.Named name) is = refl
    by local.Blank is = refl
    by local.Dot is = refl

  -- ---- what rules read

  spec_same : (f n : ℕ) (tree : FileTree) (node : Node) → tree_at u f ≡ Some tree → slice_get tree.nodes n ≡ Some node → is_spec node.kind ≡ true → node_limit u f node ≡ None
      → first_named path_of world (named_path (last_spelled u f node)) ≡ first_named path_of u.env (named_path (last_spelled u f node))
  spec_same f n tree node at here spec free =
      subst (λ (q : List ℕ). first_named path_of world q ≡ first_named path_of u.env q) path_is (line_same f n tree at (specs_listed spelling.0 (text_in u f) tree spelling.1 n node here spec) plain)
    where
      spelling : (tokens : List Token) × Spelled tokens (text_in u f) tree
      spelling = a.spelled f tree at

      node_is : node_at tree n ≡ node
      node_is = get_or_from_slice_get tree.nodes n node no_node here

      bytes_are : text_of (text_in u f) (token_at tree node.last) ≡ last_spelled u f node
      bytes_are = token_bytes (text_in u f) tree.tokens node.last ∙ sym (ap (λ (o : Option FileTree). option_map_or (text_of (text_in u f)) (option_and_then (λ (t : FileTree). slice_get t.tokens node.last) o) []) at)

      path_is : (import_line tree (text_in u f) n).path ≡ named_path (last_spelled u f node)
      path_is = ap (λ (x : Node). named_path (text_of (text_in u f) (token_at tree x.last))) node_is ∙ ap named_path bytes_are

      plain : is_dot (import_line tree (text_in u f) n).local ≡ false
      plain =
          ap (λ (x : Node). is_dot (local_of x.kind (text_of (text_in u f) (token_at tree x.first)))) node_is
          ∙ not_dot node.kind (text_of (text_in u f) (token_at tree node.first)) spec
          (no_dot_limit (bytes_eq (text_value (last_spelled u f node)) (codes "unsafe")) (bytes_eq (text_value (last_spelled u f node)) (codes "C")) (dot_limit node.kind) free)

  node_same : (f n : ℕ) (node : Node) → slice_get (nodes_at u f) n ≡ Some node → is_spec node.kind ≡ true → node_limit u f node ≡ None
      → first_named path_of world (named_path (last_spelled u f node)) ≡ first_named path_of u.env (named_path (last_spelled u f node))
  node_same f n node = by (tree_at u f) refl where
    by : (o : Option FileTree) → tree_at u f ≡ o → slice_get (nodes_of o) n ≡ Some node → is_spec node.kind ≡ true → node_limit u f node ≡ None
        → first_named path_of world (named_path (last_spelled u f node)) ≡ first_named path_of u.env (named_path (last_spelled u f node))
    by None at here spec free = absurd cc
    by (Some tree) at here spec free = spec_same f n tree node at here spec free

  -- rules read the same unit
  pub bare_is : bare (over u world) ≡ bare u
  bare_is = bare_same u world node_same
