-- The unit of a package over its environment is its unit where more is seen of other packages.
use Rattle.std.proofs.Common.{◌≡◌, ℕ, zero, suc, ◌<◌, Bool, List, [], ◌∷◌, map, Some, option_map, slice_get, slice_index_or, refl, sym, ap, ◌∙◌, subst, arith}
use Rattle.std.specs.List.{Contains}
use Rattle.std.proofs.lemmas.Option.{same_Some, slice_get-map, slice_get_within}
use Rattle.go_tree.specs.Head.{import_line, head_of}
use Rattle.go_tree.specs.Pieces.{Spelled}
use Rattle.go_tree.specs.declared.head.ImportLine.{ImportLine}
use Rattle.go_tree.specs.declared.tree.FileTree.{FileTree}
use Rattle.go_tree.specs.declared.tree.NodeRef.{NodeRef}
use Rattle.parse_file.specs.Verdict.{IsParsed}
use Rattle.package_needs.specs.Worlds.{IsPackage}
use Rattle.bind.specs.Denoting.{AreBindings}
use Rattle.bind.specs.Imports.{specs_in, line_name}
use Rattle.bind.specs.Sources.{Source, AreFiles}
use Rattle.bind.proofs.ImportLemmas.{lines_are}
use Rattle.unit_read.specs.Units.{Unit, text_in, tree_at}
use Rattle.unit_read.proofs.BareLemmas.{over}
use Rattle.check_pkg.specs.Packages.{Package, IsUnit, AreUses, AreNeeds, known_of, texts_in, text_of}
use Rattle.unit_rows.specs.Circular.{AreCircular}
use Rattle.unit_blocks.specs.Blocks.{AreAgain}
use Rattle.action_graph.specs.Closed.{Knows, Grows, IsClosed, Reserved}
use Rattle.action_graph.specs.Judging.{Env, AreParsed, IsPackageOf}
use Rattle.action_graph.specs.Nodes.{Named}
use Rattle.action_graph.proofs.SameUses.{sources, Alike, alike_back, same_denotes}
use Rattle.action_graph.proofs.StayFaces.{contains_at, at_contained}
use Rattle.action_graph.proofs.StayImports.{Within, name_same}
use Rattle.action_graph.proofs.StayTypes.{struct_same}

-- ---- the files of a package

parsed_there : (texts : List (List ℕ)) (trees : List FileTree) (f : ℕ) (tree : FileTree) → AreParsed texts trees → slice_get trees f ≡ Some tree → IsParsed (slice_index_or texts f []) tree × (slice_get texts f ≡ Some (slice_index_or texts f []))
parsed_there [] [] f tree h at = absurd (let l : f < 0 = slice_get_within [] f tree at in omega (arith, l))
parsed_there [] (t ∷ trees) f tree h at = absurd h
parsed_there (x ∷ texts) [] f tree h at = absurd h
parsed_there (x ∷ texts) (t ∷ trees) zero tree h at = (subst (IsParsed x) (same_Some t tree at) h.0, refl)
parsed_there (x ∷ texts) (t ∷ trees) (suc f) tree h at = parsed_there texts trees f tree h.1 at

-- a source of the package has the tree and the text of its file
record IsSourceAt (trees : List FileTree) (texts : List (List ℕ)) (f : ℕ) (src : Source) : Type 0 where
  tree : slice_get trees f ≡ Some src.tree
  bytes : src.bytes ≡ slice_index_or texts f []

source_there : (trees : List FileTree) (files : List (List ℕ × List ℕ)) (list : List Source) (f : ℕ) (src : Source) → AreFiles trees files list → slice_get list f ≡ Some src → IsSourceAt trees (map text_of files) f src
source_there [] [] [] f src are at = absurd (let l : f < 0 = slice_get_within [] f src at in omega (arith, l))
source_there [] [] (s ∷ list) f src are at = absurd are
source_there [] (e ∷ files) list f src are at = absurd are
source_there (t ∷ trees) [] list f src are at = absurd are
source_there (t ∷ trees) (e ∷ files) [] f src are at = absurd are
source_there (t ∷ trees) (e ∷ files) (s ∷ list) zero src (tree, path, bytes, arena, others) at =
    subst (λ (x : Source). IsSourceAt (t ∷ trees) (map text_of (e ∷ files)) zero x) (same_Some s src at) (record { tree = ap Some (sym tree); bytes = bytes })
source_there (t ∷ trees) (e ∷ files) (s ∷ list) (suc f) src (tree, path, bytes, arena, others) at =
    let there = source_there trees files list f src others at in
    record { tree = there.tree; bytes = there.bytes }

-- ---- what is asked of a package and a world

mapped_has : {X Y : Type 0} (g : X → Y) (xs : List X) (x : X) → Contains xs x → Contains (map g xs) (g x)
mapped_has g xs x c = contains_at (map g xs) c.0 (g x) (slice_get-map g xs c.0 ∙ ap (option_map g) (at_contained xs x c))

module _ (path : List ℕ) (files : List Named) (p : Package) (of : IsPackageOf path files p) (env world : Env) (closed : IsClosed path files env) (grows : Grows env world) (reserved : Reserved world)
    (u : Unit) (unit : IsUnit p env u) where
  there : (f : ℕ) (tree : FileTree) → tree_at u f ≡ Some tree → IsParsed (slice_index_or (texts_in p) f []) tree × (slice_get (texts_in p) f ≡ Some (slice_index_or (texts_in p) f []))
  there f tree at = parsed_there (texts_in p) p.trees f tree of.trees (ap (λ (trees : List FileTree). slice_get trees f) (sym unit.trees) ∙ at)

  text_is : (f : ℕ) → slice_index_or (texts_in p) f [] ≡ text_in u f
  text_is f = ap (λ (texts : List (List ℕ)). slice_index_or texts f []) (sym unit.texts)

  env_is : env ≡ u.env
  env_is = sym unit.env

  has_line : (f n : ℕ) (tree : FileTree) → Contains (specs_in tree tree.tops) n → Contains (head_of tree (text_in u f)).imports (import_line tree (text_in u f) n)
  has_line f n tree has =
      subst (λ (l : List ImportLine). Contains l (import_line tree (text_in u f) n)) (sym (lines_are tree (text_in u f) tree.tops)) (mapped_has (import_line tree (text_in u f)) (specs_in tree tree.tops) n has)

  pub within : Within u world
  within = record {
    spelled = λ f tree at. (let is = (there f tree at).0 in (is.tokens, subst (λ (text : List ℕ). Spelled is.tokens text tree) (text_is f) is.spelled));
    imports = λ f n tree at has leads.
        (let known = closed.imports p (import_line tree (text_in u f) n).path of (record {
          n = f;
          tree = tree;
          text = text_in u f;
          line = import_line tree (text_in u f) n;
          at = record {
            tree = ap (λ (trees : List FileTree). slice_get trees f) (sym unit.trees) ∙ at;
            text = (there f tree at).1 ∙ ap Some (text_is f);
          };
          has = has_line f n tree has;
          leads = leads;
          of = refl;
        }) in
        (known.0, subst (λ (e : Env). Knows e (import_line tree (text_in u f) n).path known.0) env_is known.1));
    mentions = λ g other c mention.
        (let known = closed.mentions g other (subst (λ (e : Env). Contains e g) (sym env_is) c) mention in (known.0, subst (λ (e : Env). Knows e other known.0) env_is known.1));
    grows = λ q f known. grows q f (subst (λ (e : Env). Knows e q f) (sym env_is) known);
    reserved = reserved;
  }

  -- ---- what uses denote

  alike : (list : List Source) → AreFiles p.trees p.files list → Alike list (known_of env) (known_of world)
  alike list are at src file has =
      let is = source_there p.trees p.files list at.file src are file in
      let bytes : src.bytes ≡ text_in u at.file = is.bytes ∙ text_is at.file in
      let tree : tree_at u at.file ≡ Some src.tree = ap (λ (trees : List FileTree). slice_get trees at.file) unit.trees ∙ is.tree in
      let same = name_same u world within at.file at.node src.tree tree has in
      let here : line_name (known_of env) (import_line src.tree (text_in u at.file) at.node) ≡ line_name (known_of world) (import_line src.tree (text_in u at.file) at.node) =
      ap (λ (e : Env). line_name (known_of e) (import_line src.tree (text_in u at.file) at.node)) env_is ∙ same in
      subst (λ (b : List ℕ). line_name (known_of env) (import_line src.tree b at.node) ≡ line_name (known_of world) (import_line src.tree b at.node)) (sym bytes) here

  bound : (list : List Source) (named : List (List ℕ × List ℕ)) → named ≡ known_of world → AreFiles p.trees p.files list → AreBindings (sources list named) u.uses
  bound list named is are at o =
      let same : Alike list (known_of env) named = subst (λ (n : List (List ℕ × List ℕ)). Alike list (known_of env) n) (sym is) (alike list are) in
      let before = unit.uses.bound (sources list (known_of env)) refl are at o in
      (λ has. same_denotes list (known_of env) named same at o (before.0 has), λ denotes. before.1 (same_denotes list named (known_of env) (alike_back list (known_of env) named same) at o denotes))

  uses : AreUses p world u.uses
  uses = record { ordered = unit.uses.ordered; bound = λ s is are. bound s.files s.named is are }

  -- ---- the unit

  needs : AreNeeds (over u world)
  needs = record {
    rows = unit.needs.rows;
    names = unit.needs.names;
    world = unit.needs.world;
    «is» = subst (λ (e : NodeRef → Bool). IsPackage u.uses u.trees e unit.needs.rows unit.needs.names unit.needs.world) (sym (struct_same u world within)) unit.needs.«is»;
    each = unit.needs.each;
    others = unit.needs.others;
    owned = unit.needs.owned;
    unowned = unit.needs.unowned;
  }

  again : AreAgain (over u world) u.redeclared
  again = record { rows = unit.redeclared.rows; names = unit.redeclared.names; each = unit.redeclared.each }

  circular : AreCircular (over u world) u.circular
  circular = record { each = unit.circular.each; others = unit.circular.others }

  pub unit_stays : IsUnit p world (over u world)
  unit_stays = record { path = unit.path; texts = unit.texts; trees = unit.trees; uses = uses; env = refl; redeclared = again; needs = needs; circular = circular }
