-- The tokens of the files of a load are texts, and so is the name of its package.
use Rattle.std.proofs.Common.{◌≡◌, ℕ, zero, suc, ◌<◌, true, List, [], ◌∷◌, map, Option, Some, None, slice_get, slice_index_or, option_and_then, refl, sym, subst, arith, IsUtf8}
use Rattle.std.specs.Option.{option_map_or}
use Rattle.std.specs.Str.{is_utf8}
use Rattle.std.proofs.lemmas.Option.{same_Some, slice_get_within}
use Rattle.std.proofs.lemmas.Str.{IsUtf8-from_is_utf8, IsUtf8-nil, is_utf8-from_IsUtf8}
use Rattle.go_tree.specs.Names.{first_token, token_text}
use Rattle.go_tree.specs.declared.token.Token.{Token}
use Rattle.go_tree.specs.declared.tree.FileTree.{FileTree}
use Rattle.go_tree.specs.declared.tree.Node.{Node}
use Rattle.parse_file.specs.Verdict.{IsParsed}
use Rattle.parse_file.proofs.TokenTexts.{parsed_utf8}
use Rattle.unit_read.specs.Texts.{HaveTokens}
use Rattle.check_pkg.specs.Packages.{package_name, package_of}
use Rattle.action_graph.specs.Judging.{text_of}
use Rattle.action_graph.specs.Nodes.{Named}
use Rattle.go_kit.specs.Reading.{AreFilesOf}

tokens_at : (texts : List (List ℕ)) (trees : List FileTree) → AreFilesOf texts trees → (f i : ℕ) (tree : FileTree) (token : Token) → slice_get trees f ≡ Some tree → slice_get tree.tokens i ≡ Some token
    → is_utf8 (token_text (slice_index_or texts f []) token) ≡ true
tokens_at texts [] h f i tree token there at = absurd (let lt : f < 0 = slice_get_within [] f tree there in omega (arith, lt))
tokens_at [] (t ∷ trees) h f i tree token there at = absurd h
tokens_at (x ∷ texts) (t ∷ trees) h zero i tree token there at = parsed_utf8 x tree i token (subst (IsParsed x) (same_Some t tree there) h.0.parsed) at
tokens_at (x ∷ texts) (t ∷ trees) h (suc f) i tree token there at = tokens_at texts trees h.1 f i tree token there at

pub files_texts : (files input : List Named) (trees : List FileTree) → files ≡ input → AreFilesOf (map text_of input) trees → HaveTokens (map text_of files) trees
files_texts files input trees same h = subst (λ (xs : List Named). HaveTokens (map text_of xs) trees) (sym same) (record { each = tokens_at (map text_of input) trees h })

-- ---- the name of a package

nothing : is_utf8 [] ≡ true
nothing = is_utf8-from_IsUtf8 [] IsUtf8-nil

module _ (texts : List (List ℕ)) (trees : List FileTree) (have : HaveTokens texts trees) where
  abbrev bytes_of : Option Token → List ℕ
  bytes_of o = option_map_or (token_text (slice_index_or texts 0 [])) o []

  by_token : (tree : FileTree) (i : ℕ) → slice_get trees 0 ≡ Some tree → (o : Option Token) → slice_get tree.tokens i ≡ o → is_utf8 (bytes_of o) ≡ true
  by_token tree i there None e = nothing
  by_token tree i there (Some token) e = have.each 0 i tree token there e

  by_node : (tree : FileTree) → slice_get trees 0 ≡ Some tree → (o : Option Node) → is_utf8 (bytes_of (option_and_then (λ (node : Node). slice_get tree.tokens node.first) o)) ≡ true
  by_node tree there None = nothing
  by_node tree there (Some node) = by_token tree node.first there (slice_get tree.tokens node.first) refl

  by_tree : (o : Option FileTree) → slice_get trees 0 ≡ o → is_utf8 (bytes_of (option_and_then (λ (tree : FileTree). first_token tree 0) o)) ≡ true
  by_tree None e = nothing
  by_tree (Some tree) e = by_node tree e (slice_get tree.nodes 0)

pub name_utf8 : (files : List Named) (trees : List FileTree) → HaveTokens (map text_of files) trees → IsUtf8 (package_name (package_of [] files trees))
name_utf8 files trees have = IsUtf8-from_is_utf8 (package_name (package_of [] files trees)) (by_tree (map text_of files) trees have (slice_get trees 0) refl)
