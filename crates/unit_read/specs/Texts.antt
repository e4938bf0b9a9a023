-- Names are texts: the path of a package, and each token of its files.
use Rattle.std.specs.Prelude.{◌≡◌, ℕ, true, List, [], Some, slice_get, slice_index_or}
use Rattle.std.specs.Str.{is_utf8}
use Rattle.go_tree.specs.Spelling.{text_of}
use Rattle.go_tree.specs.declared.token.Token.{Token}
use Rattle.go_tree.specs.declared.tree.FileTree.{FileTree}

-- each token of the files is UTF-8
pub record HaveTokens (sources : List (List ℕ)) (trees : List FileTree) : Type 0 where
  pub each : (f i : ℕ) (tree : FileTree) (token : Token) → slice_get trees f ≡ Some tree → slice_get tree.tokens i ≡ Some token → is_utf8 (text_of (slice_index_or sources f []) token) ≡ true

-- and so is the path
pub record HaveTexts (name : List ℕ) (sources : List (List ℕ)) (trees : List FileTree) : Type 0 where
  pub path : is_utf8 name ≡ true
  pub tokens : HaveTokens sources trees

unfoldable pub AreTexts : List ℕ → List (List ℕ) → List FileTree → Type 0
AreTexts name sources trees = HaveTexts name sources trees
