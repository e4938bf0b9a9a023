-- The texts of a package that has been read.
use Rattle.std.proofs.Common.{◌≡◌, ℕ, true, List, [], Option, Some, None, slice_get, slice_index_or, option_and_then, refl, IsUtf8}
use Rattle.std.specs.Option.{option_map_or}
use Rattle.std.specs.Str.{is_utf8}
use Rattle.std.proofs.lemmas.Str.{IsUtf8-from_is_utf8, is_utf8-from_IsUtf8, IsUtf8-nil}
use Rattle.go_tree.specs.Spelling.{text_of}
use Rattle.go_tree.specs.declared.token.Token.{Token}
use Rattle.go_tree.specs.declared.tree.FileTree.{FileTree}
use Rattle.unit_read.specs.declared.subject.Subject.{Subject}
use Rattle.unit_read.specs.Subjects.{unit_of, IsRead}
use Rattle.unit_read.specs.Texts.{HaveTokens, HaveTexts, AreTexts}
use Rattle.unit_read.specs.Units.{spelled}

pub are_texts : (name : List ℕ) (sources : List (List ℕ)) (trees : List FileTree) → IsUtf8 name → HaveTokens sources trees → AreTexts name sources trees
unfolding AreTexts
are_texts name sources trees path tokens = record { path = is_utf8-from_IsUtf8 name path; tokens = tokens }

have_texts : (name : List ℕ) (sources : List (List ℕ)) (trees : List FileTree) → AreTexts name sources trees → HaveTexts name sources trees
unfolding AreTexts
have_texts name sources trees are = are

nothing : is_utf8 [] ≡ true
nothing = is_utf8-from_IsUtf8 [] IsUtf8-nil

module _ (sources : List (List ℕ)) (trees : List FileTree) (have : HaveTokens sources trees) (f i : ℕ) where
  abbrev token_of : Option FileTree → Option Token
  token_of o = option_and_then (λ (tree : FileTree). slice_get tree.tokens i) o

  abbrev bytes_of : Option Token → List ℕ
  bytes_of o = option_map_or (text_of (slice_index_or sources f [])) o []

  by_token : (tree : FileTree) → slice_get trees f ≡ Some tree → (o : Option Token) → slice_get tree.tokens i ≡ o → is_utf8 (bytes_of o) ≡ true
  by_token tree there None e = nothing
  by_token tree there (Some token) e = have.each f i tree token there e

  by_tree : (o : Option FileTree) → slice_get trees f ≡ o → is_utf8 (bytes_of (token_of o)) ≡ true
  by_tree None e = nothing
  by_tree (Some tree) e = by_token tree e (slice_get tree.tokens i) refl

-- the bytes of a token, and none where there is none
pub spelled_utf8 : (s : Subject) → IsRead s → (f i : ℕ) → IsUtf8 (spelled (unit_of s) f i)
spelled_utf8 s read f i =
    let u = unit_of s in
    IsUtf8-from_is_utf8 (spelled u f i) (by_tree u.texts u.trees (have_texts u.path u.texts u.trees read.texts).tokens f i (slice_get u.trees f) refl)

pub path_utf8 : (s : Subject) → IsRead s → IsUtf8 (unit_of s).path
path_utf8 s read = let u = unit_of s in IsUtf8-from_is_utf8 u.path (have_texts u.path u.texts u.trees read.texts).path
