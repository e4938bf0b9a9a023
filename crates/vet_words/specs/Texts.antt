-- How nodes are spelled, and which are spelled with the same tokens.
use Rattle.std.specs.Prelude.{ℕ, Bool, if◌then◌else◌, List, [], ◌∷◌, ◌++◌, codes, flat_map, length, nat_lt, bytes_eq}
use Rattle.std.specs.Option.{option_map_or}
use Rattle.go_tree.specs.declared.token.Token.{Token}
use Rattle.go_tree.specs.declared.tree.FileTree.{FileTree}
use Rattle.go_tree.specs.Spelling.{is_semi, text_of, node_tokens, spelling}
use Rattle.unit_read.specs.Units.{Unit, text_in, tree_at}

-- ---- spellings

abbrev pub tree_spelling : List ℕ → ℕ → FileTree → List ℕ
tree_spelling source n tree = if nat_lt n (length tree.nodes) then spelling tree n source else []

-- The spelling of a node: its tokens as they are written, with a space only between two words.
abbrev pub spelling_at : Unit → ℕ → ℕ → List ℕ
spelling_at u f n = option_map_or (tree_spelling (text_in u f) n) (tree_at u f) []

-- ---- equality

-- a semicolon, written or inserted, is the same
abbrev pub word_of : List ℕ → Token → List ℕ
word_of source t = if is_semi t.kind then codes ";" else text_of source t

-- a token, and the end of it, which stands in no token
abbrev pub token_key : List ℕ → Token → List ℕ
token_key source t = word_of source t ++ 0 ∷ []

abbrev pub tokens_key : List ℕ → List Token → List ℕ
tokens_key source tokens = flat_map (token_key source) tokens

abbrev pub tree_key : List ℕ → ℕ → FileTree → List ℕ
tree_key source n tree = if nat_lt n (length tree.nodes) then tokens_key source (node_tokens tree n) else []

-- the tokens of a node, in turn
abbrev pub key_at : Unit → ℕ → ℕ → List ℕ
key_at u f n = option_map_or (tree_key (text_in u f) n) (tree_at u f) []

-- Two nodes of a file are equal: they have the same tokens.
abbrev pub is_same : Unit → ℕ → ℕ → ℕ → Bool
is_same u f a b = bytes_eq (key_at u f a) (key_at u f b)
