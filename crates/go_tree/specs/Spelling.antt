-- The texts of tokens and of nodes.
use Rattle.std.specs.Prelude.{ℕ, suc, ◌+◌, ◌-◌, Bool, true, false, cond, ◌==◌, ◌&&◌, ◌||◌, nat_le, List, [], ◌∷◌, ◌++◌, length, take, drop, get_or, bytes_eq, slice_index, slice_range}
use Rattle.go_tree.specs.declared.token.Token.{Token}
use Rattle.go_tree.specs.declared.token.TokenKind.{TokenKind}
use Rattle.go_tree.specs.declared.token.TokenKind.TheVariants.{Name, Int, Float, Imag, Rune, Text, Keyword, Mark, Semi}
use Rattle.go_tree.specs.declared.tree.FileTree.{FileTree}
use Rattle.go_tree.specs.declared.tree.Node.{Node}
use Rattle.go_tree.specs.declared.tree.NodeKind.TheVariants as k

-- the bytes of a token in its source
abbrev pub text_of : List ℕ → Token → List ℕ
text_of source token = slice_range source token.start token.end

-- A byte of a letter, a digit or `_`. Bytes past ASCII stand outside of literals only in names.
abbrev pub is_word : ℕ → Bool
is_word b = (nat_le 48 b && nat_le b 57) || ((nat_le 65 b && nat_le b 90) || (b == 95 || ((nat_le 97 b && nat_le b 122) || nat_le 128 b)))

abbrev pub ends_word : List ℕ → Bool
ends_word text = is_word (slice_index text (length text - 1))

abbrev pub begins_word : List ℕ → Bool
begins_word text = is_word (slice_index text 0)

-- a space only where the left text ends and the right one begins with a letter, a digit or `_`
abbrev pub gap : List ℕ → List ℕ → List ℕ
gap left right = cond (ends_word left && begins_word right) (32 ∷ []) []

-- the texts of tokens after a text
abbrev pub spelled_after : List ℕ → List ℕ → List Token → List ℕ
spelled_after source left [] = []
spelled_after source left (t ∷ ts) = gap left (text_of source t) ++ (text_of source t ++ spelled_after source (text_of source t) ts)

abbrev pub no_node : Node
no_node = record { kind = k.Name; first = 0; last = 0; parts = [] }

-- the tokens of a node, from its first to its last
abbrev pub node_tokens : FileTree → ℕ → List Token
node_tokens tree node = take (suc (get_or tree.nodes node no_node).last - (get_or tree.nodes node no_node).first) (drop (get_or tree.nodes node no_node).first tree.tokens)

-- the tokens of a node, each as it is written
abbrev pub spelling : FileTree → ℕ → List ℕ → List ℕ
spelling tree node source = spelled_after source [] (node_tokens tree node)

abbrev pub is_semi : TokenKind → Bool
is_semi Semi = true
is_semi _ = false

-- two semicolons, written or inserted, or the same text
abbrev pub same_token : List ℕ → Token → Token → Bool
same_token source x y = (is_semi x.kind && is_semi y.kind) || bytes_eq (text_of source x) (text_of source y)

abbrev pub same_list : List ℕ → List Token → List Token → Bool
same_list source [] [] = true
same_list source [] (y ∷ ys) = false
same_list source (x ∷ xs) [] = false
same_list source (x ∷ xs) (y ∷ ys) = same_token source x y && same_list source xs ys

-- two nodes have the same tokens
abbrev pub same_tokens : FileTree → ℕ → ℕ → List ℕ → Bool
same_tokens tree a b source = same_list source (node_tokens tree a) (node_tokens tree b)
