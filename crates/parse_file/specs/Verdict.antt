-- The verdict of a file.
use Rattle.std.specs.Prelude.{ℕ, ◌≡◌, ◌<◌, List, length, cond, nat_lt, get_or}
use Rattle.go_tree.specs.declared.token.Token.{Token}
use Rattle.go_tree.specs.declared.token.TokenKind.TheVariants.{Semi}
use Rattle.go_tree.specs.declared.tree.FileTree.{FileTree}
use Rattle.go_tree.specs.Lexed.{Lexed, LexRefused}
use Rattle.go_tree.specs.Pieces.{Spelled, Finding, Fine, Syntax, TooDeep}
use Rattle.go_parse.specs.Chunk.{FindsOf}
use Rattle.parse_file.specs.declared.verdict.FileVerdict.{FileVerdict}
use Rattle.parse_file.specs.declared.verdict.FileVerdict.TheVariants as verdicts

abbrev pub no_token : Token
no_token = record { kind = Semi; start = 0; «end» = 0 }

-- where the token of a number begins, the end of the text where there is none
abbrev pub offset_at : List Token → ℕ → ℕ → ℕ
offset_at tokens at end = cond (nat_lt at (length tokens)) (get_or tokens at no_token).start end

-- the text's tokens are the tree's, and each piece of it is fine
pub record IsParsed (text : List ℕ) (t : FileTree) : Type 0 where
  pub tokens : List Token
  pub lexed : Lexed text tokens
  pub spelled : Spelled tokens text t
  pub finds : FindsOf tokens text Fine

-- A piece of the text's tokens is found to be such, and this is where it begins.
pub record IsFoundAt (text : List ℕ) (offset : ℕ) (found : ℕ → Finding) : Type 0 where
  pub tokens : List Token
  pub lexed : Lexed text tokens
  pub at : ℕ
  pub finds : FindsOf tokens text (found at)
  pub place : offset_at tokens at (length text) ≡ offset

-- The verdict of a file: the scanner's refusal, else that of the first piece, in turn, that no tree of depth at most 250
-- spells, else the tree.
abbrev pub IsVerdict : List ℕ → FileVerdict → Type 0
IsVerdict text (verdicts.Parsed t) = IsParsed text t
IsVerdict text (verdicts.Lexical offset why) = LexRefused text offset why
IsVerdict text (verdicts.Syntax offset) = IsFoundAt text offset Syntax
IsVerdict text (verdicts.TooDeep offset) = IsFoundAt text offset TooDeep
