-- What scanning a text gives.
use Rattle.std.specs.Prelude.{◌≡◌, List, [], ◌∷◌, ℕ, Option, Some, None, false, length, nat_eq}
use Rattle.std.specs.List.{list_any}
use Rattle.std.specs.Global.{Vec}
use Rattle.go_tree.specs.declared.token.Token.{Token}
use Rattle.go_tree.specs.declared.token.Why.{Why}
use Rattle.go_tree.specs.Lexed.{Lexed, LexRefused}
use Rattle.go_scan.specs.declared.outcome.Scan.{Scan}
use Rattle.go_scan.specs.declared.outcome.Scan.TheVariants.{Tokens, Refused}

-- the tokens are those of the text, or it is refused so
abbrev pub IsScan : List ℕ → Scan → Type 0
IsScan text (Tokens tokens) = Lexed text tokens
IsScan text (Refused offset why) = LexRefused text offset why

abbrev pub IsTokens : List Token → Scan → Type 0
IsTokens tokens (Tokens found) = found ≡ tokens
IsTokens tokens (Refused offset why) = ⊥

abbrev pub IsRefusal : ℕ → Why → Scan → Type 0
IsRefusal offset why (Tokens found) = ⊥
IsRefusal offset why (Refused at because) = (at ≡ offset) × (because ≡ why)

-- the value, if there is one
abbrev pub option_list : {A : Type 0} → Option A → List A
option_list None = []
option_list (Some x) = x ∷ []

-- all bytes are UTF-8, none is 0, and none begins a byte order mark
pub record IsPlain (text : List ℕ) (valid : ℕ) : Type 0 where
  pub whole : valid ≡ length text
  pub nul : list_any (λ b. nat_eq b 0) text ≡ false
  pub front : list_any (λ b. nat_eq b 239) text ≡ false
