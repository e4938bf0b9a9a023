-- What holds of each token of a text that is lexed.
use Rattle.std.proofs.Common.{◌≡◌, ℕ, suc, ◌+◌, ◌-◌, ◌≤◌, Bool, true, false, cond, ◌&&◌, List, [], ◌∷◌, ◌++◌, Option, Some, None, length, take, drop, refl, ap, subst, arith, All, slice_get, nat_eq}
use Rattle.std.specs.Prelude.{◌==◌}
use Rattle.std.specs.List.{list_all, starts_with}
use Rattle.std.specs.Char.{is_ascii_digit}
use Rattle.std.specs.Option.{option_map}
use Rattle.std.specs.Str.{byte}
use Rattle.std.proofs.lemmas.Bool.{and_parts}
use Rattle.std.proofs.lemmas.List.{drop-drop, length-drop}
use Rattle.std.proofs.lemmas.List.Elements.{All-nil, All-cons, All-append}
use Rattle.std.proofs.lemmas.Option.{slice_get_within, get_or_from_slice_get, none-some, same_Some}
use Rattle.go_tree.specs.declared.token.Item.{Item}
use Rattle.go_tree.specs.declared.token.Item.TheVariants.{Space, Newline, Lexeme, Wrong}
use Rattle.go_tree.specs.declared.token.Piece.{Piece}
use Rattle.go_tree.specs.declared.token.Token.{Token}
use Rattle.go_tree.specs.declared.token.TokenKind.{TokenKind}
use Rattle.go_tree.specs.declared.token.TokenKind.TheVariants.{Int, Semi}
use Rattle.go_tree.specs.declared.token.Why.TheVariants.{BadLexeme}
use Rattle.go_tree.specs.Lexeme.{item_of}
use Rattle.go_tree.specs.Lexed.{IsSound, Cuts, closes, semicolon, item_tokens, due_after, tokens_of, byte_order_mark, front_mark, LexedBy}

-- a semicolon is due within the text, if at all
abbrev DueIn : List ℕ → Option ℕ → Type 0
DueIn text None = Unit {0}
DueIn text (Some at) = at ≤ length text

due_if : (text : List ℕ) (b : Bool) (at : ℕ) → at ≤ length text → DueIn text (cond b (Some at) None)
due_if text true at le = le
due_if text false at le = tt

pub mark_within : (text : List ℕ) → front_mark text ≤ length text
mark_within [] = omega arith
mark_within (a ∷ []) = go (nat_eq 239 a)
  where
    go : (p : Bool) → cond (p && false) 3 0 ≤ 1
    go true = omega arith
    go false = omega arith
mark_within (a ∷ b ∷ []) = go (nat_eq 239 a) (nat_eq 187 b)
  where
    go : (p q : Bool) → cond (p && (q && false)) 3 0 ≤ 2
    go true true = omega arith
    go true false = omega arith
    go false q = omega arith
mark_within (a ∷ b ∷ c ∷ rest) = go (starts_with nat_eq (a ∷ b ∷ c ∷ rest) byte_order_mark)
  where
    go : (t : Bool) → cond t 3 0 ≤ suc (suc (suc (length rest)))
    go true = omega arith
    go false = omega arith

-- What holds of inserted semicolons and of lexemes holds of each token.
module _ (items : List ℕ → Option Item) (text : List ℕ) (P : Token → Type 0)
    (inserted : (at : ℕ) → at ≤ length text → P (record { kind = Semi; start = at; «end» = at }))
    (lexeme : (kind : TokenKind) (at size : ℕ) → at + size ≤ length text → items (take size (drop at text)) ≡ Some (Lexeme kind) → P (record { kind = kind; start = at; «end» = at + size })) where
  each_semicolon : (due : Option ℕ) → DueIn text due → All P (semicolon due)
  each_semicolon None d = All-nil P
  each_semicolon (Some at) d = All-cons P (record { kind = Semi; start = at; «end» = at }) [] (inserted at d) (All-nil P)

  each_after : (item : Item) (at size : ℕ) (due : Option ℕ) (rest : Option ℕ → List Token) → IsSound item → at + size ≤ length text → items (take size (drop at text)) ≡ Some item → DueIn text due
      → ((after : Option ℕ) → DueIn text after → All P (rest after)) → All P (item_tokens item at (at + size) due ++ rest (due_after item (at + size) due))
  each_after Space at size due rest sound le is d more = more due d
  each_after Newline at size due rest sound le is d more = All-append P (semicolon due) (rest None) (each_semicolon due d) (more None tt)
  each_after (Lexeme kind) at size due rest sound le is d more =
      All-cons P (record { kind = kind; start = at; «end» = at + size }) (rest (due_after (Lexeme kind) (at + size) due)) (lexeme kind at size le is) (more _ (due_if text (closes kind) (at + size) le))
  each_after (Wrong why) at size due rest sound le is d more = absurd sound

  each_token : (pieces : List Piece) (at : ℕ) (due : Option ℕ) (rest : List ℕ) → at ≤ length text → DueIn text due → Cuts items pieces (drop at text) rest → All P (tokens_of at due pieces)
  each_token [] at due rest le d cuts = each_semicolon due d
  each_token (piece ∷ pieces) at due rest le d cuts =
      let within = cuts.0.within in
      let long = length-drop at text in
      let past : at + piece.size ≤ length text = omega (arith, le, within, long) in
      each_after piece.item at piece.size due (λ after. tokens_of (at + piece.size) after pieces) cuts.1 past cuts.0.is d
      (λ after e. each_token pieces (at + piece.size) after rest past e (subst (λ t. Cuts items pieces t rest) (drop-drop piece.size at text) cuts.2))

  pub each_lexed : (tokens : List Token) → LexedBy items text tokens → All P tokens
  each_lexed tokens lexed = subst (All P) lexed.gives (each_token lexed.pieces (front_mark text) None [] (mark_within text) tt lexed.cuts)

pub at_place : (P : Token → Type 0) (tokens : List Token) (k : ℕ) (t : Token) → All P tokens → slice_get tokens k ≡ Some t → P t
at_place P tokens k t all at = subst P (get_or_from_slice_get tokens k t t at) (all k t (slice_get_within tokens k t at))

-- each token lies in the text
abbrev LiesIn : List ℕ → Token → Type 0
LiesIn text t = (t.start ≤ t.end) × (t.end ≤ length text)

pub tokens_lie : (items : List ℕ → Option Item) (text : List ℕ) (tokens : List Token) → LexedBy items text tokens → (k : ℕ) (t : Token) → slice_get tokens k ≡ Some t → (t.start ≤ t.end) × (t.end ≤ length text)
tokens_lie items text tokens lexed k t at =
    at_place (LiesIn text) tokens k t (each_lexed items text (LiesIn text) (λ a le. (omega arith, le)) (λ kind a size le is. (omega arith, le)) tokens lexed) at
