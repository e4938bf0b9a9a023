-- The tokens of a text stand in turn, and none but a semicolon is empty.
use Rattle.std.proofs.Common.{◌≡◌, ◌⊎◌, ℕ, zero, suc, ◌+◌, ◌<◌, ◌≤◌, Bool, true, false, cond, ◌&&◌, List, [], ◌∷◌, ◌++◌, take, drop, Option, Some, None, slice_get, inl, inr, refl, sym, ap, ◌∙◌, subst, arith}
use Rattle.std.specs.Prelude.{◌==◌}
use Rattle.std.proofs.lemmas.Option.{same_Some}
use Rattle.go_tree.specs.declared.token.Item.{Item}
use Rattle.go_tree.specs.declared.token.Item.TheVariants.{Space, Newline, Lexeme, Wrong}
use Rattle.go_tree.specs.declared.token.Piece.{Piece}
use Rattle.go_tree.specs.declared.token.Token.{Token}
use Rattle.go_tree.specs.declared.token.TokenKind.{TokenKind}
use Rattle.go_tree.specs.declared.token.TokenKind.TheVariants.{Semi}
use Rattle.go_tree.specs.Classes.{kind_class, class_in, is_blank}
use Rattle.go_tree.specs.Lexeme.{item_of}
use Rattle.go_tree.specs.Lexed.{closes, semicolon, item_tokens, due_after, tokens_of, front_mark, Lexed}
use Rattle.go_lexeme.proofs.Items.{no_item}
use Rattle.go_scan.proofs.TokenLaws.{each_lexed, at_place}

-- none begins before another ends
abbrev Rises : ℕ → List Token → Type 0
Rises low [] = Prim.Unit {0}
Rises low (t ∷ ts) = (low ≤ t.start) × (t.start ≤ t.end) × Rises t.end ts

lower : (low high : ℕ) (ts : List Token) → low ≤ high → Rises high ts → Rises low ts
lower low high [] le h = tt
lower low high (t ∷ ts) le h = let up = h.0 in (omega (arith, le, up), h.1, h.2)

-- a semicolon is due between two offsets, if at all
abbrev Between : ℕ → Option ℕ → ℕ → Type 0
Between low None at = low ≤ at
Between low (Some due) at = (low ≤ due) × (due ≤ at)

between_low : (low : ℕ) (due : Option ℕ) (at : ℕ) → Between low due at → low ≤ at
between_low low None at h = h
between_low low (Some due) at h = let a = h.0 in let b = h.1 in omega (arith, a, b)

between_on : (low : ℕ) (due : Option ℕ) (at size : ℕ) → Between low due at → Between low due (at + size)
between_on low None at size h = omega (arith, h)
between_on low (Some due) at size h = let b = h.1 in (h.0, omega (arith, b))

due_here : (b : Bool) (at : ℕ) → Between at (cond b (Some at) None) at
due_here true at = (omega arith, omega arith)
due_here false at = omega arith

rise_item : (item : Item) (low : ℕ) (due : Option ℕ) (at size : ℕ) (rest : Option ℕ → List Token) → Between low due at
    → ((from : ℕ) (next : Option ℕ) → Between from next (at + size) → Rises from (rest next)) → Rises low (item_tokens item at (at + size) due ++ rest (due_after item (at + size) due))
rise_item Space low due at size rest h more = more low due (between_on low due at size h)
rise_item Newline low None at size rest h more = more low None (between_on low None at size h)
rise_item Newline low (Some due) at size rest h more = let b = h.1 in (h.0, omega arith, more due None (omega (arith, b)))
rise_item (Lexeme kind) low due at size rest h more =
    (between_low low due at h, omega arith, more (at + size) (due_after (Lexeme kind) (at + size) due) (due_here (closes kind) (at + size)))
rise_item (Wrong why) low due at size rest h more = more low due (between_on low due at size h)

rise : (ps : List Piece) (low : ℕ) (due : Option ℕ) (at : ℕ) → Between low due at → Rises low (tokens_of at due ps)
rise [] low None at h = tt
rise [] low (Some due) at h = (h.0, omega arith, tt)
rise (p ∷ ps) low due at h = rise_item p.item low due at p.size (λ next. tokens_of (at + p.size) next ps) h (λ from next between. rise ps from next (at + p.size) between)

lexed_rise : (text : List ℕ) (tokens : List Token) → Lexed text tokens → Rises 0 tokens
lexed_rise text tokens lexed = subst (Rises 0) lexed.gives (rise lexed.pieces 0 None (front_mark text) (omega arith))

above : (ts : List Token) (low j : ℕ) (s : Token) → Rises low ts → slice_get ts j ≡ Some s → low ≤ s.start
above [] low j s h there = absurd (cc)
above (t ∷ ts) low zero s h there = let e = ap (λ (x : Token). x.start) (same_Some t s there) in let up = h.0 in omega (arith, e, up)
above (t ∷ ts) low (suc j) s h there = let more = above ts t.end j s h.2 there in let a = h.0 in let b = h.1 in omega (arith, more, a, b)

apart : (ts : List Token) (low i j : ℕ) (t s : Token) → Rises low ts → slice_get ts i ≡ Some t → slice_get ts j ≡ Some s → i < j → t.end ≤ s.start
apart [] low i j t s h here there less = absurd (cc)
apart (x ∷ ts) low zero zero t s h here there less = absurd (omega (arith, less))
apart (x ∷ ts) low zero (suc j) t s h here there less = let e = ap (λ (y : Token). y.end) (same_Some x t here) in let more = above ts x.end j s h.2 there in omega (arith, e, more)
apart (x ∷ ts) low (suc i) zero t s h here there less = absurd (omega (arith, less))
apart (x ∷ ts) low (suc i) (suc j) t s h here there less = apart ts x.end i j t s h.2 here there (omega (arith, less))

rising : (ts : List Token) (low i : ℕ) (t : Token) → Rises low ts → slice_get ts i ≡ Some t → t.start ≤ t.end
rising [] low i t h here = absurd (cc)
rising (x ∷ ts) low zero t h here = subst (λ (y : Token). y.start ≤ y.end) (same_Some x t here) h.1
rising (x ∷ ts) low (suc i) t h here = rising ts x.end i t h.2 here

-- a token that is no semicolon has a byte
abbrev IsFull : Token → Type 0
IsFull t = (t.kind ≡ Semi → ⊥) → t.start < t.end

some_byte : (kind : TokenKind) (at size : ℕ) (text : List ℕ) → item_of (take size (drop at text)) ≡ Some (Lexeme kind) → at < at + size
some_byte kind at zero text is = absurd (cc (is, no_item))
some_byte kind at (suc size) text is = omega arith

full : (text : List ℕ) (tokens : List Token) (i : ℕ) (t : Token) → Lexed text tokens → slice_get tokens i ≡ Some t → IsFull t
full text tokens i t lexed at =
    at_place IsFull tokens i t (each_lexed item_of text IsFull (λ at le some. absurd (some refl)) (λ kind at size le is some. some_byte kind at size text is) tokens lexed) at

-- from a token that is no semicolon to the end of one that isn't before it there is a byte
pub spans : (text : List ℕ) (tokens : List Token) (i j : ℕ) (t s : Token) → Lexed text tokens → slice_get tokens i ≡ Some t → slice_get tokens j ≡ Some s → i ≤ j → (class_in text t ≡ 31 → ⊥) → t.start < s.end
spans text tokens i j t s lexed here there le other = by (order i j le) where
  semi : t.kind ≡ Semi → ⊥
  semi is = other (ap (λ (kind : TokenKind). cond (kind_class kind == 0 && is_blank text t) 76 (kind_class kind)) is)

  mine : t.start < t.end
  mine = full text tokens i t lexed here semi

  order : (i j : ℕ) → i ≤ j → (i ≡ j) ⊎ (i < j)
  order zero zero h = inl refl
  order zero (suc j) h = inr (omega arith)
  order (suc i) zero h = absurd (omega (arith, h))
  order (suc i) (suc j) h = elim (order i j (omega (arith, h))) [ inl e ↦ inl (ap suc e) | inr l ↦ inr (omega (arith, l)) ]

  by : (i ≡ j) ⊎ (i < j) → t.start < s.end
  by (inl same) = let e = ap (λ (x : Token). x.end) (same_Some t s (sym here ∙ ap (slice_get tokens) same ∙ there)) in omega (arith, mine, e)
  by (inr less) =
      let gap = apart tokens 0 i j t s (lexed_rise text tokens lexed) here there less in
      let some = rising tokens 0 j s (lexed_rise text tokens lexed) there in
      omega (arith, mine, gap, some)
