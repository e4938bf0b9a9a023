-- A text is cut into pieces in one way, and the scanner's loop cuts it so.
use Rattle.std.proofs.Common.{◌≡◌, ℕ, ◌+◌, ◌-◌, ◌<◌, ◌≤◌, List, [], ◌∷◌, ◌++◌, Option, None, length, take, drop, refl, sym, ap, subst, inl, inr, ⊎_elim, ◌∙◌, arith, append_assoc}
use Rattle.std.proofs.str.Laws.{order}
use Rattle.std.proofs.lemmas.List.{drop-drop, drop_all, take_rest, length-drop}
use Rattle.go_tree.specs.declared.token.Piece.{Piece}
use Rattle.go_tree.specs.declared.token.Token.{Token}
use Rattle.go_tree.specs.declared.token.Why.{Why}
use Rattle.go_tree.specs.declared.token.Item.{Item}
use Rattle.go_tree.specs.declared.token.Item.TheVariants.{Space, Newline, Lexeme, Wrong}
use Rattle.go_tree.specs.Lexeme.{item_of}
use Rattle.go_tree.specs.Lexed.{Begins, IsSound, Cuts, size_of, tokens_of, item_tokens, due_after, semicolon, Lexed, LexedBy, RefusedBy, LexRefused, Passes, FailsAt, EndsAt, front_mark, fault_at}
use Rattle.std.specs.Str.Lossy.{utf8_valid_len}
use Rattle.std.specs.Prelude.{Result, Ok, Err, IfOk}
use Rattle.gv_base.specs.declared.fault.NoMemory.{NoMemory}
use Rattle.go_scan.specs.declared.outcome.Scan.{Scan}
use Rattle.go_scan.specs.declared.outcome.Scan.TheVariants.{Tokens, Refused}
use Rattle.go_scan.specs.Scan.{IsScan, IsTokens, IsRefusal}
use Rattle.go_lexeme.proofs.Items.{no_item}

module _ (items : List ℕ → Option Item) (none_is : items [] ≡ None) where
  -- no piece is longer than another that begins the same text
  not_longer : (p q : Piece) (rest : List ℕ) → Begins items p rest → Begins items q rest → q.size ≤ p.size
  not_longer p q rest first second = ⊎_elim
      (λ longer. absurd (let none = first.longest q.size longer second.within in let some = second.is in cc))
      (λ le. le) (order p.size q.size)

  -- one piece begins a text
  pub one_piece : (p q : Piece) (rest : List ℕ) → Begins items p rest → Begins items q rest → p ≡ q
  one_piece p q rest first second =
      let size : p.size ≡ q.size = omega (arith, not_longer p q rest first second, not_longer q p rest second first) in
      let same = ap (λ n. items (take n rest)) size in
      let item : p.item ≡ q.item = cc (same, first.is, second.is) in
      λ i. record { item = item i; size = size i }

  -- no piece begins the empty text
  pub none_begins : (p : Piece) → Begins items p [] → ⊥
  none_begins p begins =
      let zero : p.size ≡ 0 = omega (arith, begins.within) in
      let is = ap (λ n. items (take n [])) zero in cc (none_is, begins.is, is)

  -- the rest begins with no gap and no lexeme
  abbrev pub Ends : List ℕ → Type 0
  Ends rest = (p : Piece) → Begins items p rest → IsSound p.item → ⊥

  pub nothing_ends : Ends []
  nothing_ends p begins sound = none_begins p begins

  pub wrong_ends : (why : Why) (size : ℕ) (rest : List ℕ) → Begins items (record { item = Wrong why; size = size }) rest → Ends rest
  wrong_ends why size rest wrong p begins sound = subst IsSound (ap (λ q. q.item) (one_piece p _ rest begins wrong)) sound

  -- a text is cut in one way, as far as it goes
  pub one_cut : (ps qs : List Piece) (text r s : List ℕ) → Cuts items ps text r → Ends r → Cuts items qs text s → Ends s → (ps ≡ qs) × (r ≡ s)
  one_cut [] [] text r s first end second stop = (refl, sym first ∙ second)
  one_cut [] (q ∷ qs) text r s first end second stop = absurd (end q (subst (Begins items q) first second.0) second.1)
  one_cut (p ∷ ps) [] text r s first end second stop = absurd (stop p (subst (Begins items p) second first.0) first.1)
  one_cut (p ∷ ps) (q ∷ qs) text r s first end second stop =
      let same = one_piece p q text first.0 second.0 in
      let rest = subst (λ n. Cuts items qs (drop n text) s) (sym (ap (λ x. x.size) same)) second.2 in
      let more = one_cut ps qs (drop p.size text) r s first.2 end rest stop in
      ((λ i. same i ∷ more.0 i), more.1)

  -- a text has one list of tokens at most
  pub one_lexing : (text : List ℕ) (a b : List Token) → LexedBy items text a → LexedBy items text b → a ≡ b
  one_lexing text a b first second =
      let same = one_cut first.pieces second.pieces (drop (front_mark text) text) [] [] first.cuts nothing_ends second.cuts nothing_ends in
      sym first.gives ∙ ap (tokens_of (front_mark text) None) same.0 ∙ second.gives

  -- a text that passes doesn't fail
  passes_or_fails : (text : List ℕ) (offset : ℕ) (why : Why) → Passes text → FailsAt text offset why → ⊥
  passes_or_fails text offset why passes fails = let none = passes offset fails.within in let some = fails.fails in cc

  -- a text that gives tokens isn't refused
  pub not_both : (text : List ℕ) (a : List Token) (offset : ℕ) (why : Why) → LexedBy items text a → RefusedBy items text offset why → ⊥
  not_both text a offset why first (inl fails) = passes_or_fails text offset why first.passes fails
  not_both text a offset why first (inr second) =
      let same = one_cut first.pieces second.pieces (drop (front_mark text) text) [] second.rest first.cuts nothing_ends second.cuts (wrong_ends why second.size second.rest second.wrong) in
      none_begins _ (subst (Begins items _) (sym same.1) second.wrong)

  one_failure : (text : List ℕ) (m n : ℕ) (v w : Why) → FailsAt text m v → FailsAt text n w → (m ≡ n) × (v ≡ w)
  one_failure text m n v w first second =
      let before = ⊎_elim (λ lt. absurd (let none = second.least m lt in let some = first.fails in cc)) (λ le. le) (order m n) in
      let after = ⊎_elim (λ lt. absurd (let none = first.least n lt in let some = second.fails in cc)) (λ le. le) (order n m) in
      let same : m ≡ n = omega (arith, before, after) in
      let why = ap (fault_at text (utf8_valid_len text)) same in
      (same, cc (why, first.fails, second.fails))

  one_end : (text : List ℕ) (m n : ℕ) (v w : Why) → EndsAt items text m v → EndsAt items text n w → (m ≡ n) × (v ≡ w)
  one_end text m n v w first second =
      let same = one_cut first.pieces second.pieces (drop (front_mark text) text) first.rest second.rest first.cuts (wrong_ends v first.size first.rest first.wrong) second.cuts (wrong_ends w second.size second.rest second.wrong) in
      let piece = one_piece _ _ second.rest (subst (Begins items _) same.1 first.wrong) second.wrong in
      (first.at ∙ ap (λ ps. front_mark text + size_of ps) same.0 ∙ sym second.at, let item = ap (λ p. p.item) piece in cc)

  -- a text is refused at one place, for one reason
  pub one_refusal : (text : List ℕ) (m n : ℕ) (v w : Why) → RefusedBy items text m v → RefusedBy items text n w → (m ≡ n) × (v ≡ w)
  one_refusal text m n v w (inl first) (inl second) = one_failure text m n v w first second
  one_refusal text m n v w (inl first) (inr second) = absurd (passes_or_fails text m v second.passes first)
  one_refusal text m n v w (inr first) (inl second) = absurd (passes_or_fails text n w first.passes second)
  one_refusal text m n v w (inr first) (inr second) = one_end text m n v w first second

  -- the loop has come to an offset: what completes the rest completes the text
  pub record Reaches (text : List ℕ) (at : ℕ) (due : Option ℕ) (tokens : List Token) : Type 0 where
    pub whole : (ps : List Piece) (rest : List ℕ) → Cuts items ps (drop at text) rest →
        (qs : List Piece) × Cuts items qs (drop (front_mark text) text) rest × (tokens_of (front_mark text) None qs ≡ tokens ++ tokens_of at due ps) × (front_mark text + size_of qs ≡ at + size_of ps)

  pub reaches_none : (text : List ℕ) → Reaches text (front_mark text) None []
  reaches_none text = record { whole = λ ps rest cuts. (ps, cuts, refl, refl) }

  pub reaches_start : (text : List ℕ) (at : ℕ) (tokens : List Token) → at ≡ front_mark text → tokens ≡ [] → Reaches text at None tokens
  reaches_start text at tokens is none = subst (λ n. Reaches text n None tokens) (sym is) (subst (Reaches text (front_mark text) None) (sym none) (reaches_none text))

  pub reaches_next : (text : List ℕ) (at : ℕ) (due : Option ℕ) (tokens : List Token) (piece : Piece) → Reaches text at due tokens → Begins items piece (drop at text) → IsSound piece.item →
      Reaches text (at + piece.size) (due_after piece.item (at + piece.size) due) (tokens ++ item_tokens piece.item at (at + piece.size) due)
  reaches_next text at due tokens piece so_far begins sound = record {
    whole = λ ps rest cuts.
        let all = so_far.whole (piece ∷ ps) rest (begins, sound, subst (λ t. Cuts items ps t rest) (sym (drop-drop piece.size at text)) cuts) in
        (all.0, all.1, all.2 ∙ sym (append_assoc tokens (item_tokens piece.item at (at + piece.size) due) _), omega (arith, all.3));
  }

  -- at the end the tokens are all there
  pub reaches_end : (text : List ℕ) (at : ℕ) (due : Option ℕ) (tokens : List Token) → Reaches text at due tokens → length text ≤ at → Passes text → LexedBy items text (tokens ++ semicolon due)
  reaches_end text at due tokens so_far past passes =
      let all = so_far.whole [] [] (drop_all at text past) in
      record { passes = passes; pieces = all.0; cuts = all.1; gives = all.2 }

  -- at a wrong piece the text is refused
  pub reaches_wrong : (text : List ℕ) (at : ℕ) (due : Option ℕ) (tokens : List Token) (why : Why) (size : ℕ) → Reaches text at due tokens → Begins items (record { item = Wrong why; size = size }) (drop at text) → Passes text → RefusedBy items text at why
  reaches_wrong text at due tokens why size so_far wrong passes =
      let all = so_far.whole [] (drop at text) refl in
      inr (record { passes = passes; pieces = all.0; rest = drop at text; cuts = all.1; size = size; wrong = wrong; at = omega (arith, all.3) })

  -- a piece has a byte
  pub some_size : (p : Piece) (rest : List ℕ) → Begins items p rest → 0 < p.size
  some_size p rest begins = ⊎_elim (λ some. some) (λ none. absurd (
      let zero : p.size ≡ 0 = omega arith in
      let is = ap (λ n. items (take n rest)) zero in cc (none_is, begins.is, is))) (order 0 p.size)

  -- what isn't wrong is sound
  sound_unless : (item : Item) → ((why : Why) → item ≡ Wrong why → ⊥) → IsSound item
  sound_unless Space right = tt
  sound_unless Newline right = tt
  sound_unless (Lexeme kind) right = tt
  sound_unless (Wrong why) right = right why refl

  -- the rest of a text as the code slices it
  pub at_rest : (p : Piece) (text : List ℕ) (at : ℕ) → Begins items p (take (length text - at) (drop at text)) → Begins items p (drop at text)
  at_rest p text at begins = subst (Begins items p) (take_rest text at) begins

  pub step_within : (p : Piece) (text : List ℕ) (at : ℕ) → at < length text → Begins items p (take (length text - at) (drop at text)) → at + p.size ≤ length text
  step_within p text at lt begins = omega (arith, (at_rest p text at begins).within, length-drop at text)

  -- one turn of the loop
  pub step : (text : List ℕ) (at : ℕ) (due after : Option ℕ) (tokens more given : List Token) (piece : Piece) → Reaches text at due tokens → Begins items piece (take (length text - at) (drop at text)) → ((why : Why) → piece.item ≡ Wrong why → ⊥) →
      after ≡ due_after piece.item (at + piece.size) due → more ≡ tokens ++ given → item_tokens piece.item at (at + piece.size) due ≡ given → Reaches text (at + piece.size) after more
  step text at due after tokens more given piece so_far begins right is_after is_more is_given =
      let next = reaches_next text at due tokens piece so_far (at_rest piece text at begins) (sound_unless piece.item right) in
      let e : tokens ++ item_tokens piece.item at (at + piece.size) due ≡ more = ap (λ l. tokens ++ l) is_given ∙ sym is_more in
      subst (λ l. Reaches text (at + piece.size) after l) e (subst (λ d. Reaches text (at + piece.size) d (tokens ++ item_tokens piece.item at (at + piece.size) due)) (sym is_after) next)

  -- the last turn
  pub finish : (text : List ℕ) (at : ℕ) (due : Option ℕ) (tokens more given : List Token) → Reaches text at due tokens → length text ≤ at → more ≡ tokens ++ given → semicolon due ≡ given → Passes text → LexedBy items text more
  finish text at due tokens more given so_far past is_more is_given passes =
      let e : tokens ++ semicolon due ≡ more = ap (λ l. tokens ++ l) is_given ∙ sym is_more in
      subst (LexedBy items text) e (reaches_end text at due tokens so_far past passes)

  -- the turn that finds a wrong piece
  pub refuse : (text : List ℕ) (at : ℕ) (due : Option ℕ) (tokens : List Token) (piece : Piece) (why : Why) → Reaches text at due tokens → Begins items piece (take (length text - at) (drop at text)) → piece.item ≡ Wrong why → Passes text → RefusedBy items text at why
  refuse text at due tokens piece why so_far begins is passes =
      let p : piece ≡ record { item = Wrong why; size = piece.size } = λ i. record { item = is i; size = piece.size } in
      reaches_wrong text at due tokens why piece.size so_far (subst (λ q. Begins items q (drop at text)) p (at_rest piece text at begins)) passes

pub only_tokens : (text : List ℕ) (tokens : List Token) (answer : Result Scan NoMemory) → Lexed text tokens → IfOk answer (λ s. IsScan text s) → IfOk answer (λ s. IsTokens tokens s)
only_tokens text tokens (Err e) lexed is = tt
only_tokens text tokens (Ok (Tokens found)) lexed is = one_lexing item_of no_item text found tokens is lexed
only_tokens text tokens (Ok (Refused at because)) lexed is = not_both item_of no_item text tokens at because lexed is

pub only_refusal : (text : List ℕ) (offset : ℕ) (why : Why) (answer : Result Scan NoMemory) → LexRefused text offset why → IfOk answer (λ s. IsScan text s) → IfOk answer (λ s. IsRefusal offset why s)
only_refusal text offset why (Err e) refused is = tt
only_refusal text offset why (Ok (Tokens found)) refused is = not_both item_of no_item text found offset why is refused
only_refusal text offset why (Ok (Refused at because)) refused is = one_refusal item_of no_item text at offset because why is refused
