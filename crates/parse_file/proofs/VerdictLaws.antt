-- A text has one verdict.
use Rattle.std.proofs.Common.{◌≡◌, ℕ, ◌<◌, ◌≤◌, List, length, refl, arith, subst, sym, ap, ◌∙◌}
use Rattle.go_tree.specs.declared.token.Token.{Token}
use Rattle.go_tree.specs.declared.token.Why.{Why}
use Rattle.go_tree.specs.declared.tree.FileTree.{FileTree}
use Rattle.go_tree.specs.Lexeme.{item_of}
use Rattle.go_lexeme.proofs.Items.{no_item}
use Rattle.go_scan.proofs.Cuts as cuts
use Rattle.go_tree.specs.Lexed.{Lexed, LexRefused}
use Rattle.go_tree.specs.Pieces.{Spelled, Finding, Fine, Syntax, TooDeep}
use Rattle.go_parse.specs.Chunk.{FindsOf}
use Rattle.go_parse.proofs.ChunkLaws.{one_tree, one_finding}
use Rattle.parse_file.specs.declared.verdict.FileVerdict.{FileVerdict}
use Rattle.parse_file.specs.declared.verdict.FileVerdict.TheVariants as verdicts
use Rattle.parse_file.specs.Verdict.{IsParsed, IsFoundAt, IsVerdict, offset_at}

lexed_once : (text : List ℕ) (a b : List Token) → Lexed text a → Lexed text b → a ≡ b
lexed_once = cuts.one_lexing item_of no_item

refused_once : (text : List ℕ) (m n : ℕ) (v w : Why) → LexRefused text m v → LexRefused text n w → (m ≡ n) × (v ≡ w)
refused_once = cuts.one_refusal item_of no_item

never_both : (text : List ℕ) (tokens : List Token) (offset : ℕ) (why : Why) → Lexed text tokens → LexRefused text offset why → ⊥
never_both = cuts.not_both item_of no_item

-- what is found of the same text is the same
found_once : (text : List ℕ) (a b : List Token) (v w : Finding) → Lexed text a → Lexed text b → FindsOf a text v → FindsOf b text w → v ≡ w
found_once text a b v w l m f g = one_finding a text v w f (subst (λ (t : List Token). FindsOf t text w) (sym (lexed_once text a b l m)) g)

place_once : (text : List ℕ) (o p : ℕ) (found : ℕ → Finding) → ((m n : ℕ) → found m ≡ found n → m ≡ n) → IsFoundAt text o found → IsFoundAt text p found → o ≡ p
place_once text o p found same a b =
    let t = lexed_once text a.tokens b.tokens a.lexed b.lexed in
    let n = same a.at b.at (found_once text a.tokens b.tokens (found a.at) (found b.at) a.lexed b.lexed a.finds b.finds) in
    sym a.place ∙ ap (λ (t : List Token). offset_at t a.at (length text)) t ∙ ap (λ n. offset_at b.tokens n (length text)) n ∙ b.place

syntax_once : (m n : ℕ) → Syntax m ≡ Syntax n → m ≡ n
syntax_once m n e = cc

deep_once : (m n : ℕ) → TooDeep m ≡ TooDeep n → m ≡ n
deep_once m n e = cc

fine_syntax : (n : ℕ) → Fine ≡ Syntax n → ⊥
fine_syntax n e = cc

fine_deep : (n : ℕ) → Fine ≡ TooDeep n → ⊥
fine_deep n e = cc

syntax_deep : (m n : ℕ) → Syntax m ≡ TooDeep n → ⊥
syntax_deep m n e = cc

pub one_verdict : (text : List ℕ) (v w : FileVerdict) → IsVerdict text v → IsVerdict text w → v ≡ w
one_verdict text (verdicts.Parsed s) (verdicts.Parsed t) a b =
    ap verdicts.Parsed (one_tree a.tokens text s t a.spelled (subst (λ (u : List Token). Spelled u text t) (sym (lexed_once text a.tokens b.tokens a.lexed b.lexed)) b.spelled))
one_verdict text (verdicts.Parsed s) (verdicts.Lexical o y) a b = absurd (never_both text a.tokens o y a.lexed b)
one_verdict text (verdicts.Parsed s) (verdicts.Syntax o) a b = absurd (fine_syntax b.at (found_once text a.tokens b.tokens Fine (Syntax b.at) a.lexed b.lexed a.finds b.finds))
one_verdict text (verdicts.Parsed s) (verdicts.TooDeep o) a b = absurd (fine_deep b.at (found_once text a.tokens b.tokens Fine (TooDeep b.at) a.lexed b.lexed a.finds b.finds))
one_verdict text (verdicts.Lexical o y) (verdicts.Parsed t) a b = absurd (never_both text b.tokens o y b.lexed a)
one_verdict text (verdicts.Lexical o y) (verdicts.Lexical p z) a b = let e = refused_once text o p y z a b in ap (λ n. verdicts.Lexical n y) e.0 ∙ ap (verdicts.Lexical p) e.1
one_verdict text (verdicts.Lexical o y) (verdicts.Syntax p) a b = absurd (never_both text b.tokens o y b.lexed a)
one_verdict text (verdicts.Lexical o y) (verdicts.TooDeep p) a b = absurd (never_both text b.tokens o y b.lexed a)
one_verdict text (verdicts.Syntax o) (verdicts.Parsed t) a b = absurd (fine_syntax a.at (found_once text b.tokens a.tokens Fine (Syntax a.at) b.lexed a.lexed b.finds a.finds))
one_verdict text (verdicts.Syntax o) (verdicts.Lexical p z) a b = absurd (never_both text a.tokens p z a.lexed b)
one_verdict text (verdicts.Syntax o) (verdicts.Syntax p) a b = ap verdicts.Syntax (place_once text o p Syntax syntax_once a b)
one_verdict text (verdicts.Syntax o) (verdicts.TooDeep p) a b = absurd (syntax_deep a.at b.at (found_once text a.tokens b.tokens (Syntax a.at) (TooDeep b.at) a.lexed b.lexed a.finds b.finds))
one_verdict text (verdicts.TooDeep o) (verdicts.Parsed t) a b = absurd (fine_deep a.at (found_once text b.tokens a.tokens Fine (TooDeep a.at) b.lexed a.lexed b.finds a.finds))
one_verdict text (verdicts.TooDeep o) (verdicts.Lexical p z) a b = absurd (never_both text a.tokens p z a.lexed b)
one_verdict text (verdicts.TooDeep o) (verdicts.Syntax p) a b = absurd (syntax_deep b.at a.at (found_once text b.tokens a.tokens (Syntax b.at) (TooDeep a.at) b.lexed a.lexed b.finds a.finds))
one_verdict text (verdicts.TooDeep o) (verdicts.TooDeep p) a b = ap verdicts.TooDeep (place_once text o p TooDeep deep_once a b)
