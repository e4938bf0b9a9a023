-- Each text has a verdict.
use Rattle.std.proofs.Common.{◌≡◌, ℕ, inl, inr, List, [], ◌∷◌, length, refl, sym, subst}
use Rattle.go_tree.specs.declared.grammar.Stage.TheVariants.{Clause}
use Rattle.go_tree.specs.declared.token.Token.{Token}
use Rattle.go_tree.specs.Arena.{arena_of}
use Rattle.go_tree.specs.Classes.{classes}
use Rattle.go_tree.specs.Lexed.{Lexed}
use Rattle.go_tree.specs.Pieces.{pieces, Finding, Fine, Syntax, TooDeep, Finds}
use Rattle.parse_file.specs.Verdict.{IsVerdict, offset_at}
use Rattle.parse_file.specs.declared.verdict.FileVerdict.{FileVerdict}
use Rattle.parse_file.specs.declared.verdict.FileVerdict.TheVariants as verdicts
use Rattle.readable.proofs.Findings.{found, pieces_some, trees}
use Rattle.readable.proofs.Lexing.{lexing}

-- what is found of a text's tokens is its verdict
found_verdict : (text : List ℕ) (tokens : List Token) (v : Finding) → Lexed text tokens → Finds Clause 0 (pieces 0 (classes text tokens)) v → (verdict : FileVerdict) × IsVerdict text verdict
found_verdict text tokens Fine lexed finds =
    let t = trees Clause 0 (pieces 0 (classes text tokens)) finds in (
      verdicts.Parsed (arena_of tokens t.forest),
      record { tokens = tokens; lexed = lexed; spelled = record { forest = t.forest; spelled = t.spelled; arena = refl; shallow = t.shallow }; finds = finds },
    )
found_verdict text tokens (Syntax at) lexed finds = (verdicts.Syntax (offset_at tokens at (length text)), record { tokens = tokens; lexed = lexed; at = at; finds = finds; place = refl })
found_verdict text tokens (TooDeep at) lexed finds = (verdicts.TooDeep (offset_at tokens at (length text)), record { tokens = tokens; lexed = lexed; at = at; finds = finds; place = refl })

pub has_verdict : (text : List ℕ) → ((verdict : FileVerdict) → IsVerdict text verdict → ⊥) → ⊥
has_verdict text none = elim (lexing text) [
  | inl lexed ↦ (
      let some = pieces_some 0 (classes text lexed.0) in
      found Clause 0 some.p some.more (λ v finds.
      let r = found_verdict text lexed.0 v lexed.1 (subst (λ (ps : List (List ℕ)). Finds Clause 0 ps v) (sym some.is) finds) in
      none r.0 r.1))
  | inr refused ↦ none (verdicts.Lexical refused.0 refused.1.0) refused.1.1
]
