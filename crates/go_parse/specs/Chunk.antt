-- What is answered of the tokens of a file.
use Rattle.std.specs.Prelude.{ℕ, List}
use Rattle.go_tree.specs.declared.grammar.Stage.TheVariants as stages
use Rattle.go_tree.specs.declared.token.Token.{Token}
use Rattle.go_tree.specs.Classes.{classes}
use Rattle.go_tree.specs.Forest.{Forest}
use Rattle.go_tree.specs.Pieces.{pieces, SpellsFile, Spelled, SpelledDeep, Finding, Finds}
use Rattle.go_tree.specs.Pieces as finding
use Rattle.go_parse.specs.declared.chunk.Chunk.{Chunk}
use Rattle.go_parse.specs.declared.chunk.Chunk.TheVariants as chunks
use Rattle.go_parse.specs.declared.chunk.Verdict.{Verdict}
use Rattle.go_parse.specs.declared.chunk.Verdict.TheVariants as verdicts

-- the one tree that spells the tokens, or that none does, or that the one that does is too deep
abbrev pub AnswersChunk : List Token → List ℕ → Chunk → Type 0
AnswersChunk tokens source (chunks.Spelled t) = Spelled tokens source t
AnswersChunk tokens source chunks.NoTree = (f : Forest) → SpellsFile (classes source tokens) f → ⊥
AnswersChunk tokens source chunks.TooDeep = SpelledDeep tokens source

-- what is found of the pieces of the tokens in turn
abbrev pub FindsOf : List Token → List ℕ → Finding → Type 0
FindsOf tokens source v = Finds stages.Clause 0 (pieces 0 (classes source tokens)) v

-- the tree of a file whose pieces are fine, or the first piece that is not, by its first token
abbrev pub AnswersVerdict : List Token → List ℕ → Verdict → Type 0
AnswersVerdict tokens source (verdicts.Parsed t) = Spelled tokens source t × FindsOf tokens source finding.Fine
AnswersVerdict tokens source (verdicts.Syntax at) = FindsOf tokens source (finding.Syntax at)
AnswersVerdict tokens source (verdicts.TooDeep at) = FindsOf tokens source (finding.TooDeep at)
