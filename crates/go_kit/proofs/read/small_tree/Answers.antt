use Rattle.go_kit.proofs.ReadLemmas.{kept-answer, lexical-none, syntax-none, deep-none}
use Rattle.go_kit.proofs.read.small_tree.Goals as goal

pub returns-in-Parsed : goal.returns-in-Parsed
returns-in-Parsed c = kept-answer c.args.text.now c.in-Parsed.tree c.keep_small.result c.requires.short (rw c.in-Parsed.is at c.requires.verdict) c.keep_small.ensures.kept c.keep_small.ensures.none

pub returns-in-Lexical : goal.returns-in-Lexical
returns-in-Lexical c = lexical-none c.args.text.now c.in-Lexical.offset c.in-Lexical.why (rw c.in-Lexical.is at c.requires.verdict)

pub returns-in-Syntax : goal.returns-in-Syntax
returns-in-Syntax c = syntax-none c.args.text.now c.in-Syntax.offset (rw c.in-Syntax.is at c.requires.verdict)

pub returns-in-TooDeep : goal.returns-in-TooDeep
returns-in-TooDeep c = deep-none c.args.text.now c.in-TooDeep.offset (rw c.in-TooDeep.is at c.requires.verdict)
