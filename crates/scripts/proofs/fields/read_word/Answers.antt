use Rattle.std.proofs.Common.{refl}
use Rattle.std.proofs.lemmas.Slice.Eq.{starts_is}
use Rattle.std.proofs.lemmas.Bool.Decides.{Decides-eqb}
use Rattle.scripts.proofs.Grammar.{Part-of, Other-of}
use Rattle.scripts.proofs.fields.read_word.Goals as goal

pub returns-then-starts_with : goal.returns-then-starts_with
returns-then-starts_with c = (refl, (starts_is Decides-eqb c.args.bytes.now c.args.word.now c.starts_with.result c.starts_with.ensures.value).0 c.if-starts_with.true)

pub returns-then-starts_with-2 : goal.returns-then-starts_with-2
returns-then-starts_with-2 c = Part-of c.args.bytes.now c.args.word.now c.starts_with.result c.starts_with-else-starts_with.result c.starts_with.ensures.value c.starts_with-else-starts_with.ensures.value c.if-starts_with.false c.if-starts_with-2.true

pub returns-else-starts_with-2 : goal.returns-else-starts_with-2
returns-else-starts_with-2 c = Other-of c.args.bytes.now c.args.word.now c.starts_with.result c.starts_with-else-starts_with.result c.starts_with.ensures.value c.starts_with-else-starts_with.ensures.value c.if-starts_with.false c.if-starts_with-2.false
