use Rattle.std.proofs.Common.{◌∙◌, sym, map, string_bytes}
use Rattle.std.proofs.lemmas.Option.{none-some}
use Rattle.words.proofs.ReadingLaws.{read-asks, asks-read}
use Rattle.words.proofs.reading.read_words.Goals as goal

pub returns-in-Some : goal.returns-in-Some
returns-in-Some c = read-asks (map string_bytes c.args.words.now) c.in-Some.words (sym c.reading.ensures ∙ c.in-Some.is)

pub returns-in-None : goal.returns-in-None
returns-in-None c = λ call h. none-some call (sym c.in-None.is ∙ c.reading.ensures ∙ asks-read (map string_bytes c.args.words.now) call h)
