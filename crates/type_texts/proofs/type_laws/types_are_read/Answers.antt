use Rattle.type_texts.proofs.TypeReading.{types}
use Rattle.type_texts.proofs.type_laws.types_are_read.Goals as goal

pub returns : goal.returns
returns c = types
