use Rattle.gv_bytes.proofs.Options.{reads_apart}
use Rattle.type_texts.proofs.TypeReading.{types}
use Rattle.type_texts.proofs.type_laws.type_ends.Goals as goal

pub returns : goal.returns
returns c = λ s t a b p q e. reads_apart types s t a b p q e
