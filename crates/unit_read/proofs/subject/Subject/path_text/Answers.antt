use Rattle.unit_read.proofs.TextLemmas.{path_utf8}
use Rattle.unit_read.proofs.subject.Subject.path_text.Goals as goal

pub from_utf8_unchecked-requires : goal.from_utf8_unchecked-requires
from_utf8_unchecked-requires c = path_utf8 c.args.self.now c.requires
