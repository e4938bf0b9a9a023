use Rattle.std.proofs.Common.{IsUtf8, subst, sym}
use Rattle.unit_read.proofs.TextLemmas.{spelled_utf8}
use Rattle.unit_read.proofs.subject.Subject.spelled_text.Goals as goal

pub from_utf8_unchecked-requires : goal.from_utf8_unchecked-requires
from_utf8_unchecked-requires c = subst IsUtf8 (sym c.spelled.ensures) (spelled_utf8 c.args.self.now c.requires c.args.file c.args.token)
