use Rattle.std.proofs.Common.{IsUtf8, subst, sym}
use Rattle.go_kit.proofs.NameTexts.{name_utf8}
use Rattle.go_kit.proofs.tell.package_name.Goals as goal

pub from_utf8_unchecked-requires : goal.from_utf8_unchecked-requires
from_utf8_unchecked-requires c = subst IsUtf8 (sym c.name_bytes.ensures) (name_utf8 c.args.files.now c.args.trees.now c.requires)
