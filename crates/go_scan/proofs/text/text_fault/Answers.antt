use Rattle.std.proofs.Common.{sym, ◌∙◌}
use Rattle.go_scan.proofs.Plain.{plain_passes}
use Rattle.go_scan.proofs.text.text_fault.Goals as goal

pub returns-then-is_plain : goal.returns-then-is_plain
returns-then-is_plain c = plain_passes _ _ c.valid_len-valid.ensures (c.is_plain.ensures c.if-is_plain.true)
