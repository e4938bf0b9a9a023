-- Edits that can't both be made.
use Rattle.std.specs.Prelude.{◌≡◌, ◌<◌, ◌⊎◌}
use Rattle.fix_apply.specs.declared.edits.Edit.{Edit}

-- they start at one offset, or each starts before the other ends
abbrev pub Overlap : Edit → Edit → Type 0
Overlap a b = (a.start ≡ b.start) ⊎ ((a.start < b.end) × (b.start < a.end))
