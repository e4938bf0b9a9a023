use Rattle.std.proofs.Common.{◌≡◌, ◌-◌}
use Rattle.export_text.specs.Skimming.{each_skimmed, defined_skimmed}
use Rattle.export_text.proofs.skimming.skim_defineds.Given as goal

abbrev pub invariant-loop : goal.invariant-loop
invariant-loop l = each_skimmed (defined_skimmed l.path) (l.count - l.counter) l.out.items l.rest ≡ each_skimmed (defined_skimmed l.path) l.count l.fn.out.items l.bytes
