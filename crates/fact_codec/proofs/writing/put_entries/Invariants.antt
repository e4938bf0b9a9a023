use Rattle.std.proofs.Common.{◌≡◌, ◌++◌, length, take}
use Rattle.std.specs.List.{flat_map, AllByRecursion}
use Rattle.gv_bytes.specs.Spelling.{natural}
use Rattle.fact_codec.specs.Texts.{entry, IsEntry}
use Rattle.fact_codec.proofs.writing.put_entries.Given as goal

abbrev pub invariant-loop-e : goal.invariant-loop-e
invariant-loop-e g l =
    record { written : l.out.items ≡ l.fn.out.items ++ natural (length l.list) ++ flat_map (entry g.F.FactKind.spelling) (take l.e-index l.list); size : AllByRecursion IsEntry (take l.e-index l.list) }
