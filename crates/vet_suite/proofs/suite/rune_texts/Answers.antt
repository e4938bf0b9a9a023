use Rattle.std.proofs.Common.{sym, ap}
use Rattle.unit_read.specs.Subjects.{flag}
use Rattle.findings.specs.Passes.{unit_in, marks_in}
use Rattle.vet_suite.proofs.FreeLemmas.{none_found}
use Rattle.vet_suite.proofs.suite.rune_texts.Goals as goal

-- nothing is converted so
pub returns-then-is_empty : goal.returns-then-is_empty
returns-then-is_empty c =
    let empty = c.is_empty.ensures.0 c.if-is_empty.true in
    record {
      free = flag c.new-none.result.items;
      is_free = λ at node there some. absurd (some (none_found (unit_in c.args.pass.now) (marks_in c.args.pass.now) (flag c.new-none.result.items) c.in_ok-first.first.items c.in_ok-first.ensures empty at node there));
      are = c.in_ok-first.ensures;
    }

pub returns : goal.returns
returns c = record { free = flag c.in_ok-free.free.items; is_free = λ at node there some. c.in_ok-free.ensures; are = c.in_ok-found.ensures }
