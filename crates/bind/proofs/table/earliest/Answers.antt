use Rattle.bind.specs.Tables.{path_of, found}
use Rattle.bind.proofs.StepLemmas.{none_earliest, earliest_more, earliest_all}
use Rattle.bind.proofs.TableLemmas.{none_found}
use Rattle.bind.proofs.table.earliest.Goals as goal

pub loop-declared-init : goal.loop-declared-init
loop-declared-init c = none_earliest (path_of c.args.files.now) (found c.new-table.result) (none_found c.new-table.result c.new-table.ensures.empty)

pub loop-declared-preserved : goal.loop-declared-preserved
loop-declared-preserved c =
    earliest_more (path_of c.args.files.now) c.args.all.now c.loop-declared.declared-index _ (found c.loop-declared.table) (found c.add.new.table) c.loop-declared-test.true c.loop-declared.invariant c.in_ok-add.ensures

pub returns : goal.returns
returns c = earliest_all (path_of c.args.files.now) c.args.all.now c.loop-declared.declared-index (found c.loop-declared.table) c.loop-declared-test.false c.loop-declared.invariant
