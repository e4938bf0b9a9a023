use Rattle.bind.specs.Tables.{path_of}
use Rattle.bind.proofs.TableLemmas.{earlier_by_path, earlier_by_place, not_earlier}
use Rattle.bind.proofs.table.is_earlier.Goals as goal

pub returns-then-is_before : goal.returns-then-is_before
returns-then-is_before c =
    earlier_by_path (path_of c.args.files.now) c.args.a c.args.b c.path_of-path.result.now c.path_of-other.result.now c.is_before.result c.path_of-path.ensures c.path_of-other.ensures c.is_before.ensures c.if-is_before.true

pub returns-then-is_same : goal.returns-then-is_same
returns-then-is_same c =
    earlier_by_place (path_of c.args.files.now) c.args.a c.args.b c.path_of-path.result.now c.path_of-other.result.now c.is_before.result c.is_same.result c.comes_before.result
    c.path_of-path.ensures c.path_of-other.ensures c.is_before.ensures c.if-is_before.false c.is_same.ensures c.if-is_same.true c.comes_before.ensures

pub returns : goal.returns
returns c =
    not_earlier (path_of c.args.files.now) c.args.a c.args.b c.path_of-path.result.now c.path_of-other.result.now c.is_before.result c.is_same.result
    c.path_of-path.ensures c.path_of-other.ensures c.is_before.ensures c.if-is_before.false c.is_same.ensures c.if-is_same.false
