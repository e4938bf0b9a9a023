use Rattle.std.proofs.Common.{Option, subst}
use Rattle.go_tree.specs.declared.tree.NodeRef.{NodeRef}
use Rattle.bind.specs.Tables.{path_of, found, Stays}
use Rattle.bind.proofs.TableLemmas.{added, not_added}
use Rattle.bind.proofs.table.add.Goals as goal

pub returns-then-stays : goal.returns-then-stays
returns-then-stays c =
    not_added (path_of c.args.files.now) (found c.args.table.now) c.args.declared.name.now c.args.declared.at c.stays.result c.if-stays.true
    (subst (λ (o : Option NodeRef). Stays (path_of c.args.files.now) o c.args.declared.at c.stays.result) c.find.ensures c.stays.ensures)

pub returns : goal.returns
returns c =
    added (path_of c.args.files.now) (found c.args.table.now) (found c.keep.new.table) c.args.declared.name.now c.args.declared.at c.stays.result c.if-stays.false
    (subst (λ (o : Option NodeRef). Stays (path_of c.args.files.now) o c.args.declared.at c.stays.result) c.find.ensures c.stays.ensures) c.in_ok-keep.ensures
