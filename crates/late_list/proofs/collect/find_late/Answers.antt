use Rattle.late_list.specs.Late.{IsLate}
use Rattle.late_list.proofs.SomeLemmas.{all_gained}
use Rattle.late_list.proofs.collect.find_late.Goals as goal

pub returns : goal.returns
returns g c =
    all_gained (IsLate g.V.Finds.IsFault g.V.Finds.count c.args.views.now) c.new-list.result.items c.find_all.new.list.items c.new-list.ensures.items c.in_ok-find_all.ensures
