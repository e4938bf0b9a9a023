use Rattle.std.proofs.Common.{ap, refl, rules, option_map}
use Rattle.gv_base.specs.Keepers.{bytes_of}
use Rattle.disk.specs.Kept.{kept_in}
use Rattle.disk.proofs.ReplaceLaws.{fetched-is}
use Rattle.disk.proofs.keeper.FileKeeperKeeper.fetch.Goals as goal

pub returns-in-Ok : goal.returns-in-Ok
returns-in-Ok g c = record {
  keeps = ap (option_map kept_in) c.read.ensures.held;
  answers = fetched-is (g.D.Disk.held c.args.self.now.disk) (bytes_of c.in-Ok.kept) c.in-Ok.ensures.front;
  fetches = search rules;
  stores = refl;
}
