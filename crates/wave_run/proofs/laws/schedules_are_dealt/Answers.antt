use Rattle.wave_run.proofs.ScheduleLaws.{starts, keeps_on, dealt}
use Rattle.wave_run.proofs.laws.schedules_are_dealt.Goals as goal

pub returns : goal.returns
returns c jobs first last events start runs = dealt jobs last (keeps_on jobs first last events (starts jobs first start) runs)
