use Rattle.wave_run.proofs.ScheduleLaws.{starts, keeps_on, completes}
use Rattle.wave_run.proofs.laws.each_job_once.Goals as goal

pub returns-clause-drawn : goal.returns-clause-drawn
returns-clause-drawn c jobs first last events start runs f = (keeps_on jobs first last events (starts jobs first start) runs).drawn f

pub returns-clause-noted : goal.returns-clause-noted
returns-clause-noted c jobs first last events start runs done many f = completes jobs last f (keeps_on jobs first last events (starts jobs first start) runs) done many
