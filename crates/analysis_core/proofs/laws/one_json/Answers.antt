use Rattle.analysis_core.proofs.JsonLemmas.{json_once}
use Rattle.analysis_core.proofs.laws.one_json.Goals as goal

pub returns : goal.returns
returns c files reply a b p q = json_once files reply a b p q
