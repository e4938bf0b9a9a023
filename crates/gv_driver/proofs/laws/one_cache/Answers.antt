use Rattle.gv_driver.proofs.OnceLaws.{cache-once, honest-after, within-after}
use Rattle.gv_driver.proofs.laws.one_cache.Goals as goal

pub returns-clause-one : goal.returns-clause-one
returns-clause-one c = cache-once

pub returns-clause-honest : goal.returns-clause-honest
returns-clause-honest c = honest-after

pub returns-clause-within : goal.returns-clause-within
returns-clause-within c = within-after
