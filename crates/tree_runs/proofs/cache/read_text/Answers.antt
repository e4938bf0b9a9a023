use Rattle.tree_runs.proofs.CacheLaws.{decoded-of}
use Rattle.tree_runs.proofs.cache.read_text.Goals as goal

pub returns : goal.returns
returns c = decoded-of c.args.bytes.now c.in_ok-cache.cache c.in_ok-cache.ensures.spelled c.in_ok-cache.ensures.only
