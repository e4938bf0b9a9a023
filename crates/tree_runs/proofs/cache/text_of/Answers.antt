use Rattle.tree_runs.proofs.cache.text_of.Goals as goal

pub returns : goal.returns
returns c = (c.each_cache_has_a_text.ensures, c.in_ok-text.ensures)
