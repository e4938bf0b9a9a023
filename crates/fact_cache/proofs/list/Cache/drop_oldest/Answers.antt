use Rattle.std.proofs.Common.{◌∙◌, sym, ap, drop, List, []}
use Rattle.fact_cache.specs.declared.list.Entry.{Entry}
use Rattle.fact_cache.proofs.CacheLemmas.{first-within, cache-drop}
use Rattle.fact_cache.proofs.list.Cache.drop_oldest.Goals as goal

pub free_row-requires : goal.free_row-requires
free_row-requires c = first-within c.self.inside.key [] c.self.inside.kept c.self.inside.index c.self.inside.rows.items c.in-Some.row c.self.invariant (sym c.in-Some.ensures.first)

pub invariant_of-self : goal.invariant_of-self
invariant_of-self c = (cache-drop c.self.inside.key [] c.self.inside.kept c.free_row.new.kept c.self.inside.index c.pop.new.self c.self.inside.rows.items c.drop_row.new.rows.items c.in-Some.row
    c.self.invariant (sym c.in-Some.ensures.first) c.free_row.ensures.freed c.pop.ensures c.drop_row.ensures.rest (c.free_row.ensures.mixed c.self.inside.key c.self.invariant.mixed)).0

pub returns-in-Some : goal.returns-in-Some
returns-in-Some c = (cache-drop c.self.inside.key [] c.self.inside.kept c.free_row.new.kept c.self.inside.index c.pop.new.self c.self.inside.rows.items c.drop_row.new.rows.items c.in-Some.row
    c.self.invariant (sym c.in-Some.ensures.first) c.free_row.ensures.freed c.pop.ensures c.drop_row.ensures.rest (c.free_row.ensures.mixed c.self.inside.key c.self.invariant.mixed)).1 ∙ ap (λ (l : List Entry). drop 1 l) c.self.view_is
