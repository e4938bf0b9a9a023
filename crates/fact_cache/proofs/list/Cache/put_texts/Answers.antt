use Rattle.std.proofs.Common.{◌≡◌, ◌∙◌, sym, ap, subst, List, ◌++◌, ◌∷◌, [], None, arith}
use Rattle.fact_cache.specs.declared.list.Entry.{Entry}
use Rattle.fact_cache.specs.Caches.{lookup}
use Rattle.fact_cache.specs.Spread.{bucket_of}
use Rattle.fact_cache.proofs.CacheLemmas.{cache-like, cache-put, cache-undone}
use Rattle.fact_cache.proofs.AgainLemmas.{texts-used}
use Rattle.fact_cache.proofs.list.Cache.put_texts.Goals as goal

pub row_head-head-requires-clause-used : goal.row_head-head-requires-clause-used
row_head-head-requires-clause-used c = texts-used c.hold_row.new.kept c.in-Ok.row (λ m low. let more = c.in-Ok.ensures.taken.more m in omega (arith, more, low))

pub row_head-head-requires-clause-mixed : goal.row_head-head-requires-clause-mixed
row_head-head-requires-clause-mixed c = c.hold_row.ensures.mixed

pub invariant_of-self : goal.invariant_of-self
invariant_of-self c = (cache-like c.self.inside.key [] c.self.inside.kept c.hold_row.new.kept c.self.inside.index c.self.inside.rows.items c.self.invariant c.in-Err.ensures.like c.hold_row.ensures.mixed).0

pub returns-in-Err-clause-unchanged : goal.returns-in-Err-clause-unchanged
returns-in-Err-clause-unchanged c = (cache-like c.self.inside.key [] c.self.inside.kept c.hold_row.new.kept c.self.inside.index c.self.inside.rows.items c.self.invariant c.in-Err.ensures.like c.hold_row.ensures.mixed).1 ∙ c.self.view_is

pub invariant_of-self-in-Ok-append : goal.invariant_of-self-in-Ok-append
invariant_of-self-in-Ok-append c = (cache-put c.self.inside.key [] c.self.inside.kept c.hold_row.new.kept c.self.inside.index c.append.new.index c.self.inside.rows.items c.append.new.rows.items c.in-Ok.row
    (record { input = c.args.input.now; outcome = c.args.outcome.now }) (c.args.input.now.texts ++ c.args.outcome.now ∷ []) c.row_head-head.result
    c.self.invariant c.in-Ok.ensures.taken c.in-Ok.ensures.entry (subst (λ (l : List Entry). lookup l c.args.input.now ≡ None) (sym c.self.view_is) c.requires)
    (c.row_head-head.ensures.value ∙ ap (λ (e : Entry). bucket_of c.self.inside.key e.input) c.in-Ok.ensures.entry) c.in-Ok-append.ensures.index c.in-Ok-append.ensures.rows c.hold_row.ensures.mixed).0

pub returns-in-Ok-append-clause-put : goal.returns-in-Ok-append-clause-put
returns-in-Ok-append-clause-put c = (cache-put c.self.inside.key [] c.self.inside.kept c.hold_row.new.kept c.self.inside.index c.append.new.index c.self.inside.rows.items c.append.new.rows.items c.in-Ok.row
    (record { input = c.args.input.now; outcome = c.args.outcome.now }) (c.args.input.now.texts ++ c.args.outcome.now ∷ []) c.row_head-head.result
    c.self.invariant c.in-Ok.ensures.taken c.in-Ok.ensures.entry (subst (λ (l : List Entry). lookup l c.args.input.now ≡ None) (sym c.self.view_is) c.requires)
    (c.row_head-head.ensures.value ∙ ap (λ (e : Entry). bucket_of c.self.inside.key e.input) c.in-Ok.ensures.entry) c.in-Ok-append.ensures.index c.in-Ok-append.ensures.rows c.hold_row.ensures.mixed).1
    ∙ ap (λ (l : List Entry). l ++ record { input = c.args.input.now; outcome = c.args.outcome.now } ∷ []) c.self.view_is

pub invariant_of-self-in-Err-append : goal.invariant_of-self-in-Err-append
invariant_of-self-in-Err-append c = (cache-undone c.self.inside.key [] c.self.inside.kept c.hold_row.new.kept c.free_row.new.kept c.self.inside.index c.append.new.index c.self.inside.rows.items c.append.new.rows.items
    (c.args.input.now.texts ++ c.args.outcome.now ∷ []) c.in-Ok.row c.in-Err-append.row
    c.self.invariant c.in-Ok.ensures.taken c.in-Err-append.ensures.back c.free_row.ensures.freed c.in-Err-append.ensures.same_index c.in-Err-append.ensures.same_rows (c.free_row.ensures.mixed c.self.inside.key c.hold_row.ensures.mixed)).0

pub returns-in-Err-append-clause-unchanged : goal.returns-in-Err-append-clause-unchanged
returns-in-Err-append-clause-unchanged c = (cache-undone c.self.inside.key [] c.self.inside.kept c.hold_row.new.kept c.free_row.new.kept c.self.inside.index c.append.new.index c.self.inside.rows.items c.append.new.rows.items
    (c.args.input.now.texts ++ c.args.outcome.now ∷ []) c.in-Ok.row c.in-Err-append.row
    c.self.invariant c.in-Ok.ensures.taken c.in-Err-append.ensures.back c.free_row.ensures.freed c.in-Err-append.ensures.same_index c.in-Err-append.ensures.same_rows (c.free_row.ensures.mixed c.self.inside.key c.hold_row.ensures.mixed)).1 ∙ c.self.view_is
