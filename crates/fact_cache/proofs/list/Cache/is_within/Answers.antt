use Rattle.std.proofs.Common.{rules, ◌≡◌, ◌∙◌, ap, sym, List, length}
use Rattle.fact_cache.specs.declared.list.Entry.{Entry}
use Rattle.fact_cache.specs.Caches.{mentions, distinct_bytes}
use Rattle.fact_cache.specs.Numbered.{entry_in}
use Rattle.fact_cache.proofs.ListFacts.{length-mapped}
use Rattle.fact_cache.proofs.TotalLemmas.{total-is, bare}
use Rattle.fact_cache.proofs.list.Cache.is_within.Goals as goal

pub returns-then-total-gt268435456 : goal.returns-then-total-gt268435456
returns-then-total-gt268435456 c =
    let e : c.total.result ≡ distinct_bytes (mentions c.args.self.now) =
    c.total.ensures.value ∙ (total-is c.self.inside.kept c.self.inside.rows.items (λ m. bare (c.self.invariant.uses m)) c.total.ensures.distinct ∙ ap (λ (l : List Entry). distinct_bytes (mentions l)) c.self.view_is) in search rules

pub returns : goal.returns
returns c =
    let e : c.total.result ≡ distinct_bytes (mentions c.args.self.now) =
    c.total.ensures.value ∙ (total-is c.self.inside.kept c.self.inside.rows.items (λ m. bare (c.self.invariant.uses m)) c.total.ensures.distinct ∙ ap (λ (l : List Entry). distinct_bytes (mentions l)) c.self.view_is) in
    let n : length c.self.inside.rows.items ≡ length c.args.self.now = sym (length-mapped (entry_in c.self.inside.kept) c.self.inside.rows.items) ∙ ap length c.self.view_is in search rules
