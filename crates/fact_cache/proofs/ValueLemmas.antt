-- A cache has a text: its inputs are distinct, and its nodes' numbers are bytes.
use Rattle.std.proofs.Common.{◌≡◌, ℕ, ◌+◌, ◌<◌, ◌^◌, List, [], ◌∷◌, ◌++◌, get_or, length, map, take, sym, ap, ◌∙◌, subst, arith}
use Rattle.std.specs.List.{AllByRecursion}
use Rattle.std.proofs.lemmas.List.{get_or-map, length-map, take_all, take_more}
use Rattle.fact_cache.specs.declared.list.Entry.{Entry}
use Rattle.fact_cache.specs.declared.kept.Place.{Place}
use Rattle.fact_cache.specs.declared.numbered.Numbered.{Numbered}
use Rattle.fact_cache.specs.Numbered.{entry_in}

abbrev IsSmall : Entry → Type 0
IsSmall e = e.input.node < 2 ^ 8

-- the first so many entries have nodes that are bytes
abbrev pub AreSmall : ℕ → List Entry → Type 0
AreSmall count es = AllByRecursion IsSmall (take count es)

join-one : (es : List Entry) (e : Entry) → AllByRecursion IsSmall es → IsSmall e → AllByRecursion IsSmall (es ++ e ∷ [])
join-one [] e all small = (small, tt)
join-one (x ∷ es) e all small = (all.0, join-one es e all.1 small)

-- one more
pub small-more : (kept : List Place) (rows : List Numbered) (es : List Entry) (at node : ℕ) (row : Numbered) → map (entry_in kept) rows ≡ es → at < length rows → row ≡ get_or rows at row → node ≡ row.node → node < 256 → AreSmall at es → AreSmall (at + 1) es
small-more kept rows es at node row view lt is number small all =
    let size : length es ≡ length rows = ap length (sym view) ∙ length-map rows (entry_in kept) in
    let here : get_or es at (entry_in kept row) ≡ entry_in kept row = ap (λ (z : List Entry). get_or z at (entry_in kept row)) (sym view) ∙ (get_or-map (entry_in kept) rows at row (entry_in kept row) lt ∙ ap (entry_in kept) (sym is)) in
    let fits : IsSmall (entry_in kept row) = (let n : row.node < 256 = subst (λ z. z < 256) number small in omega arith) in
    subst (AllByRecursion IsSmall) (sym (take_more es at (entry_in kept row) (omega arith) ∙ ap (λ z. take at es ++ z ∷ []) here)) (join-one (take at es) (entry_in kept row) all fits)

-- all of them
pub small-all : (es : List Entry) (count : ℕ) → length es ≡ count → AreSmall count es → AllByRecursion (λ (e : Entry). e.input.node < 2 ^ 8) es
small-all es count size all = subst (AllByRecursion IsSmall) (take_all count es (omega arith)) all

pub none-small : (es : List Entry) → AreSmall 0 es
none-small [] = tt
none-small (e ∷ es) = tt
