-- What a text's parts give is the cache that the text spells, and the only one.
use Rattle.std.proofs.Common.{◌≡◌, ℕ, ◌<◌, ◌≤◌, ◌^◌, Some, None, Option, List, [], ◌∷◌, length, map, sym, ap, ◌∙◌, subst, arith}
use Rattle.std.specs.List.{AllByRecursion}
use Rattle.std.proofs.lemmas.Option.{none-some}
use Rattle.gv_bytes.proofs.Options.{some_is}
use Rattle.fact_cache.specs.declared.list.Entry.{Entry}
use Rattle.fact_cache.specs.declared.numbered.Numbered.{Numbered}
use Rattle.fact_cache.specs.Inputs.{Text}
use Rattle.fact_cache.specs.Caches.{mentions, AreDistinct}
use Rattle.fact_cache.specs.CacheTexts.{firsts, CacheSpelled}
use Rattle.fact_cache.specs.Coded.{coded, decoded, coded_of, AreApart, IsInOrder, AreCoded}
use Rattle.std.specs.Prelude.{IfSome, IfNone}
use Rattle.fact_cache.proofs.CodedLemmas.{coded-spells}
use Rattle.fact_cache.proofs.FirstsLemmas.{firsts-coded}
use Rattle.fact_cache.proofs.ReadLemmas.{IsRow, coded-take, spelled-reads}

nodes-fit : (ts : List Text) (rs : List Numbered) → AllByRecursion IsRow rs → AllByRecursion (λ (e : Entry). e.input.node < 2 ^ 8) (map (decoded ts) rs)
nodes-fit ts [] all = tt
nodes-fit ts (r ∷ rs) all = (let l : r.node ≤ 255 = all.0.0 in omega (arith, l), nodes-fit ts rs all.1)

pub decode-spelled : (bytes : List ℕ) (ts : List Text) (rs : List Numbered) (cache : List Entry) → coded_of bytes ≡ Some (ts, rs) → AreCoded ts rs → cache ≡ map (decoded ts) rs → CacheSpelled cache bytes
decode-spelled bytes ts rs cache read are is =
    let taken = coded-take bytes (ts, rs) read in
    subst (λ (es : List Entry). CacheSpelled es bytes) (sym is) ((are.distinct, nodes-fit ts rs taken.1), taken.0 ∙ sym (coded-spells ts rs are.apart are.order))

-- the parts that are read are those of the entries that the bytes spell
record AreThose (es : List Entry) (ts : List Text) (rs : List Numbered) : Type 0 where
  pub coded : AreCoded ts rs
  pub entries : map (decoded ts) rs ≡ es

those : (es : List Entry) → AreDistinct es → AreThose es (firsts (mentions es)) (map (coded (firsts (mentions es))) es)
those es distinct =
    let is = firsts-coded es in record {
      coded = record { apart = is.0; order = is.1; distinct = subst AreDistinct (sym is.2) distinct };
      entries = is.2;
    }

abbrev just-both : List Text × List Numbered → Option (List Text × List Numbered)
just-both x = Some x

moved : (es : List Entry) (x y : List Text × List Numbered) → just-both x ≡ just-both y → AreThose es x.0 x.1 → AreThose es y.0 y.1
moved es x y e are = subst (λ (z : List Text × List Numbered). AreThose es z.0 z.1) (some_is x y e) are

read-those : (es : List Entry) (bytes : List ℕ) (ts : List Text) (rs : List Numbered) → CacheSpelled es bytes → length bytes < 2 ^ 64 → coded_of bytes ≡ Some (ts, rs) → AreThose es ts rs
read-those es bytes ts rs spelled small read =
    moved es (firsts (mentions es), map (coded (firsts (mentions es))) es) (ts, rs) (sym (spelled-reads es bytes spelled.0.1 spelled.1 small) ∙ read) (those es spelled.0.0)

pub decode-only : (es cache : List Entry) (bytes : List ℕ) (ts : List Text) (rs : List Numbered) → CacheSpelled es bytes → length bytes < 2 ^ 64 → coded_of bytes ≡ Some (ts, rs) → cache ≡ map (decoded ts) rs → cache ≡ es
decode-only es cache bytes ts rs spelled small read is = is ∙ (read-those es bytes ts rs spelled small read).entries

pub decode-none : (es : List Entry) (bytes : List ℕ) (ts : List Text) (rs : List Numbered) → CacheSpelled es bytes → length bytes < 2 ^ 64 → coded_of bytes ≡ Some (ts, rs) → (AreCoded ts rs → ⊥) → ⊥
decode-none es bytes ts rs spelled small read none = none (read-those es bytes ts rs spelled small read).coded

pub decode-unspelled : (es : List Entry) (bytes : List ℕ) → CacheSpelled es bytes → length bytes < 2 ^ 64 → coded_of bytes ≡ None → ⊥
decode-unspelled es bytes spelled small none =
    none-some (firsts (mentions es), map (coded (firsts (mentions es))) es) (sym none ∙ spelled-reads es bytes spelled.0.1 spelled.1 small)

-- A cache has one answer, whether there is one or none.
pub answer-some : (es cache : List Entry) → cache ≡ es → Some cache ≡ Some es
answer-some es cache e = ap (λ x. Some x) e

pub restore-some : (o : Option (List Entry)) (held ts : List Text) (rs : List Numbered) → IfSome o (λ cache. (cache ≡ map (decoded held) rs) × AreDistinct (map (decoded held) rs)) → held ≡ ts → AreApart ts → IsInOrder ts rs
    → IfSome o (λ cache. AreCoded ts rs × (cache ≡ map (decoded ts) rs))
restore-some None held ts rs given same apart order = tt
restore-some (Some cache) held ts rs given same apart order = (
  record { apart = apart; order = order; distinct = subst (λ (l : List Text). AreDistinct (map (decoded l) rs)) same given.1 },
  given.0 ∙ ap (λ (l : List Text). map (decoded l) rs) same,
)

pub restore-none : (o : Option (List Entry)) (held ts : List Text) (rs : List Numbered) → IfNone o (AreDistinct (map (decoded held) rs) → ⊥) → held ≡ ts → IfNone o (AreCoded ts rs → ⊥)
restore-none None held ts rs given same = λ are. given (subst (λ (l : List Text). AreDistinct (map (decoded l) rs)) (sym same) are.distinct)
restore-none (Some cache) held ts rs given same = tt

pub answer-spelled : (o : Option (List Entry)) (bytes : List ℕ) (ts : List Text) (rs : List Numbered) → coded_of bytes ≡ Some (ts, rs) → IfSome o (λ cache. AreCoded ts rs × (cache ≡ map (decoded ts) rs)) → IfSome o (λ cache. CacheSpelled cache bytes)
answer-spelled None bytes ts rs read given = tt
answer-spelled (Some cache) bytes ts rs read given = decode-spelled bytes ts rs cache read given.0 given.1

pub answer-only : (o : Option (List Entry)) (es : List Entry) (bytes : List ℕ) (ts : List Text) (rs : List Numbered) → CacheSpelled es bytes → length bytes < 2 ^ 64 → coded_of bytes ≡ Some (ts, rs)
    → IfSome o (λ cache. AreCoded ts rs × (cache ≡ map (decoded ts) rs)) → IfNone o (AreCoded ts rs → ⊥) → o ≡ Some es
answer-only None es bytes ts rs spelled small read some none = absurd (decode-none es bytes ts rs spelled small read none)
answer-only (Some cache) es bytes ts rs spelled small read some none = answer-some es cache (decode-only es cache bytes ts rs spelled small read some.1)

-- A text is of one cache.
pub one-cache : (c d : List Entry) (bytes : List ℕ) → length bytes < 2 ^ 64 → CacheSpelled c bytes → CacheSpelled d bytes → c ≡ d
one-cache c d bytes small sc sd =
    sym (those c sc.0.0).entries ∙ (read-those d bytes (firsts (mentions c)) (map (coded (firsts (mentions c))) c) sd small (spelled-reads c bytes sc.0.1 sc.1 small)).entries
