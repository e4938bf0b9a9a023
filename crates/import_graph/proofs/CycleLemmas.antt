-- Flags for what an order of need calls cyclic.
use Rattle.std.proofs.Common.{◌≡◌, ◌∙◌, ℕ, ◌<◌, Bool, true, false, ◌&&◌, ◌==◌, List, length, get_or, refl, sym, subst}
use Rattle.std.specs.List.{All}
use Rattle.std.proofs.lemmas.Option.{slice_get-get_or}
use Rattle.std.proofs.lemmas.Bool.Decides.{Decides-eqb}
use Rattle.need_order.specs.Graphs.{Needs, Leads, IsOrder}
use Rattle.need_order.specs.declared.needed.Needed.{Needed}
use Rattle.import_graph.specs.Tables.{says_cyclic, AreFlags}
use Rattle.import_graph.proofs.ListLemmas.{any-get, get-any}

pub within : (needs : ℕ → ℕ → Type 0) (n : ℕ) (order : List Needed) → IsOrder needs n order → All (λ e. e.vertex < n) order
within needs n order is k d l = is.within k (get_or order k d) (slice_get-get_or order k d l)

and-left : (a b : Bool) → (a && b) ≡ true → a ≡ true
and-left true b e = refl
and-left false b e = cc

and-right : (a b : Bool) → (a && b) ≡ true → b ≡ true
and-right true b e = e
and-right false b e = cc

and-both : (a b : Bool) → a ≡ true → b ≡ true → (a && b) ≡ true
and-both true b e f = f
and-both false b e f = cc

pub flags-are : (rows : List (List ℕ)) (order : List Needed) (flags : List Bool) → IsOrder (Needs rows) (length rows) order → length flags ≡ length rows
    → ((k : ℕ) → k < length rows → get_or flags k false ≡ says_cyclic k order) → AreFlags rows flags
flags-are rows order flags is size each = record {
  size = size;
  each = λ k l. (
    (λ h. let r = get-any (λ e. e.cyclic && e.vertex == k) order (sym (each k l) ∙ h) in
        let v : r.item.vertex ≡ k = (Decides-eqb r.item.vertex k).0 (and-right r.item.cyclic (r.item.vertex == k) r.told) in
        subst (λ t. Leads (Needs rows) t t) v ((is.cyclic r.place r.item r.stands).0 (and-left r.item.cyclic (r.item.vertex == k) r.told))),
    (λ h. let r = is.each k l in
        let c : r.1.cyclic ≡ true = (is.cyclic r.0 r.1 r.2).1 (subst (λ t. Leads (Needs rows) t t) (sym r.3) h) in
        each k l ∙ any-get (λ e. e.cyclic && e.vertex == k) order r.0 r.1 r.2 (and-both r.1.cyclic (r.1.vertex == k) c ((Decides-eqb r.1.vertex k).1 r.3))),
  );
}
