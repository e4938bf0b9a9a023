-- Marks of points and of nodes: what the first few nodes give.
use Rattle.std.proofs.Common.{◌≡◌, ◌<◌, ◌≤◌, ◌+◌, ℕ, zero, suc, Bool, true, false, List, length, set, replicate, Option, Some, refl, sym, ap, ◌∙◌, subst, arith}
use Rattle.std.specs.Prelude.{slice_get}
use Rattle.std.proofs.lemmas.List.{get_or-set_other, get_or-set_same, length-replicate, length-set}
use Rattle.std.proofs.lemmas.Option.{slice_get_within}
use Rattle.std.proofs.lemmas.Bool.{cases_eq}
use Rattle.go_tree.specs.declared.tree.FileTree.{FileTree}
use Rattle.go_tree.specs.declared.tree.Node.{Node}
use Rattle.flow.specs.declared.point.Around.{Around}
use Rattle.flow.specs.Around.{IsTree, AreAround, around_at}
use Rattle.flow.specs.Passing.{break_point, goto_point, Leaves, Names, flag_of, AreMarked, IsMarkedToo}
use Rattle.flow.proofs.AroundLemmas.{either, same_some, one_around}
use Rattle.flow.proofs.SearchLemmas.{no_truth, by_bool}

pub same_marks : (at : Option ℕ) (old new : List Bool) → new ≡ old → ((q : ℕ) → at ≡ Some q → q < length old → ⊥) → IsMarkedToo at old new
same_marks at old new same none = record {
  size = ap length same;
  kept = λ q is. ap (λ l. flag_of l q) same ∙ is;
  marked = λ q here low. absurd (none q here low);
  only = λ q is isnt. no_truth (sym isnt ∙ (sym (ap (λ l. flag_of l q) same) ∙ is));
}

pub set_mark : (n : ℕ) (old new : List Bool) → n < length old → new ≡ set old n true → IsMarkedToo (Some n) old new
set_mark n old new low is = record {
  size = ap length is ∙ length-set old n true;
  kept = λ q was. either (cases_eq q n)
      (λ e. here q e)
      (λ ne. ap (λ l. flag_of l q) is ∙ (get_or-set_other old n q true false ne ∙ was));
  marked = λ q at lower. here q (sym (same_some at));
  only = λ q now isnt. either (cases_eq q n)
      (λ e. ap Some (sym e))
      (λ ne. no_truth (sym isnt ∙ (sym (ap (λ l. flag_of l q) is ∙ get_or-set_other old n q true false ne) ∙ now)));
}
  where
    here : (q : ℕ) → q ≡ n → flag_of new q ≡ true
    here q e = ap (flag_of new) e ∙ (ap (λ l. flag_of l n) is ∙ get_or-set_same old n true false low)

pub unmarked : (n count : ℕ) → flag_of (replicate count false) n ≡ false
unmarked n zero = refl
unmarked zero (suc count) = refl
unmarked (suc n) (suc count) = unmarked n count

-- at the beginning none is marked
pub none_marked : (Gives : ℕ → ℕ → Type 0) (size few : ℕ) (marks : List Bool) → few ≡ size → marks ≡ replicate few false → AreMarked Gives 0 size marks
none_marked Gives size few marks same is = record {
  size = ap length is ∙ (length-replicate few false ∙ same);
  sound = λ q marked. no_truth (sym (unmarked q few) ∙ (sym (ap (λ l. flag_of l q) is) ∙ marked));
  every = λ q b low under given. absurd (omega (arith, under));
}

-- one node more gives what it gives
pub marked_more : (Gives : ℕ → ℕ → Type 0) (n size : ℕ) (at : Option ℕ) (old new : List Bool) → ((q : ℕ) → at ≡ Some q → Gives q n) → ((q : ℕ) → Gives q n → at ≡ Some q)
    → AreMarked Gives n size old → IsMarkedToo at old new → AreMarked Gives (n + 1) size new
marked_more Gives n size at old new gives is a m = record {
  size = m.size ∙ a.size;
  sound = λ q marked. by_bool (flag_of old q)
      (λ was. a.sound q was)
      (λ wasnt. (n, gives q (m.only q marked wasnt)));
  every = λ q b low under given. either (cases_eq b n)
      (λ e. m.marked q (is q (subst (Gives q) e given)) (let s = a.size in omega arith))
      (λ ne. m.kept q (a.every q b low (omega arith) given));
}

-- at the end all are
pub all_marked_so : (Gives : ℕ → ℕ → Type 0) (n few size : ℕ) (marks : List Bool) → few ≤ n → n ≤ few → AreMarked Gives n size marks → AreMarked Gives few size marks
all_marked_so Gives n few size marks end low a = record {
  size = a.size;
  sound = a.sound;
  every = λ q b lower under given. a.every q b lower (omega arith) given;
}

-- a node is a `break` out of what its point says
pub leaves_by : (tree : FileTree) (labels : List (Option ℕ)) (table : List Around) (n : ℕ) (node : Node) → AreAround tree table → slice_get tree.nodes n ≡ Some node → (q : ℕ)
    → break_point tree labels node (around_at table n) ≡ Some q → Leaves tree labels q n
leaves_by tree labels table n node around at q is = record {
  node = node;
  around = around_at table n;
  there = at;
  known = around.each n (slice_get_within tree.nodes n node at);
  is = is;
}

pub by_leaves : (tree : FileTree) (labels : List (Option ℕ)) (table : List Around) (n : ℕ) (node : Node) → IsTree tree.nodes → AreAround tree table → slice_get tree.nodes n ≡ Some node
    → (q : ℕ) → Leaves tree labels q n → break_point tree labels node (around_at table n) ≡ Some q
by_leaves tree labels table n node is around at q l =
    let nodes : node ≡ l.node = same_some (sym at ∙ l.there) in
    let same : around_at table n ≡ l.around = one_around tree is (around.each n (slice_get_within tree.nodes n node at)) l.known in
    ap (λ (x : Node). break_point tree labels x (around_at table n)) nodes ∙ (ap (break_point tree labels l.node) same ∙ l.is)

pub by_names : (tree : FileTree) (labels : List (Option ℕ)) (n : ℕ) (node : Node) → slice_get tree.nodes n ≡ Some node → (q : ℕ) → Names tree labels q n → goto_point labels node ≡ Some q
by_names tree labels n node at q l = let nodes : node ≡ l.node = same_some (sym at ∙ l.there) in ap (goto_point labels) nodes ∙ l.is
