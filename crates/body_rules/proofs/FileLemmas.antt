-- Bodies that don't end in a terminating statement.
use Rattle.std.proofs.Common.{◌≡◌, ℕ, ◌↔◌, Bool, true, false, cond, not, List, length, get_or, Option, Some, None, IsTrue, refl, sym, ap, ◌∙◌, subst}
use Rattle.node_values.specs.Flagged.{IsOnly}
use Rattle.node_values.proofs.CaseLemmas.{same_some}
use Rattle.late_list.specs.Late.{IsAnswer}
use Rattle.gv_base.specs.declared.place.Place.{Place}
use Rattle.body_rules.specs.declared.endings.Ending.{Ending}
use Rattle.body_rules.specs.declared.endings.Ending.TheVariants as e
use Rattle.body_rules.specs.Given.{Given}
use Rattle.body_rules.specs.Endings.{flag_of, is_closed, endings}
use Rattle.body_rules.specs.declared.branches.Branch.TheVariants as w
use Rattle.body_rules.specs.Branches.{Leaves, AreLeft}
use Rattle.node_values.proofs.FlagLemmas.{one_flagged}
use Rattle.std.proofs.Common.{◌<◌, length}
use Rattle.node_values.specs.Trees.{IsTree}
use Rattle.node_values.proofs.HandLemmas.{one_value}
use Rattle.go_tree.proofs.NodeLemmas.{differ}
use Rattle.body_rules.specs.Hands.{clause_rule, alone_rule, AreClauseEnds}
use Rattle.body_rules.specs.Files.{body_of, IsUnfinished, falls_at, IsMisplacedFall, AreRead, IsUnused}

un_not : (b : Bool) → IsTrue (not b) → b ≡ false
un_not true e = absurd cc
un_not false e = refl

pub unfinished_is : (f : Given) (n b : ℕ) (left : List Bool) (found : List Ending) → body_of f n ≡ Some b → AreLeft f.nodes f.labels left
    → found ≡ endings (flag_of left) (flag_of f.panics) f.nodes → IsTrue (not (is_closed (get_or found b e.Open))) ↔ IsUnfinished f n
unfinished_is f n b left found body are is = (
  λ h. record { b = b; body = body; left = left; are_left = are; ends = ap (λ (l : List Ending). is_closed (get_or l b e.Open)) (sym is) ∙ un_not (is_closed (get_or found b e.Open)) h },
  λ u. ap not (ap (λ (l : List Ending). is_closed (get_or l b e.Open)) is
      ∙ (ap (λ (l : List Bool). is_closed (get_or (endings (flag_of l) (flag_of f.panics) f.nodes) b e.Open)) (one_flagged (Leaves w.Break f.nodes f.labels) (length f.nodes) (length f.nodes) left u.left are u.are_left)
      ∙ (ap (λ k. is_closed (get_or (endings (flag_of u.left) (flag_of f.panics) f.nodes) k e.Open)) (same_some (body_of f n) b u.b body u.body) ∙ u.ends))),
)

-- a test and its place
pub answer_if : (test : Bool) (P : Type 0) (place : Place) (o : Option Place) → IsTrue test ↔ P → o ≡ cond test (Some place) None → IsAnswer (λ p. P × (p ≡ place)) o
answer_if true P place o is told = subst (λ (x : Option Place). IsAnswer (λ p. P × (p ≡ place)) x) (sym told) ((is.0 refl, refl), λ other h. h.1)
answer_if false P place o is told = subst (λ (x : Option Place). IsAnswer (λ p. P × (p ≡ place)) x) (sym told) (λ other h. (let f : false ≡ true = is.1 h.0 in cc))

-- ---- `fallthrough`

pub misplaced_is : (f : Given) (n : ℕ) (ends : List Bool) → IsTree f.nodes → falls_at f n ≡ true → AreClauseEnds f.nodes ends
    → IsTrue (not (flag_of ends n)) ↔ IsMisplacedFall f n
misplaced_is f n ends tree falls are = (
  λ h. record { falls = falls; found = ends; ends = are; misplaced = un_not (flag_of ends n) h },
  λ m. ap not (one_value clause_rule false f.nodes ends m.found tree are m.ends n ∙ m.misplaced),
)

-- ---- variables

pub unused_is : (f : Given) (d : ℕ) (read : List Bool) → IsTree f.nodes → d < length f.nodes → flag_of f.variables d ≡ true → AreRead f read
    → IsTrue (not (flag_of read d)) ↔ IsUnused f d
unused_is f d read tree low variable are = (
  λ h. record {
    within = low;
    variable = variable;
    alone = are.alone;
    are_alone = are.are_alone;
    unread = λ m less reads. differ (flag_of read d) (un_not (flag_of read d) h) ((are.flags.each d low).1 (m, less, reads));
  },
  λ u. by u (flag_of read d) refl,
) where
  by : IsUnused f d → (b : Bool) → flag_of read d ≡ b → IsTrue (not (flag_of read d))
  by u false e = ap not e
  by u true e = absurd (let (m, less, reads) = (are.flags.each d low).0 e in
      u.unread m less (one_value alone_rule false f.nodes u.alone are.alone tree u.are_alone are.are_alone m ∙ reads.0, reads.1))

-- ---- `break` and `continue`

pub none_left : (P : ℕ → Type 0) (o : Option ℕ) → o ≡ None → IsOnly P o → (t : ℕ) → P t → ⊥
none_left P o e only = subst (λ (x : Option ℕ). IsOnly P x) e only

pub some_left : (P : ℕ → Type 0) (o : Option ℕ) (t : ℕ) → o ≡ Some t → IsOnly P o → P t
some_left P o t e only = (subst (λ (x : Option ℕ). IsOnly P x) e only).0
