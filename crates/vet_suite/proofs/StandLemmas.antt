-- What the analyzers find stands in the package's files.
use Rattle.std.proofs.Common.{◌≡◌, ℕ, zero, suc, ◌<◌, ◌≤◌, List, [], ◌∷◌, Option, Some, None, length, slice_get, refl, subst, inl, inr, arith}
use Rattle.std.specs.Prelude.{codes}
use Rattle.std.proofs.lemmas.Option.{slice_get_within}
use Rattle.fix_apply.specs.declared.edits.Edit.{Edit}
use Rattle.fix_apply.specs.Edits.{Overlap}
use Rattle.fix_apply.specs.Rewriting.{LieIn, AreApart}
use Rattle.go_tree.specs.declared.tree.FileTree.{FileTree}
use Rattle.go_tree.specs.declared.tree.Node.{Node}
use Rattle.unit_read.specs.Units.{Unit, text_in, nodes_at, nodes_of}
use Rattle.analysis_core.specs.AnalyzerNames.{number_of, analyzer_numbered}
use Rattle.analysis_core.specs.declared.analyzer_name.AnalyzerName.{AnalyzerName}
use Rattle.vet_words.specs.Diagnosing.{start_of, end_of}
use Rattle.vet_simple.specs.RuneTexts.{inserted}
use Rattle.vet_suite.specs.Standing.{NodesStand, Stands}
use Rattle.vet_suite.proofs.EachLemmas.{HoldsOf}

-- one edit lies there, apart from itself
one_lies : (bytes : List ℕ) (e : Edit) → e.start ≤ e.end → e.end ≤ length bytes → LieIn bytes (e ∷ [])
one_lies bytes e first within zero d low = (first, within)
one_lies bytes e first within (suc k) d low = absurd (omega arith)

one_apart : (e : Edit) → AreApart (e ∷ [])
one_apart e i j d before low = absurd (omega arith)

-- two that insert something, one behind the other
two_lie : (bytes : List ℕ) (a b : Edit) → a.start ≤ a.end → a.end ≤ length bytes → b.start ≤ b.end → b.end ≤ length bytes → LieIn bytes (a ∷ b ∷ [])
two_lie bytes a b first within second inside zero d low = (first, within)
two_lie bytes a b first within second inside (suc zero) d low = (second, inside)
two_lie bytes a b first within second inside (suc (suc k)) d low = absurd (omega arith)

two_apart : (s e : ℕ) (x y : List ℕ) → s < e → AreApart (inserted s x ∷ inserted e y ∷ [])
two_apart s e x y less zero zero d before low = absurd (omega arith)
two_apart s e x y less zero (suc zero) d before low = over where
  over : Overlap (inserted s x) (inserted e y) → ⊥
  over (inl same) = omega arith
  over (inr (left, right)) = omega arith
two_apart s e x y less zero (suc (suc j)) d before low = absurd (omega arith)
two_apart s e x y less (suc i) zero d before low = absurd (omega arith)
two_apart s e x y less (suc i) (suc j) d before low = absurd (omega arith)

module _ (u : Unit) (stand : NodesStand u) where
  file_of : (f n : ℕ) (node : Node) → slice_get (nodes_at u f) n ≡ Some node → f < length u.trees
  file_of f n node there = by (slice_get u.trees f) refl there where
    by : (o : Option FileTree) → slice_get u.trees f ≡ o → slice_get (nodes_of o) n ≡ Some node → f < length u.trees
    by None e is = absurd (cc)
    by (Some tree) e is = slice_get_within u.trees f tree e

  stands_named : (name : AnalyzerName) → HoldsOf u name (Stands u (number_of name))
  stands_named name = record {
    plain = λ f n text node there. record { analyzer = refl; file = file_of f n node there; offset = stand.begin f node.first; fix = tt };
    removed = λ f n m text node other there at kind. (
        record {
          analyzer = refl;
          file = file_of f n node there;
          offset = stand.begin f node.first;
          fix = record { file_is = refl; lie = one_lies (text_in u f) (record { start = start_of u f other.first; «end» = end_of u f other.last; text = [] }) (stand.assigned f m other at kind) (stand.finish f other.last); apart = one_apart (record { start = start_of u f other.first; «end» = end_of u f other.last; text = [] }) };
        }
        );
    wrapped = λ f n m text node other there call operand at. (
        let less = stand.passed f n m node other there call operand at in
        let low = stand.begin f other.first in
        let high = stand.finish f other.last in
        record {
          analyzer = refl;
          file = file_of f n node there;
          offset = stand.begin f node.first;
          fix = record {
            file_is = refl;
            lie = two_lie (text_in u f) (inserted (start_of u f other.first) (codes "rune(")) (inserted (end_of u f other.last) (codes ")")) (omega arith) low (omega arith) high;
            apart = two_apart (start_of u f other.first) (end_of u f other.last) (codes "rune(") (codes ")") less;
          };
        }
        );
  }

  pub stands_numbered : (number : ℕ) → ((n : ℕ) (a : AnalyzerName) → analyzer_numbered n ≡ Some a → number_of a ≡ n) → (name : AnalyzerName) → analyzer_numbered number ≡ Some name → HoldsOf u name (Stands u number)
  stands_numbered number told name named = subst (λ (n : ℕ). HoldsOf u name (Stands u n)) (told number name named) (stands_named name)
