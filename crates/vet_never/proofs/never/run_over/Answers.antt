use Rattle.std.proofs.Common.{List, map, sym, ap, ◌∙◌, subst, arith}
use Rattle.go_tree.specs.Lexeme.{place_of}
use Rattle.handed_facts.specs.Handed.{Named, path_in, ArePathsApart, AreToldBy}
use Rattle.findings.specs.Passes.{unit_in, marks_in}
use Rattle.own_functions.proofs.ListLemmas.{names_are, size_is}
use Rattle.vet_never.specs.Never.{spelling, IsNeverText}
use Rattle.vet_never.proofs.never.run_over.Goals as goal

pub run_known-requires-clause-known : goal.run_known-requires-clause-known
run_known-requires-clause-known c =
    let u = unit_in c.args.p.now in
    record {
      by_path = λ q. c.in_ok-handed.ensures.places q ∙ ap (λ (l : List Named). place_of (map path_in l) q) (sym c.in_ok-handed.ensures.given);
      numbers = λ q. c.in_ok-numbers.ensures q ∙ ap (λ l. place_of l q) (names_are u c.args.list.now c.requires.list);
      few = omega (arith, c.if-list-ge4294967296.false, size_is u c.args.list.now c.requires.list);
    }

pub run_known-requires-clause-apart : goal.run_known-requires-clause-apart
run_known-requires-clause-apart c = subst (λ (l : List Named). ArePathsApart l) (sym c.in_ok-handed.ensures.given) c.requires.apart

pub run_known-requires-clause-told : goal.run_known-requires-clause-told
run_known-requires-clause-told c = subst (λ (l : List Named). AreToldBy spelling l c.in_ok-handed.handed.tables.items) (sym c.in_ok-handed.ensures.given) c.in_ok-handed.ensures.told

pub returns : goal.returns
returns c = subst (λ (l : List Named). IsNeverText (unit_in c.args.p.now) (marks_in c.args.p.now) l c.in_ok-text.text.items) c.in_ok-handed.ensures.given c.in_ok-text.ensures
