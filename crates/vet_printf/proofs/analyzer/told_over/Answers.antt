use Rattle.std.proofs.Common.{List, Option, map, sym, ap, ◌∙◌, subst, arith}
use Rattle.std.specs.Global.{Vec}
use Rattle.go_tree.specs.Lexeme.{place_of}
use Rattle.fact_codec.specs.Kinds.{wraps_spelling}
use Rattle.handed_facts.specs.Handed.{Named, path_in, ArePathsApart, AreToldBy}
use Rattle.member_names.specs.declared.named.Named.{Named as Name}
use Rattle.findings.specs.Passes.{unit_in, marks_in}
use Rattle.own_functions.proofs.ListLemmas.{names_are, size_is}
use Rattle.vet_printf.specs.Handing.{AreCellRows}
use Rattle.vet_printf.specs.Wraps.{IsWrapsText, ArePrintfFindings}
use Rattle.vet_printf.proofs.analyzer.told_over.Goals as goal

pub told_known-requires-clause-known : goal.told_known-requires-clause-known
told_known-requires-clause-known c =
    let u = unit_in c.args.p.now in
    record {
      by_path = λ q. c.in_ok-handed.ensures.places q ∙ ap (λ (l : List Named). place_of (map path_in l) q) (sym c.in_ok-handed.ensures.given);
      numbers = λ q. c.in_ok-numbers.ensures q ∙ ap (λ l. place_of l q) (names_are u c.args.list.now c.requires.list);
      list = c.requires.list;
      few = omega (arith, c.if-list-ge4294967296.false, size_is u c.args.list.now c.requires.list);
      cells = subst (λ (l : List (Vec (Option Name))). AreCellRows u (marks_in c.args.p.now) l) (sym c.deref.ensures.value) c.in_ok-cells.ensures;
    }

pub told_known-requires-clause-apart : goal.told_known-requires-clause-apart
told_known-requires-clause-apart c = subst (λ (l : List Named). ArePathsApart l) (sym c.in_ok-handed.ensures.given) c.requires.apart

pub told_known-requires-clause-told : goal.told_known-requires-clause-told
told_known-requires-clause-told c = subst (λ (l : List Named). AreToldBy wraps_spelling l c.in_ok-handed.handed.tables.items) (sym c.in_ok-handed.ensures.given) c.in_ok-handed.ensures.told

pub returns-clause-found : goal.returns-clause-found
returns-clause-found c = subst (λ (l : List Named). ArePrintfFindings (unit_in c.args.p.now) (marks_in c.args.p.now) l c.in_ok-told.told.found.items) c.in_ok-handed.ensures.given c.in_ok-told.ensures.found

pub returns-clause-facts : goal.returns-clause-facts
returns-clause-facts c = subst (λ (l : List Named). IsWrapsText (unit_in c.args.p.now) (marks_in c.args.p.now) l c.in_ok-told.told.facts.items) c.in_ok-handed.ensures.given c.in_ok-told.ensures.facts
