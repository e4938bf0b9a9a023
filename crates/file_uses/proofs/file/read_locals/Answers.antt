use Rattle.std.proofs.Common.{List, sym, ap, ◌∙◌, subst}
use Rattle.scopes.specs.Denotes.{IsLaid, HasNames}
use Rattle.scopes.specs.declared.visible.Declaration.{Declaration}
use Rattle.file_uses.proofs.FileLemmas.{spelled_formed, spelled_tops, spelled_laid, read}
use Rattle.file_uses.proofs.LocalLemmas.{by_number, laid_numbers, names_below}
use Rattle.file_uses.proofs.file.read_locals.Goals as goal

pub declared_names-requires-clause-formed : goal.declared_names-requires-clause-formed
declared_names-requires-clause-formed c = spelled_formed c.args.tree.now c.args.bytes.now c.requires.spelled

pub declared_names-requires-clause-tops : goal.declared_names-requires-clause-tops
declared_names-requires-clause-tops c = spelled_tops c.args.tree.now c.args.bytes.now c.requires.spelled

pub answers_of-requires-clause-laid : goal.answers_of-requires-clause-laid
answers_of-requires-clause-laid c =
    subst (λ (x : List Declaration). IsLaid x) (sym c.in_ok-firsts.ensures.declarations)
    (laid_numbers c.in_ok-numbers.numbers.of.items c.count_nodes.result c.in_ok-names.names.items
    (spelled_laid c.args.tree.now c.args.bytes.now c.in_ok-names.names.items c.requires.spelled c.in_ok-names.ensures))

pub answers_of-requires-clause-names : goal.answers_of-requires-clause-names
answers_of-requires-clause-names c =
    subst (λ (x : List Declaration). HasNames x c.in_ok-numbers.numbers.count) (sym c.in_ok-firsts.ensures.declarations)
    (names_below c.in_ok-numbers.numbers.of.items c.count_nodes.result c.in_ok-numbers.numbers.count c.in_ok-names.names.items c.in_ok-numbers.ensures.below)

pub returns : goal.returns
returns c =
    read c.args.bytes.now c.args.tree.now (record { names = c.in_ok-names.names; uses = c.in_ok-uses.uses; answers = c.in_ok-answers.answers })
    c.in_ok-numbers.numbers.of.items c.in_ok-numbers.numbers.count c.in_ok-firsts.firsts.declarations.items c.in_ok-firsts.firsts.first.items
    c.in_ok-numbers.ensures c.in_ok-names.ensures (c.in_ok-firsts.ensures.declarations ∙ ap (λ n. by_number c.in_ok-numbers.numbers.of.items n c.in_ok-names.names.items) c.count_nodes.ensures)
    c.in_ok-firsts.ensures.first c.in_ok-answers.ensures c.in_ok-uses.ensures
