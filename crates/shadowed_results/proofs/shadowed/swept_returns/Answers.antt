use Rattle.std.proofs.Common.{◌≡◌, ◌+◌, ◌<◌, ℕ, Bool, List, Option, length, map, sym, ap, ◌∙◌, subst}
use Rattle.go_tree.specs.declared.tree.Node.{Node}
use Rattle.go_tree.specs.Kinds.{is_function}
use Rattle.node_values.specs.Parents.{AreParents}
use Rattle.node_values.specs.Trees.{IsTree, AreInnermost}
use Rattle.scopes.specs.declared.scope.Named.{Named}
use Rattle.scopes.specs.declared.visible.Declaration.{Declaration}
use Rattle.scopes.specs.Denotes.{IsLaid, HasNames}
use Rattle.file_uses.specs.Locals.{AreAnsweredBy}
use Rattle.file_uses.specs.Numbers.{number}
use Rattle.file_uses.proofs.FileLemmas.{spelled_formed, spelled_tops, spelled_laid, names_are}
use Rattle.shadowed_results.specs.declared.results.Stage.{Stage}
use Rattle.shadowed_results.specs.Stages.{AreStages}
use Rattle.shadowed_results.specs.Tables.{found, result_name, AreKept, of_nodes}
use Rattle.shadowed_results.specs.InCode.{turned, or_total, is_flagged, AreValues}
use Rattle.shadowed_results.proofs.ShadowLemmas.{function_is, function_low, turned_laid, turned_below}
use Rattle.shadowed_results.proofs.ReturnLemmas.{number_low, all_flagged}
use Rattle.shadowed_results.proofs.shadowed.swept_returns.Goals as goal

pub functions_of-requires-clause-tree : goal.functions_of-requires-clause-tree
functions_of-requires-clause-tree c = subst (λ (l : List Node). IsTree l) (sym c.as_slice-nodes.ensures) c.spelled_nodes.ensures.tree

pub functions_of-requires-clause-parents : goal.functions_of-requires-clause-parents
functions_of-requires-clause-parents c =
    subst (λ (l : List Node). AreParents l (length l) c.deref.result.now) (sym c.as_slice-nodes.ensures)
    (subst (λ (p : List ℕ). AreParents c.args.tree.now.nodes (length c.args.tree.now.nodes) p) (sym c.deref.ensures.value) c.in_ok-parents.ensures)

pub stages_of-requires-clause-tree : goal.stages_of-requires-clause-tree
stages_of-requires-clause-tree c = subst (λ (l : List Node). IsTree l) (sym c.as_slice-nodes.ensures) c.spelled_nodes.ensures.tree

pub stages_of-requires-clause-parents : goal.stages_of-requires-clause-parents
stages_of-requires-clause-parents c =
    subst (λ (l : List Node). AreParents l (length l) c.deref-2.result.now) (sym c.as_slice-nodes.ensures)
    (subst (λ (p : List ℕ). AreParents c.args.tree.now.nodes (length c.args.tree.now.nodes) p) (sym c.deref-2.ensures.value) c.in_ok-parents.ensures)

pub declared_names-requires-clause-formed : goal.declared_names-requires-clause-formed
declared_names-requires-clause-formed c = spelled_formed c.args.tree.now c.args.bytes.now c.requires.spelled

pub declared_names-requires-clause-tops : goal.declared_names-requires-clause-tops
declared_names-requires-clause-tops c = spelled_tops c.args.tree.now c.args.bytes.now c.requires.spelled

pub answers_of-requires-clause-laid : goal.answers_of-requires-clause-laid
answers_of-requires-clause-laid c =
    subst (λ (l : List Declaration). IsLaid l) (sym (c.deref-8.ensures.value ∙ (c.in_ok-declarations.ensures
    ∙ ap (λ (l : List Named). map (turned c.args.bytes.now c.args.tree.now (found c.in_ok-table.table) c.deref-5.result.now) l) c.deref-6.ensures.value)))
    (turned_laid c.args.bytes.now c.args.tree.now (found c.in_ok-table.table) c.deref-5.result.now c.in_ok-names.names.items
    (spelled_laid c.args.tree.now c.args.bytes.now c.in_ok-names.names.items c.requires.spelled c.in_ok-names.ensures))

pub answers_of-requires-clause-names : goal.answers_of-requires-clause-names
answers_of-requires-clause-names c =
    subst (λ (l : List Declaration). HasNames l (c.count_nodes-total.result + 1)) (sym (c.deref-8.ensures.value ∙ (c.in_ok-declarations.ensures
    ∙ ap (λ (l : List (Option ℕ)). map (turned c.args.bytes.now c.args.tree.now (found c.in_ok-table.table) l) c.deref-6.result.now) c.deref-5.ensures.value)))
    (subst (λ (n : ℕ). HasNames (map (turned c.args.bytes.now c.args.tree.now (found c.in_ok-table.table) c.in_ok-functions.functions.items) c.deref-6.result.now) (n + 1)) (sym c.count_nodes-total.ensures)
    (turned_below c.args.bytes.now c.args.tree.now c.spelled_nodes.ensures.tree c.in_ok-functions.functions.items
    (subst (λ (l : List Node). AreInnermost is_function l c.in_ok-functions.functions.items) c.as_slice-nodes.ensures c.in_ok-functions.ensures) (found c.in_ok-table.table) c.deref-6.result.now))

pub answers_of-requires-clause-below : goal.answers_of-requires-clause-below
answers_of-requires-clause-below c = λ k.
    let are = subst (λ (l : List Node). AreInnermost is_function l c.in_ok-functions.functions.items) c.as_slice-nodes.ensures c.in_ok-functions.ensures in
    let tree = c.args.tree.now in
    subst (λ (l : List ℕ). number l k < c.count_nodes-total.result + 1) (sym (c.deref-9.ensures.value ∙ (c.in_ok-numbers.ensures ∙ ap (λ (l : List (Option ℕ)). map (or_total c.count_nodes-total.result) l) c.deref-7.ensures.value)))
    (subst (λ (n : ℕ). number (map (or_total n) c.in_ok-functions.functions.items) k < n + 1) (sym c.count_nodes-total.ensures)
    (number_low (length tree.nodes) c.in_ok-functions.functions.items
    (λ n f e. function_low c.args.bytes.now tree c.spelled_nodes.ensures.tree c.in_ok-functions.functions.items are n f (function_is c.args.bytes.now tree c.spelled_nodes.ensures.tree c.in_ok-functions.functions.items are n f e)) k))

pub returns : goal.returns
returns c =
    let bytes = c.args.bytes.now in
    let tree = c.args.tree.now in
    let functions = c.in_ok-functions.functions.items in
    let stages = c.in_ok-stages.stages.items in
    let names = c.in_ok-names.names.items in
    let kept = found c.in_ok-table.table in
    all_flagged bytes tree c.spelled_nodes.ensures.tree functions
    (subst (λ (l : List Node). AreInnermost is_function l functions) c.as_slice-nodes.ensures c.in_ok-functions.ensures)
    stages (subst (λ (l : List Node). AreStages l stages) c.as_slice-nodes.ensures c.in_ok-stages.ensures)
    kept
    (subst (λ (l : List Stage). AreKept (result_name bytes tree l) (of_nodes functions) (length tree.nodes) kept) c.deref-3.ensures.value
    (subst (λ (l : List (Option ℕ)). AreKept (result_name bytes tree c.deref-3.result.now) (of_nodes l) (length tree.nodes) kept) c.deref-4.ensures.value c.in_ok-table.ensures))
    c.requires.spelled.forest c.requires.spelled.arena names (λ g arena. names_are tree g names arena c.in_ok-names.ensures)
    (spelled_laid tree bytes names c.requires.spelled c.in_ok-names.ensures)
    c.in_ok-numbers.numbers.items
    (c.in_ok-numbers.ensures ∙ (ap (λ (l : List (Option ℕ)). map (or_total c.count_nodes-total.result) l) c.deref-7.ensures.value ∙ ap (λ n. map (or_total n) functions) c.count_nodes-total.ensures))
    c.in_ok-answers.answers.items
    (subst (λ (l : List Declaration). AreAnsweredBy l c.in_ok-numbers.numbers.items c.in_ok-answers.answers.items)
    (c.deref-8.ensures.value ∙ (c.in_ok-declarations.ensures
    ∙ (ap (λ (l : List Named). map (turned bytes tree kept c.deref-5.result.now) l) c.deref-6.ensures.value ∙ ap (λ (l : List (Option ℕ)). map (turned bytes tree kept l) names) c.deref-5.ensures.value)))
    (subst (λ (l : List ℕ). AreAnsweredBy c.deref-8.result.now l c.in_ok-answers.answers.items) c.deref-9.ensures.value c.in_ok-answers.ensures))
    c.in_ok-flags.flags.items
    (subst (λ (l : List (Option ℕ)). AreValues (is_flagged tree l) (length tree.nodes) c.in_ok-flags.flags.items) c.deref-10.ensures.value c.in_ok-flags.ensures)
