use Rattle.std.proofs.Common.{ℕ, Bool, List, Option, None, length, get_or, ◌<◌, ◌≤◌, ◌^◌, refl, sym, ap, ◌∙◌, subst}
use Rattle.go_tree.specs.declared.tree.Node.{Node}
use Rattle.node_values.specs.Ranges.{IsTiled}
use Rattle.node_values.specs.Trees.{IsTree}
use Rattle.label_uses.specs.Labels.{IsRepeated}
use Rattle.shadowed_results.specs.Shadows.{AreShadowed}
use Rattle.unit_read.specs.Subjects.{unit_of, cell}
use Rattle.body_facts.specs.LabelTables.{AreDenoted, AreFlagsOf, IsIdle}
use Rattle.body_facts.specs.NameTables.{AreValues, meant_at, ArePanics, AreVariables}
use Rattle.body_facts.proofs.ValueLemmas.{denoted_low}
use Rattle.body_facts.proofs.facts.file_of.Goals as goal

pub returns-clause-known : goal.returns-clause-known
returns-clause-known c = record {
  few = subst (λ (l : List Node). length l ≤ 2 ^ 32) (sym c.as_slice.ensures) c.requires.few;
  tree = subst (λ (l : List Node). IsTree l) (sym c.as_slice.ensures) c.spelled_nodes.ensures.tree;
  tiled = subst (λ (l : List Node). IsTiled l) (sym c.as_slice.ensures) c.spelled_nodes.ensures.tiled;
  labels = λ m l e. subst (λ (x : List Node). l < length x) (sym c.as_slice.ensures)
      (denoted_low c.args.bytes.now c.args.tree.now c.args.facts.now.labels.items c.spelled_nodes.ensures.tree c.requires.facts.labels m l
      (ap (λ (x : List (Option ℕ)). get_or x m None) (sym c.deref.ensures.value) ∙ e));
}

pub returns-clause-same : goal.returns-clause-same
returns-clause-same c =
    let u = unit_of c.args.u.now in
    let bytes = c.args.bytes.now in
    let tree = c.args.tree.now in
    record {
      number_is = refl;
      nodes = c.as_slice.ensures;
      tokens = c.as_slice-2.ensures;
      labels = subst (λ (l : List (Option ℕ)). AreDenoted bytes tree l) (sym c.deref.ensures.value) c.requires.facts.labels;
      repeated = subst (λ (l : List Bool). AreFlagsOf (IsRepeated bytes tree) (length tree.nodes) l) (sym c.deref-2.ensures.value) c.requires.facts.repeated;
      unused = subst (λ (l : List Bool). AreFlagsOf (IsIdle bytes tree) (length tree.nodes) l) (sym c.deref-3.ensures.value) c.requires.facts.unused;
      shadowed = subst (λ (l : List Bool). AreShadowed bytes tree l) (sym c.deref-7.ensures.value) c.requires.facts.shadowed;
      panics = subst (λ (l : List Bool). ArePanics u c.args.number tree.nodes l) (sym c.deref-4.ensures.value) c.requires.facts.panics;
      variables = subst (λ (l : List Bool). AreVariables u c.args.number tree.nodes l) (sym c.deref-5.ensures.value) c.requires.facts.variables;
      meant = subst (λ (l : List (Option ℕ)). AreValues (meant_at (cell c.args.meant.now.items) c.args.number) None (length tree.nodes) l) (sym c.deref-6.ensures.value) c.requires.facts.meant;
    }
