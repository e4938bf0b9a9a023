use Rattle.std.proofs.Common.{ℕ, List, sym, subst}
use Rattle.need_order.specs.Graphs.{Leads}
use Rattle.import_graph.specs.Orders.{AreNumbered, SoundImports}
use Rattle.import_graph.specs.declared.pack.Package.{Package}
use Rattle.import_graph.proofs.LawLemmas.{numbered, acyclic}
use Rattle.tree_tests.proofs.import_graph_tests.lines.Goals as goal

pub order-requires-clause-numbered : goal.order-requires-clause-numbered
order-requires-clause-numbered c = subst AreNumbered (sym c.deref.ensures.value) (numbered c.args.files.now c.args.heads.now c.in_ok-packages.packages.items c.in_ok-packages.ensures.packages)

pub order-requires-clause-acyclic : goal.order-requires-clause-acyclic
order-requires-clause-acyclic c = subst (λ (p : List Package). (a : ℕ) → Leads (SoundImports p) a a → ⊥) (sym c.deref.ensures.value) (acyclic c.args.files.now c.args.heads.now c.in_ok-packages.packages.items c.in_ok-packages.ensures.packages)
