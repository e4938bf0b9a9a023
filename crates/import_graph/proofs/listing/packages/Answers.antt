use Rattle.std.proofs.Common.{◌≡◌, ◌∙◌, ◌<◌, ap, sym, subst, length, map, true, false}
use Rattle.need_order.specs.Graphs.{IsClosed}
use Rattle.import_graph.specs.Modules.{module_path}
use Rattle.import_graph.specs.Packages.{home_of}
use Rattle.import_graph.specs.Tables.{source_paths, AreSorted, AreRows, AreDrafts, AreFlags, AreBuilt, imports_in}
use Rattle.import_graph.proofs.PackageLemmas.{few, few-drafts, few-packages, drafts-closed, are-packages}
use Rattle.import_graph.proofs.listing.packages.Goals as goal

pub rows-requires-clause-few : goal.rows-requires-clause-few
rows-requires-clause-few c = few c.in_ok-names.names.items c.deref-3.result.now c.in_ok-homes.homes.items c.deref.result.now c.deref-3.ensures.value c.deref.ensures.value c.in_ok-names.ensures.short c.in_ok-homes.ensures.few

pub rows-requires-clause-homes : goal.rows-requires-clause-homes
rows-requires-clause-homes c = subst (λ t. length t < 4294967296) (sym c.deref-2.ensures.value) c.in_ok-homes.ensures.few

pub rows-requires-2-clause-few : goal.rows-requires-2-clause-few
rows-requires-2-clause-few c = few c.in_ok-names.names.items c.deref-5.result.now c.in_ok-homes.homes.items c.deref.result.now c.deref-5.ensures.value c.deref.ensures.value c.in_ok-names.ensures.short c.in_ok-homes.ensures.few

pub rows-requires-2-clause-homes : goal.rows-requires-2-clause-homes
rows-requires-2-clause-homes c = subst (λ t. length t < 4294967296) (sym c.deref-4.ensures.value) c.in_ok-homes.ensures.few

pub drafts-requires-clause-few : goal.drafts-requires-clause-few
drafts-requires-clause-few c = few c.in_ok-names.names.items c.deref-6.result.now c.in_ok-homes.homes.items c.deref.result.now c.deref-6.ensures.value c.deref.ensures.value c.in_ok-names.ensures.short c.in_ok-homes.ensures.few

pub cycles-requires-clause-closed : goal.cycles-requires-clause-closed
cycles-requires-clause-closed c =
    subst (λ t. IsClosed (imports_in t)) (sym c.deref-9.ensures.value)
    (drafts-closed c.args.heads.now c.deref-6.result.now c.deref-7.result.now c.deref-8.result.now c.in_ok-drafts.drafts.items c.in_ok-drafts.ensures)

pub cycles-requires-clause-few : goal.cycles-requires-clause-few
cycles-requires-clause-few c =
    few-drafts c.in_ok-drafts.drafts.items c.deref-9.result.now c.deref-6.result.now c.deref-9.ensures.value c.in_ok-drafts.ensures.size
    (few c.in_ok-names.names.items c.deref-6.result.now c.in_ok-homes.homes.items c.deref.result.now c.deref-6.ensures.value c.deref.ensures.value c.in_ok-names.ensures.short c.in_ok-homes.ensures.few)

pub all_built-requires-clause-few : goal.all_built-requires-clause-few
all_built-requires-clause-few c = few c.in_ok-names.names.items c.deref-10.result.now c.in_ok-homes.homes.items c.deref.result.now c.deref-10.ensures.value c.deref.ensures.value c.in_ok-names.ensures.short c.in_ok-homes.ensures.few

pub returns-clause-few : goal.returns-clause-few
returns-clause-few c =
    few-packages c.in_ok-packages.packages.items c.deref-10.result.now c.in_ok-packages.ensures.size
    (few c.in_ok-names.names.items c.deref-10.result.now c.in_ok-homes.homes.items c.deref.result.now c.deref-10.ensures.value c.deref.ensures.value c.in_ok-names.ensures.short c.in_ok-homes.ensures.few)

pub returns-clause-packages : goal.returns-clause-packages
returns-clause-packages c =
    let tree = c.args.files.now in
    let homes = map (home_of (module_path tree)) tree in
    let names = c.in_ok-names.names.items in
    let are : c.in_ok-homes.homes.items ≡ homes = c.in_ok-homes.ensures.homes ∙ ap (λ r. map (home_of r) tree) c.module_path.ensures in
    are-packages tree c.args.heads.now names c.in_ok-modules.modules.items c.in_ok-stubs.stubs.items c.in_ok-drafts.drafts.items c.in_ok-flags.flags.items c.in_ok-packages.packages.items
    (subst (λ t. AreSorted (source_paths t) names) (c.deref.ensures.value ∙ are) c.in_ok-names.ensures.names)
    (subst (λ t. AreRows false t names c.in_ok-modules.modules.items) (c.deref-2.ensures.value ∙ are)
    (subst (λ t. AreRows false c.deref-2.result.now t c.in_ok-modules.modules.items) c.deref-3.ensures.value c.in_ok-modules.ensures))
    (subst (λ t. AreRows true t names c.in_ok-stubs.stubs.items) (c.deref-4.ensures.value ∙ are)
    (subst (λ t. AreRows true c.deref-4.result.now t c.in_ok-stubs.stubs.items) c.deref-5.ensures.value c.in_ok-stubs.ensures))
    (subst (λ t. AreDrafts c.args.heads.now t c.in_ok-modules.modules.items c.in_ok-stubs.stubs.items (length t) c.in_ok-drafts.drafts.items) c.deref-6.ensures.value
    (subst (λ t. AreDrafts c.args.heads.now c.deref-6.result.now t c.in_ok-stubs.stubs.items (length c.deref-6.result.now) c.in_ok-drafts.drafts.items) c.deref-7.ensures.value
    (subst (λ t. AreDrafts c.args.heads.now c.deref-6.result.now c.deref-7.result.now t (length c.deref-6.result.now) c.in_ok-drafts.drafts.items) c.deref-8.ensures.value
    c.in_ok-drafts.ensures)))
    (subst (λ t. AreFlags (imports_in t) c.in_ok-flags.flags.items) c.deref-9.ensures.value c.in_ok-flags.ensures)
    (subst (λ t. AreBuilt c.args.heads.now t c.in_ok-drafts.drafts.items c.in_ok-flags.flags.items (length t) c.in_ok-packages.packages.items) c.deref-10.ensures.value
    (subst (λ t. AreBuilt c.args.heads.now c.deref-10.result.now t c.in_ok-flags.flags.items (length c.deref-10.result.now) c.in_ok-packages.packages.items) c.deref-11.ensures.value
    (subst (λ t. AreBuilt c.args.heads.now c.deref-10.result.now c.deref-11.result.now t (length c.deref-10.result.now) c.in_ok-packages.packages.items) c.deref-12.ensures.value
    c.in_ok-packages.ensures)))
