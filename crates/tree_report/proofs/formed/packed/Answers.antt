use Rattle.std.proofs.Common.{◌≤◌, arith, length, List, Option, subst}
use Rattle.go_tree.specs.declared.head.Head.{Head}
use Rattle.import_graph.specs.Packages.{ArePackages}
use Rattle.tree_report.specs.Limits.{limited_sizes}
use Rattle.tree_report.proofs.LimitLemmas.{many-told, short-told, within-told}
use Rattle.tree_report.proofs.ToldLemmas.{all_read, all_headed}
use Rattle.tree_report.proofs.formed.packed.Goals as goal

pub told_all-requires-clause-small : goal.told_all-requires-clause-small
told_all-requires-clause-small g c = λ κs _. short-told (limited_sizes c.args.files.now) c.requires.within

pub returns-then-len-gt-MOST_PACKAGES : goal.returns-then-len-gt-MOST_PACKAGES
returns-then-len-gt-MOST_PACKAGES g c =
    let tree = c.args.files.now in
    let told = c.in_ok-heads.ensures in
    many-told tree c.requires.within (record {
      verdicts = told.verdicts;
      heads = c.in_ok-heads.heads.items;
      packages = c.in_ok-packages.packages.items;
      read = all_read tree c.in_ok-heads.heads.items c.in_ok-heads.refusals.items told;
      headed = all_headed tree c.in_ok-heads.heads.items c.in_ok-heads.refusals.items told;
      packed = subst (λ (h : List (Option Head)). ArePackages tree h c.in_ok-packages.packages.items) c.deref.ensures.value c.in_ok-packages.ensures.packages;
      many = let more = c.if-len-gt-MOST_PACKAGES.true in let size = c.len.ensures in omega (arith, more, size);
    })

pub returns : goal.returns
returns g c =
    let tree = c.args.files.now in
    let told = c.in_ok-heads.ensures in
    let heads = c.in_ok-heads.heads.items in
    let refusals = c.in_ok-heads.refusals.items in
    let packages = c.in_ok-packages.packages.items in
    let packed : ArePackages tree heads packages = subst (λ (h : List (Option Head)). ArePackages tree h packages) c.deref.ensures.value c.in_ok-packages.ensures.packages in
    let few : length packages ≤ 1024 = (let low = c.if-len-gt-MOST_PACKAGES.false in let size = c.len.ensures in omega (arith, low, size)) in (
      told.verdicts,
      (
        record {
          within = within-told tree told.verdicts heads packages (all_read tree heads refusals told) (all_headed tree heads refusals told) packed c.requires.within few;
          read = all_read tree heads refusals told;
          headed = all_headed tree heads refusals told;
          packed = packed;
          few = few;
        },
        told.refusals_are,
      ),
    )
