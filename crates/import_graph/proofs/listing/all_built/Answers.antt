use Rattle.std.proofs.Common.{refl}
use Rattle.import_graph.proofs.PackageLemmas.{built-more}
use Rattle.import_graph.proofs.listing.all_built.Goals as goal

pub loop-k-preserved : goal.loop-k-preserved
loop-k-preserved c =
    built-more c.args.heads.now c.args.names.now c.args.drafts.now c.args.flags.now c.loop-k.k c.loop-k.packages.items c.push.new.self.items c.index-names-k.result c.as_str.result.now
    c.index-drafts-k.result c.in_ok-package.package _ c.loop-k.invariant c.loop-k-test.true c.requires.drafts c.index-names-k.is c.index-drafts-k.is c.as_str.ensures
    c.in_ok-package.ensures refl c.in_ok-push.ensures.items
