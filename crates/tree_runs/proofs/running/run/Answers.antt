use Rattle.std.proofs.Common.{refl, sum_by}
use Rattle.fact_cache.specs.CacheTexts.{cache_text}
use Rattle.tree_runs.proofs.PathLaws.{paths_of}
use Rattle.tree_runs.proofs.SpendLaws.{spends-told, spends-cut}
use Rattle.tree_runs.proofs.running.run.Goals as goal

pub returns-in_err-reply-clause-most : goal.returns-in_err-reply-clause-most
returns-in_err-reply-clause-most g c = λ honest.
    spends-cut c.args.files.now c.args.task c.args.cache.now c.report_on.new.cache (sum_by g.W.Kit.loads c.args.kits.now) (sum_by g.W.Kit.runs c.args.kits.now) (sum_by g.W.Kit.loads c.report_on.new.kits) (sum_by g.W.Kit.runs c.report_on.new.kits) (c.in_err-reply.ensures.cut_off honest)

pub returns-in_err-text-clause-most : goal.returns-in_err-text-clause-most
returns-in_err-text-clause-most g c = λ honest.
    spends-told c.one_report_of_a_tree.ensures.report c.args.files.now c.args.task c.args.cache.now c.report_on.new.cache c.in_ok-reply.reply _ _ _ _ (c.in_ok-reply.ensures.told honest) (c.in_ok-reply.ensures.loads honest) (c.in_ok-reply.ensures.runs honest)

pub returns-clause-most : goal.returns-clause-most
returns-clause-most g c = λ honest.
    spends-told c.one_report_of_a_tree.ensures.report c.args.files.now c.args.task c.args.cache.now c.report_on.new.cache c.in_ok-reply.reply _ _ _ _ (c.in_ok-reply.ensures.told honest) (c.in_ok-reply.ensures.loads honest) (c.in_ok-reply.ensures.runs honest)

pub returns-clause-paths : goal.returns-clause-paths
returns-clause-paths g c = paths_of c.args.files.now c.in_ok-reply.reply.changed c.in_ok-reply.ensures.changed c.requires.paths

pub returns-clause-text : goal.returns-clause-text
returns-clause-text g c = record { text = cache_text c.report_on.new.cache; spelled = (c.each_cache_has_a_text.ensures, refl) }

pub returns-clause-safe : goal.returns-clause-safe
returns-clause-safe g c = record {
  reply = c.in_ok-reply.reply;
  replies = c.in_ok-reply.ensures.safe;
  text = c.in_ok-text.ensures;
  found = c.is_found-found.ensures;
  counts = refl;
  changed = refl;
}

pub returns-clause-report : goal.returns-clause-report
returns-clause-report g c = λ honest. record {
  reply = c.in_ok-reply.reply;
  replies = c.in_ok-reply.ensures.told honest;
  text = c.in_ok-text.ensures;
  found = c.is_found-found.ensures;
  counts = refl;
  changed = refl;
}

pub returns-clause-exact : goal.returns-clause-exact
returns-clause-exact g c = λ honest. record { loads = c.in_ok-reply.ensures.loads honest; runs = c.in_ok-reply.ensures.runs honest }
