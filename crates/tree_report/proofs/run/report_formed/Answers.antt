use Rattle.std.proofs.Common.{All, map, sum_by, sym, ap, ◌∙◌, subst}
use Rattle.report_text.specs.Standing.{StandsIn}
use Rattle.gv_driver.specs.Standing.{AreFoundIn, AreVerdictsIn}
use Rattle.gv_driver.specs.Tallies.{tally}
use Rattle.gv_driver.proofs.GrownLaws.{grown-not}
use Rattle.gv_driver.specs.Trees.{IsTree}
use Rattle.analysis_core.specs.declared.reply.Counts.{Counts}
use Rattle.fact_lines.specs.Lines.{all_facts}
use Rattle.tree_findings.specs.Lines.{all_lines}
use Rattle.tree_findings.specs.Telling.{chosen_by}
use Rattle.tree_findings.proofs.ToldLemmas.{told-files, told-found, told-stands}
use Rattle.tree_report.specs.Reports.{texts_of}
use Rattle.tree_report.proofs.TreeLemmas.{is-tree, paths-rise}
use Rattle.tree_report.proofs.StandLemmas.{error-lines-stand, found-lines-fit, found-lines-stand}
use Rattle.gv_driver.specs.Runs.{IsCutOff, Ran}
use Rattle.tree_report.proofs.RefusalLemmas.{told_same}
use Rattle.tree_report.proofs.StopLemmas.{on_any_err, stopped, stopped-after}
use Rattle.tree_report.proofs.run.report_formed.Goals as goal

pub run-requires-clause-tree : goal.run-requires-clause-tree
run-requires-clause-tree g c = λ κs _.
    subst IsTree (sym (c.deref-2.ensures.value ∙ (c.in_ok-tree.ensures ∙ ap (map (texts_of c.args.files.now)) c.deref.ensures.value)))
    (is-tree c.args.files.now c.requires.form.0 c.args.formed.now.heads.items c.args.formed.now.packages.items c.files_are_in_order.ensures.ordered c.requires.form.1.0)

pub reply_of-requires-clause-order : goal.reply_of-requires-clause-order
reply_of-requires-clause-order g c = paths-rise c.args.files.now c.args.formed.now.heads.items c.args.formed.now.packages.items c.requires.form.1.0.packed

pub reply_of-requires-clause-fit : goal.reply_of-requires-clause-fit
reply_of-requires-clause-fit g c = found-lines-fit c.args.files.now c.args.formed.now.packages.items c.in_ok-ran.ran.found (subst (λ l. AreFoundIn l c.in_ok-ran.ran.found) (c.deref-2.ensures.value ∙ (c.in_ok-tree.ensures ∙ ap (map (texts_of c.args.files.now)) c.deref.ensures.value)) c.in_ok-ran.ensures.found)

pub returns-in_err-tree-clause-least : goal.returns-in_err-tree-clause-least
returns-in_err-tree-clause-least g c = grown-not g.K.Kit.loads g.K.Kit.runs c.args.kits.now

pub returns-in_err-trees-clause-least : goal.returns-in_err-trees-clause-least
returns-in_err-trees-clause-least g c = grown-not g.K.Kit.loads g.K.Kit.runs c.args.kits.now

pub returns-in_err-ran-clause-cut_off : goal.returns-in_err-ran-clause-cut_off
returns-in_err-ran-clause-cut_off g c = λ honest.
    let h = stopped c.args.options.command c.args.options.only c.args.files.now c.requires.form.0 c.args.formed.now.heads.items c.args.formed.now.packages.items c.deref-2.result.now c.args.cache.now c.run.new.cache (tally (sum_by g.K.Kit.loads c.args.kits.now) (sum_by g.K.Kit.runs c.args.kits.now)) (tally (sum_by g.K.Kit.loads c.run.new.kits) (sum_by g.K.Kit.runs c.run.new.kits)) c.requires.form.1.0
    (c.deref-2.ensures.value ∙ (c.in_ok-tree.ensures ∙ ap (map (texts_of c.args.files.now)) c.deref.ensures.value)) (subst (λ k. IsCutOff c.deref-2.result.now k c.args.cache.now c.run.new.cache (tally (sum_by g.K.Kit.loads c.args.kits.now) (sum_by g.K.Kit.runs c.args.kits.now)) (tally (sum_by g.K.Kit.loads c.run.new.kits) (sum_by g.K.Kit.runs c.run.new.kits))) c.chosen_by.ensures (c.in_err-ran.ensures.cut_off honest)) in
    on_any_err c.from_residual-in_err-ran.result h

pub returns-in_err-reply-clause-cut_off : goal.returns-in_err-reply-clause-cut_off
returns-in_err-reply-clause-cut_off g c = λ honest.
    let h = stopped-after c.args.options.command c.args.options.only c.args.files.now c.requires.form.0 c.args.formed.now.heads.items c.args.formed.now.packages.items c.deref-2.result.now c.args.cache.now c.run.new.cache (tally (sum_by g.K.Kit.loads c.args.kits.now) (sum_by g.K.Kit.runs c.args.kits.now)) (tally (sum_by g.K.Kit.loads c.run.new.kits) (sum_by g.K.Kit.runs c.run.new.kits)) c.in_ok-ran.ran c.requires.form.1.0
    (c.deref-2.ensures.value ∙ (c.in_ok-tree.ensures ∙ ap (map (texts_of c.args.files.now)) c.deref.ensures.value)) (subst (λ k. Ran c.deref-2.result.now k c.args.cache.now c.run.new.cache (tally (sum_by g.K.Kit.loads c.args.kits.now) (sum_by g.K.Kit.runs c.args.kits.now)) (tally (sum_by g.K.Kit.loads c.run.new.kits) (sum_by g.K.Kit.runs c.run.new.kits)) c.in_ok-ran.ran) c.chosen_by.ensures (c.in_ok-ran.ensures.ran honest)) in
    on_any_err c.from_residual-in_err-reply.result h

pub returns-clause-stands : goal.returns-clause-stands
returns-clause-stands g c =
    told-stands c.args.options.command c.args.files.now (all_lines c.args.formed.now.packages.items c.in_ok-ran.ran.found) (all_facts c.args.formed.now.packages.items c.in_ok-ran.ran.facts) c.in_ok-reply.reply c.in_ok-reply.ensures.told
    (subst (All (StandsIn c.args.files.now)) (sym (c.in_ok-reply.ensures.errors ∙ told_same c.args.formed.now.heads.items c.requires.form.0 c.args.formed.now.packages.items c.in_ok-ran.ran.verdicts c.args.formed.now.refusals.items c.requires.form.1.1))
    (error-lines-stand c.args.files.now c.requires.form.0 c.args.formed.now.heads.items c.args.formed.now.packages.items c.in_ok-ran.ran.verdicts c.requires.form.1.0 (subst (λ l. AreVerdictsIn l c.in_ok-ran.ran.verdicts) (c.deref-2.ensures.value ∙ (c.in_ok-tree.ensures ∙ ap (map (texts_of c.args.files.now)) c.deref.ensures.value)) c.in_ok-ran.ensures.stand)))
    (found-lines-stand c.args.files.now c.requires.form.0 c.args.formed.now.heads.items c.args.formed.now.packages.items c.in_ok-ran.ran.found c.requires.form.1.0 (subst (λ l. AreFoundIn l c.in_ok-ran.ran.found) (c.deref-2.ensures.value ∙ (c.in_ok-tree.ensures ∙ ap (map (texts_of c.args.files.now)) c.deref.ensures.value)) c.in_ok-ran.ensures.found))

pub returns-clause-changed : goal.returns-clause-changed
returns-clause-changed g c = told-files c.args.options.command c.args.files.now (all_lines c.args.formed.now.packages.items c.in_ok-ran.ran.found) (all_facts c.args.formed.now.packages.items c.in_ok-ran.ran.facts) c.in_ok-reply.reply c.in_ok-reply.ensures.told

pub returns-clause-safe : goal.returns-clause-safe
returns-clause-safe g c = record {
  verdicts = c.requires.form.0;
  heads = c.args.formed.now.heads.items;
  packages = c.args.formed.now.packages.items;
  form = c.requires.form.1.0;
  findings = c.in_ok-ran.ran.found;
  facts = c.in_ok-ran.ran.facts;
  told = c.in_ok-reply.ensures.told;
  size = c.in_ok-reply.ensures.size;
  stand = (subst (All (StandsIn c.args.files.now)) (sym (c.in_ok-reply.ensures.errors ∙ told_same c.args.formed.now.heads.items c.requires.form.0 c.args.formed.now.packages.items c.in_ok-ran.ran.verdicts c.args.formed.now.refusals.items c.requires.form.1.1))
      (error-lines-stand c.args.files.now c.requires.form.0 c.args.formed.now.heads.items c.args.formed.now.packages.items c.in_ok-ran.ran.verdicts c.requires.form.1.0 (subst (λ l. AreVerdictsIn l c.in_ok-ran.ran.verdicts) (c.deref-2.ensures.value ∙ (c.in_ok-tree.ensures ∙ ap (map (texts_of c.args.files.now)) c.deref.ensures.value)) c.in_ok-ran.ensures.stand)));
  found_stand = told-found c.args.options.command c.args.files.now (all_lines c.args.formed.now.packages.items c.in_ok-ran.ran.found) (all_facts c.args.formed.now.packages.items c.in_ok-ran.ran.facts) c.in_ok-reply.reply c.in_ok-reply.ensures.told (found-lines-stand c.args.files.now c.requires.form.0 c.args.formed.now.heads.items c.args.formed.now.packages.items c.in_ok-ran.ran.found c.requires.form.1.0 (subst (λ l. AreFoundIn l c.in_ok-ran.ran.found) (c.deref-2.ensures.value ∙ (c.in_ok-tree.ensures ∙ ap (map (texts_of c.args.files.now)) c.deref.ensures.value)) c.in_ok-ran.ensures.found));
}

pub returns-clause-told : goal.returns-clause-told
returns-clause-told g c = λ honest.
    let ran = subst (λ l. Ran l (chosen_by c.args.options.command c.args.options.only) c.args.cache.now c.run.new.cache (tally (sum_by g.K.Kit.loads c.args.kits.now) (sum_by g.K.Kit.runs c.args.kits.now)) (tally (sum_by g.K.Kit.loads c.run.new.kits) (sum_by g.K.Kit.runs c.run.new.kits)) c.in_ok-ran.ran)
    (c.deref-2.ensures.value ∙ (c.in_ok-tree.ensures ∙ ap (map (texts_of c.args.files.now)) c.deref.ensures.value)) (subst (λ k. Ran c.deref-2.result.now k c.args.cache.now c.run.new.cache (tally (sum_by g.K.Kit.loads c.args.kits.now) (sum_by g.K.Kit.runs c.args.kits.now)) (tally (sum_by g.K.Kit.loads c.run.new.kits) (sum_by g.K.Kit.runs c.run.new.kits)) c.in_ok-ran.ran) c.chosen_by.ensures (c.in_ok-ran.ensures.ran honest)) in
    record {
      verdicts = c.requires.form.0;
      heads = c.args.formed.now.heads.items;
      packages = c.args.formed.now.packages.items;
      form = c.requires.form.1.0;
      outcomes = c.in_ok-ran.ran.verdicts;
      outcome = ran.report;
      findings = c.in_ok-ran.ran.found;
      finds = ran.found;
      facts = c.in_ok-ran.ran.facts;
      given = ran.facts;
      plan = ran.plan;
      is_plan = ran.is_plan;
      cache = ran.cache;
      told = c.in_ok-reply.ensures.told;
      size = c.in_ok-reply.ensures.size;
      errors = c.in_ok-reply.ensures.errors ∙ told_same c.args.formed.now.heads.items c.requires.form.0 c.args.formed.now.packages.items c.in_ok-ran.ran.verdicts c.args.formed.now.refusals.items c.requires.form.1.1;
      nodes = ap (λ (n : Counts). n.nodes) c.in_ok-reply.ensures.counts ∙ ran.nodes;
      missing = ap (λ (n : Counts). n.missing) c.in_ok-reply.ensures.counts ∙ ran.missing;
      loads = ap (λ (n : Counts). n.loads) c.in_ok-reply.ensures.counts ∙ ran.loads;
      runs = ap (λ (n : Counts). n.runs) c.in_ok-reply.ensures.counts ∙ ran.runs;
    }
