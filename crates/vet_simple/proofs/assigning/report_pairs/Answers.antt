use Rattle.std.proofs.Common.{ℕ, List, Option, length, ◌++◌, sym, ap, ◌∙◌, arith}
use Rattle.fix_apply.specs.declared.edits.Fix.{Fix}
use Rattle.analysis_core.specs.declared.diagnostic.Diagnostic.{Diagnostic}
use Rattle.package_objects.specs.Declares.{items}
use Rattle.package_objects.proofs.GatherLemmas.{gather_on, gather_all}
use Rattle.unit_read.specs.Units.{nodes_at}
use Rattle.findings.specs.Passes.{unit_in, marks_in}
use Rattle.vet_simple.specs.Assigning.{nth_self, self_if}
use Rattle.vet_simple.proofs.PairLemmas.{next_fix}
use Rattle.vet_simple.proofs.assigning.report_pairs.Goals as goal

pub loop-i-preserved : goal.loop-i-preserved
loop-i-preserved c =
    let u = unit_in c.args.p.now in
    let f = c.args.s.file in
    let xs = items (nodes_at u f) c.args.s.left in
    let ys = items (nodes_at u f) c.args.s.right in (
      gather_on (nth_self u (marks_in c.args.p.now) f xs ys c.args.fix) c.loop-i.i c.args.found.now.items c.loop-i.found.items c.report_nth.new.found.items c.loop-i.invariant.0
          (c.in_ok-report_nth.ensures ∙ ap (λ (o : Option Fix). c.loop-i.found.items ++ self_if u (marks_in c.args.p.now) f xs ys o c.loop-i.i) (c.take-own.ensures.value ∙ c.loop-i.invariant.1)),
      c.take-own.ensures.after ∙ sym (next_fix c.args.fix c.loop-i.i),
    )

pub returns : goal.returns
returns c =
    let u = unit_in c.args.p.now in
    let f = c.args.s.file in
    let xs = items (nodes_at u f) c.args.s.left in
    let ys = items (nodes_at u f) c.args.s.right in
    gather_all (nth_self u (marks_in c.args.p.now) f xs ys c.args.fix) c.loop-i.i (length xs) c.args.found.now.items c.loop-i.found.items (omega arith) (omega arith) c.loop-i.invariant.0
