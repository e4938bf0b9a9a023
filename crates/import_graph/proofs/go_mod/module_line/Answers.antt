use Rattle.std.proofs.Common.{◌∙◌, sym}
use Rattle.import_graph.specs.Modules.{lines_of, module_line}
use Rattle.import_graph.proofs.ModuleLemmas.{module-here, module-on, module-end}
use Rattle.import_graph.proofs.go_mod.module_line.Goals as goal

pub returns-then-is_module_line : goal.returns-then-is_module_line
returns-then-is_module_line c =
    sym (module-here (module_line (lines_of c.args.bytes.now)) c.lines.rest.now c.until-line.result.now c.until-line.ensures (sym c.is_module_line.ensures ∙ c.if-is_module_line.true) c.lines.invariant)

pub returns-then-line-rest : goal.returns-then-line-rest
returns-then-line-rest c =
    sym (module-end (module_line (lines_of c.args.bytes.now)) c.lines.rest.now c.until-line.result.now c.until-line.ensures (sym c.is_module_line.ensures ∙ c.if-is_module_line.false) c.if-line-rest.true c.lines.invariant)

pub lines-preserved : goal.lines-preserved
lines-preserved c =
    module-on (module_line (lines_of c.args.bytes.now)) c.lines.rest.now c.until-line.result.now c.behind-rest.result.now c.until-line.ensures (sym c.is_module_line.ensures ∙ c.if-is_module_line.false) c.if-line-rest.false c.behind-rest.ensures c.lines.invariant
