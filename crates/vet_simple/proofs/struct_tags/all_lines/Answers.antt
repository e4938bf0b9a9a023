use Rattle.std.proofs.Common.{List, ℕ, map, subst}
use Rattle.gv_base.specs.Lines.{IsTableOf}
use Rattle.vet_simple.proofs.TagLemmas.{lines_none, lines_more}
use Rattle.vet_simple.proofs.struct_tags.all_lines.Goals as goal

pub loop-f-init : goal.loop-f-init
loop-f-init c = lines_none (map (λ t. t.now) c.args.texts.now) c.new-lines.result.items c.new-lines.ensures.items

pub loop-f-preserved : goal.loop-f-preserved
loop-f-preserved c =
    lines_more (map (λ t. t.now) c.args.texts.now) c.loop-f.f c.loop-f.lines.items c.push.new.self.items c.in_ok-table.table c.loop-f.invariant
    (subst (λ (bytes : List ℕ). IsTableOf bytes c.in_ok-table.table) c.text_at.ensures c.in_ok-table.ensures) c.in_ok-push.ensures.items
