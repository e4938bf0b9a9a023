use Rattle.std.proofs.Common.{List, ℕ, subst, sym}
use Rattle.gv_base.specs.Lines.{IsTableOf}
use Rattle.vet_simple.proofs.tag_texts.spot_text.Goals as goal

pub offset_text-requires : goal.offset_text-requires
offset_text-requires c = subst (λ (bytes : List ℕ). IsTableOf bytes c.in-Some.lines.now) (sym c.text_in.ensures) (c.requires.each c.args.file c.in-Some.lines.now (sym c.in-Some.ensures))
