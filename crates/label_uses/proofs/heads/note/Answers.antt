use Rattle.std.proofs.Common.{ℕ, Option, refl, sym, subst}
use Rattle.label_uses.specs.Heads.{IsNoted}
use Rattle.label_uses.proofs.NameLemmas.{noted_none}
use Rattle.label_uses.proofs.heads.note.Goals as goal

pub returns-in-None : goal.returns-in-None
returns-in-None c = noted_none c.args.head c.args.h.now c.args.h.now refl c.in-None.is

pub returns-in-Some : goal.returns-in-Some
returns-in-Some c = subst (λ (o : Option ℕ). IsNoted o c.args.h.now c.note_at.new.h) (sym c.in-Some.is) c.note_at.ensures
