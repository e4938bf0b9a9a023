use Rattle.std.proofs.Common.{Bool, List, not, ◌↔◌, IsTrue, sym, ap, ◌∙◌, subst}
use Rattle.body_rules.specs.Endings.{flag_of}
use Rattle.body_rules.specs.Given.{given}
use Rattle.body_rules.specs.Files.{IsMisplacedFall}
use Rattle.body_rules.proofs.FileLemmas.{misplaced_is}
use Rattle.body_rules.proofs.KindLemmas.{fall_there}
use Rattle.body_rules.proofs.rules.is_misplaced.Goals as goal

pub returns : goal.returns
returns c =
    subst (λ (b : Bool). IsTrue (not b) ↔ IsMisplacedFall (given c.args.v.now.file.now) c.args.n)
    (sym (c.flag_at.ensures ∙ ap (λ (l : List Bool). flag_of l c.args.n) c.deref.ensures.value))
    (misplaced_is (given c.args.v.now.file.now) c.args.n c.args.v.now.clause_ends.items c.requires.file.tree (sym c.falls_at.ensures ∙ c.if-not-falls_at.false) (c.requires.clause_ends c.args.n (fall_there (given c.args.v.now.file.now) c.args.n (sym c.falls_at.ensures ∙ c.if-not-falls_at.false))))
