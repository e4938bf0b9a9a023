use Rattle.std.proofs.Common.{Bool, List, get_or, not, ◌↔◌, IsTrue, sym, ap, ◌∙◌, subst}
use Rattle.body_rules.specs.declared.endings.Ending.{Ending}
use Rattle.body_rules.specs.declared.endings.Ending.TheVariants as e
use Rattle.body_rules.specs.Endings.{is_closed}
use Rattle.body_rules.specs.Given.{given}
use Rattle.body_rules.specs.Files.{IsUnfinished}
use Rattle.body_rules.proofs.FileLemmas.{unfinished_is}
use Rattle.body_rules.proofs.rules.is_unfinished.Goals as goal

pub returns-in-Some : goal.returns-in-Some
returns-in-Some c =
    subst (λ (b : Bool). IsTrue (not b) ↔ IsUnfinished (given c.args.v.now.file.now) c.args.n)
    (sym (c.is_closed.ensures ∙ (ap is_closed c.ending_at.ensures ∙ ap (λ (l : List Ending). is_closed (get_or l c.in-Some.b e.Open)) c.deref.ensures.value)))
    (unfinished_is (given c.args.v.now.file.now) c.args.n c.in-Some.b c.requires.endings.left c.args.v.now.endings.items (sym c.body_of.ensures ∙ c.in-Some.is) c.requires.endings.are_left c.requires.endings.same)
