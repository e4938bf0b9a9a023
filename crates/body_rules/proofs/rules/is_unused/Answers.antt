use Rattle.std.proofs.Common.{Bool, List, not, ◌↔◌, IsTrue, sym, ap, ◌∙◌, subst, arith}
use Rattle.body_rules.specs.Endings.{flag_of}
use Rattle.body_rules.specs.Given.{given}
use Rattle.body_rules.specs.Files.{IsUnused}
use Rattle.body_rules.proofs.FileLemmas.{unused_is}
use Rattle.body_rules.proofs.rules.is_unused.Goals as goal

pub returns : goal.returns
returns c =
    subst (λ (b : Bool). IsTrue (not b) ↔ IsUnused (given c.args.v.now.file.now) c.args.n)
    (sym (c.flag_at-2.ensures ∙ ap (λ (l : List Bool). flag_of l c.args.n) c.deref.ensures.value))
    (unused_is (given c.args.v.now.file.now) c.args.n c.args.v.now.read.items c.requires.file.tree (let low = c.if-n-v.false in omega arith) (sym c.flag_at.ensures ∙ c.if-not-flag_at.false) c.requires.read)
