use Rattle.std.proofs.Common.{List, length, sym, ap, subst, arith}
use Rattle.bind.specs.Answers.{AreRead}
use Rattle.bind.specs.Undeclared.{AreUndeclared}
use Rattle.bind.specs.declared.file.File.{File}
use Rattle.bind.proofs.unknown.undeclared.Goals as goal

pub rows_read-requires : goal.rows_read-requires
rows_read-requires c = omega (arith, c.requires.few, c.in_ok-read.ensures.count, ap length c.deref.ensures.value)

pub returns : goal.returns
returns c = λ p same files. c.in_ok-rows.ensures p same (subst (λ (l : List File). AreRead l p.files) (sym c.deref.ensures.value) (c.in_ok-read.ensures.read p.files files))
