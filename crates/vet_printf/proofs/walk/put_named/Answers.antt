use Rattle.std.proofs.Common.{◌<◌, ℕ, sym, ◌∙◌, subst, length}
use Rattle.findings.specs.Passes.{unit_in}
use Rattle.least.specs.Tables.{member}
use Rattle.own_functions.specs.Functions.{functions, number}
use Rattle.vet_printf.specs.Knowing.{handed_in}
use Rattle.vet_printf.specs.Wraps.{number_of}
use Rattle.vet_printf.proofs.KnownLemmas.{own_is}
use Rattle.vet_printf.proofs.walk.put_named.Goals as goal

pub put-requires-clause-flags : goal.put-requires-clause-flags
put-requires-clause-flags c = subst (λ (n : ℕ). c.args.i < n) (sym c.requires.sized.flags) c.requires.below

pub put-requires-clause-rows : goal.put-requires-clause-rows
put-requires-clause-rows c = subst (λ (n : ℕ). c.args.i < n) (sym c.requires.sized.rows) c.requires.below

pub returns : goal.returns
returns c lists were =
    let u = unit_in c.args.p.now in
    let kind = number_of c.args.kind in
    let path = c.args.x.now.path in
    let name = c.args.x.now.name in
    c.in_ok-put.ensures (length (functions u)) lists (handed_in c.args.known.now) (number kind u) (member path name kind) (sym c.is_given-given.ensures) (own_is kind u path name ∙ sym c.own_number-own.ensures) were
