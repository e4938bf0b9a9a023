use Rattle.std.proofs.Common.{ℕ, List, Option, length, refl, sym, subst}
use Rattle.body_rules.specs.declared.branches.Branch.TheVariants as w
use Rattle.body_rules.specs.Jumping.{AreNearest}
use Rattle.body_rules.specs.Latest.{AreLatest}
use Rattle.body_rules.proofs.view.view_of.Goals as goal

pub endings_in-requires-clause-breaks : goal.endings_in-requires-clause-breaks
endings_in-requires-clause-breaks c = subst (λ (found : List (Option ℕ)). AreNearest w.Break c.args.f.now.nodes.now found) (sym c.deref-7.ensures.value) c.in_ok-breaks.ensures

pub returns : goal.returns
returns c = (
  record {
    file = c.requires;
    parents = c.in_ok-parents.ensures;
    begins = c.in_ok-begins.ensures;
    blocks = c.in_ok-blocks.ensures;
    breaks = c.in_ok-breaks.ensures;
    continues = c.in_ok-continues.ensures;
    latest = λ n is.
        subst (λ (blocks : List (Option ℕ)). AreLatest c.args.f.now.nodes.now blocks (length c.args.f.now.nodes.now) c.in_ok-latest.latest.items) c.deref-4.ensures.value (c.in_ok-latest.ensures n is);
    endings = c.in_ok-endings.ensures;
    clause_ends = c.in_ok-clause_ends.ensures;
    read = c.in_ok-read.ensures;
  },
  refl,
)
