use Rattle.std.proofs.Common.{arith, sym, ◌∙◌}
use Rattle.package_needs.proofs.GroupLemmas.{method_gained, number_low, no_number}
use Rattle.package_needs.proofs.groups.add_method.Goals as goal

pub push_at-requires : goal.push_at-requires
push_at-requires c = let h = number_low c.args.view.now.entries.items c.args.view.now.numbers c.args.method.of c.in-Some.n c.requires.named (sym c.number_of.ensures ∙ c.in-Some.is) in let s = c.requires.size in omega arith

pub returns : goal.returns
returns c = method_gained c.args.view.now.entries.items c.args.view.now.numbers c.args.groups.now.items c.push_at.new.groups.items c.args.method c.in-Some.n
    c.requires.named (sym c.number_of.ensures ∙ c.in-Some.is) c.in_ok-push_at-in-Some.ensures

pub unreachable-requires : goal.unreachable-requires
unreachable-requires c =
    no_number c.args.view.now.entries.items c.args.view.now.numbers c.args.method.of c.requires.known.0 c.requires.known.1 (sym c.number_of.ensures ∙ c.in-None.is)
