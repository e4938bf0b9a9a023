use Rattle.std.proofs.Common.{option_map, sym, ap, ◌∙◌}
use Rattle.bind.specs.Package.{top_name, ref}
use Rattle.bind.proofs.StepLemmas.{push_listed, none_listed, ref_narrow}
use Rattle.bind.proofs.tops.push_top.Goals as goal

pub returns-in_ok-push-in-Some : goal.returns-in_ok-push-in-Some
returns-in_ok-push-in-Some c =
    push_listed c.args.out.now.items _ _ (top_name c.args.file.now c.args.named) (ref c.args.number c.args.named.node) c.in_ok-push-in-Some.ensures.items
    (sym c.top_name.ensures ∙ ap (λ o. option_map (λ n. n.now) o) c.in-Some.is) (ref_narrow c.args.number c.args.named.node c.narrow.result c.narrow.ensures)

pub returns-in-None : goal.returns-in-None
returns-in-None c =
    none_listed c.args.out.now.items (top_name c.args.file.now c.args.named) (ref c.args.number c.args.named.node) (sym c.top_name.ensures ∙ ap (λ o. option_map (λ n. n.now) o) c.in-None.is)
