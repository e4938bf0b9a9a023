use Rattle.std.proofs.Common.{◌-◌, List, Some, None, if◌then◌else◌, sym, ap, ◌∙◌, arith}
use Rattle.go_tree.specs.declared.tree.Node.{Node}
use Rattle.package_objects.specs.Declares.{kind_at}
use Rattle.findings.specs.Passes.{unit_in}
use Rattle.vet_printf.specs.Forwards.{is_literal, above_from}
use Rattle.vet_printf.proofs.StandLemmas.{above_some, above_none}
use Rattle.vet_printf.proofs.standing.+above_from.Goals as goal

pub returns-then-is_declaration : goal.returns-then-is_declaration
returns-then-is_declaration t c =
    let u = unit_in c.args.p.now in
    let f = c.args.file in
    let a = c.in-Some.place.around in
    let kind = c.kind_of-kind.result in
    let further = above_from u f (c.args.most - 1) in
    let step = above_some u f c.args.most c.args.n c.in-Some.place kind (omega (arith, c.if-most-eq0.false)) (sym c.place_at.ensures ∙ c.in-Some.is) (c.kind_of-kind.ensures ∙ ap (λ (l : List Node). kind_at l a) c.nodes_at.ensures) in
    sym (step ∙ ap (λ b. if b then Some a else (if is_literal kind then None else further a)) (sym c.is_declaration.ensures ∙ c.if-is_declaration.true))

pub returns-then-is_literal : goal.returns-then-is_literal
returns-then-is_literal t c =
    let u = unit_in c.args.p.now in
    let f = c.args.file in
    let a = c.in-Some.place.around in
    let kind = c.kind_of-kind.result in
    let further = above_from u f (c.args.most - 1) in
    let step = above_some u f c.args.most c.args.n c.in-Some.place kind (omega (arith, c.if-most-eq0.false)) (sym c.place_at.ensures ∙ c.in-Some.is) (c.kind_of-kind.ensures ∙ ap (λ (l : List Node). kind_at l a) c.nodes_at.ensures) in
    sym (step ∙ (ap (λ b. if b then Some a else (if is_literal kind then None else further a)) (sym c.is_declaration.ensures ∙ c.if-is_declaration.false) ∙ ap (λ b. if b then None else further a) (sym c.is_literal.ensures ∙ c.if-is_literal.true)))

pub returns-else-is_literal : goal.returns-else-is_literal
returns-else-is_literal t c =
    let u = unit_in c.args.p.now in
    let f = c.args.file in
    let a = c.in-Some.place.around in
    let kind = c.kind_of-kind.result in
    let further = above_from u f (c.args.most - 1) in
    let step = above_some u f c.args.most c.args.n c.in-Some.place kind (omega (arith, c.if-most-eq0.false)) (sym c.place_at.ensures ∙ c.in-Some.is) (c.kind_of-kind.ensures ∙ ap (λ (l : List Node). kind_at l a) c.nodes_at.ensures) in
    c.above_from.ensures ∙ sym (step ∙ (ap (λ b. if b then Some a else (if is_literal kind then None else further a)) (sym c.is_declaration.ensures ∙ c.if-is_declaration.false) ∙ ap (λ b. if b then None else further a) (sym c.is_literal.ensures ∙ c.if-is_literal.false)))

pub returns-in-None : goal.returns-in-None
returns-in-None t c = sym (above_none (unit_in c.args.p.now) c.args.file c.args.most c.args.n (omega (arith, c.if-most-eq0.false)) (sym c.place_at.ensures ∙ c.in-None.is))
