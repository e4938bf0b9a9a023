use Rattle.std.proofs.Common.{List, ℕ, length, map, ap, ◌∙◌, subst, arith}
use Rattle.go_tree.specs.declared.tree.NodeRef.{NodeRef}
use Rattle.bind.specs.Places.{placed, place_from}
use Rattle.bind.specs.Tables.{found, pairs, path_of, IsEarliest}
use Rattle.bind.proofs.BindLemmas.{all_stand, all_bound}
use Rattle.bind.proofs.uses.bind_read.Goals as goal

pub bind_files-requires : goal.bind_files-requires
bind_files-requires c = record {
  leads = λ q. c.in_ok-leads.ensures q ∙ ap (λ l. place_from 0 l q) (ap (λ l. map (λ n. n.now) l) c.deref-2.ensures.value ∙ c.in_ok-paths.ensures);
}

pub returns-clause-ordered : goal.returns-clause-ordered
returns-clause-ordered c =
    (all_stand c.args.read.now c.args.named.now (found c.in_ok-top_names.top_names) (placed c.in_ok-predeclared.predeclared) (length c.args.read.now) c.in_ok-uses.uses.items
    (omega (arith, c.requires.few)) c.requires.fit c.in_ok-uses.ensures).ordered

pub returns-clause-bound : goal.returns-clause-bound
returns-clause-bound c = λ p same are.
    all_bound p c.args.read.now c.args.named.now (found c.in_ok-top_names.top_names) (placed c.in_ok-predeclared.predeclared) c.in_ok-uses.uses.items same are (omega (arith, c.requires.few))
    (subst (λ (l : List (List ℕ × NodeRef)). IsEarliest (path_of c.args.read.now) l (found c.in_ok-top_names.top_names)) (ap pairs c.deref.ensures.value ∙ c.in_ok-names.ensures) c.in_ok-top_names.ensures)
    c.in_ok-predeclared.ensures c.in_ok-uses.ensures
