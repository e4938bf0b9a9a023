use Rattle.std.proofs.Common.{List, ℕ, length, map, is_some, ap, ◌∙◌, subst, arith}
use Rattle.go_tree.specs.declared.tree.NodeRef.{NodeRef}
use Rattle.bind.specs.Places.{place_from}
use Rattle.bind.specs.Tables.{found, pairs, path_of, IsEarliest}
use Rattle.bind.proofs.UndeclaredLemmas.{all_undeclared}
use Rattle.bind.proofs.unknown.rows_read.Goals as goal

pub file_rows-requires : goal.file_rows-requires
file_rows-requires c = record {
  leads = λ q. c.in_ok-leads.ensures q ∙ ap (λ l. place_from 0 l q) (ap (λ l. map (λ n. n.now) l) c.deref-2.ensures.value ∙ c.in_ok-paths.ensures);
}

pub returns : goal.returns
returns c = λ p same are.
    all_undeclared p c.args.read.now c.args.named.now (found c.in_ok-top_names.top_names) c.args.name.now c.is_found-top.result c.in_ok-rows.rows.items same are (omega (arith, c.requires.few))
    (subst (λ (l : List (List ℕ × NodeRef)). IsEarliest (path_of c.args.read.now) l (found c.in_ok-top_names.top_names)) (ap pairs c.deref.ensures.value ∙ c.in_ok-names.ensures) c.in_ok-top_names.ensures)
    c.is_found-top.ensures c.in_ok-rows.ensures
