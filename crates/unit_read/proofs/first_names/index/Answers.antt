use Rattle.std.proofs.Common.{[], option_map, ap, ◌∙◌, arith, List, ℕ}
use Rattle.std.proofs.lemmas.Option.{slice_get-map, slice_get-get_or}
use Rattle.std.proofs.lemmas.List.{take_all, length-map}
use denote.Ref.{Bor}
use Rattle.go_tree.specs.Lexeme.{place_of}
use Rattle.unit_read.specs.Index.{texts_of, found}
use Rattle.unit_read.proofs.IndexLemmas.{index_more}
use Rattle.unit_read.proofs.first_names.index.Goals as goal

pub loop-place-preserved : goal.loop-place-preserved
loop-place-preserved c = λ q.
    index_more (texts_of c.args.list.now) c.loop-place.place _ q (found c.loop-place.names q) (found c.add_name.new.names q)
    (slice_get-map (λ (s : Bor (List ℕ)). s.now) c.args.list.now c.loop-place.place
    ∙ ap (option_map (λ (s : Bor (List ℕ)). s.now)) (slice_get-get_or c.args.list.now c.loop-place.place record { ref_ptr = (0, 0); now = [] } c.loop-place-test.true))
    (c.loop-place.invariant q) (c.in_ok-add_name.ensures q)

pub returns : goal.returns
returns c = λ q.
    c.loop-place.invariant q
    ∙ ap (λ (xs : List (List ℕ)). place_of xs q) (take_all c.loop-place.place (texts_of c.args.list.now) (omega (arith, length-map c.args.list.now (λ (s : Bor (List ℕ)). s.now))))
