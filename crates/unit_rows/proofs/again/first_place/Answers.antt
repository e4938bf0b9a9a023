use Rattle.std.proofs.Common.{Bool, ℕ, List, [], Some, if◌then◌else◌, option_map, unwrap_or, ap, ◌∙◌, arith}
use Rattle.std.proofs.lemmas.List.{take_all, length-map}
use Rattle.std.proofs.lemmas.Option.{slice_get-map, slice_get-get_or}
use denote.Ref.{Bor}
use Rattle.go_tree.specs.Lexeme.{place_of}
use Rattle.unit_read.specs.Index.{texts_of}
use Rattle.unit_read.proofs.IndexLemmas.{index_more}
use Rattle.unit_rows.proofs.again.first_place.Goals as goal

pub loop-i-preserved : goal.loop-i-preserved
loop-i-preserved c =
    index_more (texts_of c.args.names.now) c.loop-i.i _ c.args.name.now c.loop-i.first c.kept_first-first.result
    (slice_get-map (λ (s : Bor (List ℕ)). s.now) c.args.names.now c.loop-i.i
    ∙ ap (option_map (λ (s : Bor (List ℕ)). s.now)) (slice_get-get_or c.args.names.now c.loop-i.i record { ref_ptr = (0, 0); now = [] } c.loop-i-test.true))
    c.loop-i.invariant
    (c.kept_first-first.ensures ∙ ap (λ (b : Bool). if b then Some (unwrap_or c.loop-i.first c.loop-i.i) else c.loop-i.first) c.is_same-is_here.ensures)

pub returns : goal.returns
returns c =
    c.loop-i.invariant
    ∙ ap (λ (xs : List (List ℕ)). place_of xs c.args.name.now) (take_all c.loop-i.i (texts_of c.args.names.now) (omega (arith, length-map c.args.names.now (λ (s : Bor (List ℕ)). s.now))))
