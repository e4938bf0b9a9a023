-- The graph over the numbers of spots leads where the search goes on.
use Rattle.std.proofs.Common.{◌≡◌, ℕ, List, [], ◌∷◌, slice_get, Some, sym, ◌∙◌, subst, arith}
use Rattle.object_order.specs.declared.rows.SpotRows.{SpotRows}
use Rattle.std.proofs.lemmas.Option.{slice_get_within}
use Rattle.go_tree.specs.Spells.{Among}
use Rattle.need_order.specs.Graphs as graphs
use Rattle.object_order.specs.declared.spot.Spot.{Spot}
use Rattle.object_order.specs.Paths.{Path, Leads}
use Rattle.object_order.specs.Searches.{IsExplored}
use Rattle.object_order.specs.Orders.{GoesBy}
use Rattle.object_order.proofs.SpotLemmas.{among_contains, contains_among, there}
use Rattle.object_order.proofs.SearchLemmas.{row_has, row_from}
use Rattle.gv_base.proofs.Lists.{same_some}

some_is : {X : Type 0} (a b : X) → Some a ≡ Some b → a ≡ b
some_is a b e = cc

module _ (moves : Spot → List Spot) (seeds found : List Spot) (numbers : SpotRows) (rows : List (List ℕ)) (is : IsExplored moves seeds found numbers rows) where
  row_at : (i : ℕ) (s : Spot) → slice_get found i ≡ Some s → (row : List ℕ) × (slice_get rows i ≡ Some row)
  row_at i s at = let h = slice_get_within found i s at in let e = is.size in there rows i (omega arith)

  -- a need of numbers is a move of spots
  need_moves : (i j : ℕ) (s : Spot) → slice_get found i ≡ Some s → graphs.Needs rows i j → (t : Spot) × (slice_get found j ≡ Some t) × Among t (moves s)
  need_moves i j s at (row, here, has) =
      let (t, among, at_t) = row_from found row (moves s) j (is.way.shown i s row at here) (among_contains row j has) in (t, at_t, among)

  move_needs : (i : ℕ) (s t : Spot) → slice_get found i ≡ Some s → Among t (moves s) → (j : ℕ) × (slice_get found j ≡ Some t) × graphs.Needs rows i j
  move_needs i s t at among =
      let (row, here) = row_at i s at in
      let (j, has, at_t) = row_has found row (moves s) t (is.way.shown i s row at here) among in (j, at_t, (row, here, contains_among row j has))

  pub closed : graphs.IsClosed rows
  closed = record {
    within = λ a b needs. (let low = slice_get_within rows a needs.0 needs.1 in let e = is.size in
        let (s, at) = there found a (omega arith) in
        let (t, at_t, among) = need_moves a b s at needs in
        let h = slice_get_within found b t at_t in omega arith);
  }

  -- a spot is found once
  pub found_once : (i j : ℕ) (s : Spot) → slice_get found i ≡ Some s → slice_get found j ≡ Some s → i ≡ j
  found_once i j s one two = some_is i j (sym (is.numbered.there i s one) ∙ is.numbered.there j s two)

  path_spots : (via : List ℕ) (i j : ℕ) (s : Spot) → slice_get found i ≡ Some s → graphs.Path (graphs.Needs rows) i via j → (t : Spot) × (slice_get found j ≡ Some t) × Leads (GoesBy moves) s t
  path_spots [] i j s at path = let (t, at_t, among) = need_moves i j s at path in (t, at_t, ([], among))
  path_spots (c ∷ via) i j s at path =
      let (r, at_r, among) = need_moves i c s at path.0 in
      let (t, at_t, leads) = path_spots via c j r at_r path.1 in (t, at_t, (r ∷ leads.0, (among, leads.1)))

  pub path_numbers : (via : List Spot) (i : ℕ) (s t : Spot) → slice_get found i ≡ Some s → Path (GoesBy moves) s via t → (j : ℕ) × (slice_get found j ≡ Some t) × graphs.Leads (graphs.Needs rows) i j
  path_numbers [] i s t at path = let (j, at_t, needs) = move_needs i s t at path in (j, at_t, ([], needs))
  path_numbers (c ∷ via) i s t at path =
      let (k, at_c, needs) = move_needs i s c at path.0 in
      let (j, at_t, leads) = path_numbers via k c t at_c path.1 in (j, at_t, (k ∷ leads.0, (needs, leads.1)))

  pub leads_spots : (i j : ℕ) (s t : Spot) → slice_get found i ≡ Some s → slice_get found j ≡ Some t → graphs.Leads (graphs.Needs rows) i j → Leads (GoesBy moves) s t
  leads_spots i j s t at at_t leads =
      let (r, at_r, led) = path_spots leads.0 i j s at leads.1 in subst (λ (x : Spot). Leads (GoesBy moves) s x) (same_some (slice_get found j) r t at_r at_t) led

  pub leads_numbers : (i j : ℕ) (s t : Spot) → slice_get found i ≡ Some s → slice_get found j ≡ Some t → Leads (GoesBy moves) s t → graphs.Leads (graphs.Needs rows) i j
  leads_numbers i j s t at at_t leads =
      let (k, at_k, led) = path_numbers leads.0 i s t at leads.1 in subst (λ (x : ℕ). graphs.Leads (graphs.Needs rows) i x) (found_once k j t at_k at_t) led
