-- What is seen of a package can be imported where more is seen of other packages.
use Rattle.std.proofs.Common.{◌≡◌, ◌⊎◌, inl, inr, ℕ, ◌+◌, ◌==◌, Bool, true, false, if◌then◌else◌, cond, Option, Some, None, option_and_then, List, [], ◌∷◌, slice_get, refl, sym, ap, ◌∙◌, subst}
use Rattle.std.specs.List.{Contains, position_from}
use Rattle.std.specs.Str.{bytes_eq}
use Rattle.std.proofs.lemmas.Option.{same_Some}
use Rattle.std.proofs.lemmas.Slice.Eq.{bytes_eq-Decides}
use Rattle.go_tree.specs.Lexeme.{place_of}
use Rattle.export_text.specs.Mentions.{IsMentioned, StandsIn}
use Rattle.export_text.specs.Reaching.{nothing_declared}
use Rattle.face_table.specs.Fitting.{given, paths_in}
use Rattle.package_faces.specs.Declaring.{first_named, path_of, defined_name, declaration_out, declared_in, declared_by}
use Rattle.package_faces.specs.Faces.{Face}
use Rattle.package_faces.specs.Reaching.{own_name}
use Rattle.type_model.specs.declared.term.TypeName.{TypeName}
use Rattle.type_model.specs.Declarations.{Declaration, Meets}
use Rattle.type_model.specs.GoTypes.{DefinedType}
use Rattle.type_model.specs.Tables.{is_same_name}
use Rattle.typed_tree.specs.Universe.{error_name}
use Rattle.unit_read.specs.Units.{error_declaration}
use Rattle.check_pkg.specs.Packages.{Package}
use Rattle.action_graph.specs.Closed.{Knows, Grows}
use Rattle.action_graph.specs.Judging.{Env, IsFit}
use Rattle.action_graph.proofs.MeetLaws.{meets-among, met-stands, nothing-met, type-cases}
use Rattle.action_graph.proofs.StayFaces.{bound_some, mapped_some, first_cons, first_is, contained_there, contains_head, contains_tail}

-- ---- places

position_some : (test : List ℕ → Bool) (i : ℕ) (faces : List Face) → (position_from test i (paths_in faces) ≡ None → ⊥) → (g : Face) × Contains faces g × (test g.path ≡ true)
position_some test i [] some = absurd (some refl)
position_some test i (f ∷ faces) some = by (test f.path) refl (position_some test (i + 1) faces) some where
  by : (b : Bool) → test f.path ≡ b → ((position_from test (i + 1) (paths_in faces) ≡ None → ⊥) → (g : Face) × Contains faces g × (test g.path ≡ true))
      → (cond b (Some i) (position_from test (i + 1) (paths_in faces)) ≡ None → ⊥) → (g : Face) × Contains (f ∷ faces) g × (test g.path ≡ true)
  by true e rest h = (f, contains_head f faces, e)
  by false e rest h = let r = rest h in (r.0, contains_tail f r.0 faces r.1, r.2)

-- of a path that has a place something is known, and the other way
place_known : (faces : List Face) (q : List ℕ) → (place_of (paths_in faces) q ≡ None → ⊥) → (g : Face) × Knows faces q g
place_known faces q some =
    let r = position_some (λ spelling. bytes_eq spelling q) 0 faces some in
    let k = contained_there faces r.0 r.1 in
    (k.0, subst (λ (p : List ℕ). Knows faces p k.0) ((bytes_eq-Decides r.0.path q).0 r.2) k.1)

known_place : (faces : List Face) (q : List ℕ) (g : Face) → Knows faces q g → place_of (paths_in faces) q ≡ None → ⊥
known_place faces q g known none = let nothing : first_named path_of faces q ≡ None = ap (option_and_then (slice_get faces)) none in absurd cc

-- nothing is met from `error`
error_met : (m : TypeName) → Meets nothing_declared m error_declaration.under → ⊥
error_met m meets = nothing-met m error_declaration.under refl (λ n h. absurd cc) meets

module _ (p : Package) (env world : Env) (grows : Grows env world) (mentions : (g : Face) (path : List ℕ) → Contains env g → IsMentioned g path → (h : Face) × Knows env path h) (f : Face) (fit : IsFit p env f) where
  -- a name of the universe block, of the package, or of one of which something is known
  abbrev Ground : TypeName → Type 0
  Ground n = (n.package ≡ []) ⊎ ((n.package ≡ f.path) ⊎ ((g : Face) × Knows env n.package g))

  mentioned : (h : Face) (q : List ℕ) → Contains (f ∷ env) h → IsMentioned h q → (g : Face) × Knows env q g
  mentioned h q c mention = elim (type-cases f h env c) [
    | inl same ↦ place_known env q (λ none. fit.known q (subst (λ (x : Face). IsMentioned x q) (sym same) mention) none)
    | inr has ↦ mentions h q has mention
  ]

  own_or_known : (h : Face) (q : List ℕ) → Contains (f ∷ env) h → q ≡ h.path → (q ≡ f.path) ⊎ ((g : Face) × Knows env q g)
  own_or_known h q c is = elim (type-cases f h env c) [
    | inl same ↦ inl (is ∙ ap (λ (x : Face). x.path) (sym same))
    | inr has ↦ inr (subst (λ (r : List ℕ). (g : Face) × Knows env r g) (sym is) (contained_there env h has))
  ]

  stands_ground : (h : Face) (n : TypeName) → Contains (f ∷ env) h → StandsIn h (DefinedType n) → Ground n
  stands_ground h n c stands = by (bytes_eq n.package []) refl (bytes_eq n.package h.path) refl where
    by : (none : Bool) → bytes_eq n.package [] ≡ none → (own : Bool) → bytes_eq n.package h.path ≡ own → Ground n
    by true none own is = inl ((bytes_eq-Decides n.package []).0 none)
    by false some true is = inr (own_or_known h n.package c ((bytes_eq-Decides n.package h.path).0 is))
    by false some false is = inr (inr (mentioned h n.package c (record {
      name = n;
      stands = stands;
      of = refl;
      other = λ same. (let yes_it : bytes_eq n.package h.path ≡ true = (bytes_eq-Decides n.package h.path).1 same in absurd cc);
      some = λ none. (let yes_it : bytes_eq n.package [] ≡ true = (bytes_eq-Decides n.package []).1 none in absurd cc);
    })))

  face_same : (q : List ℕ) → (q ≡ f.path) ⊎ ((g : Face) × Knows env q g) → first_named path_of (f ∷ world) q ≡ first_named path_of (f ∷ env) q
  face_same q ground = first_cons path_of q f world ∙ (by ground ∙ sym (first_cons path_of q f env)) where
    by : (q ≡ f.path) ⊎ ((g : Face) × Knows env q g) → (if bytes_eq f.path q then Some f else first_named path_of world q) ≡ (if bytes_eq f.path q then Some f else first_named path_of env q)
    by (inl own) =
        let here : bytes_eq f.path q ≡ true = (bytes_eq-Decides f.path q).1 (sym own) in
        ap (λ (b : Bool). if b then Some f else first_named path_of world q) here ∙ sym (ap (λ (b : Bool). if b then Some f else first_named path_of env q) here)
    by (inr known) = ap (λ (o : Option Face). if bytes_eq f.path q then Some f else o) (grows q known.0 known.1 ∙ sym known.1)

  given_same : (n : TypeName) → Ground n → given [] (f ∷ world) n ≡ given [] (f ∷ env) n
  given_same n (inl none) =
      let here : bytes_eq [] n.package ≡ true = (bytes_eq-Decides [] n.package).1 (sym none) in
      ap (λ (b : Bool). if is_same_name n error_name then Some error_declaration else (if b then None else declared_by (f ∷ world) n)) here
      ∙ sym (ap (λ (b : Bool). if is_same_name n error_name then Some error_declaration else (if b then None else declared_by (f ∷ env) n)) here)
  given_same n (inr ground) =
      ap (λ (r : Option Face). if is_same_name n error_name then Some error_declaration else (if bytes_eq [] n.package then None else (if n.local == 0 then option_and_then (declared_in n.name) r else None)))
      (face_same n.package ground)

  -- what a name is declared with stands in a face of the list
  from_local : (b : Bool) (n m : TypeName) (d : Declaration) → (if b then option_and_then (declared_in n.name) (first_named path_of (f ∷ env) n.package) else None) ≡ Some d → Meets nothing_declared m d.under → Ground m
  from_local true n m d h meets =
      let face = bound_some (declared_in n.name) (first_named path_of (f ∷ env) n.package) d h in
      let out = mapped_some declaration_out (first_named defined_name face.0.types n.name) d face.2 in
      stands_ground face.0 m (first_is path_of (f ∷ env) n.package face.0 face.1).0
      (met-stands face.0 out.0 m (first_is defined_name face.0.types n.name out.0 out.1).0 (subst (λ (x : Declaration). Meets nothing_declared m x.under) (sym out.2) meets))
  from_local false n m d h meets = absurd cc

  next : (n m : TypeName) (d : Declaration) → Ground n → given [] (f ∷ env) n ≡ Some d → Meets nothing_declared m d.under → Ground m
  next n m d ground = by (is_same_name n error_name) (bytes_eq [] n.package) where
    by : (e own : Bool) → (if e then Some error_declaration else (if own then None else declared_by (f ∷ env) n)) ≡ Some d → Meets nothing_declared m d.under → Ground m
    by true own h meets = absurd (error_met m (subst (λ (x : Declaration). Meets nothing_declared m x.under) (sym (same_Some error_declaration d h)) meets))
    by false true h meets = absurd cc
    by false false h meets = from_local (n.local == 0) n m d h meets

  -- it can be imported over the world
  pub fit_stays : IsFit p world f
  fit_stays = record {
    path_is = fit.path_is;
    known = λ path mention none. (let k = place_known env path (λ e. fit.known path mention e) in known_place world path k.0 (grows path k.0 k.1) none);
    plain = fit.plain;
    ends = λ d c meets.
        fit.ends d c
        (meets-among (given [] (f ∷ env)) (given [] (f ∷ world)) Ground given_same next (own_name f.path d.name) d.under
        (λ m h. stands_ground f m (contains_head f env) (met-stands f d m c h)) meets);
  }
