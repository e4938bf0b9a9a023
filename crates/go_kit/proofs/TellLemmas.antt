-- What is told of an accepted package.
use Rattle.std.proofs.Common.{◌≡◌, ℕ, List, [], ◌∷◌, map, Option, Some, None, IfSome, Result, Err, slice_get, refl, sym, ap, ◌∙◌, subst}
use Rattle.std.specs.List.{Contains}
use Rattle.std.proofs.lemmas.Option.{slice_get-get_or}
use Rattle.export_text.specs.Faces.{IsFace}
use Rattle.export_text.specs.Gathering.{CanBeExported, IsGathered}
use Rattle.export_text.specs.Mentions.{AreMentions}
use Rattle.export_text.proofs.GatherLaws.{exported_can, one_gathered}
use Rattle.package_faces.specs.Faces.{ObjectOut, Face}
use Rattle.type_model.specs.declared.table.TypeTable.{TypeTable}
use Rattle.type_model.specs.Tables.{declarations_in}
use Rattle.check_pkg.specs.declared.judging.Checked.{Checked}
use Rattle.check_pkg.specs.declared.refusal.Refusal.{Refusal}
use Rattle.check_pkg.specs.declared.typing.Typed.{Typed}
use Rattle.check_pkg.specs.Checks.{table_of}
use Rattle.action_graph.specs.declared.kit.Load.{Load}
use Rattle.action_graph.specs.declared.kit.Load.TheVariants.{Accepted, Refused}
use Rattle.action_graph.specs.declared.marks.MarkLine.{MarkLine}
use Rattle.action_graph.specs.Judging.{AllKnown, IfAccepted, Tells, line_of, load_text}
use Rattle.action_graph.specs.Judging.Judged.{Accepts, Refuses}
use Rattle.action_graph.proofs.JudgingLaws.{tells_accepted}
use Rattle.go_kit.specs.Loading.{kept_with}
use Rattle.go_kit.specs.Reading.{IsSeenOf, objects_of}

abbrev err_of : {A E : Type 0} → E → Result A E
err_of e = Err e

-- errors are the same whatever an answer would be
pub err_as : {A B E : Type 0} (x y : E) → err_of {A = A} x ≡ err_of y → err_of {A = B} x ≡ err_of y
err_as x y e = let same : x ≡ y = cc in ap err_of same

-- ---- what it mentions

module _ (place : List ℕ → Option ℕ) (f : Face) (paths lent : List (List ℕ)) (are : AreMentions f paths) (same : lent ≡ paths) where
  pub all-known : ((path : List ℕ) → Contains lent path → place path ≡ None → ⊥) → AllKnown place f
  all-known known path mentioned none = known path (subst (λ (l : List (List ℕ)). Contains l path) (sym same) (are.all path mentioned)) none

  pub not-known : (path : List ℕ) × Contains lent path × (place path ≡ None) → AllKnown place f → ⊥
  not-known (path, has, none) known = known path (are.each path (subst (λ (l : List (List ℕ)). Contains l path) same has)) none

-- no path of those that were looked up has no place
pub known-at : (place : List ℕ → Option ℕ) (paths : List (List ℕ)) → ((k : ℕ) (path : List ℕ) → slice_get paths k ≡ Some path → place path ≡ None → ⊥)
    → (path : List ℕ) → Contains paths path → place path ≡ None → ⊥
known-at place paths known path has none = known has.0 path (slice_get-get_or paths has.0 path has.1 ∙ ap Some has.2) none

-- ---- what is gathered

module _ (path name its called : List ℕ) (outs : List ObjectOut) (place : List ℕ → Option ℕ) (c : Checked) (paths : its ≡ path) (names : called ≡ name) (objects : outs ≡ objects_of c) where
  gathered-so : (g : Face) → IsGathered (declarations_in (table_of c)) its called outs g → IsGathered (declarations_in (table_of c)) path name (objects_of c) g
  gathered-so g gathered =
      subst (λ (os : List ObjectOut). IsGathered (declarations_in (table_of c)) path name os g) objects
      (subst (λ (q : List ℕ). IsGathered (declarations_in (table_of c)) q name outs g) paths (subst (λ (n : List ℕ). IsGathered (declarations_in (table_of c)) its n outs g) names gathered))

  pub seen-of : (g : Face) → IsGathered (declarations_in (table_of c)) its called outs g → IsFace g → AllKnown place g → IsSeenOf path name place c g
  seen-of g gathered value known = record { export = (gathered-so g gathered).export; value = value; known = known }

  -- what is gathered is seen, if anything is
  pub none-seen : (g : Face) → IsGathered (declarations_in (table_of c)) its called outs g → (IsFace g → AllKnown place g → ⊥) → (f : Face) → IsSeenOf path name place c f → ⊥
  none-seen g gathered untold f seen =
      let one : g ≡ f = one_gathered (declarations_in (table_of c)) path name (objects_of c) g f (gathered-so g gathered) seen.export seen.value in
      untold (subst IsFace (sym one) seen.value) (subst (λ (x : Face). AllKnown place x) (sym one) seen.known)

  pub not-gathered : (CanBeExported (declarations_in (table_of c)) its outs → ⊥) → (f : Face) → IsSeenOf path name place c f → ⊥
  not-gathered denied f seen =
      denied (subst (λ (os : List ObjectOut). CanBeExported (declarations_in (table_of c)) its os) (sym objects)
      (subst (λ (q : List ℕ). CanBeExported (declarations_in (table_of c)) q (objects_of c)) (sym paths) (exported_can (declarations_in (table_of c)) path name (objects_of c) f seen.export)))

-- ---- what is kept of it

pub kept-text : (load : Load (Prim.Unit {0})) (typed : Typed) → load_text (kept_with load typed).0 ≡ load_text load
kept-text (Accepted loaded export) typed = refl
kept-text (Refused marks) typed = refl

pub kept-accepted : (load : Load (Prim.Unit {0})) (typed : Typed) (P : Typed → Type 0) → IfAccepted load (λ _. P typed) → IfAccepted (kept_with load typed).0 P
kept-accepted (Accepted loaded export) typed P h = h
kept-accepted (Refused marks) typed P h = tt

pub kept-table : (load : Load (Prim.Unit {0})) (typed : Typed) (P : TypeTable → Type 0) → P typed.state.table → IfSome (kept_with load typed).1 P
kept-table (Accepted loaded export) typed P h = tt
kept-table (Refused marks) typed P h = h

pub always : (load : Load (Prim.Unit {0})) (P : Type 0) → P → IfAccepted load (λ _. P)
always (Accepted loaded export) P h = h
always (Refused marks) P h = tt

refuses-accepts : (list : List MarkLine) (f : Face) → Refuses list ≡ Accepts f → ⊥
refuses-accepts list f e = cc

some-refusal : (x : Refusal) (xs : List Refusal) → x ∷ xs ≡ [] → ⊥
some-refusal x xs e = cc

-- nothing refuses what is accepted
pub taken : (c : Checked) (load : Load (Prim.Unit {0})) (P : Type 0) → ((c.refused.items ≡ [] → ⊥) → Tells (Refuses (map line_of c.refused.items)) (load_text load)) → (c.refused.items ≡ [] → P) → IfAccepted load (λ _. P)
taken c (Refused marks) P tells so = tt
taken c (Accepted loaded export) P tells so = by c.refused.items refl where
  by : (list : List Refusal) → c.refused.items ≡ list → P
  by [] is = so is
  by (x ∷ xs) is =
      let told = tells_accepted (Refuses (map line_of c.refused.items)) export (tells (λ none. some-refusal x xs (sym is ∙ none))) in
      absurd (refuses-accepts (map line_of c.refused.items) told.0 told.1)
