-- What the reading of a file's pieces came to.
use Rattle.std.specs.Prelude.{ℕ, suc, ◌<◌, ◌≤◌, ◌≡◌, Bool, true, false, Option, Some, None, List, [], ◌∷◌, ◌==◌, ◌&&◌, cond, drop, nat_lt}
use Rattle.go_tree.specs.declared.grammar.Stage.{Stage}
use Rattle.go_tree.specs.declared.grammar.Stage.TheVariants.{Clause}
use Rattle.go_tree.specs.Arena.{depth}
use Rattle.go_tree.specs.Forest.{Forest, ◌⊕◌}
use Rattle.go_tree.specs.Pieces.{depth_limit, deeper, pieces, SpellsPieces, SpellsFile, Finding, Fine, Syntax, TooDeep, Finds}
use Rattle.go_parse.specs.State.{State}
use Rattle.go_parse.specs.Machine.{Built, state_of}
use Rattle.go_parse.specs.declared.pieces.Reader.{Reader}
use Rattle.go_parse.specs.declared.pieces.Reading.{Reading}

-- how many tokens stand before the first semicolon at bracket depth zero
abbrev pub first_size : ℕ → List ℕ → ℕ
first_size d [] = 0
first_size d (c ∷ cs) = cond (c == 31 && d == 0) 0 (suc (first_size (deeper d c) cs))

-- the first piece that is too deep, past a piece of a depth at a place
abbrev pub deep_now : Option ℕ → ℕ → ℕ → Option ℕ
deep_now None d at = cond (nat_lt depth_limit d) (Some at) None
deep_now (Some p) d at = Some p

-- What was found of the pieces so far: what the rest finds, or a piece that is too deep.
abbrev pub Passing : List ℕ → ℕ → Stage → Option ℕ → Forest → Type 0
Passing cs at s None g = (depth g ≤ depth_limit) × ((v : Finding) → Finds s at (pieces 0 (drop at cs)) v → Finds Clause 0 (pieces 0 cs) v)
Passing cs at s (Some p) g = (depth_limit < depth g) × Finds Clause 0 (pieces 0 cs) (TooDeep p)

-- The pieces before a place are spelled by the trees of the state; the rest completes them to a file.
pub record Over (cs : List ℕ) (at : ℕ) (s : Stage) (deep : Option ℕ) (st : State) : Type 0 where
  pub g : Forest
  pub built : Built st g
  pub goes : (h : Forest) → SpellsPieces s at (pieces 0 (drop at cs)) h → SpellsFile cs (g ⊕ h)
  pub comes : (f : Forest) → SpellsFile cs f → (h : Forest) × SpellsPieces s at (pieces 0 (drop at cs)) h × (g ⊕ h ≡ f)
  pub found : Passing cs at s deep g

-- the finding of a file that is spelled, by its depth
abbrev pub DeepAt : List ℕ → Option ℕ → Forest → Type 0
DeepAt cs None f = (depth f ≤ depth_limit) × Finds Clause 0 (pieces 0 cs) Fine
DeepAt cs (Some p) f = (depth_limit < depth f) × Finds Clause 0 (pieces 0 cs) (TooDeep p)

-- The whole is spelled by the trees of the state, and by no others.
pub record Whole (cs : List ℕ) (deep : Option ℕ) (st : State) : Type 0 where
  pub f : Forest
  pub spelled : SpellsFile cs f
  pub built : Built st f
  pub only : (o : Forest) → SpellsFile cs o → f ≡ o
  pub found : DeepAt cs deep f

-- the finding of a file with a piece that is not spelled
abbrev pub BadAt : List ℕ → Option ℕ → ℕ → Type 0
BadAt cs None at = Finds Clause 0 (pieces 0 cs) (Syntax at)
BadAt cs (Some p) at = Finds Clause 0 (pieces 0 cs) (TooDeep p)

-- what a reading says of the classes: the first piece that is too deep, and the first that is not spelled, which ends it
abbrev pub Reads : List ℕ → Option ℕ → Option ℕ → State → Type 0
Reads cs deep None st = Whole cs deep st
Reads cs deep (Some at) st = ((f : Forest) → SpellsFile cs f → ⊥) × BadAt cs deep at

-- A reader stands at a place: the pieces before it are spelled.
abbrev pub Stands : List ℕ → Reader → Type 0
Stands cs r = Over cs r.at r.stage r.deep (state_of r.parser)

-- what a step of a reader came to
abbrev pub Stepped : Bool → List ℕ → ℕ → Reader → Type 0
Stepped true cs to r = Stands cs r × (r.at ≡ to)
Stepped false cs to r = (r.at < to) × Reads cs r.deep (Some r.at) (state_of r.parser)

-- what a reading came to
abbrev pub Read : List ℕ → Reading → Type 0
Read cs r = Reads cs r.deep r.bad (state_of r.parser)
