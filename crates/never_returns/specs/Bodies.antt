-- The functions of a package by number.
use Rattle.std.specs.Prelude.{ℕ, ◌≡◌, ◌⊎◌, ◌<◌, ◌↔◌, nat_lt, cond, Bool, true, false, List, [], length, Option, Some, None, slice_get, slice_index_or}
use Rattle.std.specs.List.{Contains}
use Rattle.flow.specs.declared.point.Call.{Call}
use Rattle.flow.specs.declared.point.Call.TheVariants as c
use Rattle.flow.specs.Flow.{NeverReturns, call_at, stops_of}
use Rattle.flow.specs.Search.{IsGraph, NeverBy, MentionsBy}
use Rattle.least.specs.Numbered.{IsNumbering}
use Rattle.least.specs.Tables.{Member, home}
use Rattle.never_returns.specs.Admits.{Callee, Other, Panic, Named, Body, Admits}
use Rattle.never_returns.specs.declared.files.FileFlow.{FileFlow}
use Rattle.never_returns.specs.declared.files.Block.{Block}
use Rattle.never_returns.specs.declared.files.Function.{Function}

-- the members among the first few numbers
abbrev pub known : ℕ → (ℕ → Bool) → ℕ → Bool
known count N i = cond (nat_lt i count) (N i) false

-- the block of a file never returns, where these functions don't
abbrev pub BlockNever : List FileFlow → (ℕ → Bool) → Block → Type 0
BlockNever files N b = (f : FileFlow) × (slice_get files b.file ≡ Some f) × NeverReturns f.tree.now f.labels.now (stops_of f.calls.now N) b.node

abbrev pub BodyNever : List FileFlow → (ℕ → Bool) → Option Block → Type 0
BodyNever files N None = ⊥
BodyNever files N (Some b) = BlockNever files N b

-- the function of this number is listed, or has a body that never returns
abbrev pub AdmitsAt : List FileFlow → List Function → (ℕ → Bool) → ℕ → Type 0
AdmitsAt files functions N i =
    (g : Function) × (slice_get functions i ≡ Some g) × ((g.listed ≡ true) ⊎ BodyNever files (known (length functions) N) g.body)

-- each file comes with the graph of its tree
abbrev pub AreGraphs : List FileFlow → Type 0
AreGraphs files = (k : ℕ) (f : FileFlow) → slice_get files k ≡ Some f → IsGraph f.tree.now f.labels.now f.graph.now

-- The same by the rows of the graphs.

abbrev pub BlockBy : List FileFlow → (ℕ → Bool) → Block → Type 0
BlockBy files N b = (f : FileFlow) × (slice_get files b.file ≡ Some f) × NeverBy f.tree.now f.graph.now (stops_of f.calls.now N) b.node

abbrev pub BodyBy : List FileFlow → (ℕ → Bool) → Option Block → Type 0
BodyBy files N None = ⊥
BodyBy files N (Some b) = BlockBy files N b

abbrev pub AdmitsBy : List FileFlow → List Function → (ℕ → Bool) → ℕ → Type 0
AdmitsBy files functions N i =
    (g : Function) × (slice_get functions i ≡ Some g) × ((g.listed ≡ true) ⊎ BodyBy files (known (length functions) N) g.body)

-- the body of the function of this number mentions one
pub record MentionsAt (files : List FileFlow) (functions : List Function) (i j : ℕ) : Type 0 where
  pub function : Function
  pub block : Block
  pub file : FileFlow
  pub there : slice_get functions i ≡ Some function
  pub body : function.body ≡ Some block
  pub at : slice_get files block.file ≡ Some file
  pub mentions : MentionsBy file.graph.now file.calls.now block.node j

-- these are the functions that a body mentions
abbrev pub AreMentioned : List FileFlow → Option Block → List ℕ → Type 0
AreMentioned files None found = true ≡ true
AreMentioned files (Some b) found = (f : FileFlow) → slice_get files b.file ≡ Some f → (j : ℕ) → Contains found j ↔ MentionsBy f.graph.now f.calls.now b.node j

abbrev pub row_of : List (List ℕ) → ℕ → List ℕ
row_of rows j = slice_index_or rows j []

-- Each of the first few functions stands in the rows of those that its body mentions.
pub record AreRows (files : List FileFlow) (functions : List Function) (few : ℕ) (rows : List (List ℕ)) : Type 0 where
  pub size : length rows ≡ length functions
  pub within : (j i : ℕ) → Contains (row_of rows j) i → i < length functions
  pub every : (i j : ℕ) → i < few → j < length functions → MentionsAt files functions i j → Contains (row_of rows j) i

-- the same of all functions, as a proposition
pub record AreReaders (files : List FileFlow) (functions : List Function) (rows : List (List ℕ)) : Type 0 where
  pub size : length rows ≡ length functions
  pub within : (j i : ℕ) → Contains (row_of rows j) i → i < length functions
  pub every : (i j : ℕ) → j < length functions → MentionsAt files functions i j → ∥ Contains (row_of rows j) i ∥₁

-- the row of one function more in the rows of those that it mentions
pub record AreAdded (i : ℕ) (mentioned : List ℕ) (few : ℕ) (old new : List (List ℕ)) : Type 0 where
  pub size : length new ≡ length old
  pub kept : (j k : ℕ) → Contains (row_of old j) k → Contains (row_of new j) k
  pub added : (m : ℕ) → m < few → slice_index_or mentioned m 0 < length old → Contains (row_of new (slice_index_or mentioned m 0)) i
  pub only : (j k : ℕ) → Contains (row_of new j) k → Contains (row_of old j) k ⊎ (k ≡ i)

-- A call by number, from what a statement calls by name: members handed in stop control, and so does what has no number and isn't one of
-- them not.
abbrev pub numbered : Option ℕ → Call
numbered None = c.Passes
numbered (Some i) = c.Function i

abbrev pub call_of : (Member → Bool) → (Member → Option ℕ) → Callee → Call
call_of given number Other = c.Passes
call_of given number Panic = c.Stops
call_of given number (Named m) = cond (given m) c.Stops (numbered (number m))

-- a body by name and a block by number are one
pub record IsBlockOf (files : List FileFlow) (given : Member → Bool) (number : Member → Option ℕ) (b : Body) (block : Block) : Type 0 where
  pub file : FileFlow
  pub there : slice_get files block.file ≡ Some file
  pub tree : file.tree.now ≡ b.tree
  pub labels : file.labels.now ≡ b.labels
  pub node : block.node ≡ b.block
  pub calls : (n : ℕ) → call_at file.calls.now n ≡ call_of given number (b.callee n)

abbrev pub IsBodyOf : List FileFlow → (Member → Bool) → (Member → Option ℕ) → Option Body → Option Block → Type 0
IsBodyOf files given number None None = true ≡ true
IsBodyOf files given number None (Some block) = ⊥
IsBodyOf files given number (Some b) None = ⊥
IsBodyOf files given number (Some b) (Some block) = IsBlockOf files given number b block

-- The functions of package p by number, over the members handed in.
pub record AreFunctionsOf (listed : Member → Bool) (bodies : Member → Option Body) (p : List ℕ) (given : Member → Bool) (number : Member → Option ℕ) (name : ℕ → Member) (files : List FileFlow) (functions : List Function) : Type 0 where
  pub numbering : IsNumbering home (Admits listed bodies) p (length functions) number name
  pub listed_so : (i : ℕ) (g : Function) → slice_get functions i ≡ Some g → g.listed ≡ listed (name i)
  pub body_so : (i : ℕ) (g : Function) → slice_get functions i ≡ Some g → IsBodyOf files given number (bodies (name i)) g.body
