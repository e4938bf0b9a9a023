-- Rules that ask for marks and put questions. A rule gives a mark at once, or asks for the mark of an item and goes on with it, or puts
-- a question about what the marks say and goes on with the answer; what it asks next may rest on what it was told.
use Rattle.std.specs.Prelude.{◌≡◌, ◌⊎◌, ℕ, ◌<◌, List, [], ◌∷◌, Option, None, Some, unwrap_or}

pub data Ask (I M Q A R : Type 0) : Type 0 where
  done : R → Ask I M Q A R
  ask : I → (M → Ask I M Q A R) → Ask I M Q A R
  put : Q → (A → Ask I M Q A R) → Ask I M Q A R

-- what a rule gives over the marks so far: the items that it asks for have marks, and the questions that it puts have answers
abbrev pub Gives : {I M Q A R : Type 0} → ((I → Option M) → Q → A → Type 0) → (I → Option M) → Ask I M Q A R → R → Type 0
Gives says so_far (done m) r = m ≡ r
Gives {I} {M} {Q} {A} says so_far (ask i rest) r = (m : M) × (so_far i ≡ Some m) × Gives says so_far (rest m) r
Gives {I} {M} {Q} {A} says so_far (put q rest) r = (x : A) × says so_far q x × Gives says so_far (rest x) r

-- the rule waits for an item: over the marks so far it comes to ask for it, and it has none; or to put a question that waits for it
abbrev pub Awaits : {I M Q A R : Type 0} → ((I → Option M) → Q → A → Type 0) → ((I → Option M) → Q → I → Type 0) → (I → Option M) → Ask I M Q A R → I → Type 0
Awaits says pends so_far (done m) j = ⊥
Awaits {I} {M} {Q} {A} says pends so_far (ask i rest) j = ((so_far i ≡ None) × (i ≡ j)) ⊎ ((m : M) × (so_far i ≡ Some m) × Awaits says pends so_far (rest m) j)
Awaits {I} {M} {Q} {A} says pends so_far (put q rest) j = pends so_far q j ⊎ ((x : A) × says so_far q x × Awaits says pends so_far (rest x) j)

-- a rule of its own within a rule
abbrev pub bind : {I M Q A R S : Type 0} → Ask I M Q A R → (R → Ask I M Q A S) → Ask I M Q A S
bind (done r) rest = rest r
bind (ask i more) rest = ask i (λ m. bind (more m) rest)
bind (put q more) rest = put q (λ x. bind (more x) rest)

-- the marks of a list of items, in its order
abbrev pub ask_all : {I M Q A R : Type 0} → List I → (List M → Ask I M Q A R) → Ask I M Q A R
ask_all [] rest = rest []
ask_all (i ∷ list) rest = ask i (λ m. ask_all list (λ ms. rest (m ∷ ms)))

-- no mark is changed
abbrev pub Keeps : {I M : Type 0} → (I → Option M) → (I → Option M) → Type 0
Keeps {I} {M} so_far next = (i : I) (m : M) → so_far i ≡ Some m → next i ≡ Some m

-- An answer once given stays, and there is one; a question goes on waiting for an item until that is marked. Owed once for each
-- relation about which rules put questions.
pub record Lasting {I M Q A : Type 0} (says : (I → Option M) → Q → A → Type 0) (pends : (I → Option M) → Q → I → Type 0) : Type 0 where
  pub stays : (so_far next : I → Option M) (q : Q) (x : A) → Keeps so_far next → says so_far q x → says next q x
  pub once : (so_far : I → Option M) (q : Q) (x y : A) → says so_far q x → says so_far q y → x ≡ y
  pub waits : (so_far next : I → Option M) (q : Q) (j : I) → Keeps so_far next → pends so_far q j → next j ≡ None → pends next q j
  pub missing : (so_far : I → Option M) (q : Q) (j : I) → pends so_far q j → so_far j ≡ None

-- ---- annotations

-- each item has the mark that its rule gives
abbrev pub Annotates : {I M Q A : Type 0} → ((I → Option M) → Q → A → Type 0) → (I → Ask I M Q A M) → (I → M) → Type 0
Annotates {I} says rule marks = (i : I) → Gives says (λ j. Some (marks j)) (rule i) (marks i)

-- before anything is marked: an item has no mark, or that which its rule gives at once
abbrev pub IsFirst : {I M Q A : Type 0} → (I → Ask I M Q A M) → (I → Option M) → Type 0
IsFirst {I} {M} rule so_far = (i : I) → (so_far i ≡ None) ⊎ ((m : M) × (so_far i ≡ Some m) × (rule i ≡ done m))

-- one item is marked, and all else stays
pub record Adds {I M : Type 0} (so_far next : I → Option M) (i : I) (m : M) : Type 0 where
  pub new : next i ≡ Some m
  pub stays : (j : I) (n : M) → so_far j ≡ Some n → next j ≡ Some n
  pub only : (j : I) (n : M) → next j ≡ Some n → (j ≡ i) ⊎ (so_far j ≡ Some n)

-- the marks are the same
pub record Stays {I M : Type 0} (so_far next : I → Option M) : Type 0 where
  pub stays : (j : I) (n : M) → so_far j ≡ Some n → next j ≡ Some n
  pub only : (j : I) (n : M) → next j ≡ Some n → so_far j ≡ Some n

-- The marks came one after the other, each by its rule from those that were there. So they rest on nothing but rules and answers, and where
-- more is answered they come in the same way.
pub data Comes {I M Q A : Type 0} (says : (I → Option M) → Q → A → Type 0) (rule : I → Ask I M Q A M) : (I → Option M) → Type 0 where
  at_first : (so_far : I → Option M) → IsFirst rule so_far → Comes says rule so_far
  and_one : (so_far more : I → Option M) (i : I) (m : M) → Comes says rule so_far → Gives says so_far (rule i) m → Adds so_far more i m → Comes says rule more
  as_before : (so_far more : I → Option M) → Comes says rule so_far → Stays so_far more → Comes says rule more

-- What holds of the marks so far: they came one after the other; each is the one that its rule gives from marks that are there, and every annotation
-- gives it.
pub record Sound {I M Q A : Type 0} (says : (I → Option M) → Q → A → Type 0) (rule : I → Ask I M Q A M) (so_far : I → Option M) : Type 0 where
  pub comes : Comes says rule so_far
  pub obeys : (i : I) (m : M) → so_far i ≡ Some m → Gives says so_far (rule i) m
  pub forced : (marks : I → M) → Annotates says rule marks → (i : I) (m : M) → so_far i ≡ Some m → marks i ≡ m

abbrev pub IsMarked : {I M : Type 0} → (I → Option M) → I → Type 0
IsMarked {I} {M} so_far i = (m : M) × (so_far i ≡ Some m)

-- the rule of an item gives this at once; or it waits for the item itself, and whatever that has, it gives this
abbrev pub GivesAlone : {I M Q A : Type 0} → (I → Ask I M Q A M) → I → M → Type 0
GivesAlone rule i m = (rule i ≡ done m) ⊎ (rule i ≡ ask i (λ x. done m))

-- each item is marked, or its rule gives a blank by itself
abbrev pub AreAllMarked : {I M Q A : Type 0} → M → (I → Ask I M Q A M) → (I → Option M) → Type 0
AreAllMarked {I} blank rule so_far = (i : I) → IsMarked so_far i ⊎ GivesAlone rule i blank

-- the marks so far, taken as marks of all: what has no mark counts as blank
abbrev pub filled : {I M : Type 0} → M → (I → Option M) → I → M
filled blank so_far i = unwrap_or (so_far i) blank

-- the marks came one after the other; what has none has what its rule gives by itself
pub record HasCome {I M Q A : Type 0} (says : (I → Option M) → Q → A → Type 0) (rule : I → Ask I M Q A M) (marks : I → M) : Type 0 where
  pub so_far : I → Option M
  pub comes : Comes says rule so_far
  pub each : (i : I) → (so_far i ≡ Some (marks i)) ⊎ GivesAlone rule i (marks i)

-- the marks are the annotation, and there is no other
pub record IsTheAnnotation {I M Q A : Type 0} (says : (I → Option M) → Q → A → Type 0) (rule : I → Ask I M Q A M) (marks : I → M) : Type 0 where
  pub «is» : Annotates says rule marks
  pub alone : (others : I → M) → Annotates says rule others → (i : I) → others i ≡ marks i
  pub come : HasCome says rule marks

-- ---- circles

-- each of a list waits for the next one, from an item to another
abbrev pub IsChain : {I : Type 0} → (I → I → Type 0) → I → List I → I → Type 0
IsChain awaits i [] j = awaits i j
IsChain awaits i (k ∷ via) j = awaits i k × IsChain awaits k via j

-- an item waits for another, at once or through items between
abbrev pub WaitsFor : {I : Type 0} → (I → I → Type 0) → I → I → Type 0
WaitsFor {I} awaits i j = (via : List I) × IsChain awaits i via j

-- rules wait for items of a lesser rank alone
abbrev pub AreRanked : {I M Q A : Type 0} → ((I → Option M) → Q → A → Type 0) → ((I → Option M) → Q → I → Type 0) → (I → Ask I M Q A M) → (I → Option M) → (I → ℕ) → Type 0
AreRanked {I} says pends rule so_far rank = (i j : I) → Awaits says pends so_far (rule i) j → rank j < rank i
