-- The functions of a package by number are those by name.
use Rattle.std.proofs.Common.{◌≡◌, ◌⊎◌, inl, inr, ◌<◌, ℕ, Bool, true, false, cond, List, length, Option, Some, None, refl, sym, ap, ◌∙◌, ◌↔◌, subst, if◌then◌else◌}
use Rattle.std.specs.Prelude.{slice_get, nat_lt}
use Rattle.std.proofs.lemmas.Bool.{lt-ltb}
use Rattle.std.proofs.lemmas.Option.{slice_get-get_or}
use Rattle.go_tree.specs.declared.tree.FileTree.{FileTree}
use Rattle.flow.specs.declared.point.Call.{Call}
use Rattle.flow.specs.declared.point.Call.TheVariants as c
use Rattle.flow.specs.Flow.{NeverReturns, call_at, stops_by, stops_of}
use Rattle.least.specs.Least.{IsLeast, IsClosed, IsWithin}
use Rattle.least.specs.Staged.{with_given, IsLeastIn}
use Rattle.least.specs.Tables.{Member, home}
use Rattle.least.specs.Work.{among}
use Rattle.least.specs.Numbered.{is_marked, by_number, admits_number, IsNumbering}
use Rattle.least.proofs.Numbers.{by_numbers}
use Rattle.never_returns.specs.Admits.{Callee, Other, Panic, Named, stops, Body, Admits}
use Rattle.never_returns.specs.declared.files.FileFlow.{FileFlow}
use Rattle.never_returns.specs.declared.files.Block.{Block}
use Rattle.never_returns.specs.declared.files.Function.{Function}
use Rattle.flow.proofs.LawLemmas.{never_by_rows}
use Rattle.never_returns.specs.Bodies.{AdmitsAt, AdmitsBy, BodyNever, BodyBy, AreGraphs, known, numbered, call_of, IsBlockOf, IsBodyOf, AreFunctionsOf}
use Rattle.never_returns.proofs.AdmitsLemmas.{never_still, monotone}

pub same_some : {A : Type 0} {x y : A} → Some x ≡ Some y → x ≡ y
same_some e = cc

known_in : (count : ℕ) (M : ℕ → Bool) (i : ℕ) → i < count → known count M i ≡ M i
known_in count M i low = ap (λ b. cond b (M i) false) (lt-ltb i count low)

named_same : (count : ℕ) (M : ℕ → Bool) (g : Bool) (o : Option ℕ) → ((i : ℕ) → o ≡ Some i → i < count)
    → stops_by (known count M) (cond g c.Stops (numbered o)) ≡ (if g then true else is_marked M o)
named_same count M true o below = refl
named_same count M false None below = refl
named_same count M false (Some i) below = known_in count M i (below i refl)

-- a call by number stops control where the call by name does
stops_same : (given : Member → Bool) (number : Member → Option ℕ) (count : ℕ) (M : ℕ → Bool) → ((m : Member) (i : ℕ) → number m ≡ Some i → i < count) → (callee : Callee)
    → stops_by (known count M) (call_of given number callee) ≡ stops (with_given given (by_number number M)) callee
stops_same given number count M below Other = refl
stops_same given number count M below Panic = refl
stops_same given number count M below (Named m) = named_same count M (given m) (number m) (below m)

-- a body, and a block that is it
record Same (given : Member → Bool) (number : Member → Option ℕ) (count : ℕ) (M : ℕ → Bool) (b : Body) (f : FileFlow) (block : Block) : Type 0 where
  there : NeverReturns f.tree.now f.labels.now (stops_of f.calls.now (known count M)) block.node
      → NeverReturns b.tree b.labels (λ n. stops (with_given given (by_number number M)) (b.callee n)) b.block
  back : NeverReturns b.tree b.labels (λ n. stops (with_given given (by_number number M)) (b.callee n)) b.block
      → NeverReturns f.tree.now f.labels.now (stops_of f.calls.now (known count M)) block.node

same_never : (files : List FileFlow) (given : Member → Bool) (number : Member → Option ℕ) (count : ℕ) (M : ℕ → Bool) → ((m : Member) (i : ℕ) → number m ≡ Some i → i < count)
    → (b : Body) (block : Block) (is : IsBlockOf files given number b block) → Same given number count M b is.file block
same_never files given number count M below b block is = record {
  there = λ never.
      never_still b.tree b.labels b.block numbers names (λ n reached e. sym (one n) ∙ e)
      (subst (λ t. NeverReturns t b.labels numbers b.block) is.tree
      (subst (λ l. NeverReturns is.file.tree.now l numbers b.block) is.labels
      (subst (λ k. NeverReturns is.file.tree.now is.file.labels.now numbers k) is.node never)));
  back = λ never.
      subst (λ k. NeverReturns is.file.tree.now is.file.labels.now numbers k) (sym is.node)
      (subst (λ l. NeverReturns is.file.tree.now l numbers b.block) (sym is.labels)
      (subst (λ t. NeverReturns t b.labels numbers b.block) (sym is.tree)
      (never_still b.tree b.labels b.block names numbers (λ n reached e. one n ∙ e) never)));
}
  where
    numbers : ℕ → Bool
    numbers = stops_of is.file.calls.now (known count M)

    names : ℕ → Bool
    names n = stops (with_given given (by_number number M)) (b.callee n)

    one : (n : ℕ) → numbers n ≡ names n
    one n = ap (stops_by (known count M)) (is.calls n) ∙ stops_same given number count M below (b.callee n)

-- a body that never returns, by name
abbrev NamedNever : (Member → Bool) → (Member → Option ℕ) → (ℕ → Bool) → Option Body → Type 0
NamedNever given number M body = (b : Body) × (body ≡ Some b) × NeverReturns b.tree b.labels (λ n. stops (with_given given (by_number number M)) (b.callee n)) b.block

no_body : {C : Type 0} (b : Body) → None ≡ Some b → C
no_body b e = absurd cc

to_name : (files : List FileFlow) (given : Member → Bool) (number : Member → Option ℕ) (count : ℕ) (M : ℕ → Bool) → ((m : Member) (i : ℕ) → number m ≡ Some i → i < count)
    → (body : Option Body) (block : Option Block) → IsBodyOf files given number body block → BodyNever files (known count M) block → NamedNever given number M body
to_name files given number count M below None None is w = absurd w
to_name files given number count M below None (Some block) is w = absurd is
to_name files given number count M below (Some b) None is w = absurd w
to_name files given number count M below (Some b) (Some block) is w =
    let same : w.0 ≡ is.file = same_some (sym w.1 ∙ is.there) in (
      b,
      refl,
      (same_never files given number count M below b block is).there
          (subst (λ (f : FileFlow). NeverReturns f.tree.now f.labels.now (stops_of f.calls.now (known count M)) block.node) same w.2),
    )

to_number : (files : List FileFlow) (given : Member → Bool) (number : Member → Option ℕ) (count : ℕ) (M : ℕ → Bool) → ((m : Member) (i : ℕ) → number m ≡ Some i → i < count)
    → (body : Option Body) (block : Option Block) → IsBodyOf files given number body block → NamedNever given number M body → BodyNever files (known count M) block
to_number files given number count M below None None is w = no_body w.0 w.1
to_number files given number count M below None (Some block) is w = no_body w.0 w.1
to_number files given number count M below (Some b) None is w = absurd is
to_number files given number count M below (Some b) (Some block) is w =
    let same : w.0 ≡ b = same_some (sym w.1) in (
      is.file,
      is.there,
      (same_never files given number count M below b block is).back
          (subst (λ (x : Body). NeverReturns x.tree x.labels (λ n. stops (with_given given (by_number number M)) (x.callee n)) x.block) same w.2),
    )

pub either : {A B C : Type 0} → A ⊎ B → (A → C) → (B → C) → C
either (inl a) f g = f a
either (inr b) f g = g b

function_at : (functions : List Function) (i : ℕ) → i < length functions → (g : Function) × (slice_get functions i ≡ Some g)
function_at functions i low = let d : Function = record { listed = false; body = None } in (_, slice_get-get_or functions i d low)

to_admits : (listed : Member → Bool) (bodies : Member → Option Body) (p : List ℕ) (given : Member → Bool) (number : Member → Option ℕ) (name : ℕ → Member) (files : List FileFlow) (functions : List Function)
    → AreFunctionsOf listed bodies p given number name files functions → (M : ℕ → Bool) (i : ℕ)
    → AdmitsAt files functions M i → admits_number (Admits listed bodies) given number name M i
to_admits listed bodies p given number name files functions are M i a = either a.2
    (λ l. inl (sym (are.listed_so i a.0 a.1) ∙ l))
    (λ w. inr (to_name files given number (length functions) M are.numbering.below (bodies (name i)) a.0.body (are.body_so i a.0 a.1) w))

by_admits : (listed : Member → Bool) (bodies : Member → Option Body) (p : List ℕ) (given : Member → Bool) (number : Member → Option ℕ) (name : ℕ → Member) (files : List FileFlow) (functions : List Function)
    → AreFunctionsOf listed bodies p given number name files functions → (M : ℕ → Bool) (i : ℕ) → i < length functions
    → admits_number (Admits listed bodies) given number name M i → AdmitsAt files functions M i
by_admits listed bodies p given number name files functions are M i low a =
    let g = function_at functions i low in (
      g.0,
      g.1,
      either a
          (λ l. inl (are.listed_so i g.0 g.1 ∙ l))
          (λ w. inr (to_number files given number (length functions) M are.numbering.below (bodies (name i)) g.0.body (are.body_so i g.0 g.1) w)),
    )

pub by_functions : (listed : Member → Bool) (bodies : Member → Option Body) (p : List ℕ) (given : Member → Bool) (number : Member → Option ℕ) (name : ℕ → Member) (files : List FileFlow) (functions : List Function) (marks : ℕ → Bool)
    → AreFunctionsOf listed bodies p given number name files functions → IsLeast (among (length functions) (AdmitsAt files functions)) marks
    → IsLeastIn home (Admits listed bodies) p given (by_number number marks)
by_functions listed bodies p given number name files functions marks are l =
    by_numbers home (Admits listed bodies) p given (length functions) number name marks (monotone listed bodies) are.numbering
    (record {
      closed = λ i a. l.closed i (a.0, by_admits listed bodies p given number name files functions are marks i a.0 a.1);
      least = λ M closed i is. l.least M (λ j a. closed j (a.0, to_admits listed bodies p given number name files functions are M j a.1)) i is;
    })

-- By the rows of the graphs it is the same.

body_same : (files : List FileFlow) (N : ℕ → Bool) → AreGraphs files → (body : Option Block) → BodyBy files N body ↔ BodyNever files N body
body_same files N graphs None = (λ w. w, λ w. w)
body_same files N graphs (Some b) = (
  λ w. (w.0, w.1, (never_by_rows w.0.tree.now w.0.labels.now w.0.graph.now (stops_of w.0.calls.now N) b.node (graphs b.file w.0 w.1)).0 w.2),
  λ w. (w.0, w.1, (never_by_rows w.0.tree.now w.0.labels.now w.0.graph.now (stops_of w.0.calls.now N) b.node (graphs b.file w.0 w.1)).1 w.2),
)

to_at : (files : List FileFlow) (functions : List Function) → AreGraphs files → (N : ℕ → Bool) (i : ℕ) → AdmitsBy files functions N i → AdmitsAt files functions N i
to_at files functions graphs N i a = (a.0, a.1, either a.2 (λ l. inl l) (λ w. inr ((body_same files (known (length functions) N) graphs a.0.body).0 w)))

by_at : (files : List FileFlow) (functions : List Function) → AreGraphs files → (N : ℕ → Bool) (i : ℕ) → AdmitsAt files functions N i → AdmitsBy files functions N i
by_at files functions graphs N i a = (a.0, a.1, either a.2 (λ l. inl l) (λ w. inr ((body_same files (known (length functions) N) graphs a.0.body).1 w)))

pub least_same : (files : List FileFlow) (functions : List Function) → AreGraphs files → (marks : ℕ → Bool)
    → IsLeast (among (length functions) (AdmitsBy files functions)) marks → IsLeast (among (length functions) (AdmitsAt files functions)) marks
least_same files functions graphs marks l = record {
  closed = λ i a. l.closed i (a.0, by_at files functions graphs marks i a.1);
  least = λ M closed i is. l.least M (λ j a. closed j (a.0, to_at files functions graphs M j a.1)) i is;
}
