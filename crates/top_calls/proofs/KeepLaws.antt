-- The keeper at the beginning and after a run; and what causes are allowed at which moment.
use Rattle.std.proofs.Common.{◌≡◌, List, ℕ, Option, None, Some, Bool, true, false, sym, ap, ◌∙◌}
use Rattle.std.specs.Prelude.{Result, Ok, Err, IfOk}
use Rattle.gv_base.specs.Keepers.{IsKept}
use Rattle.top_calls.specs.declared.keep.Opening.{Opening}
use Rattle.top_calls.specs.declared.stop.Cut.{Cut}
use Rattle.top_calls.specs.declared.stop.Cut.TheVariants.{Source, Tree, Keeper, Sink, Memory, Stalled, Circle}
use Rattle.top_calls.specs.Standing.{Standing}
use Rattle.top_calls.specs.Outcome.{IsCauseAt}
use Rattle.top_calls.specs.Ends.{Moment, may}
use Rattle.top_calls.specs.Desk.{IsHeld, Finds}

holds-of : (held : Option (Option (List ℕ))) (bytes : List ℕ) (kept : Option (List ℕ)) → IsKept held (Some bytes) → Some bytes ≡ kept → IsHeld held kept
holds-of None bytes kept e h = tt
holds-of (Some k) bytes kept e h = sym e ∙ h

pub Finds-of : (held : Option (Option (List ℕ))) (bytes : List ℕ) (r : Result Opening Cut) → IsKept held (Some bytes) → IfOk r (λ o. Finds (Some (Some bytes)) o.cache o.ignored) → IfOk r (λ o. Finds held o.cache o.ignored)
Finds-of held bytes (Ok o) e f = record { kept = f.kept; holds = holds-of held bytes f.kept e f.holds; opens = f.opens }
Finds-of held bytes (Err cut) e f = f

pub false-true : {X : Type 0} → false ≡ true → X
false-true e = absurd (let x : ◌≡◌ {A = Bool} false true = e in cc)

-- what is not allowed doesn't come
pub not-allowed : (cut other : Cut) (m : Moment) → may other m ≡ false → may cut m ≡ true → cut ≡ other → ⊥
not-allowed cut other m f t e = false-true (sym f ∙ (ap (λ z. may z m) (sym e) ∙ t))

-- where neither the source nor a circle cuts a session short, nothing more is asked of the cause
pub cause-elsewhere : (cut : Cut) (m : Moment) → may Source m ≡ false → may Circle m ≡ false → may cut m ≡ true → (now : Standing) (offset : ℕ) (rest : List ℕ) → IsCauseAt cut now offset rest
cause-elsewhere Source m s c t now offset rest = false-true (sym s ∙ t)
cause-elsewhere Circle m s c t now offset rest = false-true (sym c ∙ t)
cause-elsewhere Tree m s c t now offset rest = tt
cause-elsewhere Keeper m s c t now offset rest = tt
cause-elsewhere Sink m s c t now offset rest = tt
cause-elsewhere Memory m s c t now offset rest = tt
cause-elsewhere Stalled m s c t now offset rest = tt
