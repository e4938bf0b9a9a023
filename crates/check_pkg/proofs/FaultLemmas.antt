-- What the marks of items refuse.
use Rattle.std.proofs.Common.{◌≡◌, List, [], ◌∷◌, ◌++◌, Option, Some, None, refl, sym, ap, ◌∙◌}
use Rattle.gv_base.specs.declared.place.Place.{Place}
use Rattle.check_pkg.specs.declared.refusal.Fault.{Fault}
use Rattle.check_pkg.specs.declared.refusal.Refusal.{Refusal}
use Rattle.check_pkg.specs.Gains.{Gains}
use Rattle.check_pkg.proofs.Lists.{same_some}
use Rattle.check_pkg.proofs.GainLemmas.{gains_none, gains_push}

-- what a mark refuses that has this fault, or none
abbrev pub Refuses : Option Fault → (Fault → Place) → Refusal → Type 0
Refuses o spot x = (o ≡ Some x.fault) × (x.place ≡ spot x.fault)

abbrev pub made : Place → Fault → Refusal
made at fault = record { place = at; fault = fault }

pub same_refusal : (x : Refusal) (at : Place) (fault : Fault) → x.place ≡ at → x.fault ≡ fault → x ≡ record { place = at; fault = fault }
same_refusal x at fault p f = ap (λ (q : Place). made q x.fault) p ∙ ap (λ (g : Fault). made at g) f

pub gains_fault : (o : Option Fault) (spot : Fault → Place) (fault : Fault) (at : Place) (old new : List Refusal) → o ≡ Some fault → at ≡ spot fault
    → new ≡ old ++ record { place = at; fault = fault } ∷ [] → Gains (Refuses o spot) old new
gains_fault o spot fault at old new some is push =
    gains_push (Refuses o spot) old new (record { place = at; fault = fault }) push (some, is) (λ x (here, lies).
    let same : x.fault ≡ fault = same_some o x.fault fault here some in
    same_refusal x at fault (lies ∙ (ap spot same ∙ sym is)) same)

pub gains_no_fault : (o : Option Fault) (spot : Fault → Place) (list : List Refusal) → o ≡ None → Gains (Refuses o spot) list list
gains_no_fault o spot list none = gains_none (Refuses o spot) list list refl (λ x (here, lies). absurd (let e : None ≡ Some x.fault = sym none ∙ here in cc))
