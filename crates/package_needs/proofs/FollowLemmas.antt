-- Where the names of types lead.
use Rattle.std.proofs.Common.{◌≡◌, ◌<◌, Bool, true, false, if◌then◌else◌, Option, Some, None, option_and_then, refl, sym, ◌∙◌, subst}
use Rattle.std.proofs.Math.Dec.{ltb}
use Rattle.go_tree.specs.declared.tree.NodeRef.{NodeRef}
use Rattle.object_order.specs.Spots.{World, is_paren}
use Rattle.package_needs.specs.Follow.{kind_at, part_in, if_before, inside, unwraps, Peels, by_name, next, Ends, bare, in_parens, there, on}
use Rattle.std.proofs.lemmas.Bool.{ltb-true}

some_before : (b : Bool) (at part p : NodeRef) → ltb part.node at.node ≡ b → (if b then Some part else None) ≡ Some p → p.node < at.node
some_before true at part p e is = let same : part ≡ p = (cc) in subst (λ (x : NodeRef). x.node < at.node) same (ltb-true part.node at.node e)
some_before false at part p e is = absurd (cc)

from_part : (at p : NodeRef) (o : Option NodeRef) → option_and_then (if_before at) o ≡ Some p → p.node < at.node
from_part at p None is = absurd (cc)
from_part at p (Some part) is = some_before (ltb part.node at.node) at part p refl is

when : (w : World) (at p : NodeRef) (b : Bool) → (if b then inside w at else None) ≡ Some p → (b ≡ true) × (inside w at ≡ Some p)
when w at p true is = (refl, is)
when w at p false is = absurd (cc)

-- what stands in parentheses comes before them
pub unwraps_down : (w : World) (at p : NodeRef) → Some p ≡ unwraps w at → p.node < at.node
unwraps_down w at p is = from_part at p (part_in w 0 at) ((when w at p (is_paren (kind_at w at)) (sym is)).1)

-- what the rest peels to, the whole does
pub peels_on : (w : World) (start at part : NodeRef) → Some part ≡ unwraps w at → ((b : NodeRef) → Peels w at b → Peels w start b) → (b : NodeRef) → Peels w part b → Peels w start b
peels_on w start at part is was b p = was b (in_parens (sym is) p)

chosen : (a c : Option NodeRef) (b : Bool) → b ≡ true → (if b then a else c) ≡ a
chosen a c true is = refl
chosen a c false is = absurd (cc)

-- a type in parentheses goes on in them
pub unwraps_next : (w : World) (far : Bool) (at p : NodeRef) → unwraps w at ≡ Some p → next w far at ≡ Some p
unwraps_next w far at p is = (let (paren, part_is) = when w at p (is_paren (kind_at w at)) is in chosen (inside w at) (by_name w far at) (is_paren (kind_at w at)) paren ∙ part_is)

-- the type ends where it ends without its parentheses
pub peels_end : {w : World} {far : Bool} {at b x : NodeRef} → Peels w at b → Ends w far b x → Ends w far at x
peels_end {w} {far} {at} {b} {x} (bare none same) ends = subst (λ (n : NodeRef). Ends w far n x) (sym same) ends
peels_end {w} {far} {at} {b} {x} (in_parens {part = part} is more) ends = on (unwraps_next w far at part is) (peels_end more ends)

absent : {A P : Type 0} (o : Option A) (x : A) → o ≡ None → o ≡ Some x → P
absent o x p q = absurd (cc)

one : {A : Type 0} (o : Option A) (x y : A) → o ≡ Some x → o ≡ Some y → x ≡ y
one o x y p q = cc

-- where a type goes on, it ends where that ends
pub step_back : {w : World} {far : Bool} {at x : NodeRef} → Ends w far at x → (to : NodeRef) → next w far at ≡ Some to → Ends w far to x
step_back {w} {far} {at} {x} (there none same) to is = absent (next w far at) to none is
step_back {w} {far} {at} {x} (on {to = next_to} step rest) to is = subst (λ (n : NodeRef). Ends w far n x) (one (next w far at) next_to to step is) rest

-- where it goes no further, it ends
pub stop_back : {w : World} {far : Bool} {at x : NodeRef} → Ends w far at x → next w far at ≡ None → at ≡ x
stop_back {w} {far} {at} {x} (there none same) is = same
stop_back {w} {far} {at} {x} (on {to = to} step rest) is = absent (next w far at) to is step

pub peels_back : {w : World} {far : Bool} {at b x : NodeRef} → Peels w at b → Ends w far at x → Ends w far b x
peels_back {w} {far} {at} {b} {x} (bare none same) ends = subst (λ (n : NodeRef). Ends w far n x) same ends
peels_back {w} {far} {at} {b} {x} (in_parens {part = part} is more) ends = peels_back more (step_back ends part (unwraps_next w far at part is))
