-- What the search says that an object needs is what the four cases say.
use Rattle.std.proofs.Common.{◌≡◌, ◌⊎◌, ◌↔◌, List, [], ◌∷◌, refl, sym, ap, ◌∙◌, subst, inl, inr}
use Rattle.go_tree.specs.declared.tree.NodeRef.{NodeRef}
use Rattle.object_order.specs.declared.needed.Needed.{Needed}
use Rattle.object_order.specs.Paths.{Path, Leads}
use Rattle.object_order.specs.Spots.{World, moves}
use Rattle.object_order.specs.Orders.{NeedsBy, IsNeedOrder}
use Rattle.object_order.specs.Cases.{NeedsOf, by_type, by_alias, by_expression, by_steps}
use Rattle.object_order.proofs.HopLemmas.{path_over}
use Rattle.object_order.proofs.FindLemmas.{arrives_needs}
use Rattle.object_order.proofs.ArriveLemmas.{by_type_comes, by_alias_comes, by_expression_comes}
use Rattle.object_order.proofs.StepLemmas.{turns_steps, steps_turn}

pub to_cases : (w : World) (o u : NodeRef) → NeedsBy (moves w) o u → NeedsOf w o u
to_cases w o u (inl arrives) = arrives_needs w u o arrives
to_cases w o u (inr (same, turns)) = by_steps same (turns_steps w o turns)

pub from_cases : (w : World) (o u : NodeRef) → NeedsOf w o u → NeedsBy (moves w) o u
from_cases w o u (by_type at root mentions) = inl (by_type_comes w u o at root mentions)
from_cases w o u (by_alias at alias root mentions is) = inl (by_alias_comes w u o at alias root mentions is)
from_cases w o u (by_expression e v rests mentions reached) = inl (by_expression_comes w u o e v rests mentions reached)
from_cases w o u (by_steps same leads) = inr (same, steps_turn w o leads)

leads_over : (r q : NodeRef → NodeRef → Type 0) → ((a b : NodeRef) → r a b → q a b) → (a b : NodeRef) → Leads r a b → Leads q a b
leads_over r q f a b leads = (leads.0, path_over r q f a leads.0 b leads.1)

-- an order of need by one relation is one by any that is the same
pub order_over : (r q : NodeRef → NodeRef → Type 0) (is_object : NodeRef → Type 0) (order : List Needed) → ((a b : NodeRef) → r a b → q a b) → ((a b : NodeRef) → q a b → r a b)
    → IsNeedOrder r is_object order → IsNeedOrder q is_object order
order_over r q is_object order to back was = record {
  only = was.only;
  each = was.each;
  once = was.once;
  after = λ k e at u need apart. was.after k e at u (back e.object u need) (λ leads. apart (leads_over r q to u e.object leads));
  cyclic = λ k e at. (λ t. leads_over r q to e.object e.object ((was.cyclic k e at).0 t), λ leads. (was.cyclic k e at).1 (leads_over q r back e.object e.object leads));
}
