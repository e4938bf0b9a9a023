-- The item that declares the type of a name.
use Rattle.std.proofs.Common.{◌≡◌, true, refl, sym, ap, ◌∙◌}
use Rattle.go_tree.specs.declared.tree.NodeRef.{NodeRef}
use Rattle.typed_marks.specs.declared.item.Item.{Item}
use Rattle.typed_marks.specs.declared.item.Stage.{Stage}
use Rattle.typed_marks.specs.declared.item.Stage.TheVariants as st
use Rattle.rule_words.specs.Asking.{item}
use Rattle.elaborate.specs.Walks.{is_declaring}

declares_under : (stage : Stage) → is_declaring stage ≡ true → stage ≡ st.Under
declares_under st.Before e = absurd cc
declares_under st.Wanted e = absurd cc
declares_under st.Judged e = absurd cc
declares_under st.Placed e = absurd cc
declares_under st.Object e = absurd cc
declares_under st.Under e = refl

pub own_item : (i : Item) (at : NodeRef) → is_declaring i.stage ≡ true → i.block ≡ at.file → i.node ≡ at.node → item st.Under at.file at.node ≡ i
own_item i at stage block node =
    ap (λ b. item st.Under b at.node) (sym block) ∙ (ap (λ n. item st.Under i.block n) (sym node) ∙ ap (λ s. item s i.block i.node) (sym (declares_under i.stage stage)))
