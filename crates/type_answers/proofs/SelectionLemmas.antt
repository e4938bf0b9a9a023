-- The types of a selection stand in the table.
use Rattle.std.proofs.Common.{◌≡◌, subst}
use Rattle.method_sets.specs.declared.selection.Selected.{Selected}
use Rattle.method_sets.specs.declared.selection.Selected.TheVariants as selected
use Rattle.method_sets.specs.declared.selection.Selection.{Selection}
use Rattle.method_sets.specs.declared.selection.Selection.TheVariants as selection
use Rattle.method_sets.specs.Levels.{ToSelect, EnoughToSelect, NeedsToSelect, IsSelectionIn}
use Rattle.method_sets.specs.Members.{Part}
use Rattle.method_sets.specs.Selections.{Shows}
use Rattle.type_growth.specs.declared.reply.Reply.{Reply}
use Rattle.type_growth.specs.declared.reply.Reply.TheVariants as reply
use Rattle.type_growth.specs.Lasting.{IsReply}
use Rattle.type_model.specs.declared.table.TypeTable.{TypeTable}
use Rattle.type_model.specs.declared.term.TypeName.{TypeName}
use Rattle.type_model.specs.Declarations.{Declaration, Declarations}
use Rattle.type_model.specs.Tables.{declarations_in}
use Rattle.type_questions.specs.declared.reached.Found.{Found}
use Rattle.type_questions.specs.declared.reached.Found.TheVariants as f
use Rattle.type_questions.specs.declared.reached.Reached.{Reached}
use Rattle.type_questions.specs.declared.reached.Reached.TheVariants.{Got, Lost}
use Rattle.type_questions.specs.Judging.{IsFoundBy}
use Rattle.typed_marks.specs.declared.item.Item.{Item}
use Rattle.typed_marks.specs.Meanings.{Meaning}
use Rattle.type_answers.specs.Answering.{IsSelectedBelow, IsSelectionBelow, AreSelectedBelow}

shown_below : (t : TypeTable) (kind : Selected) (part : Part) → Shows t kind part → IsSelectedBelow t kind
shown_below t (selected.Field of) part shows = shows.0
shown_below t (selected.Method of pointer) part shows = shows.0

said_below : (t : TypeTable) (ds : Declarations) (q : ToSelect) (given : Selection) → IsSelectionIn t ds q given → IsSelectionBelow t given
said_below t ds q (selection.Found path kind) (a, m, begins, selects, shows, is_given) = shown_below t kind m.is shows
said_below t ds q (selection.Ambiguous depth) said = tt
said_below t ds q selection.Absent said = tt

pub selection_below : (t : TypeTable) (base : Declarations) (under : TypeName → _) (reads : Meaning → _) (so_far : Item → _) (q : ToSelect) (r : Reply Selection) (found : Found (Reached Selection) Item)
    → IsReply EnoughToSelect NeedsToSelect (IsSelectionIn t) t q r → IsFoundBy t base under reads so_far r found → AreSelectedBelow t found
selection_below t base under reads so_far q (reply.Is a) (f.Is (Got b)) (enough, said) same = subst (λ (x : Selection). IsSelectionBelow t x) same (said_below t (declarations_in t) q a said)
selection_below t base under reads so_far q (reply.Is a) (f.Is Lost) said never = tt
selection_below t base under reads so_far q (reply.Is a) (f.Wait item) said never = tt
selection_below t base under reads so_far q (reply.Waits id) (f.Is (Got b)) said never = absurd never
selection_below t base under reads so_far q (reply.Waits id) (f.Is Lost) said nothing = tt
selection_below t base under reads so_far q (reply.Waits id) (f.Wait item) said waits = tt
