use Rattle.std.proofs.Common.{◌≡◌, Option, Some, sym, ap, ◌∙◌}
use Rattle.go_tree.specs.declared.bindings.Object.{Object}
use Rattle.go_tree.specs.declared.tree.NodeRef.{NodeRef}
use Rattle.mark_walk.specs.Asks.{done}
use Rattle.mark_walk.specs.Telling.{Says, tell}
use Rattle.typed_tree.specs.Meanings.{Meaning as TreeMeaning}
use Rattle.typed_tree.specs.Places.{use_mark}
use Rattle.unit_read.specs.Exports.{used_lead}
use Rattle.unit_read.specs.Imports.{lead_at, import_meaning, bare}
use Rattle.unit_read.specs.Units.{Unit}
use Rattle.unit_read.specs.Subjects.{full_of}
use Rattle.unit_read.specs.declared.lead.Lead.{Lead}
use Rattle.unit_read.proofs.BareLemmas.{bare_meaning}
use Rattle.typed_marks.specs.Meanings.{Meaning, Wish}
use Rattle.typed_marks.specs.declared.state.State.{State}
use Rattle.rule_words.specs.Answers.{answer_in}
use Rattle.rule_words.specs.Scenes.{sight}
use Rattle.rule_words.specs.Wishes.{wish_of}
use Rattle.op_rules.specs.Names.{wished, denoted}
use Rattle.op_rules.proofs.name.judge_object.Goals as goal

-- an import means to the rules what it means over the whole environment
import_says : (s : State) (wish : Wish) (u : Unit) (at : NodeRef) (lead : Option Lead) (x : Meaning) → lead ≡ lead_at u at → x ≡ wished wish (used_lead lead) →
    Says x ≡ tell (sight s) (done (wished wish (use_mark (Some (import_meaning (bare u) at)))))
import_says s wish u at lead x led is =
    ap Says (is ∙ ap (λ (l : Option Lead). wished wish (used_lead l)) led ∙ ap (λ (m : TreeMeaning). wished wish (use_mark (Some m))) (sym (bare_meaning u at)))

pub returns-in-Import-clause-is : goal.returns-in-Import-clause-is
returns-in-Import-clause-is c =
    let s = c.args.s.now in
    let u = full_of c.args.u.now in
    let wish = wish_of s c.args.want in
    import_says s wish u c.in-Import.at c.lead_at.result (answer_in s c.wished-in-Import.result) c.lead_at.ensures
    (c.wished-in-Import.ensures.is (used_lead c.lead_at.result) c.judge_lead.ensures)
    ∙ ap (λ (o : Object). tell (sight s) (denoted (bare u) c.args.iota wish (Some o))) (sym c.in-Import.is)
