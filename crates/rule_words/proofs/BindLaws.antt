-- What is told of a rule that goes on from another's outcome.
use Rattle.std.proofs.Common.{◌≡◌, sym, ◌∙◌}
use Rattle.mark_walk.specs.Asks.{Ask, bind}
use Rattle.mark_walk.specs.Telling.{Outcome, Says, Waits, Sight, tell}
use Rattle.mark_walk.proofs.TellLaws.{told_bind}
use Rattle.type_questions.specs.Questions.{Question, Told}
use Rattle.typed_marks.specs.declared.item.Item.{Item}
use Rattle.typed_marks.specs.declared.state.State.{State}
use Rattle.typed_marks.specs.Meanings.{Meaning}
use Rattle.rule_words.specs.Asking.{Asks}
use Rattle.rule_words.specs.Scenes.{sight}

pub says_bind : {I M Q A R S : Type 0} (s : Sight I M Q A) (r : Ask I M Q A R) (rest : R → Ask I M Q A S) (x : R) (o : Outcome I M Q A S)
    → Says x ≡ tell s r → o ≡ tell s (rest x) → o ≡ tell s (bind r rest)
says_bind s r rest x o told more = more ∙ sym (told_bind s r rest (Says x) (sym told))

pub waits_bind : {I M Q A R S : Type 0} (s : Sight I M Q A) (r : Ask I M Q A R) (rest : R → Ask I M Q A S) (i : I) → Waits i ≡ tell s r → Waits i ≡ tell s (bind r rest)
waits_bind s r rest i told = sym (told_bind s r rest (Waits i) (sym told))

-- the same of what is seen of a state: `search (rules, waits_at, ..)` takes these where the general ones leave the sight open
pub says_at : {R S : Type 0} (s : State) (r : Asks R) (rest : R → Asks S) (x : R) (o : Outcome Item Meaning Question Told S)
    → Says x ≡ tell (sight s) r → o ≡ tell (sight s) (rest x) → o ≡ tell (sight s) (bind r rest)
says_at s r rest x o told more = says_bind (sight s) r rest x o told more

pub waits_at : {R S : Type 0} (s : State) (r : Asks R) (rest : R → Asks S) (i : Item) → Waits i ≡ tell (sight s) r → Waits i ≡ tell (sight s) (bind r rest)
waits_at s r rest i told = waits_bind (sight s) r rest i told
