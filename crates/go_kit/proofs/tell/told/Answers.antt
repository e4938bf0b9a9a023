use Rattle.std.proofs.Common.{ℕ, List, sym, ◌∙◌, subst}
use Rattle.package_faces.specs.Faces.{Face}
use Rattle.unit_read.specs.Index.{found}
use Rattle.action_graph.specs.Judging.{Tells, load_text}
use Rattle.action_graph.specs.Judging.Judged.{Accepts}
use Rattle.go_kit.specs.Reading.{IsSeenOf}
use Rattle.go_kit.proofs.tell.told.Goals as goal

pub returns-clause-accepted : goal.returns-clause-accepted
returns-clause-accepted c = λ none.
    subst (λ (name : List ℕ). (f : Face) × IsSeenOf c.args.path.now name (λ q. found c.args.places.now q) c.args.checked f × Tells (Accepts f) (load_text c.in_ok-told.told.0))
    c.package_name.ensures c.in_ok-told.ensures.told

pub returns-clause-refused : goal.returns-clause-refused
returns-clause-refused c = λ some. absurd (some (sym c.deref.ensures.value ∙ c.are_none.ensures.none c.if-not-are_none.false))
