-- What is found of a package over what is seen of some others, where nothing lacks, is found where more is seen of them.
use Rattle.std.proofs.Common.{ℕ, List, []}
use Rattle.package_faces.specs.Faces.{Face}
use Rattle.unit_read.specs.Units.{Unit}
use Rattle.unit_read.proofs.BareLemmas.{over}
use Rattle.go_rules.specs.Stages.{rule}
use Rattle.check_pkg.specs.Packages.{Package, IsUnit}
use Rattle.check_pkg.specs.declared.refusal.Refusal.{Refusal}
use Rattle.check_pkg.specs.Refusals.{HasMarks}
use Rattle.action_graph.specs.Closed.{Grows, IsClosed, Reserved}
use Rattle.action_graph.specs.Judging.{Env, Judged, IsPackageOf, IsAccepted, IsRefused, Finds, Judges}
use Rattle.action_graph.specs.Judging.Judged.{Accepts, Refuses}
use Rattle.action_graph.specs.declared.marks.MarkLine.{MarkLine}
use Rattle.action_graph.specs.Nodes.{Named}
use Rattle.action_graph.proofs.StayDecided.{decides}
use Rattle.action_graph.proofs.StayExports.{exports_stay}
use Rattle.action_graph.proofs.StayFit.{fit_stays}
use Rattle.action_graph.proofs.StayImports.{Within}
use Rattle.action_graph.proofs.StayRefusals.{marks_stay}
use Rattle.action_graph.proofs.StayUnits.{within, unit_stays}

module _ (path : List ℕ) (files : List Named) (p : Package) (of : IsPackageOf path files p) (env world : Env) (closed : IsClosed path files env) (grows : Grows env world) (reserved : Reserved world) where
  module _ (u : Unit) (unit : IsUnit p env u) where
    around : Within u world
    around = within path files p of env world closed grows reserved u unit

    still : IsUnit p world (over u world)
    still = unit_stays path files p of env world closed grows reserved u unit

    marks_there : (list : List Refusal) → HasMarks rule u list → HasMarks rule (over u world) list
    marks_there list has = marks_stay u world (within path files p of env world closed grows reserved u unit) rule (decides u world (within path files p of env world closed grows reserved u unit)) list has

  accepted : (f : Face) → IsAccepted p env f → IsAccepted p world f
  accepted f is = record {
    unit = over is.unit world;
    «is» = still is.unit is.«is»;
    marks = marks_there is.unit is.«is» [] is.marks;
    exports = exports_stay is.unit world (around is.unit is.«is») rule is.marks.marks is.marks.annotated f is.exports;
    fit = fit_stays p env world grows closed.mentions f is.fit;
  }

  refused : (lines : List MarkLine) → IsRefused p env lines → IsRefused p world lines
  refused lines is = record {
    unit = over is.unit world;
    «is» = still is.unit is.«is»;
    list = is.list;
    marks = marks_there is.unit is.«is» is.list is.marks;
    ordered = is.ordered;
    some = is.some;
    lines_are = is.lines_are;
  }

  finds_stay : (judged : Judged) → Finds p env judged → Finds p world judged
  finds_stay (Accepts f) is = accepted f is
  finds_stay (Refuses lines) is = refused lines is

-- what is found over the environment is found over the world
pub findings_stay : (path : List ℕ) (files : List Named) (env world : Env) (judged : Judged) → IsClosed path files env → Grows env world → Reserved world → Judges path files env judged → Judges path files world judged
unfolding Judges
findings_stay path files env world judged closed grows reserved (p, (of, finds)) = (p, (of, finds_stay path files p of env world closed grows reserved judged finds))
