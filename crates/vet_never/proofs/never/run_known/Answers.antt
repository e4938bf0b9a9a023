use Rattle.std.proofs.Common.{◌≡◌, ℕ, List, Bool, length, ap, sym, subst, arith}
use Rattle.findings.specs.Passes.{unit_in, marks_in}
use Rattle.handed_facts.proofs.HandedLemmas.{hands_in}
use Rattle.least.specs.Work.{set_of, among}
use Rattle.least.specs.Least.{IsLeast}
use Rattle.never_returns.specs.Bodies.{AdmitsAt, AreGraphs}
use Rattle.never_returns.specs.declared.files.FileFlow.{FileFlow}
use Rattle.never_returns.specs.declared.files.Function.{Function}
use Rattle.own_functions.specs.Functions.{functions, number, member_at}
use Rattle.own_functions.proofs.ListLemmas.{size_is}
use Rattle.own_functions.proofs.NameLemmas.{place_there, place_none}
use Rattle.vet_never.specs.declared.files.FileKnown.{FileKnown}
use Rattle.vet_never.specs.Knowing.{handed_in, AreLent, AreFunctions, AreFlaggedNames}
use Rattle.vet_never.specs.Listed.{listed_in}
use Rattle.vet_never.specs.Never.{bodies_in}
use Rattle.vet_never.proofs.FileLemmas.{graphs_are}
use Rattle.vet_never.proofs.KnownLemmas.{around, is_around, functions_are}
use Rattle.vet_never.proofs.TextLemmas.{text_is}
use Rattle.vet_never.proofs.never.run_known.Goals as goal

-- guessed: deref is `&files`, deref-2 `&flows`, deref-3 `&functions`, deref-4 `&flags`; what is lent is put in by these
pub all_lent-requires : goal.all_lent-requires
all_lent-requires c = let size = c.in_ok-files.ensures.size in omega (arith, size, ap length c.deref.ensures.value)

pub never_returning-requires-clause-graphs : goal.never_returning-requires-clause-graphs
never_returning-requires-clause-graphs c =
    let p = c.args.p.now in
    let lent = subst (λ (l : List FileKnown). AreLent p.subject.now.trees.now l (length p.subject.now.trees.now) c.in_ok-flows.flows.items) c.deref.ensures.value c.in_ok-flows.ensures in
    subst (λ (l : List FileFlow). AreGraphs l) (sym c.deref-2.ensures.value) (graphs_are (unit_in p) (marks_in p) c.args.known.now c.in_ok-files.files.items c.in_ok-flows.flows.items c.in_ok-files.ensures lent)

pub returns : goal.returns
returns c =
    let p = c.args.p.now in
    let u = unit_in p in
    let marks = marks_in p in
    let k = c.args.known.now in
    let files = c.in_ok-files.files.items in
    let known = c.in_ok-files.ensures in
    let flows = c.in_ok-flows.flows.items in
    let lent = subst (λ (l : List FileKnown). AreLent p.subject.now.trees.now l (length p.subject.now.trees.now) flows) c.deref.ensures.value c.in_ok-flows.ensures in
    let fs = c.in_ok-functions.functions.items in
    let flags = c.in_ok-flags.flags.items in
    let around_is = around u marks k files known in
    let size : length c.args.list.now ≡ length (functions u) = size_is u c.args.list.now c.requires.list in
    let are = functions_are u marks k files known flows lent fs (subst (λ (n : ℕ). AreFunctions u n fs) size c.in_ok-functions.ensures) in
    let over = subst (λ (l : List FileFlow). IsLeast (among (length fs) (AdmitsAt l fs)) (set_of flags)) c.deref-2.ensures.value
    (subst (λ (l : List Function). IsLeast (among (length l) (AdmitsAt c.deref-2.result.now l)) (set_of flags)) c.deref-3.ensures.value c.in_ok-flags.ensures.least) in
    let least = c.found_by_numbers.ensures (listed_in u) (bodies_in u around_is) u.path (handed_in k) (number 0 u) (member_at 0 u) flows fs (set_of flags) are over in
    let names = subst (λ (n : ℕ). AreFlaggedNames u flags n c.in_ok-table.table) size (subst (λ (l : List Bool). AreFlaggedNames u l (length c.args.list.now) c.in_ok-table.table) c.deref-4.ensures.value c.in_ok-table.ensures) in
    text_is u marks k.handed.now.given.now around_is (handed_in k) flags c.in_ok-table.table c.in_ok-text.text.items (is_around u marks k files known)
    (record {
      tables = k.handed.now.tables.items;
      told = c.requires.told;
      are = hands_in k.handed.now.given.now k.handed.now.tables.items c.requires.apart (let t = c.requires.told in t.size) place_there place_none;
    }) least names c.in_ok-text.ensures
