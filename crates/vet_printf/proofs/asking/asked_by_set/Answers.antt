use Rattle.std.proofs.Common.{◌≡◌, ◌↔◌, Bool, true, List, map, sym, ap, ◌∙◌, subst}
use Rattle.std.specs.List.{list_any}
use Rattle.type_model.specs.declared.term.Method.{Method}
use Rattle.type_model.specs.GoTypes.{type_at}
use Rattle.type_model.specs.Parts.{method_of}
use Rattle.type_model.specs.Tables.{types_in, declarations_in}
use Rattle.vet_printf.specs.declared.asking.Wanted.TheVariants as w
use Rattle.vet_printf.specs.Fitting.{is_wanted, Has}
use Rattle.vet_printf.proofs.AskLemmas.{set_told}
use Rattle.vet_printf.proofs.asking.asked_by_set.Goals as goal

pub returns : goal.returns
returns c =
    let t = c.args.t.now in
    let of = type_at (types_in t) c.args.id in
    let methods = c.in_ok-methods.methods.items in record {
      format = set_told t of methods c.deref.result.now w.Format c.any_wanted.result c.in_ok-methods.ensures c.deref.ensures.value c.any_wanted.ensures;
      text = set_told t of methods c.deref-2.result.now w.Text c.any_wanted-2.result c.in_ok-methods.ensures c.deref-2.ensures.value c.any_wanted-2.ensures;
      error = set_told t of methods c.deref-3.result.now w.Error c.any_wanted-3.result c.in_ok-methods.ensures c.deref-3.ensures.value c.any_wanted-3.ensures;
    }
