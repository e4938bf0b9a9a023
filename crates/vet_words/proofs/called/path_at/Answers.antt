use Rattle.std.proofs.Common.{◌≡◌, Option, Some, option_map, sym, ap, ◌∙◌}
use Rattle.package_faces.specs.declared.interface.Interface.{Interface}
use Rattle.vet_words.proofs.FaceLemmas.{path_seen}
use Rattle.vet_words.proofs.called.path_at.Goals as goal

pub returns-in-Some : goal.returns-in-Some
returns-in-Some c =
    ap Some c.as_str.ensures
    ∙ (ap (λ (o : Option Interface). option_map (λ (x : Interface). x.path) o) c.in-Some.ensures ∙ sym (path_seen c.args.p.now.subject.now.env.now c.args.i))

pub returns-in-None : goal.returns-in-None
returns-in-None c =
    ap (λ (o : Option Interface). option_map (λ (x : Interface). x.path) o) c.in-None.ensures ∙ sym (path_seen c.args.p.now.subject.now.env.now c.args.i)
