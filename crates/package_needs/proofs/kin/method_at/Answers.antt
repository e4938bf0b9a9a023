use Rattle.std.proofs.Common.{sym, ◌∙◌}
use Rattle.package_needs.proofs.kin.method_at.Goals as goal

pub declared_method-requires : goal.declared_method-requires
declared_method-requires c = record {
  near = c.requires.near;
  far = c.requires.far;
  declares = rw c.kind_at.ensures at (sym c.is_method_declaration.ensures ∙ c.if-is_method_declaration.true);
}
