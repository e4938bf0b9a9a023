use Rattle.std.proofs.Common.{◌≡◌, map}
use Rattle.bind.specs.declared.file.File.{File}
use Rattle.bind.proofs.file.all_names.Given as goal

abbrev pub invariant-loop-file : goal.invariant-loop-file
invariant-loop-file l = l.rows.items ≡ map (λ (f : File). f.locals.names) l.yielded
