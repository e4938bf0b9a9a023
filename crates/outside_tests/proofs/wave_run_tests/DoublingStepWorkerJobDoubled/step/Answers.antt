use Rattle.std.proofs.Common.{arith, refl}
use Rattle.outside_tests.proofs.wave_run_tests.DoublingStepWorkerJobDoubled.step.Goals as goal

pub returns-then-refuses-clause-took : goal.returns-then-refuses-clause-took
returns-then-refuses-clause-took c = (λ _. 0, omega arith, λ i. omega arith, tt)

pub returns-clause-took : goal.returns-clause-took
returns-clause-took c = (λ _. 1, omega arith, λ i. omega arith, (refl, omega (arith, c.requires.lawful, c.number-number.ensures)))
