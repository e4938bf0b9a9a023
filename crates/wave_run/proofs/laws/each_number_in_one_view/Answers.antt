use Rattle.wave_run.proofs.BoardLaws.{in_one_view, in_no_view}
use Rattle.wave_run.proofs.laws.each_number_in_one_view.Goals as goal

pub returns-clause-one : goal.returns-clause-one
returns-clause-one c parts number s dealt few inside = in_one_view parts number s dealt few inside

pub returns-clause-none : goal.returns-clause-none
returns-clause-none c parts number s v dealt few past at = in_no_view parts number s dealt few v past at
