use Rattle.vx_rows.proofs.ReadRows.{found_same, lies_through}
use Rattle.vx_rows.proofs.laws.ways_tell_the_dictionary.Goals as goal

pub returns-clause-any_way : goal.returns-clause-any_way
returns-clause-any_way c = found_same

pub returns-clause-through_values : goal.returns-clause-through_values
returns-clause-through_values c = lies_through
