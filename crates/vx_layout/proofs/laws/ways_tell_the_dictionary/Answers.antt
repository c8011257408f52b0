use Rattle.vx_rows.proofs.ReadRows.{found_same, lies_through}
use Rattle.vx_layout.specs.Rows.{derivation}
use Rattle.vx_layout.proofs.laws.ways_tell_the_dictionary.Goals as goal

pub returns-clause-any_way : goal.returns-clause-any_way
returns-clause-any_way c = λ t kept row way other. found_same way other (derivation t kept row)

pub returns-clause-through_values : goal.returns-clause-through_values
returns-clause-through_values c = λ t kept row dictionary. lies_through dictionary (derivation t kept row)
