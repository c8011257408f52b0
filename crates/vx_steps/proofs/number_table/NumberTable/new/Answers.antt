use Rattle.vx_steps.proofs.Tables.{none_numbers}
use Rattle.vx_steps.proofs.number_table.NumberTable.new.Goals as goal

pub returns : goal.returns
returns c = none_numbers (record { first = 0; numbers = c.new.result }) c.new.ensures.items
