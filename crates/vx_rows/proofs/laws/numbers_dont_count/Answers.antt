use Rattle.vx_rows.proofs.Renumbering.{same_worth, reads_moved}
use Rattle.vx_rows.proofs.laws.numbers_dont_count.Goals as goal

pub returns-clause-values : goal.returns-clause-values
returns-clause-values c = same_worth

pub returns-clause-reads : goal.returns-clause-reads
returns-clause-reads c = reads_moved
