use Rattle.vx_lower.proofs.OldNumbers.{numbered_alike, numbered_reads, numbered_values}
use Rattle.vx_lower.proofs.laws.numbers_are_told.Goals as goal

pub returns-clause-alike : goal.returns-clause-alike
returns-clause-alike c = numbered_alike

pub returns-clause-values : goal.returns-clause-values
returns-clause-values c = numbered_values

pub returns-clause-reads : goal.returns-clause-reads
returns-clause-reads c = numbered_reads
