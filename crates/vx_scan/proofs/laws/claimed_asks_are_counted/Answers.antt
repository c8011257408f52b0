use Rattle.vx_scan.proofs.CountedSources.{first_counted_again, source_counted, source_counted_by_chunks}
use Rattle.vx_scan.proofs.laws.claimed_asks_are_counted.Goals as goal

pub returns-clause-worker : goal.returns-clause-worker
returns-clause-worker c = source_counted

pub returns-clause-again : goal.returns-clause-again
returns-clause-again c = first_counted_again

pub returns-clause-chunks : goal.returns-clause-chunks
returns-clause-chunks c = source_counted_by_chunks
