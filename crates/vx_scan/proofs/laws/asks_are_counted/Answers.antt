use Rattle.vx_scan.proofs.CountedScans.{again_counted, all_counted, one_counted}
use Rattle.vx_scan.proofs.Counting.{asks_counted}
use Rattle.vx_scan.proofs.laws.asks_are_counted.Goals as goal

pub returns-clause-worker : goal.returns-clause-worker
returns-clause-worker c = asks_counted

pub returns-clause-one : goal.returns-clause-one
returns-clause-one c = one_counted

pub returns-clause-again : goal.returns-clause-again
returns-clause-again c = again_counted

pub returns-clause-all : goal.returns-clause-all
returns-clause-all c = all_counted
