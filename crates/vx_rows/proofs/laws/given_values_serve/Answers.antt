use Rattle.vx_rows.proofs.Givens.{none_given, certified, reads_no_more}
use Rattle.vx_rows.proofs.laws.given_values_serve.Goals as goal

pub returns-clause-none : goal.returns-clause-none
returns-clause-none c = none_given

pub returns-clause-certified : goal.returns-clause-certified
returns-clause-certified c = certified

pub returns-clause-reads : goal.returns-clause-reads
returns-clause-reads c = reads_no_more
