use Rattle.vx_lower.proofs.RowIndexed.{row_index_keeps, row_index_reads, row_index_rows, row_index_type}
use Rattle.vx_lower.proofs.laws.row_index_keeps.Goals as goal

pub returns-clause-dtype : goal.returns-clause-dtype
returns-clause-dtype c = row_index_type

pub returns-clause-rows : goal.returns-clause-rows
returns-clause-rows c = row_index_rows

pub returns-clause-meaning : goal.returns-clause-meaning
returns-clause-meaning c = row_index_keeps

pub returns-clause-reads : goal.returns-clause-reads
returns-clause-reads c = row_index_reads
