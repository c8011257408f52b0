use Rattle.vx_rows.proofs.ByteLeaves.{give_each_row, give_fitting, lacking_caused, torn_lacks}
use Rattle.vx_rows.proofs.laws.bytes_give_leaves.Goals as goal

pub returns-clause-each_row : goal.returns-clause-each_row
returns-clause-each_row c = give_each_row

pub returns-clause-fitting : goal.returns-clause-fitting
returns-clause-fitting c = give_fitting

pub returns-clause-lacking : goal.returns-clause-lacking
returns-clause-lacking c = lacking_caused

pub returns-clause-torn : goal.returns-clause-torn
returns-clause-torn c = torn_lacks
