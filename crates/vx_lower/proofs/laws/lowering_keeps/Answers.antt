use Rattle.vx_rows.specs.Reads.{directly}
use Rattle.vx_lower.proofs.Heads.{lowered_head}
use Rattle.vx_lower.proofs.KeptMeaning.{meaning_kept}
use Rattle.vx_lower.proofs.Lowering.{lowered_values}
use Rattle.vx_lower.proofs.LoweredRows.{lowered_reads}
use Rattle.vx_lower.proofs.Planning.{kept_typed}
use Rattle.vx_lower.proofs.laws.lowering_keeps.Goals as goal

pub returns-clause-dtype : goal.returns-clause-dtype
returns-clause-dtype c = λ t kept sound. (lowered_head t kept sound).dtype

pub returns-clause-rows : goal.returns-clause-rows
returns-clause-rows c = λ t kept sound. (lowered_head t kept sound).rows

pub returns-clause-values : goal.returns-clause-values
returns-clause-values c = lowered_values

pub returns-clause-reads : goal.returns-clause-reads
returns-clause-reads c = λ offset t kept row sound. lowered_reads offset t kept directly row sound

pub returns-clause-fields : goal.returns-clause-fields
returns-clause-fields c = meaning_kept

pub returns-clause-types : goal.returns-clause-types
returns-clause-types c = kept_typed
