use Rattle.vx_rows.specs.Reads.{directly}
use Rattle.vx_steps.proofs.CodeVisits.{code_found, code_visit}
use Rattle.vx_steps.proofs.HandedRows.{typed_fit}
use Rattle.vx_steps.proofs.laws.bad_codes_are_read.Goals as goal

pub returns : goal.returns
returns c = record {
  typed = typed_fit;
  codes = λ leaves handed offset p row n at fits v. code_found leaves handed offset p directly row n at fits v;
  code_reads = λ leaves handed offset p row n at fits fit less any. code_visit leaves handed offset p directly row n at fits fit less any;
}
