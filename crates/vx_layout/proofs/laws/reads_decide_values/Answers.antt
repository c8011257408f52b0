use Rattle.vx_rows.proofs.ReadRows.{agree, faulty, complete}
use Rattle.vx_layout.specs.Rows.{derivation}
use Rattle.vx_layout.proofs.TreeRows.{strict_row, whole_row}
use Rattle.vx_layout.proofs.laws.reads_decide_values.Goals as goal

pub returns-clause-faulty : goal.returns-clause-faulty
returns-clause-faulty c = λ leaves t kept way row any. faulty leaves way (derivation t kept row) (strict_row t kept row) any

pub returns-clause-fine : goal.returns-clause-fine
returns-clause-fine c = λ leaves each_row t kept way row sound lt fine. complete leaves each_row way (derivation t kept row) (whole_row t kept row sound lt) fine

pub returns-clause-agreeing : goal.returns-clause-agreeing
returns-clause-agreeing c = λ ones others t kept way row each. agree ones others way (derivation t kept row) each
