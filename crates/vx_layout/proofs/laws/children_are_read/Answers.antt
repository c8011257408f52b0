use Rattle.std.proofs.Common.{◌≡◌}
use Rattle.vx_layout.proofs.TreeRows.{read_by_field, read_by_validity, read_by_code, read_by_value}
use Rattle.vx_layout.proofs.laws.children_are_read.Goals as goal

pub returns-clause-field : goal.returns-clause-field
returns-clause-field c = λ head forest validity i child kept way row at is read any. read_by_field (λ other. other ≡ read) head forest validity i child kept way row at is any

pub returns-clause-validity : goal.returns-clause-validity
returns-clause-validity c = λ head forest validity kept way row read any. read_by_validity (λ other. other ≡ read) head forest validity kept way row any

pub returns-clause-code : goal.returns-clause-code
returns-clause-code c = λ head values codes kept way row read any. read_by_code (λ other. other ≡ read) head values codes kept way row any

pub returns-clause-each_value : goal.returns-clause-each_value
returns-clause-each_value c = λ head values codes kept way row value_row lt read any. read_by_value (λ other. other ≡ read) head values codes kept way row value_row lt any
