use Rattle.vx_rows.specs.Reads.{IsIn}
use Rattle.vx_layout.proofs.SomeRows.{some_row_of_chunk, some_row_of_field, some_row_of_validity, some_row_of_codes, some_row_of_values, some_row_of_content}
use Rattle.vx_layout.proofs.laws.children_are_reached.Goals as goal

pub returns-clause-chunk : goal.returns-clause-chunk
returns-clause-chunk c = λ head forest way chunk kept segment. some_row_of_chunk (IsIn segment) head forest way chunk kept

pub returns-clause-field : goal.returns-clause-field
returns-clause-field c = λ head forest validity i child kept segment. some_row_of_field (IsIn segment) head forest validity i child kept

pub returns-clause-validity : goal.returns-clause-validity
returns-clause-validity c = λ head forest validity kept segment. some_row_of_validity (IsIn segment) head forest validity kept

pub returns-clause-codes : goal.returns-clause-codes
returns-clause-codes c = λ head values codes kept segment. some_row_of_codes (IsIn segment) head values codes kept

pub returns-clause-dictionary_values : goal.returns-clause-dictionary_values
returns-clause-dictionary_values c = λ head values codes kept segment. some_row_of_values (IsIn segment) head values codes kept

pub returns-clause-zoned_data : goal.returns-clause-zoned_data
returns-clause-zoned_data c = λ head zones content table kept segment. some_row_of_content (IsIn segment) head zones content table kept
