-- What a reader's error is to a read.
use Rattle.vx_readers.specs.declared.reading.ReadRowsError.{ReadRowsError}
use Rattle.vx_readers.specs.declared.reading.ReadRowsError.TheVariants as rows
use Rattle.vx_reads.specs.declared.errors.ReaderError.{ReaderError}
use Rattle.vx_reads.specs.declared.errors.ReaderError.TheVariants.{ReadFault, BadSegment, BadCode, EvalFault, NoLocation, Memory}

-- want of memory is its own
abbrev pub read_error : ReaderError → ReadRowsError
read_error Memory = rows.Memory
read_error ReadFault = rows.Reader ReadFault
read_error (BadSegment segment) = rows.Reader (BadSegment segment)
read_error (BadCode node row) = rows.Reader (BadCode node row)
read_error (EvalFault row) = rows.Reader (EvalFault row)
read_error (NoLocation segment) = rows.Reader (NoLocation segment)
