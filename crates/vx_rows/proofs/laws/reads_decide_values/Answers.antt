use Rattle.vx_rows.specs.Reads.{reads_of}
use Rattle.vx_rows.specs.SegmentLeaves.{leaves_of}
use Rattle.vx_rows.proofs.ByteLeaves.{all_agree}
use Rattle.vx_rows.proofs.ReadRows.{agree, faulty, complete}
use Rattle.vx_rows.proofs.laws.reads_decide_values.Goals as goal

pub returns-clause-faulty : goal.returns-clause-faulty
returns-clause-faulty c = faulty

pub returns-clause-fine : goal.returns-clause-fine
returns-clause-fine c = complete

pub returns-clause-agreeing : goal.returns-clause-agreeing
returns-clause-agreeing c = agree

pub returns-clause-bytes : goal.returns-clause-bytes
returns-clause-bytes c = λ ones others way d each. agree (leaves_of ones) (leaves_of others) way d (all_agree ones others (reads_of way d) each)
