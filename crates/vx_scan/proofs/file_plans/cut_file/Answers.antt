use Rattle.vx_scan.proofs.FilePlanning.{chunks_or}
use Rattle.vx_scan.proofs.file_plans.cut_file.Goals as goal

pub returns : goal.returns
returns c = chunks_or c.args.file.now c.args.settings.now c.args.rows c.chunk_rows-size.result c.cut_first_chunks.result c.requires.begins c.chunk_rows-size.ensures.size c.cut_first_chunks.ensures.pieces c.cut_first_chunks.ensures.inside c.cut_first_chunks.ensures.ordered c.cut_first_chunks.ensures.trimmed
