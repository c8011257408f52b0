use Rattle.std.proofs.Common.{map, string_bytes}
use Rattle.scan_words.specs.Words.{command_of}
use Rattle.scan_commands.proofs.Running.{lacks_memory}
use Rattle.scan_commands.proofs.runs.run.Goals as goal

pub returns-in-Err-Memory : goal.returns-in-Err-Memory
returns-in-Err-Memory g c =
    lacks_memory (command_of (map string_bytes c.args.words.now))
    (record { request = g.Q.Source.state c.args.request.now; sources = map g.S.SegmentSource.state c.args.sources.now; sink = g.K.Sink.state c.args.out.now })
