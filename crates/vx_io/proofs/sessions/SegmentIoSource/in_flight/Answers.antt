use Rattle.vx_io.specs.Tables.{session_state}
use Rattle.vx_io.proofs.SoundEnds.{sound_has}
use Rattle.vx_io.proofs.sessions.SegmentIoSource.in_flight.Goals as goal

pub returns-clause-reads : goal.returns-clause-reads
returns-clause-reads g c = sound_has c.args.self.now.ranges.now (session_state c.args.self.now) c.args.self.now.sound
