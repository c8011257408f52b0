use Rattle.vx_layout.specs.Moving.{HasWritten}
use Rattle.vx_layout.proofs.migrations.migrate.Given as goal

abbrev pub invariant-loop-number : goal.invariant-loop-number
invariant-loop-number l = HasWritten l.tree l.locations l.file l.codings l.number l.written
