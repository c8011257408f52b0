use Rattle.std.proofs.Common.{arith}
use Rattle.vx_layout.proofs.MovedWhole.{ended_can, ended_few, ended_good, ended_migrated, new_written}
use Rattle.vx_layout.proofs.migrations.migrate.Goals as goal

pub loop-number-init : goal.loop-number-init
loop-number-init c =
    let made = c.new-written.ensures in
    new_written c.args.tree.now c.args.locations.now c.args.file.now c.args.codings.now c.new-written.result made.nodes made.locations made.file

pub closed-requires-clause-good : goal.closed-requires-clause-good
closed-requires-clause-good c =
    ended_good c.args.tree.now c.args.locations.now c.args.file.now c.args.codings.now c.loop-number.number c.loop-number.written (omega (arith, c.len-number-end.ensures.count)) c.loop-number.invariant c.len-number-end.ensures.good

pub closed-requires-clause-few : goal.closed-requires-clause-few
closed-requires-clause-few c =
    ended_few c.args.tree.now c.args.locations.now c.args.file.now c.args.codings.now c.loop-number.number c.loop-number.written (omega (arith, c.len-number-end.ensures.count)) c.loop-number.invariant c.len-number-end.ensures.few

pub returns-in-Ok-clause-migrated : goal.returns-in-Ok-clause-migrated
returns-in-Ok-clause-migrated c =
    let made = c.in-Ok.ensures in
    ended_migrated c.args.tree.now c.args.locations.now c.args.file.now c.args.codings.now c.loop-number.number c.loop-number.written c.in-Ok.made.tree c.in-Ok.made.locations.items c.in-Ok.made.file.items
    (omega (arith, c.len-number-end.ensures.count)) c.loop-number.invariant c.requires.codings made.nodes made.locations made.file

pub returns-in-Ok-clause-possible : goal.returns-in-Ok-clause-possible
returns-in-Ok-clause-possible c =
    ended_can c.args.tree.now c.args.locations.now c.args.file.now c.args.codings.now c.loop-number.number c.loop-number.written (omega (arith, c.len-number-end.ensures.count)) c.loop-number.invariant
