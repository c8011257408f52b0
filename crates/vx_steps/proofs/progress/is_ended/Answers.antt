use Rattle.std.proofs.Common.{rules, ◌<◌, ◌≤◌, length, refl, arith}
use Rattle.std.proofs.lemmas.Grind.{common_steps}
use Rattle.vx_steps.proofs.Ending.{are_given}
use Rattle.vx_steps.proofs.Starting.{got_at}
use Rattle.vx_steps.proofs.progress.is_ended.Goals as goal

pub index-split-requires : goal.index-split-requires
index-split-requires c =
    let active = c.index-active.result.now in
    let inside : active.split < length c.args.job.now.splits.items = c.requires.known active (got_at c.args.progress.now.active.items c.args.place active c.requires.place c.index-active.ensures) in
    search rules

pub returns : goal.returns
returns c = λ yes.
    let job = c.args.job.now in
    let progress = c.args.progress.now in
    let active = c.index-active.result.now in
    let split = c.index-split.result.now in
    let at = got_at progress.active.items c.args.place active c.requires.place c.index-active.ensures in
    let split_at = got_at job.splits.items active.split split (c.requires.known active at) c.index-split.ensures in
    let count = c.len.ensures in
    let past : length split.mask ≤ active.at.done = grind (arith, common_steps) in
    are_given job c.args.place progress active split (c.if-not-is_last.ensures refl) at split_at past
