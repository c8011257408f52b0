use Rattle.std.proofs.Common.{rules, ◌<◌, ◌≤◌, length, refl, arith}
use Rattle.vx_steps.proofs.Ending.{running_ended, settles_ended, sound_ended}
use Rattle.vx_steps.proofs.Settling.{goes_on, is_left, same_place, settles_left, settles_on, split_inside}
use Rattle.vx_steps.proofs.Starting.{got_at}
use Rattle.vx_steps.proofs.progress.settle.Goals as goal

pub is_ended-requires-clause-known : goal.is_ended-requires-clause-known
is_ended-requires-clause-known c = λ active at. split_inside c.args.table.now c.args.job.now c.args.place c.args.progress.now active at c.requires.passing

pub end-requires : goal.end-requires
end-requires c = c.requires.passing.ready

pub returns-then-is_ended-clause-sound : goal.returns-then-is_ended-clause-sound
returns-then-is_ended-clause-sound c = sound_ended c.args.table.now c.args.job.now c.args.progress.now c.end.new.progress c.end.ensures c.requires.passing.keeps c.requires.sound

pub returns-then-is_ended-clause-running : goal.returns-then-is_ended-clause-running
returns-then-is_ended-clause-running c = running_ended c.args.table.now c.args.job.now c.args.place c.args.progress.now c.end.new.progress c.requires.place c.end.ensures (c.if-is_ended.ensures refl) c.requires.passing

pub returns-then-is_ended-clause-settles : goal.returns-then-is_ended-clause-settles
returns-then-is_ended-clause-settles c =
    let old = c.args.progress.now in
    let active = c.index.result.now in
    let at = got_at old.active.items c.args.place active c.requires.place c.index.ensures in
    settles_ended c.args.table.now c.args.job.now c.args.place old c.end.new.progress active c.requires.place at c.end.ensures (c.if-is_ended.ensures refl) c.requires.passing

pub index-split-requires : goal.index-split-requires
index-split-requires c =
    let mid = c.pass_needs.new.progress in
    let active = c.index-active.result.now in
    let inside = same_place c.args.progress.now mid c.args.place c.pass_needs.ensures.keeps c.requires.place in
    let at = got_at mid.active.items c.args.place active inside c.index-active.ensures in
    let number_inside : active.split < length c.args.job.now.splits.items = split_inside c.args.table.now c.args.job.now c.args.place mid active at c.pass_needs.ensures.passing in
    search rules

pub returns-then-active-len-clause-running : goal.returns-then-active-len-clause-running
returns-then-active-len-clause-running c =
    let mid = c.pass_needs.new.progress in
    let active = c.index-active.result.now in
    let inside = same_place c.args.progress.now mid c.args.place c.pass_needs.ensures.keeps c.requires.place in
    let at = got_at mid.active.items c.args.place active inside c.index-active.ensures in
    let number_inside = split_inside c.args.table.now c.args.job.now c.args.place mid active at c.pass_needs.ensures.passing in
    let split = c.index-split.result.now in
    let split_at = got_at c.args.job.now.splits.items active.split split number_inside c.index-split.ensures in
    let less : active.at.done < length split.mask = omega (arith, c.len.ensures) in
    goes_on c.args.table.now c.args.job.now c.args.place mid active split at split_at less c.pass_needs.ensures.passing c.pass_needs.ensures.passed

pub returns-then-active-len-clause-settles : goal.returns-then-active-len-clause-settles
returns-then-active-len-clause-settles c =
    let mid = c.pass_needs.new.progress in
    let active = c.index-active.result.now in
    let inside = same_place c.args.progress.now mid c.args.place c.pass_needs.ensures.keeps c.requires.place in
    let at = got_at mid.active.items c.args.place active inside c.index-active.ensures in
    let number_inside = split_inside c.args.table.now c.args.job.now c.args.place mid active at c.pass_needs.ensures.passing in
    let split = c.index-split.result.now in
    let split_at = got_at c.args.job.now.splits.items active.split split number_inside c.index-split.ensures in
    let less : active.at.done < length split.mask = omega (arith, c.len.ensures) in
    settles_on c.args.job.now c.args.place c.args.progress.now mid active split c.pass_needs.ensures.keeps at split_at less

pub returns-clause-running : goal.returns-clause-running
returns-clause-running c =
    let mid = c.pass_needs.new.progress in
    let active = c.index-active.result.now in
    let inside = same_place c.args.progress.now mid c.args.place c.pass_needs.ensures.keeps c.requires.place in
    let at = got_at mid.active.items c.args.place active inside c.index-active.ensures in
    let number_inside = split_inside c.args.table.now c.args.job.now c.args.place mid active at c.pass_needs.ensures.passing in
    let split = c.index-split.result.now in
    let split_at = got_at c.args.job.now.splits.items active.split split number_inside c.index-split.ensures in
    let past : length split.mask ≤ active.at.done = omega (arith, c.len.ensures) in
    is_left c.args.table.now c.args.job.now c.args.place mid active split c.remove.new.self at split_at past c.remove.ensures.items c.pass_needs.ensures.passing c.pass_needs.ensures.passed

pub returns-clause-settles : goal.returns-clause-settles
returns-clause-settles c =
    let mid = c.pass_needs.new.progress in
    let active = c.index-active.result.now in
    let inside = same_place c.args.progress.now mid c.args.place c.pass_needs.ensures.keeps c.requires.place in
    let at = got_at mid.active.items c.args.place active inside c.index-active.ensures in
    let number_inside = split_inside c.args.table.now c.args.job.now c.args.place mid active at c.pass_needs.ensures.passing in
    let split = c.index-split.result.now in
    let split_at = got_at c.args.job.now.splits.items active.split split number_inside c.index-split.ensures in
    let past : length split.mask ≤ active.at.done = omega (arith, c.len.ensures) in
    settles_left c.args.job.now c.args.place c.args.progress.now mid active split c.remove.new.self c.pass_needs.ensures.keeps at split_at past c.remove.ensures.items
