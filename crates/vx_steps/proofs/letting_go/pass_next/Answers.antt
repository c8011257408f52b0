use Rattle.std.proofs.Common.{rules, ◌≡◌, ℕ, Global, Vec, length, refl, subst}
use Rattle.std.specs.Vec.{with_item}
use Rattle.vx_steps.specs.declared.jobs.ActiveSplit.{ActiveSplit}
use Rattle.vx_steps.specs.LettingGo.{LetsGoUnneeded}
use Rattle.vx_steps.proofs.LettingGo.{pass_standing, pass_turn}
use Rattle.vx_steps.proofs.PassedNeeds.{actives_same, fewer_open, passed_same, passed_to, passing_same, sound_same, standing_same, with_rest}
use Rattle.vx_steps.proofs.Starting.{got_at}
use Rattle.vx_steps.proofs.letting_go.pass_next.Goals as goal

pub returns-in-Some-clause-sound : goal.returns-in-Some-clause-sound
returns-in-Some-clause-sound c =
    let old = c.args.progress.now in
    let active = c.index_mut-active.result.now in
    let at = got_at old.active.items c.args.place active c.requires.place c.index_mut-active.ensures.value in
    let actives : Vec ActiveSplit Global = with_item old.active c.args.place (with_rest active c.pass.new.self) in
    let count : c.len.result ≡ length c.args.job.now.splits.items = search rules in
    let lets = subst (λ (n : ℕ). LetsGoUnneeded c.in-Some.need.leaf c.in-Some.need.segment n (passed_to old actives c.take.new.self) c.let_go_unneeded.new.progress) count c.let_go_unneeded.ensures in
    let turn = pass_turn c.args.table.now c.args.job.now c.args.place old active c.in-Some.need c.pass.new.self actives c.take.new.self c.let_go_unneeded.new.progress at c.in-Some.ensures.0 c.in-Some.ensures.1 refl c.take.ensures lets c.requires.sound c.requires.passing in
    turn.0

pub returns-in-Some-clause-passing : goal.returns-in-Some-clause-passing
returns-in-Some-clause-passing c =
    let old = c.args.progress.now in
    let active = c.index_mut-active.result.now in
    let at = got_at old.active.items c.args.place active c.requires.place c.index_mut-active.ensures.value in
    let actives : Vec ActiveSplit Global = with_item old.active c.args.place (with_rest active c.pass.new.self) in
    let count : c.len.result ≡ length c.args.job.now.splits.items = search rules in
    let lets = subst (λ (n : ℕ). LetsGoUnneeded c.in-Some.need.leaf c.in-Some.need.segment n (passed_to old actives c.take.new.self) c.let_go_unneeded.new.progress) count c.let_go_unneeded.ensures in
    let turn = pass_turn c.args.table.now c.args.job.now c.args.place old active c.in-Some.need c.pass.new.self actives c.take.new.self c.let_go_unneeded.new.progress at c.in-Some.ensures.0 c.in-Some.ensures.1 refl c.take.ensures lets c.requires.sound c.requires.passing in
    turn.1

pub returns-in-Some-clause-fewer : goal.returns-in-Some-clause-fewer
returns-in-Some-clause-fewer c = λ _.
    let old = c.args.progress.now in
    let active = c.index_mut-active.result.now in
    let at = got_at old.active.items c.args.place active c.requires.place c.index_mut-active.ensures.value in
    let actives : Vec ActiveSplit Global = with_item old.active c.args.place (with_rest active c.pass.new.self) in
    fewer_open old c.let_go_unneeded.new.progress c.args.place active c.in-Some.need c.pass.new.self actives at c.in-Some.ensures.0 refl c.let_go_unneeded.ensures.active

pub returns-in-Some-clause-keeps : goal.returns-in-Some-clause-keeps
returns-in-Some-clause-keeps c =
    let old = c.args.progress.now in
    let active = c.index_mut-active.result.now in
    let at = got_at old.active.items c.args.place active c.requires.place c.index_mut-active.ensures.value in
    let actives : Vec ActiveSplit Global = with_item old.active c.args.place (with_rest active c.pass.new.self) in
    pass_standing old c.args.place active c.in-Some.need c.pass.new.self actives c.take.new.self c.let_go_unneeded.new.progress _ at refl c.let_go_unneeded.ensures

pub returns-in-None-clause-sound : goal.returns-in-None-clause-sound
returns-in-None-clause-sound c =
    let old = c.args.progress.now in
    let actives : Vec ActiveSplit Global = with_item old.active c.args.place (with_rest c.index_mut-active.result.now c.pass.new.self) in
    sound_same c.args.table.now c.args.job.now old actives c.requires.sound

pub returns-in-None-clause-passing : goal.returns-in-None-clause-passing
returns-in-None-clause-passing c =
    let old = c.args.progress.now in
    let active = c.index_mut-active.result.now in
    let at = got_at old.active.items c.args.place active c.requires.place c.index_mut-active.ensures.value in
    let actives : Vec ActiveSplit Global = with_item old.active c.args.place (with_rest active c.pass.new.self) in
    passing_same c.args.table.now c.args.job.now c.args.place old actives (actives_same old c.args.place active c.pass.new.self actives at c.in-None.ensures.1 refl) c.requires.passing

pub returns-in-None-clause-passed : goal.returns-in-None-clause-passed
returns-in-None-clause-passed c = λ _.
    let old = c.args.progress.now in
    let active = c.index_mut-active.result.now in
    let at = got_at old.active.items c.args.place active c.requires.place c.index_mut-active.ensures.value in
    let actives : Vec ActiveSplit Global = with_item old.active c.args.place (with_rest active c.pass.new.self) in
    passed_same c.args.table.now c.args.job.now c.args.place old active c.pass.new.self actives at c.in-None.ensures.1 c.in-None.ensures.0 (actives_same old c.args.place active c.pass.new.self actives at c.in-None.ensures.1 refl) c.requires.passing

pub returns-in-None-clause-keeps : goal.returns-in-None-clause-keeps
returns-in-None-clause-keeps c =
    let old = c.args.progress.now in
    let active = c.index_mut-active.result.now in
    let at = got_at old.active.items c.args.place active c.requires.place c.index_mut-active.ensures.value in
    let actives : Vec ActiveSplit Global = with_item old.active c.args.place (with_rest active c.pass.new.self) in
    standing_same old actives (actives_same old c.args.place active c.pass.new.self actives at c.in-None.ensures.1 refl)
