use Rattle.std.proofs.Common.{◌≡◌, Some, None, Ok, Err, inr, sym, ap, ◌∙◌, arith, subst, length, Option}
use Rattle.std.proofs.lemmas.Grind.{common_steps}
use Rattle.vx_base.specs.Columns.{ColumnData}
use Rattle.vx_plan.specs.Rules.{node_at}
use Rattle.vx_steps.specs.Computed.{else_kept, AreReadyWhole, ComputesWhole}
use Rattle.vx_steps.specs.Held.{Held}
use Rattle.vx_steps.specs.Kept.{kept_at}
use Rattle.vx_steps.proofs.WholeMaking.{keeps_same, made_one, none_more, one_kept, one_only}
use Rattle.vx_steps.proofs.wholes.ready_whole.Goals as goal

pub whole_of_plan-requires-clause-ready : goal.whole_of_plan-requires-clause-ready
whole_of_plan-requires-clause-ready c =
    let none : kept_at c.args.grounds.given.now c.args.number ≡ None = grind (arith, common_steps) in
    let F : Held → Type 0 = λ h. AreReadyWhole h c.args.plan in
    subst F (sym c.sources.ensures) (c.requires.ready none)

pub returns-in_err-keep_shared-in-Ok-clause-made : goal.returns-in_err-keep_shared-in-Ok-clause-made
returns-in_err-keep_shared-in-Ok-clause-made c = keeps_same c.args.grounds.table.now c.args.grounds.leaves.now.here c.args.grounds.offset c.args.wholes.now.made c.keep_shared.new.self c.in_err-keep_shared-in-Ok.ensures.as_before

pub returns-in_ok-keep_shared-in-Ok-clause-made : goal.returns-in_ok-keep_shared-in-Ok-clause-made
returns-in_ok-keep_shared-in-Ok-clause-made c =
    let column : ColumnData = c.in-Ok.column in
    let F : Held → Type 0 = λ h. ComputesWhole h c.args.plan (Ok c.in-Ok.column) in
    let D : Held → Type 0 = λ h. c.in-Ok.column.dtype ≡ (node_at h.nodes c.args.plan).dtype in
    let R : Held → Type 0 = λ h. length c.in-Ok.column.values ≡ (node_at h.nodes c.args.plan).rows in
    let none : kept_at c.args.wholes.now.made c.args.number ≡ None = grind (arith, common_steps) in
    made_one c.args.grounds.table.now c.requires.good c.args.grounds.leaves.now.here c.args.grounds.offset (Some c.args.grounds.given.now) c.args.wholes.now.made c.keep_shared.new.self c.args.number c.args.plan c.in-Ok.column c.requires.same
    (subst D c.sources.ensures c.in-Ok.ensures.dtype) (subst R c.sources.ensures c.in-Ok.ensures.rows) none (subst F c.sources.ensures c.in-Ok.ensures.computed) c.in_ok-keep_shared-in-Ok.ensures.kept

pub returns-in_ok-keep_shared-in-Ok-clause-there : goal.returns-in_ok-keep_shared-in-Ok-clause-there
returns-in_ok-keep_shared-in-Ok-clause-there c =
    let none : kept_at c.args.wholes.now.made c.args.number ≡ None = grind (arith, common_steps) in
    let none_given : kept_at c.args.grounds.given.now c.args.number ≡ None = grind (arith, common_steps) in
    inr (none_given, one_kept c.args.wholes.now.made c.keep_shared.new.self c.args.number c.in-Ok.column none c.in_ok-keep_shared-in-Ok.ensures.kept)

pub returns-in-Err-clause-cause : goal.returns-in-Err-clause-cause
returns-in-Err-clause-cause c =
    let none_given : kept_at c.args.grounds.given.now c.args.number ≡ None = grind (arith, common_steps) in
    let none_made : kept_at c.args.wholes.now.made c.args.number ≡ None = grind (arith, common_steps) in
    let F : Held → Type 0 = λ h. ComputesWhole h c.args.plan (Err c.in-Err.error) in
    inr (ap (λ (o : Option ColumnData). else_kept o (kept_at c.args.wholes.now.made c.args.number)) none_given ∙ none_made, subst F c.sources.ensures c.in-Err.ensures.computed)

pub returns-in_ok-keep_shared-in-Ok-clause-one : goal.returns-in_ok-keep_shared-in-Ok-clause-one
returns-in_ok-keep_shared-in-Ok-clause-one c = record {
  used = c.use_given.ensures.one;
  made = one_only c.args.wholes.now.made c.keep_shared.new.self c.args.number c.in-Ok.column c.in_ok-keep_shared-in-Ok.ensures.kept;
}

pub returns-in_err-keep_shared-in-Ok-clause-one : goal.returns-in_err-keep_shared-in-Ok-clause-one
returns-in_err-keep_shared-in-Ok-clause-one c = record {
  used = c.use_given.ensures.one;
  made = none_more (λ n. c.args.number ≡ n) c.args.wholes.now.made c.keep_shared.new.self c.in_err-keep_shared-in-Ok.ensures.as_before;
}
