use Rattle.std.proofs.Common.{rules, ◌≡◌, ℕ, length, sym, subst}
use Rattle.vx_steps.specs.declared.jobs.Progress.{Progress}
use Rattle.vx_steps.specs.HandedLeaves.{HoldsLeaf}
use Rattle.vx_steps.specs.Running.{IsSound}
use Rattle.vx_steps.proofs.HoldingLeaves.{looked_next, looked_none, IsLookedThrough}
use Rattle.vx_steps.proofs.handed_leaves.hold_handed.Goals as goal
use Rattle.vx_steps.proofs.handed_leaves.hold_handed.Goals.{in-Some+in_ok-hold_leaf, in_default}

pub loop-place-init : goal.loop-place-init
loop-place-init c = looked_none c.args.table.now c.args.job.now c.args.progress.now c.requires.sound c.requires.holding

pub loop-place-preserved : goal.loop-place-preserved
loop-place-preserved c =
    let nodes = c.args.table.now in
    let job = c.args.job.now in
    let old = c.loop-place.progress in
    let P : Progress → Type 0 = IsLookedThrough nodes job c.args.progress.now in
    elim c.match-stored_leaf.branch [
      | in-Some+in_ok-hold_leaf w ↦
          let read = w.in-Some.read in
          let count : w.len.result ≡ length job.splits.items = search rules in
          let H : ℕ → Type 0 = λ n. HoldsLeaf read.leaf read.segment n old w.hold_leaf.new.progress in
          let does : H (length job.splits.items) = subst H count w.in_ok-hold_leaf.ensures.holds in
          subst P (sym w.progress-is) (looked_next nodes job c.args.progress.now old w.hold_leaf.new.progress read.leaf read.segment w.in-Some.ensures.0 w.in-Some.ensures.1 does c.loop-place.invariant)
      | in_default w ↦ subst P (sym w.progress-is) c.loop-place.invariant
    ]

pub returns-in_err-hold_leaf-clause-sound : goal.returns-in_err-hold_leaf-clause-sound
returns-in_err-hold_leaf-clause-sound c = subst (IsSound c.args.table.now c.args.job.now) (sym c.in_err-hold_leaf.ensures.as_before) c.loop-place.invariant.sound
