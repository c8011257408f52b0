use Rattle.std.proofs.Common.{rules, ap, ◌∙◌}
use Rattle.vx_steps.specs.declared.leaf_stores.LeafStore.{LeafStore}
use Rattle.vx_steps.specs.Jobs.{CanStart}
use Rattle.vx_steps.specs.Standings.{standing_of}
use Rattle.vx_steps.proofs.Needing.{grows_then}
use Rattle.vx_steps.proofs.Starting.{bound_more, starts_then}
use Rattle.vx_steps.proofs.progress.start_splits.Goals as goal

pub splits-preserved : goal.splits-preserved
splits-preserved c =
    let can : CanStart c.args.job.now (standing_of c.splits.progress) = search rules in
    let h = c.in_ok-start_next.ensures in
    record {
      sound = h.sound;
      going = h.running;
      told = λ outside is. h.told outside (c.splits.invariant.told outside is);
      store = h.store ∙ c.splits.invariant.store;
      noted = h.noted ∙ c.splits.invariant.noted;
      wholes = h.wholes ∙ c.splits.invariant.wholes;
      bounded = bound_more c.args.job.now (standing_of c.args.progress.now) c.splits.progress c.start_next.new.progress c.splits.invariant.bounded can h.bounded;
      starts = starts_then c.args.table.now c.args.job.now (standing_of c.args.progress.now) (standing_of c.splits.progress) (standing_of c.start_next.new.progress) c.splits.invariant.starts h.starts;
    }

pub returns-in_err-start_next-clause-told : goal.returns-in_err-start_next-clause-told
returns-in_err-start_next-clause-told c = λ outside is. c.in_err-start_next.ensures.told outside (c.splits.invariant.told outside is)

pub returns-in_err-start_next-clause-grows : goal.returns-in_err-start_next-clause-grows
returns-in_err-start_next-clause-grows c = grows_then c.args.progress.now.reads.wanted c.splits.progress.reads.wanted c.start_next.new.progress.reads.wanted c.splits.invariant.starts.grows c.in_err-start_next.ensures.grows

pub returns-clause-grows : goal.returns-clause-grows
returns-clause-grows c = c.splits.invariant.starts.grows

pub returns-in_err-start_next-clause-store : goal.returns-in_err-start_next-clause-store
returns-in_err-start_next-clause-store c = c.in_err-start_next.ensures.store ∙ c.splits.invariant.store

pub returns-in_err-start_next-clause-wholes : goal.returns-in_err-start_next-clause-wholes
returns-in_err-start_next-clause-wholes c = c.in_err-start_next.ensures.wholes ∙ c.splits.invariant.wholes

pub returns-in_err-start_next-clause-bounded : goal.returns-in_err-start_next-clause-bounded
returns-in_err-start_next-clause-bounded c =
    let can : CanStart c.args.job.now (standing_of c.splits.progress) = search rules in
    bound_more c.args.job.now (standing_of c.args.progress.now) c.splits.progress c.start_next.new.progress c.splits.invariant.bounded can c.in_err-start_next.ensures.bounded

pub start_next-requires-clause-ready : goal.start_next-requires-clause-ready
start_next-requires-clause-ready c = ap (λ (s : LeafStore). s.columns.ready) c.splits.invariant.store ∙ c.requires.ready

pub start_next-requires-clause-noted : goal.start_next-requires-clause-noted
start_next-requires-clause-noted c = c.splits.invariant.noted ∙ c.requires.noted
