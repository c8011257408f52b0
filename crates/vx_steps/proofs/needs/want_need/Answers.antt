use Rattle.std.proofs.Common.{inl, inr, ⊎_elim, ◌≡◌}
use Rattle.std.specs.Prelude.{None}
use Rattle.vx_steps.specs.Kept.{kept_at}
use Rattle.vx_steps.specs.ReadTable.{IsNamed}
use Rattle.vx_steps.specs.Wants.{IsAsked}
use Rattle.vx_steps.proofs.Arriving.{want_came}
use Rattle.vx_steps.proofs.Needing.{want_all, want_only, want_grows, want_agrees, want_named}
use Rattle.vx_steps.proofs.needs.want_need.Goals as goal

pub returns-clause-all : goal.returns-clause-all
returns-clause-all c = want_all c.want.result c.args.need.segment c.args.reads.now c.want.new.self (kept_at c.args.handed.now.all c.args.need.leaf ≡ None) c.want.ensures.wanted

pub returns-clause-only : goal.returns-clause-only
returns-clause-only c = λ segment asked. ⊎_elim (λ (a : IsAsked c.args.reads.now.wanted segment). inl a) (λ (e : c.args.need.segment ≡ segment). inr (c.if-is_kept.ensures, e)) (want_only c.want.result c.args.need.segment c.args.reads.now c.want.new.self c.want.ensures.wanted c.want.ensures.as_before segment asked)

pub returns-clause-grows : goal.returns-clause-grows
returns-clause-grows c = want_grows c.want.result c.args.need.segment c.args.reads.now c.want.new.self c.want.ensures.wanted c.want.ensures.as_before

pub returns-clause-agrees : goal.returns-clause-agrees
returns-clause-agrees c = want_agrees c.want.result c.args.need.segment c.args.reads.now c.want.new.self c.want.ensures.wanted c.want.ensures.as_before

pub returns-clause-came : goal.returns-clause-came
returns-clause-came c = want_came c.want.result c.args.need.segment c.args.reads.now c.want.new.self c.want.ensures.wanted c.want.ensures.as_before

pub returns-clause-named : goal.returns-clause-named
returns-clause-named c = want_named c.want.result (kept_at c.args.handed.now.all c.args.need.leaf ≡ None) (IsNamed c.want.new.self.stored c.args.need.segment c.args.place) c.want.ensures.named
