use Rattle.std.proofs.Common.{◌≡◌, ◌<◌, ◌^◌, ◌-◌, length, sym, ap, ◌∙◌, arith, true, false, ◌≢◌}
use Rattle.std.proofs.lemmas.List.Sorted.{IsPermutation-refl}
use Rattle.vx_expr.specs.Filters.{FilterData, reports_of, are_reported}
use Rattle.vx_expr.proofs.Reports.{can_take_back, is_fewer, keeps_filter, not_reordered, not_sorted, now_sorted, reordered, still_sorted, stays_ordered, taken_back, takes_report, unchanged_quantile}
use Rattle.vx_expr.proofs.filters.FilterExpr.report_selectivity.Goals as goal

pub invariant_of-self-then-not-changed : goal.invariant_of-self-then-not-changed
invariant_of-self-then-not-changed c =
    let old : FilterData = record { conjuncts = c.self.inside.conjuncts.items; reports = c.self.inside.reports.items; ordering = c.self.inside.ordering.items } in
    let within : c.args.conjunct < length c.self.inside.conjuncts.items = rw (← c.self.view_is) at c.requires in
    let kept = unchanged_quantile c.in_ok-changed.changed (reports_of c.self.inside.reports.items c.args.conjunct) (reports_of c.report_to.new.reports.items c.args.conjunct) c.if-not-changed.true c.in_ok-changed.ensures.kept in
    keeps_filter old c.args.conjunct c.args.permille c.report_to.new.reports.items c.self.invariant within c.in_ok-changed.ensures.added old.ordering (IsPermutation-refl old.ordering) (still_sorted old c.args.conjunct c.args.permille c.report_to.new.reports.items c.self.invariant within c.in_ok-changed.ensures.added kept)

pub returns-then-not-changed-clause-taken : goal.returns-then-not-changed-clause-taken
returns-then-not-changed-clause-taken c =
    let old : FilterData = record { conjuncts = c.self.inside.conjuncts.items; reports = c.self.inside.reports.items; ordering = c.self.inside.ordering.items } in
    let within : c.args.conjunct < length c.self.inside.conjuncts.items = rw (← c.self.view_is) at c.requires in
    let kept = unchanged_quantile c.in_ok-changed.changed (reports_of c.self.inside.reports.items c.args.conjunct) (reports_of c.report_to.new.reports.items c.args.conjunct) c.if-not-changed.true c.in_ok-changed.ensures.kept in
    let fewer : length (reports_of old.reports c.args.conjunct) ≢ 2 ^ 64 - 1 = is_fewer old.reports c.args.conjunct c.index.result.now c.len.result (omega (arith, c.self.invariant.counted)) c.index.ensures c.len.ensures c.if-len.false in
    rw (← c.self.view_is) (takes_report old c.args.conjunct c.args.permille c.report_to.new.reports.items c.self.invariant within c.in_ok-changed.ensures.added old.ordering fewer (stays_ordered old c.args.conjunct c.args.permille c.report_to.new.reports.items c.self.invariant within c.in_ok-changed.ensures.added kept))

pub invariant_of-self-then-not-are_reported : goal.invariant_of-self-then-not-are_reported
invariant_of-self-then-not-are_reported c =
    let old : FilterData = record { conjuncts = c.self.inside.conjuncts.items; reports = c.self.inside.reports.items; ordering = c.self.inside.ordering.items } in
    let within : c.args.conjunct < length c.self.inside.conjuncts.items = rw (← c.self.view_is) at c.requires in
    let none : are_reported c.report_to.new.reports.items ≡ false = ap are_reported (sym c.deref.ensures.value) ∙ sym c.are_reported.ensures ∙ c.if-not-are_reported.true in
    keeps_filter old c.args.conjunct c.args.permille c.report_to.new.reports.items c.self.invariant within c.in_ok-changed.ensures.added old.ordering (IsPermutation-refl old.ordering) (not_sorted c.report_to.new.reports.items old.ordering none)

pub returns-then-not-are_reported-clause-taken : goal.returns-then-not-are_reported-clause-taken
returns-then-not-are_reported-clause-taken c =
    let old : FilterData = record { conjuncts = c.self.inside.conjuncts.items; reports = c.self.inside.reports.items; ordering = c.self.inside.ordering.items } in
    let within : c.args.conjunct < length c.self.inside.conjuncts.items = rw (← c.self.view_is) at c.requires in
    let none : are_reported c.report_to.new.reports.items ≡ false = ap are_reported (sym c.deref.ensures.value) ∙ sym c.are_reported.ensures ∙ c.if-not-are_reported.true in
    let fewer : length (reports_of old.reports c.args.conjunct) ≢ 2 ^ 64 - 1 = is_fewer old.reports c.args.conjunct c.index.result.now c.len.result (omega (arith, c.self.invariant.counted)) c.index.ensures c.len.ensures c.if-len.false in
    rw (← c.self.view_is) (takes_report old c.args.conjunct c.args.permille c.report_to.new.reports.items c.self.invariant within c.in_ok-changed.ensures.added old.ordering fewer (not_reordered c.report_to.new.reports.items old.ordering none))

pub invariant_of-self-in-Ok : goal.invariant_of-self-in-Ok
invariant_of-self-in-Ok c =
    let old : FilterData = record { conjuncts = c.self.inside.conjuncts.items; reports = c.self.inside.reports.items; ordering = c.self.inside.ordering.items } in
    let within : c.args.conjunct < length c.self.inside.conjuncts.items = rw (← c.self.view_is) at c.requires in
    let sorted = rw c.deref-2.ensures.value at c.in-Ok.ensures.sorted in
    keeps_filter old c.args.conjunct c.args.permille c.report_to.new.reports.items c.self.invariant within c.in_ok-changed.ensures.added c.reorder.new.ordering.items sorted.permuted (now_sorted c.report_to.new.reports.items c.self.inside.ordering.items c.reorder.new.ordering.items sorted)

pub returns-in-Ok-clause-taken : goal.returns-in-Ok-clause-taken
returns-in-Ok-clause-taken c =
    let old : FilterData = record { conjuncts = c.self.inside.conjuncts.items; reports = c.self.inside.reports.items; ordering = c.self.inside.ordering.items } in
    let within : c.args.conjunct < length c.self.inside.conjuncts.items = rw (← c.self.view_is) at c.requires in
    let all : are_reported c.report_to.new.reports.items ≡ true = ap are_reported (sym c.deref.ensures.value) ∙ sym c.are_reported.ensures ∙ c.if-not-are_reported.false in
    let sorted = rw c.deref-2.ensures.value at c.in-Ok.ensures.sorted in
    let fewer : length (reports_of old.reports c.args.conjunct) ≢ 2 ^ 64 - 1 = is_fewer old.reports c.args.conjunct c.index.result.now c.len.result (omega (arith, c.self.invariant.counted)) c.index.ensures c.len.ensures c.if-len.false in
    rw (← c.self.view_is) (takes_report old c.args.conjunct c.args.permille c.report_to.new.reports.items c.self.invariant within c.in_ok-changed.ensures.added c.reorder.new.ordering.items fewer (reordered c.report_to.new.reports.items c.self.inside.ordering.items c.reorder.new.ordering.items all sorted))

pub take_back-requires-clause-reported : goal.take_back-requires-clause-reported
take_back-requires-clause-reported c =
    let old : FilterData = record { conjuncts = c.self.inside.conjuncts.items; reports = c.self.inside.reports.items; ordering = c.self.inside.ordering.items } in
    let within : c.args.conjunct < length c.self.inside.conjuncts.items = rw (← c.self.view_is) at c.requires in
    (can_take_back old c.args.conjunct c.args.permille c.report_to.new.reports.items c.self.invariant within c.in_ok-changed.ensures.added).1

pub invariant_of-self-in-Err : goal.invariant_of-self-in-Err
invariant_of-self-in-Err c =
    let old : FilterData = record { conjuncts = c.self.inside.conjuncts.items; reports = c.self.inside.reports.items; ordering = c.self.inside.ordering.items } in
    let within : c.args.conjunct < length c.self.inside.conjuncts.items = rw (← c.self.view_is) at c.requires in
    let back = taken_back old c.args.conjunct c.args.permille c.report_to.new.reports.items c.self.invariant within c.in_ok-changed.ensures.added c.take_back.new.reports.items c.take_back.ensures in
    rw (back, c.in-Err.ensures.refused) c.self.invariant

pub returns-in-Err-clause-refused : goal.returns-in-Err-clause-refused
returns-in-Err-clause-refused c =
    let old : FilterData = record { conjuncts = c.self.inside.conjuncts.items; reports = c.self.inside.reports.items; ordering = c.self.inside.ordering.items } in
    let within : c.args.conjunct < length c.self.inside.conjuncts.items = rw (← c.self.view_is) at c.requires in
    let back = taken_back old c.args.conjunct c.args.permille c.report_to.new.reports.items c.self.invariant within c.in_ok-changed.ensures.added c.take_back.new.reports.items c.take_back.ensures in
    rw (back, c.in-Err.ensures.refused) c.self.view_is
