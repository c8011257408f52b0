use Rattle.std.proofs.Common.{ℕ, ◌≡◌, ◌<◌, ◌-◌, length, take, get_or, sym, ap, ◌∙◌, arith, rules, sum}
use Rattle.std.proofs.lemmas.List.{take_all}
use Rattle.vx_expr.proofs.ReportCounts.{sum_within, report_here, report_above}
use Rattle.vx_expr.proofs.filters.ReportCounts.at.Goals as goal

pub overflow_add-passed : goal.overflow_add-passed
overflow_add-passed c =
    let inside = c.self.inside in
    let within : c.loop-permille.permille < length inside.counts.items = omega arith in
    omega (arith, sum_within inside.counts.items inside.above.items inside.total c.loop-permille.permille c.index.result.now c.self.invariant within, c.index.ensures, c.self.invariant.fits)

pub returns-then-place-passed : goal.returns-then-place-passed
returns-then-place-passed c =
    let inside = c.self.inside in
    let within : c.loop-permille.permille < length inside.counts.items = omega arith in
    rw (← c.self.view_is) (sym (report_here inside.counts.items inside.above.items c.loop-permille.permille c.args.place c.index.result.now within (omega arith) (omega (arith, c.index.ensures))))

pub returns : goal.returns
returns c =
    let inside = c.self.inside in
    let all : take c.loop-permille.permille inside.counts.items ≡ inside.counts.items = take_all c.loop-permille.permille inside.counts.items (omega arith) in
    let passed : c.loop-permille.passed ≡ sum inside.counts.items = c.loop-permille.invariant.counted ∙ ap sum all in
    let read : c.unwrap_or.result ≡ get_or inside.above.items (c.args.place - c.loop-permille.passed) 0 = search rules in
    rw (← c.self.view_is) (read ∙ ap (λ (n : ℕ). get_or inside.above.items (c.args.place - n) 0) passed ∙ sym (report_above inside.counts.items inside.above.items c.args.place (omega arith)))
