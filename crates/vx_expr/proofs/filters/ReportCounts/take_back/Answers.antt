use Rattle.std.proofs.Common.{◌≡◌, arith}
use Rattle.std.specs.List.{prefix_len}
use Rattle.std.specs.Prelude.{nat_lt}
use Rattle.vx_expr.proofs.ReportCounts.{some_counted, counter_some, counter_less, higher_some, higher_less}
use Rattle.vx_expr.proofs.filters.ReportCounts.take_back.Goals as goal

pub overflow_sub-self : goal.overflow_sub-self
overflow_sub-self c = some_counted c.self.inside.counts.items c.self.inside.above.items c.self.inside.total c.args.permille c.self.invariant (rw (← c.self.view_is) at c.requires.reported)

pub remove-requires : goal.remove-requires
remove-requires c =
    let place : c.place_of-place.result ≡ prefix_len (λ r. nat_lt r c.args.permille) c.self.inside.above.items = rw c.deref.ensures.value at c.place_of-place.ensures in
    omega (arith, higher_some c.self.inside.counts.items c.self.inside.above.items c.self.inside.total c.args.permille c.place_of-place.result c.self.invariant (omega arith) place (rw (← c.self.view_is) at c.requires.reported), c.self.inside.above.ok.0)

pub returns-then-permille-gt1000 : goal.returns-then-permille-gt1000
returns-then-permille-gt1000 c =
    let place : c.place_of-place.result ≡ prefix_len (λ r. nat_lt r c.args.permille) c.self.inside.above.items = rw c.deref.ensures.value at c.place_of-place.ensures in
    let within = higher_some c.self.inside.counts.items c.self.inside.above.items c.self.inside.total c.args.permille c.place_of-place.result c.self.invariant (omega arith) place (rw (← c.self.view_is) at c.requires.reported) in
    rw (c.remove.ensures.items, ← c.self.view_is) (higher_less c.self.inside.counts.items c.self.inside.above.items c.self.inside.total c.args.permille c.place_of-place.result c.self.invariant (omega arith) place within).0

pub overflow_sub-index_mut : goal.overflow_sub-index_mut
overflow_sub-index_mut c = counter_some c.self.inside.counts.items c.self.inside.above.items c.self.inside.total c.args.permille c.index_mut.result.now c.self.invariant (omega arith) c.index_mut.ensures.value (rw (← c.self.view_is) at c.requires.reported)

pub invariant_of-self-2 : goal.invariant_of-self-2
invariant_of-self-2 c =
    let some = counter_some c.self.inside.counts.items c.self.inside.above.items c.self.inside.total c.args.permille c.index_mut.result.now c.self.invariant (omega arith) c.index_mut.ensures.value (rw (← c.self.view_is) at c.requires.reported) in
    (counter_less c.self.inside.counts.items c.self.inside.above.items c.self.inside.total c.args.permille c.index_mut.result.now c.self.invariant (omega arith) c.index_mut.ensures.value some).1

pub returns : goal.returns
returns c =
    let some = counter_some c.self.inside.counts.items c.self.inside.above.items c.self.inside.total c.args.permille c.index_mut.result.now c.self.invariant (omega arith) c.index_mut.ensures.value (rw (← c.self.view_is) at c.requires.reported) in
    rw (← c.self.view_is) (counter_less c.self.inside.counts.items c.self.inside.above.items c.self.inside.total c.args.permille c.index_mut.result.now c.self.invariant (omega arith) c.index_mut.ensures.value some).0
