use Rattle.std.proofs.Common.{◌≡◌, arith}
use Rattle.std.specs.List.{prefix_len}
use Rattle.std.specs.Prelude.{nat_lt}
use Rattle.std.proofs.lemmas.List.Sums.{prefix_len-le-length}
use Rattle.vx_expr.proofs.ReportCounts.{room, counter_more, counter_within, higher_more}
use Rattle.vx_expr.proofs.filters.ReportCounts.add.Goals as goal

pub insert-requires : goal.insert-requires
insert-requires c =
    let place : c.place_of-place.result ≡ prefix_len (λ r. nat_lt r c.args.permille) c.self.inside.above.items = rw c.deref.ensures.value at c.place_of-place.ensures in
    omega (arith, prefix_len-le-length (λ r. nat_lt r c.args.permille) c.self.inside.above.items, c.self.inside.above.ok.0)

pub overflow_add-self : goal.overflow_add-self
overflow_add-self c = omega (arith, room c.self.inside.counts.items c.self.inside.above.items c.self.inside.total c.self.invariant (rw (← c.self.view_is) at c.requires.fewer))

pub invariant_of-self-then-permille-gt1000 : goal.invariant_of-self-then-permille-gt1000
invariant_of-self-then-permille-gt1000 c =
    let fits = room c.self.inside.counts.items c.self.inside.above.items c.self.inside.total c.self.invariant (rw (← c.self.view_is) at c.requires.fewer) in
    let place : c.place_of-place.result ≡ prefix_len (λ r. nat_lt r c.args.permille) c.self.inside.above.items = rw c.deref.ensures.value at c.place_of-place.ensures in
    rw c.in_ok-insert.ensures.items (higher_more c.self.inside.counts.items c.self.inside.above.items c.self.inside.total c.args.permille c.place_of-place.result c.self.invariant (omega arith) place fits).1

pub returns-then-permille-gt1000-clause-added : goal.returns-then-permille-gt1000-clause-added
returns-then-permille-gt1000-clause-added c =
    let fits = room c.self.inside.counts.items c.self.inside.above.items c.self.inside.total c.self.invariant (rw (← c.self.view_is) at c.requires.fewer) in
    let place : c.place_of-place.result ≡ prefix_len (λ r. nat_lt r c.args.permille) c.self.inside.above.items = rw c.deref.ensures.value at c.place_of-place.ensures in
    rw (c.in_ok-insert.ensures.items, ← c.self.view_is) (higher_more c.self.inside.counts.items c.self.inside.above.items c.self.inside.total c.args.permille c.place_of-place.result c.self.invariant (omega arith) place fits).0

pub overflow_add-index_mut : goal.overflow_add-index_mut
overflow_add-index_mut c = omega (arith, room c.self.inside.counts.items c.self.inside.above.items c.self.inside.total c.self.invariant (rw (← c.self.view_is) at c.requires.fewer), counter_within c.self.inside.counts.items c.self.inside.above.items c.self.inside.total c.args.permille c.index_mut.result.now c.self.invariant (omega arith) c.index_mut.ensures.value)

pub overflow_add-self-2 : goal.overflow_add-self-2
overflow_add-self-2 c = omega (arith, room c.self.inside.counts.items c.self.inside.above.items c.self.inside.total c.self.invariant (rw (← c.self.view_is) at c.requires.fewer))

pub invariant_of-self-2 : goal.invariant_of-self-2
invariant_of-self-2 c =
    let fits = room c.self.inside.counts.items c.self.inside.above.items c.self.inside.total c.self.invariant (rw (← c.self.view_is) at c.requires.fewer) in
    (counter_more c.self.inside.counts.items c.self.inside.above.items c.self.inside.total c.args.permille c.index_mut.result.now c.self.invariant (omega arith) c.index_mut.ensures.value fits).1

pub returns-clause-added : goal.returns-clause-added
returns-clause-added c =
    let fits = room c.self.inside.counts.items c.self.inside.above.items c.self.inside.total c.self.invariant (rw (← c.self.view_is) at c.requires.fewer) in
    rw (← c.self.view_is) (counter_more c.self.inside.counts.items c.self.inside.above.items c.self.inside.total c.args.permille c.index_mut.result.now c.self.invariant (omega arith) c.index_mut.ensures.value fits).0
