use Rattle.std.proofs.Common.{◌+◌, ◌-◌, drop, refl, take, arith}
use Rattle.vx_columns.proofs.CutRuns.{cut_made}
use Rattle.vx_columns.proofs.SpreadRuns.{runs_len}
use Rattle.vx_columns.proofs.run_rows.Runs.some_rows.Goals as goal

pub places_in-first-requires-clause-inside : goal.places_in-first-requires-clause-inside
places_in-first-requires-clause-inside c = omega (arith, c.requires.inside, runs_len c.self.inside.values c.args.self.now c.self.inside.ends.items c.as_slice-ends.result.now c.self.view_is c.as_slice-ends.ensures.value c.self.invariant.same c.self.invariant.rise)

pub invariant_of-result : goal.invariant_of-result
invariant_of-result c =
    let slice = c.as_slice-ends.result.now in
    let first = c.places_in-first.result.0 in
    let last = c.places_in-first.result.1 in
    (cut_made c.self.inside.values c.args.self.now c.in_ok-values.values c.self.inside.ends.items slice (take (last + 1 - first) (drop first slice)) c.in_ok-ends.ends.items c.args.rows.start c.args.rows.end first last (last + 1) c.self.view_is c.self.invariant.same c.self.invariant.rise c.as_slice-ends.ensures.value c.requires.some
    c.places_in-first.ensures.first c.places_in-first.ensures.last c.places_in-first.ensures.order refl refl c.in_ok-ends.ensures c.in_ok-values.ensures).0

pub returns : goal.returns
returns c =
    let slice = c.as_slice-ends.result.now in
    let first = c.places_in-first.result.0 in
    let last = c.places_in-first.result.1 in
    (cut_made c.self.inside.values c.args.self.now c.in_ok-values.values c.self.inside.ends.items slice (take (last + 1 - first) (drop first slice)) c.in_ok-ends.ends.items c.args.rows.start c.args.rows.end first last (last + 1) c.self.view_is c.self.invariant.same c.self.invariant.rise c.as_slice-ends.ensures.value c.requires.some
    c.places_in-first.ensures.first c.places_in-first.ensures.last c.places_in-first.ensures.order refl refl c.in_ok-ends.ensures c.in_ok-values.ensures).1
