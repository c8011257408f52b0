use Rattle.std.proofs.Common.{◌+◌, ◌≤◌, length, refl, rules, arith}
use Rattle.vx_steps.proofs.AddedNeeds.{all_segments, none_counted, run_counted, run_longer}
use Rattle.vx_steps.proofs.Needing.{placed_at}
use Rattle.vx_steps.proofs.SegmentRuns.{named_inside}
use Rattle.vx_steps.proofs.still_read.count_segments.Goals.{then-not-names_at+in_ok-add_count, else-not-names_at}
use Rattle.vx_steps.proofs.still_read.count_segments.Goals as goal

pub loop-place-init : goal.loop-place-init
loop-place-init c = record { few = omega arith; none = λ none. refl; counted = none_counted c.args.needs.now c.args.counts.now }

pub loop-place-preserved : goal.loop-place-preserved
loop-place-preserved c =
    let needs = c.args.needs.now in
    let i = c.loop-place.place in
    let run = c.loop-place.run in
    let few = c.loop-place.invariant.few in
    elim c.if-not-names_at.branch [
      | then-not-names_at+in_ok-add_count w ↦ rw (w.counts-is, w.run-is) (record {
        few = omega arith;
        none = λ all. refl;
        counted = run_counted needs i run c.args.counts.now c.loop-place.counts w.add_count.new.counts c.loop-place-test.true w.in_ok-add_count.ensures c.loop-place.invariant.counted;
      })
      | else-not-names_at w ↦
          let inside = named_inside needs (i + 1) (placed_at needs i).segment w.if-not-names_at.ensures in
          rw (w.counts-is, w.run-is) (record {
            few = omega arith;
            none = λ all. absurd (omega arith);
            counted = run_longer needs i run c.args.counts.now c.loop-place.counts c.loop-place-test.true w.if-not-names_at.ensures c.loop-place.invariant.counted;
          })
    ]

pub returns : goal.returns
returns c =
    let all : length c.args.needs.now ≤ c.loop-place.place = search rules in
    all_segments c.args.needs.now c.loop-place.place c.loop-place.run c.args.counts.now c.loop-place.counts all (c.loop-place.invariant.none all) c.loop-place.invariant.counted
