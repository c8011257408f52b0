use Rattle.std.proofs.Common.{rules, ◌≡◌, ℕ, ◌∙◌, refl, ap}
use Rattle.vx_steps.specs.declared.needed.Needed.{Needed}
use Rattle.vx_steps.specs.declared.placed_reads.PlacedRead.{PlacedRead}
use Rattle.vx_steps.specs.Needs.{Among}
use Rattle.vx_steps.proofs.SettingApart.{put_all, put_next, sets_apart}
use Rattle.vx_steps.proofs.handed_leaves.set_apart.Goals as goal

pub loop-place-init : goal.loop-place-init
loop-place-init c = record { same = refl; found = refl; put = λ need none. absurd none }

pub loop-place-preserved : goal.loop-place-preserved
loop-place-preserved c = record {
  same = ap (λ (n : Needed). record n { apart = c.put.new.self }) c.loop-place.invariant.same;
  found = c.in_ok-put.ensures.found ∙ c.loop-place.invariant.found;
  put = put_next c.args.needs.now c.loop-place.place c.loop-place.needed.apart.places c.put.new.self.places c.loop-place-test.true c.in_ok-put.ensures.put c.loop-place.invariant.put;
}

pub returns : goal.returns
returns c =
    let mid = c.loop-place.needed in
    let P : ℕ → Type 0 = λ leaf. (need : PlacedRead) × Among need c.args.needs.now × (need.leaf ≡ leaf) in
    sets_apart c.args.table.now c.args.plan P c.args.needed.now mid (record mid { apart = c.meet_row.new.sieve }) c.loop-place.invariant.same c.loop-place.invariant.found (put_all c.args.needs.now c.loop-place.place mid.apart.places (search rules) c.loop-place.invariant.put) c.meet_row.ensures refl
