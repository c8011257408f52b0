use Rattle.std.proofs.Common.{rules, ◌∙◌, ◌≡◌, ◌≤◌, Some, length, map, refl, ap, subst, arith}
use Rattle.std.specs.List.{slice_get}
use Rattle.std.specs.Option.{option_map}
use Rattle.vx_plan.specs.Refs.{number_of}
use Rattle.vx_steps.specs.declared.kept.KeptValue.{KeptValue}
use Rattle.vx_steps.specs.declared.needed.Needed.{Needed}
use Rattle.vx_steps.specs.Kept.{kept_data, IsKept}
use Rattle.vx_steps.specs.KeptData.{Kept}
use Rattle.vx_steps.proofs.Indexing.{got_data, length_data}
use Rattle.vx_steps.proofs.SettingApart.{put_all_kept, put_next_kept, sets_apart}
use Rattle.vx_steps.proofs.handed_leaves.set_apart_handed.Goals as goal

pub loop-place-init : goal.loop-place-init
loop-place-init c = record { same = refl; found = refl; put = λ place k less at. absurd (omega arith) }

pub loop-place-preserved : goal.loop-place-preserved
loop-place-preserved c =
    let columns = c.stored-columns.result.now in
    let x = c.index-columns-place.result in
    let node : option_map (λ (k : Kept). k.node) (slice_get (map kept_data columns) c.loop-place.place) ≡ Some (number_of x.node) = ap (option_map (λ (k : Kept). k.node)) (got_data columns c.loop-place.place x c.loop-place-test.true c.index-columns-place.is) in
    let N : KeptValue → Type 0 = λ v. option_map (λ (k : Kept). k.node) (slice_get (map kept_data columns) c.loop-place.place) ≡ Some (number_of v.node) in
    record {
      same = ap (λ (n : Needed). record n { apart = c.put.new.self }) c.loop-place.invariant.same;
      found = c.in_ok-put.ensures.found ∙ c.loop-place.invariant.found;
      put = put_next_kept (map kept_data columns) c.loop-place.place _ c.loop-place.needed.apart.places c.put.new.self.places (subst N c.index-columns-place.is node) c.in_ok-put.ensures.put c.loop-place.invariant.put;
    }

pub returns : goal.returns
returns c =
    let mid = c.loop-place.needed in
    let columns = c.stored-columns.result.now in
    let count : length columns ≤ c.loop-place.place = search rules in
    let all : length (map kept_data columns) ≤ c.loop-place.place = omega (arith, length_data columns, count) in
    sets_apart c.args.table.now c.args.job.now.plan (IsKept c.args.handed.now.here) c.args.needed.now mid (record mid { apart = c.meet_row.new.sieve }) c.loop-place.invariant.same c.loop-place.invariant.found (λ leaf own. put_all_kept (map kept_data columns) c.loop-place.place mid.apart.places all c.loop-place.invariant.put leaf (c.stored-columns.ensures.here leaf own)) c.meet_row.ensures refl
