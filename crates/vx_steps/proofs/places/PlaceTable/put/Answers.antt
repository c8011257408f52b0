use Rattle.std.proofs.Common.{◌≡◌, ◌+◌, Some, arith}
use Rattle.std.proofs.lemmas.Grind.{common_steps}
use Rattle.vx_steps.specs.Places.{KeepsPlaces}
use Rattle.vx_steps.proofs.Indexing.{on_err}
use Rattle.vx_steps.proofs.Tables.{put_after}
use Rattle.vx_steps.proofs.TablePlaces.{before_next, keeps_places, sets_place}
use Rattle.vx_steps.proofs.places.PlaceTable.put.Goals as goal

pub returns-in_err-reach-clause-as_before : goal.returns-in_err-reach-clause-as_before
returns-in_err-reach-clause-as_before c = on_err c.from_residual.result (KeepsPlaces c.args.self.now (record { numbers = c.reach.new.self })) (keeps_places c.args.self.now (record { numbers = c.reach.new.self }) c.in_err-reach.ensures.kept)

pub returns-clause-put : goal.returns-clause-put
returns-clause-put c =
    let is : c.in-Some.number ≡ c.args.place + 1 = grind (arith, common_steps) in
    sets_place c.args.self.now (record { numbers = c.put.new.self }) c.args.plan c.in-Some.number (Some c.args.place) (before_next c.in-Some.number c.args.place is) (put_after c.args.self.now.numbers c.reach.new.self c.put.new.self c.args.plan c.in-Some.number c.in_ok-reach.ensures.kept c.put.ensures.number)
