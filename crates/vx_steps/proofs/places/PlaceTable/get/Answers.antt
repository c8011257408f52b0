use Rattle.std.proofs.Common.{◌≡◌, arith}
use Rattle.vx_steps.proofs.TablePlaces.{found_none, found_some}
use Rattle.vx_steps.proofs.places.PlaceTable.get.Goals as goal

pub returns-then-number-eq0 : goal.returns-then-number-eq0
returns-then-number-eq0 c = found_none c.args.self.now c.args.plan c.get-number.result c.get-number.ensures.value (grind arith)

pub returns : goal.returns
returns c =
    let not : c.get-number.result ≡ 0 → ⊥ = λ e. absurd (grind arith) in
    found_some c.args.self.now c.args.plan c.get-number.result c.get-number.ensures.value not
