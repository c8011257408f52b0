use Rattle.std.proofs.Common.{◌≡◌, true, false, refl}
use Rattle.scan_request.specs.RowForms.{ascends}
use Rattle.scan_request.proofs.RowForms.{ascends_false, ascends_true}
use Rattle.scan_request.proofs.row_forms.ascending.Goals as goal

pub returns-in-Ok : goal.returns-in-Ok
returns-in-Ok c =
    let up : ascends c.in_ok-rows.field-0.items ≡ true = ascends_true c.in_ok-rows.field-0.items c.in-Ok.ensures.ascending in
    rw (c.in_ok-rows.was, up, c.in-Ok.ensures.made) refl

pub returns-in-Err : goal.returns-in-Err
returns-in-Err c =
    let down : ascends c.in_ok-rows.field-0.items ≡ false = ascends_false c.in_ok-rows.field-0.items c.in-Err.field-0 c.in-Err.ensures.refused in
    rw (c.in_ok-rows.was, down) refl
