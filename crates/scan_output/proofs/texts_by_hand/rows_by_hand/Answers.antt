use Rattle.std.proofs.Common.{refl}
use Rattle.std.specs.Fmt.{digits}
use Rattle.scan_output.specs.RowText.{escaped}
use Rattle.scan_output.proofs.texts_by_hand.rows_by_hand.Goals as goal

pub returns-clause-greatest : goal.returns-clause-greatest
unfolding digits
returns-clause-greatest c = refl

pub returns-clause-least : goal.returns-clause-least
unfolding digits
returns-clause-least c = refl

pub returns-clause-zero : goal.returns-clause-zero
unfolding digits
returns-clause-zero c = refl

pub returns-clause-nested : goal.returns-clause-nested
unfolding digits escaped
returns-clause-nested c = refl
