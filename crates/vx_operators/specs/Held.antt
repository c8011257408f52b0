-- What both of two columnar values hold.
use Rattle.vx_operators.specs.declared.columnar_values.ColumnarValue.{ColumnarValue}
use Rattle.vx_operators.specs.declared.dispatch.Held.{Held}
use Rattle.vx_operators.specs.declared.dispatch.Held.TheVariants.{Truths, Texts, Numbers}
use Rattle.vx_operators.specs.ColumnarValues.{HoldsTruths, HoldsTexts, HoldsNumbers}

abbrev pub HoldBoth : Held → ColumnarValue → ColumnarValue → Type 0
HoldBoth Truths left right = HoldsTruths left × HoldsTruths right
HoldBoth Texts left right = HoldsTexts left × HoldsTexts right
HoldBoth (Numbers kind) left right = HoldsNumbers kind left × HoldsNumbers kind right
