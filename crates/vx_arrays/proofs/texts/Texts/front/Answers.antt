use Rattle.std.proofs.Common.{arith, ap, length}
use Rattle.vx_arrays.proofs.CutTexts.{length_cut}
use Rattle.vx_arrays.proofs.texts.Texts.front.Goals as goal

pub front_in-requires-clause-row : goal.front_in-requires-clause-row
front_in-requires-clause-row c = omega (arith, c.requires, ap length c.self.view_is, length_cut c.self.inside.bytes.items 0 c.self.inside.ends.items, ap length c.as_slice-2.ensures.value)
