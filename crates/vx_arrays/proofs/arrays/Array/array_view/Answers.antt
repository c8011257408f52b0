use Rattle.vx_arrays.proofs.ViewedArrays.{view_truths}
use Rattle.vx_arrays.proofs.arrays.Array.array_view.Goals as goal

pub returns-in-Truths-clause-array_view : goal.returns-in-Truths-clause-array_view
returns-in-Truths-clause-array_view c = view_truths c.self.inside.validity c.in-Truths.truths c.self.inside.buffers c.self.invariant c.in-Truths.is
