use Rattle.std.proofs.Common.{take}
use Rattle.vx_steps.specs.HandedLeaves.{NotesSplit}
use Rattle.vx_steps.proofs.handed_leaves.note_split.Given as goal

abbrev pub invariant-loop-place : goal.invariant-loop-place
invariant-loop-place l = NotesSplit (take l.place l.needs) l.number l.fn.later l.later
