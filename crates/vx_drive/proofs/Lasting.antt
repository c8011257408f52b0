-- What lasts of a source's state, over one run and over two.
use Rattle.std.proofs.Common.{ℕ, ◌≤◌, ◌∙◌, refl, arith}
use Rattle.vx_drive.specs.Asks.{Lasts}
use Rattle.vx_base.specs.Sources.{SourceState, RoseBy}

pub lasts_same : (source : SourceState) → Lasts source source
lasts_same source = record { file = refl; faults = omega arith; idle = omega arith }

pub lasts_then : (before now after : SourceState) → Lasts before now → Lasts now after → Lasts before after
lasts_then before now after one two = record {
  file = two.file ∙ one.file;
  faults = let p = one.faults in let q = two.faults in omega (arith, p, q);
  idle = let p = one.idle in let q = two.idle in omega (arith, p, q);
}

-- ---- a count that rose

-- over the second of two runs it rose over both
pub rose_from : (much before now after : ℕ) → before ≤ now → RoseBy much now after → RoseBy much before after
rose_from much before now after le rose = let p = rose.kept in let q = rose.raised in record { kept = omega (arith, le, p); raised = omega (arith, le, q) }

-- and over the first of them
pub rose_on : (much before now after : ℕ) → RoseBy much before now → now ≤ after → RoseBy much before after
rose_on much before now after rose le = let p = rose.kept in let q = rose.raised in record { kept = omega (arith, le, p); raised = omega (arith, le, q) }
