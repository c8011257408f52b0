-- Which errors are of the bytes that came, and what a fault of picked rows is to a reader.
use Rattle.std.specs.Prelude.{ℕ}
use Rattle.vx_expr.specs.declared.applying.ApplyError.{ApplyError}
use Rattle.vx_expr.specs.declared.applying.ApplyError.TheVariants as applied
use Rattle.vx_picking.specs.declared.errors.LookUpError.{LookUpError}
use Rattle.vx_picking.specs.declared.errors.LookUpError.TheVariants as looked
use Rattle.vx_reads.specs.declared.errors.ReaderError.{ReaderError}
use Rattle.vx_reads.specs.declared.errors.ReaderError.TheVariants.{ReadFault, BadSegment, BadCode, EvalFault, NoLocation, Memory}

-- the fault is one of the bytes that came, or there is no memory; it is none of the source
abbrev pub IsOfBytes : ReaderError → Type 0
IsOfBytes ReadFault = ⊥
IsOfBytes (NoLocation segment) = ⊥
IsOfBytes (BadSegment segment) = Unit {0}
IsOfBytes (BadCode node row) = Unit {0}
IsOfBytes (EvalFault row) = Unit {0}
IsOfBytes Memory = Unit {0}

-- the fault is none of an expression
abbrev pub IsNotOfExpression : ReaderError → Type 0
IsNotOfExpression ReadFault = Unit {0}
IsNotOfExpression (NoLocation segment) = Unit {0}
IsNotOfExpression (BadSegment segment) = Unit {0}
IsNotOfExpression (BadCode node row) = Unit {0}
IsNotOfExpression (EvalFault row) = ⊥
IsNotOfExpression Memory = Unit {0}

-- a code of the dictionary of that number looks up no value
abbrev pub look_up_fault : ℕ → LookUpError → ReaderError
look_up_fault dictionary (looked.BadCode row) = BadCode dictionary row
look_up_fault dictionary looked.Memory = Memory

-- an expression is not worked out
abbrev pub apply_fault : ApplyError → ReaderError
apply_fault (applied.EvalFault row) = EvalFault row
apply_fault applied.Memory = Memory
