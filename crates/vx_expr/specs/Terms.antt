-- Expressions as plain data, whatever memory they lie in.
use Rattle.std.specs.Prelude.{ℕ, List}
use Rattle.vx_base.specs.Data.{DataType, Datum}
use Rattle.vx_operators.specs.declared.operators.CompareOp.{CompareOp}
use Rattle.vx_operators.specs.declared.operators.ArithOp.{ArithOp}

-- A struct's values have names, which are the bytes of texts.
mutual
  pub data Term : Type 0 where
    root : Term
    literal : Datum → DataType → Term
    get_field : List ℕ → Term → Term
    pack : Terms → Term
    negation : Term → Term
    conjunction : Term → Term → Term
    disjunction : Term → Term → Term
    comparison : CompareOp → Term → Term → Term
    null_test : Term → Term
    value_test : Term → Term
    arithmetic : ArithOp → Term → Term → Term
    row_number : Term
    bound_test : Term → Term

  pub data Terms : Type 0 where
    no_terms : Terms
    named : List ℕ → Term → Terms → Terms

-- an expression of two parts, joined by an operator
abbrev pub IsPair : Term → Type 0
IsPair (conjunction a b) = Unit {0}
IsPair (disjunction a b) = Unit {0}
IsPair (comparison op a b) = Unit {0}
IsPair (arithmetic op a b) = Unit {0}
IsPair e = ⊥

-- an expression of one part, other than a struct of named ones
abbrev pub IsDerived : Term → Type 0
IsDerived (get_field name e) = Unit {0}
IsDerived (negation e) = Unit {0}
IsDerived (null_test e) = Unit {0}
IsDerived (value_test e) = Unit {0}
IsDerived (bound_test e) = Unit {0}
IsDerived e = ⊥
