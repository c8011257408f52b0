-- An expression that is bound to the dtype of its root.
use Rattle.std.proofs.Common.{◌≡◌}
use base.Stored.{Gv, gcons, Coded}
use Rattle.std.specs.Prelude.{IsTrue}
use Rattle.vx_base.specs.Data.{DataType}
use Rattle.vx_base.specs.Codes.{coded_type}
use Rattle.vx_expr.specs.Codes.{coded_term}
use Rattle.vx_expr.specs.Terms.{Term}
use Rattle.vx_expr.specs.Mentions.{uses_root}

-- what is computed, over which dtype, and of which dtype it is
pub record Bound : Type 0 where
  pub term : Term
  pub root : DataType
  pub dtype : DataType

-- it takes root values of this dtype: any, where it doesn't look at them
abbrev pub IsBoundTo : Bound → DataType → Type 0
IsBoundTo a t = IsTrue (uses_root a.term) → a.root ≡ t

-- ---- as a tree of numbers
abbrev code_bound : Bound → Gv
code_bound a = gcons (coded_term.code a.term) (gcons (coded_type.code a.root) (coded_type.code a.dtype))

pub bound_same : (a b : Bound) → code_bound a ≡ code_bound b → a ≡ b
bound_same a b e =
    let p : a.term ≡ b.term = coded_term.inj a.term b.term cc in
    let q : a.root ≡ b.root = coded_type.inj a.root b.root cc in
    let r : a.dtype ≡ b.dtype = coded_type.inj a.dtype b.dtype cc in
    λ i. record { term = p i; root = q i; dtype = r i }

abbrev pub coded_bound : Coded Bound
coded_bound = record { code = code_bound; inj = bound_same }
