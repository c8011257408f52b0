-- The fields that an expression keeps of a tree may be kept.
use Rattle.std.proofs.Common.{◌≡◌, Bool, true, false, List, ℕ, Option, Some, None, cond, sym, subst}
use Rattle.std.specs.Prelude.{IsSomeAnd}
use Rattle.vx_base.specs.declared.dtypes.Nullability.TheVariants.{NonNullable, Nullable}
use Rattle.vx_base.specs.Data.{DataType, bool_type, int_type, utf8_type, struct_type, list_type, Members}
use Rattle.vx_expr.specs.Mentions.{uses_root, root_fields}
use Rattle.vx_expr.specs.Terms.{Term}
use Rattle.vx_layout.specs.Kept.{KeptFields, all, kept_among, kept_fields}
use Rattle.vx_layout.specs.Nodes.{Node}
use Rattle.vx_lower.specs.KeptRows.{MayKeep}

among_may : (ms members : Members) (names : Option (List (List ℕ))) → MayKeep (kept_among ms names) (struct_type members NonNullable)
among_may ms members None = tt
among_may ms members (Some names) = tt

struct_may : (used : Bool) (ms : Members) (names : Option (List (List ℕ))) → MayKeep (cond used (kept_among ms names) all) (struct_type ms NonNullable)
struct_may true ms names = among_may ms ms names
struct_may false ms names = tt

type_may : (t : DataType) (e : Term) → MayKeep (kept_fields t e) t
type_may (bool_type n) e = tt
type_may (int_type kind n) e = tt
type_may (utf8_type n) e = tt
type_may (struct_type ms NonNullable) e = struct_may (uses_root e) ms (root_fields e)
type_may (struct_type ms Nullable) e = tt
type_may (list_type t n) e = tt

pub kept_may : (root : Option Node) (kept : KeptFields) (e : Term) → IsSomeAnd root (λ node. kept ≡ kept_fields node.dtype e) → IsSomeAnd root (λ node. MayKeep kept node.dtype)
kept_may None kept e is = is
kept_may (Some node) kept e is = subst (λ (fields : KeptFields). MayKeep fields node.dtype) (sym is) (type_may node.dtype e)

pub all_may : (root : Option Node) (t : DataType) → IsSomeAnd root (λ node. t ≡ node.dtype) → IsSomeAnd root (λ node. MayKeep all node.dtype)
all_may None t is = is
all_may (Some node) t is = tt
