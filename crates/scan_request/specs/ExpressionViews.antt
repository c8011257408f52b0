-- The expressions that are read from a request, as plain data.
use Rattle.std.specs.Prelude.{ℕ, codes, if◌then◌else◌, List, Option, Some, None, option_map, ◌||◌}
use Rattle.std.specs.Str.{bytes_eq}
use Rattle.serde_json.specs.Data.{Data, Members, no_members, member}
use Rattle.serde_json.specs.Find.{get_member}
use Rattle.vx_base.specs.Data.{DataType, Datum}
use Rattle.vx_base.specs.ValueViews.{datum}
use Rattle.vx_base.specs.Views.{data_type}
use Rattle.scan_json.specs.Singles.{SingleTold, nothing, one, many, single_said, with_single}
use Rattle.scan_request.specs.DtypeForms.{dtype_form}
use Rattle.scan_request.specs.ExpressionForms.{joined_value, literal_from, value_form}
use Rattle.scan_request.specs.declared.expression_members.Joined.{Joined}
use Rattle.scan_request.specs.declared.expression_members.Joined.TheVariants.{Nothing, One, Many}
use Rattle.scan_request.specs.declared.expression_members.ObjectMembers.{ObjectMembers}
use Rattle.vx_expr.specs.declared.expressions.Expr.{Expr}
use Rattle.vx_expr.specs.Terms.{Term, negation, null_test, value_test, conjunction, disjunction, comparison, arithmetic}
use Rattle.vx_expr.specs.TermViews.{term}
use Rattle.scan_request.specs.declared.expression_names.Join.{Join}
use Rattle.scan_request.specs.declared.expression_names.Join.TheVariants as joins
use Rattle.scan_request.specs.declared.expression_names.Test.{Test}
use Rattle.scan_request.specs.declared.expression_names.Test.TheVariants as tests

-- an expression with its name
abbrev pub named_term : List ℕ × Expr → List ℕ × Term
named_term part = (part.0, term part.1)

-- what is asked of an expression
abbrev pub tested_by : Test → Term → Term
tested_by tests.Not = negation
tested_by tests.IsNull = null_test
tested_by tests.IsNotNull = value_test

-- what two expressions are joined to
abbrev pub joined_by : Join → Term → Term → Term
joined_by joins.And = conjunction
joined_by joins.Or = disjunction
joined_by (joins.Compare op) = comparison op
joined_by (joins.Arith op) = arithmetic op

-- ---- the members of an object

abbrev pub joined_told : Joined → SingleTold (Option Term)
joined_told Nothing = nothing
joined_told (One name expr) = one name.now (option_map term expr)
joined_told Many = many

-- what the value and the dtype of a literal tell, where they are there, and all other members
pub record ObjectTold : Type 0 where
  pub value : Option (Option Datum)
  pub dtype : Option (Option DataType)
  pub joined : SingleTold (Option Term)

abbrev pub told_by : ObjectMembers → ObjectTold
told_by members = record { value = option_map (option_map datum) members.value; dtype = option_map (option_map data_type) members.dtype; joined = joined_told members.joined }

-- with one more member
abbrev pub with_member : List ℕ → Data → ObjectTold → ObjectTold
with_member name d told =
    if bytes_eq name (codes "lit") then (record told { value = Some (value_form d) })
    else (if bytes_eq name (codes "type") then (record told { dtype = Some (dtype_form d) })
    else (record told { joined = with_single name (joined_value name d) told.joined }))

-- the members that are no parts of a literal
abbrev pub others : Members → Members
others no_members = no_members
others (member name d ms) = if bytes_eq name (codes "lit") || bytes_eq name (codes "type") then others ms else member name d (others ms)

-- what all members of an object tell
abbrev pub told_of : Members → ObjectTold
told_of ms = record { value = option_map value_form (get_member (codes "lit") ms); dtype = option_map dtype_form (get_member (codes "type") ms); joined = single_said joined_value (others ms) }

abbrev pub said_by : Option (Option Datum) → Option (Option DataType) → SingleTold (Option Term) → Option Term
said_by None None (one name expr) = expr
said_by (Some value) (Some dtype) nothing = literal_from value dtype
said_by value dtype joined = None

-- the expression that they tell: a literal, or the one that the only name makes
abbrev pub object_said : ObjectTold → Option Term
object_said told = said_by told.value told.dtype told.joined
