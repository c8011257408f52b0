-- When a predicate prunes a zone: by what is told of the zone, no row of it makes the predicate true.
use Rattle.std.specs.Prelude.{◌≡◌, ℕ, Bool, false, ◌&&◌, ◌||◌, if◌then◌else◌, List, map, Option, Some, None, option_map, is_some, IsTrue}
use Rattle.vx_base.specs.ColumnCalls.{natural}
use Rattle.vx_base.specs.Data.{Datum, truth, number, text}
use Rattle.vx_base.specs.Leaf.{IsLeaf}
use Rattle.vx_base.specs.Slots.{truth_in}
use Rattle.vx_operators.specs.declared.operators.CompareOp.{CompareOp}
use Rattle.vx_operators.specs.declared.operators.CompareOp.TheVariants.{Eq, Ne, Lt, Le, Gt, Ge}
use Rattle.vx_operators.specs.Operators.{comparison_of}
use Rattle.vx_expr.specs.Bound.{Bound}
use Rattle.vx_expr.specs.Mentions.{is_root}
use Rattle.vx_expr.specs.Terms.{Term, literal, conjunction, disjunction, comparison, null_test, value_test, bound_test}
use Rattle.vx_zones.specs.Tables.{Zone, TableData, zones_in}

-- ---- one zone

-- a test's answer is true, and neither null nor a fault
abbrev pub is_yes : Option Datum → Bool
is_yes None = false
is_yes (Some answer) = truth_in answer

-- whether what is told compares so with a value; what isn't told doesn't
abbrev pub tells : CompareOp → Datum → Datum → Bool
tells op told value = is_yes (comparison_of op told value)

-- no value of the zone compares so with the value
abbrev pub excludes : CompareOp → Datum → Zone → Bool
excludes Eq c zone = tells Gt zone.least c || tells Lt zone.greatest c
excludes Ne c zone = tells Eq zone.least c && tells Eq zone.greatest c
excludes Lt c zone = tells Ge zone.least c
excludes Le c zone = tells Gt zone.least c
excludes Gt c zone = tells Le zone.greatest c
excludes Ge c zone = tells Lt zone.greatest c

-- each row of the zone is null; none is
abbrev pub all_null : Zone → Bool
all_null zone = tells Eq zone.nulls (natural zone.rows)

abbrev pub none_null : Zone → Bool
none_null zone = tells Eq zone.nulls (natural 0)

-- ---- what a comparison compares the root with

-- the value of a literal; None where it is null, or no literal
abbrev pub literal_in : Term → Option Datum
literal_in (literal (truth b) t) = Some (truth b)
literal_in (literal (number z) t) = Some (number z)
literal_in (literal (text bytes) t) = Some (text bytes)
literal_in e = None

-- the same comparison from the other side
abbrev pub mirrored : CompareOp → CompareOp
mirrored Eq = Eq
mirrored Ne = Ne
mirrored Lt = Gt
mirrored Le = Ge
mirrored Gt = Lt
mirrored Ge = Le

-- how the root is compared, and with which value; None where the sides are not the bare root and a literal with a value
abbrev pub root_comparison : CompareOp → Term → Term → Option (CompareOp × Datum)
root_comparison op a b = if is_root a then option_map (λ c. (op, c)) (literal_in b)
    else if is_root b then option_map (λ c. (mirrored op, c)) (literal_in a)
    else None

-- the zone holds no value that compares so, or nulls alone
abbrev pub excludes_comparison : Option (CompareOp × Datum) → Zone → Bool
excludes_comparison (Some test) zone = excludes test.0 test.1 zone || all_null zone
excludes_comparison None zone = false

-- ---- a predicate

-- whether the predicate prunes the zone at the bound
abbrev pub prunes : ℕ → Term → Zone → Bool
prunes bound (comparison op a b) zone = excludes_comparison (root_comparison op a b) zone
prunes bound (bound_test e) zone = is_root e && (tells Gt zone.least (natural bound) || all_null zone)
prunes bound (null_test e) zone = is_root e && none_null zone
prunes bound (value_test e) zone = is_root e && all_null zone
prunes bound (conjunction a b) zone = prunes bound a zone || prunes bound b zone
prunes bound (disjunction a b) zone = prunes bound a zone && prunes bound b zone
prunes bound e zone = false

-- whether the predicate has a proof, over a root of a leaf dtype
abbrev pub is_provable : Term → Bool
is_provable (comparison op a b) = is_some (root_comparison op a b)
is_provable (bound_test e) = is_root e
is_provable (null_test e) = is_root e
is_provable (value_test e) = is_root e
is_provable (conjunction a b) = is_provable a || is_provable b
is_provable (disjunction a b) = is_provable a && is_provable b
is_provable e = false

pub record HasProof (predicate : Bound) : Type 0 where
  pub leaf : IsLeaf predicate.root
  pub provable : IsTrue (is_provable predicate.term)

-- Without a proof a predicate prunes no zone.
abbrev pub ProofsAlonePrune : Type 0
ProofsAlonePrune = (e : Term) (bound : ℕ) (zone : Zone) → is_provable e ≡ false → prunes bound e zone ≡ false

-- ---- a table

-- which zones of the table the predicate prunes at the bound, one truth value for each
abbrev pub pruned_zones : ℕ → Term → TableData → List Bool
pruned_zones bound e table = map (prunes bound e) (zones_in table)
