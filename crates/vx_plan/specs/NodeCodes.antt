-- Nodes as trees of numbers, one to one: what the table's model asks of its value.
use Rattle.std.specs.Prelude.{◌≡◌, ℕ, zero, suc, Bool, false, List, [], refl}
use Rattle.std.specs.Coded.{Coded, code_by, coded_ℕ, coded_bool, coded_list, coded×}
use Rattle.vx_base.specs.declared.codings.Coding.TheVariants.{Plain, Constant, Runs}
use Rattle.vx_base.specs.declared.dtypes.Nullability.TheVariants.{NonNullable}
use Rattle.vx_base.specs.Data.{DataType, bool_type}
use Rattle.vx_base.specs.Codes.{coded_type}
use Rattle.vx_expr.specs.declared.statistics.Statistic.{Statistic}
use Rattle.vx_expr.specs.StatisticCodes.{coded_statistics}
use Rattle.vx_expr.specs.Terms.{root}
use Rattle.vx_expr.specs.Bound.{Bound, coded_bound}
use Rattle.vx_plan.specs.declared.nodes.PlanKind.{PlanKind}
use Rattle.vx_plan.specs.declared.nodes.PlanKind.TheVariants as kinds
use Rattle.vx_plan.specs.Nodes.{Node}

-- a kind as its number among the kinds, the number and the truth value that it names, its statistics, and its
-- expression; a scan of a segment has one number for each coding
pub record KindParts : Type 0 where
  pub which : ℕ
  pub number : ℕ
  pub flag : Bool
  pub stats : List Statistic
  pub expression : Bound

abbrev no_expression : Bound
no_expression = record { term = root; root = bool_type NonNullable; dtype = bool_type NonNullable }

abbrev numbered : ℕ → ℕ → KindParts
numbered which number = record { which = which; number = number; flag = false; stats = []; expression = no_expression }

abbrev flagged : ℕ → Bool → KindParts
flagged which flag = record { which = which; number = 0; flag = flag; stats = []; expression = no_expression }

abbrev with_stats : ℕ → ℕ → List Statistic → KindParts
with_stats which number stats = record { which = which; number = number; flag = false; stats = stats; expression = no_expression }

abbrev pub kind_parts : PlanKind → KindParts
kind_parts kinds.Concat = numbered 0 0
kind_parts (kinds.Eval a) = record { which = 1; number = 0; flag = false; stats = []; expression = a }
kind_parts kinds.Filter = numbered 2 0
kind_parts (kinds.Pack has_validity) = flagged 3 has_validity
kind_parts kinds.Take = numbered 4 0
kind_parts kinds.Share = numbered 5 0
kind_parts (kinds.ListPack has_validity) = flagged 6 has_validity
kind_parts kinds.RowIdx = numbered 7 0
kind_parts (kinds.SegmentScan segment Plain) = numbered 8 segment
kind_parts (kinds.SegmentScan segment Constant) = numbered 11 segment
kind_parts (kinds.SegmentScan segment Runs) = numbered 12 segment
kind_parts (kinds.Zoned zone_len stats) = with_stats 9 zone_len stats
kind_parts (kinds.LegacyStats zone_len stats) = with_stats 10 zone_len stats
kind_parts (kinds.Pruning zone_len stats proof) = record { which = 13; number = zone_len; flag = false; stats = stats; expression = proof }

abbrev kind_of : ℕ → ℕ → Bool → List Statistic → Bound → PlanKind
kind_of zero n flag stats a = kinds.Concat
kind_of (suc zero) n flag stats a = kinds.Eval a
kind_of (suc (suc zero)) n flag stats a = kinds.Filter
kind_of (suc (suc (suc zero))) n flag stats a = kinds.Pack flag
kind_of (suc (suc (suc (suc zero)))) n flag stats a = kinds.Take
kind_of (suc (suc (suc (suc (suc zero))))) n flag stats a = kinds.Share
kind_of (suc (suc (suc (suc (suc (suc zero)))))) n flag stats a = kinds.ListPack flag
kind_of (suc (suc (suc (suc (suc (suc (suc zero))))))) n flag stats a = kinds.RowIdx
kind_of (suc (suc (suc (suc (suc (suc (suc (suc zero)))))))) n flag stats a = kinds.SegmentScan n Plain
kind_of (suc (suc (suc (suc (suc (suc (suc (suc (suc zero))))))))) n flag stats a = kinds.Zoned n stats
kind_of (suc (suc (suc (suc (suc (suc (suc (suc (suc (suc zero)))))))))) n flag stats a = kinds.LegacyStats n stats
kind_of (suc (suc (suc (suc (suc (suc (suc (suc (suc (suc (suc zero))))))))))) n flag stats a = kinds.SegmentScan n Constant
kind_of (suc (suc (suc (suc (suc (suc (suc (suc (suc (suc (suc (suc zero)))))))))))) n flag stats a = kinds.SegmentScan n Runs
kind_of (suc (suc (suc (suc (suc (suc (suc (suc (suc (suc (suc (suc (suc k))))))))))))) n flag stats a = kinds.Pruning n stats a

abbrev pub kind_with : KindParts → PlanKind
kind_with parts = kind_of parts.which parts.number parts.flag parts.stats parts.expression

pub kind_back : (kind : PlanKind) → kind_with (kind_parts kind) ≡ kind
kind_back kinds.Concat = refl
kind_back (kinds.Eval a) = refl
kind_back kinds.Filter = refl
kind_back (kinds.Pack has_validity) = refl
kind_back kinds.Take = refl
kind_back kinds.Share = refl
kind_back (kinds.ListPack has_validity) = refl
kind_back kinds.RowIdx = refl
kind_back (kinds.SegmentScan segment Plain) = refl
kind_back (kinds.SegmentScan segment Constant) = refl
kind_back (kinds.SegmentScan segment Runs) = refl
kind_back (kinds.Zoned zone_len stats) = refl
kind_back (kinds.LegacyStats zone_len stats) = refl
kind_back (kinds.Pruning zone_len stats proof) = refl

abbrev pub parts_pair : KindParts → ℕ × (ℕ × (Bool × (List Statistic × Bound)))
parts_pair parts = (parts.which, (parts.number, (parts.flag, (parts.stats, parts.expression))))

abbrev pub pair_parts : ℕ × (ℕ × (Bool × (List Statistic × Bound))) → KindParts
pair_parts pair = record { which = pair.0; number = pair.1.0; flag = pair.1.1.0; stats = pair.1.1.1.0; expression = pair.1.1.1.1 }

abbrev coded_parts : Coded KindParts
coded_parts = code_by (ℕ × (ℕ × (Bool × (List Statistic × Bound)))) (coded× coded_ℕ (coded× coded_ℕ (coded× coded_bool (coded× coded_statistics coded_bound)))) parts_pair pair_parts (λ _. refl)

abbrev pub coded_kind : Coded PlanKind
coded_kind = code_by KindParts coded_parts kind_parts kind_with kind_back

abbrev pub node_parts : Node → PlanKind × (DataType × (ℕ × (List ℕ × List ℕ)))
node_parts node = (node.kind, (node.dtype, (node.rows, (node.children, node.offsets))))

abbrev pub node_with : PlanKind × (DataType × (ℕ × (List ℕ × List ℕ))) → Node
node_with parts = record { kind = parts.0; dtype = parts.1.0; rows = parts.1.1.0; children = parts.1.1.1.0; offsets = parts.1.1.1.1 }

abbrev pub coded_nodes : Coded (List Node)
coded_nodes = coded_list (code_by (PlanKind × (DataType × (ℕ × (List ℕ × List ℕ)))) (coded× coded_kind (coded× coded_type (coded× coded_ℕ (coded× (coded_list coded_ℕ) (coded_list coded_ℕ))))) node_parts node_with (λ _. refl))
