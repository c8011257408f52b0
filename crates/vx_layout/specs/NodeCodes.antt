-- Nodes as trees of numbers, one to one: what a layout tree's model asks of its value.
use Rattle.std.specs.Prelude.{◌≡◌, ℕ, zero, suc, List, [], refl}
use Rattle.std.specs.Coded.{Coded, code_by, coded_ℕ, coded_list, coded×}
use Rattle.vx_base.specs.declared.codings.Coding.TheVariants.{Plain, Constant, Runs}
use Rattle.vx_base.specs.Data.{DataType}
use Rattle.vx_base.specs.Codes.{coded_type}
use Rattle.vx_layout.specs.declared.nodes.LayoutKind.{LayoutKind}
use Rattle.vx_layout.specs.declared.nodes.LayoutKind.TheVariants as kinds
use Rattle.vx_expr.specs.declared.statistics.Statistic.{Statistic}
use Rattle.vx_expr.specs.StatisticCodes.{coded_statistics}
use Rattle.vx_layout.specs.Nodes.{Node}

-- a kind as its number among the kinds, the number that it names, and its statistics; a flat node has one number for
-- each coding
abbrev pub kind_parts : LayoutKind → ℕ × (ℕ × List Statistic)
kind_parts (kinds.Flat segment Plain) = (0, (segment, []))
kind_parts (kinds.Flat segment Constant) = (7, (segment, []))
kind_parts (kinds.Flat segment Runs) = (8, (segment, []))
kind_parts kinds.Chunked = (1, (0, []))
kind_parts kinds.Struct = (2, (0, []))
kind_parts kinds.Dict = (3, (0, []))
kind_parts kinds.List = (4, (0, []))
kind_parts (kinds.Zoned zone_len stats) = (5, (zone_len, stats))
kind_parts (kinds.LegacyStats zone_len stats) = (6, (zone_len, stats))

abbrev kind_from : ℕ → ℕ → List Statistic → LayoutKind
kind_from zero n stats = kinds.Flat n Plain
kind_from (suc zero) n stats = kinds.Chunked
kind_from (suc (suc zero)) n stats = kinds.Struct
kind_from (suc (suc (suc zero))) n stats = kinds.Dict
kind_from (suc (suc (suc (suc zero)))) n stats = kinds.List
kind_from (suc (suc (suc (suc (suc zero))))) n stats = kinds.Zoned n stats
kind_from (suc (suc (suc (suc (suc (suc zero)))))) n stats = kinds.LegacyStats n stats
kind_from (suc (suc (suc (suc (suc (suc (suc zero))))))) n stats = kinds.Flat n Constant
kind_from (suc (suc (suc (suc (suc (suc (suc (suc k)))))))) n stats = kinds.Flat n Runs

abbrev pub kind_with : ℕ × (ℕ × List Statistic) → LayoutKind
kind_with parts = kind_from parts.0 parts.1.0 parts.1.1

pub kind_back : (kind : LayoutKind) → kind_with (kind_parts kind) ≡ kind
kind_back (kinds.Flat segment Plain) = refl
kind_back (kinds.Flat segment Constant) = refl
kind_back (kinds.Flat segment Runs) = refl
kind_back kinds.Chunked = refl
kind_back kinds.Struct = refl
kind_back kinds.Dict = refl
kind_back kinds.List = refl
kind_back (kinds.Zoned zone_len stats) = refl
kind_back (kinds.LegacyStats zone_len stats) = refl

abbrev pub coded_kind : Coded LayoutKind
coded_kind = code_by (ℕ × (ℕ × List Statistic)) (coded× coded_ℕ (coded× coded_ℕ coded_statistics)) kind_parts kind_with kind_back

abbrev pub node_parts : Node → LayoutKind × (DataType × (ℕ × List ℕ))
node_parts node = (node.kind, (node.dtype, (node.rows, node.children)))

abbrev pub node_with : LayoutKind × (DataType × (ℕ × List ℕ)) → Node
node_with parts = record { kind = parts.0; dtype = parts.1.0; rows = parts.1.1.0; children = parts.1.1.1 }

abbrev pub coded_nodes : Coded (List Node)
coded_nodes =
    coded_list (code_by (LayoutKind × (DataType × (ℕ × List ℕ)))
    (coded× coded_kind (coded× coded_type (coded× coded_ℕ (coded_list coded_ℕ)))) node_parts node_with (λ _. refl))
