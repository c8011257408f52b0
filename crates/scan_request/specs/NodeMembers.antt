-- What the members of a node tell, as they are read one after another.
use Rattle.std.specs.Prelude.{ℕ, ◌+◌, ◌^◌, ◌==◌, codes, if◌then◌else◌, List, [], ◌∷◌, Bool, true, false, Option, Some, None, option_map}
use Rattle.std.specs.Map.{lookup}
use Rattle.std.specs.Option.{option_map_or}
use Rattle.std.specs.Str.{bytes_eq}
use Rattle.serde_json.specs.Data.{Data, Members}
use Rattle.serde_json.specs.Find.{as_str, get_member}
use Rattle.vx_base.specs.Data.{DataType}
use Rattle.vx_base.specs.Views.{data_type}
use Rattle.vx_base.specs.declared.codings.Coding.{Coding}
use Rattle.vx_base.specs.declared.codings.Coding.TheVariants.{Plain}
use Rattle.vx_expr.specs.declared.statistics.Statistic.{Statistic}
use Rattle.vx_layout.specs.Nodes.{Node}
use Rattle.vx_layout.specs.declared.nodes.LayoutKind.{LayoutKind}
use Rattle.vx_layout.specs.declared.nodes.LayoutKind.TheVariants as kinds
use Rattle.scan_json.specs.Members.{has_other}
use Rattle.scan_words.specs.Words.{◌>>=◌}
use Rattle.scan_request.specs.DtypeForms.{dtype_form}
use Rattle.scan_request.specs.JsonForms.{list_of, whole_form}
use Rattle.scan_request.specs.NodeForms.{coding_form, legacy_by, plain_kinds, statistic_form, zoned_by}
use Rattle.scan_request.specs.declared.node_members.NodeMembers.{NodeMembers}

-- what each member tells by its form, where it is there, and whether a member has another name
pub record NodeTold : Type 0 where
  pub kind : Option (Option (List ℕ))
  pub dtype : Option (Option DataType)
  pub rows : Option (Option ℕ)
  pub children : Option (Option (List ℕ))
  pub segment : Option (Option ℕ)
  pub coding : Option (Option Coding)
  pub zone_len : Option (Option ℕ)
  pub stats : Option (Option (List Statistic))
  pub others : Bool

abbrev pub told_by : NodeMembers → NodeTold
told_by members =
    record {
      kind = option_map (option_map (λ s. s.now)) members.kind;
      dtype = option_map (option_map data_type) members.dtype;
      rows = members.rows;
      children = option_map (option_map (λ v. v.items)) members.children;
      segment = members.segment;
      coding = members.coding;
      zone_len = members.zone_len;
      stats = members.stats;
      others = members.others;
    }

-- the names of the members that a node may have
abbrev pub node_names : List (List ℕ)
node_names = codes "kind" ∷ codes "dtype" ∷ codes "rows" ∷ codes "children" ∷ codes "segment" ∷ codes "coding" ∷ codes "zone_len" ∷ codes "stats" ∷ []

-- with one more member
abbrev pub with_member : List ℕ → Data → NodeTold → NodeTold
with_member name d told =
    if bytes_eq name (codes "kind") then (record told { kind = Some (as_str d) })
    else (if bytes_eq name (codes "dtype") then (record told { dtype = Some (dtype_form d) })
    else (if bytes_eq name (codes "rows") then (record told { rows = Some (whole_form (2 ^ 64) d) })
    else (if bytes_eq name (codes "children") then (record told { children = Some (list_of (whole_form (2 ^ 32)) d) })
    else (if bytes_eq name (codes "segment") then (record told { segment = Some (whole_form (2 ^ 32) d) })
    else (if bytes_eq name (codes "coding") then (record told { coding = Some (coding_form d) })
    else (if bytes_eq name (codes "zone_len") then (record told { zone_len = Some (whole_form (2 ^ 64) d) })
    else (if bytes_eq name (codes "stats") then (record told { stats = Some (list_of statistic_form d) })
    else (record told { others = true }))))))))

-- what all members of an object tell
abbrev pub told_of : Members → NodeTold
told_of ms =
    record {
      kind = option_map as_str (get_member (codes "kind") ms);
      dtype = option_map dtype_form (get_member (codes "dtype") ms);
      rows = option_map (whole_form (2 ^ 64)) (get_member (codes "rows") ms);
      children = option_map (list_of (whole_form (2 ^ 32))) (get_member (codes "children") ms);
      segment = option_map (whole_form (2 ^ 32)) (get_member (codes "segment") ms);
      coding = option_map coding_form (get_member (codes "coding") ms);
      zone_len = option_map (whole_form (2 ^ 64)) (get_member (codes "zone_len") ms);
      stats = option_map (list_of statistic_form) (get_member (codes "stats") ms);
      others = has_other node_names ms;
    }

-- ---- the node that they tell

-- what a member tells, where it is there and tells something
abbrev pub told_value : {X : Type 0} → Option (Option X) → Option X
told_value None = None
told_value (Some x) = x

abbrev pub there : {X : Type 0} → Option X → ℕ
there x = option_map_or (λ y. 1) x 0

-- how many of the members that a node may have are there
abbrev pub known : NodeTold → ℕ
known told = there told.kind + there told.dtype + there told.rows + there told.children + there told.segment + there told.coding + there told.zone_len + there told.stats

-- the plain coding where none is told
abbrev pub coding_said : Option (Option Coding) → Option Coding
coding_said None = Some Plain
coding_said (Some coding) = coding

abbrev pub flat_said : Option (Option ℕ) → Option (Option Coding) → Option LayoutKind
flat_said segment coding = told_value segment >>= λ at. coding_said coding >>= λ how. Some (kinds.Flat at how)

abbrev pub zones_said : Option (Option ℕ) → Option (Option (List Statistic)) → Option (ℕ × List Statistic)
zones_said zone_len stats = told_value zone_len >>= λ len. told_value stats >>= λ all. Some (len, all)

-- the kind of a name, by what is told of a flat one and of zones
abbrev pub kind_said : List ℕ → Option LayoutKind → Option (ℕ × List Statistic) → Option LayoutKind
kind_said name flat zones =
    if bytes_eq name (codes "flat") then flat
    else (if bytes_eq name (codes "zoned") then zoned_by zones
    else (if bytes_eq name (codes "legacy_stats") then legacy_by zones
    else lookup (bytes_eq name) plain_kinds))

-- how many members a node of the kind has, of which so many tell a coding
abbrev pub members_said : LayoutKind → ℕ → ℕ
members_said (kinds.Flat segment coding) coded = 4 + coded
members_said kinds.Chunked coded = 4
members_said kinds.Struct coded = 4
members_said kinds.Dict coded = 4
members_said kinds.List coded = 4
members_said (kinds.Zoned zone_len stats) coded = 6
members_said (kinds.LegacyStats zone_len stats) coded = 6

abbrev pub children_said : LayoutKind → Option (Option (List ℕ)) → Option (List ℕ)
children_said (kinds.Flat segment coding) children = Some []
children_said kinds.Chunked children = told_value children
children_said kinds.Struct children = told_value children
children_said kinds.Dict children = told_value children
children_said kinds.List children = told_value children
children_said (kinds.Zoned zone_len stats) children = told_value children
children_said (kinds.LegacyStats zone_len stats) children = told_value children

abbrev pub rest_said : LayoutKind → Option ℕ → Option (List ℕ) → Option DataType → Option Node
rest_said kind rows children dtype = rows >>= λ count. children >>= λ all. dtype >>= λ t. Some (record { kind = kind; dtype = t; rows = count; children = all })

abbrev pub node_said : NodeTold → Option Node
node_said told =
    if told.others then None
    else (told_value told.kind >>= λ name. kind_said name (flat_said told.segment told.coding) (zones_said told.zone_len told.stats) >>= λ kind.
    if known told == members_said kind (there told.coding) then rest_said kind (told_value told.rows) (children_said kind told.children) (told_value told.dtype) else None)
