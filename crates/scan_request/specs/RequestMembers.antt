-- What the members of a request tell, as they are read one after another.
use Rattle.std.specs.Prelude.{ℕ, ◌^◌, codes, if◌then◌else◌, List, [], ◌∷◌, map, Bool, true, Option, Some, None, option_map}
use Rattle.std.specs.Str.{bytes_eq}
use Rattle.std.specs.declared.ops.Range.{Range}
use Rattle.serde_json.specs.Data.{Data, Members}
use Rattle.serde_json.specs.Find.{get_member}
use Rattle.vx_base.specs.declared.locations.SegmentLocation.{SegmentLocation}
use Rattle.vx_expr.specs.Terms.{Term, root}
use Rattle.vx_expr.specs.TermViews.{term}
use Rattle.vx_layout.specs.Nodes.{Node, node_data}
use Rattle.scan_json.specs.Members.{has_other}
use Rattle.scan_request.specs.ExpressionForms.{expression_form}
use Rattle.scan_request.specs.JsonForms.{list_form, whole_form}
use Rattle.scan_request.specs.LocationForms.{location_form}
use Rattle.scan_request.specs.NodeForms.{node_form}
use Rattle.scan_request.specs.NodeMembers.{told_value}
use Rattle.scan_request.specs.RequestForms.{Parts, file_from, parts_from}
use Rattle.scan_request.specs.RowForms.{given_or, indices_form, range_form, rows_said}
use Rattle.scan_request.specs.declared.request_members.RequestMembers.{RequestMembers}

-- what each member tells by its form, where it is there, and whether a member has another name
pub record RequestTold : Type 0 where
  pub locations : Option (Option (List SegmentLocation))
  pub nodes : Option (Option (List Node))
  pub projection : Option (Option Term)
  pub range : Option (Option (Range ℕ))
  pub indices : Option (Option (List ℕ))
  pub exclude : Option (Option (List ℕ))
  pub limit : Option (Option ℕ)
  pub row_offset : Option (Option ℕ)
  pub others : Bool

abbrev pub told_by : RequestMembers → RequestTold
told_by members =
    record {
      locations = option_map (option_map (λ v. v.items)) members.locations;
      nodes = option_map (option_map (λ v. map node_data v.items)) members.nodes;
      projection = option_map (option_map term) members.projection;
      range = members.range;
      indices = members.indices;
      exclude = members.exclude;
      limit = members.limit;
      row_offset = members.row_offset;
      others = members.others;
    }

-- the names of the members that a request may have
abbrev pub request_names : List (List ℕ)
request_names = codes "locations" ∷ codes "nodes" ∷ codes "projection" ∷ codes "range" ∷ codes "indices" ∷ codes "exclude" ∷ codes "limit" ∷ codes "row_offset" ∷ []

-- with one more member
abbrev pub with_member : List ℕ → Data → RequestTold → RequestTold
with_member name d told =
    if bytes_eq name (codes "locations") then (record told { locations = Some (list_form location_form d) })
    else (if bytes_eq name (codes "nodes") then (record told { nodes = Some (list_form node_form d) })
    else (if bytes_eq name (codes "projection") then (record told { projection = Some (expression_form d) })
    else (if bytes_eq name (codes "range") then (record told { range = Some (range_form d) })
    else (if bytes_eq name (codes "indices") then (record told { indices = Some (indices_form d) })
    else (if bytes_eq name (codes "exclude") then (record told { exclude = Some (indices_form d) })
    else (if bytes_eq name (codes "limit") then (record told { limit = Some (whole_form (2 ^ 64) d) })
    else (if bytes_eq name (codes "row_offset") then (record told { row_offset = Some (whole_form (2 ^ 64) d) })
    else (record told { others = true }))))))))

-- what all members of an object tell
abbrev pub told_of : Members → RequestTold
told_of ms =
    record {
      locations = option_map (list_form location_form) (get_member (codes "locations") ms);
      nodes = option_map (list_form node_form) (get_member (codes "nodes") ms);
      projection = option_map expression_form (get_member (codes "projection") ms);
      range = option_map range_form (get_member (codes "range") ms);
      indices = option_map indices_form (get_member (codes "indices") ms);
      exclude = option_map indices_form (get_member (codes "exclude") ms);
      limit = option_map (whole_form (2 ^ 64)) (get_member (codes "limit") ms);
      row_offset = option_map (whole_form (2 ^ 64)) (get_member (codes "row_offset") ms);
      others = has_other request_names ms;
    }

-- what a request says whose members tell that
abbrev pub parts_by : RequestTold → Option Parts
parts_by told =
    if told.others then None
    else parts_from (file_from (told_value told.locations) (told_value told.nodes)) (rows_said told.range told.limit told.row_offset told.indices told.exclude) (given_or root told.projection)
