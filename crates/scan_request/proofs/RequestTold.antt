-- What the members of a request tell with one more member.
use Rattle.std.proofs.Common.{◌≡◌, ℕ, ◌^◌, true, codes, List, Option, Some, refl, sym, ap}
use Rattle.std.specs.declared.ops.Range.{Range}
use Rattle.serde_json.specs.Data.{Data}
use Rattle.vx_base.specs.declared.locations.SegmentLocation.{SegmentLocation}
use Rattle.vx_expr.specs.Terms.{Term}
use Rattle.vx_layout.specs.Nodes.{Node}
use Rattle.scan_request.specs.ExpressionForms.{expression_form}
use Rattle.scan_request.specs.JsonForms.{list_form, whole_form}
use Rattle.scan_request.specs.LocationForms.{location_form}
use Rattle.scan_request.specs.NodeForms.{node_form}
use Rattle.scan_request.specs.RequestMembers.{RequestTold, with_member}
use Rattle.scan_request.specs.RowForms.{indices_form, range_form}
use Rattle.scan_request.proofs.OtherKinds.{apart}

pub locations_told : (name : List ℕ) (d : Data) (told : RequestTold) (x : Option (List SegmentLocation)) → name ≡ codes "locations" → (list_form location_form) d ≡ x → (record told { locations = Some x }) ≡ with_member name d told
locations_told name d told x is read = rw is (ap (λ (y : Option (List SegmentLocation)). record told { locations = Some y }) (sym read))

pub nodes_told : (name : List ℕ) (d : Data) (told : RequestTold) (x : Option (List Node)) → name ≡ codes "nodes" → (list_form node_form) d ≡ x → (record told { nodes = Some x }) ≡ with_member name d told
nodes_told name d told x is read = rw is (ap (λ (y : Option (List Node)). record told { nodes = Some y }) (sym read))

pub projection_told : (name : List ℕ) (d : Data) (told : RequestTold) (x : Option Term) → name ≡ codes "projection" → expression_form d ≡ x → (record told { projection = Some x }) ≡ with_member name d told
projection_told name d told x is read = rw is (ap (λ (y : Option Term). record told { projection = Some y }) (sym read))

pub range_told : (name : List ℕ) (d : Data) (told : RequestTold) (x : Option (Range ℕ)) → name ≡ codes "range" → range_form d ≡ x → (record told { range = Some x }) ≡ with_member name d told
range_told name d told x is read = rw is (ap (λ (y : Option (Range ℕ)). record told { range = Some y }) (sym read))

pub indices_told : (name : List ℕ) (d : Data) (told : RequestTold) (x : Option (List ℕ)) → name ≡ codes "indices" → indices_form d ≡ x → (record told { indices = Some x }) ≡ with_member name d told
indices_told name d told x is read = rw is (ap (λ (y : Option (List ℕ)). record told { indices = Some y }) (sym read))

pub exclude_told : (name : List ℕ) (d : Data) (told : RequestTold) (x : Option (List ℕ)) → name ≡ codes "exclude" → indices_form d ≡ x → (record told { exclude = Some x }) ≡ with_member name d told
exclude_told name d told x is read = rw is (ap (λ (y : Option (List ℕ)). record told { exclude = Some y }) (sym read))

pub limit_told : (name : List ℕ) (d : Data) (told : RequestTold) (x : Option ℕ) → name ≡ codes "limit" → (whole_form (2 ^ 64)) d ≡ x → (record told { limit = Some x }) ≡ with_member name d told
limit_told name d told x is read = rw is (ap (λ (y : Option ℕ). record told { limit = Some y }) (sym read))

pub row_offset_told : (name : List ℕ) (d : Data) (told : RequestTold) (x : Option ℕ) → name ≡ codes "row_offset" → (whole_form (2 ^ 64)) d ≡ x → (record told { row_offset = Some x }) ≡ with_member name d told
row_offset_told name d told x is read = rw is (ap (λ (y : Option ℕ). record told { row_offset = Some y }) (sym read))

pub other_told : (name : List ℕ) (d : Data) (told : RequestTold) → (name ≡ codes "locations" → ⊥) → (name ≡ codes "nodes" → ⊥) → (name ≡ codes "projection" → ⊥) → (name ≡ codes "range" → ⊥) → (name ≡ codes "indices" → ⊥) → (name ≡ codes "exclude" → ⊥) → (name ≡ codes "limit" → ⊥) → (name ≡ codes "row_offset" → ⊥) → (record told { others = true }) ≡ with_member name d told
other_told name d told no_locations no_nodes no_projection no_range no_indices no_exclude no_limit no_row_offset =
    rw (apart name (codes "locations") no_locations, apart name (codes "nodes") no_nodes, apart name (codes "projection") no_projection, apart name (codes "range") no_range, apart name (codes "indices") no_indices, apart name (codes "exclude") no_exclude, apart name (codes "limit") no_limit, apart name (codes "row_offset") no_row_offset) refl
