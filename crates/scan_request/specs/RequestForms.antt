-- The form of a request, over the JSON value that its bytes are, and why bytes are refused.
use Rattle.std.specs.Prelude.{◌≡◌, ◌≢◌, ℕ, ◌+◌, codes, if◌then◌else◌, List, [], ◌∷◌, Option, Some, None, is_some, Err, Ok}
use Rattle.std.specs.Str.{is_utf8}
use Rattle.std.specs.declared.ops.Range.{Range}
use Rattle.serde_json.specs.Data.{Data}
use Rattle.serde_json.specs.Read.{read}
use Rattle.serde_json.specs.Find.{get}
use Rattle.vx_expr.specs.Bound.{Bound}
use Rattle.vx_expr.specs.Mismatches.{BindGives}
use Rattle.vx_expr.specs.Terms.{Term, root}
use Rattle.vx_expr.specs.declared.binding.BindError.{BindError}
use Rattle.vx_expr.specs.declared.binding.BindError.TheVariants as bind
use Rattle.vx_layout.specs.Nodes.{Node}
use Rattle.vx_layout.specs.Shape.{IsGoodTree}
use Rattle.vx_layout.specs.Faults.{IsFirstFault}
use Rattle.vx_splits.specs.declared.selections.Selection.{Selection}
use Rattle.scan_words.specs.Words.{◌>>=◌}
use Rattle.scan_request.specs.declared.request_errors.RequestError.{RequestError}
use Rattle.scan_request.specs.declared.request_errors.RequestError.TheVariants.{BadRequest, BadLayout, BadProjection, Memory}
use Rattle.scan_request.specs.JsonForms.{has_members, list_form, optional_form}
use Rattle.scan_request.specs.LocationForms.{location_form}
use Rattle.scan_request.specs.NodeForms.{node_form}
use Rattle.scan_request.specs.ExpressionForms.{expression_form}
use Rattle.scan_request.specs.RowForms.{rows_form}
use Rattle.scan_request.specs.declared.row_forms.RowsAsked.{RowsAsked}
use Rattle.vx_base.specs.Data.{DataType, bool_type}
use Rattle.vx_base.specs.declared.dtypes.Nullability.TheVariants.{NonNullable}
use Rattle.vx_base.specs.declared.locations.SegmentLocation.{SegmentLocation}

-- Where each segment lies, and the nodes of the layout.
pub record FileSaid : Type 0 where
  pub locations : List SegmentLocation
  pub nodes : List Node

-- What a request says: where each segment lies, the nodes of the layout, what is projected of a row, which rows are
-- asked for and how many of them at most, and the number of the first row.
pub record Parts : Type 0 where
  pub locations : List SegmentLocation
  pub nodes : List Node
  pub projection : Term
  pub range : Option (Range ℕ)
  pub selection : Selection
  pub limit : Option ℕ
  pub row_offset : ℕ

-- 1 where a member of that name is there, else 0
abbrev pub present : List ℕ → Data → ℕ
present name d = if is_some (get name d) then 1 else 0

-- how many members a request has: locations and nodes, and those of the others that are there
abbrev pub members_of : Data → ℕ
members_of d = 2 + present (codes "projection") d + present (codes "range") d + present (codes "indices") d + present (codes "exclude") d + present (codes "limit") d + present (codes "row_offset") d

abbrev pub locations_form : Data → Option (List SegmentLocation)
locations_form d = get (codes "locations") d >>= list_form location_form

abbrev pub nodes_form : Data → Option (List Node)
nodes_form d = get (codes "nodes") d >>= list_form node_form

-- where each segment lies and the nodes, where both are there
abbrev pub file_from : Option (List SegmentLocation) → Option (List Node) → Option FileSaid
file_from locations nodes = locations >>= λ ls. nodes >>= λ ns. Some (record { locations = ls; nodes = ns })

abbrev pub file_form : Data → Option FileSaid
file_form d = file_from (locations_form d) (nodes_form d)

-- of a file, the rows that are asked for and a projection, where all of them are there
abbrev pub parts_from : Option FileSaid → Option RowsAsked → Option Term → Option Parts
parts_from said asked projected =
    said >>= λ file. asked >>= λ rows. projected >>= λ projection.
    Some (record { locations = file.locations; nodes = file.nodes; projection = projection; range = rows.range; selection = rows.selection; limit = rows.limit; row_offset = rows.row_offset })

-- an object of exactly those members
unfoldable pub request_form : Data → Option Parts
request_form d = if has_members (members_of d) d then parts_from (file_form d) (rows_form d) (optional_form root expression_form (get (codes "projection") d)) else None

-- ---- of bytes

-- the JSON value that these bytes are, where they are UTF-8 and JSON
abbrev pub json_value : List ℕ → Option Data
json_value bytes = if is_utf8 bytes then read bytes else None

-- what this text says by its form
abbrev pub said_in : List ℕ → Option Parts
said_in text = read text >>= request_form

-- what these bytes say by their form
abbrev pub requested : List ℕ → Option Parts
requested bytes = json_value bytes >>= request_form

-- ---- of a layout

-- the dtype of the layout's root
abbrev pub root_dtype : List Node → DataType
root_dtype [] = bool_type NonNullable
root_dtype (node ∷ nodes) = node.dtype

-- What a request asks for: what it says, with the projection bound to the dtype of the root.
pub record Asked : Type 0 where
  pub locations : List SegmentLocation
  pub nodes : List Node
  pub projection : Bound
  pub range : Option (Range ℕ)
  pub selection : Selection
  pub limit : Option ℕ
  pub row_offset : ℕ

abbrev pub said_by : Asked → Parts
said_by asked = record { locations = asked.locations; nodes = asked.nodes; projection = asked.projection.term; range = asked.range; selection = asked.selection; limit = asked.limit; row_offset = asked.row_offset }

-- the bytes have the form of this request, its nodes are a layout tree, and its projection is bound to the root's dtype
pub record IsRequest (bytes : List ℕ) (asked : Asked) : Type 0 where
  pub form : requested bytes ≡ Some (said_by asked)
  pub good : IsGoodTree asked.nodes
  pub bound : BindGives (root_dtype asked.nodes) asked.projection.term (Ok asked.projection)

-- ---- why bytes are no request

-- they have the form, and the first fault of the nodes is that of the rule at the node
pub record HasBadLayout (bytes : List ℕ) (node rule : ℕ) : Type 0 where
  pub parts : Parts
  pub form : requested bytes ≡ Some parts
  pub fault : IsFirstFault parts.nodes node rule

-- they have the form, the nodes are a layout tree, and the projection can't be bound to the root's dtype, for that cause
pub record HasBadProjection (bytes : List ℕ) (error : BindError) : Type 0 where
  pub parts : Parts
  pub form : requested bytes ≡ Some parts
  pub good : IsGoodTree parts.nodes
  pub unbound : BindGives (root_dtype parts.nodes) parts.projection (Err error)
  pub not_memory : error ≢ bind.Memory

-- First comes the form, then the tree, then the projection.
abbrev pub RefusedBy : List ℕ → RequestError → Type 0
RefusedBy bytes BadRequest = requested bytes ≡ None
RefusedBy bytes (BadLayout node rule) = HasBadLayout bytes node rule
RefusedBy bytes (BadProjection error) = HasBadProjection bytes error
RefusedBy bytes Memory = Unit {0}
