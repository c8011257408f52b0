-- What a run reads its request from and what it writes to: what was read, and how a run ends that asks no source.
use Rattle.std.specs.Prelude.{◌≡◌, ℕ, List, None}
use Rattle.vx_base.specs.Sources.{Rose}
use Rattle.vx_base.specs.Streams.{ReadState, WriteState}
use Rattle.vx_expr.specs.declared.binding.BindError.{BindError}
use Rattle.scan_request.specs.RequestForms.{Asked, requested, IsRequest, HasBadLayout, HasBadProjection}
use Rattle.scan_input.specs.Reading.{ReadsAll, ReadsFew, ReadsTooMany}

-- What a run reads its request from, and what it writes to.
pub record LentStreams : Type 0 where
  pub request : ReadState
  pub sink : WriteState

-- ---- what was read

-- The request was read to its end, at most 16777216 bytes, and its bytes are so.
pub record ReadsBytes (P : List ℕ → Type 0) (old new : ReadState) : Type 0 where
  pub bytes : List ℕ
  pub reads : ReadsAll bytes old new
  pub are : P bytes

-- its bytes are this request
abbrev pub ReadsRequest : Asked → ReadState → ReadState → Type 0
ReadsRequest asked old new = ReadsBytes (λ bytes. IsRequest bytes asked) old new

-- ---- by the ending, where nothing was written

-- the request is too large
pub record IsTooLarge (before after : LentStreams) : Type 0 where
  pub large : ReadsTooMany before.request after.request
  pub sink : after.sink ≡ before.sink

-- its bytes are no JSON in the form
pub record IsBadRequest (before after : LentStreams) : Type 0 where
  pub reads : ReadsBytes (λ bytes. requested bytes ≡ None) before.request after.request
  pub sink : after.sink ≡ before.sink

-- they have the form, and the first fault of the nodes is that of the rule at the node
pub record IsBadLayout (node rule : ℕ) (before after : LentStreams) : Type 0 where
  pub reads : ReadsBytes (λ bytes. HasBadLayout bytes node rule) before.request after.request
  pub sink : after.sink ≡ before.sink

-- they have the form, the nodes are a layout tree, and its projection can't be bound to the root's dtype, for that cause
pub record IsBadProjection (before after : LentStreams) : Type 0 where
  pub error : BindError
  pub reads : ReadsBytes (λ bytes. HasBadProjection bytes error) before.request after.request
  pub sink : after.sink ≡ before.sink

-- a read of the request failed, behind pieces that don't have too many bytes together
pub record FailsToRead (before after : LentStreams) : Type 0 where
  pub few : ReadsFew before.request after.request
  pub rose : Rose before.request.faults after.request.faults
  pub sink : after.sink ≡ before.sink

-- memory ran out, no read of the request failed, and the pieces that were read don't have too many bytes together
pub record RunsOutAtOnce (before after : LentStreams) : Type 0 where
  pub few : ReadsFew before.request after.request
  pub faults : after.request.faults ≡ before.request.faults
  pub sink : after.sink ≡ before.sink
