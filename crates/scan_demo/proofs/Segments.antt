-- A flat is read from the bytes that it was written to.
use Rattle.std.proofs.Common.{◌≡◌, ℕ, zero, suc, ◌+◌, ◌-◌, ◌≤◌, List, [], ◌∷◌, ◌++◌, Some, length, take, drop, refl, sym, ap, ◌∙◌, arith, append_assoc, length-append}
use Rattle.std.specs.Prelude.{option_and_then, option_map, unwrap_or}
use Rattle.std.specs.List.{AllByRecursion, slice_get}
use Rattle.std.proofs.lemmas.Bool.{le-leb}
use Rattle.std.proofs.lemmas.List.{drop_at, take_at}
use Rattle.vx_base.specs.declared.codings.Coding.TheVariants.{Plain}
use Rattle.vx_base.specs.Columns.{ColumnData}
use Rattle.vx_base.specs.Data.{DataType, bool_type, int_type, utf8_type, struct_type, list_type, Datum}
use Rattle.vx_base.specs.Fits.{Fits}
use Rattle.vx_base.specs.Leaf.{IsLeaf}
use Rattle.vx_base.specs.Slots.{IsShort}
use Rattle.vx_base.specs.Segment.{spelling}
use Rattle.vx_base.specs.CodingsRead.{decoded_as}
use Rattle.vx_base.specs.Sources.{bytes_at}
use Rattle.vx_layout.specs.Rows.{file_leaves, segment_bytes}
use Rattle.vx_base.proofs.Leaves.{encoding_is_undone}
use Rattle.scan_demo.specs.DemoBytes.{bytes_of, location_at, locations_from, segment_of}

-- a segment lies behind the bytes in front of it
bytes_here : (front segment rest : List ℕ) (offset : ℕ) → offset ≡ length front → bytes_at (front ++ (segment ++ rest)) (location_at offset segment) ≡ Some segment
bytes_here front segment rest offset e =
    let size : length (front ++ (segment ++ rest)) ≡ length front + (length segment + length rest) = length-append front (segment ++ rest) ∙ ap (λ (n : ℕ). length front + n) (length-append segment rest) in
    let inside : offset + length segment ≤ length (front ++ (segment ++ rest)) = omega arith in
    let dropped : drop offset (front ++ (segment ++ rest)) ≡ segment ++ rest = drop_at front (segment ++ rest) offset (sym e) in
    let taken : take (offset + length segment - offset) (segment ++ rest) ≡ segment = take_at segment rest (offset + length segment - offset) (omega arith) in
    rw (le-leb (offset + length segment) (length (front ++ (segment ++ rest))) inside, dropped, taken) refl

segments_found : (front : List ℕ) (flats : List ColumnData) (place offset : ℕ) → offset ≡ length front
    → option_and_then (bytes_at (front ++ bytes_of flats)) (slice_get (locations_from offset flats) place) ≡ option_map segment_of (slice_get flats place)
segments_found front [] place offset e = refl
segments_found front (flat ∷ flats) zero offset e = bytes_here front (segment_of flat) (bytes_of flats) offset e
segments_found front (flat ∷ flats) (suc place) offset e =
    let segment : List ℕ = segment_of flat in
    let behind : ℕ = offset + length segment in
    ap (λ (file : List ℕ). option_and_then (bytes_at file) (slice_get (locations_from behind flats) place)) (sym (append_assoc front segment (bytes_of flats)))
    ∙ segments_found (front ++ segment) flats place behind (omega (arith, length-append front segment))

-- ---- flats

-- a flat that has a segment
pub record IsStorable (flat : ColumnData) : Type 0 where
  pub leaf : IsLeaf flat.dtype
  pub fit : AllByRecursion (Fits flat.dtype) flat.values
  pub short : AllByRecursion IsShort flat.values

pub leaf_spelled : (t : DataType) (values : List Datum) → IsLeaf t → spelling t values ≡ Some (unwrap_or (spelling t values) [])
leaf_spelled (bool_type n) values leaf = refl
leaf_spelled (int_type kind n) values leaf = refl
leaf_spelled (utf8_type n) values leaf = refl
leaf_spelled (struct_type ms n) values leaf = absurd leaf
leaf_spelled (list_type t n) values leaf = absurd leaf

pub flat_stored : (flats : List ColumnData) (segment : ℕ) (flat : ColumnData) → slice_get flats segment ≡ Some flat → IsStorable flat
    → file_leaves (bytes_of flats) (locations_from 0 flats) flat.dtype Plain (length flat.values) segment ≡ Some flat.values
unfolding decoded_as
flat_stored flats segment flat at good =
    let found : segment_bytes (bytes_of flats) (locations_from 0 flats) segment ≡ Some (segment_of flat) = segments_found [] flats segment 0 refl ∙ ap (option_map segment_of) at in
    ap (option_and_then (decoded_as Plain flat.dtype (length flat.values))) found
    ∙ encoding_is_undone flat.dtype good.leaf flat.values (segment_of flat) good.fit good.short (leaf_spelled flat.dtype flat.values good.leaf)
