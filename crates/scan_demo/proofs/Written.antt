-- What is written in two steps.
use Rattle.std.proofs.Common.{◌≡◌, ℕ, ◌+◌, List, [], ◌∷◌, ◌++◌, length, map, sym, ap, ap₂, ◌∙◌, arith, append_assoc, length-append}
use Rattle.std.specs.List.{range_with_len}
use Rattle.std.proofs.lemmas.List.FromFn.{map-range_with_len_more}
use Rattle.std.proofs.lemmas.Grind.{flat_map-append}
use Rattle.vx_base.specs.Columns.{ColumnData}
use Rattle.vx_base.specs.declared.locations.SegmentLocation.{SegmentLocation}
use Rattle.vx_layout.specs.Nodes.{Node}
use Rattle.scan_demo.specs.declared.file_writers.FileWriter.{FileWriter}
use Rattle.scan_demo.specs.declared.stored_columns.StoredColumn.TheVariants.{Ids, Codes, Flags}
use Rattle.scan_demo.specs.DemoBytes.{bytes_of, location_at, locations_from, segment_of}
use Rattle.scan_demo.specs.Flats.{chunk_flats, demo_flats, name_flat}
use Rattle.scan_demo.specs.Writing.{nodes_in, Wrote}

pub locations_append : (offset : ℕ) (xs ys : List ColumnData) → locations_from offset (xs ++ ys) ≡ locations_from offset xs ++ locations_from (offset + length (bytes_of xs)) ys
locations_append offset [] ys = ap (λ (at : ℕ). locations_from at ys) (let e : offset ≡ offset + 0 = omega arith in e)
locations_append offset (x ∷ xs) ys =
    let behind : ℕ = offset + length (segment_of x) in
    let e : behind + length (bytes_of xs) ≡ offset + length (segment_of x ++ bytes_of xs) = omega (arith, length-append (segment_of x) (bytes_of xs)) in
    ap (λ (more : List SegmentLocation). location_at offset (segment_of x) ∷ more)
    (locations_append behind xs ys ∙ ap (λ (at : ℕ). locations_from behind xs ++ locations_from at ys) e)

pub wrote_then : (a b c : FileWriter) (ns ms : List Node) (xs ys : List ColumnData) → Wrote a b ns xs → Wrote b c ms ys → Wrote a c (ns ++ ms) (xs ++ ys)
wrote_then a b c ns ms xs ys first then = record {
  nodes = then.nodes ∙ ap (λ (front : List Node). front ++ ms) first.nodes ∙ append_assoc (nodes_in a) ns ms;
  locations =
      let start : ℕ = length a.bytes.items in
      let behind : length b.bytes.items ≡ start + length (bytes_of xs) = ap length first.bytes ∙ length-append a.bytes.items (bytes_of xs) in
      then.locations
      ∙ ap₂ (λ (front : List SegmentLocation) (at : ℕ). front ++ locations_from at ys) first.locations behind
      ∙ append_assoc a.locations.items (locations_from start xs) (locations_from (start + length (bytes_of xs)) ys)
      ∙ ap (λ (more : List SegmentLocation). a.locations.items ++ more) (sym (locations_append start xs ys));
  bytes =
      then.bytes
      ∙ ap (λ (front : List ℕ). front ++ bytes_of ys) first.bytes
      ∙ append_assoc a.bytes.items (bytes_of xs) (bytes_of ys)
      ∙ ap (λ (more : List ℕ). a.bytes.items ++ more) (sym (flat_map-append segment_of xs ys));
}

-- one more of the flats that are numbered from 0 on
pub wrote_more : (a b c : FileWriter) (node_of : ℕ → Node) (flat_of : ℕ → ColumnData) (place : ℕ)
    → Wrote a b (map node_of (range_with_len 0 place)) (map flat_of (range_with_len 0 place)) → Wrote b c (node_of place ∷ []) (flat_of place ∷ [])
    → Wrote a c (map node_of (range_with_len 0 (place + 1))) (map flat_of (range_with_len 0 (place + 1)))
wrote_more a b c node_of flat_of place first then =
    rw (map-range_with_len_more node_of 0 place place (omega arith), map-range_with_len_more flat_of 0 place place (omega arith))
    (wrote_then a b c (map node_of (range_with_len 0 place)) (node_of place ∷ []) (map flat_of (range_with_len 0 place)) (flat_of place ∷ []) first then)

-- the whole file in five steps
pub wrote_demo : (number : ℕ) (a b c d e f : FileWriter) (ns ms ks js is : List Node) → Wrote a b ns [] → Wrote b c ms (chunk_flats Ids number) → Wrote c d ks (name_flat ∷ [])
    → Wrote d e js (chunk_flats Codes number) → Wrote e f is (chunk_flats Flags number) → Wrote a f (ns ++ (ms ++ (ks ++ (js ++ is)))) (demo_flats number)
wrote_demo number a b c d e f ns ms ks js is root ids names codes_written flags =
    let behind_names : List ColumnData = chunk_flats Codes number ++ chunk_flats Flags number in
    wrote_then a b f ns (ms ++ (ks ++ (js ++ is))) [] (chunk_flats Ids number ++ name_flat ∷ behind_names) root
    (wrote_then b c f ms (ks ++ (js ++ is)) (chunk_flats Ids number) (name_flat ∷ behind_names) ids
    (wrote_then c d f ks (js ++ is) (name_flat ∷ []) behind_names names
    (wrote_then d e f js is (chunk_flats Codes number) (chunk_flats Flags number) codes_written flags)))

-- what is written to an empty file is all that there is
pub all_located : (a b : FileWriter) (ns : List Node) (xs : List ColumnData) → a.locations.items ≡ [] → a.bytes.items ≡ [] → Wrote a b ns xs → b.locations.items ≡ locations_from 0 xs
all_located a b ns xs no_locations no_bytes wrote =
    wrote.locations ∙ ap₂ (λ (front : List SegmentLocation) (bytes : List ℕ). front ++ locations_from (length bytes) xs) no_locations no_bytes

pub all_bytes : (a b : FileWriter) (ns : List Node) (xs : List ColumnData) → a.bytes.items ≡ [] → Wrote a b ns xs → b.bytes.items ≡ bytes_of xs
all_bytes a b ns xs no_bytes wrote = wrote.bytes ∙ ap (λ (front : List ℕ). front ++ bytes_of xs) no_bytes
