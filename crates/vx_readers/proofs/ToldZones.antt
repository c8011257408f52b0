-- What a table of zones tells of each of them, by the bytes of its column, and of the zone of each row.
use Rattle.std.proofs.Common.{◌≡◌, ℕ, zero, suc, ◌+◌, ◌-◌, ◌*◌, ◌/◌, ◌<◌, ◌≤◌, Bool, true, false, List, [], ◌∷◌, Option, Some, length, map, replicate, refl, sym, ap, ◌∙◌, subst, arith}
use Rattle.std.specs.Prelude.{min, IsSome, is_some}
use Rattle.std.specs.Int.{div_ceil}
use Rattle.std.specs.List.{range_with_len, slice_get}
use Rattle.std.specs.Option.{option_map_or}
use Rattle.std.proofs.Math.Nat.{suc-mul}
use Rattle.std.proofs.lemmas.Grind.{div_ceil_times}
use Rattle.std.proofs.lemmas.Option.{get_or_from_slice_get}
use Rattle.vx_base.specs.Data.{DataType, Datum}
use Rattle.vx_base.specs.Masks.{true_count}
use Rattle.vx_expr.specs.declared.statistics.Statistic.{Statistic}
use Rattle.vx_expr.specs.Rows.{no_bound}
use Rattle.vx_expr.specs.Terms.{Term}
use Rattle.vx_layout.specs.Kept.{all}
use Rattle.vx_layout.specs.Rows.{derivation}
use Rattle.vx_layout.specs.Shape.{ZonesCount}
use Rattle.vx_layout.specs.Sound.{AreZones, IsSound}
use Rattle.vx_layout.specs.Trees.{Tree, zoned, head_of}
use Rattle.vx_rows.specs.Heads.{Head}
use Rattle.vx_rows.specs.SegmentLeaves.{Bytes}
use Rattle.vx_rows.specs.Zones.{zones_of, zones_type, StandOver}
use Rattle.vx_picking.specs.Rows.{rows_of, AreOf}
use Rattle.vx_picking.proofs.SelectedRows.{rows_all}
use Rattle.vx_reads.specs.declared.reads.SegmentRead.{SegmentRead}
use Rattle.vx_reads.specs.Computed.{row_value, AreRowsBy}
use Rattle.vx_reads.proofs.ByKind.{count_all}
use Rattle.vx_zones.specs.Prunes.{prunes, pruned_zones}
use Rattle.vx_zones.specs.Tables.{zone_of, zones_along, table_of, IsTable, TableData}
use Rattle.vx_readers.specs.Unpruned.{prunes_over, told_by, zone_told}
use Rattle.vx_readers.specs.ZoneRows.{zone_bit, zone_bits}
use Rattle.vx_readers.specs.ZonesOver.{zone_at, zone_over, ZoneOver}
use Rattle.vx_readers.specs.ZoneTables.{ArePrunedBy}
use Rattle.vx_readers.proofs.AlikeZones.{zone_there}

-- ---- the rows of a table

-- the value at a place is what f gives at the row there
value_at : (f : ℕ → Option Datum) (start count : ℕ) (values : List Datum) (place : ℕ) → AreOf f (range_with_len start count) values → place < count → (v : Datum) × (slice_get values place ≡ Some v) × (f (start + place) ≡ Some v)
value_at f start zero values place are lt = absurd (omega (arith, lt))
value_at f start (suc count) [] place are lt = absurd cc
value_at f start (suc count) (v ∷ values) zero are lt =
    let here : f start ≡ Some v = cc in
    let e : start + 0 ≡ start = omega arith in
    (v, refl, ap f e ∙ here)
value_at f start (suc count) (v ∷ values) (suc place) are lt =
    let more : map f (range_with_len (start + 1) count) ≡ map Some values = cc in
    let rest = value_at f (start + 1) count values place more (omega (arith, lt)) in
    let e : start + suc place ≡ start + 1 + place = omega arith in
    (rest.0, rest.1, ap f e ∙ rest.2)

-- whether a table prunes the zone at a place
pruned_at : (e : Term) (stats : List Statistic) (zone_len left : ℕ) (told : List Datum) (place : ℕ) (v : Datum) → slice_get told place ≡ Some v → slice_get (map (prunes no_bound e) (zones_along stats zone_len left told)) place ≡ Some (prunes no_bound e (zone_of stats (min zone_len (left - place * zone_len)) v))
pruned_at e stats zone_len left [] place v at = absurd cc
pruned_at e stats zone_len left (w ∷ told) zero v at =
    let same : w ≡ v = cc in
    let whole : left ≡ left - 0 * zone_len = omega arith in
    λ i. Some (prunes no_bound e (zone_of stats (min zone_len (whole i)) (same i)))
pruned_at e stats zone_len left (w ∷ told) (suc place) v at =
    let mul = suc-mul place zone_len in
    let less : left - zone_len - place * zone_len ≡ left - suc place * zone_len = omega (arith, mul) in
    pruned_at e stats zone_len (left - zone_len) told place v at ∙ ap (λ (k : ℕ). Some (prunes no_bound e (zone_of stats (min zone_len k) v))) less

told_prunes : (bytes : Bytes) (e : Term) (over : ZoneOver) (v : Datum) → told_by bytes over ≡ Some v → prunes_over bytes e over ≡ prunes no_bound e (zone_told over v)
told_prunes bytes e over v told = ap (λ (o : Option Datum). option_map_or (λ told. prunes no_bound e (zone_told over told)) o false) told

-- the zones that a table prunes
pub zones_pruned : (reads : List SegmentRead) (head : Head) (zone_len rows : ℕ) (stats : List Statistic) (table : Tree) (t : DataType) (e : Term) (every : List Bool) (told : List Datum) (zones : TableData) (pruned : List Bool) → rows ≡ head.rows → every ≡ replicate (head_of table).rows true → AreRowsBy reads (derivation table all) 0 every told → zones ≡ table_of t stats told zone_len rows → pruned ≡ pruned_zones no_bound e zones → ArePrunedBy reads e (zone_at head (zones_of false zone_len stats) table) 0 (head_of table).rows pruned
zones_pruned reads head zone_len rows stats table t e every told zones pruned rows_are whole read made is bytes have = record {
  told = λ place lt. (let found = value place lt in ap is_some (told_is place found.0 found.2));
  is = λ place lt.
      (let found = value place lt in
      let at : slice_get (pruned_zones no_bound e (table_of t stats told zone_len rows)) place ≡ Some (prunes no_bound e (zone_of stats (min zone_len (rows - place * zone_len)) found.0)) = pruned_at e stats zone_len rows told place found.0 found.1 in
      let here : 0 + place ≡ place = omega arith in
      ap (λ (bits : List Bool). slice_get bits place) (is ∙ ap (pruned_zones no_bound e) made) ∙ at
      ∙ ap (λ (k : ℕ). Some (prunes no_bound e (zone_of stats (min zone_len (k - place * zone_len)) found.0))) rows_are
      ∙ ap (λ (k : ℕ). Some (prunes no_bound e (zone_of stats (min zone_len (head.rows - k * zone_len)) found.0))) (sym here)
      ∙ ap Some (sym (told_prunes bytes e (zone_at head (zones_of false zone_len stats) table (0 + place)) found.0 (told_is place found.0 found.2))));
}
  where
    f : ℕ → Option Datum
    f = row_value bytes (derivation table all)

    value : (place : ℕ) → place < (head_of table).rows → (v : Datum) × (slice_get told place ≡ Some v) × (f (0 + place) ≡ Some v)
    value place lt =
        let are : AreOf f (rows_of 0 (replicate (head_of table).rows true)) told = subst (λ (bits : List Bool). AreOf f (rows_of 0 bits) told) whole (read bytes have) in
        let all_of : AreOf f (range_with_len 0 (head_of table).rows) told = subst (λ (rows : List ℕ). AreOf f rows told) (rows_all 0 (head_of table).rows) are in
        value_at f 0 (head_of table).rows told place all_of lt

    told_is : (place : ℕ) (v : Datum) → f (0 + place) ≡ Some v → told_by bytes (zone_at head (zones_of false zone_len stats) table (0 + place)) ≡ Some v
    told_is place v at = at

along_count : (e : Term) (stats : List Statistic) (zone_len left : ℕ) (told : List Datum) → length (map (prunes no_bound e) (zones_along stats zone_len left told)) ≡ length told
along_count e stats zone_len left [] = refl
along_count e stats zone_len left (v ∷ told) = ap suc (along_count e stats zone_len (left - zone_len) told)

-- as many as there are
pub pruned_count : (e : Term) (t : DataType) (stats : List Statistic) (told : List Datum) (zone_len rows count : ℕ) (every : List Bool) (zones : TableData) (pruned : List Bool) → zones ≡ table_of t stats told zone_len rows → pruned ≡ pruned_zones no_bound e zones → length told ≡ true_count every → every ≡ replicate count true → length pruned ≡ count
pruned_count e t stats told zone_len rows count every zones pruned made is counted whole =
    ap length (is ∙ ap (pruned_zones no_bound e) made) ∙ along_count e stats zone_len rows told ∙ counted ∙ ap true_count whole ∙ count_all count

-- ---- the column is a table

rounded : (zone_len rows count : ℕ) → 0 < zone_len → ZonesCount zone_len rows count → count ≡ div_ceil rows zone_len
rounded zero rows count some counted = absurd (omega (arith, some))
rounded (suc n) rows count some counted = counted

pub is_table : (head : Head) (zone_len : ℕ) (stats : List Statistic) (content table : Tree) (t shape : DataType) (count rows : ℕ) → 0 < zone_len → IsSound (zoned head (zones_of false zone_len stats) content table) → t ≡ head.dtype → shape ≡ (head_of table).dtype → count ≡ (head_of table).rows → rows ≡ head.rows → IsTable t stats shape count zone_len rows
is_table head zone_len stats content table t shape count rows some sound typed shaped counted rows_are =
    let zones : AreZones (zones_of false zone_len stats) head (head_of table) = sound.3 in
    record {
      some_rows = some;
      stand = subst (λ (t : DataType). StandOver t stats) (sym typed) zones.stand;
      shape = shaped ∙ zones.dtype ∙ ap (λ (t : DataType). zones_type t stats) (sym typed);
      count = counted ∙ rounded zone_len head.rows (head_of table).rows some zones.rows ∙ ap (λ (k : ℕ). div_ceil k zone_len) (sym rows_are);
    }

-- there are zones for all rows
pub zones_reach : (head : Head) (zone_len : ℕ) (stats : List Statistic) (content table : Tree) (last : ℕ) → 0 < zone_len → IsSound (zoned head (zones_of false zone_len stats) content table) → last ≤ head.rows → last ≤ (head_of table).rows * zone_len
zones_reach head zone_len stats content table last some sound inside =
    let zones : AreZones (zones_of false zone_len stats) head (head_of table) = sound.3 in
    let count : (head_of table).rows ≡ div_ceil head.rows zone_len = rounded zone_len head.rows (head_of table).rows some zones.rows in
    let most : head.rows ≤ div_ceil head.rows zone_len * zone_len = (div_ceil_times head.rows zone_len some).0 in
    let enough : head.rows ≤ (head_of table).rows * zone_len = subst (λ (k : ℕ). head.rows ≤ k * zone_len) (sym count) most in
    omega (arith, inside, enough)

-- ---- the zone of a row

bit_at_row : (f : ℕ → Bool) (start count place : ℕ) → place < count → slice_get (map f (range_with_len start count)) place ≡ Some (f (start + place))
bit_at_row f start zero place lt = absurd (omega (arith, lt))
bit_at_row f start (suc count) zero lt = let e : start ≡ start + 0 = omega arith in ap (λ (k : ℕ). Some (f k)) e
bit_at_row f start (suc count) (suc place) lt =
    let e : start + 1 + place ≡ start + suc place = omega arith in
    bit_at_row f (start + 1) count place (omega (arith, lt)) ∙ ap (λ (k : ℕ). Some (f k)) e

pub rows_pruned : (reads : List SegmentRead) (head : Head) (zone_len : ℕ) (stats : List Statistic) (table : Tree) (e : Term) (start count zones : ℕ) (pruned rows : List Bool) → 0 < zone_len → start + count ≤ zones * zone_len → rows ≡ zone_bits pruned zone_len start count → ArePrunedBy reads e (zone_at head (zones_of false zone_len stats) table) 0 zones pruned → ArePrunedBy reads e (zone_over head (zones_of false zone_len stats) table) start count rows
rows_pruned reads head zone_len stats table e start count zones pruned rows some inside is by bytes have = record {
  told = λ place lt. (let z = zone place lt in subst (λ (k : ℕ). IsSome (told_by bytes (zone_at head (zones_of false zone_len stats) table k))) z.1 ((by bytes have).told ((start + place) / zone_len) z.0));
  is = λ place lt.
      (let z = zone place lt in
      let at : slice_get pruned ((start + place) / zone_len) ≡ Some (prunes_over bytes e (zone_at head (zones_of false zone_len stats) table (0 + (start + place) / zone_len))) = (by bytes have).is ((start + place) / zone_len) z.0 in
      ap (λ (bits : List Bool). slice_get bits place) is ∙ bit_at_row (zone_bit pruned zone_len) start count place lt
      ∙ ap Some (get_or_from_slice_get pruned ((start + place) / zone_len) (prunes_over bytes e (zone_at head (zones_of false zone_len stats) table (0 + (start + place) / zone_len))) false at)
      ∙ ap (λ (k : ℕ). Some (prunes_over bytes e (zone_at head (zones_of false zone_len stats) table k))) z.1);
}
  where
    zone : (place : ℕ) → place < count → ((start + place) / zone_len < zones) × (0 + (start + place) / zone_len ≡ (start + place) / zone_len)
    zone place lt = (zone_there (start + place) zone_len zones some (omega (arith, lt, inside)), omega arith)

pub bits_count : (f : ℕ → Bool) (start count : ℕ) → length (map f (range_with_len start count)) ≡ count
bits_count f start zero = refl
bits_count f start (suc count) = ap suc (bits_count f (start + 1) count)
