-- The parts of a moved segment: what was read, what it is spelled as, and why it isn't.
use Rattle.std.proofs.Common.{◌≡◌, ℕ, zero, suc, ◌+◌, ◌<◌, ◌≤◌, ◌^◌, List, [], ◌∷◌, ◌++◌, Option, Some, None, Result, Ok, Err, length, map, refl, sym, ap, ◌∙◌, subst, false}
use Rattle.std.specs.Prelude.{option_and_then, IfErr, IfOk, IsSomeAnd, OnOk}
use Rattle.std.specs.List.{slice_get, AllByRecursion}
use Rattle.std.proofs.lemmas.List.{map_push}
use Rattle.std.proofs.Math.Path.{transport}
use Rattle.vx_base.specs.declared.codings.Coding.{Coding}
use Rattle.vx_base.specs.declared.locations.SegmentLocation.{SegmentLocation}
use Rattle.vx_base.specs.Columns.{ColumnData}
use Rattle.vx_base.specs.Data.{DataType, Datum}
use Rattle.vx_base.specs.Codings.{SpellsAs}
use Rattle.vx_base.specs.CodingsRead.{decoded_as}
use Rattle.vx_base.specs.Leaf.{IsLeaf}
use Rattle.vx_base.specs.Sources.{bytes_at}
use Rattle.vx_base.proofs.CodedValues.{spelled_count, spelled_short}
use Rattle.vx_base.proofs.CodingsRead.{codings_have_one_spelling}
use Rattle.vx_layout.specs.declared.migrate_errors.MigrateError.{MigrateError}
use Rattle.vx_layout.specs.declared.migrate_errors.MigrateError.TheVariants as errors
use Rattle.vx_layout.specs.declared.nodes.LayoutKind.{LayoutKind}
use Rattle.vx_layout.specs.declared.nodes.LayoutKind.TheVariants as kinds
use Rattle.vx_layout.specs.declared.nodes.LayoutNode.{LayoutNode}
use Rattle.vx_layout.specs.declared.rules.ShapeRule.TheVariants.{FittingTypes}
use Rattle.vx_layout.specs.Nodes.{Node, node_data}
use Rattle.vx_layout.specs.Rows.{segment_bytes}
use Rattle.vx_layout.specs.Shape.{Asks, IsGoodTree, TypesFit}
use Rattle.vx_layout.specs.Migrations.{flats_before, is_flat_kind, moved_kind, moved_node, most_bytes, CanWrite, HasCountedRows, HindersOrMemory, HindersValues, IsCounted}
use Rattle.vx_layout.specs.Moving.{node_over, HasColumn, IsMovedSegment, IsRespelled, IsSegmentOf, IsTorn, RefusesBytes, RefusesFlat}

-- ---- what was read

pub column_has : (node : Node) (old : Coding) (bytes : List ℕ) (column : ColumnData) → column.dtype ≡ node.dtype → SpellsAs old node.dtype node.rows bytes column.values → decoded_as old node.dtype node.rows bytes ≡ Some column.values → HasColumn node old bytes column
column_has node old bytes column typed spelled read = record {
  dtype = typed;
  count = spelled_count old node.dtype node.rows bytes column.values spelled;
  short = spelled_short old node.dtype node.rows bytes column.values spelled;
  read = read;
}

pub torn_refuses : (n : ℕ) (node : Node) (old coding : Coding) (bytes : List ℕ) (error : MigrateError) → IsTorn n node old bytes error → RefusesBytes n node old coding bytes error
torn_refuses n node old coding bytes errors.Memory torn = tt
torn_refuses n node old coding bytes (errors.BadSegment at) torn = torn
torn_refuses n node old coding bytes (errors.NoBytes at) torn = absurd torn
torn_refuses n node old coding bytes (errors.TooManyRows at) torn = absurd torn
torn_refuses n node old coding bytes (errors.NotConstant at row) torn = absurd torn
torn_refuses n node old coding bytes (errors.TooLong at) torn = absurd torn

-- ---- what it is spelled as

one_spelled : (node : Node) (old coding : Coding) (bytes new : List ℕ) (column : ColumnData) → HasColumn node old bytes column → CanWrite node coding column.values → SpellsAs coding node.dtype node.rows new column.values → IsRespelled node old coding bytes new
one_spelled node old coding bytes new column has can spelled =
    let same : new ≡ can.bytes = codings_have_one_spelling coding node.dtype node.rows column.values new can.bytes spelled can.spelled in
    record { values = column.values; read = has.read; few = can.few; spelled = spelled; short = subst (λ (bs : List ℕ). length bs ≤ most_bytes) (sym same) can.short }

pub respelled_by : {A E : Type 0} (bytes_in : A → List ℕ) (r : Result A E) (node : Node) (old coding : Coding) (bytes : List ℕ) (column : ColumnData) → HasColumn node old bytes column → OnOk r (CanWrite node coding column.values)
    → IfOk r (λ made. SpellsAs coding node.dtype node.rows (bytes_in made) column.values) → IfOk r (λ made. IsRespelled node old coding bytes (bytes_in made))
respelled_by bytes_in (Ok made) node old coding bytes column has can spelled = one_spelled node old coding bytes (bytes_in made) column has can spelled
respelled_by bytes_in (Err error) node old coding bytes column has can spelled = spelled

hindered_by : (n : ℕ) (node : Node) (old coding : Coding) (bytes : List ℕ) (column : ColumnData) (error : MigrateError) → HasColumn node old bytes column → HindersOrMemory n node coding column.values error → RefusesBytes n node old coding bytes error
hindered_by n node old coding bytes column errors.Memory has hinders = tt
hindered_by n node old coding bytes column (errors.BadSegment at) has hinders = absurd hinders
hindered_by n node old coding bytes column (errors.NoBytes at) has hinders = absurd hinders
hindered_by n node old coding bytes column (errors.TooManyRows at) has hinders = record { values = column.values; read = has.read; hinders = hinders }
hindered_by n node old coding bytes column (errors.NotConstant at row) has hinders = record { values = column.values; read = has.read; hinders = hinders }
hindered_by n node old coding bytes column (errors.TooLong at) has hinders = record { values = column.values; read = has.read; hinders = hinders }

pub refused_by : {A : Type 0} (r : Result A MigrateError) (n : ℕ) (node : Node) (old coding : Coding) (bytes : List ℕ) (column : ColumnData) → HasColumn node old bytes column → IfErr r (HindersOrMemory n node coding column.values) → IfErr r (RefusesBytes n node old coding bytes)
refused_by (Ok made) n node old coding bytes column has hinders = hinders
refused_by (Err error) n node old coding bytes column has hinders = hindered_by n node old coding bytes column error has hinders

-- a reason is one with or without want of memory
pub hinders_also : (n : ℕ) (node : Node) (coding : Coding) (values : List Datum) (error : MigrateError) → HindersValues n node coding values error → HindersOrMemory n node coding values error
hinders_also n node coding values errors.Memory hinders = tt
hinders_also n node coding values (errors.BadSegment at) hinders = hinders
hinders_also n node coding values (errors.NoBytes at) hinders = hinders
hinders_also n node coding values (errors.TooManyRows at) hinders = hinders
hinders_also n node coding values (errors.NotConstant at row) hinders = hinders
hinders_also n node coding values (errors.TooLong at) hinders = hinders

-- a spelling for the dtype and the rows of the column is one for those of the node
pub spelled_for : (coding : Coding) (t s : DataType) (rows count : ℕ) (bytes : List ℕ) (values : List Datum) → s ≡ t → count ≡ rows → SpellsAs coding s count bytes values → SpellsAs coding t rows bytes values
spelled_for coding t s rows count bytes values e f spelled = transport (λ i. SpellsAs coding (e i) (f i) bytes values) spelled

-- ---- the segment

pub segment_is : (locations : List SegmentLocation) (file : List ℕ) (segment : ℕ) (at : SegmentLocation) (bytes : List ℕ) → Some at ≡ slice_get locations segment → Some bytes ≡ bytes_at file at → IsSegmentOf locations file segment bytes at.alignment
segment_is locations file segment at bytes found told = record {
  there = ap (option_and_then (bytes_at file)) (sym found) ∙ sym told;
  aligned = subst (λ (o : Option SegmentLocation). IsSomeAnd o (λ before. before.alignment ≡ at.alignment)) found refl;
}

pub no_segment : (locations : List SegmentLocation) (file : List ℕ) (segment : ℕ) (at : SegmentLocation) → Some at ≡ slice_get locations segment → None ≡ bytes_at file at → segment_bytes file locations segment ≡ None
no_segment locations file segment at found told = ap (option_and_then (bytes_at file)) (sym found) ∙ sym told

pub no_location : (locations : List SegmentLocation) (file : List ℕ) (segment : ℕ) → None ≡ slice_get locations segment → segment_bytes file locations segment ≡ None
no_location locations file segment found = ap (option_and_then (bytes_at file)) (sym found)

pub moved_is : (locations : List SegmentLocation) (file : List ℕ) (node : Node) (segment : ℕ) (old coding : Coding) (bytes new : List ℕ) (alignment : ℕ) → IsSegmentOf locations file segment bytes alignment → IsRespelled node old coding bytes new → IsMovedSegment locations file node segment old coding new alignment
moved_is locations file node segment old coding bytes new alignment at made = record {
  values = made.values;
  has = record { bytes = bytes; there = at.there; read = made.read };
  few = made.few;
  spelled = made.spelled;
  short = made.short;
  aligned = at.aligned;
}

pub refuses_flat : (locations : List SegmentLocation) (file : List ℕ) (n : ℕ) (node : Node) (segment : ℕ) (old coding : Coding) (bytes : List ℕ) (alignment : ℕ) (error : MigrateError) → IsSegmentOf locations file segment bytes alignment → RefusesBytes n node old coding bytes error → RefusesFlat locations file n node segment old coding error
refuses_flat locations file n node segment old coding bytes alignment errors.Memory at refuses = tt
refuses_flat locations file n node segment old coding bytes alignment (errors.NoBytes m) at refuses = absurd refuses.hinders
refuses_flat locations file n node segment old coding bytes alignment (errors.BadSegment m) at refuses =
    (refuses.0, subst (λ (o : Option (List ℕ)). IsSomeAnd o (λ bs. decoded_as old node.dtype node.rows bs ≡ None)) (sym at.there) refuses.1)
refuses_flat locations file n node segment old coding bytes alignment (errors.TooManyRows m) at refuses = record { values = refuses.values; has = record { bytes = bytes; there = at.there; read = refuses.read }; hinders = refuses.hinders }
refuses_flat locations file n node segment old coding bytes alignment (errors.NotConstant m row) at refuses = record { values = refuses.values; has = record { bytes = bytes; there = at.there; read = refuses.read }; hinders = refuses.hinders }
refuses_flat locations file n node segment old coding bytes alignment (errors.TooLong m) at refuses = record { values = refuses.values; has = record { bytes = bytes; there = at.there; read = refuses.read }; hinders = refuses.hinders }

-- ---- the node

pub pushed_data : (xs ys : List LayoutNode) (node : LayoutNode) (d : Node) → ys ≡ xs ++ node ∷ [] → node_data node ≡ d → map node_data ys ≡ map node_data xs ++ d ∷ []
pushed_data xs ys node d e is = ap (map node_data) e ∙ map_push node_data xs node ∙ ap (λ (n : Node). map node_data xs ++ n ∷ []) is

pub flat_over : (nodes : List Node) (codings : List Coding) (n : ℕ) (node : Node) (place : ℕ) (coding : Coding) → place ≡ flats_before nodes n → slice_get codings (flats_before nodes n) ≡ Some coding → node_over node place coding ≡ moved_node nodes codings n node
flat_over nodes codings n node place coding e coded =
    λ i. record { kind = moved_kind node.kind (e i) (sym coded i); dtype = node.dtype; rows = node.rows; children = node.children }

other_kind : (kind : LayoutKind) (p q : ℕ) (o r : Option Coding) → is_flat_kind kind ≡ false → moved_kind kind p o ≡ moved_kind kind q r
other_kind (kinds.Flat segment old) p q o r not = absurd cc
other_kind kinds.Chunked p q o r not = refl
other_kind kinds.Struct p q o r not = refl
other_kind kinds.Dict p q o r not = refl
other_kind kinds.List p q o r not = refl
other_kind (kinds.Zoned zone_len stats) p q o r not = refl
other_kind (kinds.LegacyStats zone_len stats) p q o r not = refl

pub other_over : (nodes : List Node) (codings : List Coding) (n : ℕ) (node : Node) (place : ℕ) (coding : Coding) → is_flat_kind node.kind ≡ false → node_over node place coding ≡ moved_node nodes codings n node
other_over nodes codings n node place coding not =
    let same = other_kind node.kind place (flats_before nodes n) (Some coding) (slice_get codings (flats_before nodes n)) not in
    λ i. record { kind = same i; dtype = node.dtype; rows = node.rows; children = node.children }

-- a flat node of a good tree has a leaf dtype, and few rows
pub flat_leaf : (nodes : List Node) (n : ℕ) (node : Node) (segment : ℕ) (old : Coding) → IsGoodTree nodes → n < length nodes → slice_get nodes n ≡ Some node → node.kind ≡ kinds.Flat segment old → IsLeaf node.dtype
flat_leaf nodes n node segment old good lt at flat =
    let asked : Asks FittingTypes nodes n node = subst (λ (o : Option Node). IsSomeAnd o (Asks FittingTypes nodes n)) at (good.kept FittingTypes n lt) in
    subst (λ (kind : LayoutKind). TypesFit nodes node kind node.dtype) flat asked

pub counted_at : (nodes : List Node) (n : ℕ) (node : Node) → AllByRecursion HasCountedRows nodes → slice_get nodes n ≡ Some node → HasCountedRows node
counted_at [] n node each at = absurd cc
counted_at (first ∷ nodes) zero node each at = let same : first ≡ node = cc in subst HasCountedRows same each.0
counted_at (first ∷ nodes) (suc n) node each at = counted_at nodes n node each.1 at

pub flat_counted : (nodes : List Node) (n : ℕ) (node : Node) (segment : ℕ) (old : Coding) → AllByRecursion HasCountedRows nodes → slice_get nodes n ≡ Some node → node.kind ≡ kinds.Flat segment old → node.rows < 2 ^ 32
flat_counted nodes n node segment old each at flat = subst (λ (kind : LayoutKind). IsCounted kind node.rows) flat (counted_at nodes n node each at)
