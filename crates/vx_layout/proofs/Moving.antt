-- What was written of a moved tree, node by node, and what the whole is then.
use Rattle.std.proofs.Common.{◌≡◌, ℕ, ◌+◌, ◌<◌, true, false, List, [], ◌∷◌, ◌++◌, Option, Some, None, Result, Ok, Err, length, refl, sym, ap, ◌∙◌, subst, arith, below_more, length-append}
use Rattle.std.specs.Prelude.{option_and_then, IfErr, IsSomeAnd}
use Rattle.std.specs.List.{slice_get}
use Rattle.std.proofs.lemmas.Option.{slice_get_within}
use Rattle.std.proofs.Math.Path.{transport}
use Rattle.vx_base.specs.declared.codings.Coding.{Coding}
use Rattle.vx_base.specs.declared.locations.SegmentLocation.{SegmentLocation}
use Rattle.vx_base.specs.Data.{Datum}
use Rattle.vx_base.specs.CodingsRead.{decoded_as}
use Rattle.vx_base.specs.Leaf.{IsLeaf}
use Rattle.vx_base.proofs.CodingsRead.{spelled_codings_are_read}
use Rattle.vx_layout.specs.declared.migrate_errors.MigrateError.{MigrateError}
use Rattle.vx_layout.specs.declared.migrate_errors.MigrateError.TheVariants as errors
use Rattle.vx_layout.specs.declared.nodes.LayoutKind.TheVariants as kinds
use Rattle.vx_layout.specs.Nodes.{Node}
use Rattle.vx_layout.specs.Rows.{file_leaves}
use Rattle.vx_layout.specs.Shape.{IsGoodTree}
use Rattle.vx_layout.specs.Migrations.{flat_count, flats_before, is_flat, is_flat_kind, moved_node, AllCanMove, AreMoved, CanMove, HasValues, Hinders, IsHindered, IsKeptIn, IsMigrated, MigrateRefusedBy, OfFlat}
use Rattle.vx_layout.specs.Moving.{location_behind, AreWritten, IsMovedSegment, RefusesFlat}
use Rattle.vx_layout.proofs.Flats.{flat_is, flat_one_is, flat_within, flats_all, flats_next, not_flat_one}
use Rattle.vx_layout.proofs.MovedBytes.{found_front, found_last, found_within, kept_more, lie_more, segment_last}
use Rattle.vx_layout.proofs.MovedNodes.{moved_good}
use Rattle.vx_layout.proofs.MovedTrees.{moved_worth, LeavesAgree}

-- ---- nothing was written

pub written_none : (nodes : List Node) (locations : List SegmentLocation) (file : List ℕ) (codings : List Coding) → AreWritten nodes locations file codings 0 [] [] []
written_none nodes locations file codings = record {
  size = refl;
  moved = λ n lt node at. absurd (omega arith);
  segments = refl;
  no_gaps = refl;
  kept = λ n lt node segment old coding at flat coded. absurd (omega arith);
  can = λ n lt node segment old coding at flat coded. absurd (omega arith);
}

-- ---- one more node

-- what holds of the node of a number holds of the flat node there
pub of_one : (nodes : List Node) (codings : List Coding) (n : ℕ) (P : Node → ℕ → Coding → Coding → Type 0) (node : Node) (segment : ℕ) (old coding : Coding)
    → slice_get nodes n ≡ Some node → node.kind ≡ kinds.Flat segment old → slice_get codings (flats_before nodes n) ≡ Some coding → P node segment old coding → OfFlat nodes codings n P
of_one nodes codings n P node segment old coding at flat coded holds other its was is there type given =
    let a : node ≡ other = cc in
    let b : segment ≡ its = cc in
    let c : old ≡ was = cc in
    let d : coding ≡ is = cc in
    transport (λ i. P (a i) (b i) (c i) (d i)) holds

-- a node that isn't flat: nothing is asked
of_other : (nodes : List Node) (codings : List Coding) (n : ℕ) (P : Node → ℕ → Coding → Coding → Type 0) (node : Node) → slice_get nodes n ≡ Some node → is_flat node ≡ false → OfFlat nodes codings n P
of_other nodes codings n P node at not other its was is there type given =
    let same : node ≡ other = cc in
    let yes : is_flat_kind other.kind ≡ true = flat_is other.kind its was type in
    absurd cc

-- the new node stands behind the others
moved_next : (nodes news all : List Node) (codings : List Coding) (n : ℕ) (node new : Node) → length news ≡ n → slice_get nodes n ≡ Some node → new ≡ moved_node nodes codings n node → all ≡ news ++ new ∷ []
    → ((m : ℕ) → m < n → (one : Node) → slice_get nodes m ≡ Some one → slice_get news m ≡ Some (moved_node nodes codings m one))
    → (m : ℕ) → m < n + 1 → (one : Node) → slice_get nodes m ≡ Some one → slice_get all m ≡ Some (moved_node nodes codings m one)
moved_next nodes news all codings n node new size at is joined before =
    let P : ℕ → Type 0 = λ (m : ℕ). (one : Node) → slice_get nodes m ≡ Some one → slice_get all m ≡ Some (moved_node nodes codings m one) in
    below_more P n
    (λ m lt one there. ap (λ (ns : List Node). slice_get ns m) joined ∙ found_front news (new ∷ []) m (moved_node nodes codings m one) (before m lt one there))
    (λ one there.
    let same : node ≡ one = cc in
    ap (λ (ns : List Node). slice_get ns n) joined ∙ found_last news new n size ∙ ap (λ (d : Node). Some d) (is ∙ ap (moved_node nodes codings n) same))

pub written_other : (nodes : List Node) (locations : List SegmentLocation) (file : List ℕ) (codings : List Coding) (n : ℕ) (news all : List Node) (places : List SegmentLocation) (bytes : List ℕ) (node new : Node)
    → AreWritten nodes locations file codings n news places bytes → slice_get nodes n ≡ Some node → is_flat node ≡ false → new ≡ moved_node nodes codings n node → all ≡ news ++ new ∷ []
    → AreWritten nodes locations file codings (n + 1) all places bytes
written_other nodes locations file codings n news all places bytes node new h at not is joined = record {
  size = omega (arith, ap length joined, length-append news (new ∷ []), h.size);
  moved = moved_next nodes news all codings n node new h.size at is joined h.moved;
  segments = omega (arith, h.segments, flats_next nodes n node at, not_flat_one node not);
  no_gaps = h.no_gaps;
  kept =
      below_more (λ m. OfFlat nodes codings m (IsKeptIn locations file places bytes (flats_before nodes m))) n h.kept
      (of_other nodes codings n (IsKeptIn locations file places bytes (flats_before nodes n)) node at not);
  can = below_more (λ m. OfFlat nodes codings m (CanMove locations file)) n h.can (of_other nodes codings n (CanMove locations file) node at not);
}

-- ---- one more flat node

aligned_last : (locations places : List SegmentLocation) (segment place alignment : ℕ) (o : Option SegmentLocation) (last : SegmentLocation) → last.alignment ≡ alignment → slice_get places place ≡ Some last
    → IsSomeAnd o (λ before. before.alignment ≡ alignment) → IsSomeAnd o (λ before. IsSomeAnd (slice_get places place) (λ now. now.alignment ≡ before.alignment))
aligned_last locations places segment place alignment None last is at told = absurd told
aligned_last locations places segment place alignment (Some before) last is at told =
    subst (λ (found : Option SegmentLocation). IsSomeAnd found (λ now. now.alignment ≡ before.alignment)) (sym at) (is ∙ sym told)

kept_last : (locations : List SegmentLocation) (file : List ℕ) (places : List SegmentLocation) (bytes spelled : List ℕ) (alignment place : ℕ) (node : Node) (segment : ℕ) (old coding : Coding) → length places ≡ place → IsLeaf node.dtype
    → IsMovedSegment locations file node segment old coding spelled alignment → IsKeptIn locations file (places ++ location_behind bytes spelled alignment ∷ []) (bytes ++ spelled) place node segment old coding
kept_last locations file places bytes spelled alignment place node segment old coding e leaf made =
    let all = places ++ location_behind bytes spelled alignment ∷ [] in
    record {
      values = made.values;
      before = made.has;
      now = record {
        bytes = spelled;
        there = segment_last bytes spelled places alignment place e;
        read = spelled_codings_are_read coding node.dtype leaf node.rows spelled made.values made.spelled;
      };
      aligned =
          aligned_last locations all segment place alignment (slice_get locations segment) (location_behind bytes spelled alignment) refl (found_last places (location_behind bytes spelled alignment) place e) made.aligned;
    }

can_of : (locations : List SegmentLocation) (file : List ℕ) (node : Node) (segment : ℕ) (old coding : Coding) (spelled : List ℕ) (alignment : ℕ) → IsMovedSegment locations file node segment old coding spelled alignment → CanMove locations file node segment old coding
can_of locations file node segment old coding spelled alignment made =
    record { values = made.values; has = made.has; can = record { few = made.few; bytes = spelled; spelled = made.spelled; short = made.short } }

-- in front of the new segment all is kept
kept_before : (nodes : List Node) (locations : List SegmentLocation) (file : List ℕ) (codings : List Coding) (n : ℕ) (places others : List SegmentLocation) (bytes more : List ℕ)
    → ((m : ℕ) → m < n → OfFlat nodes codings m (IsKeptIn locations file places bytes (flats_before nodes m)))
    → (m : ℕ) → m < n → OfFlat nodes codings m (IsKeptIn locations file (places ++ others) (bytes ++ more) (flats_before nodes m))
kept_before nodes locations file codings n places others bytes more before m lt node segment old coding at flat coded =
    kept_more locations file places others bytes more (flats_before nodes m) node segment old coding (before m lt node segment old coding at flat coded)

written_joined : (nodes : List Node) (locations : List SegmentLocation) (file : List ℕ) (codings : List Coding) (n : ℕ) (news all : List Node) (places : List SegmentLocation) (bytes spelled : List ℕ) (alignment : ℕ) (node new : Node) (segment : ℕ) (old coding : Coding)
    → AreWritten nodes locations file codings n news places bytes → slice_get nodes n ≡ Some node → node.kind ≡ kinds.Flat segment old → slice_get codings (flats_before nodes n) ≡ Some coding
    → IsLeaf node.dtype → IsMovedSegment locations file node segment old coding spelled alignment → new ≡ moved_node nodes codings n node → all ≡ news ++ new ∷ []
    → AreWritten nodes locations file codings (n + 1) all (places ++ location_behind bytes spelled alignment ∷ []) (bytes ++ spelled)
written_joined nodes locations file codings n news all places bytes spelled alignment node new segment old coding h at flat coded leaf made is joined =
    let last = location_behind bytes spelled alignment in
    let Kept : ℕ → Type 0 = λ (m : ℕ). OfFlat nodes codings m (IsKeptIn locations file (places ++ last ∷ []) (bytes ++ spelled) (flats_before nodes m)) in
    record {
      size = omega (arith, ap length joined, length-append news (new ∷ []), h.size);
      moved = moved_next nodes news all codings n node new h.size at is joined h.moved;
      segments = omega (arith, length-append places (last ∷ []), h.segments, flats_next nodes n node at, flat_one_is node segment old flat);
      no_gaps = lie_more 0 (length bytes) (length (bytes ++ spelled)) places last h.no_gaps refl (sym (length-append bytes spelled));
      kept =
          below_more Kept n (kept_before nodes locations file codings n places (last ∷ []) bytes spelled h.kept)
          (of_one nodes codings n (IsKeptIn locations file (places ++ last ∷ []) (bytes ++ spelled) (flats_before nodes n)) node segment old coding at flat coded
          (kept_last locations file places bytes spelled alignment (flats_before nodes n) node segment old coding h.segments leaf made));
      can =
          below_more (λ m. OfFlat nodes codings m (CanMove locations file)) n h.can
          (of_one nodes codings n (CanMove locations file) node segment old coding at flat coded (can_of locations file node segment old coding spelled alignment made));
    }

pub written_flat : (nodes : List Node) (locations : List SegmentLocation) (file : List ℕ) (codings : List Coding) (n : ℕ) (news all : List Node) (places new_places : List SegmentLocation) (bytes spelled new_bytes : List ℕ) (alignment : ℕ) (node new : Node) (segment : ℕ) (old coding : Coding)
    → AreWritten nodes locations file codings n news places bytes → slice_get nodes n ≡ Some node → node.kind ≡ kinds.Flat segment old → slice_get codings (flats_before nodes n) ≡ Some coding
    → IsLeaf node.dtype → IsMovedSegment locations file node segment old coding spelled alignment → new ≡ moved_node nodes codings n node → all ≡ news ++ new ∷ []
    → new_places ≡ places ++ location_behind bytes spelled alignment ∷ [] → new_bytes ≡ bytes ++ spelled → AreWritten nodes locations file codings (n + 1) all new_places new_bytes
written_flat nodes locations file codings n news all places new_places bytes spelled new_bytes alignment node new segment old coding h at flat coded leaf made is joined located filled =
    let whole = written_joined nodes locations file codings n news all places bytes spelled alignment node new segment old coding h at flat coded leaf made is joined in
    transport (λ i. AreWritten nodes locations file codings (n + 1) all (sym located i) (sym filled i)) whole

-- ---- all nodes

leaf_read : (locations : List SegmentLocation) (file : List ℕ) (node : Node) (segment : ℕ) (coding : Coding) (values : List Datum) → HasValues locations file node segment coding values
    → file_leaves file locations node.dtype coding node.rows segment ≡ Some values
leaf_read locations file node segment coding values has = ap (option_and_then (decoded_as coding node.dtype node.rows)) has.there ∙ has.read

leaves_agree : (nodes : List Node) (locations : List SegmentLocation) (file : List ℕ) (codings : List Coding) (places : List SegmentLocation) (bytes : List ℕ) → length codings ≡ flat_count nodes
    → ((n : ℕ) → OfFlat nodes codings n (IsKeptIn locations file places bytes (flats_before nodes n))) → LeavesAgree (file_leaves bytes places) (file_leaves file locations) nodes codings
leaves_agree nodes locations file codings places bytes enough kept n node at segment old flat =
    let place = flats_before nodes n in
    let within : place < length codings = omega (arith, enough, flat_within nodes n segment node old at flat (slice_get_within nodes n node at)) in
    let coded = found_within codings place within in
    let its = kept n node segment old coded.0 at flat coded.1 in
    (coded.0, coded.1, leaf_read places bytes node place coded.0 its.values its.now ∙ sym (leaf_read locations file node segment old its.values its.before))

all_moved : (nodes : List Node) (locations : List SegmentLocation) (file : List ℕ) (codings : List Coding) (news : List Node) (places : List SegmentLocation) (bytes : List ℕ)
    → AreWritten nodes locations file codings (length nodes) news places bytes → AreMoved nodes codings news
all_moved nodes locations file codings news places bytes h = record { size = h.size; each = λ n node at. h.moved n (slice_get_within nodes n node at) node at }

all_kept : (nodes : List Node) (locations : List SegmentLocation) (file : List ℕ) (codings : List Coding) (news : List Node) (places : List SegmentLocation) (bytes : List ℕ)
    → AreWritten nodes locations file codings (length nodes) news places bytes → (n : ℕ) → OfFlat nodes codings n (IsKeptIn locations file places bytes (flats_before nodes n))
all_kept nodes locations file codings news places bytes h n node segment old coding at flat coded = h.kept n (slice_get_within nodes n node at) node segment old coding at flat coded

pub all_can : (nodes : List Node) (locations : List SegmentLocation) (file : List ℕ) (codings : List Coding) (news : List Node) (places : List SegmentLocation) (bytes : List ℕ)
    → AreWritten nodes locations file codings (length nodes) news places bytes → AllCanMove nodes locations file codings
all_can nodes locations file codings news places bytes h n node segment old coding at flat coded = h.can n (slice_get_within nodes n node at) node segment old coding at flat coded

pub all_migrated : (nodes : List Node) (locations : List SegmentLocation) (file : List ℕ) (codings : List Coding) (news : List Node) (places : List SegmentLocation) (bytes : List ℕ)
    → length codings ≡ flat_count nodes → AreWritten nodes locations file codings (length nodes) news places bytes → IsMigrated nodes locations file codings news places bytes
all_migrated nodes locations file codings news places bytes enough h =
    let moved = all_moved nodes locations file codings news places bytes h in
    let kept = all_kept nodes locations file codings news places bytes h in
    record {
      moved = moved;
      count = h.segments ∙ flats_all nodes (length nodes) (omega arith);
      no_gaps = h.no_gaps;
      kept = kept;
      worth = λ n row lt. moved_worth (file_leaves bytes places) (file_leaves file locations) nodes news codings moved (leaves_agree nodes locations file codings places bytes enough kept) n row;
    }

pub all_good : (nodes : List Node) (locations : List SegmentLocation) (file : List ℕ) (codings : List Coding) (news : List Node) (places : List SegmentLocation) (bytes : List ℕ)
    → IsGoodTree nodes → AreWritten nodes locations file codings (length nodes) news places bytes → IsGoodTree news
all_good nodes locations file codings news places bytes good h =
    moved_good nodes news codings good (all_moved nodes locations file codings news places bytes h)
    (λ n node segment old coding at flat coded. (all_can nodes locations file codings news places bytes h n node segment old coding at flat coded).can.few)

-- ---- a refusal

hindered_at : (nodes : List Node) (locations : List SegmentLocation) (file : List ℕ) (codings : List Coding) (n : ℕ) (news : List Node) (places : List SegmentLocation) (bytes : List ℕ) (node : Node) (segment : ℕ) (old coding : Coding) (error : MigrateError)
    → AreWritten nodes locations file codings n news places bytes → slice_get nodes n ≡ Some node → node.kind ≡ kinds.Flat segment old → slice_get codings (flats_before nodes n) ≡ Some coding
    → Hinders locations file n node segment old coding error → IsHindered nodes locations file codings error
hindered_at nodes locations file codings n news places bytes node segment old coding error h at flat coded hinders =
    record { n = n; node = node; segment = segment; old = old; coding = coding; there = at; flat = flat; coded = coded; hinders = hinders; before = h.can }

pub refused_at : (nodes : List Node) (locations : List SegmentLocation) (file : List ℕ) (codings : List Coding) (n : ℕ) (news : List Node) (places : List SegmentLocation) (bytes : List ℕ) (node : Node) (segment : ℕ) (old coding : Coding) (error : MigrateError)
    → AreWritten nodes locations file codings n news places bytes → slice_get nodes n ≡ Some node → node.kind ≡ kinds.Flat segment old → slice_get codings (flats_before nodes n) ≡ Some coding
    → RefusesFlat locations file n node segment old coding error → MigrateRefusedBy nodes locations file codings error
refused_at nodes locations file codings n news places bytes node segment old coding errors.Memory h at flat coded refuses = tt
refused_at nodes locations file codings n news places bytes node segment old coding (errors.NoBytes m) h at flat coded refuses = hindered_at nodes locations file codings n news places bytes node segment old coding (errors.NoBytes m) h at flat coded refuses
refused_at nodes locations file codings n news places bytes node segment old coding (errors.BadSegment m) h at flat coded refuses = hindered_at nodes locations file codings n news places bytes node segment old coding (errors.BadSegment m) h at flat coded refuses
refused_at nodes locations file codings n news places bytes node segment old coding (errors.TooManyRows m) h at flat coded refuses = hindered_at nodes locations file codings n news places bytes node segment old coding (errors.TooManyRows m) h at flat coded refuses
refused_at nodes locations file codings n news places bytes node segment old coding (errors.NotConstant m row) h at flat coded refuses = hindered_at nodes locations file codings n news places bytes node segment old coding (errors.NotConstant m row) h at flat coded refuses
refused_at nodes locations file codings n news places bytes node segment old coding (errors.TooLong m) h at flat coded refuses = hindered_at nodes locations file codings n news places bytes node segment old coding (errors.TooLong m) h at flat coded refuses

-- the refusal of the flat node at which so many nodes were written
pub refused_flat : {A : Type 0} (r : Result A MigrateError) (nodes : List Node) (locations : List SegmentLocation) (file : List ℕ) (codings : List Coding) (n : ℕ) (news : List Node) (places : List SegmentLocation) (bytes : List ℕ) (node : Node) (segment : ℕ) (old coding : Coding)
    → AreWritten nodes locations file codings n news places bytes → slice_get nodes n ≡ Some node → node.kind ≡ kinds.Flat segment old → slice_get codings (flats_before nodes n) ≡ Some coding
    → IfErr r (RefusesFlat locations file n node segment old coding) → IfErr r (MigrateRefusedBy nodes locations file codings)
refused_flat (Ok made) nodes locations file codings n news places bytes node segment old coding h at flat coded refuses = refuses
refused_flat (Err error) nodes locations file codings n news places bytes node segment old coding h at flat coded refuses =
    refused_at nodes locations file codings n news places bytes node segment old coding error h at flat coded refuses
