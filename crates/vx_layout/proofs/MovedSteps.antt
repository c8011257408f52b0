-- One node of a moved tree is written: what holds of what was written before and after.
use Rattle.std.proofs.Common.{◌≡◌, ℕ, ◌+◌, ◌<◌, ◌≤◌, ◌^◌, false, List, [], ◌∷◌, ◌++◌, Some, Result, Ok, Err, length, map, sym, ap, ◌∙◌, arith}
use Rattle.std.specs.Prelude.{OnOk}
use Rattle.std.specs.List.{slice_get}
use Rattle.std.proofs.Math.Path.{transport}
use Rattle.vx_base.specs.declared.codings.Coding.{Coding}
use Rattle.vx_base.specs.declared.codings.Coding.TheVariants.{Plain}
use Rattle.vx_base.specs.declared.locations.SegmentLocation.{SegmentLocation}
use Rattle.vx_layout.specs.declared.migrations.Written.{Written}
use Rattle.vx_layout.specs.declared.nodes.LayoutKind.TheVariants as kinds
use Rattle.vx_layout.specs.Nodes.{Node, node_data}
use Rattle.vx_layout.specs.Shape.{node_limit, IsGoodTree}
use Rattle.vx_layout.specs.Migrations.{flat_count, flats_before, is_flat_kind}
use Rattle.vx_layout.specs.Moving.{node_over, AreWritten, HasWritten, IsPushed}
use Rattle.vx_layout.proofs.Flats.{flat_within, flats_all, flats_few, flats_grow}
use Rattle.vx_layout.proofs.MovedParts.{flat_leaf, flat_over, other_over}
use Rattle.vx_layout.proofs.Moving.{written_flat, written_other}

-- what follows once a call went well
pub then_so : {A E : Type 0} (r : Result A E) (P Q : Type 0) → (P → Q) → OnOk r P → OnOk r Q
then_so (Ok made) P Q f p = f p
then_so (Err error) P Q f p = p

-- the new segment's number is one of the codings', and few
pub place_within : (nodes : List Node) (codings : List Coding) (n place : ℕ) (node : Node) (segment : ℕ) (old : Coding) → place ≡ flats_before nodes n → length codings ≡ flat_count nodes → n < length nodes → slice_get nodes n ≡ Some node → node.kind ≡ kinds.Flat segment old → place < length codings
place_within nodes codings n place node segment old e enough lt at flat = omega (arith, e, enough, flat_within nodes n segment node old at flat lt)

pub place_few : (nodes : List Node) (n place : ℕ) → place ≡ flats_before nodes n → n < length nodes → length nodes < node_limit → place < 2 ^ 32
place_few nodes n place e lt few =
    let most : flats_before nodes n ≤ flats_before nodes (length nodes) = flats_grow nodes n (length nodes) (omega arith) in
    let all : flats_before nodes (length nodes) ≡ flat_count nodes = flats_all nodes (length nodes) (omega arith) in
    omega (arith, e, most, all, flats_few nodes)

pub coding_there : (nodes : List Node) (codings : List Coding) (n place : ℕ) (coding : Coding) → place ≡ flats_before nodes n → slice_get codings place ≡ Some coding → slice_get codings (flats_before nodes n) ≡ Some coding
coding_there nodes codings n place coding e is = ap (slice_get codings) (sym e) ∙ is

pub flat_pushed : (nodes : List Node) (locations : List SegmentLocation) (file : List ℕ) (codings : List Coding) (n : ℕ) (before after : Written) (node : Node) (segment : ℕ) (old coding : Coding)
    → HasWritten nodes locations file codings n before → IsGoodTree nodes → n < length nodes → slice_get nodes n ≡ Some node → node.kind ≡ kinds.Flat segment old → slice_get codings (flats_before nodes n) ≡ Some coding
    → IsPushed locations file node segment old coding before after → HasWritten nodes locations file codings (n + 1) after
flat_pushed nodes locations file codings n before after node segment old coding h good lt at flat coded pushed =
    let place = length before.locations.items in
    let j = pushed.joined in
    written_flat nodes locations file codings n (map node_data before.nodes.items) (map node_data after.nodes.items) before.locations.items after.locations.items before.file.items pushed.bytes after.file.items pushed.alignment
    node (node_over node place coding) segment old coding h at flat coded (flat_leaf nodes n node segment old good lt at flat) pushed.made
    (flat_over nodes codings n node place coding h.segments coded) j.nodes j.located j.filled

pub other_pushed : (nodes : List Node) (locations : List SegmentLocation) (file : List ℕ) (codings : List Coding) (n : ℕ) (before after : Written) (node : Node)
    → HasWritten nodes locations file codings n before → slice_get nodes n ≡ Some node → is_flat_kind node.kind ≡ false
    → map node_data after.nodes.items ≡ map node_data before.nodes.items ++ node_over node 0 Plain ∷ [] → after.locations ≡ before.locations → after.file ≡ before.file
    → HasWritten nodes locations file codings (n + 1) after
other_pushed nodes locations file codings n before after node h at not joined same_locations same_file =
    let whole = written_other nodes locations file codings n (map node_data before.nodes.items) (map node_data after.nodes.items) before.locations.items before.file.items node (node_over node 0 Plain) h at not
    (other_over nodes codings n node 0 Plain not) joined in
    transport (λ i. AreWritten nodes locations file codings (n + 1) (map node_data after.nodes.items) (sym same_locations i).items (sym same_file i).items) whole
