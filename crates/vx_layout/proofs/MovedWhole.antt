-- A moved tree is begun and ended.
use Rattle.std.proofs.Common.{◌≡◌, ℕ, ◌<◌, List, [], length, map, sym, subst, arith}
use Rattle.std.proofs.lemmas.List.{length-map}
use Rattle.std.proofs.Math.Path.{transport}
use Rattle.vx_base.specs.declared.codings.Coding.{Coding}
use Rattle.vx_base.specs.declared.locations.SegmentLocation.{SegmentLocation}
use Rattle.vx_layout.specs.declared.migrate_errors.MigrateError.{MigrateError}
use Rattle.vx_layout.specs.declared.migrate_errors.MigrateError.TheVariants as errors
use Rattle.vx_layout.specs.declared.migrations.Written.{Written}
use Rattle.vx_layout.specs.Nodes.{Node, node_data}
use Rattle.vx_layout.specs.Shape.{node_limit, IsGoodTree}
use Rattle.vx_layout.specs.Migrations.{flat_count, AllCanMove, IsMigrated, MigrateRefusedBy}
use Rattle.vx_layout.specs.Moving.{AreWritten, HasWritten}
use Rattle.vx_layout.proofs.Moving.{all_can, all_good, all_migrated, written_none}

pub new_written : (nodes : List Node) (locations : List SegmentLocation) (file : List ℕ) (codings : List Coding) (written : Written) → written.nodes.items ≡ [] → written.locations.items ≡ [] → written.file.items ≡ [] → HasWritten nodes locations file codings 0 written
new_written nodes locations file codings written a b c =
    transport (λ i. AreWritten nodes locations file codings 0 (map node_data (sym a i)) (sym b i) (sym c i)) (written_none nodes locations file codings)

-- ---- all nodes were written

ended : (nodes : List Node) (locations : List SegmentLocation) (file : List ℕ) (codings : List Coding) (n : ℕ) (written : Written) → n ≡ length nodes → HasWritten nodes locations file codings n written → HasWritten nodes locations file codings (length nodes) written
ended nodes locations file codings n written e h = subst (λ (k : ℕ). HasWritten nodes locations file codings k written) e h

pub ended_good : (nodes : List Node) (locations : List SegmentLocation) (file : List ℕ) (codings : List Coding) (n : ℕ) (written : Written) → n ≡ length nodes → HasWritten nodes locations file codings n written → IsGoodTree nodes → IsGoodTree (map node_data written.nodes.items)
ended_good nodes locations file codings n written e h good =
    all_good nodes locations file codings (map node_data written.nodes.items) written.locations.items written.file.items good (ended nodes locations file codings n written e h)

pub ended_few : (nodes : List Node) (locations : List SegmentLocation) (file : List ℕ) (codings : List Coding) (n : ℕ) (written : Written) → n ≡ length nodes → HasWritten nodes locations file codings n written → length nodes < node_limit → length written.nodes.items < node_limit
ended_few nodes locations file codings n written e h few = omega (arith, e, h.size, length-map written.nodes.items node_data)

pub ended_can : (nodes : List Node) (locations : List SegmentLocation) (file : List ℕ) (codings : List Coding) (n : ℕ) (written : Written) → n ≡ length nodes → HasWritten nodes locations file codings n written → AllCanMove nodes locations file codings
ended_can nodes locations file codings n written e h =
    all_can nodes locations file codings (map node_data written.nodes.items) written.locations.items written.file.items (ended nodes locations file codings n written e h)

pub ended_migrated : (nodes : List Node) (locations : List SegmentLocation) (file : List ℕ) (codings : List Coding) (n : ℕ) (written : Written) (tree : List Node) (places : List SegmentLocation) (bytes : List ℕ)
    → n ≡ length nodes → HasWritten nodes locations file codings n written → length codings ≡ flat_count nodes
    → tree ≡ map node_data written.nodes.items → places ≡ written.locations.items → bytes ≡ written.file.items → IsMigrated nodes locations file codings tree places bytes
ended_migrated nodes locations file codings n written tree places bytes e h enough a b c =
    transport (λ i. IsMigrated nodes locations file codings (sym a i) (sym b i) (sym c i))
    (all_migrated nodes locations file codings (map node_data written.nodes.items) written.locations.items written.file.items enough (ended nodes locations file codings n written e h))

pub memory_refused : (nodes : List Node) (locations : List SegmentLocation) (file : List ℕ) (codings : List Coding) (error : MigrateError) → error ≡ errors.Memory → MigrateRefusedBy nodes locations file codings error
memory_refused nodes locations file codings error e = subst (MigrateRefusedBy nodes locations file codings) (sym e) tt
