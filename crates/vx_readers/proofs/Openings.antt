-- Nodes that are readable, one after another, and the first that isn't.
use Rattle.std.proofs.Common.{◌≡◌, ℕ, ◌+◌, ◌<◌, ◌≤◌, ◌⊎◌, inl, inr, List, Option, Some, None, length, refl, sym, ap, ◌∙◌, subst, arith}
use Rattle.std.specs.Prelude.{IfSome, IsSomeAnd}
use Rattle.std.specs.List.{slice_get}
use Rattle.std.proofs.lemmas.Bool.{cases_lt}
use Rattle.std.proofs.lemmas.Option.{slice_get_past}
use Rattle.vx_base.specs.declared.codings.Coding.{Coding}
use Rattle.vx_expr.specs.declared.statistics.Statistic.{Statistic}
use Rattle.vx_layout.specs.declared.nodes.LayoutKind.{LayoutKind}
use Rattle.vx_layout.specs.declared.nodes.LayoutKind.TheVariants as kinds
use Rattle.vx_layout.specs.Nodes.{Node}
use Rattle.vx_reads.specs.Readable.{AreReadable, IsFirstUnreadable, IsReadableAt, IsReadableNode, IsZones}
use Rattle.vx_readers.specs.declared.layout_readers.Reader.{Reader}
use Rattle.vx_readers.specs.declared.readers.OpenError.{OpenError}
use Rattle.vx_readers.specs.declared.readers.OpenError.TheVariants.{Unsupported, ZeroZoneLength}
use Rattle.vx_readers.specs.Opening.{HasEmptyZones, IsEmptyZoned, IsNotEmptyZoned, IsReadableAlone, IsRefusedAlone, OpenRefused}
use Rattle.vx_readers.specs.Readers.{IsReaderOf, IsRootReader}
use Rattle.vx_readers.specs.StrayStructs.{IsStructAt, IsStructKind}
use Rattle.vx_readers.proofs.StrayChildren.{root_no_zones, struct_at}
use Rattle.vx_layout.specs.Shape.{IsGoodTree}

-- ---- one node

alone_readable : (nodes : List Node) (n : ℕ) (kind : LayoutKind) → IsReadableAlone kind → (IsStructKind kind → IsZones nodes n) → IsReadableNode nodes n kind
alone_readable nodes n (kinds.Flat segment coding) alone zones = tt
alone_readable nodes n kinds.Chunked alone zones = tt
alone_readable nodes n kinds.Struct alone zones = zones tt
alone_readable nodes n kinds.Dict alone zones = tt
alone_readable nodes n kinds.List alone zones = absurd alone
alone_readable nodes n (kinds.Zoned zone_len stats) alone zones = alone
alone_readable nodes n (kinds.LegacyStats zone_len stats) alone zones = absurd alone

readable_at : (nodes : List Node) (n : ℕ) (node : Node) → slice_get nodes n ≡ Some node → IsReadableNode nodes n node.kind → IsReadableAt nodes n
readable_at nodes n node at is = subst (λ (o : Option Node). IfSome o (λ node. IsReadableNode nodes n node.kind)) (sym at) is

pub readable_more : (nodes : List Node) (place stray : ℕ) (node : Node) → slice_get nodes place ≡ Some node → place < stray → IsReadableAlone node.kind → ((n : ℕ) → n < stray → IsStructAt nodes n → IsZones nodes n) → ((n : ℕ) → n < place → IsReadableAt nodes n) → (n : ℕ) → n < place + 1 → IsReadableAt nodes n
readable_more nodes place stray node at low alone zones before n lt = by (cases_lt n place)
  where
    by : (n < place) ⊎ (place ≤ n) → IsReadableAt nodes n
    by (inl less) = before n less
    by (inr more) =
        let same : n ≡ place = omega (arith, lt, more) in
        subst (IsReadableAt nodes) (sym same) (readable_at nodes place node at (alone_readable nodes place node.kind alone (λ is. zones place low (struct_at nodes place node at is))))

-- ---- all nodes

pub readable_all : (nodes : List Node) (count : ℕ) → length nodes ≤ count → ((n : ℕ) → n < count → IsReadableAt nodes n) → AreReadable nodes
readable_all nodes count all before n = by (cases_lt n count)
  where
    by : (n < count) ⊎ (count ≤ n) → IsReadableAt nodes n
    by (inl less) = before n less
    by (inr more) = subst (λ (o : Option Node). IfSome o (λ node. IsReadableNode nodes n node.kind)) (sym (slice_get_past nodes n (omega (arith, all, more)))) tt

-- ---- the first that isn't

not_alone : (nodes : List Node) (n : ℕ) (kind : LayoutKind) (error : OpenError) → IsRefusedAlone kind n error → IsReadableNode nodes n kind → ⊥
not_alone nodes n (kinds.Flat segment coding) error refused readable = refused
not_alone nodes n kinds.Chunked error refused readable = refused
not_alone nodes n kinds.Struct error refused readable = refused
not_alone nodes n kinds.Dict error refused readable = refused
not_alone nodes n kinds.List error refused readable = readable
not_alone nodes n (kinds.Zoned zone_len stats) (ZeroZoneLength node) refused readable = omega (arith, refused.1, readable)
not_alone nodes n (kinds.Zoned zone_len stats) (Unsupported node) refused readable = refused
not_alone nodes n (kinds.LegacyStats zone_len stats) error refused readable = readable

first_unreadable : (nodes : List Node) (place : ℕ) (node : Node) → slice_get nodes place ≡ Some node → (IsReadableNode nodes place node.kind → ⊥) → ((n : ℕ) → n < place → IsReadableAt nodes n) → IsFirstUnreadable nodes place
first_unreadable nodes place node at bad before = record {
  there = subst (λ (o : Option Node). IsSomeAnd o (λ node. IsReadableNode nodes place node.kind → ⊥)) (sym at) bad;
  before = before;
}

no_empty : (nodes : List Node) (place : ℕ) (node : Node) → slice_get nodes place ≡ Some node → (HasEmptyZones node.kind → ⊥) → IsNotEmptyZoned nodes place
no_empty nodes place node at isnt = subst (λ (o : Option Node). IsSomeAnd o (λ node. ¬ HasEmptyZones node.kind)) (sym at) isnt

empty_at : (nodes : List Node) (place : ℕ) (node : Node) → slice_get nodes place ≡ Some node → HasEmptyZones node.kind → IsEmptyZoned nodes place
empty_at nodes place node at is = subst (λ (o : Option Node). IsSomeAnd o (λ node. HasEmptyZones node.kind)) (sym at) is

-- the kind of it is refused for itself
pub refused_alone : (nodes : List Node) (place : ℕ) (node : Node) (error : OpenError) → slice_get nodes place ≡ Some node → IsRefusedAlone node.kind place error → ((n : ℕ) → n < place → IsReadableAt nodes n) → OpenRefused nodes error
refused_alone nodes place node error at refused before = by node.kind error refused (first_unreadable nodes place node at (not_alone nodes place node.kind error refused) before) (no_empty nodes place node at) (empty_at nodes place node at)
  where
    by : (kind : LayoutKind) (error : OpenError) → IsRefusedAlone kind place error → IsFirstUnreadable nodes place → ((HasEmptyZones kind → ⊥) → IsNotEmptyZoned nodes place) → (HasEmptyZones kind → IsEmptyZoned nodes place) → OpenRefused nodes error
    by (kinds.Flat segment coding) error refused first none empty = absurd refused
    by kinds.Chunked error refused first none empty = absurd refused
    by kinds.Struct error refused first none empty = absurd refused
    by kinds.Dict error refused first none empty = absurd refused
    by kinds.List (Unsupported n) refused first none empty = (subst (IsFirstUnreadable nodes) (sym refused) first, subst (IsNotEmptyZoned nodes) (sym refused) (none (λ is. is)))
    by kinds.List (ZeroZoneLength n) refused first none empty = absurd refused
    by (kinds.Zoned zone_len stats) (Unsupported n) refused first none empty = absurd refused
    by (kinds.Zoned zone_len stats) (ZeroZoneLength n) refused first none empty = (subst (IsFirstUnreadable nodes) (sym refused.0) first, subst (IsEmptyZoned nodes) (sym refused.0) (empty refused.1))
    by (kinds.LegacyStats zone_len stats) (Unsupported n) refused first none empty = (subst (IsFirstUnreadable nodes) (sym refused) first, subst (IsNotEmptyZoned nodes) (sym refused) (none (λ is. is)))
    by (kinds.LegacyStats zone_len stats) (ZeroZoneLength n) refused first none empty = absurd refused

struct_node : (nodes : List Node) (place : ℕ) → IsStructAt nodes place → (IsZones nodes place → ⊥) → ((n : ℕ) → n < place → IsReadableAt nodes n) → (o : Option Node) → slice_get nodes place ≡ o → IsSomeAnd o (λ node. IsStructKind node.kind) → OpenRefused nodes (Unsupported place)
struct_node nodes place there bad before None at is = absurd is
struct_node nodes place there bad before (Some node) at is = by node.kind refl is
  where
    by : (kind : LayoutKind) → node.kind ≡ kind → IsStructKind kind → OpenRefused nodes (Unsupported place)
    by kinds.Struct same is =
        let F : LayoutKind → Type 0 = λ kind. IsReadableNode nodes place kind → ⊥ in
        let G : LayoutKind → Type 0 = λ kind. HasEmptyZones kind → ⊥ in
        (first_unreadable nodes place node at (subst F (sym same) bad) before, no_empty nodes place node at (subst G (sym same) (λ none. none)))
    by (kinds.Flat segment coding) same is = absurd is
    by kinds.Chunked same is = absurd is
    by kinds.Dict same is = absurd is
    by kinds.List same is = absurd is
    by (kinds.Zoned zone_len stats) same is = absurd is
    by (kinds.LegacyStats zone_len stats) same is = absurd is

-- it is a struct, and no zones
pub refused_stray : (nodes : List Node) (place : ℕ) → IsStructAt nodes place × (IsZones nodes place → ⊥) → ((n : ℕ) → n < place → IsReadableAt nodes n) → OpenRefused nodes (Unsupported place)
refused_stray nodes place stray before = struct_node nodes place stray.0 stray.1 before (slice_get nodes place) refl stray.0

-- ---- the root

-- the reader of the root, by its kind
pub root_reader : (nodes : List Node) (root : ℕ) (node : Node) (kind : LayoutKind) (reader : Reader) → root ≡ 0 → slice_get nodes root ≡ Some node → node.kind ≡ kind → IsReaderOf kind reader → IsRootReader nodes reader
root_reader nodes root node kind reader zero at is of =
    let there : slice_get nodes 0 ≡ Some node = ap (slice_get nodes) (sym zero) ∙ at in
    subst (λ (o : Option Node). IsSomeAnd o (λ node. IsReaderOf node.kind reader)) (sym there) (subst (λ (k : LayoutKind). IsReaderOf k reader) (sym is) of)

-- it is a segment, chunks, a dictionary or data in zones: it is the zones of none
pub no_other_root : (nodes : List Node) (root : ℕ) (node : Node) → IsGoodTree nodes → root ≡ 0 → slice_get nodes root ≡ Some node → AreReadable nodes → ((segment : ℕ) (coding : Coding) → node.kind ≡ kinds.Flat segment coding → ⊥) → (node.kind ≡ kinds.Chunked → ⊥) → (node.kind ≡ kinds.Dict → ⊥) → ((zone_len : ℕ) (stats : List Statistic) → node.kind ≡ kinds.Zoned zone_len stats → ⊥) → ⊥
no_other_root nodes root node good zero at readable flat chunked dict zoned = by node.kind refl (subst (λ (o : Option Node). IfSome o (λ node. IsReadableNode nodes 0 node.kind)) (ap (slice_get nodes) (sym zero) ∙ at) (readable 0))
  where
    by : (kind : LayoutKind) → node.kind ≡ kind → IsReadableNode nodes 0 kind → ⊥
    by (kinds.Flat segment coding) same is = flat segment coding same
    by kinds.Chunked same is = chunked same
    by kinds.Struct same is = root_no_zones nodes good is
    by kinds.Dict same is = dict same
    by kinds.List same is = is
    by (kinds.Zoned zone_len stats) same is = zoned zone_len stats same
    by (kinds.LegacyStats zone_len stats) same is = is
