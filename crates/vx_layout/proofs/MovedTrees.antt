-- Trees whose leaves have the same values are worth the same: by levels of nodes that are the same but for the segments and
-- codings of the flat ones.
use Rattle.std.proofs.Common.{◌≡◌, ℕ, zero, suc, ◌+◌, ◌-◌, ltb, Bool, true, false, cond, List, [], ◌∷◌, Option, Some, None, map, length, refl, sym, ap, ◌∙◌, subst, ⊎_elim, ◌<◌, ◌≤◌, arith}
use Rattle.std.specs.Prelude.{option_map, option_and_then}
use Rattle.std.specs.List.{slice_get}
use Rattle.std.proofs.lemmas.Bool.{cases_lt}
use Rattle.std.proofs.lemmas.Option.{slice_get_past}
use Rattle.vx_base.specs.declared.codings.Coding.{Coding}
use Rattle.vx_base.specs.declared.dtypes.Nullability.{Nullability}
use Rattle.vx_base.specs.declared.dtypes.Nullability.TheVariants.{NonNullable, Nullable}
use Rattle.vx_base.specs.Data.{Members, no_members, member, Datum, null}
use Rattle.vx_base.specs.Fits.{nullability_of}
use Rattle.vx_expr.specs.Packs.{struct_row}
use Rattle.vx_expr.specs.Types.{on_both}
use Rattle.vx_rows.specs.Derivations.{Derivation, nothing, given, packed, each_row, Leaves, where_valid, look_up, one_more, derived, derived_each}
use Rattle.vx_rows.specs.Heads.{Head}
use Rattle.vx_layout.specs.declared.nodes.LayoutKind.{LayoutKind}
use Rattle.vx_layout.specs.declared.nodes.LayoutKind.TheVariants as kinds
use Rattle.vx_layout.specs.Nodes.{Node}
use Rattle.vx_layout.specs.Kept.{KeptFields, all, is_kept}
use Rattle.vx_layout.specs.Trees.{Tree, leaf, chunks, fields, dict, head_of, head_at, gap, forest_from, child_in, validity_in, field_trees, grown_as, grown, grow, subtree}
use Rattle.vx_layout.specs.Rows.{struct_members, derivation, derivation_in, field_derivations, where_valid_by, value}
use Rattle.vx_layout.specs.Migrations.{flats_before, moved_kind, moved_node, AreMoved}

-- two trees have one head, and each row is worth the same by the leaves of each
pub record AreWorthSame (ones others : Leaves) (s t : Tree) : Type 0 where
  pub head : head_of s ≡ head_of t
  pub worth : (kept : KeptFields) (row : ℕ) → value ones s kept row ≡ value others t kept row

gap_same : (ones others : Leaves) (n : ℕ) → AreWorthSame ones others (gap n) (gap n)
gap_same ones others n = record { head = refl; worth = λ kept row. refl }

-- two ways to find the trees of numbers
abbrev Alike : Leaves → Leaves → (ℕ → Tree) → (ℕ → Tree) → Type 0
Alike ones others f g = (n : ℕ) → AreWorthSame ones others (f n) (g n)

child_same : (ones others : Leaves) (f g : ℕ → Tree) → Alike ones others f g → (cs : List ℕ) (place : ℕ) → AreWorthSame ones others (child_in (map f cs) place) (child_in (map g cs) place)
child_same ones others f g same [] place = gap_same ones others 0
child_same ones others f g same (c ∷ cs) zero = same c
child_same ones others f g same (c ∷ cs) (suc place) = child_same ones others f g same cs place

-- ---- one of two rows

pick_same : (ones others : Leaves) (b : Bool) (c d c' d' : Derivation) → derived ones c ≡ derived others c' → derived ones d ≡ derived others d' → derived ones (cond b c d) ≡ derived others (cond b c' d')
pick_same ones others true c d c' d' p q = p
pick_same ones others false c d c' d' p q = q

-- ---- chunks

chunks_same : (ones others : Leaves) (f g : ℕ → Tree) → Alike ones others f g → (cs : List ℕ) (kept : KeptFields) (row : ℕ)
    → derived ones (derivation_in (forest_from (map f cs)) kept row) ≡ derived others (derivation_in (forest_from (map g cs)) kept row)
chunks_same ones others f g same [] kept row = refl
chunks_same ones others f g same (c ∷ cs) kept row =
    let one = same c in
    (λ i. derived ones (cond (ltb row (one.head i).rows) (derivation (f c) kept row) (derivation_in (forest_from (map f cs)) kept (row - (one.head i).rows))))
    ∙ pick_same ones others (ltb row (head_of (g c)).rows) (derivation (f c) kept row) (derivation_in (forest_from (map f cs)) kept (row - (head_of (g c)).rows))
    (derivation (g c) kept row) (derivation_in (forest_from (map g cs)) kept (row - (head_of (g c)).rows))
    (one.worth kept row) (chunks_same ones others f g same cs kept (row - (head_of (g c)).rows))

-- ---- fields

fields_same : (ones others : Leaves) (f g : ℕ → Tree) → Alike ones others f g → (ms : Members) (cs : List ℕ) (kept : KeptFields) (row : ℕ)
    → derived_each ones (field_derivations ms (forest_from (map f cs)) kept row) ≡ derived_each others (field_derivations ms (forest_from (map g cs)) kept row)
fields_same ones others f g same no_members cs kept row = refl
fields_same ones others f g same (member name t ms) [] kept row =
    let here = pick_same ones others (is_kept kept name) nothing (given null) nothing (given null) refl refl in
    let rest = fields_same ones others f g same ms [] kept row in
    λ i. on_both one_more (here i) (rest i)
fields_same ones others f g same (member name t ms) (c ∷ cs) kept row =
    let here = pick_same ones others (is_kept kept name) (derivation (f c) all row) (given null) (derivation (g c) all row) (given null) ((same c).worth all row) refl in
    let rest = fields_same ones others f g same ms cs kept row in
    λ i. on_both one_more (here i) (rest i)

fields_behind : (ones others : Leaves) (f g : ℕ → Tree) → Alike ones others f g → (nullability : Nullability) (ms : Members) (cs : List ℕ) (kept : KeptFields) (row : ℕ)
    → derived_each ones (field_derivations ms (forest_from (field_trees nullability (map f cs))) kept row)
    ≡ derived_each others (field_derivations ms (forest_from (field_trees nullability (map g cs))) kept row)
fields_behind ones others f g same NonNullable ms cs kept row = fields_same ones others f g same ms cs kept row
fields_behind ones others f g same Nullable ms [] kept row = fields_same ones others f g same ms [] kept row
fields_behind ones others f g same Nullable ms (c ∷ cs) kept row = fields_same ones others f g same ms cs kept row

valid_same : (ones others : Leaves) (f g : ℕ → Tree) → Alike ones others f g → (nullability : Nullability) (cs : List ℕ) (place row : ℕ) (d e : Derivation) → derived ones d ≡ derived others e
    → derived ones (where_valid_by (validity_in nullability (map f cs) place) row d) ≡ derived others (where_valid_by (validity_in nullability (map g cs) place) row e)
valid_same ones others f g same NonNullable cs place row d e p = p
valid_same ones others f g same Nullable cs place row d e p =
    let valid = (child_same ones others f g same cs place).worth all row in
    λ i. on_both where_valid (p i) (valid i)

struct_same : (ones others : Leaves) (f g : ℕ → Tree) → Alike ones others f g → (head : Head) (cs : List ℕ) → AreWorthSame ones others (grown_as head kinds.Struct (map f cs)) (grown_as head kinds.Struct (map g cs))
struct_same ones others f g same head cs =
    let n = nullability_of head.dtype in
    let ms = struct_members head.dtype in
    record {
      head = refl;
      worth = λ kept row.
          valid_same ones others f g same n cs 0 row (packed (field_derivations ms (forest_from (field_trees n (map f cs))) kept row)) (packed (field_derivations ms (forest_from (field_trees n (map g cs))) kept row))
          (ap (option_map struct_row) (fields_behind ones others f g same n ms cs kept row));
    }

-- ---- dictionaries

each_same : (ones others : Leaves) (s t : Tree) → AreWorthSame ones others s t → (from count : ℕ) → derived_each ones (each_row (derivation s all) from count) ≡ derived_each others (each_row (derivation t all) from count)
each_same ones others s t same from zero = refl
each_same ones others s t same from (suc count) =
    let here = same.worth all from in
    let rest = each_same ones others s t same (from + 1) count in
    λ i. on_both one_more (here i) (rest i)

dict_same : (ones others : Leaves) (head : Head) (s t c d : Tree) → AreWorthSame ones others s t → AreWorthSame ones others c d → AreWorthSame ones others (dict head s c) (dict head t d)
dict_same ones others head s t c d values codes = record {
  head = refl;
  worth = λ kept row.
      (let looked = (λ i. derived_each ones (each_row (derivation s all) 0 (values.head i).rows)) ∙ each_same ones others s t values 0 (head_of t).rows in
      let code = codes.worth all row in
      λ i. on_both look_up (looked i) (code i));
}

-- ---- a node of each kind

leaf_same : (ones others : Leaves) (head : Head) (place segment : ℕ) (coding old : Coding) → ones head.dtype coding head.rows place ≡ others head.dtype old head.rows segment
    → AreWorthSame ones others (leaf head place coding) (leaf head segment old)
leaf_same ones others head place segment coding old agree =
    record { head = refl; worth = λ kept row. ap (option_and_then (λ (values : List Datum). slice_get values row)) agree }

-- the leaf of a flat node has the same values in the new coding, which there is
abbrev pub LeafAgrees : Leaves → Leaves → Head → LayoutKind → ℕ → Option Coding → Type 0
LeafAgrees ones others head kind place found =
    (segment : ℕ) (old : Coding) → kind ≡ kinds.Flat segment old
    → (coding : Coding) × (found ≡ Some coding) × (ones head.dtype coding head.rows place ≡ others head.dtype old head.rows segment)

kind_same : (ones others : Leaves) (f g : ℕ → Tree) → Alike ones others f g → (head : Head) (kind : LayoutKind) (place : ℕ) (found : Option Coding) (cs : List ℕ)
    → LeafAgrees ones others head kind place found → AreWorthSame ones others (grown_as head (moved_kind kind place found) (map f cs)) (grown_as head kind (map g cs))
kind_same ones others f g same head (kinds.Flat segment old) place found cs agree =
    let its = agree segment old refl in
    let P : Option Coding → Type 0 = λ (o : Option Coding). AreWorthSame ones others (grown_as head (moved_kind (kinds.Flat segment old) place o) (map f cs)) (leaf head segment old) in
    subst P (sym its.1) (leaf_same ones others head place segment its.0 old its.2)
kind_same ones others f g same head kinds.Chunked place found cs agree = record { head = refl; worth = λ kept row. chunks_same ones others f g same cs kept row }
kind_same ones others f g same head kinds.Struct place found cs agree = struct_same ones others f g same head cs
kind_same ones others f g same head kinds.Dict place found cs agree =
    dict_same ones others head (child_in (map f cs) 0) (child_in (map g cs) 0) (child_in (map f cs) 1) (child_in (map g cs) 1)
    (child_same ones others f g same cs 0) (child_same ones others f g same cs 1)
kind_same ones others f g same head kinds.List place found cs agree = record { head = refl; worth = λ kept row. refl }
kind_same ones others f g same head (kinds.Zoned zone_len stats) place found cs agree = record { head = refl; worth = λ kept row. (child_same ones others f g same cs 0).worth kept row }
kind_same ones others f g same head (kinds.LegacyStats zone_len stats) place found cs agree = record { head = refl; worth = λ kept row. (child_same ones others f g same cs 0).worth kept row }

-- ---- the nodes of a list, level by level

-- each flat node's leaf agrees
abbrev pub LeavesAgree : Leaves → Leaves → List Node → List Coding → Type 0
LeavesAgree ones others nodes codings =
    (n : ℕ) (node : Node) → slice_get nodes n ≡ Some node → LeafAgrees ones others (head_at n node) node.kind (flats_before nodes n) (slice_get codings (flats_before nodes n))

grown_same : (ones others : Leaves) (f g : ℕ → Tree) → Alike ones others f g → (nodes : List Node) (codings : List Coding) (n : ℕ) (found : Option Node) → slice_get nodes n ≡ found → LeavesAgree ones others nodes codings
    → AreWorthSame ones others (grown f n (option_map (moved_node nodes codings n) found)) (grown g n found)
grown_same ones others f g same nodes codings n None at agree = gap_same ones others n
grown_same ones others f g same nodes codings n (Some node) at agree =
    kind_same ones others f g same (head_at n node) node.kind (flats_before nodes n) (slice_get codings (flats_before nodes n)) node.children (agree n node at)

-- the moved nodes, also past the end
moved_found : (nodes news : List Node) (codings : List Coding) → AreMoved nodes codings news → (n : ℕ) (found : Option Node) → slice_get nodes n ≡ found → slice_get news n ≡ option_map (moved_node nodes codings n) found
moved_found nodes news codings are n (Some node) at = are.each n node at
moved_found nodes news codings are n None at =
    ⊎_elim (λ (lt : n < length nodes). absurd (none_within nodes n lt at)) (λ (le : length nodes ≤ n). slice_get_past news n (omega (arith, are.size))) (cases_lt n (length nodes))
  where
    none_within : (xs : List Node) (i : ℕ) → i < length xs → slice_get xs i ≡ None → ⊥
    none_within [] i lt e = absurd (omega arith)
    none_within (x ∷ xs) zero lt e = cc
    none_within (x ∷ xs) (suc i) lt e = none_within xs i (omega arith) e

pub moved_at : (nodes news : List Node) (codings : List Coding) → AreMoved nodes codings news → (n : ℕ) → slice_get news n ≡ option_map (moved_node nodes codings n) (slice_get nodes n)
moved_at nodes news codings are n = moved_found nodes news codings are n (slice_get nodes n) refl

levels_same : (ones others : Leaves) (nodes news : List Node) (codings : List Coding) → AreMoved nodes codings news → LeavesAgree ones others nodes codings
    → (levels n : ℕ) → AreWorthSame ones others (grow levels news n) (grow levels nodes n)
unfolding grow
levels_same ones others nodes news codings are agree zero n = gap_same ones others n
levels_same ones others nodes news codings are agree (suc levels) n =
    let f = grow levels news in
    let g = grow levels nodes in
    let P : Option Node → Type 0 = λ (o : Option Node). AreWorthSame ones others (grown f n o) (grown g n (slice_get nodes n)) in
    subst P (sym (moved_at nodes news codings are n))
    (grown_same ones others f g (λ m. levels_same ones others nodes news codings are agree levels m) nodes codings n (slice_get nodes n) refl agree)

-- each node's row is worth the same, whatever is kept
pub moved_worth : (ones others : Leaves) (nodes news : List Node) (codings : List Coding) → AreMoved nodes codings news → LeavesAgree ones others nodes codings
    → (n row : ℕ) → value ones (subtree news n) all row ≡ value others (subtree nodes n) all row
moved_worth ones others nodes news codings are agree n row =
    (λ i. value ones (grow (are.size i) news n) all row) ∙ (levels_same ones others nodes news codings are agree (length nodes) n).worth all row
