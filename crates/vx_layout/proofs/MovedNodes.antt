-- The moved nodes of a good tree are a good tree.
use Rattle.std.proofs.Common.{◌≡◌, ℕ, suc, ◌<◌, List, [], ◌∷◌, Option, Some, None, length, refl, sym, ap, ◌∙◌, subst, arith}
use Rattle.std.specs.Prelude.{option_map, IsSomeAnd}
use Rattle.std.specs.List.{slice_get}
use Rattle.std.proofs.lemmas.Option.{same_Some, slice_get-map}
use Rattle.vx_base.specs.declared.codings.Coding.{Coding}
use Rattle.vx_layout.specs.declared.nodes.LayoutKind.{LayoutKind}
use Rattle.vx_layout.specs.declared.nodes.LayoutKind.TheVariants as kinds
use Rattle.vx_layout.specs.declared.rules.ShapeRule.TheVariants.{FewCodedRows}
use Rattle.vx_layout.specs.Nodes.{Node}
use Rattle.vx_layout.specs.Shape.{AreFewIn, HasFewCodedRows, IsGoodTree, Keeps}
use Rattle.vx_layout.specs.Migrations.{flats_before, moved_kind, moved_node, AreMoved, OfFlat}
use Rattle.vx_layout.proofs.BareNodes.{bare_kind, bare_node, bare_nodes, keeps_alike}
use Rattle.vx_layout.proofs.MovedTrees.{moved_at}

-- ---- what is moved is the same without segments and codings

bare_moved_kind : (kind : LayoutKind) (place : ℕ) (found : Option Coding) → bare_kind (moved_kind kind place found) ≡ bare_kind kind
bare_moved_kind (kinds.Flat segment old) place None = refl
bare_moved_kind (kinds.Flat segment old) place (Some coding) = refl
bare_moved_kind kinds.Chunked place found = refl
bare_moved_kind kinds.Struct place found = refl
bare_moved_kind kinds.Dict place found = refl
bare_moved_kind kinds.List place found = refl
bare_moved_kind (kinds.Zoned zone_len stats) place found = refl
bare_moved_kind (kinds.LegacyStats zone_len stats) place found = refl

bare_moved : (nodes : List Node) (codings : List Coding) (n : ℕ) (node : Node) → bare_node (moved_node nodes codings n node) ≡ bare_node node
bare_moved nodes codings n node = λ i. record {
  kind = bare_moved_kind node.kind (flats_before nodes n) (slice_get codings (flats_before nodes n)) i;
  dtype = node.dtype;
  rows = node.rows;
  children = node.children;
}

bare_found : (nodes : List Node) (codings : List Coding) (n : ℕ) (o : Option Node) → option_map bare_node (option_map (moved_node nodes codings n) o) ≡ option_map bare_node o
bare_found nodes codings n None = refl
bare_found nodes codings n (Some node) = λ i. Some (bare_moved nodes codings n node i)

each_same : (xs ys : List Node) → ((n : ℕ) → slice_get xs n ≡ slice_get ys n) → xs ≡ ys
each_same [] [] h = refl
each_same [] (y ∷ ys) h = let no : None ≡ Some y = h 0 in absurd cc
each_same (x ∷ xs) [] h = let no : Some x ≡ None = h 0 in absurd cc
each_same (x ∷ xs) (y ∷ ys) h =
    let here : x ≡ y = same_Some x y (h 0) in
    let rest : xs ≡ ys = each_same xs ys (λ n. h (suc n)) in
    λ i. here i ∷ rest i

pub bare_same : (nodes news : List Node) (codings : List Coding) → AreMoved nodes codings news → bare_nodes news ≡ bare_nodes nodes
bare_same nodes news codings are =
    each_same (bare_nodes news) (bare_nodes nodes)
    (λ n. slice_get-map bare_node news n ∙ ap (option_map bare_node) (moved_at nodes news codings are n) ∙ bare_found nodes codings n (slice_get nodes n) ∙ sym (slice_get-map bare_node nodes n))

-- ---- few coded rows

-- the rows of a flat node are few enough for its new coding
abbrev pub AreFewMoved : List Node → List Coding → Type 0
AreFewMoved nodes codings = (n : ℕ) → OfFlat nodes codings n (λ node segment old coding. AreFewIn coding node.rows)

-- or else for the old one
few_moved : (kind : LayoutKind) (place rows : ℕ) (found : Option Coding) → ((segment : ℕ) (old coding : Coding) → kind ≡ kinds.Flat segment old → found ≡ Some coding → AreFewIn coding rows)
    → HasFewCodedRows kind rows → HasFewCodedRows (moved_kind kind place found) rows
few_moved (kinds.Flat segment old) place rows None few kept = kept
few_moved (kinds.Flat segment old) place rows (Some coding) few kept = few segment old coding refl refl
few_moved kinds.Chunked place rows found few kept = tt
few_moved kinds.Struct place rows found few kept = tt
few_moved kinds.Dict place rows found few kept = tt
few_moved kinds.List place rows found few kept = tt
few_moved (kinds.Zoned zone_len stats) place rows found few kept = tt
few_moved (kinds.LegacyStats zone_len stats) place rows found few kept = tt

few_at : (nodes : List Node) (codings : List Coding) (n : ℕ) (o : Option Node) → slice_get nodes n ≡ o → AreFewMoved nodes codings → IsSomeAnd o (λ node. HasFewCodedRows node.kind node.rows)
    → IsSomeAnd (option_map (moved_node nodes codings n) o) (λ node. HasFewCodedRows node.kind node.rows)
few_at nodes codings n None at few kept = kept
few_at nodes codings n (Some node) at few kept =
    few_moved node.kind (flats_before nodes n) node.rows (slice_get codings (flats_before nodes n)) (λ segment old coding flat coded. few n node segment old coding at flat coded) kept

pub few_keeps : (nodes news : List Node) (codings : List Coding) (n : ℕ) → AreMoved nodes codings news → AreFewMoved nodes codings → Keeps FewCodedRows nodes n → Keeps FewCodedRows news n
few_keeps nodes news codings n are few kept =
    let P : Option Node → Type 0 = λ (o : Option Node). IsSomeAnd o (λ node. HasFewCodedRows node.kind node.rows) in
    subst P (sym (moved_at nodes news codings are n)) (few_at nodes codings n (slice_get nodes n) refl few kept)

-- ---- all rules

pub moved_good : (nodes news : List Node) (codings : List Coding) → IsGoodTree nodes → AreMoved nodes codings news → AreFewMoved nodes codings → IsGoodTree news
moved_good nodes news codings good are few = record {
  nonempty = omega (arith, good.nonempty, are.size);
  kept = λ rule n lt.
      let within : n < length nodes = omega (arith, are.size) in
      keeps_alike rule news nodes n (bare_same nodes news codings are) (few_keeps nodes news codings n are few (good.kept FewCodedRows n within)) (good.kept rule n within);
}
