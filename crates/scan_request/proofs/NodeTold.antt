-- What the members of a node tell with one more member, and which members are there.
use Rattle.std.proofs.Common.{◌≡◌, ℕ, ◌^◌, true, codes, List, Option, Some, None, option_map, refl, sym, ap}
use Rattle.serde_json.specs.Data.{Data}
use Rattle.serde_json.specs.Find.{as_str}
use Rattle.vx_base.specs.Data.{DataType}
use Rattle.vx_base.specs.declared.codings.Coding.{Coding}
use Rattle.vx_expr.specs.declared.statistics.Statistic.{Statistic}
use Rattle.scan_request.specs.DtypeForms.{dtype_form}
use Rattle.scan_request.specs.JsonForms.{list_of, whole_form}
use Rattle.scan_request.specs.NodeForms.{coding_form, statistic_form}
use Rattle.scan_request.specs.NodeMembers.{NodeTold, there, with_member}
use Rattle.scan_request.proofs.OtherKinds.{apart}

pub kind_told : (name : List ℕ) (d : Data) (told : NodeTold) (x : Option (List ℕ)) → name ≡ codes "kind" → as_str d ≡ x → (record told { kind = Some x }) ≡ with_member name d told
kind_told name d told x is read = rw is (ap (λ (y : Option (List ℕ)). record told { kind = Some y }) (sym read))

pub dtype_told : (name : List ℕ) (d : Data) (told : NodeTold) (x : Option DataType) → name ≡ codes "dtype" → dtype_form d ≡ x → (record told { dtype = Some x }) ≡ with_member name d told
dtype_told name d told x is read = rw is (ap (λ (y : Option DataType). record told { dtype = Some y }) (sym read))

pub rows_told : (name : List ℕ) (d : Data) (told : NodeTold) (x : Option ℕ) → name ≡ codes "rows" → (whole_form (2 ^ 64)) d ≡ x → (record told { rows = Some x }) ≡ with_member name d told
rows_told name d told x is read = rw is (ap (λ (y : Option ℕ). record told { rows = Some y }) (sym read))

pub children_told : (name : List ℕ) (d : Data) (told : NodeTold) (x : Option (List ℕ)) → name ≡ codes "children" → (list_of (whole_form (2 ^ 32))) d ≡ x → (record told { children = Some x }) ≡ with_member name d told
children_told name d told x is read = rw is (ap (λ (y : Option (List ℕ)). record told { children = Some y }) (sym read))

pub segment_told : (name : List ℕ) (d : Data) (told : NodeTold) (x : Option ℕ) → name ≡ codes "segment" → (whole_form (2 ^ 32)) d ≡ x → (record told { segment = Some x }) ≡ with_member name d told
segment_told name d told x is read = rw is (ap (λ (y : Option ℕ). record told { segment = Some y }) (sym read))

pub coding_told : (name : List ℕ) (d : Data) (told : NodeTold) (x : Option Coding) → name ≡ codes "coding" → coding_form d ≡ x → (record told { coding = Some x }) ≡ with_member name d told
coding_told name d told x is read = rw is (ap (λ (y : Option Coding). record told { coding = Some y }) (sym read))

pub zone_len_told : (name : List ℕ) (d : Data) (told : NodeTold) (x : Option ℕ) → name ≡ codes "zone_len" → (whole_form (2 ^ 64)) d ≡ x → (record told { zone_len = Some x }) ≡ with_member name d told
zone_len_told name d told x is read = rw is (ap (λ (y : Option ℕ). record told { zone_len = Some y }) (sym read))

pub stats_told : (name : List ℕ) (d : Data) (told : NodeTold) (x : Option (List Statistic)) → name ≡ codes "stats" → (list_of statistic_form) d ≡ x → (record told { stats = Some x }) ≡ with_member name d told
stats_told name d told x is read = rw is (ap (λ (y : Option (List Statistic)). record told { stats = Some y }) (sym read))

pub other_told : (name : List ℕ) (d : Data) (told : NodeTold) → (name ≡ codes "kind" → ⊥) → (name ≡ codes "dtype" → ⊥) → (name ≡ codes "rows" → ⊥) → (name ≡ codes "children" → ⊥) → (name ≡ codes "segment" → ⊥) → (name ≡ codes "coding" → ⊥) → (name ≡ codes "zone_len" → ⊥) → (name ≡ codes "stats" → ⊥) → (record told { others = true }) ≡ with_member name d told
other_told name d told no_kind no_dtype no_rows no_children no_segment no_coding no_zone_len no_stats =
    rw (apart name (codes "kind") no_kind, apart name (codes "dtype") no_dtype, apart name (codes "rows") no_rows, apart name (codes "children") no_children, apart name (codes "segment") no_segment, apart name (codes "coding") no_coding, apart name (codes "zone_len") no_zone_len, apart name (codes "stats") no_stats) refl

-- ---- which members are there

pub there_seen : {A B : Type 0} (see : A → B) (o : Option A) → there o ≡ there (option_map see o)
there_seen see None = refl
there_seen see (Some a) = refl
