-- The members of a node, as they are put into an object one after another, and the node that they tell.
use Rattle.std.proofs.Common.{◌≡◌, ℕ, ◌+◌, ◌^◌, ◌<◌, ◌≤◌, ◌||◌, not, Bool, true, false, cond, eqb, codes, List, [], ◌∷◌, Option, Some, None, option_map, bytes_eq, refl, sym, ap, ◌∙◌, arith}
use Rattle.std.specs.Map.{lookup}
use Rattle.std.specs.Option.{option_map_or}
use Rattle.std.proofs.lemmas.Bool.{eqb-true}
use Rattle.serde_json.specs.Data.{Data, null, boolean, number, string, array, object, Members, put}
use Rattle.serde_json.specs.Events.{members_len}
use Rattle.serde_json.specs.Find.{as_str, as_array, as_object, get_member}
use Rattle.scan_json.specs.Forms.{each_form}
use Rattle.scan_json.specs.Members.{AreRising, has_other, is_one_of, present, present_of}
use Rattle.scan_json.proofs.Names.{HoldsAt, by_name, counted, found_put, neither, no_others, other_count, other_put, some_others}
use Rattle.scan_words.specs.Words.{◌>>=◌}
use Rattle.vx_base.specs.Data.{DataType}
use Rattle.vx_base.specs.declared.codings.Coding.{Coding}
use Rattle.vx_base.specs.declared.codings.Coding.TheVariants.{Plain}
use Rattle.vx_expr.specs.declared.statistics.Statistic.{Statistic}
use Rattle.vx_layout.specs.Nodes.{Node}
use Rattle.vx_layout.specs.declared.nodes.LayoutKind.{LayoutKind}
use Rattle.vx_layout.specs.declared.nodes.LayoutKind.TheVariants as kinds
use Rattle.scan_request.specs.DtypeForms.{dtype_form, dtype_under}
use Rattle.scan_request.specs.JsonForms.{list_of, optional_form, whole_form}
use Rattle.scan_request.specs.NodeForms.{children_form, coding_form, flat_form, kind_form, legacy_by, member_count, node_form, node_of_kind, plain_kinds, statistic_form, zoned_by, zones_form}
use Rattle.scan_request.specs.NodeMembers.{NodeTold, children_said, coding_said, flat_said, kind_said, known, members_said, node_names, node_said, rest_said, there, told_of, told_value, with_member, zones_said}
use Rattle.scan_request.proofs.JsonForms.{here, some_is}

-- ---- one more member

abbrev told_when : List ℕ → Data → Members → NodeTold
told_when k d ms =
    record {
      kind = option_map as_str (cond (bytes_eq k (codes "kind")) (Some d) (get_member (codes "kind") ms));
      dtype = option_map dtype_form (cond (bytes_eq k (codes "dtype")) (Some d) (get_member (codes "dtype") ms));
      rows = option_map (whole_form (2 ^ 64)) (cond (bytes_eq k (codes "rows")) (Some d) (get_member (codes "rows") ms));
      children = option_map (list_of (whole_form (2 ^ 32))) (cond (bytes_eq k (codes "children")) (Some d) (get_member (codes "children") ms));
      segment = option_map (whole_form (2 ^ 32)) (cond (bytes_eq k (codes "segment")) (Some d) (get_member (codes "segment") ms));
      coding = option_map coding_form (cond (bytes_eq k (codes "coding")) (Some d) (get_member (codes "coding") ms));
      zone_len = option_map (whole_form (2 ^ 64)) (cond (bytes_eq k (codes "zone_len")) (Some d) (get_member (codes "zone_len") ms));
      stats = option_map (list_of statistic_form) (cond (bytes_eq k (codes "stats")) (Some d) (get_member (codes "stats") ms));
      others = not (is_one_of node_names k) || has_other node_names ms;
    }

put_when : (k : List ℕ) (d : Data) (ms : Members) → told_of (put k d ms) ≡ told_when k d ms
put_when k d ms =
    λ i.
    record {
      kind = option_map as_str (found_put (codes "kind") k d ms i);
      dtype = option_map dtype_form (found_put (codes "dtype") k d ms i);
      rows = option_map (whole_form (2 ^ 64)) (found_put (codes "rows") k d ms i);
      children = option_map (list_of (whole_form (2 ^ 32))) (found_put (codes "children") k d ms i);
      segment = option_map (whole_form (2 ^ 32)) (found_put (codes "segment") k d ms i);
      coding = option_map coding_form (found_put (codes "coding") k d ms i);
      zone_len = option_map (whole_form (2 ^ 64)) (found_put (codes "zone_len") k d ms i);
      stats = option_map (list_of statistic_form) (found_put (codes "stats") k d ms i);
      others = other_put node_names k d ms i;
    }

abbrev Same : Data → Members → List ℕ → Type 0
Same d ms k = told_when k d ms ≡ with_member k d (told_of ms)

at_names : (d : Data) (ms : Members) → HoldsAt (Same d ms) node_names
at_names d ms = (refl, (refl, (refl, (refl, (refl, (refl, (refl, (refl, tt))))))))

at_other : (d : Data) (ms : Members) (k : List ℕ) → is_one_of node_names k ≡ false → Same d ms k
at_other d ms k other =
    let not_kind = neither (bytes_eq k (codes "kind")) (is_one_of (codes "dtype" ∷ codes "rows" ∷ codes "children" ∷ codes "segment" ∷ codes "coding" ∷ codes "zone_len" ∷ codes "stats" ∷ []) k) other in
    let not_dtype = neither (bytes_eq k (codes "dtype")) (is_one_of (codes "rows" ∷ codes "children" ∷ codes "segment" ∷ codes "coding" ∷ codes "zone_len" ∷ codes "stats" ∷ []) k) not_kind.1 in
    let not_rows = neither (bytes_eq k (codes "rows")) (is_one_of (codes "children" ∷ codes "segment" ∷ codes "coding" ∷ codes "zone_len" ∷ codes "stats" ∷ []) k) not_dtype.1 in
    let not_children = neither (bytes_eq k (codes "children")) (is_one_of (codes "segment" ∷ codes "coding" ∷ codes "zone_len" ∷ codes "stats" ∷ []) k) not_rows.1 in
    let not_segment = neither (bytes_eq k (codes "segment")) (is_one_of (codes "coding" ∷ codes "zone_len" ∷ codes "stats" ∷ []) k) not_children.1 in
    let not_coding = neither (bytes_eq k (codes "coding")) (is_one_of (codes "zone_len" ∷ codes "stats" ∷ []) k) not_segment.1 in
    let not_zone_len = neither (bytes_eq k (codes "zone_len")) (is_one_of (codes "stats" ∷ []) k) not_coding.1 in
    let not_stats = neither (bytes_eq k (codes "stats")) (is_one_of ([]) k) not_zone_len.1 in
    rw (not_kind.0, not_dtype.0, not_rows.0, not_children.0, not_segment.0, not_coding.0, not_zone_len.0, not_stats.0) refl

pub told_put : (k : List ℕ) (d : Data) (ms : Members) → told_of (put k d ms) ≡ with_member k d (told_of ms)
told_put k d ms = put_when k d ms ∙ by_name (Same d ms) node_names k (at_names d ms) (at_other d ms k)

-- ---- what they tell is what the object tells

told_map : {A B : Type 0} (f : A → Option B) (o : Option A) → told_value (option_map f o) ≡ (o >>= f)
told_map f None = refl
told_map f (Some a) = refl

there_map : {A B : Type 0} (f : A → B) (o : Option A) → there (option_map f o) ≡ option_map_or (λ a. 1) o 0
there_map f None = refl
there_map f (Some a) = refl

list_map : {X : Type 0} (form : Data → Option X) (o : Option Data) → told_value (option_map (list_of form) o) ≡ (o >>= as_array >>= each_form form)
list_map form None = refl
list_map form (Some d) = refl

coding_map : (o : Option Data) → coding_said (option_map coding_form o) ≡ optional_form Plain coding_form o
coding_map None = refl
coding_map (Some d) = refl

then_then : {A B C : Type 0} (o : Option A) (f : A → Option B) (g : B → Option C) → (o >>= λ a. f a >>= g) ≡ (o >>= f >>= g)
then_then None f g = refl
then_then (Some a) f g = refl

then_same : {A B : Type 0} (o : Option A) (f g : A → Option B) → ((a : A) → f a ≡ g a) → (o >>= f) ≡ (o >>= g)
then_same None f g same = refl
then_same (Some a) f g same = same a

flat_is : (ms : Members) → flat_said (told_of ms).segment (told_of ms).coding ≡ flat_form (object ms)
flat_is ms =
    ap (λ (o : Option ℕ). o >>= λ segment. coding_said (told_of ms).coding >>= λ coding. here (kinds.Flat segment coding)) (told_map (whole_form (2 ^ 32)) (get_member (codes "segment") ms))
    ∙ ap (λ (o : Option Coding). (get_member (codes "segment") ms >>= whole_form (2 ^ 32)) >>= λ segment. o >>= λ coding. here (kinds.Flat segment coding)) (coding_map (get_member (codes "coding") ms))

zones_is : (ms : Members) → zones_said (told_of ms).zone_len (told_of ms).stats ≡ zones_form (object ms)
zones_is ms =
    ap (λ (o : Option ℕ). o >>= λ len. told_value (told_of ms).stats >>= λ all. here (len, all)) (told_map (whole_form (2 ^ 64)) (get_member (codes "zone_len") ms))
    ∙ ap (λ (o : Option (List Statistic)). (get_member (codes "zone_len") ms >>= whole_form (2 ^ 64)) >>= λ len. o >>= λ all. here (len, all)) (list_map statistic_form (get_member (codes "stats") ms))

kind_is : (ms : Members) → (told_value (told_of ms).kind >>= λ name. kind_said name (flat_said (told_of ms).segment (told_of ms).coding) (zones_said (told_of ms).zone_len (told_of ms).stats)) ≡ kind_form (object ms)
kind_is ms =
    ap (λ (flat : Option LayoutKind). told_value (told_of ms).kind >>= λ name. kind_said name flat (zones_said (told_of ms).zone_len (told_of ms).stats)) (flat_is ms)
    ∙ ap (λ (zones : Option (ℕ × List Statistic)). told_value (told_of ms).kind >>= λ name. kind_said name (flat_form (object ms)) zones) (zones_is ms)
    ∙ ap (λ (o : Option (List ℕ)). o >>= λ name. kind_said name (flat_form (object ms)) (zones_form (object ms))) (told_map as_str (get_member (codes "kind") ms))

known_is : (ms : Members) → known (told_of ms) ≡ present_of node_names ms
known_is ms =
    let p_kind : there (told_of ms).kind ≡ present (codes "kind") ms = there_map as_str (get_member (codes "kind") ms) in
    let p_dtype : there (told_of ms).dtype ≡ present (codes "dtype") ms = there_map dtype_form (get_member (codes "dtype") ms) in
    let p_rows : there (told_of ms).rows ≡ present (codes "rows") ms = there_map (whole_form (2 ^ 64)) (get_member (codes "rows") ms) in
    let p_children : there (told_of ms).children ≡ present (codes "children") ms = there_map (list_of (whole_form (2 ^ 32))) (get_member (codes "children") ms) in
    let p_segment : there (told_of ms).segment ≡ present (codes "segment") ms = there_map (whole_form (2 ^ 32)) (get_member (codes "segment") ms) in
    let p_coding : there (told_of ms).coding ≡ present (codes "coding") ms = there_map coding_form (get_member (codes "coding") ms) in
    let p_zone_len : there (told_of ms).zone_len ≡ present (codes "zone_len") ms = there_map (whole_form (2 ^ 64)) (get_member (codes "zone_len") ms) in
    let p_stats : there (told_of ms).stats ≡ present (codes "stats") ms = there_map (list_of statistic_form) (get_member (codes "stats") ms) in
    omega (arith, p_kind, p_dtype, p_rows, p_children, p_segment, p_coding, p_zone_len, p_stats)

children_is : (kind : LayoutKind) (ms : Members) → children_said kind (told_of ms).children ≡ children_form kind (object ms)
children_is (kinds.Flat segment coding) ms = refl
children_is kinds.Chunked ms = list_map (whole_form (2 ^ 32)) (get_member (codes "children") ms)
children_is kinds.Struct ms = list_map (whole_form (2 ^ 32)) (get_member (codes "children") ms)
children_is kinds.Dict ms = list_map (whole_form (2 ^ 32)) (get_member (codes "children") ms)
children_is kinds.List ms = list_map (whole_form (2 ^ 32)) (get_member (codes "children") ms)
children_is (kinds.Zoned zone_len stats) ms = list_map (whole_form (2 ^ 32)) (get_member (codes "children") ms)
children_is (kinds.LegacyStats zone_len stats) ms = list_map (whole_form (2 ^ 32)) (get_member (codes "children") ms)

members_is : (kind : LayoutKind) (ms : Members) → members_said kind (there (told_of ms).coding) ≡ member_count kind (object ms)
members_is (kinds.Flat segment coding) ms = ap (λ (n : ℕ). 4 + n) (there_map coding_form (get_member (codes "coding") ms))
members_is kinds.Chunked ms = refl
members_is kinds.Struct ms = refl
members_is kinds.Dict ms = refl
members_is kinds.List ms = refl
members_is (kinds.Zoned zone_len stats) ms = refl
members_is (kinds.LegacyStats zone_len stats) ms = refl

-- what a node of a kind tells besides, where it has so many members
abbrev rest_by : LayoutKind → Members → Option Node
rest_by kind ms = get_member (codes "rows") ms >>= whole_form (2 ^ 64) >>= λ rows. children_form kind (object ms) >>= λ children. dtype_under (codes "dtype") (object ms) >>= λ dtype. here (let node : Node = record { kind = kind; dtype = dtype; rows = rows; children = children } in node)

rest_is : (kind : LayoutKind) (ms : Members) → rest_said kind (told_value (told_of ms).rows) (children_said kind (told_of ms).children) (told_value (told_of ms).dtype) ≡ rest_by kind ms
rest_is kind ms =
    ap (λ (rows : Option ℕ). rest_said kind rows (children_said kind (told_of ms).children) (told_value (told_of ms).dtype)) (told_map (whole_form (2 ^ 64)) (get_member (codes "rows") ms))
    ∙ ap (λ (children : Option (List ℕ)). rest_said kind (get_member (codes "rows") ms >>= whole_form (2 ^ 64)) children (told_value (told_of ms).dtype)) (children_is kind ms)
    ∙ ap (λ (dtype : Option DataType). rest_said kind (get_member (codes "rows") ms >>= whole_form (2 ^ 64)) (children_form kind (object ms)) dtype) (told_map dtype_form (get_member (codes "dtype") ms))

-- ---- a node has all members of its kind

abbrev own : LayoutKind → ℕ
own (kinds.Flat segment coding) = 0
own kinds.Chunked = 1
own kinds.Struct = 1
own kinds.Dict = 1
own kinds.List = 1
own (kinds.Zoned zone_len stats) = 1
own (kinds.LegacyStats zone_len stats) = 1

abbrev extra : LayoutKind → ℕ
extra (kinds.Flat segment coding) = 1
extra kinds.Chunked = 0
extra kinds.Struct = 0
extra kinds.Dict = 0
extra kinds.List = 0
extra (kinds.Zoned zone_len stats) = 2
extra (kinds.LegacyStats zone_len stats) = 2

abbrev found : Option Data → ℕ
found o = option_map_or (λ d. 1) o 0

wanted : (kind : LayoutKind) (ms : Members) → member_count kind (object ms) ≤ (1 + extra kind) + (2 + own kind) + found (get_member (codes "coding") ms)
wanted (kinds.Flat segment coding) ms = omega arith
wanted kinds.Chunked ms = omega arith
wanted kinds.Struct ms = omega arith
wanted kinds.Dict ms = omega arith
wanted kinds.List ms = omega arith
wanted (kinds.Zoned zone_len stats) ms = omega arith
wanted (kinds.LegacyStats zone_len stats) ms = omega arith

flat_has : (gs : Option Data) (coding : Option Coding) (kind : LayoutKind) → (gs >>= whole_form (2 ^ 32) >>= λ segment. coding >>= λ how. here (kinds.Flat segment how)) ≡ Some kind → extra kind ≤ found gs
flat_has None coding kind e = absurd cc
flat_has (Some d) coding kind e = by (whole_form (2 ^ 32) d) coding e
  where
    by : (s : Option ℕ) (c : Option Coding) → (s >>= λ segment. c >>= λ how. here (kinds.Flat segment how)) ≡ Some kind → extra kind ≤ 1
    by None c e = absurd cc
    by (Some s) None e = absurd cc
    by (Some s) (Some c) e = let same = ap extra (some_is (kinds.Flat s c) kind e) in omega (arith, same)

abbrev zones_by : Option Data → Option Data → Option (ℕ × List Statistic)
zones_by gz gt = gz >>= whole_form (2 ^ 64) >>= λ zone_len. gt >>= as_array >>= each_form statistic_form >>= λ stats. here (zone_len, stats)

zones_have : (gz gt : Option Data) (zones : ℕ × List Statistic) → zones_by gz gt ≡ Some zones → 2 ≤ found gz + found gt
zones_have None gt zones e = absurd cc
zones_have (Some d) None zones e = absurd (by (whole_form (2 ^ 64) d) e)
  where
    by : (z : Option ℕ) → (z >>= λ zone_len. None) ≡ here zones → ⊥
    by None e = cc
    by (Some z) e = cc
zones_have (Some d) (Some f) zones e = omega arith

zoned_has : (gz gt : Option Data) (kind : LayoutKind) → zoned_by (zones_by gz gt) ≡ Some kind → extra kind ≤ found gz + found gt
zoned_has gz gt kind e = by (zones_by gz gt) refl e
  where
    by : (zones : Option (ℕ × List Statistic)) → zones_by gz gt ≡ zones → zoned_by zones ≡ Some kind → extra kind ≤ found gz + found gt
    by None is e = absurd cc
    by (Some zones) is e = let same = ap extra (some_is (kinds.Zoned zones.0 zones.1) kind e) in omega (arith, same, zones_have gz gt zones is)

legacy_has : (gz gt : Option Data) (kind : LayoutKind) → legacy_by (zones_by gz gt) ≡ Some kind → extra kind ≤ found gz + found gt
legacy_has gz gt kind e = by (zones_by gz gt) refl e
  where
    by : (zones : Option (ℕ × List Statistic)) → zones_by gz gt ≡ zones → legacy_by zones ≡ Some kind → extra kind ≤ found gz + found gt
    by None is e = absurd cc
    by (Some zones) is e = let same = ap extra (some_is (kinds.LegacyStats zones.0 zones.1) kind e) in omega (arith, same, zones_have gz gt zones is)

plain_has : (a b c d : Bool) (kind : LayoutKind) → cond a (here kinds.Chunked) (cond b (here kinds.Struct) (cond c (here kinds.Dict) (cond d (here kinds.List) None))) ≡ Some kind → extra kind ≤ 0
plain_has true b c d kind e = let same = ap extra (some_is kinds.Chunked kind e) in omega (arith, same)
plain_has false true c d kind e = let same = ap extra (some_is kinds.Struct kind e) in omega (arith, same)
plain_has false false true d kind e = let same = ap extra (some_is kinds.Dict kind e) in omega (arith, same)
plain_has false false false true kind e = let same = ap extra (some_is kinds.List kind e) in omega (arith, same)
plain_has false false false false kind e = absurd cc

named_has : (name : List ℕ) (gs gz gt : Option Data) (coding : Option Coding) (a b c : Bool) (kind : LayoutKind)
    → cond a (gs >>= whole_form (2 ^ 32) >>= λ segment. coding >>= λ how. here (kinds.Flat segment how)) (cond b (zoned_by (zones_by gz gt)) (cond c (legacy_by (zones_by gz gt)) (lookup (bytes_eq name) plain_kinds))) ≡ Some kind
    → extra kind ≤ found gs + found gz + found gt
named_has name gs gz gt coding true b c kind e = let has = flat_has gs coding kind e in omega (arith, has)
named_has name gs gz gt coding false true c kind e = let has = zoned_has gz gt kind e in omega (arith, has)
named_has name gs gz gt coding false false true kind e = let has = legacy_has gz gt kind e in omega (arith, has)
named_has name gs gz gt coding false false false kind e =
    let has = plain_has (bytes_eq name (codes "chunked")) (bytes_eq name (codes "struct")) (bytes_eq name (codes "dict")) (bytes_eq name (codes "list")) kind e in omega (arith, has)

abbrev kind_from : Option Data → Option Data → Option Data → Option Coding → Option (List ℕ) → Option LayoutKind
kind_from gs gz gt coding o =
    o >>= λ name.
    cond (bytes_eq name (codes "flat")) (gs >>= whole_form (2 ^ 32) >>= λ segment. coding >>= λ how. here (kinds.Flat segment how))
    (cond (bytes_eq name (codes "zoned")) (zoned_by (zones_by gz gt)) (cond (bytes_eq name (codes "legacy_stats")) (legacy_by (zones_by gz gt)) (lookup (bytes_eq name) plain_kinds)))

abbrev kind_by : Option Data → Option Data → Option Data → Option Data → Option Coding → Option LayoutKind
kind_by gk gs gz gt coding = kind_from gs gz gt coding (gk >>= as_str)

kind_has : (gk gs gz gt : Option Data) (coding : Option Coding) (kind : LayoutKind) → kind_by gk gs gz gt coding ≡ Some kind → 1 + extra kind ≤ found gk + found gs + found gz + found gt
kind_has None gs gz gt coding kind e = absurd cc
kind_has (Some k) gs gz gt coding kind e = by (as_str k) e
  where
    by : (name : Option (List ℕ)) → kind_from gs gz gt coding name ≡ Some kind → 1 + extra kind ≤ 1 + found gs + found gz + found gt
    by None e = absurd cc
    by (Some name) e = let has = named_has name gs gz gt coding (bytes_eq name (codes "flat")) (bytes_eq name (codes "zoned")) (bytes_eq name (codes "legacy_stats")) kind e in omega (arith, has)

never_some : {A : Type 0} (o : Option A) (node : Node) → (o >>= λ a. None) ≡ here node → ⊥
never_some None node e = cc
never_some (Some a) node e = cc

rest_has : {A B C : Type 0} (gr gd : Option Data) (rows : Data → Option A) (children : Option B) (dtype : Data → Option C) (make : A → B → C → Node) (node : Node)
    → (gr >>= rows >>= λ r. children >>= λ cs. gd >>= dtype >>= λ t. here (make r cs t)) ≡ Some node → (1 ≤ found gr) × (1 ≤ found gd) × ((cs : B) × (children ≡ Some cs))
rest_has None gd rows children dtype make node e = absurd cc
rest_has (Some d) gd rows None dtype make node e = absurd (never_some (rows d) node e)
rest_has (Some d) None rows (Some cs) dtype make node e = absurd (never_some (rows d) node e)
rest_has (Some d) (Some f) rows (Some cs) dtype make node e = (omega arith, omega arith, (cs, refl))

list_has : {X : Type 0} (form : Data → Option X) (o : Option Data) (xs : List X) → (o >>= as_array >>= each_form form) ≡ Some xs → 1 ≤ found o
list_has form None xs e = absurd cc
list_has form (Some d) xs e = omega arith

children_have : (kind : LayoutKind) (ms : Members) (cs : List ℕ) → children_form kind (object ms) ≡ Some cs → own kind ≤ found (get_member (codes "children") ms)
children_have (kinds.Flat segment coding) ms cs e = omega arith
children_have kinds.Chunked ms cs e = list_has (whole_form (2 ^ 32)) (get_member (codes "children") ms) cs e
children_have kinds.Struct ms cs e = list_has (whole_form (2 ^ 32)) (get_member (codes "children") ms) cs e
children_have kinds.Dict ms cs e = list_has (whole_form (2 ^ 32)) (get_member (codes "children") ms) cs e
children_have kinds.List ms cs e = list_has (whole_form (2 ^ 32)) (get_member (codes "children") ms) cs e
children_have (kinds.Zoned zone_len stats) ms cs e = list_has (whole_form (2 ^ 32)) (get_member (codes "children") ms) cs e
children_have (kinds.LegacyStats zone_len stats) ms cs e = list_has (whole_form (2 ^ 32)) (get_member (codes "children") ms) cs e

enough : (kind : LayoutKind) (ms : Members) (node : Node) → kind_form (object ms) ≡ Some kind → rest_by kind ms ≡ Some node → member_count kind (object ms) ≤ present_of node_names ms
enough kind ms node is rest =
    let g = λ (name : List ℕ). get_member name ms in
    let has_kind = kind_has (g (codes "kind")) (g (codes "segment")) (g (codes "zone_len")) (g (codes "stats")) (optional_form Plain coding_form (g (codes "coding"))) kind is in
    let has_rest = rest_has (g (codes "rows")) (g (codes "dtype")) (whole_form (2 ^ 64)) (children_form kind (object ms)) dtype_form (λ rows children dtype. record { kind = kind; dtype = dtype; rows = rows; children = children }) node rest in
    let has_children = children_have kind ms has_rest.2.0 has_rest.2.1 in
    omega (arith, wanted kind ms, has_kind, has_rest.0, has_rest.1, has_children)

-- ---- the node

abbrev body : Members → LayoutKind → Option Node
body ms kind = cond (eqb (known (told_of ms)) (members_said kind (there (told_of ms).coding))) (rest_said kind (told_value (told_of ms).rows) (children_said kind (told_of ms).children) (told_value (told_of ms).dtype)) None

pub node_is : (ms : Members) → AreRising ms → node_said (told_of ms) ≡ node_form (object ms)
unfolding node_form node_of_kind
node_is ms rising = tested (has_other node_names ms) refl
  where
    all : members_len ms ≡ present_of node_names ms + other_count node_names ms
    all = counted node_names ms refl rising

    without : has_other node_names ms ≡ false → (kind : LayoutKind) → body ms kind ≡ node_of_kind kind (object ms)
    without none kind =
        let len : known (told_of ms) ≡ members_len ms = omega (arith, known_is ms, all, no_others node_names ms none) in
        let rest = rest_said kind (told_value (told_of ms).rows) (children_said kind (told_of ms).children) (told_value (told_of ms).dtype) in
        ap (λ (n : ℕ). cond (eqb n (members_said kind (there (told_of ms).coding))) rest None) len
        ∙ ap (λ (n : ℕ). cond (eqb (members_len ms) n) rest None) (members_is kind ms)
        ∙ ap (λ (o : Option Node). cond (eqb (members_len ms) (member_count kind (object ms))) o None) (rest_is kind ms)

    with_others : has_other node_names ms ≡ true → (kind : LayoutKind) → kind_form (object ms) ≡ Some kind → None ≡ node_of_kind kind (object ms)
    with_others some kind is = counts (eqb (members_len ms) (member_count kind (object ms))) refl
      where
        counts : (b : Bool) → eqb (members_len ms) (member_count kind (object ms)) ≡ b → None ≡ cond b (rest_by kind ms) None
        counts false test = refl
        counts true test = rests (rest_by kind ms) refl
          where
            rests : (o : Option Node) → rest_by kind ms ≡ o → None ≡ rest_by kind ms
            rests None e = sym e
            rests (Some node) e = absurd (omega (arith, all, eqb-true (members_len ms) (member_count kind (object ms)) test, some_others node_names ms some, enough kind ms node is e))

    by_kind : has_other node_names ms ≡ true → (o : Option LayoutKind) → kind_form (object ms) ≡ o → None ≡ (o >>= λ kind. node_of_kind kind (object ms))
    by_kind some None is = refl
    by_kind some (Some kind) is = with_others some kind is

    tested : (b : Bool) → has_other node_names ms ≡ b → cond b None (told_value (told_of ms).kind >>= λ name. kind_said name (flat_said (told_of ms).segment (told_of ms).coding) (zones_said (told_of ms).zone_len (told_of ms).stats) >>= body ms) ≡ (kind_form (object ms) >>= λ kind. node_of_kind kind (object ms))
    tested true some = by_kind some (kind_form (object ms)) refl
    tested false none =
        then_then (told_value (told_of ms).kind) (λ name. kind_said name (flat_said (told_of ms).segment (told_of ms).coding) (zones_said (told_of ms).zone_len (told_of ms).stats)) (body ms)
        ∙ ap (λ (o : Option LayoutKind). o >>= body ms) (kind_is ms)
        ∙ then_same (kind_form (object ms)) (body ms) (λ kind. node_of_kind kind (object ms)) (without none)

-- a value that is no object
pub no_node : (d : Data) → as_object d ≡ None → node_form d ≡ None
unfolding node_form
no_node null none = refl
no_node (boolean b) none = refl
no_node (number n) none = refl
no_node (string s) none = refl
no_node (array ds) none = refl
no_node (object ms) none = absurd cc
