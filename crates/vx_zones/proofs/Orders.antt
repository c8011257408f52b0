-- How values are ordered, where they are of one sort, and what comparisons say of the order.
use Rattle.std.proofs.Common.{◌≡◌, Bool, true, false, ◌⊎◌, inl, inr, Option, Some, None, option_map, refl, sym, ap, ◌∙◌}
use Rattle.std.specs.Cmp.{IsTotalOrder}
use Rattle.std.specs.Cmp.Lexicographic.{slice_cmp}
use Rattle.std.specs.Ordering.{nat_cmp, int_cmp, bool_cmp, is_gt, ordering_reverse}
use Rattle.std.specs.declared.cmp.Ordering.{Ordering}
use Rattle.std.specs.declared.cmp.Ordering.TheVariants.{Less, Equal, Greater}
use Rattle.std.proofs.lemmas.Cmp.{upto, int_cmp_total, nat_list_cmp_total}
use Rattle.std.specs.Cmp.{bool_cmp_total}
use Rattle.vx_base.specs.Data.{Datum, null, truth, number, text, structure}
use Rattle.vx_operators.specs.declared.operators.CompareOp.{CompareOp}
use Rattle.vx_operators.specs.declared.operators.CompareOp.TheVariants.{Eq, Ne, Lt, Le, Gt, Ge}
use Rattle.vx_operators.specs.Operators.{comparison_of, holds, is_null}
use Rattle.vx_zones.specs.Covers.{may_be}
use Rattle.vx_zones.specs.Prunes.{tells, mirrored}

-- ---- the order of two values of one sort

abbrev pub order_of : Datum → Datum → Option Ordering
order_of (truth a) (truth b) = Some (bool_cmp a b)
order_of (number x) (number y) = Some (int_cmp x y)
order_of (text a) (text b) = Some (slice_cmp nat_cmp a b)
order_of v w = None

abbrev pub holds_in : CompareOp → Option Ordering → Bool
holds_in op None = false
holds_in op (Some o) = holds op o

-- of one sort, and not greater; and greater
abbrev pub no_greater : Option Ordering → Bool
no_greater None = false
no_greater (Some Less) = true
no_greater (Some Equal) = true
no_greater (Some Greater) = false

abbrev pub greater : Option Ordering → Bool
greater None = false
greater (Some Less) = false
greater (Some Equal) = false
greater (Some Greater) = true

pub yes_by_order : (op : CompareOp) (v w : Datum) → tells op v w ≡ holds_in op (order_of v w)
yes_by_order op null w = refl
yes_by_order op (truth a) null = refl
yes_by_order op (truth a) (truth b) = refl
yes_by_order op (truth a) (number y) = refl
yes_by_order op (truth a) (text b) = refl
yes_by_order op (truth a) (structure b) = refl
yes_by_order op (number x) null = refl
yes_by_order op (number x) (truth b) = refl
yes_by_order op (number x) (number y) = refl
yes_by_order op (number x) (text b) = refl
yes_by_order op (number x) (structure b) = refl
yes_by_order op (text a) null = refl
yes_by_order op (text a) (truth b) = refl
yes_by_order op (text a) (number y) = refl
yes_by_order op (text a) (text b) = refl
yes_by_order op (text a) (structure b) = refl
yes_by_order op (structure a) null = refl
yes_by_order op (structure a) (truth b) = refl
yes_by_order op (structure a) (number y) = refl
yes_by_order op (structure a) (text b) = refl
yes_by_order op (structure a) (structure b) = refl

-- from the other side
pub turned : (v w : Datum) → order_of w v ≡ option_map ordering_reverse (order_of v w)
turned null null = refl
turned null (truth b) = refl
turned null (number y) = refl
turned null (text b) = refl
turned null (structure b) = refl
turned (truth a) null = refl
turned (truth a) (truth b) = ap (λ (o : Ordering). Some o) (bool_cmp_total.antisymm b a)
turned (truth a) (number y) = refl
turned (truth a) (text b) = refl
turned (truth a) (structure b) = refl
turned (number x) null = refl
turned (number x) (truth b) = refl
turned (number x) (number y) = ap (λ (o : Ordering). Some o) (int_cmp_total.antisymm y x)
turned (number x) (text b) = refl
turned (number x) (structure b) = refl
turned (text a) null = refl
turned (text a) (truth b) = refl
turned (text a) (number y) = refl
turned (text a) (text b) = ap (λ (o : Ordering). Some o) (nat_list_cmp_total.antisymm b a)
turned (text a) (structure b) = refl
turned (structure a) null = refl
turned (structure a) (truth b) = refl
turned (structure a) (number y) = refl
turned (structure a) (text b) = refl
turned (structure a) (structure b) = refl

-- ---- two steps up are no step down

not_gt : (o : Ordering) → no_greater (Some o) ≡ true → is_gt o ≡ false
not_gt Less h = refl
not_gt Equal h = refl
not_gt Greater h = absurd cc

is_gt_too : (o : Ordering) → greater (Some o) ≡ true → is_gt o ≡ true
is_gt_too Less h = absurd cc
is_gt_too Equal h = absurd cc
is_gt_too Greater h = refl

chain_by : {K : Type 0} {R : K → K → Ordering} → IsTotalOrder R → (x y z : K) → no_greater (Some (R x y)) ≡ true → no_greater (Some (R y z)) ≡ true → greater (Some (R x z)) ≡ true → ⊥
chain_by {K} {R} o x y z p q r =
    let down : is_gt (R x z) ≡ false = upto o x y z (not_gt (R x y) p) (not_gt (R y z) q) in
    let up : is_gt (R x z) ≡ true = is_gt_too (R x z) r in
    cc

pub chain : (x y z : Datum) → no_greater (order_of x y) ≡ true → no_greater (order_of y z) ≡ true → greater (order_of x z) ≡ true → ⊥
chain null y z p q r = cc
chain (structure a) y z p q r = cc
chain (truth a) (truth b) (truth c) p q r = chain_by bool_cmp_total a b c p q r
chain (number a) (number b) (number c) p q r = chain_by int_cmp_total a b c p q r
chain (text a) (text b) (text c) p q r = chain_by nat_list_cmp_total a b c p q r
chain x y z p q r = cc

-- ---- what comparisons say

le_in : (o : Option Ordering) → holds_in Le o ≡ true → no_greater o ≡ true
le_in None h = cc
le_in (Some Less) h = refl
le_in (Some Equal) h = refl
le_in (Some Greater) h = cc

ge_in : (o : Option Ordering) → holds_in Ge o ≡ true → no_greater (option_map ordering_reverse o) ≡ true
ge_in None h = cc
ge_in (Some Less) h = cc
ge_in (Some Equal) h = refl
ge_in (Some Greater) h = refl

lt_in : (o : Option Ordering) → holds_in Lt o ≡ true → greater (option_map ordering_reverse o) ≡ true
lt_in None h = cc
lt_in (Some Less) h = refl
lt_in (Some Equal) h = cc
lt_in (Some Greater) h = cc

gt_in : (o : Option Ordering) → holds_in Gt o ≡ true → greater o ≡ true
gt_in None h = cc
gt_in (Some Less) h = cc
gt_in (Some Equal) h = cc
gt_in (Some Greater) h = refl

eq_in : (o : Option Ordering) → holds_in Eq o ≡ true → (no_greater o ≡ true) × (no_greater (option_map ordering_reverse o) ≡ true)
eq_in None h = cc
eq_in (Some Less) h = cc
eq_in (Some Equal) h = (refl, refl)
eq_in (Some Greater) h = cc

ne_in : (o : Option Ordering) → holds_in Ne o ≡ true → (greater o ≡ true) ⊎ (greater (option_map ordering_reverse o) ≡ true)
ne_in None h = cc
ne_in (Some Less) h = inr refl
ne_in (Some Equal) h = cc
ne_in (Some Greater) h = inl refl

abbrev pub AtMost : Datum → Datum → Type 0
AtMost v w = no_greater (order_of v w) ≡ true

abbrev pub Above : Datum → Datum → Type 0
Above v w = greater (order_of v w) ≡ true

by_order : (op : CompareOp) (v w : Datum) → tells op v w ≡ true → holds_in op (order_of v w) ≡ true
by_order op v w says = sym (yes_by_order op v w) ∙ says

pub le_says : (v w : Datum) → tells Le v w ≡ true → AtMost v w
le_says v w says = le_in (order_of v w) (by_order Le v w says)

pub ge_says : (v w : Datum) → tells Ge v w ≡ true → AtMost w v
ge_says v w says = ap no_greater (turned v w) ∙ ge_in (order_of v w) (by_order Ge v w says)

pub lt_says : (v w : Datum) → tells Lt v w ≡ true → Above w v
lt_says v w says = ap greater (turned v w) ∙ lt_in (order_of v w) (by_order Lt v w says)

pub gt_says : (v w : Datum) → tells Gt v w ≡ true → Above v w
gt_says v w says = gt_in (order_of v w) (by_order Gt v w says)

pub eq_says : (v w : Datum) → tells Eq v w ≡ true → AtMost v w × AtMost w v
eq_says v w says = let both = eq_in (order_of v w) (by_order Eq v w says) in (both.0, ap no_greater (turned v w) ∙ both.1)

pub ne_says : (v w : Datum) → tells Ne v w ≡ true → (Above v w) ⊎ (Above w v)
ne_says v w says = either (ne_in (order_of v w) (by_order Ne v w says))
  where
    either : (greater (order_of v w) ≡ true) ⊎ (greater (option_map ordering_reverse (order_of v w)) ≡ true) → (Above v w) ⊎ (Above w v)
    either (inl h) = inl h
    either (inr h) = inr (ap greater (turned v w) ∙ h)

-- the same comparison from the other side
mirrored_in : (op : CompareOp) (o : Option Ordering) → holds_in op o ≡ holds_in (mirrored op) (option_map ordering_reverse o)
mirrored_in op None = refl
mirrored_in Eq (Some Less) = refl
mirrored_in Eq (Some Equal) = refl
mirrored_in Eq (Some Greater) = refl
mirrored_in Ne (Some Less) = refl
mirrored_in Ne (Some Equal) = refl
mirrored_in Ne (Some Greater) = refl
mirrored_in Lt (Some Less) = refl
mirrored_in Lt (Some Equal) = refl
mirrored_in Lt (Some Greater) = refl
mirrored_in Le (Some Less) = refl
mirrored_in Le (Some Equal) = refl
mirrored_in Le (Some Greater) = refl
mirrored_in Gt (Some Less) = refl
mirrored_in Gt (Some Equal) = refl
mirrored_in Gt (Some Greater) = refl
mirrored_in Ge (Some Less) = refl
mirrored_in Ge (Some Equal) = refl
mirrored_in Ge (Some Greater) = refl

pub from_left : (op : CompareOp) (c v : Datum) → tells op c v ≡ true → tells (mirrored op) v c ≡ true
from_left op c v says = yes_by_order (mirrored op) v c ∙ ap (holds_in (mirrored op)) (turned c v) ∙ sym (mirrored_in op (order_of c v)) ∙ by_order op c v says

-- ---- nulls

pub null_tells_nothing : (op : CompareOp) (v w : Datum) → is_null v ≡ true → tells op v w ≡ true → ⊥
null_tells_nothing op null w is says = cc
null_tells_nothing op (truth b) w is says = cc
null_tells_nothing op (number z) w is says = cc
null_tells_nothing op (text b) w is says = cc
null_tells_nothing op (structure b) w is says = cc

-- what may be so is so, where neither is null
pub may_tell : (op : CompareOp) (v w : Datum) → is_null v ≡ false → is_null w ≡ false → may_be (comparison_of op v w) ≡ true → tells op v w ≡ true
may_tell op null w p q h = cc
may_tell op (truth a) null p q h = cc
may_tell op (truth a) (truth b) p q h = h
may_tell op (truth a) (number y) p q h = cc
may_tell op (truth a) (text b) p q h = cc
may_tell op (truth a) (structure b) p q h = cc
may_tell op (number x) null p q h = cc
may_tell op (number x) (truth b) p q h = cc
may_tell op (number x) (number y) p q h = h
may_tell op (number x) (text b) p q h = cc
may_tell op (number x) (structure b) p q h = cc
may_tell op (text a) null p q h = cc
may_tell op (text a) (truth b) p q h = cc
may_tell op (text a) (number y) p q h = cc
may_tell op (text a) (text b) p q h = h
may_tell op (text a) (structure b) p q h = cc
may_tell op (structure a) null p q h = cc
may_tell op (structure a) (truth b) p q h = cc
may_tell op (structure a) (number y) p q h = cc
may_tell op (structure a) (text b) p q h = cc
may_tell op (structure a) (structure b) p q h = cc

-- what tells or is told of is not null
pub teller_known : (op : CompareOp) (v w : Datum) → tells op v w ≡ true → is_null v ≡ false
teller_known op null w says = cc
teller_known op (truth b) w says = refl
teller_known op (number z) w says = refl
teller_known op (text b) w says = refl
teller_known op (structure b) w says = refl
