-- A test of the values of both sides at each row, whatever they are: what the meaning says of a comparison.
use Rattle.std.proofs.Common.{◌≡◌, Bool, true, false, not, ◌&&◌, List, [], ◌∷◌, length, map, Option, Some, refl, sym, ap, ◌∙◌}
use Rattle.vx_types.specs.Data.{Datum, truth}
use Rattle.vx_types.specs.Slots.{where_valid}
use Rattle.vx_masks.specs.Masks.{both, either, without}
use Rattle.vx_masks.specs.Rows.{NullsHold}
use Rattle.vx_operators.specs.declared.operators.CompareOp.TheVariants.{Eq, Ne, Lt, Le, Gt, Ge}
use Rattle.vx_operators.specs.Rows.{along, front}
use Rattle.vx_operators.specs.Kernels.{LiftsTwo, of_two, compares_truth}
use Rattle.vx_operators.proofs.LiftedRows.{lifted_two}
use Rattle.vx_operators.proofs.Somes.{front_somes}

masked : {X Y : Type 0} (f : X → Y → Bool) (mask : List Bool) (xs : List X) (ys : List Y) → map Some (both mask (along f xs ys)) ≡ of_two (λ x y. Some (f x y)) false mask xs ys
masked f [] xs ys = refl
masked f (bit ∷ mask) [] ys = refl
masked f (bit ∷ mask) (x ∷ xs) [] = refl
masked f (true ∷ mask) (x ∷ xs) (y ∷ ys) = ap (λ (rows : List (Option Bool)). Some (f x y) ∷ rows) (masked f mask xs ys)
masked f (false ∷ mask) (x ∷ xs) (y ∷ ys) = ap (λ (rows : List (Option Bool)). Some false ∷ rows) (masked f mask xs ys)

-- a row that is not valid holds false
pub masked_held : (mask bits : List Bool) → NullsHold false mask (both mask bits)
masked_held [] bits = tt
masked_held (true ∷ mask) [] = tt
masked_held (false ∷ mask) [] = tt
masked_held (true ∷ mask) (bit ∷ bits) = masked_held mask bits
masked_held (false ∷ mask) (bit ∷ bits) = (refl, masked_held mask bits)

pub tested_sides : {X Y : Type 0} (seen : X → Datum) (other : Y → Datum) (f : X → Y → Bool) (step : Datum → Datum → Option Datum) → LiftsTwo seen other truth (λ x y. Some (f x y)) step
    → (lv rv truths : List Bool) (ls : List X) (rs : List Y) → truths ≡ along f ls rs → length lv ≡ length ls → length rv ≡ length rs
    → where_valid (both lv rv) (map truth (both (both lv rv) truths)) ≡ front (along step (where_valid lv (map seen ls)) (where_valid rv (map other rs)))
tested_sides seen other f step lifts lv rv truths ls rs e c d =
    let same : both (both lv rv) truths ≡ front (of_two (λ x y. Some (f x y)) false (both lv rv) ls rs) = sym (front_somes (both (both lv rv) truths)) ∙ ap front (ap (λ (bits : List Bool). map Some (both (both lv rv) bits)) e ∙ masked f (both lv rv) ls rs) in
    ap (λ (ts : List Bool). where_valid (both lv rv) (map truth ts)) same ∙ sym (lifted_two seen other truth (λ x y. Some (f x y)) step false lifts lv rv ls rs c d)

-- the array that is made
pub tested_array : {X Y : Type 0} (seen : X → Datum) (other : Y → Datum) (f : X → Y → Bool) (step : Datum → Datum → Option Datum) → LiftsTwo seen other truth (λ x y. Some (f x y)) step
    → (lv rv validity truths values : List Bool) (ls : List X) (rs : List Y) → validity ≡ both lv rv → truths ≡ along f ls rs → values ≡ both validity truths → length lv ≡ length ls → length rv ≡ length rs
    → where_valid validity (map truth values) ≡ front (along step (where_valid lv (map seen ls)) (where_valid rv (map other rs)))
tested_array seen other f step lifts lv rv validity truths values ls rs valid made held c d =
    ap (λ (bits : List Bool). where_valid validity (map truth bits)) held ∙ ap (λ (mask : List Bool). where_valid mask (map truth (both mask truths))) valid ∙ tested_sides seen other f step lifts lv rv truths ls rs made c d

-- ---- truth values by whole masks
pub less_bits : (a b : List Bool) → without b a ≡ along (compares_truth Lt) a b
less_bits [] [] = refl
less_bits [] (y ∷ b) = refl
less_bits (x ∷ a) [] = refl
less_bits (false ∷ a) (false ∷ b) = ap (λ (bits : List Bool). false ∷ bits) (less_bits a b)
less_bits (false ∷ a) (true ∷ b) = ap (λ (bits : List Bool). true ∷ bits) (less_bits a b)
less_bits (true ∷ a) (false ∷ b) = ap (λ (bits : List Bool). false ∷ bits) (less_bits a b)
less_bits (true ∷ a) (true ∷ b) = ap (λ (bits : List Bool). false ∷ bits) (less_bits a b)

pub greater_bits : (a b : List Bool) → without a b ≡ along (compares_truth Gt) a b
greater_bits [] [] = refl
greater_bits [] (y ∷ b) = refl
greater_bits (x ∷ a) [] = refl
greater_bits (false ∷ a) (false ∷ b) = ap (λ (bits : List Bool). false ∷ bits) (greater_bits a b)
greater_bits (false ∷ a) (true ∷ b) = ap (λ (bits : List Bool). false ∷ bits) (greater_bits a b)
greater_bits (true ∷ a) (false ∷ b) = ap (λ (bits : List Bool). true ∷ bits) (greater_bits a b)
greater_bits (true ∷ a) (true ∷ b) = ap (λ (bits : List Bool). false ∷ bits) (greater_bits a b)

pub other_bits : (a b : List Bool) → either (without b a) (without a b) ≡ along (compares_truth Ne) a b
other_bits [] [] = refl
other_bits [] (y ∷ b) = refl
other_bits (x ∷ a) [] = refl
other_bits (false ∷ a) (false ∷ b) = ap (λ (bits : List Bool). false ∷ bits) (other_bits a b)
other_bits (false ∷ a) (true ∷ b) = ap (λ (bits : List Bool). true ∷ bits) (other_bits a b)
other_bits (true ∷ a) (false ∷ b) = ap (λ (bits : List Bool). true ∷ bits) (other_bits a b)
other_bits (true ∷ a) (true ∷ b) = ap (λ (bits : List Bool). false ∷ bits) (other_bits a b)

opposite_bits : (f g : Bool → Bool → Bool) → ((x y : Bool) → not (f x y) ≡ g x y) → (known a b : List Bool) → without known (along f a b) ≡ both known (along g a b)
opposite_bits f g e [] a b = refl
opposite_bits f g e (k ∷ known) [] b = refl
opposite_bits f g e (k ∷ known) (x ∷ a) [] = refl
opposite_bits f g e (k ∷ known) (x ∷ a) (y ∷ b) = λ i. (k && e x y i) ∷ opposite_bits f g e known a b i

alike : (x y : Bool) → not (compares_truth Ne x y) ≡ compares_truth Eq x y
alike false false = refl
alike false true = refl
alike true false = refl
alike true true = refl

pub alike_bits : (known a b : List Bool) → without known (along (compares_truth Ne) a b) ≡ both known (along (compares_truth Eq) a b)
alike_bits = opposite_bits (compares_truth Ne) (compares_truth Eq) alike

no_greater : (x y : Bool) → not (compares_truth Gt x y) ≡ compares_truth Le x y
no_greater false false = refl
no_greater false true = refl
no_greater true false = refl
no_greater true true = refl

pub no_greater_bits : (known a b : List Bool) → without known (along (compares_truth Gt) a b) ≡ both known (along (compares_truth Le) a b)
no_greater_bits = opposite_bits (compares_truth Gt) (compares_truth Le) no_greater

no_less : (x y : Bool) → not (compares_truth Lt x y) ≡ compares_truth Ge x y
no_less false false = refl
no_less false true = refl
no_less true false = refl
no_less true true = refl

pub no_less_bits : (known a b : List Bool) → without known (along (compares_truth Lt) a b) ≡ both known (along (compares_truth Ge) a b)
no_less_bits = opposite_bits (compares_truth Lt) (compares_truth Ge) no_less
