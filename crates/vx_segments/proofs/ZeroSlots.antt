-- Slots of rows that have no number, gone through one by one: they are 0.
use Rattle.std.proofs.Common.{◌≡◌, ℕ, zero, suc, ◌+◌, ◌-◌, ◌*◌, ◌<◌, ◌≤◌, ℤ, pos, Bool, true, false, List, [], ◌∷◌, ◌++◌, length, take, drop, replicate, get_or, Some, refl, sym, ap, subst, ◌∙◌, arith, add-one}
use Rattle.std.specs.Prelude.{slice_get}
use Rattle.std.proofs.lemmas.Int.{ints}
use Rattle.std.proofs.lemmas.List.{length-append, drop_more, drop_all}
use Rattle.vx_masks.specs.Rows.{Holds, NullsHold}
use Rattle.vx_types.specs.declared.dtypes.IntKind.{IntKind}
use Rattle.vx_types.specs.declared.dtypes.IntKind.TheVariants.{U8, U16, U32, U64, I8, I16, I32, I64}
use Rattle.vx_types.specs.Fits.{IsInside}
use Rattle.vx_types.specs.Slots.{number_bytes}
use Rattle.vx_arrays.proofs.HeldRows.{bit_is}
use Rattle.vx_segments.specs.Reading.{number_of, numbers_read}
use Rattle.vx_segments.proofs.Decoded.{AreBytes, front_bytes, back_bytes}
use Rattle.vx_segments.proofs.KindNumbers.{size_of, number_again, read_step}
use Rattle.vx_segments.proofs.NumberRows.{word_again, more_slots}

-- ---- zeros
abbrev pub zeros : ℕ → List ℕ
zeros n = replicate n 0

pub zeros_more : (bytes : List ℕ) (i : ℕ) → i < length bytes → get_or bytes i 0 ≡ 0 → take i bytes ≡ zeros i → take (i + 1) bytes ≡ zeros (i + 1)
zeros_more bytes i lt here h = rw add-one (one_more bytes i lt here h)
  where
    one_more : (xs : List ℕ) (k : ℕ) → k < length xs → get_or xs k 0 ≡ 0 → take k xs ≡ zeros k → take (suc k) xs ≡ zeros (suc k)
    one_more [] k lt e h = absurd (omega arith)
    one_more (x ∷ xs) zero lt e h = ap (λ (b : ℕ). b ∷ []) e
    one_more (x ∷ xs) (suc k) lt e h =
        let first : x ≡ 0 = ap (λ (ys : List ℕ). get_or ys 0 0) h in
        let later : take k xs ≡ zeros k = ap (drop 1) h in
        λ i. first i ∷ one_more xs k (omega arith) e later i

pub zeros_all : (bytes : List ℕ) (i : ℕ) → length bytes ≤ i → i ≤ length bytes → take i bytes ≡ zeros i → bytes ≡ zeros (length bytes)
zeros_all bytes i past inside h =
    let same : i ≡ length bytes = omega (arith, past, inside) in
    sym (whole bytes) ∙ sym (ap (λ (k : ℕ). take k bytes) same) ∙ h ∙ ap zeros same
  where
    whole : (xs : List ℕ) → take (length xs) xs ≡ xs
    whole [] = refl
    whole (x ∷ xs) = ap (λ (ys : List ℕ). x ∷ ys) (whole xs)

pub no_zero : (bytes : List ℕ) (i : ℕ) → i < length bytes → ¬ (get_or bytes i 0 ≡ 0) → ¬ (bytes ≡ zeros (length bytes))
no_zero bytes i lt other all = other (ap (λ (xs : List ℕ). get_or xs i 0) all ∙ zero_at (length bytes) i)
  where
    zero_at : (n k : ℕ) → get_or (zeros n) k 0 ≡ 0
    zero_at zero k = refl
    zero_at (suc n) zero = refl
    zero_at (suc n) (suc k) = zero_at n k

-- ---- the slot of 0
zero_bytes : (kind : IntKind) → number_bytes kind (pos 0) ≡ zeros (size_of kind)
zero_bytes U8 = refl
zero_bytes U16 = refl
zero_bytes U32 = refl
zero_bytes U64 = refl
zero_bytes I8 = refl
zero_bytes I16 = refl
zero_bytes I32 = refl
zero_bytes I64 = refl

zero_inside : (kind : IntKind) → IsInside kind (pos 0)
zero_inside U8 = (omega (arith, ints), omega (arith, ints))
zero_inside U16 = (omega (arith, ints), omega (arith, ints))
zero_inside U32 = (omega (arith, ints), omega (arith, ints))
zero_inside U64 = (omega (arith, ints), omega (arith, ints))
zero_inside I8 = (omega (arith, ints), omega (arith, ints))
zero_inside I16 = (omega (arith, ints), omega (arith, ints))
zero_inside I32 = (omega (arith, ints), omega (arith, ints))
zero_inside I64 = (omega (arith, ints), omega (arith, ints))

slot_zero : (kind : IntKind) (slot : List ℕ) → length slot ≡ size_of kind → slot ≡ zeros (length slot) → number_of kind slot ≡ pos 0
slot_zero kind slot len e = ap (number_of kind) (e ∙ ap zeros len ∙ sym (zero_bytes kind)) ∙ number_again kind (pos 0) (zero_inside kind)

zero_slot : (kind : IntKind) (slot : List ℕ) → length slot ≡ size_of kind → AreBytes slot → number_of kind slot ≡ pos 0 → slot ≡ zeros (length slot)
zero_slot kind slot len small e = sym (word_again kind slot len small) ∙ ap (number_bytes kind) e ∙ zero_bytes kind ∙ ap zeros (sym len)

slot_held : (kind : IntKind) (slot : List ℕ) (valid : Bool) → length slot ≡ size_of kind → Holds (zeros (length slot)) valid slot → Holds (pos 0) valid (number_of kind slot)
slot_held kind slot true len h = tt
slot_held kind slot false len h = slot_zero kind slot len h

held_slot : (kind : IntKind) (slot : List ℕ) (valid : Bool) → length slot ≡ size_of kind → AreBytes slot → Holds (pos 0) valid (number_of kind slot) → Holds (zeros (length slot)) valid slot
held_slot kind slot true len small h = tt
held_slot kind slot false len small h = zero_slot kind slot len small h

-- ---- row by row
nulls_first : (bit : Bool) (mask : List Bool) (z : ℤ) (zs : List ℤ) → NullsHold (pos 0) (bit ∷ mask) (z ∷ zs) → Holds (pos 0) bit z × NullsHold (pos 0) mask zs
nulls_first true mask z zs h = (tt, h)
nulls_first false mask z zs h = h

nulls_both : (bit : Bool) (mask : List Bool) (z : ℤ) (zs : List ℤ) → Holds (pos 0) bit z → NullsHold (pos 0) mask zs → NullsHold (pos 0) (bit ∷ mask) (z ∷ zs)
nulls_both true mask z zs g h = h
nulls_both false mask z zs g h = (g, h)

-- what is left of the rows, of which all in front hold 0 where they are null
pub record ZerosSoFar (kind : IntKind) (rows row : ℕ) (valid : List Bool) (slots rest : List ℕ) : Type 0 where
  pub left : length rest ≡ (rows - row) * size_of kind
  pub small : AreBytes rest
  pub forth : NullsHold (pos 0) valid (numbers_read kind rows slots) → NullsHold (pos 0) (drop row valid) (numbers_read kind (rows - row) rest)
  pub back : NullsHold (pos 0) (drop row valid) (numbers_read kind (rows - row) rest) → NullsHold (pos 0) valid (numbers_read kind rows slots)

pub zeros_none : (kind : IntKind) (rows : ℕ) (valid : List Bool) (slots : List ℕ) → length slots ≡ rows * size_of kind → AreBytes slots → ZerosSoFar kind rows 0 valid slots slots
zeros_none kind rows valid slots len small =
    let all : rows ≡ rows - 0 = omega arith in
    record {
      left = len ∙ ap (λ (k : ℕ). k * size_of kind) all;
      small = small;
      forth = λ h. subst (λ (k : ℕ). NullsHold (pos 0) valid (numbers_read kind k slots)) all h;
      back = λ h. subst (λ (k : ℕ). NullsHold (pos 0) valid (numbers_read kind k slots)) (sym all) h;
    }

-- there are bytes for the next row
pub zeros_room : (kind : IntKind) (rows row : ℕ) (valid : List Bool) (slots rest : List ℕ) → row < rows → ZerosSoFar kind rows row valid slots rest → size_of kind ≤ length rest
zeros_room kind rows row valid slots rest lt h =
    let one : rows - row ≡ suc (rows - (row + 1)) = omega arith in
    let times : (rows - row) * size_of kind ≡ size_of kind + (rows - (row + 1)) * size_of kind = ap (λ (k : ℕ). k * size_of kind) one ∙ more_slots kind (rows - (row + 1)) in
    omega (arith, h.left, times)

-- the next row and what is behind it
record NextRow (kind : IntKind) (rows row : ℕ) (valid : List Bool) (bit : Bool) (rest slot after : List ℕ) : Type 0 where
  pub mask : drop row valid ≡ bit ∷ drop (row + 1) valid
  pub numbers : numbers_read kind (rows - row) rest ≡ number_of kind slot ∷ numbers_read kind (rows - (row + 1)) after

next_row : (kind : IntKind) (rows row : ℕ) (valid : List Bool) (bit : Bool) (rest slot after : List ℕ) → row < rows → length valid ≡ rows → slice_get valid row ≡ Some bit → rest ≡ slot ++ after → length slot ≡ size_of kind → NextRow kind rows row valid bit rest slot after
next_row kind rows row valid bit rest slot after lt count here joined len =
    let one : rows - row ≡ suc (rows - (row + 1)) = omega arith in
    let first : get_or valid row false ≡ bit = sym (bit_is valid row bit here) in
    record {
      mask = drop_more valid row false (omega (arith, lt, count)) ∙ ap (λ (b : Bool). b ∷ drop (row + 1) valid) first;
      numbers = (λ i. numbers_read kind (one i) (joined i)) ∙ read_step kind (rows - (row + 1)) slot after len;
    }

pub zeros_step : (kind : IntKind) (rows row : ℕ) (valid : List Bool) (bit : Bool) (slots rest slot after : List ℕ) → row < rows → length valid ≡ rows → slice_get valid row ≡ Some bit → rest ≡ slot ++ after → length slot ≡ size_of kind
    → Holds (zeros (length slot)) bit slot → ZerosSoFar kind rows row valid slots rest → ZerosSoFar kind rows (row + 1) valid slots after
zeros_step kind rows row valid bit slots rest slot after lt count here joined len held h =
    let next = next_row kind rows row valid bit rest slot after lt count here joined len in
    let one : rows - row ≡ suc (rows - (row + 1)) = omega arith in
    let times : (rows - row) * size_of kind ≡ size_of kind + (rows - (row + 1)) * size_of kind = ap (λ (k : ℕ). k * size_of kind) one ∙ more_slots kind (rows - (row + 1)) in
    let holds : Holds (pos 0) bit (number_of kind slot) = slot_held kind slot bit len held in
    let zs = numbers_read kind (rows - (row + 1)) after in
    record {
      left = omega (arith, h.left, times, ap length joined, length-append slot after, len);
      small = back_bytes rest slot after joined h.small;
      forth = λ all.
          let here_on : NullsHold (pos 0) (bit ∷ drop (row + 1) valid) (number_of kind slot ∷ zs) = subst (λ (bits : List Bool). NullsHold (pos 0) bits (number_of kind slot ∷ zs)) next.mask (subst (λ (ys : List ℤ). NullsHold (pos 0) (drop row valid) ys) next.numbers (h.forth all)) in
          (nulls_first bit (drop (row + 1) valid) (number_of kind slot) zs here_on).1;
      back = λ later.
          let here_on = nulls_both bit (drop (row + 1) valid) (number_of kind slot) zs holds later in
          h.back (subst (λ (bits : List Bool). NullsHold (pos 0) bits (numbers_read kind (rows - row) rest)) (sym next.mask) (subst (λ (ys : List ℤ). NullsHold (pos 0) (bit ∷ drop (row + 1) valid) ys) (sym next.numbers) here_on));
    }

-- a row that holds something else
pub zeros_end : (kind : IntKind) (rows row : ℕ) (valid : List Bool) (bit : Bool) (slots rest slot after : List ℕ) → row < rows → length valid ≡ rows → slice_get valid row ≡ Some bit → rest ≡ slot ++ after → length slot ≡ size_of kind
    → ZerosSoFar kind rows row valid slots rest → NullsHold (pos 0) valid (numbers_read kind rows slots) → Holds (zeros (length slot)) bit slot
zeros_end kind rows row valid bit slots rest slot after lt count here joined len h all =
    let next = next_row kind rows row valid bit rest slot after lt count here joined len in
    let zs = numbers_read kind (rows - (row + 1)) after in
    let here_on : NullsHold (pos 0) (bit ∷ drop (row + 1) valid) (number_of kind slot ∷ zs) = subst (λ (bits : List Bool). NullsHold (pos 0) bits (number_of kind slot ∷ zs)) next.mask (subst (λ (ys : List ℤ). NullsHold (pos 0) (drop row valid) ys) next.numbers (h.forth all)) in
    held_slot kind slot bit len (front_bytes rest slot after joined h.small) (nulls_first bit (drop (row + 1) valid) (number_of kind slot) zs here_on).0

pub zeros_done : (kind : IntKind) (rows row : ℕ) (valid : List Bool) (slots rest : List ℕ) → rows ≤ row → length valid ≡ rows → ZerosSoFar kind rows row valid slots rest → NullsHold (pos 0) valid (numbers_read kind rows slots)
zeros_done kind rows row valid slots rest past count h =
    let none : drop row valid ≡ [] = drop_all row valid (omega (arith, past, count)) in
    h.back (subst (λ (bits : List Bool). NullsHold (pos 0) bits (numbers_read kind (rows - row) rest)) (sym none) tt)
