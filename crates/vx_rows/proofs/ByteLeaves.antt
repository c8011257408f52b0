-- The leaves of bytes: how many values they have, which fit, and why they may have none.
use Rattle.std.proofs.Common.{◌≡◌, ℕ, ◌⊎◌, inl, inr, List, [], ◌∷◌, Option, Some, None, length, refl, ap}
use Rattle.std.specs.Prelude.{option_and_then, IfSome, IsSomeAnd}
use Rattle.std.specs.List.{AllByRecursion}
use Rattle.vx_base.specs.declared.codings.Coding.{Coding}
use Rattle.vx_base.specs.Data.{DataType, Datum}
use Rattle.vx_base.specs.Fits.{Fits}
use Rattle.vx_base.specs.Codings.{SpellsAs}
use Rattle.vx_base.specs.CodingsRead.{decoded_as}
use Rattle.vx_base.proofs.CodedValues.{spelled_count, spelled_fit}
use Rattle.vx_base.proofs.CodingsRead.{codings_read_spelled}
use Rattle.vx_rows.specs.Reads.{Found, a_leaf_row, a_code, a_list_row, Read, FindsOnly, LacksValues}
use Rattle.vx_rows.specs.SegmentLeaves.{Bytes, leaves_of, LacksBytes, IsTorn, SameBytesFor}
use Rattle.vx_rows.specs.Whole.{GiveEachRow, GiveFitting, AgreeOn}

-- what spelled values have, read values have
read_have : (P : List Datum → Type 0) (t : DataType) (coding : Coding) (rows : ℕ) (bytes : List ℕ) (read : Option (List Datum)) → decoded_as coding t rows bytes ≡ read → ((values : List Datum) → SpellsAs coding t rows bytes values → P values) → IfSome read P
read_have P t coding rows bytes None e f = tt
read_have P t coding rows bytes (Some values) e f = f values (codings_read_spelled coding t rows bytes values e)

leaf_has : (P : List Datum → Type 0) (t : DataType) (coding : Coding) (rows : ℕ) (bytes : Option (List ℕ)) → ((found : List ℕ) (values : List Datum) → SpellsAs coding t rows found values → P values) → IfSome (option_and_then (decoded_as coding t rows) bytes) P
leaf_has P t coding rows None f = tt
leaf_has P t coding rows (Some bytes) f = read_have P t coding rows bytes (decoded_as coding t rows bytes) refl (f bytes)

pub give_each_row : (bytes : Bytes) → GiveEachRow (leaves_of bytes)
give_each_row bytes t coding rows segment = leaf_has (λ values. length values ≡ rows) t coding rows (bytes segment) (λ found values spelled. spelled_count coding t rows found values spelled)

pub give_fitting : (bytes : Bytes) → GiveFitting (leaves_of bytes)
give_fitting bytes t coding rows segment = leaf_has (AllByRecursion (Fits t)) t coding rows (bytes segment) (λ found values spelled. spelled_fit coding t rows found values spelled)

cause_by : (t : DataType) (coding : Coding) (rows : ℕ) (bytes : Option (List ℕ)) → option_and_then (decoded_as coding t rows) bytes ≡ None → (bytes ≡ None) ⊎ IsSomeAnd bytes (λ found. decoded_as coding t rows found ≡ None)
cause_by t coding rows None e = inl refl
cause_by t coding rows (Some bytes) e = inr e

pub lacking_caused : (bytes : Bytes) (found : Found) → LacksValues (leaves_of bytes) found → LacksBytes bytes found ⊎ IsTorn bytes found
lacking_caused bytes (a_leaf_row at) lacks = cause_by at.dtype at.coding at.rows (bytes at.segment) lacks
lacking_caused bytes (a_code at) lacks = absurd lacks
lacking_caused bytes (a_list_row list row) lacks = absurd lacks

torn_by : (t : DataType) (coding : Coding) (rows : ℕ) (bytes : Option (List ℕ)) → IsSomeAnd bytes (λ found. decoded_as coding t rows found ≡ None) → option_and_then (decoded_as coding t rows) bytes ≡ None
torn_by t coding rows None torn = absurd torn
torn_by t coding rows (Some bytes) torn = torn

pub torn_lacks : (bytes : Bytes) (found : Found) → IsTorn bytes found → LacksValues (leaves_of bytes) found
torn_lacks bytes (a_leaf_row at) torn = torn_by at.dtype at.coding at.rows (bytes at.segment) torn
torn_lacks bytes (a_code at) torn = absurd torn
torn_lacks bytes (a_list_row list row) torn = absurd torn

bytes_agree : (ones others : Bytes) (found : Found) → SameBytesFor ones others found → AgreeOn (leaves_of ones) (leaves_of others) found
bytes_agree ones others (a_leaf_row at) same = ap (option_and_then (decoded_as at.coding at.dtype at.rows)) same
bytes_agree ones others (a_code at) same = tt
bytes_agree ones others (a_list_row list row) same = tt

pub all_agree : (ones others : Bytes) (xs : List Read) → FindsOnly (SameBytesFor ones others) xs → FindsOnly (AgreeOn (leaves_of ones) (leaves_of others)) xs
all_agree ones others [] each = tt
all_agree ones others (x ∷ xs) each = (bytes_agree ones others x.found each.0, all_agree ones others xs each.1)
