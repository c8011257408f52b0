-- Bytes that stand for the rows that they spell.
use Rattle.std.proofs.Common.{◌≡◌, ℕ, Bool, List, length, Option, Some, None, sym, ap, ◌∙◌}
use Rattle.std.specs.Prelude.{option_map}
use Rattle.std.specs.List.{slice_range}
use Rattle.std.proofs.lemmas.Option.{same_Some}
use Rattle.vx_masks.specs.Masks.{chosen}
use Rattle.vx_types.specs.Data.{DataType, Datum}
use Rattle.vx_types.specs.Leaf.{IsLeaf}
use Rattle.vx_segments.specs.CodingsRead.{decoded_as}
use Rattle.vx_segments.specs.declared.codings.Coding.{Coding}
use Rattle.vx_segments.specs.RowsRead.{chosen_decoded, rows_decoded, SpellsRows}
use Rattle.vx_segments.specs.StillBytes.{values_in, AreSpelled}
use Rattle.vx_segments.proofs.CodedRows.{coded_count}
use Rattle.vx_segments.proofs.CodingsRead.{codings_read_spelled, spelled_codings_are_read}

abbrev some_values : List Datum → Option (List Datum)
some_values values = Some values

pub still_values : (t : DataType) (coding : Coding) (rows : ℕ) (bytes : List ℕ) → AreSpelled t coding rows bytes → decoded_as coding t rows bytes ≡ Some (values_in (decoded_as coding t rows bytes))
still_values t coding rows bytes s = s.spelled ∙ ap some_values (sym (ap values_in s.spelled))

pub still_len : (t : DataType) (coding : Coding) (rows : ℕ) (bytes : List ℕ) → AreSpelled t coding rows bytes → length (values_in (decoded_as coding t rows bytes)) ≡ rows
still_len t coding rows bytes s = ap length (ap values_in s.spelled) ∙ coded_count coding t rows bytes s.all (codings_read_spelled coding t rows bytes s.all s.spelled)

pub still_rows : (t : DataType) (coding : Coding) (rows from to : ℕ) (bytes : List ℕ) (made : List Datum) → AreSpelled t coding rows bytes → rows_decoded coding t rows bytes from to ≡ Some made → made ≡ slice_range (values_in (decoded_as coding t rows bytes)) from to
still_rows t coding rows from to bytes made s e =
    same_Some made (slice_range (values_in (decoded_as coding t rows bytes)) from to) (sym e ∙ ap (option_map (λ (vs : List Datum). slice_range vs from to)) (still_values t coding rows bytes s))

pub still_chosen : (t : DataType) (coding : Coding) (rows from to : ℕ) (bytes : List ℕ) (bits : List Bool) (made : List Datum) → AreSpelled t coding rows bytes → chosen_decoded coding t rows bytes from to bits ≡ Some made
    → made ≡ chosen bits (slice_range (values_in (decoded_as coding t rows bytes)) from to)
still_chosen t coding rows from to bytes bits made s e =
    same_Some made (chosen bits (slice_range (values_in (decoded_as coding t rows bytes)) from to)) (sym e ∙ ap (option_map (λ (vs : List Datum). chosen bits (slice_range vs from to))) (still_values t coding rows bytes s))

pub never_refused : (t : DataType) (coding : Coding) (rows : ℕ) (bytes : List ℕ) → AreSpelled t coding rows bytes → decoded_as coding t rows bytes ≡ None → ⊥
never_refused t coding rows bytes s e = not_both (sym s.spelled ∙ e)
  where
    not_both : some_values s.all ≡ None → ⊥
    not_both f = absurd cc

pub rows_are_spelled : (t : DataType) (coding : Coding) (rows from to : ℕ) (bytes : List ℕ) (values : List Datum) → IsLeaf t → SpellsRows coding t rows bytes from to values → AreSpelled t coding rows bytes
rows_are_spelled t coding rows from to bytes values l s = record { leaf = l; all = s.all; spelled = spelled_codings_are_read coding t l rows bytes s.all s.spelled }
