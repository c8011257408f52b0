-- Rows with values that are handed in.
use Rattle.std.proofs.Common.{◌≡◌, ℕ, inr, ⊎_elim, List, [], ◌∷◌, ◌++◌, Option, Some, None, refl, sym, ap, ◌∙◌}
use Rattle.std.specs.Prelude.{option_and_then, option_map, IfSome}
use Rattle.std.specs.List.{slice_get}
use Rattle.vx_base.specs.Data.{Datum}
use Rattle.vx_expr.specs.Meaning.{meaning}
use Rattle.vx_expr.specs.Rows.{no_bound}
use Rattle.vx_expr.specs.Packs.{struct_row}
use Rattle.vx_rows.specs.Derivations.{LeafRow, Derivation, nothing, of_leaf, list_row, given, packed, valid_where, looked_up, worked_out, read_whole, concluded, Derivations, no_more, also, Leaves, derived, derived_each}
use Rattle.vx_rows.specs.Reads.{Way, inside, CodeRow, code_row, a_leaf_row, a_code, Read, ReadsLeafRow, reads_of, reads_of_each}
use Rattle.vx_rows.specs.Given.{GivenValues, all_given, values_with, given_row, share_with, with_given, each_with_given, AreCertified, EachCertified}
use Rattle.vx_rows.proofs.ReadRows.{any_either, any_left, any_right}

-- ---- nothing handed in

mutual
  pub none_given : (d : Derivation) → with_given (λ _. None) d ≡ d
  none_given nothing = refl
  none_given (of_leaf at) = refl
  none_given (list_row list row) = refl
  none_given (given v) = refl
  none_given (packed ds) = ap packed (none_given_each ds)
  none_given (valid_where d validity) =
      let p : with_given (λ _. None) d ≡ d = none_given d in
      let q : with_given (λ _. None) validity ≡ validity = none_given validity in
      cc
  none_given (looked_up dictionary row code values) = ap (λ (c : Derivation). looked_up dictionary row c values) (none_given code)
  none_given (worked_out t e d) = ap (worked_out t e) (none_given d)
  none_given (read_whole share row d ds) = refl
  none_given (concluded rule ds) = ap (concluded rule) (none_given_each ds)

  none_given_each : (ds : Derivations) → each_with_given (λ _. None) ds ≡ ds
  none_given_each no_more = refl
  none_given_each (also d ds) =
      let p : with_given (λ _. None) d ≡ d = none_given d in
      let q : each_with_given (λ _. None) ds ≡ ds = none_given_each ds in
      cc

-- ---- what is handed in are the values

pub derived_given : (leaves : Leaves) (vs : List Datum) → derived_each leaves (all_given vs) ≡ Some vs
derived_given leaves [] = refl
derived_given leaves (v ∷ vs) = rw (derived_given leaves vs) refl

pub values_same : (leaves : Leaves) (values : Derivations) (handed : Option (List Datum)) → IfSome handed (λ vs. derived_each leaves values ≡ Some vs) → derived_each leaves (values_with handed values) ≡ derived_each leaves values
values_same leaves values None is = refl
values_same leaves values (Some vs) is = derived_given leaves vs ∙ sym is

pub row_same : (leaves : Leaves) (v : Option Datum) → derived leaves (given_row v) ≡ v
row_same leaves None = refl
row_same leaves (Some v) = refl

share_same : (leaves : Leaves) (share row : ℕ) (d : Derivation) (ds : Derivations) (handed : Option (List Datum)) → IfSome handed (λ vs. derived leaves d ≡ slice_get vs row) → derived leaves (share_with handed row (read_whole share row d ds)) ≡ derived leaves d
share_same leaves share row d ds None is = refl
share_same leaves share row d ds (Some vs) is = row_same leaves (slice_get vs row) ∙ sym is

mutual
  pub certified : (leaves : Leaves) (values_for : GivenValues) (d : Derivation) → AreCertified leaves values_for d → derived leaves (with_given values_for d) ≡ derived leaves d
  certified leaves values_for nothing are = refl
  certified leaves values_for (of_leaf at) are = refl
  certified leaves values_for (list_row list row) are = refl
  certified leaves values_for (given v) are = refl
  certified leaves values_for (packed ds) are = ap (option_map struct_row) (certified_each leaves values_for ds are)
  certified leaves values_for (valid_where d validity) are =
      let p : derived leaves (with_given values_for d) ≡ derived leaves d = certified leaves values_for d are.0 in
      let q : derived leaves (with_given values_for validity) ≡ derived leaves validity = certified leaves values_for validity are.1 in
      cc
  certified leaves values_for (looked_up dictionary row code values) are =
      let p : derived leaves (with_given values_for code) ≡ derived leaves code = certified leaves values_for code are.0 in
      let q : derived_each leaves (values_with (values_for dictionary) values) ≡ derived_each leaves values = values_same leaves values (values_for dictionary) are.1 in
      cc
  certified leaves values_for (worked_out t e d) are = ap (option_and_then (λ (v : Datum). meaning t no_bound e v 0)) (certified leaves values_for d are)
  certified leaves values_for (read_whole share row d ds) are = share_same leaves share row d ds (values_for share) are
  certified leaves values_for (concluded rule ds) are = ap (option_and_then rule) (certified_each leaves values_for ds are)

  certified_each : (leaves : Leaves) (values_for : GivenValues) (ds : Derivations) → EachCertified leaves values_for ds → derived_each leaves (each_with_given values_for ds) ≡ derived_each leaves ds
  certified_each leaves values_for no_more are = refl
  certified_each leaves values_for (also d ds) are =
      let p : derived leaves (with_given values_for d) ≡ derived leaves d = certified leaves values_for d are.0 in
      let q : derived_each leaves (each_with_given values_for ds) ≡ derived_each leaves ds = certified_each leaves values_for ds are.1 in
      cc

-- ---- reads

nothing_given : (way other : Way) (at : LeafRow) (vs : List Datum) → ReadsLeafRow other at (reads_of_each way (all_given vs)) → ⊥
nothing_given way other at [] any = any
nothing_given way other at (v ∷ vs) any = nothing_given way other at vs any

values_read : (way other : Way) (at : LeafRow) (values : Derivations) (handed : Option (List Datum)) → ReadsLeafRow other at (reads_of_each way (values_with handed values)) → ReadsLeafRow other at (reads_of_each way values)
values_read way other at values None any = any
values_read way other at values (Some vs) any = absurd (nothing_given way other at vs any)

row_unread : (way other : Way) (at : LeafRow) (v : Option Datum) → ReadsLeafRow other at (reads_of way (given_row v)) → ⊥
row_unread way other at None any = any
row_unread way other at (Some v) any = any

share_read : (way other : Way) (at : LeafRow) (row : ℕ) (d : Derivation) (handed : Option (List Datum)) → ReadsLeafRow other at (reads_of way (share_with handed row d)) → ReadsLeafRow other at (reads_of way d)
share_read way other at row d None any = any
share_read way other at row d (Some vs) any = absurd (row_unread way other at (slice_get vs row) any)

no_leaf_row : (code : CodeRow) (at : LeafRow) → a_code code ≡ a_leaf_row at → ⊥
no_leaf_row code at e = cc

abbrev IsRead : Way → LeafRow → Read → Type 0
IsRead way at read = (read.way ≡ way) × (read.found ≡ a_leaf_row at)

-- in two lists, each of which reads no more
no_more_in : (way : Way) (at : LeafRow) (xs ys us vs : List Read) → (ReadsLeafRow way at xs → ReadsLeafRow way at us) → (ReadsLeafRow way at ys → ReadsLeafRow way at vs) → ReadsLeafRow way at (xs ++ ys) → ReadsLeafRow way at (us ++ vs)
no_more_in way at xs ys us vs f g any =
    ⊎_elim (λ (left : ReadsLeafRow way at xs). any_left (IsRead way at) us vs (f left)) (λ (right : ReadsLeafRow way at ys). any_right (IsRead way at) us vs (g right)) (any_either (IsRead way at) xs ys any)

mutual
  pub reads_no_more : (values_for : GivenValues) (d : Derivation) (way other : Way) (at : LeafRow) → ReadsLeafRow other at (reads_of way (with_given values_for d)) → ReadsLeafRow other at (reads_of way d)
  reads_no_more values_for nothing way other at any = any
  reads_no_more values_for (of_leaf here) way other at any = any
  reads_no_more values_for (list_row list row) way other at any = any
  reads_no_more values_for (given v) way other at any = any
  reads_no_more values_for (packed ds) way other at any = each_reads_no_more values_for ds way other at any
  reads_no_more values_for (valid_where d validity) way other at any =
      no_more_in other at (reads_of way (with_given values_for d)) (reads_of way (with_given values_for validity)) (reads_of way d) (reads_of way validity)
      (reads_no_more values_for d way other at) (reads_no_more values_for validity way other at) any
  reads_no_more values_for (looked_up dictionary row code values) way other at any =
      ⊎_elim (λ (here : (way ≡ other) × (a_code (code_row dictionary row (with_given values_for code) (values_with (values_for dictionary) values)) ≡ a_leaf_row at)). absurd (no_leaf_row (code_row dictionary row (with_given values_for code) (values_with (values_for dictionary) values)) at here.1))
      (λ (rest : ReadsLeafRow other at (reads_of way (with_given values_for code) ++ reads_of_each (inside dictionary way) (values_with (values_for dictionary) values))).
      inr (no_more_in other at (reads_of way (with_given values_for code)) (reads_of_each (inside dictionary way) (values_with (values_for dictionary) values)) (reads_of way code) (reads_of_each (inside dictionary way) values)
      (reads_no_more values_for code way other at) (values_read (inside dictionary way) other at values (values_for dictionary)) rest)) any
  reads_no_more values_for (worked_out t e d) way other at any = reads_no_more values_for d way other at any
  reads_no_more values_for (read_whole share row d ds) way other at any = share_read way other at row (read_whole share row d ds) (values_for share) any
  reads_no_more values_for (concluded rule ds) way other at any = each_reads_no_more values_for ds way other at any

  each_reads_no_more : (values_for : GivenValues) (ds : Derivations) (way other : Way) (at : LeafRow) → ReadsLeafRow other at (reads_of_each way (each_with_given values_for ds)) → ReadsLeafRow other at (reads_of_each way ds)
  each_reads_no_more values_for no_more way other at any = any
  each_reads_no_more values_for (also d ds) way other at any =
      no_more_in other at (reads_of way (with_given values_for d)) (reads_of_each way (each_with_given values_for ds)) (reads_of way d) (reads_of_each way ds)
      (reads_no_more values_for d way other at) (each_reads_no_more values_for ds way other at) any
