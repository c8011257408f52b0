-- A row with further whole values behind those that are given: where these are what would be read, it is worth and finds
-- what it does with the given ones alone.
use Rattle.std.proofs.Common.{◌≡◌, ℕ, ◌⊎◌, inl, inr, ⊎_elim, List, ◌++◌, Option, Some, None, length, refl, sym, ap, ◌∙◌, subst}
use Rattle.std.specs.Prelude.{option_and_then, option_map, IfSome, IsSomeAnd}
use Rattle.std.specs.List.{slice_get}
use Rattle.vx_expr.specs.Meaning.{meaning}
use Rattle.vx_expr.specs.Rows.{no_bound}
use Rattle.vx_expr.specs.Packs.{struct_row}
use Rattle.vx_rows.specs.Derivations.{Derivation, nothing, of_leaf, list_row, given, packed, valid_where, looked_up, worked_out, read_whole, concluded, Derivations, no_more, also, Leaves, derivation_count, derived, derived_each}
use Rattle.vx_rows.specs.Given.{GivenValues, all_given, values_with, share_with, with_given, each_with_given, AreCertified, EachCertified}
use Rattle.vx_rows.specs.Reads.{Way, inside, code_row, Found, a_code, reads_of, reads_of_each, Finds, IsPlaceAmong}
use Rattle.vx_rows.proofs.ReadRows.{derived_count}
use Rattle.vx_rows.proofs.Givens.{derived_given, row_same, values_same}
use Rattle.vx_steps.specs.Laws.{IsBadCodeAt}
use Rattle.vx_chunks.proofs.FewerReads.{NoCode, no_more_in, share_read, values_read}
use Rattle.vx_base.specs.Data.{Datum}

-- ---- further values behind the given ones

-- of a take or a share: those that are given, or, where none are, the further ones
abbrev pub Stands : Option (List Datum) → Option (List Datum) → Option (List Datum) → Type 0
Stands own more all = (all ≡ own) ⊎ ((own ≡ None) × (all ≡ more))

abbrev pub AllStand : GivenValues → GivenValues → GivenValues → Type 0
AllStand own more all = (n : ℕ) → Stands (own n) (more n) (all n)

-- ---- what a row is worth

values_added : (leaves : Leaves) (values : Derivations) (own more all : Option (List Datum)) → Stands own more all → IfSome more (λ vs. derived_each leaves values ≡ Some vs) → derived_each leaves (values_with all values) ≡ derived_each leaves (values_with own values)
values_added leaves values own more all (inl same) is = ap (λ (o : Option (List Datum)). derived_each leaves (values_with o values)) same
values_added leaves values own more all (inr (none, same)) is =
    ap (λ (o : Option (List Datum)). derived_each leaves (values_with o values)) same ∙ (values_same leaves values more is ∙ ap (λ (o : Option (List Datum)). derived_each leaves (values_with o values)) (sym none))

share_as : (leaves : Leaves) (row : ℕ) (d whole : Derivation) (more : Option (List Datum)) → derived leaves whole ≡ derived leaves d → IfSome more (λ vs. derived leaves d ≡ slice_get vs row) → derived leaves (share_with more row whole) ≡ derived leaves whole
share_as leaves row d whole None own is = refl
share_as leaves row d whole (Some vs) own is = row_same leaves (slice_get vs row) ∙ (sym is ∙ sym own)

share_added : (leaves : Leaves) (row : ℕ) (d whole : Derivation) (own more all : Option (List Datum)) → derived leaves whole ≡ derived leaves d → Stands own more all → IfSome more (λ vs. derived leaves d ≡ slice_get vs row) → derived leaves (share_with all row whole) ≡ derived leaves (share_with own row whole)
share_added leaves row d whole own more all child (inl same) is = ap (λ (o : Option (List Datum)). derived leaves (share_with o row whole)) same
share_added leaves row d whole own more all child (inr (none, same)) is =
    ap (λ (o : Option (List Datum)). derived leaves (share_with o row whole)) same ∙ (share_as leaves row d whole more child is ∙ ap (λ (o : Option (List Datum)). derived leaves (share_with o row whole)) (sym none))

mutual
  pub added : (leaves : Leaves) (f h g : GivenValues) → AllStand f h g → (d : Derivation) → AreCertified leaves h d → derived leaves (with_given g d) ≡ derived leaves (with_given f d)
  added leaves f h g stand nothing are = refl
  added leaves f h g stand (of_leaf at) are = refl
  added leaves f h g stand (list_row list row) are = refl
  added leaves f h g stand (given v) are = refl
  added leaves f h g stand (packed ds) are = ap (option_map struct_row) (added_each leaves f h g stand ds are)
  added leaves f h g stand (valid_where d validity) are =
      let p : derived leaves (with_given g d) ≡ derived leaves (with_given f d) = added leaves f h g stand d are.0 in
      let q : derived leaves (with_given g validity) ≡ derived leaves (with_given f validity) = added leaves f h g stand validity are.1 in
      cc
  added leaves f h g stand (looked_up dictionary row code values) are =
      let p : derived leaves (with_given g code) ≡ derived leaves (with_given f code) = added leaves f h g stand code are.0 in
      let q : derived_each leaves (values_with (g dictionary) values) ≡ derived_each leaves (values_with (f dictionary) values) = values_added leaves values (f dictionary) (h dictionary) (g dictionary) (stand dictionary) are.1 in
      cc
  added leaves f h g stand (worked_out t e d) are = ap (option_and_then (λ (v : Datum). meaning t no_bound e v 0)) (added leaves f h g stand d are)
  added leaves f h g stand (concluded rule ds) are = ap (option_and_then rule) (added_each leaves f h g stand ds are)
  added leaves f h g stand (read_whole share row d ds) are = share_added leaves row d (read_whole share row d ds) (f share) (h share) (g share) refl (stand share) are

  added_each : (leaves : Leaves) (f h g : GivenValues) → AllStand f h g → (ds : Derivations) → EachCertified leaves h ds → derived_each leaves (each_with_given g ds) ≡ derived_each leaves (each_with_given f ds)
  added_each leaves f h g stand no_more are = refl
  added_each leaves f h g stand (also d ds) are =
      let p : derived leaves (with_given g d) ≡ derived leaves (with_given f d) = added leaves f h g stand d are.0 in
      let q : derived_each leaves (each_with_given g ds) ≡ derived_each leaves (each_with_given f ds) = added_each leaves f h g stand ds are.1 in
      cc

-- ---- how many values there are

counted : (leaves : Leaves) (ds : Derivations) (vs : List Datum) → derived_each leaves ds ≡ Some vs → derivation_count ds ≡ length vs
counted leaves ds vs is = sym (subst (λ (o : Option (List Datum)). IfSome o (λ vs. length vs ≡ derivation_count ds)) is (derived_count leaves ds))

count_as : (leaves : Leaves) (values : Derivations) (more : Option (List Datum)) → IfSome more (λ vs. derived_each leaves values ≡ Some vs) → derivation_count (values_with more values) ≡ derivation_count values
count_as leaves values None is = refl
count_as leaves values (Some vs) is = counted leaves (all_given vs) vs (derived_given leaves vs) ∙ sym (counted leaves values vs is)

count_added : (leaves : Leaves) (values : Derivations) (own more all : Option (List Datum)) → Stands own more all → IfSome more (λ vs. derived_each leaves values ≡ Some vs) → derivation_count (values_with all values) ≡ derivation_count (values_with own values)
count_added leaves values own more all (inl same) is = ap (λ (o : Option (List Datum)). derivation_count (values_with o values)) same
count_added leaves values own more all (inr (none, same)) is =
    ap (λ (o : Option (List Datum)). derivation_count (values_with o values)) same ∙ (count_as leaves values more is ∙ ap (λ (o : Option (List Datum)). derivation_count (values_with o values)) (sym none))

-- ---- what a row finds

-- a code with the further values is so with the given ones alone, where it is certified if need be
abbrev KeepsCodes : (Found → Type 0) → Type 0 → Leaves → GivenValues → GivenValues → GivenValues → Type 0
KeepsCodes P A leaves f h g =
    (dictionary row : ℕ) (code : Derivation) (values : Derivations) → (A → AreCertified leaves h (looked_up dictionary row code values)) → P (a_code (code_row dictionary row (with_given g code) (values_with (g dictionary) values))) → P (a_code (code_row dictionary row (with_given f code) (values_with (f dictionary) values)))

values_found : (P : Found → Type 0) (way : Way) (values : Derivations) (own more all : Option (List Datum)) → Stands own more all → Finds P (reads_of_each way (values_with all values)) → Finds P (reads_of_each way (values_with own values))
values_found P way values own more all (inl same) any = subst (λ (o : Option (List Datum)). Finds P (reads_of_each way (values_with o values))) same any
values_found P way values own more all (inr (none, same)) any =
    subst (λ (o : Option (List Datum)). Finds P (reads_of_each way (values_with o values))) (sym none) (values_read P way values all any)

share_found : (P : Found → Type 0) (way : Way) (row : ℕ) (d : Derivation) (own more all : Option (List Datum)) → Stands own more all → Finds P (reads_of way (share_with all row d)) → Finds P (reads_of way (share_with own row d))
share_found P way row d own more all (inl same) any = subst (λ (o : Option (List Datum)). Finds P (reads_of way (share_with o row d))) same any
share_found P way row d own more all (inr (none, same)) any = subst (λ (o : Option (List Datum)). Finds P (reads_of way (share_with o row d))) (sym none) (share_read P way row d all any)

mutual
  pub found_added : (P : Found → Type 0) (A : Type 0) (leaves : Leaves) (f h g : GivenValues) → AllStand f h g → KeepsCodes P A leaves f h g → (d : Derivation) (way : Way) → (A → AreCertified leaves h d) → Finds P (reads_of way (with_given g d)) → Finds P (reads_of way (with_given f d))
  found_added P A leaves f h g stand keeps nothing way are any = any
  found_added P A leaves f h g stand keeps (of_leaf here) way are any = any
  found_added P A leaves f h g stand keeps (list_row list row) way are any = any
  found_added P A leaves f h g stand keeps (given v) way are any = any
  found_added P A leaves f h g stand keeps (packed ds) way are any = each_found P A leaves f h g stand keeps ds way are any
  found_added P A leaves f h g stand keeps (valid_where d validity) way are any =
      no_more_in P (reads_of way (with_given g d)) (reads_of way (with_given g validity)) (reads_of way (with_given f d)) (reads_of way (with_given f validity))
      (found_added P A leaves f h g stand keeps d way (λ a. (are a).0)) (found_added P A leaves f h g stand keeps validity way (λ a. (are a).1)) any
  found_added P A leaves f h g stand keeps (looked_up dictionary row code values) way are any =
      ⊎_elim (λ (here : P (a_code (code_row dictionary row (with_given g code) (values_with (g dictionary) values)))). inl (keeps dictionary row code values are here))
      (λ (rest : Finds P (reads_of way (with_given g code) ++ reads_of_each (inside dictionary way) (values_with (g dictionary) values))).
      inr (no_more_in P (reads_of way (with_given g code)) (reads_of_each (inside dictionary way) (values_with (g dictionary) values)) (reads_of way (with_given f code)) (reads_of_each (inside dictionary way) (values_with (f dictionary) values))
      (found_added P A leaves f h g stand keeps code way (λ a. (are a).0)) (values_found P (inside dictionary way) values (f dictionary) (h dictionary) (g dictionary) (stand dictionary)) rest)) any
  found_added P A leaves f h g stand keeps (worked_out t e d) way are any = found_added P A leaves f h g stand keeps d way are any
  found_added P A leaves f h g stand keeps (concluded rule ds) way are any = each_found P A leaves f h g stand keeps ds way are any
  found_added P A leaves f h g stand keeps (read_whole share row d ds) way are any = share_found P way row (read_whole share row d ds) (f share) (h share) (g share) (stand share) any

  each_found : (P : Found → Type 0) (A : Type 0) (leaves : Leaves) (f h g : GivenValues) → AllStand f h g → KeepsCodes P A leaves f h g → (ds : Derivations) (way : Way) → (A → EachCertified leaves h ds) → Finds P (reads_of_each way (each_with_given g ds)) → Finds P (reads_of_each way (each_with_given f ds))
  each_found P A leaves f h g stand keeps no_more way are any = any
  each_found P A leaves f h g stand keeps (also d ds) way are any =
      no_more_in P (reads_of way (with_given g d)) (reads_of_each way (each_with_given g ds)) (reads_of way (with_given f d)) (reads_of_each way (each_with_given f ds))
      (found_added P A leaves f h g stand keeps d way (λ a. (are a).0)) (each_found P A leaves f h g stand keeps ds way (λ a. (are a).1)) any

-- what is no code stays, whatever the further values are
pub no_code_added : (P : Found → Type 0) → NoCode P → (f h g : GivenValues) → AllStand f h g → (d : Derivation) (way : Way) → Finds P (reads_of way (with_given g d)) → Finds P (reads_of way (with_given f d))
no_code_added P out f h g stand d way any =
    found_added P ⊥ (λ dtype coding rows segment. None) f h g stand (λ dictionary row code values are is. absurd (out (code_row dictionary row (with_given g code) (values_with (g dictionary) values)) is)) d way (λ none. absurd none) any

-- a bad code is one with the given values alone
pub bad_code_added : (leaves : Leaves) (n at : ℕ) (f h g : GivenValues) → AllStand f h g → (d : Derivation) (way : Way) → AreCertified leaves h d → Finds (IsBadCodeAt leaves n at) (reads_of way (with_given g d)) → Finds (IsBadCodeAt leaves n at) (reads_of way (with_given f d))
bad_code_added leaves n at f h g stand d way are any = found_added (IsBadCodeAt leaves n at) (Unit {0}) leaves f h g stand keeps d way (λ one. are) any
  where
    keeps : KeepsCodes (IsBadCodeAt leaves n at) (Unit {0}) leaves f h g
    keeps dictionary row code values certified is =
        let own = certified tt in
        let count : derivation_count (values_with (g dictionary) values) ≡ derivation_count (values_with (f dictionary) values) = count_added leaves values (f dictionary) (h dictionary) (g dictionary) (stand dictionary) own.1 in
        let worth : derived leaves (with_given g code) ≡ derived leaves (with_given f code) = added leaves f h g stand code own.0 in (
          is.0,
          is.1,
          subst (λ (o : Option Datum). IsSomeAnd o (λ c. ¬ (IsPlaceAmong (derivation_count (values_with (f dictionary) values)) c))) worth
              (subst (λ (m : ℕ). IsSomeAnd (derived leaves (with_given g code)) (λ c. ¬ (IsPlaceAmong m c))) count is.2),
        )
