-- Other numbers for dictionaries and lists change no value, and move the reads.
use Rattle.std.proofs.Common.{◌≡◌, ℕ, suc, List, ◌++◌, map, refl, ap}
use Rattle.std.specs.Prelude.{option_and_then, option_map}
use Rattle.std.proofs.lemmas.List.{map-append}
use Rattle.vx_base.specs.Data.{Datum}
use Rattle.vx_expr.specs.Meaning.{meaning}
use Rattle.vx_expr.specs.Rows.{no_bound}
use Rattle.vx_expr.specs.Packs.{struct_row}
use Rattle.vx_rows.specs.Derivations.{Derivation, nothing, of_leaf, list_row, given, packed, valid_where, looked_up, worked_out, read_whole, concluded, Derivations, no_more, also, derivation_count, Leaves, derived, derived_each}
use Rattle.vx_rows.specs.Reads.{Way, directly, through, inside, a_code, Read, read_by, code_row, reads_of, reads_of_each}
use Rattle.vx_rows.specs.Renumbered.{renumbered, each_renumbered, way_renumbered, read_renumbered}

mutual
  pub same_worth : (leaves : Leaves) (f : ℕ → ℕ) (d : Derivation) → derived leaves (renumbered f d) ≡ derived leaves d
  same_worth leaves f nothing = refl
  same_worth leaves f (of_leaf at) = refl
  same_worth leaves f (list_row list row) = refl
  same_worth leaves f (given v) = refl
  same_worth leaves f (packed ds) = ap (option_map struct_row) (same_worth_each leaves f ds)
  same_worth leaves f (valid_where d validity) =
      let p : derived leaves (renumbered f d) ≡ derived leaves d = same_worth leaves f d in
      let q : derived leaves (renumbered f validity) ≡ derived leaves validity = same_worth leaves f validity in
      cc
  same_worth leaves f (looked_up dictionary row code values) =
      let p : derived leaves (renumbered f code) ≡ derived leaves code = same_worth leaves f code in
      let q : derived_each leaves (each_renumbered f values) ≡ derived_each leaves values = same_worth_each leaves f values in
      cc
  same_worth leaves f (worked_out t e d) = ap (option_and_then (λ (v : Datum). meaning t no_bound e v 0)) (same_worth leaves f d)
  same_worth leaves f (read_whole share row d ds) = same_worth leaves f d
  same_worth leaves f (concluded rule ds) = ap (option_and_then rule) (same_worth_each leaves f ds)

  same_worth_each : (leaves : Leaves) (f : ℕ → ℕ) (ds : Derivations) → derived_each leaves (each_renumbered f ds) ≡ derived_each leaves ds
  same_worth_each leaves f no_more = refl
  same_worth_each leaves f (also d ds) =
      let p : derived leaves (renumbered f d) ≡ derived leaves d = same_worth leaves f d in
      let q : derived_each leaves (each_renumbered f ds) ≡ derived_each leaves ds = same_worth_each leaves f ds in
      cc

same_count : (f : ℕ → ℕ) (ds : Derivations) → derivation_count (each_renumbered f ds) ≡ derivation_count ds
same_count f no_more = refl
same_count f (also d ds) = ap (λ (n : ℕ). suc n) (same_count f ds)

inside_renumbered : (f : ℕ → ℕ) (dictionary : ℕ) (way : Way) → inside (f dictionary) (way_renumbered f way) ≡ way_renumbered f (inside dictionary way)
inside_renumbered f dictionary directly = refl
inside_renumbered f dictionary (through outermost) = refl

reads_join : (f : ℕ → ℕ) (xs ys us vs : List Read) → us ≡ map (read_renumbered f) xs → vs ≡ map (read_renumbered f) ys → us ++ vs ≡ map (read_renumbered f) (xs ++ ys)
reads_join f xs ys us vs p q = let e : map (read_renumbered f) (xs ++ ys) ≡ map (read_renumbered f) xs ++ map (read_renumbered f) ys = map-append (read_renumbered f) xs ys in cc

mutual
  pub reads_moved : (f : ℕ → ℕ) (way : Way) (d : Derivation) → reads_of (way_renumbered f way) (renumbered f d) ≡ map (read_renumbered f) (reads_of way d)
  reads_moved f way nothing = refl
  reads_moved f way (of_leaf at) = refl
  reads_moved f way (list_row list row) = refl
  reads_moved f way (given v) = refl
  reads_moved f way (packed ds) = reads_moved_each f way ds
  reads_moved f way (valid_where d validity) = reads_join f (reads_of way d) (reads_of way validity) (reads_of (way_renumbered f way) (renumbered f d)) (reads_of (way_renumbered f way) (renumbered f validity)) (reads_moved f way d) (reads_moved f way validity)
  reads_moved f way (looked_up dictionary row code values) =
      let here : read_by (way_renumbered f way) (a_code (code_row (f dictionary) row (renumbered f code) (each_renumbered f values))) ≡ read_renumbered f (read_by way (a_code (code_row dictionary row code values))) = rw (same_count f values) refl in
      let below : reads_of_each (inside (f dictionary) (way_renumbered f way)) (each_renumbered f values) ≡ map (read_renumbered f) (reads_of_each (inside dictionary way) values) = rw (inside_renumbered f dictionary way) (reads_moved_each f (inside dictionary way) values) in
      let more : reads_of (way_renumbered f way) (renumbered f code) ++ reads_of_each (inside (f dictionary) (way_renumbered f way)) (each_renumbered f values) ≡ map (read_renumbered f) (reads_of way code ++ reads_of_each (inside dictionary way) values) =
      reads_join f (reads_of way code) (reads_of_each (inside dictionary way) values) (reads_of (way_renumbered f way) (renumbered f code)) (reads_of_each (inside (f dictionary) (way_renumbered f way)) (each_renumbered f values)) (reads_moved f way code) below in
      cc
  reads_moved f way (worked_out t e d) = reads_moved f way d
  reads_moved f way (read_whole share row d ds) = reads_join f (reads_of way d) (reads_of_each way ds) (reads_of (way_renumbered f way) (renumbered f d)) (reads_of_each (way_renumbered f way) (each_renumbered f ds)) (reads_moved f way d) (reads_moved_each f way ds)
  reads_moved f way (concluded rule ds) = reads_moved_each f way ds

  reads_moved_each : (f : ℕ → ℕ) (way : Way) (ds : Derivations) → reads_of_each (way_renumbered f way) (each_renumbered f ds) ≡ map (read_renumbered f) (reads_of_each way ds)
  reads_moved_each f way no_more = refl
  reads_moved_each f way (also d ds) = reads_join f (reads_of way d) (reads_of_each way ds) (reads_of (way_renumbered f way) (renumbered f d)) (reads_of_each (way_renumbered f way) (each_renumbered f ds)) (reads_moved f way d) (reads_moved_each f way ds)
