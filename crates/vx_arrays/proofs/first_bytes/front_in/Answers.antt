use Rattle.std.proofs.Common.{◌≡◌, ◌∙◌, arith, ap, sym, get_or, List, ℕ, [], Some}
use Rattle.std.specs.Prelude.{option_map, slice_get, slice_range}
use Rattle.std.proofs.lemmas.Option.{slice_get-get_or}
use Rattle.vx_arrays.specs.Fronts.{front_number}
use Rattle.vx_arrays.specs.Texts.{cut, start_in}
use Rattle.vx_arrays.proofs.CutTexts.{row_text, length_cut}
use Rattle.vx_arrays.proofs.first_bytes.front_in.Goals as goal

pub front_between-requires-clause-forwards : goal.front_between-requires-clause-forwards
front_between-requires-clause-forwards c =
    let t = row_text c.args.bytes.now c.args.ends.now c.args.row c.requires.row c.requires.texts in
    omega (arith, t.forwards, c.start_of.ensures)

pub front_between-requires-clause-inside : goal.front_between-requires-clause-inside
front_between-requires-clause-inside c =
    let t = row_text c.args.bytes.now c.args.ends.now c.args.row c.requires.row c.requires.texts in
    omega (arith, t.inside)

pub returns : goal.returns
returns c =
    let bytes = c.args.bytes.now in
    let ends = c.args.ends.now in
    let row = c.args.row in
    let t = row_text bytes ends row c.requires.row c.requires.texts in
    let end = get_or ends row 0 in
    let there : slice_get (cut bytes 0 ends) row ≡ Some (slice_range bytes (start_in ends row) end) =
    slice_get-get_or (cut bytes 0 ends) row [] (omega (arith, length_cut bytes 0 ends, c.requires.row)) ∙ ap (λ (t : List ℕ). Some t) t.text in
    let made : c.front_between.result ≡ front_number (slice_range bytes (start_in ends row) end) =
    c.front_between.ensures ∙ ap (λ (k : ℕ). front_number (slice_range bytes k end)) c.start_of.ensures in
    ap (option_map front_number) there ∙ sym (ap (λ (n : ℕ). Some n) made)
