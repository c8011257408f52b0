use Rattle.std.proofs.Common.{◌∙◌, arith, ap, sym, refl, List, ℕ, [], Some}
use Rattle.std.proofs.lemmas.Option.{slice_get-get_or}
use Rattle.vx_arrays.specs.Texts.{cut}
use Rattle.vx_arrays.proofs.CutTexts.{row_text, length_cut}
use Rattle.vx_arrays.proofs.texts.text_in.Goals as goal

pub text_of-requires-clause-forwards : goal.text_of-requires-clause-forwards
text_of-requires-clause-forwards c =
    let t = row_text c.args.bytes.now c.args.ends.now c.args.row c.requires.row c.requires.texts in
    omega (arith, t.forwards, c.start_of.ensures)

pub text_of-requires-clause-inside : goal.text_of-requires-clause-inside
text_of-requires-clause-inside c =
    let t = row_text c.args.bytes.now c.args.ends.now c.args.row c.requires.row c.requires.texts in
    omega (arith, t.inside)

pub text_of-requires-clause-utf8 : goal.text_of-requires-clause-utf8
text_of-requires-clause-utf8 c =
    let t = row_text c.args.bytes.now c.args.ends.now c.args.row c.requires.row c.requires.texts in
    rw c.start_of.ensures t.utf8

pub returns : goal.returns
returns c =
    let t = row_text c.args.bytes.now c.args.ends.now c.args.row c.requires.row c.requires.texts in
    let texts = cut c.args.bytes.now 0 c.args.ends.now in
    slice_get-get_or texts c.args.row [] (omega (arith, length_cut c.args.bytes.now 0 c.args.ends.now, c.requires.row))
    ∙ ap (λ (t : List ℕ). Some t) (t.text ∙ sym (c.text_of.ensures ∙ (rw c.start_of.ensures refl)))
