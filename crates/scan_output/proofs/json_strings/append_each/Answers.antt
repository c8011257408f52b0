use Rattle.std.proofs.Common.{◌≡◌, ◌++◌, get_or, ap, ◌∙◌, rules}
use Rattle.std.specs.List.{flat_map}
use Rattle.std.proofs.lemmas.List.{get_or_default}
use Rattle.scan_output.specs.RowText.{escaped}
use Rattle.scan_output.proofs.Strings.{plain_waits, escape_written}
use Rattle.scan_output.proofs.json_strings.append_each.Goals.{then-not-is_plain+in_ok-extend_from_slice+in_ok-append_escaped, else-not-is_plain}
use Rattle.scan_output.proofs.json_strings.append_each.Goals as goal

pub loop-place-preserved : goal.loop-place-preserved
loop-place-preserved c =
    let bytes = c.args.bytes.now in
    let place = c.loop-place.place in
    let byte = get_or bytes place 0 in
    let whole = c.args.out.now.items ++ flat_map escaped bytes in
    let here : byte ≡ get_or bytes place byte = get_or_default bytes place 0 byte c.loop-place-test.true in
    elim c.if-not-is_plain.branch [
      | then-not-is_plain+in_ok-extend_from_slice+in_ok-append_escaped w ↦ rw (w.out-is, w.done-is) (escape_written bytes c.loop-place.out.items _ whole c.loop-place.done place byte c.loop-place-test.true here (w.in_ok-append_escaped.ensures ∙ ap (λ o. o ++ escaped byte) w.in_ok-extend_from_slice.ensures.items) c.loop-place.invariant)
      | else-not-is_plain w ↦ rw (w.out-is, w.done-is) (plain_waits bytes c.loop-place.out.items whole c.loop-place.done place byte c.loop-place-test.true here (c.is_plain.ensures (search rules)) c.loop-place.invariant)
    ]
