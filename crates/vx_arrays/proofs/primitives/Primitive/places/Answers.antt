use Rattle.std.proofs.Common.{◌≡◌, ◌∙◌, ap, Bool, length, sym}
use Rattle.vx_arrays.specs.Places.{place_in}
use Rattle.std.proofs.lemmas.List.{length-map}
use Rattle.vx_arrays.proofs.HeldRows.{bit_is, places_more}
use Rattle.vx_arrays.proofs.primitives.Primitive.places.Goals as goal

pub loop-row-preserved : goal.loop-row-preserved
loop-row-preserved g c =
    let len : length c.args.valid.now ≡ length c.as_slice-numbers.result.now = c.requires ∙ ap length (sym c.as_slice-numbers.ensures) ∙ length-map c.as_slice-numbers.result.now g.T.Kind.number in
    places_more g.T.Kind.number c.args.past c.args.valid.now c.as_slice-numbers.result.now c.loop-row.places.items c.push.new.self.items c.loop-row.row c.index-numbers-row.result c.place_of.result len c.loop-row-test.true c.index-numbers-row.is (c.place_of.ensures ∙ ap (λ (b : Bool). place_in c.args.past b (g.T.Kind.number c.index-numbers-row.result)) (bit_is c.args.valid.now c.loop-row.row c.value.result c.value.ensures)) c.in_ok-push.ensures.items c.loop-row.invariant
