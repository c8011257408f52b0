use Rattle.std.proofs.Common.{◌≡◌, ◌<◌, ◌≤◌, ◌^◌, length, get_or, bit_and, sym, ap, ◌∙◌, arith}
use lib.Lanes.{number_l}
use Rattle.std.specs.List.{flat_map}
use Rattle.std.proofs.lemmas.List.{length-set}
use Rattle.vx_masks.specs.Words.{low_bits}
use Rattle.vx_masks.proofs.Numbers.{anded_more, anded_one_more, anded_all, bits_of_and, number_l-and}
use Rattle.vx_masks.proofs.kernels.and_into.Goals as goal

pub loop-into-preserved : goal.loop-into-preserved
loop-into-preserved c = record {
  inside = omega arith;
  done = c.and_lanes.ensures ∙ anded_more 8 c.loop-into.place c.args.into.now c.args.other.now c.loop-into.into (omega arith) c.requires c.loop-into.invariant.done;
  small = c.loop-into.invariant.small;
}

pub loop-place-preserved : goal.loop-place-preserved
loop-place-preserved c =
    let same : length c.loop-place.into ≡ length c.args.into.now = omega arith in
    let inside : c.loop-place.place < length c.args.into.now = omega arith in
    record {
      inside = omega (arith, length-set c.loop-place.into c.loop-place.place (bit_and (get_or c.loop-place.into c.loop-place.place 0) (get_or c.args.other.now c.loop-place.place 0)));
      done = anded_one_more c.loop-place.place c.args.into.now c.args.other.now c.loop-place.into inside c.requires c.loop-place.invariant.done same;
      small = c.loop-place.invariant.small;
    }

pub returns-clause-words : goal.returns-clause-words
returns-clause-words c =
    let past : length c.args.into.now ≤ c.loop-place.place = omega arith in
    c.loop-place.invariant.done ∙ anded_all c.args.into.now c.args.other.now c.loop-place.place c.requires past

pub returns-clause-rows : goal.returns-clause-rows
returns-clause-rows c = ap (flat_map (low_bits 64)) (returns-clause-words c) ∙ bits_of_and 64 c.args.into.now c.args.other.now (sym c.requires)

pub returns-clause-number : goal.returns-clause-number
returns-clause-number c =
    ap (number_l (2 ^ 64)) (returns-clause-words c)
    ∙ number_l-and 64 c.args.into.now c.args.other.now c.loop-place.invariant.small (record { small = λ i. (c.type_inv.other i).fits }) (sym c.requires)
