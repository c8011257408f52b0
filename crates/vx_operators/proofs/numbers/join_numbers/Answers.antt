use Rattle.std.proofs.Common.{◌∙◌, length, map, take, refl, sym, ap}
use Rattle.std.proofs.lemmas.List.{length-map}
use Rattle.std.proofs.lemmas.Result.{IfOk-weaker}
use Rattle.vx_operators.specs.Sides.{side_valid, side_numbers}
use Rattle.vx_operators.proofs.NumberRows.{both_len, joined_len, joined_array, joined_array_held}
use Rattle.vx_operators.proofs.SideRows.{side_level, sides_level}
use Rattle.vx_operators.proofs.numbers.join_numbers.Goals as goal

pub both_valid-requires : goal.both_valid-requires
both_valid-requires g c = sides_level g.T.Kind.number c.args.left c.args.right c.requires.left c.requires.right c.requires.rows

pub joined_rows-requires-clause-valid : goal.joined_rows-requires-clause-valid
joined_rows-requires-clause-valid g c =
    let seen = g.T.Kind.number in
    let left = c.args.left in
    let right = c.args.right in
    ap length c.in_ok-known.ensures ∙ both_len (side_valid left) (side_valid right) (sides_level seen left right c.requires.left c.requires.right c.requires.rows) ∙ side_level seen left c.requires.left

pub made_array-requires-clause-few : goal.made_array-requires-clause-few
made_array-requires-clause-few g c =
    let seen = g.T.Kind.number in
    joined_len seen g.T.Kind.kind c.args.op c.in_ok-known.known (side_numbers seen c.args.left) (side_numbers seen c.args.right) c.in_ok-made.made.items c.in_ok-made.ensures

pub made_array-requires-clause-held : goal.made_array-requires-clause-held
made_array-requires-clause-held g c =
    let seen = g.T.Kind.number in
    let made = c.in_ok-made.made.items in
    let known = c.in_ok-known.known in
    joined_array_held g.T.Kind.kind c.args.op known (take (length made) known) (side_numbers seen c.args.left) (side_numbers seen c.args.right) (map seen made) (length made) refl c.in_ok-made.ensures

pub returns-clause-values : goal.returns-clause-values
returns-clause-values g c =
    let seen = g.T.Kind.number in
    let left = c.args.left in
    let right = c.args.right in
    let made = c.in_ok-made.made.items in
    let known = c.in_ok-known.known in
    IfOk-weaker c.made_array.result _ _ (λ array same n. same ∙ joined_array g.T.Kind.kind n c.args.op (side_valid left) (side_valid right) known (take (length made) known) (side_numbers seen left) (side_numbers seen right) (map seen made) (length made) c.in_ok-known.ensures refl c.in_ok-made.ensures (sym (length-map made seen))
    (side_level seen left c.requires.left) (side_level seen right c.requires.right)) c.made_array.ensures.values
