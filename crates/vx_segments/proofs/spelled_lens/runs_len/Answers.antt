use Rattle.std.proofs.Common.{◌≡◌, ◌+◌, ◌*◌, ◌≤◌, ◌<◌, ◌^◌, ◌∙◌, ap, length, arith}
use Rattle.vx_types.specs.Data.{DataType}
use Rattle.vx_types.specs.Views.{data_type}
use Rattle.vx_segments.specs.Lengths.{front_size}
use Rattle.vx_segments.proofs.Lengths.{few_runs, front_room, runs_have}
use Rattle.vx_segments.proofs.spelled_lens.runs_len.Goals as goal

pub overflow_mul-front : goal.overflow_mul-front
overflow_mul-front c =
    let sizes = c.run_sizes-sizes.result in
    omega (arith, c.requires.few, few_runs c.args.column.now.values sizes.runs sizes.once sizes.all c.run_sizes-sizes.ensures)

pub overflow_add-front : goal.overflow_add-front
overflow_add-front c =
    let sizes = c.run_sizes-sizes.result in
    omega (arith, c.requires.few, few_runs c.args.column.now.values sizes.runs sizes.once sizes.all c.run_sizes-sizes.ensures)

pub front_len-requires : goal.front_len-requires
front_len-requires c =
    let sizes = c.run_sizes-sizes.result in
    omega (arith, c.requires.few, few_runs c.args.column.now.values sizes.runs sizes.once sizes.all c.run_sizes-sizes.ensures)

pub overflow_add-front-2 : goal.overflow_add-front-2
overflow_add-front-2 c =
    let sizes = c.run_sizes-sizes.result in
    let most : sizes.runs ≤ length c.args.column.now.values = few_runs c.args.column.now.values sizes.runs sizes.once sizes.all c.run_sizes-sizes.ensures in
    let few : sizes.runs < 2 ^ 32 = omega (arith, c.requires.few, most) in
    omega (arith, few, c.front_len.ensures, front_room (data_type c.dtype.result.now) sizes.runs few)

pub returns : goal.returns
returns c =
    let t = c.args.column.now.dtype in
    let sizes = c.run_sizes-sizes.result in
    let front : c.front_len.result ≡ front_size t sizes.runs = c.front_len.ensures ∙ ap (λ (u : DataType). front_size u sizes.runs) c.dtype.ensures in
    runs_have t c.args.column.now.values sizes.runs sizes.once sizes.all (((4 + 8 * sizes.runs) + c.front_len.result) + sizes.once) c.checked_add.result c.requires.leaf c.len-fit.ensures.fit c.requires.short c.requires.few c.run_sizes-sizes.ensures
    (ap (λ k. ((4 + 8 * sizes.runs) + k) + sizes.once) front) c.checked_add.ensures
