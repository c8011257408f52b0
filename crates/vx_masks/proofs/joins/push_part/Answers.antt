use Rattle.std.proofs.Common.{◌≡◌, ◌+◌, ◌-◌, ◌/◌, ◌^◌, ℕ, List, subst, sym, arith}
use Rattle.vx_masks.specs.Words.{IsPushed}
use Rattle.vx_masks.proofs.Joined.{carried_fits}
use Rattle.vx_masks.proofs.Taken.{pushed_inside, pushed_over}
use Rattle.vx_masks.proofs.joins.push_part.Goals as goal

pub overflow_add-joined : goal.overflow_add-joined
overflow_add-joined c =
    let turns : c.args.shift + (64 - c.args.shift) ≡ 64 = omega arith in
    record { fits = carried_fits c.args.value c.args.shift (64 - c.args.shift) c.args.carry turns c.requires.small }

pub returns-then-shift-count-lt64 : goal.returns-then-shift-count-lt64
returns-then-shift-count-lt64 c = pushed_inside c.args.words.now.items c.args.carry c.args.shift c.args.value c.args.count c.requires.inside c.requires.fits (omega arith)

pub returns : goal.returns
returns c =
    let shift = c.args.shift in
    let value = c.args.value in
    subst (λ (l : List ℕ). IsPushed c.args.words.now.items c.args.carry shift value c.args.count l (value / 2 ^ (63 - shift) / 2 ^ 1)) (sym c.in_ok-push.ensures.items)
    (pushed_over c.args.words.now.items c.args.carry shift value c.args.count c.requires.inside c.requires.small c.requires.few c.requires.fits (omega arith))
