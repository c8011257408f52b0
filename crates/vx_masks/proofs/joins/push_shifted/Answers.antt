use Rattle.std.proofs.Common.{◌≡◌, ◌+◌, ◌-◌, ◌/◌, ◌^◌, ℕ, List, length, take, get_or, subst, sym, ap, ◌∙◌, arith}
use Rattle.std.proofs.lemmas.Nat.{shr-shr}
use Rattle.vx_masks.specs.Words.{number_of, Small}
use Rattle.vx_masks.proofs.Joined.{Appended, appended_more, carried_fits}
use Rattle.vx_masks.proofs.joins.push_shifted.Goals as goal

pub overflow_add-rest : goal.overflow_add-rest
overflow_add-rest c =
    let turns : c.args.shift + (64 - c.args.shift) ≡ 64 = omega arith in
    record { fits = carried_fits (get_or c.args.others.now c.loop-word.word-index 0) c.args.shift (64 - c.args.shift) c.loop-word.rest turns c.loop-word.invariant.carried.small }

pub loop-word-preserved : goal.loop-word-preserved
loop-word-preserved c =
    let first = c.args.words.now.items in
    let others = c.args.others.now in
    let i = c.loop-word.word-index in
    let word = get_or others i 0 in
    let shift = c.args.shift in
    let t = 64 - shift in
    let turns : shift + t ≡ 64 = omega arith in
    let small : Small 64 others = record { small = λ k. (c.type_inv.others k).fits } in
    let part : (63 - shift) + 1 ≡ t = omega arith in
    let carry : word / 2 ^ t ≡ word / 2 ^ (63 - shift) / 2 ^ 1 = sym (shr-shr word (63 - shift) 1 ∙ ap (λ (k : ℕ). word / 2 ^ k) part) in
    subst (λ (x : ℕ). Appended (number_of first) c.args.carry shift (length first) (take (i + 1) others) c.push.new.self.items x) carry
    (subst (λ (l : List ℕ). Appended (number_of first) c.args.carry shift (length first) (take (i + 1) others) l (word / 2 ^ t)) (sym c.in_ok-push.ensures.items)
    (appended_more (number_of first) c.args.carry shift t (length first) c.loop-word.rest i others c.loop-word.words.items turns small c.loop-word-test.true c.loop-word.invariant))
