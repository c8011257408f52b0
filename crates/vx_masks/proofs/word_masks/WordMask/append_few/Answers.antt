use Rattle.std.proofs.Common.{◌≡◌, ◌+◌, ◌*◌, ◌/◌, ◌^◌, ◌<◌, ◌++◌, ℕ, Bool, List, length, get_or, refl, subst, sym, ap, ap₂, ◌∙◌, arith}
use Rattle.vx_masks.specs.Words.{low_bits, number_of, IsMask}
use Rattle.vx_masks.proofs.Joined.{last_small, behind_known, joined_small, joined_rows}
use Rattle.vx_masks.proofs.word_masks.WordMask.append_few.Goals as goal

pub push_shifted-requires-clause-small : goal.push_shifted-requires-clause-small
push_shifted-requires-clause-small c =
    let ws = c.in_ok-words.words.items in
    let before = c.len-before.result in
    let mask : IsMask before ws = subst (λ (k : ℕ). IsMask k ws) (sym c.len-before.ensures) c.in_ok-words.ensures.mask in
    let last : c.word_or_zero-last.result ≡ get_or ws (before / 64) 0 = c.word_or_zero-last.ensures ∙ ap (λ (l : List ℕ). get_or l (before / 64) 0) c.as_slice.ensures.value in
    omega (arith, last, last_small before ws c.in_ok-words.ensures.fit mask)

pub closed-requires-clause-small : goal.closed-requires-clause-small
closed-requires-clause-small c =
    let ws = c.in_ok-words.words.items in
    let before = c.len-before.result in
    let mask : IsMask before ws = subst (λ (k : ℕ). IsMask k ws) (sym c.len-before.ensures) c.in_ok-words.ensures.mask in
    let others = c.words-others.result.now in
    let more = length c.args.other.now in
    let last : c.word_or_zero-last.result ≡ get_or ws (before / 64) 0 = c.word_or_zero-last.ensures ∙ ap (λ (l : List ℕ). get_or l (before / 64) 0) c.as_slice.ensures.value in
    let number =
    behind_known before before ws others c.truncate.new.self.items c.push_shifted.new.words.items c.word_or_zero-last.result c.in_ok-rest.rest refl
    c.in_ok-words.ensures.fit mask.count mask.small c.truncate.ensures.items last c.in_ok-rest.ensures in
    let len : before + more ≡ before + c.len.result = omega arith in
    subst (λ (n : ℕ). n < 2 ^ (before + c.len.result)) (sym number)
    (subst (λ (k : ℕ). number_of ws + 2 ^ before * number_of others < 2 ^ k) len (joined_small before more (number_of ws) (number_of others) mask.small c.words-others.ensures.small))

pub returns : goal.returns
returns c =
    let ws = c.in_ok-words.words.items in
    let before = c.len-before.result in
    let mask : IsMask before ws = subst (λ (k : ℕ). IsMask k ws) (sym c.len-before.ensures) c.in_ok-words.ensures.mask in
    let others = c.words-others.result.now in
    let more = length c.args.other.now in
    let last : c.word_or_zero-last.result ≡ get_or ws (before / 64) 0 = c.word_or_zero-last.ensures ∙ ap (λ (l : List ℕ). get_or l (before / 64) 0) c.as_slice.ensures.value in
    let number =
    behind_known before before ws others c.truncate.new.self.items c.push_shifted.new.words.items c.word_or_zero-last.result c.in_ok-rest.rest refl
    c.in_ok-words.ensures.fit mask.count mask.small c.truncate.ensures.items last c.in_ok-rest.ensures in
    let len : before + c.len.result ≡ before + more = omega arith in
    c.in_ok-mask.ensures ∙ ap₂ low_bits len number ∙ joined_rows before more (number_of ws) (number_of others) mask.small
    ∙ ap₂ (λ (xs ys : List Bool). xs ++ ys) (ap (λ (k : ℕ). low_bits k (number_of ws)) c.len-before.ensures ∙ sym c.in_ok-words.ensures.rows) (sym c.words-others.ensures.number)
