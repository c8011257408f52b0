use Rattle.std.proofs.Common.{◌+◌, ◌*◌, ◌^◌, ◌<◌, ◌≤◌, ◌∷◌, [], ℕ, List, length, refl, subst, sym, ap, ◌∙◌, arith}
use Rattle.std.proofs.lemmas.List.{length-append}
use Rattle.vx_masks.specs.Words.{low_bits, number_of, IsMask}
use Rattle.vx_masks.proofs.Built.{one_more}
use Rattle.vx_masks.proofs.Joined.{nothing_left}
use Rattle.vx_masks.proofs.word_masks.closed.Goals as goal

pub returns-then-len-words_for : goal.returns-then-len-words_for
returns-then-len-words_for c =
    let words = c.args.words.items in
    let wide : c.args.len ≤ 64 * length words = omega arith in
    c.of_words.ensures ∙ ap (low_bits c.args.len) (nothing_left (number_of words + 2 ^ (64 * length words) * c.args.rest) (number_of words) c.args.rest (length words) c.args.len refl c.requires.small wide)

pub of_words-requires-2 : goal.of_words-requires-2
of_words-requires-2 c =
    let words = c.args.words.items in
    subst (IsMask c.args.len) (sym c.in_ok-push.ensures.items) (record {
      count = omega (arith, length-append words (c.args.rest ∷ []), c.requires.few, c.requires.enough);
      small = subst (λ (n : ℕ). n < 2 ^ c.args.len) (sym (one_more (length words) c.args.rest words refl)) c.requires.small;
    })

pub returns : goal.returns
returns c =
    let words = c.args.words.items in
    c.of_words-2.ensures ∙ ap (λ (l : List ℕ). low_bits c.args.len (number_of l)) c.in_ok-push.ensures.items ∙ ap (low_bits c.args.len) (one_more (length words) c.args.rest words refl)
