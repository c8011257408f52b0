use Rattle.std.proofs.Common.{◌≡◌, ◌^◌, ◌<◌, ℕ, Bool, List, length, subst, sym, ap, ◌∙◌, arith}
use Rattle.std.specs.Prelude.{slice_get}
use Rattle.vx_masks.specs.Words.{low_bits, number_of, words_for, held, IsMask}
use Rattle.vx_masks.proofs.Built.{len_is, row_of_word, past_rows}
use Rattle.vx_masks.proofs.word_masks.WordMask.words.Goals as goal

rows : (c : goal.After-words_fit) → c.self.inside.len ≡ length c.args.self.now
rows c = len_is c.self.inside.len (number_of (held c.self.inside.len c.self.inside.words.items)) c.args.self.now c.self.view_is

is : (c : goal.After-words_fit) → c.held_words-words.result.now ≡ held c.self.inside.len c.self.inside.words.items
is c = c.held_words-words.ensures ∙ ap (held c.self.inside.len) c.as_slice.ensures.value

whole : (c : goal.After-words_fit) → IsMask c.self.inside.len c.held_words-words.result.now
whole c = subst (IsMask c.self.inside.len) (sym (is c)) c.self.invariant.mask

seen : (c : goal.After-words_fit) → low_bits c.self.inside.len (number_of c.held_words-words.result.now) ≡ c.args.self.now
seen c = ap (λ (ws : List ℕ). low_bits c.self.inside.len (number_of ws)) (is c) ∙ c.self.view_is

pub returns-clause-count : goal.returns-clause-count
returns-clause-count c = (whole c).count ∙ ap words_for (rows c)

pub returns-clause-rows : goal.returns-clause-rows
returns-clause-rows c row h = ap (λ (bs : List Bool). slice_get bs row) (sym (seen c)) ∙ row_of_word c.self.inside.len row c.held_words-words.result.now c.words_fit.ensures (omega (arith, rows c))

pub returns-clause-past : goal.returns-clause-past
returns-clause-past c row h = past_rows c.self.inside.len row c.held_words-words.result.now c.words_fit.ensures (whole c) (omega (arith, rows c))

pub returns-clause-number : goal.returns-clause-number
returns-clause-number c = sym (seen c) ∙ ap (λ (k : ℕ). low_bits k (number_of c.held_words-words.result.now)) (rows c)

pub returns-clause-small : goal.returns-clause-small
returns-clause-small c = subst (λ (k : ℕ). number_of c.held_words-words.result.now < 2 ^ k) (rows c) (whole c).small

pub returns-clause-bound : goal.returns-clause-bound
returns-clause-bound c = omega (arith, rows c)
