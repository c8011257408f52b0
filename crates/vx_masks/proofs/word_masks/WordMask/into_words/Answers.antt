use Rattle.std.proofs.Common.{◌≡◌, ℕ, List, length, subst, sym, ap₂, ◌∙◌}
use Rattle.vx_masks.specs.Words.{low_bits, number_of, held, IsMask}
use Rattle.vx_masks.proofs.Built.{len_is}
use Rattle.vx_masks.proofs.word_masks.WordMask.into_words.Goals as goal

rows : (c : goal.After-words_fit) → c.self.inside.len ≡ length c.args.self
rows c = len_is c.self.inside.len (number_of (held c.self.inside.len c.self.inside.words.items)) c.args.self c.self.view_is

pub returns-clause-rows : goal.returns-clause-rows
returns-clause-rows c = sym c.self.view_is ∙ ap₂ (λ (k : ℕ) (ws : List ℕ). low_bits k (number_of ws)) (rows c) (sym c.in_ok-words.ensures)

pub returns-clause-mask : goal.returns-clause-mask
returns-clause-mask c = subst (λ (k : ℕ). IsMask k c.in_ok-words.words.items) (rows c) (subst (IsMask c.self.inside.len) (sym c.in_ok-words.ensures) c.self.invariant.mask)
