-- The first bytes of texts as numbers.
use Rattle.std.specs.Prelude.{ℕ, zero, suc, ◌+◌, ◌*◌, ◌^◌, List, [], ◌∷◌}

-- so many bytes as one number, the first of them the highest, with zeros behind fewer
abbrev pub spelled : ℕ → List ℕ → ℕ
spelled zero bytes = 0
spelled (suc count) [] = 0
spelled (suc count) (b ∷ bytes) = b * 2 ^ (8 * count) + spelled count bytes

-- the front of a text: the number that its first 16 bytes spell
unfoldable pub front_number : List ℕ → ℕ
front_number bytes = spelled 16 bytes
