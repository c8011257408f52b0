-- How long a text may be.
use Rattle.std.specs.Prelude.{ℕ, ◌^◌}

-- each text is shorter: its length is written in four bytes
abbrev pub text_limit : ℕ
text_limit = 2 ^ 32
