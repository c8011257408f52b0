-- Writing texts that were made side by side.
use Rattle.std.specs.Prelude.{ℕ, List}
use Rattle.std.specs.Global.{Vec}
use Rattle.std.specs.List.{flat_map}

-- texts, one after another
abbrev pub texts_joined : List (Vec ℕ) → List ℕ
texts_joined texts = flat_map (λ text. text.items) texts
