-- The members of an object by their names.
use Rattle.std.specs.Prelude.{ℕ, ◌+◌, ◌≡◌, ◌&&◌, ◌||◌, not, List, [], ◌∷◌, Bool, true, false, ⊤}
use Rattle.std.specs.Option.{option_map_or}
use Rattle.std.specs.Ordering.{nat_cmp}
use Rattle.std.specs.Cmp.Lexicographic.{slice_cmp}
use Rattle.std.specs.Str.{bytes_eq}
use Rattle.std.specs.declared.cmp.Ordering.TheVariants.{Less}
use Rattle.serde_json.specs.Data.{Members, no_members, member}
use Rattle.serde_json.specs.Find.{get_member}

-- 1 where a member has that name, else 0
abbrev pub present : List ℕ → Members → ℕ
present name ms = option_map_or (λ d. 1) (get_member name ms) 0

-- how many of the names are those of members
abbrev pub present_of : List (List ℕ) → Members → ℕ
present_of [] ms = 0
present_of (name ∷ names) ms = present name ms + present_of names ms

-- it is one of the names
abbrev pub is_one_of : List (List ℕ) → List ℕ → Bool
is_one_of [] name = false
is_one_of (one ∷ names) name = bytes_eq name one || is_one_of names name

-- no name comes twice
abbrev pub are_apart : List (List ℕ) → Bool
are_apart [] = true
are_apart (name ∷ names) = not (is_one_of names name) && are_apart names

-- a member has another name than these
abbrev pub has_other : List (List ℕ) → Members → Bool
has_other names no_members = false
has_other names (member k d ms) = not (is_one_of names k) || has_other names ms

-- the names of the members stand above that one
abbrev pub AreAbove : List ℕ → Members → Type 0
AreAbove k no_members = ⊤
AreAbove k (member l d ms) = (slice_cmp nat_cmp k l ≡ Less) × AreAbove k ms

-- the names of the members ascend
abbrev pub AreRising : Members → Type 0
AreRising no_members = ⊤
AreRising (member k d ms) = AreAbove k ms × AreRising ms
