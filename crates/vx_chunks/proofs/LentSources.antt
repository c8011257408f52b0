-- What holds of each of the sources that are lent to a call, or of one of them.
use Rattle.std.proofs.Common.{◌≡◌, ℕ, ◌≤◌, inl, inr, List, [], ◌∷◌, ◌++◌, map, refl, ap, sym, ◌∙◌, subst, arith}
use Rattle.std.specs.List.{flat_map}
use Rattle.vx_claims.specs.Apart.{times_over}
use Rattle.vx_drive.specs.Asks.{IsLeftClear, Lasts}
use Rattle.vx_chunks.specs.Lent.{EachSource, EachSourceBy, SomeSourceBy, FirstSource}
use Rattle.vx_base.specs.Sources.{SourceState}

-- ---- from one relation to another

pub each_source_by : {X Y : Type 0} (f : X → Y) (P : X → SourceState → SourceState → Type 0) (Q : Y → SourceState → SourceState → Type 0) → ((x : X) (before after : SourceState) → P x before after → Q (f x) before after) → (xs : List X) (befores afters : List SourceState) → EachSourceBy P xs befores afters → EachSourceBy Q (map f xs) befores afters
each_source_by f P Q to [] [] [] each = tt
each_source_by f P Q to [] [] (after ∷ afters) each = absurd each
each_source_by f P Q to [] (before ∷ befores) afters each = absurd each
each_source_by f P Q to (x ∷ xs) [] afters each = absurd each
each_source_by f P Q to (x ∷ xs) (before ∷ befores) [] each = absurd each
each_source_by f P Q to (x ∷ xs) (before ∷ befores) (after ∷ afters) each = (to x before after each.0, each_source_by f P Q to xs befores afters each.1)

pub each_by : {X : Type 0} (P Q : X → SourceState → SourceState → Type 0) → ((x : X) (before after : SourceState) → P x before after → Q x before after) → (xs : List X) (befores afters : List SourceState) → EachSourceBy P xs befores afters → EachSourceBy Q xs befores afters
each_by P Q to [] [] [] each = tt
each_by P Q to [] [] (after ∷ afters) each = absurd each
each_by P Q to [] (before ∷ befores) afters each = absurd each
each_by P Q to (x ∷ xs) [] afters each = absurd each
each_by P Q to (x ∷ xs) (before ∷ befores) [] each = absurd each
each_by P Q to (x ∷ xs) (before ∷ befores) (after ∷ afters) each = (to x before after each.0, each_by P Q to xs befores afters each.1)

pub some_by : {X : Type 0} (P Q : X → SourceState → SourceState → Type 0) → ((x : X) (before after : SourceState) → P x before after → Q x before after) → (xs : List X) (befores afters : List SourceState) → SomeSourceBy P xs befores afters → SomeSourceBy Q xs befores afters
some_by P Q to [] befores afters some = absurd some
some_by P Q to (x ∷ xs) [] afters some = absurd some
some_by P Q to (x ∷ xs) (before ∷ befores) [] some = absurd some
some_by P Q to (x ∷ xs) (before ∷ befores) (after ∷ afters) (inl here) = inl (to x before after here)
some_by P Q to (x ∷ xs) (before ∷ befores) (after ∷ afters) (inr later) = inr (some_by P Q to xs befores afters later)

-- what never holds of a source and what the list has for it holds of none of them
pub none_by : {X : Type 0} (P : X → SourceState → SourceState → Type 0) → ((x : X) (before after : SourceState) → P x before after → ⊥) → (xs : List X) (befores afters : List SourceState) → SomeSourceBy P xs befores afters → ⊥
none_by P never [] befores afters some = some
none_by P never (x ∷ xs) [] afters some = some
none_by P never (x ∷ xs) (before ∷ befores) [] some = some
none_by P never (x ∷ xs) (before ∷ befores) (after ∷ afters) (inl here) = never x before after here
none_by P never (x ∷ xs) (before ∷ befores) (after ∷ afters) (inr later) = none_by P never xs befores afters later

-- ---- the first source

pub first_by : (P Q : SourceState → SourceState → Type 0) → ((before after : SourceState) → P before after → Q before after) → (befores afters : List SourceState) → FirstSource P befores afters → FirstSource Q befores afters
first_by P Q to [] [] first = tt
first_by P Q to [] (after ∷ afters) first = absurd first
first_by P Q to (before ∷ befores) [] first = absurd first
first_by P Q to (before ∷ befores) (after ∷ afters) first = (to before after first.0, first.1)

-- what holds of each source holds yet, once the first one has gone on
pub each_first : (P Q : SourceState → SourceState → Type 0) → ((before now after : SourceState) → P before now → Q now after → P before after) → (befores middles afters : List SourceState) → EachSource P befores middles → FirstSource Q middles afters → EachSource P befores afters
each_first P Q on [] [] [] each first = tt
each_first P Q on [] [] (after ∷ afters) each first = absurd first
each_first P Q on [] (now ∷ middles) afters each first = absurd each
each_first P Q on (before ∷ befores) [] afters each first = absurd each
each_first P Q on (before ∷ befores) (now ∷ middles) [] each first = absurd first
each_first P Q on (before ∷ befores) (now ∷ middles) (after ∷ afters) each first = (on before now after each.0 first.0, subst (EachSource P befores) (sym first.1) each.1)

-- it is there where a worker claimed a chunk
pub first_there : (P : List ℕ → SourceState → SourceState → Type 0) (Q : SourceState → SourceState → Type 0) (place : ℕ) (lists : List (List ℕ)) (befores middles afters : List SourceState) → 1 ≤ times_over place lists → EachSourceBy P lists befores middles → FirstSource Q middles afters
    → (before : SourceState) × (after : SourceState) × Q before after
first_there P Q place [] befores middles afters claimed each first = absurd (omega (arith, claimed))
first_there P Q place (list ∷ lists) [] middles afters claimed each first = absurd each
first_there P Q place (list ∷ lists) (before ∷ befores) [] afters claimed each first = absurd each
first_there P Q place (list ∷ lists) (before ∷ befores) (now ∷ middles) [] claimed each first = absurd first
first_there P Q place (list ∷ lists) (before ∷ befores) (now ∷ middles) (after ∷ afters) claimed each first = (now, after, first.0)

pub first_same : (P : SourceState → SourceState → Type 0) → ((source : SourceState) → P source source) → (sources : List SourceState) → FirstSource P sources sources
first_same P same [] = tt
first_same P same (source ∷ sources) = (same source, refl)

-- ---- sources that are as they were

pub each_same : (P : SourceState → SourceState → Type 0) → ((source : SourceState) → P source source) → (sources : List SourceState) → EachSource P sources sources
each_same P same [] = tt
each_same P same (source ∷ sources) = (same source, each_same P same sources)

pub each_lasts : (sources : List SourceState) → EachSource Lasts sources sources
each_lasts sources = each_same Lasts (λ source. record { file = refl; faults = omega arith; idle = omega arith }) sources

pub each_clear : (sources : List SourceState) → EachSource IsLeftClear sources sources
each_clear sources = each_same IsLeftClear (λ source. inr refl) sources

-- the list has the same for each of them
abbrev pub for_each : {X : Type 0} → X → List SourceState → List X
for_each x sources = map (λ (source : SourceState). x) sources

pub each_same_by : {X : Type 0} (P : X → SourceState → SourceState → Type 0) (x : X) → ((source : SourceState) → P x source source) → (sources : List SourceState) → EachSourceBy P (for_each x sources) sources sources
each_same_by P x same [] = tt
each_same_by P x same (source ∷ sources) = (same source, each_same_by P x same sources)

-- ---- lists that are put together

pub joined_map : {X Y : Type 0} (f : X → List Y) (xs : List X) → flat_map (λ (ys : List Y). ys) (map f xs) ≡ flat_map f xs
joined_map f [] = refl
joined_map f (x ∷ xs) = ap (λ (ys : List _). f x ++ ys) (joined_map f xs)

pub joined_none : {X Y : Type 0} (f : X → List Y) (x : X) → f x ≡ [] → (sources : List SourceState) → flat_map f (for_each x sources) ≡ []
joined_none f x none [] = refl
joined_none f x none (source ∷ sources) = ap (λ (ys : List _). ys ++ flat_map f (for_each x sources)) none ∙ joined_none f x none sources
