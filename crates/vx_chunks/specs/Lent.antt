-- What holds of all sources that are lent to a call, as they are before it and after it.
use Rattle.std.specs.Prelude.{◌≡◌, ℕ, ◌⊎◌, List, [], ◌∷◌, Some}
use Rattle.std.specs.List.{AllByRecursion}
use Rattle.vx_base.specs.Sources.{SourceState}

-- it holds of each source, and there are as many after as before
abbrev pub EachSource : (SourceState → SourceState → Type 0) → List SourceState → List SourceState → Type 0
EachSource P [] [] = Unit {0}
EachSource P [] (after ∷ afters) = ⊥
EachSource P (before ∷ befores) [] = ⊥
EachSource P (before ∷ befores) (after ∷ afters) = P before after × EachSource P befores afters

-- it holds of one of them
abbrev pub SomeSource : (SourceState → SourceState → Type 0) → List SourceState → List SourceState → Type 0
SomeSource P [] afters = ⊥
SomeSource P (before ∷ befores) [] = ⊥
SomeSource P (before ∷ befores) (after ∷ afters) = P before after ⊎ SomeSource P befores afters

-- it holds of each source and what the list has for it
abbrev pub EachSourceBy : {X : Type 0} → (X → SourceState → SourceState → Type 0) → List X → List SourceState → List SourceState → Type 0
EachSourceBy P [] [] [] = Unit {0}
EachSourceBy P [] [] (after ∷ afters) = ⊥
EachSourceBy P [] (before ∷ befores) afters = ⊥
EachSourceBy P (x ∷ xs) [] afters = ⊥
EachSourceBy P (x ∷ xs) (before ∷ befores) [] = ⊥
EachSourceBy P (x ∷ xs) (before ∷ befores) (after ∷ afters) = P x before after × EachSourceBy P xs befores afters

-- it holds of one of them and what the list has for it
abbrev pub SomeSourceBy : {X : Type 0} → (X → SourceState → SourceState → Type 0) → List X → List SourceState → List SourceState → Type 0
SomeSourceBy P [] befores afters = ⊥
SomeSourceBy P (x ∷ xs) [] afters = ⊥
SomeSourceBy P (x ∷ xs) (before ∷ befores) [] = ⊥
SomeSourceBy P (x ∷ xs) (before ∷ befores) (after ∷ afters) = P x before after ⊎ SomeSourceBy P xs befores afters

-- it holds of the first source, and the others are as they were
abbrev pub FirstSource : (SourceState → SourceState → Type 0) → List SourceState → List SourceState → Type 0
FirstSource P [] [] = Unit {0}
FirstSource P [] (after ∷ afters) = ⊥
FirstSource P (before ∷ befores) [] = ⊥
FirstSource P (before ∷ befores) (after ∷ afters) = P before after × (afters ≡ befores)

-- all sources tell this file
abbrev pub AllTell : List ℕ → List SourceState → Type 0
AllTell file sources = AllByRecursion (λ (source : SourceState). source.file ≡ Some file) sources

-- where all sources tell one file, this holds of it
abbrev pub WhereAllTell : List SourceState → (List ℕ → Type 0) → Type 0
WhereAllTell sources P = (file : List ℕ) → AllTell file sources → P file
