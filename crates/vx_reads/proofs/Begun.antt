-- Lists that begin with what was held before more was added.
use Rattle.std.proofs.Common.{◌≡◌, ℕ, List, [], ◌∷◌, ◌++◌, length, take, Result, Ok, Err, OnErr, refl, ap, ◌∙◌}
use Rattle.std.specs.declared.alloc.AllocError.{AllocError}
use Rattle.std.proofs.Math.Seq.{take-append_seam, take-length}
use Rattle.vx_reads.specs.Needed.{BeginsWith}

pub begins_itself : (held : List ℕ) → BeginsWith held held
begins_itself held = take-length held

pub begins_longer : (held more list : List ℕ) → list ≡ held ++ more → BeginsWith held list
begins_longer held more list e = ap (take (length held)) e ∙ take-append_seam held more

-- what begins with a list that begins with what was held
pub begins_through : (held list longer : List ℕ) → BeginsWith held list → BeginsWith list longer → BeginsWith held longer
begins_through [] list longer h g = refl
begins_through (x ∷ held) [] longer h g = absurd cc
begins_through (x ∷ held) (y ∷ list) [] h g = absurd cc
begins_through (x ∷ held) (y ∷ list) (z ∷ longer) h g =
    let first : z ≡ x = cc in
    let here : take (length held) list ≡ held = cc in
    let there : take (length list) longer ≡ list = cc in
    let rest : take (length held) longer ≡ held = begins_through held list longer here there in
    λ i. first i ∷ rest i

-- the same of what a call leaves that lacks memory
pub held_on : (r : Result (Unit {0}) AllocError) (held list : List ℕ) → BeginsWith held list → OnErr r (BeginsWith held list)
held_on (Ok x) held list h = tt
held_on (Err e) held list h = h

pub held_through : (r : Result (Unit {0}) AllocError) (held list longer : List ℕ) → BeginsWith held list → OnErr r (BeginsWith list longer) → OnErr r (BeginsWith held longer)
held_through (Ok x) held list longer h g = tt
held_through (Err e) held list longer h g = begins_through held list longer h g
