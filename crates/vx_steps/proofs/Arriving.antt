-- What is wanted brings no bytes, and those that came stay.
use Rattle.std.proofs.Common.{◌≡◌, ℕ, suc, ◌==◌, inl, inr, Bool, true, false, List, [], ◌∷◌, ◌++◌, Option, Some, None, Result, Ok, Err, refl, sym, ◌∙◌, subst}
use Rattle.std.specs.Prelude.{if◌then◌else◌, OnErr, OnOk}
use Rattle.std.specs.List.{slice_get}
use Rattle.std.specs.declared.alloc.AllocError.{AllocError}
use Rattle.std.proofs.lemmas.Option.{same_Some}
use Rattle.vx_steps.specs.ReadTableData.{Wanted, ReadsData}
use Rattle.vx_steps.specs.ReadTable.{bytes_of, IsWanted, NoneCame}
use Rattle.vx_steps.specs.Wants.{Grows}

-- a choice of which one branch gives what another one does
chosen_by : (b : Bool) (own more less : Option (List ℕ)) (bytes : List ℕ) → (more ≡ Some bytes → less ≡ Some bytes) → (if b then own else more) ≡ Some bytes → (if b then own else less) ≡ Some bytes
chosen_by true own more less bytes f is = is
chosen_by false own more less bytes f is = f is

none_chosen : (b : Bool) (bytes : List ℕ) → (if b then None else None) ≡ Some bytes → ⊥
none_chosen true bytes is = cc
none_chosen false bytes is = cc

pushed_came : (old : List Wanted) (segment s : ℕ) (bytes : List ℕ) → bytes_of (old ++ record { segment = segment; bytes = None } ∷ []) s ≡ Some bytes → bytes_of old s ≡ Some bytes
pushed_came [] segment s bytes is = absurd (none_chosen (segment == s) bytes is)
pushed_came (w ∷ old) segment s bytes is = chosen_by (w.segment == s) w.bytes (bytes_of (old ++ record { segment = segment; bytes = None } ∷ []) s) (bytes_of old s) bytes (pushed_came old segment s bytes) is

wanted_came : (segment : ℕ) (old new : List Wanted) → IsWanted segment old new → NoneCame old new
wanted_came segment old new (inl (there, same)) s bytes is =
    let P : List Wanted → Type 0 = λ ws. bytes_of ws s ≡ Some bytes in
    subst P same is
wanted_came segment old new (inr (nowhere, more)) s bytes is =
    let P : List Wanted → Type 0 = λ ws. bytes_of ws s ≡ Some bytes in
    pushed_came old segment s bytes (subst P more is)

pub want_came : (result : Result (Unit {0}) AllocError) (segment : ℕ) (old new : ReadsData) → OnOk result (IsWanted segment old.wanted new.wanted) → OnErr result (new ≡ old) → NoneCame old.wanted new.wanted
want_came (Ok x) segment old new wanted same s bytes is = wanted_came segment old.wanted new.wanted wanted s bytes is
want_came (Err e) segment old new wanted same s bytes is =
    let P : ReadsData → Type 0 = λ r. bytes_of r.wanted s ≡ Some bytes in
    subst P same is

pub came_then : (old mid new : List Wanted) → NoneCame old mid → NoneCame mid new → NoneCame old new
came_then old mid new first second segment bytes is = first segment bytes (second segment bytes is)

-- where more is wanted, the bytes that came stay
pub bytes_grow : (old new : List Wanted) → Grows old new → (segment : ℕ) (bytes : List ℕ) → bytes_of old segment ≡ Some bytes → bytes_of new segment ≡ Some bytes
bytes_grow [] new grows segment bytes is = absurd cc
bytes_grow (w ∷ old) [] grows segment bytes is = let none : slice_get [] 0 ≡ Some w = grows 0 w refl in absurd cc
bytes_grow (w ∷ old) (v ∷ new) grows segment bytes is =
    let one : v ≡ w = same_Some v w (grows 0 w refl) in
    let P : Wanted → Type 0 = λ x. (if x.segment == segment then x.bytes else bytes_of new segment) ≡ Some bytes in
    subst P (sym one) (chosen_by (w.segment == segment) w.bytes (bytes_of old segment) (bytes_of new segment) bytes (bytes_grow old new (λ place x at. grows (suc place) x at) segment bytes) is)

-- and where none came, none had come before
pub none_grow : (old new : List Wanted) → Grows old new → (segment : ℕ) → bytes_of new segment ≡ None → bytes_of old segment ≡ None
none_grow old new grows segment none = by (bytes_of old segment) refl
  where
    by : (o : Option (List ℕ)) → bytes_of old segment ≡ o → bytes_of old segment ≡ None
    by None e = e
    by (Some bytes) e = let both : Some bytes ≡ None = sym (bytes_grow old new grows segment bytes e) ∙ none in absurd cc
