-- The bytes of all wanted segments are let go, one segment after another.
use Rattle.std.proofs.Common.{◌≡◌, ℕ, zero, suc, ◌+◌, ◌<◌, ◌==◌, ⊎_elim, Bool, true, false, List, [], ◌∷◌, Some, length, map, set, refl, sym, ap, ◌∙◌, subst, arith}
use Rattle.std.specs.Prelude.{if◌then◌else◌}
use Rattle.std.specs.List.{slice_get}
use Rattle.std.specs.Option.{is_some, option_map}
use Rattle.std.proofs.lemmas.Bool.{cases_eq, eqb-true}
use Rattle.std.proofs.lemmas.Option.{none-some, slice_get-map, slice_get_within}
use Rattle.vx_steps.specs.declared.reads.WantedSegment.{WantedSegment}
use Rattle.vx_steps.specs.ReadTableData.{bytes_in, is_gone, stored_data, wanted_data}
use Rattle.vx_steps.specs.ReadTable.{bytes_of, IsGone}
use Rattle.vx_steps.proofs.WantedReads.{set_there}

-- the bytes of the segment are gone, if they came
abbrev pub IsLet : WantedSegment → Type 0
IsLet w = is_some (bytes_in w.bytes) ≡ true → is_gone w.bytes ≡ true

-- the bytes of the first so many are
abbrev pub AreLet : List WantedSegment → ℕ → Type 0
AreLet ws count = (place : ℕ) (w : WantedSegment) → place < count → slice_get ws place ≡ Some w → IsLet w

put_here : (ws : List WantedSegment) (place : ℕ) (v x : WantedSegment) → slice_get (set ws place v) place ≡ Some x → v ≡ x
put_here [] zero v x h = absurd (none-some x h)
put_here [] (suc place) v x h = absurd (none-some x h)
put_here (w ∷ ws) zero v x h = cc
put_here (w ∷ ws) (suc place) v x h = put_here ws place v x h

-- and so are those of one more, which are let go
pub let_more : (ws : List WantedSegment) (place : ℕ) (v : WantedSegment) → IsLet v → AreLet ws place → AreLet (set ws place v) (place + 1)
let_more ws place v own before p x less got =
    ⊎_elim
    (λ (e : place ≡ p).
    let P : ℕ → Type 0 = λ k. slice_get (set ws place v) k ≡ Some x in
    subst IsLet (put_here ws place v x (subst P (sym e) got)) own)
    (λ (apart : place ≡ p → ⊥).
    let earlier : p < place = omega arith in
    before p x earlier (sym (set_there ws place p v apart) ∙ got))
    (cases_eq place p)

-- where the bytes of a segment stand that came
abbrev Stands : List WantedSegment → ℕ → List ℕ → Type 0
Stands ws segment bytes = (place : ℕ) × (w : WantedSegment) × (slice_get ws place ≡ Some w) × (w.segment ≡ segment) × (bytes_in w.bytes ≡ Some bytes)

first_or : (w : WantedSegment) (ws : List WantedSegment) (segment : ℕ) (bytes : List ℕ) (b : Bool) → (w.segment == segment) ≡ b → (bytes_of (map wanted_data ws) segment ≡ Some bytes → Stands ws segment bytes) → (if b then bytes_in w.bytes else bytes_of (map wanted_data ws) segment) ≡ Some bytes → Stands (w ∷ ws) segment bytes
first_or w ws segment bytes true e behind h = (0, w, refl, eqb-true w.segment segment e, h)
first_or w ws segment bytes false e behind h =
    let found = behind h in
    (suc found.0, found.1, found.2, found.3, found.4)

bytes_place : (ws : List WantedSegment) (segment : ℕ) (bytes : List ℕ) → bytes_of (map wanted_data ws) segment ≡ Some bytes → Stands ws segment bytes
bytes_place [] segment bytes came = absurd (none-some bytes came)
bytes_place (w ∷ ws) segment bytes came = first_or w ws segment bytes (w.segment == segment) refl (λ h. bytes_place ws segment bytes h) came

-- in the end the bytes are gone of each segment of which they came
pub all_gone : (ws : List WantedSegment) (count segment : ℕ) (bytes : List ℕ) → length ws < count + 1 → AreLet ws count → bytes_of (map wanted_data ws) segment ≡ Some bytes → IsGone (map stored_data ws) segment
all_gone ws count segment bytes all let_go came =
    let found = bytes_place ws segment bytes came in
    let within = slice_get_within ws found.0 found.1 found.2 in
    let passed : found.0 < count = omega arith in
    (found.0, stored_data found.1, slice_get-map stored_data ws found.0 ∙ ap (option_map stored_data) found.2, found.3, let_go found.0 found.1 passed found.2 (ap is_some found.4))
