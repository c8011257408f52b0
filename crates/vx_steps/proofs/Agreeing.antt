-- What agrees with what was delivered agreed with what was delivered before.
use Rattle.std.proofs.Common.{◌≡◌, ℕ, zero, suc, ◌==◌, ⊎_elim, Bool, true, false, List, [], ◌∷◌, Option, Some, None, set, refl, sym, ap, ◌∙◌, subst, arith}
use Rattle.std.specs.Prelude.{if◌then◌else◌, IsSomeAnd}
use Rattle.std.specs.List.{slice_get}
use Rattle.std.proofs.lemmas.Bool.{cases_eq}
use Rattle.vx_steps.specs.declared.reads.ReadId.{ReadId}
use Rattle.vx_plan.specs.Nodes.{Node}
use Rattle.vx_steps.specs.KeptData.{Kept}
use Rattle.vx_rows.specs.SegmentLeaves.{Bytes}
use Rattle.vx_steps.specs.ReadTableData.{Wanted, ReadsData}
use Rattle.vx_steps.specs.ReadTable.{Delivers, bytes_of}
use Rattle.vx_steps.specs.Agreement.{Agrees}
use Rattle.vx_steps.specs.Delivered.{IsOf}
use Rattle.vx_steps.specs.Wants.{IsAsked}
use Rattle.vx_steps.proofs.WantedReads.{set_there}

-- the bytes that were delivered for a segment
pub bytes_found : (wanted : List Wanted) (outside : Bytes) (segment : ℕ) (bytes : List ℕ) → Agrees wanted outside → bytes_of wanted segment ≡ Some bytes → outside segment ≡ Some bytes
bytes_found [] outside segment bytes agrees came = absurd cc
bytes_found (w ∷ wanted) outside segment bytes agrees came = by_test (w.segment == segment) refl came (λ rest. bytes_found wanted outside segment bytes (λ place v b at is. agrees (suc place) v b at is) rest)
  where
    by_test : (b : Bool) → (w.segment == segment) ≡ b → (if b then w.bytes else bytes_of wanted segment) ≡ Some bytes → (bytes_of wanted segment ≡ Some bytes → outside segment ≡ Some bytes) → outside segment ≡ Some bytes
    by_test true e is rest =
        let same : w.segment ≡ segment = grind arith in
        ap outside (sym same) ∙ agrees 0 w bytes refl is
    by_test false e is rest = rest is

-- ---- what a scan holds is of what lies outside

-- more is wanted, and nothing came for it
pub of_wanted : (nodes : List Node) (offset : ℕ) (old new : List Wanted) (leaves made : List Kept) → ((outside : Bytes) → Agrees old outside → Agrees new outside) → (outside : Bytes) → IsOf nodes offset old leaves made outside → IsOf nodes offset new leaves made outside
of_wanted nodes offset old new leaves made agree outside is = record { bytes = agree outside is.bytes; leaves_are = is.leaves_are; made_are = is.made_are }

set_at : (wanted : List Wanted) (place : ℕ) (x y : Wanted) → slice_get wanted place ≡ Some y → (v : Wanted) → slice_get (set wanted place x) place ≡ Some v → x ≡ v
set_at [] place x y there v at = absurd cc
set_at (w ∷ wanted) zero x y there v at = cc
set_at (w ∷ wanted) (suc place) x y there v at = set_at wanted place x y there v at

-- the bytes that lie outside came for a segment
pub agrees_told : (read : ReadId) (bytes : List ℕ) (old new : ReadsData) (delivers : Delivers read bytes old new) (outside : Bytes) → Agrees old.wanted outside → outside delivers.segment ≡ Some bytes → Agrees new.wanted outside
agrees_told read bytes old new delivers outside agrees told place w b at is =
    ⊎_elim here (λ (apart : read.0 ≡ place → ⊥). agrees place w b (sym (set_there old.wanted read.0 place came apart) ∙ sym (ap (λ (ws : List Wanted). slice_get ws place) delivers.taken) ∙ at) is) (cases_eq read.0 place)
  where
    came : Wanted
    came = record { segment = delivers.segment; bytes = Some bytes }

    here : read.0 ≡ place → outside w.segment ≡ Some b
    here same =
        let at2 : slice_get (set old.wanted read.0 (record { segment = delivers.segment; bytes = Some bytes })) read.0 ≡ Some w = sym (ap (λ (ws : List Wanted). slice_get ws read.0) delivers.taken) ∙ ap (slice_get new.wanted) same ∙ at in
        let one : record { segment = delivers.segment; bytes = Some bytes } ≡ w = set_at old.wanted read.0 (record { segment = delivers.segment; bytes = Some bytes }) (record { segment = delivers.segment; bytes = None }) delivers.at w at2 in
        let segment : delivers.segment ≡ w.segment = ap (λ (x : Wanted). x.segment) one in
        let equal : Some bytes ≡ w.bytes = ap (λ (x : Wanted). x.bytes) one in
        ap outside (sym segment) ∙ told ∙ equal ∙ is

-- So a delivery that is told keeps the scan of that outside.
pub of_delivered : (nodes : List Node) (offset : ℕ) (read : ReadId) (bytes : List ℕ) (old new : ReadsData) (leaves made : List Kept) (delivers : Delivers read bytes old new) (outside : Bytes) → outside delivers.segment ≡ Some bytes → IsOf nodes offset old.wanted leaves made outside → IsOf nodes offset new.wanted leaves made outside
of_delivered nodes offset read bytes old new leaves made delivers outside told is = record { bytes = agrees_told read bytes old new delivers outside is.bytes told; leaves_are = is.leaves_are; made_are = is.made_are }

got_set : (wanted : List Wanted) (place : ℕ) (x y : Wanted) → slice_get wanted place ≡ Some y → slice_get (set wanted place x) place ≡ Some x
got_set [] place x y there = absurd cc
got_set (w ∷ wanted) zero x y there = refl
got_set (w ∷ wanted) (suc place) x y there = got_set wanted place x y there

stands_same : (segment other : ℕ) (bytes : Option (List ℕ)) (o : Option Wanted) → o ≡ Some (record { segment = other; bytes = bytes }) → IsSomeAnd o (λ w. w.segment ≡ segment) → other ≡ segment
stands_same segment other bytes None e h = absurd h
stands_same segment other bytes (Some w) e h = sym (ap (λ (o : Option Wanted). segment_in o) e) ∙ h
  where
    segment_in : Option Wanted → ℕ
    segment_in None = 0
    segment_in (Some v) = v.segment

-- what was wanted still is, when bytes came
pub asked_delivered : (read : ReadId) (bytes : List ℕ) (old new : ReadsData) → Delivers read bytes old new → (segment : ℕ) → IsAsked old.wanted segment → IsAsked new.wanted segment
asked_delivered read bytes old new delivers segment (place, stands) =
    let came : Wanted = record { segment = delivers.segment; bytes = Some bytes } in
    let P : List Wanted → Type 0 = λ ws. IsAsked ws segment in
    let S : Option Wanted → Type 0 = λ o. IsSomeAnd o (λ w. w.segment ≡ segment) in
    subst P (sym delivers.taken) (
      place,
      ⊎_elim
          (λ (same : read.0 ≡ place).
          let at : slice_get old.wanted place ≡ Some (record { segment = delivers.segment; bytes = None }) = ap (slice_get old.wanted) (sym same) ∙ delivers.at in
          let here : slice_get (set old.wanted read.0 came) place ≡ Some came = ap (slice_get (set old.wanted read.0 came)) (sym same) ∙ got_set old.wanted read.0 came (record { segment = delivers.segment; bytes = None }) delivers.at in
          subst S (sym here) (stands_same segment delivers.segment None (slice_get old.wanted place) at stands))
          (λ (apart : read.0 ≡ place → ⊥). subst S (sym (set_there old.wanted read.0 place came apart)) stands)
          (cases_eq read.0 place),
    )
