-- Needs beside each other that name one segment.
use Rattle.std.proofs.Common.{◌≡◌, ℕ, ◌+◌, ◌<◌, ◌⊎◌, inl, inr, ⊎_elim, List, Option, Some, None, length, take, refl, sym, ap, subst}
use Rattle.std.specs.Prelude.{IsSomeAnd}
use Rattle.std.specs.List.{slice_get}
use Rattle.std.proofs.lemmas.Option.{slice_get-get_or, slice_get_within}
use Rattle.vx_steps.specs.declared.placed_reads.PlacedRead.{PlacedRead}
use Rattle.vx_steps.specs.HeldData.{HeldData, HasRoom, KeepsRoom}
use Rattle.vx_steps.specs.Needs.{Among}
use Rattle.vx_steps.specs.SegmentRuns.{NamesAt}
use Rattle.vx_steps.proofs.Needing.{among_next, placed_at}

pub named_is : (needs : List PlacedRead) (i segment : ℕ) → i < length needs → NamesAt needs i segment → (placed_at needs i).segment ≡ segment
named_is needs i segment inside names =
    let P : Option PlacedRead → Type 0 = λ o. IsSomeAnd o (λ need. need.segment ≡ segment) in
    subst P (slice_get-get_or needs i (record { leaf = 0; segment = 0; from = 0; last = 0 }) inside) names

pub is_named : (needs : List PlacedRead) (i segment : ℕ) → i < length needs → (placed_at needs i).segment ≡ segment → NamesAt needs i segment
is_named needs i segment inside is =
    let P : Option PlacedRead → Type 0 = λ o. IsSomeAnd o (λ need. need.segment ≡ segment) in
    subst P (sym (slice_get-get_or needs i (record { leaf = 0; segment = 0; from = 0; last = 0 }) inside)) is

pub named_inside : (needs : List PlacedRead) (i segment : ℕ) → NamesAt needs i segment → i < length needs
named_inside needs i segment names = by (slice_get needs i) refl names
  where
    by : (o : Option PlacedRead) → slice_get needs i ≡ o → IsSomeAnd o (λ need. need.segment ≡ segment) → i < length needs
    by None e h = absurd h
    by (Some need) e h = slice_get_within needs i need e

-- ---- room for the segments of the first so many needs, but for the one that the next need names

abbrev pub HaveRoomBut : List PlacedRead → ℕ → HeldData → Type 0
HaveRoomBut needs i held = (need : PlacedRead) → Among need (take i needs) → HasRoom held need.segment ⊎ NamesAt needs i need.segment

-- the run ends, and there is room
pub room_made : (needs : List PlacedRead) (i : ℕ) (old new : HeldData) → i < length needs → KeepsRoom old new → HasRoom new (placed_at needs i).segment → HaveRoomBut needs i old → HaveRoomBut needs (i + 1) new
room_made needs i old new inside keeps room before need among =
    let Q : ℕ → Type 0 = λ s. HasRoom new s in
    ⊎_elim
    (λ (a : Among need (take i needs)). ⊎_elim (λ (has : HasRoom old need.segment). inl (keeps need.segment has)) (λ (names : NamesAt needs i need.segment). inl (subst Q (named_is needs i need.segment inside names) room)) (before need a))
    (λ (e : placed_at needs i ≡ need). inl (subst Q (ap (λ (n : PlacedRead). n.segment) e) room))
    (among_next needs i inside need among)

-- the run goes on
pub room_later : (needs : List PlacedRead) (i : ℕ) (held : HeldData) → i < length needs → NamesAt needs (i + 1) (placed_at needs i).segment → HaveRoomBut needs i held → HaveRoomBut needs (i + 1) held
room_later needs i held inside next before need among =
    let N : ℕ → Type 0 = λ s. NamesAt needs (i + 1) s in
    ⊎_elim
    (λ (a : Among need (take i needs)). ⊎_elim (λ (has : HasRoom held need.segment). inl has) (λ (names : NamesAt needs i need.segment). inr (subst N (named_is needs i need.segment inside names) next)) (before need a))
    (λ (e : placed_at needs i ≡ need). inr (subst N (ap (λ (n : PlacedRead). n.segment) e) next))
    (among_next needs i inside need among)
