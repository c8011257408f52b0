-- How many bytes the wanted segments have in memory.
use Rattle.std.proofs.Common.{◌≡◌, ℕ, ◌+◌, ◌<◌, min, List, [], ◌∷◌, ◌++◌, length, map, take, get_or, refl, sym, ap, ◌∙◌, arith}
use Rattle.std.proofs.lemmas.List.{take_more}
use Rattle.vx_steps.specs.declared.reads.SegmentBytes.{SegmentBytes}
use Rattle.vx_steps.specs.declared.reads.SegmentBytes.TheVariants.{NotYet, Came, LetGo}
use Rattle.vx_steps.specs.declared.reads.WantedSegment.{WantedSegment}
use Rattle.vx_steps.specs.ReadTable.{bytes_held, held_bytes}
use Rattle.vx_steps.specs.ReadTableData.{bytes_in, count_held, is_gone, stored_data, wanted_data}

-- the bytes that the segments have, one after another
abbrev pub held_in : List WantedSegment → ℕ
held_in [] = 0
held_in (w ∷ ws) = count_held w.bytes + held_in ws

held_pushed : (ws : List WantedSegment) (w : WantedSegment) → held_in (ws ++ w ∷ []) ≡ held_in ws + count_held w.bytes
held_pushed [] w = omega arith
held_pushed (v ∷ ws) w = omega (arith, held_pushed ws w)

held_one : (w : WantedSegment) → bytes_held (wanted_data w) (stored_data w) ≡ count_held w.bytes
held_one w = by w.bytes
  where
    by : (b : SegmentBytes) → bytes_held (record { segment = w.segment; bytes = bytes_in b }) (record { segment = w.segment; gone = is_gone b; last = w.last }) ≡ count_held b
    by NotYet = refl
    by (Came bytes) = refl
    by (LetGo bytes) = refl

-- as the data tell it
pub held_as_data : (ws : List WantedSegment) → held_bytes (map wanted_data ws) (map stored_data ws) ≡ held_in ws
held_as_data [] = refl
held_as_data (w ∷ ws) = omega (arith, held_one w, held_as_data ws)

-- one more segment, up to the greatest number
pub held_more : (ws : List WantedSegment) (i : ℕ) (w : WantedSegment) (most held : ℕ) → i < length ws → w ≡ get_or ws i w → held ≡ min (held_in (take i ws)) most → min (held + count_held w.bytes) most ≡ min (held_in (take (i + 1) ws)) most
held_more ws i w most held inside is before =
    let more : held_in (take (i + 1) ws) ≡ held_in (take i ws) + count_held w.bytes = ap held_in (take_more ws i w inside) ∙ (ap (λ (n : WantedSegment). held_in (take i ws ++ n ∷ [])) (sym is) ∙ held_pushed (take i ws) w) in
    omega arith
