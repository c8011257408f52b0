-- Why it isn't known which rows are pruned: of one range among others, of zones that can't be told, and of zones inside data.
use Rattle.std.proofs.Common.{◌≡◌, ℕ, zero, suc, ◌+◌, ◌-◌, ◌<◌, inl, inr, Bool, true, false, List, [], ◌∷◌, Some, take, drop, refl, sym, ◌∙◌, subst, arith}
use Rattle.std.specs.Prelude.{slice_range}
use Rattle.std.specs.List.{slice_get}
use Rattle.vx_layout.specs.Kept.{all}
use Rattle.vx_layout.specs.Rows.{derivation}
use Rattle.vx_layout.specs.Trees.{Tree, zoned, head_of}
use Rattle.vx_rows.specs.Heads.{Head}
use Rattle.vx_rows.specs.Reads.{AnyOf}
use Rattle.vx_rows.specs.SegmentLeaves.{Bytes}
use Rattle.vx_rows.specs.Zones.{Zones}
use Rattle.vx_picking.specs.Rows.{selects_some}
use Rattle.vx_picking.proofs.SelectedRows.{dropped_at}
use Rattle.vx_reads.specs.declared.errors.ReaderError.{ReaderError}
use Rattle.vx_reads.specs.declared.errors.ReaderError.TheVariants.{ReadFault, BadSegment, BadCode, EvalFault, NoLocation, Memory}
use Rattle.vx_reads.specs.declared.reads.SegmentRead.{SegmentRead}
use Rattle.vx_reads.specs.Computed.{HasCause}
use Rattle.vx_readers.specs.Unpruned.{PruningCause, PruningFails, SelectedFails, TableFails}
use Rattle.vx_readers.specs.ZonesOver.{zones_over, ZonesBy}
use Rattle.vx_readers.specs.ZoneTables.{TableFailsBy}

-- ---- places

pub taken_there : {X : Type 0} (n : ℕ) (xs : List X) (place : ℕ) (x : X) → slice_get (take n xs) place ≡ Some x → (place < n) × (slice_get xs place ≡ Some x)
taken_there zero xs place x at = absurd cc
taken_there (suc n) [] place x at = absurd cc
taken_there (suc n) (y ∷ xs) zero x at = (omega arith, at)
taken_there (suc n) (y ∷ xs) (suc place) x at =
    let rest = taken_there n xs place x at in
    (omega (arith, rest.0), rest.1)

-- a row of a range of the mask is one of the mask
in_range : (mask : List Bool) (done end place : ℕ) → slice_get (slice_range mask done end) place ≡ Some true → (place < end - done) × (slice_get mask (done + place) ≡ Some true)
in_range mask done end place at =
    let there = taken_there (end - done) (drop done mask) place true at in
    (there.0, dropped_at mask done place ∙ there.1)

pub first_selected : (bits : List Bool) → selects_some bits ≡ true → (place : ℕ) × (slice_get bits place ≡ Some true)
first_selected [] some = absurd cc
first_selected (true ∷ bits) some = (zero, refl)
first_selected (false ∷ bits) some = let rest = first_selected bits some in (suc rest.0, rest.1)

-- ---- from one cause to another

-- what fails by the one fails by the other
abbrev RaisesAll : Bytes → ZonesBy → ℕ → List Bool → ZonesBy → ℕ → List Bool → Type 0
RaisesAll bytes zones start bits zones2 start2 bits2 = (fault : ReaderError) → SelectedFails bytes zones start bits fault → SelectedFails bytes zones2 start2 bits2 fault

cause_raised : (bytes : Bytes) (zones zones2 : ZonesBy) (start start2 : ℕ) (bits bits2 : List Bool) → RaisesAll bytes zones start bits zones2 start2 bits2 → (fault : ReaderError) → PruningCause bytes zones start bits fault → PruningCause bytes zones2 start2 bits2 fault
cause_raised bytes zones zones2 start start2 bits bits2 up (BadSegment segment) cause = up (BadSegment segment) cause
cause_raised bytes zones zones2 start start2 bits bits2 up (BadCode node row) cause = up (BadCode node row) cause
cause_raised bytes zones zones2 start start2 bits bits2 up Memory cause = tt
cause_raised bytes zones zones2 start start2 bits bits2 up ReadFault cause = absurd cause
cause_raised bytes zones zones2 start start2 bits bits2 up (EvalFault row) cause = absurd cause
cause_raised bytes zones zones2 start start2 bits bits2 up (NoLocation segment) cause = absurd cause

-- ---- a range of chunks

pub range_fails : (fault : ReaderError) (reads : List SegmentRead) (zones zones2 : ZonesBy) (start row done end : ℕ) (mask : List Bool) → ((i : ℕ) → i < end - done → zones (start + (done + i)) ≡ zones2 (row + i)) → PruningFails reads zones2 row (slice_range mask done end) fault → PruningFails reads zones start mask fault
range_fails fault reads zones zones2 start row done end mask alike fails bytes have = cause_raised bytes zones2 zones row start (slice_range mask done end) mask up fault (fails bytes have)
  where
    up : RaisesAll bytes zones2 row (slice_range mask done end) zones start mask
    up fault cause =
        let there = in_range mask done end cause.0 cause.1 in
        (done + cause.0, there.1, subst (AnyOf (TableFails bytes fault)) (sym (alike cause.0 there.0)) cause.2)

-- ---- data that has zones

table_cause : (bytes : Bytes) (head : Head) (zones : Zones) (content table : Tree) (start : ℕ) (bits : List Bool) → selects_some bits ≡ true → (fault : ReaderError) → HasCause bytes (derivation table all) 0 (head_of table).rows fault → PruningCause bytes (zones_over (zoned head zones content table)) start bits fault
table_cause bytes head zones content table start bits some (BadSegment segment) cause = let first = first_selected bits some in (first.0, first.1, inl cause)
table_cause bytes head zones content table start bits some (BadCode node row) cause = let first = first_selected bits some in (first.0, first.1, inl cause)
table_cause bytes head zones content table start bits some Memory cause = tt
table_cause bytes head zones content table start bits some ReadFault cause = absurd cause
table_cause bytes head zones content table start bits some (EvalFault row) cause = absurd cause
table_cause bytes head zones content table start bits some (NoLocation segment) cause = absurd cause

-- the zones of the node can't be told
pub table_fails : (fault : ReaderError) (reads : List SegmentRead) (t : Tree) (head : Head) (zones : Zones) (content table : Tree) (start : ℕ) (bits : List Bool) → t ≡ zoned head zones content table → selects_some bits ≡ true → TableFailsBy reads table fault → PruningFails reads (zones_over t) start bits fault
table_fails fault reads t head zones content table start bits is some fails =
    subst (λ (t : Tree). PruningFails reads (zones_over t) start bits fault) (sym is) (λ bytes have. table_cause bytes head zones content table start bits some fault (fails bytes have))

-- nor can zones inside the data
pub content_fails : (fault : ReaderError) (reads : List SegmentRead) (t : Tree) (head : Head) (zones : Zones) (content table : Tree) (start : ℕ) (bits : List Bool) → t ≡ zoned head zones content table → PruningFails reads (zones_over content) start bits fault → PruningFails reads (zones_over t) start bits fault
content_fails fault reads t head zones content table start bits is fails =
    subst (λ (t : Tree). PruningFails reads (zones_over t) start bits fault) (sym is) (λ bytes have. cause_raised bytes (zones_over content) (zones_over (zoned head zones content table)) start start bits bits (λ fault cause. (cause.0, cause.1, inr cause.2)) fault (fails bytes have))
