-- What holds of derivations, whatever tree or plan they come from.
use Rattle.std.specs.Prelude.{◌≡◌, ℕ, ◌⊎◌, map, None, IsSome}
use Rattle.vx_rows.specs.Derivations.{LeafRow, Derivation, Leaves, derived}
use Rattle.vx_rows.specs.Reads.{Way, through, Found, reads_of, Finds, FindsOnly, found_in, AreComeToBy, ReadsLeafRow, LacksValues, IsFaulty, IsFine}
use Rattle.vx_rows.specs.SegmentLeaves.{Bytes, leaves_of, LacksBytes, IsTorn, SameBytesFor}
use Rattle.vx_rows.specs.Whole.{IsWhole, IsStrict, GiveEachRow, GiveFitting, AgreeOn}
use Rattle.vx_rows.specs.Renumbered.{renumbered, way_renumbered, read_renumbered}
use Rattle.vx_rows.specs.Given.{GivenValues, with_given, AreCertified}

-- ---- the way of a read

-- the same is found, in the same order, whatever the way
abbrev pub FoundAnyWay : Type 0
FoundAnyWay = (way other : Way) (d : Derivation) → found_in (reads_of way d) ≡ found_in (reads_of other d)

-- whatever is read inside an outermost dictionary is come to through its values
abbrev pub ReadThroughValues : Type 0
ReadThroughValues = (dictionary : ℕ) (d : Derivation) → AreComeToBy (through dictionary) (reads_of (through dictionary) d)

-- ---- what reads say of values

-- a faulty read makes the row a fault
abbrev pub FaultyReadIsFault : Type 0
FaultyReadIsFault = (leaves : Leaves) (way : Way) (d : Derivation)
    → IsStrict d → Finds (IsFaulty leaves) (reads_of way d) → derived leaves d ≡ None

-- where each read is fine, the row has a value
abbrev pub FineReadsGiveValue : Type 0
FineReadsGiveValue = (leaves : Leaves) → GiveEachRow leaves → (way : Way) (d : Derivation)
    → IsWhole d → FindsOnly (IsFine leaves) (reads_of way d) → IsSome (derived leaves d)

-- leaves that agree on what is read give one value
abbrev pub ReadsDecideValue : Type 0
ReadsDecideValue = (ones others : Leaves) (way : Way) (d : Derivation)
    → FindsOnly (AgreeOn ones others) (reads_of way d) → derived ones d ≡ derived others d

-- and so do bytes that are the same for each segment that is read
abbrev pub BytesDecideValue : Type 0
BytesDecideValue = (ones others : Bytes) (way : Way) (d : Derivation)
    → FindsOnly (SameBytesFor ones others) (reads_of way d) → derived (leaves_of ones) d ≡ derived (leaves_of others) d

-- ---- the leaves of bytes

-- leaves that bytes spell have a value for each row
abbrev pub BytesGiveEachRow : Type 0
BytesGiveEachRow = (bytes : Bytes) → GiveEachRow (leaves_of bytes)

-- and each of them fits the leaf's dtype
abbrev pub BytesGiveFitting : Type 0
BytesGiveFitting = (bytes : Bytes) → GiveFitting (leaves_of bytes)

-- a leaf that lacks values has no bytes, or is torn
abbrev pub LackingIsCaused : Type 0
LackingIsCaused = (bytes : Bytes) (found : Found) → LacksValues (leaves_of bytes) found → LacksBytes bytes found ⊎ IsTorn bytes found

-- and a torn one lacks values
abbrev pub TornLacksValues : Type 0
TornLacksValues = (bytes : Bytes) (found : Found) → IsTorn bytes found → LacksValues (leaves_of bytes) found

-- ---- other numbers for dictionaries and lists

-- with other numbers a row is worth the same
abbrev pub NumbersDontCount : Type 0
NumbersDontCount = (leaves : Leaves) (number_of : ℕ → ℕ) (d : Derivation) → derived leaves (renumbered number_of d) ≡ derived leaves d

-- and reads the same, by the other numbers
abbrev pub ReadsAreRenumbered : Type 0
ReadsAreRenumbered = (number_of : ℕ → ℕ) (way : Way) (d : Derivation)
    → reads_of (way_renumbered number_of way) (renumbered number_of d) ≡ map (read_renumbered number_of) (reads_of way d)

-- ---- values that are handed in

-- where nothing is handed in, a row is what it was
abbrev pub NoneGivenIsSame : Type 0
NoneGivenIsSame = (d : Derivation) → with_given (λ _. None) d ≡ d

-- with the values that would be read a row is worth what it was
abbrev pub CertifiedIsSame : Type 0
CertifiedIsSame = (leaves : Leaves) (values_for : GivenValues) (d : Derivation)
    → AreCertified leaves values_for d → derived leaves (with_given values_for d) ≡ derived leaves d

-- and whatever is handed in, no cell is read that wasn't
abbrev pub GivenReadsNoMore : Type 0
GivenReadsNoMore = (values_for : GivenValues) (d : Derivation) (way other : Way) (at : LeafRow)
    → ReadsLeafRow other at (reads_of way (with_given values_for d)) → ReadsLeafRow other at (reads_of way d)
