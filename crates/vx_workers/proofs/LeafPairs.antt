-- Reasons of which two are of one leaf only where the first is of one of certain chunks.
use Rattle.std.proofs.Common.{◌≢◌, ℕ, List, [], ◌∷◌, ◌++◌, map}
use Rattle.std.specs.List.{All, AllByRecursion, AllPairs}
use Rattle.std.proofs.lemmas.List.Elements.{All-nil, All-cons, All-head, All-tail}
use Rattle.std.proofs.lemmas.List.Kept.{AllPairs-cons}
use Rattle.vx_rows.specs.Reads.{IsAmong}
use Rattle.vx_drive.specs.Fetched.{AreDistinct}
use Rattle.vx_drive.proofs.Distinct.{differs, distinct_behind, each_cross, pairs_none, pairs_then, pairs_weaker}
use Rattle.vx_workers.specs.Reasons.{Reason, leaf_of, AreOfOneLeafOnlyBehind}

-- which chunks do not matter where all leaves differ
each_leaf : (chunks : List ℕ) (reason : Reason) (reasons : List Reason) → All (λ leaf. reason.leaf ≢ leaf) (map leaf_of reasons) → All (AreOfOneLeafOnlyBehind chunks reason) reasons
each_leaf chunks reason [] apart = All-nil (AreOfOneLeafOnlyBehind chunks reason)
each_leaf chunks reason (other ∷ others) apart =
    All-cons (AreOfOneLeafOnlyBehind chunks reason) other others
    (λ same. absurd (All-head (λ leaf. reason.leaf ≢ leaf) other.leaf (map leaf_of others) apart same))
    (each_leaf chunks reason others (All-tail (λ leaf. reason.leaf ≢ leaf) other.leaf (map leaf_of others) apart))

pairs_of_leaves : (chunks : List ℕ) (reasons : List Reason) → AreDistinct (map leaf_of reasons) → AllPairs (AreOfOneLeafOnlyBehind chunks) reasons
pairs_of_leaves chunks [] apart = pairs_none (AreOfOneLeafOnlyBehind chunks)
pairs_of_leaves chunks (reason ∷ reasons) apart =
    AllPairs-cons (AreOfOneLeafOnlyBehind chunks) reason reasons
    (each_leaf chunks reason reasons (differs reason.leaf (map leaf_of reasons) apart))
    (pairs_of_leaves chunks reasons (distinct_behind reason.leaf (map leaf_of reasons) apart))

-- New reasons behind others: of these chunks there are more, and each of the others is of one of them, or of another leaf
-- than each new one.
pub leaves_then : (chunks more : List ℕ) (P Q : Reason → Type 0) (reasons news : List Reason) → ((x : ℕ) → IsAmong x chunks → IsAmong x more) → ((one other : Reason) → P one → Q other → AreOfOneLeafOnlyBehind more one other)
    → AllPairs (AreOfOneLeafOnlyBehind chunks) reasons → AreDistinct (map leaf_of news) → AllByRecursion P reasons → AllByRecursion Q news → AllPairs (AreOfOneLeafOnlyBehind more) (reasons ++ news)
leaves_then chunks more P Q reasons news wider apart pairs distinct first second =
    pairs_then (AreOfOneLeafOnlyBehind more) reasons news
    (pairs_weaker (AreOfOneLeafOnlyBehind chunks) (AreOfOneLeafOnlyBehind more) (λ one other only same. wider one.chunk (only same)) reasons pairs)
    (pairs_of_leaves more news distinct)
    (each_cross P Q (AreOfOneLeafOnlyBehind more) apart reasons news first second)
