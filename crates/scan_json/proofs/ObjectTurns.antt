-- An object whose members are read one after another.
use Rattle.std.proofs.Common.{◌≡◌, ℕ, ◌-◌, ◌<◌, ◌≤◌, List, length, Some, None, refl, ◌∙◌, arith}
use Rattle.json.specs.Token.{Token}
use Rattle.json.specs.Json.{read_key, members, value}
use Rattle.serde_json.specs.Data.{Data, Members, no_members, put}
use Rattle.serde_json.specs.Read.{of_members, converted}
use Rattle.scan_json.specs.Members.{AreRising}
use Rattle.scan_json.specs.Reading.{read_value, read_members}
use Rattle.scan_json.proofs.Names.{rising_put}
use Rattle.scan_json.proofs.Turns.{member_read, member_refused, key_refused, members_over}

-- of the object that begins at `start`, the members before `now` are read, and are those that were found
pub record IsObjectRead (depth : ℕ) (start : List Token) (found : Members) (now : List Token) : Type 0 where
  pub bound : ℕ
  pub enough : length now ≤ bound
  pub same : read_members depth start ≡ converted (λ ms. of_members ms found) (members (value depth) bound now)
  pub within : length now ≤ length start
  pub rising : AreRising found

pub object_begun : (depth : ℕ) (ts : List Token) → IsObjectRead depth ts no_members ts
object_begun depth ts = record { bound = length ts; enough = omega arith; same = refl; within = omega arith; rising = tt }

module _ (depth : ℕ) (start : List Token) (found : Members) (ts : List Token) (so_far : IsObjectRead depth start found ts) where
  pub member_put : (k : List ℕ) (s r : List Token) (d : Data) → read_key ts ≡ Some (Some k, s) → length s < length ts → read_value depth s ≡ Some (d, r) → length r < length s
      → IsObjectRead depth start (put k d found) r
  member_put k s r d key shorter read less =
      record {
        bound = so_far.bound - 1;
        enough = omega (arith, so_far.enough);
        same = so_far.same ∙ member_read (value depth) found so_far.bound k ts s r d (omega (arith, so_far.enough)) key read;
        within = omega (arith, so_far.within);
        rising = rising_put k d found so_far.rising;
      }

  pub object_over : (r : List Token) → read_key ts ≡ Some (None, r) → read_members depth start ≡ Some (found, r)
  object_over r over = so_far.same ∙ members_over (value depth) found so_far.bound ts r so_far.enough over

  pub object_refused : (k : List ℕ) (s : List Token) → read_key ts ≡ Some (Some k, s) → read_value depth s ≡ None → read_members depth start ≡ None
  object_refused k s key none = so_far.same ∙ member_refused (value depth) found so_far.bound k ts s key none

  pub object_no_key : read_key ts ≡ None → read_members depth start ≡ None
  object_no_key none = so_far.same ∙ key_refused (value depth) found so_far.bound ts none
