use Rattle.std.proofs.Common.{◌≡◌, ℕ, ◌⊎◌, ◌<◌, Some, None, take, map}
use Rattle.std.specs.List.{slice_get}
use Rattle.vx_steps.specs.declared.leaf_reads.LeafRead.{LeafRead}
use Rattle.vx_steps.specs.Kept.{kept_at}
use Rattle.vx_steps.specs.Needs.{Among}
use Rattle.vx_steps.specs.Pieces.{read_of}
use Rattle.vx_steps.specs.ReadTable.{IsNamed, KeepsStored, NoneCame}
use Rattle.vx_steps.specs.Agreement.{KeepsAgreeing}
use Rattle.vx_steps.specs.Wants.{IsAsked, IsNeeded, Grows}
use Rattle.vx_steps.proofs.needs.want_needs.Given as goal

abbrev pub invariant-loop-place : goal.invariant-loop-place
invariant-loop-place l = record {
  all : (read : LeafRead) → Among read (take l.place (map read_of l.needs)) → kept_at l.handed.all read.leaf ≡ None → IsAsked l.reads.wanted read.segment;
  only : (segment : ℕ) → IsAsked l.reads.wanted segment → IsAsked l.fn.reads.wanted segment ⊎ IsNeeded (map read_of l.needs) l.handed.all segment;
  grows : Grows l.fn.reads.wanted l.reads.wanted;
  came : NoneCame l.fn.reads.wanted l.reads.wanted;
  count : l.reads.handed ≡ l.fn.reads.handed;
  named : (place : ℕ) → place < l.place → (need : LeafRead) → slice_get (map read_of l.needs) place ≡ Some need → kept_at l.handed.all need.leaf ≡ None → IsNamed l.reads.stored need.segment place;
  stored : KeepsStored l.fn.reads l.reads;
  agrees : KeepsAgreeing l.fn.reads.wanted l.reads.wanted;
}
