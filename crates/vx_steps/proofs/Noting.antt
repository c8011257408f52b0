-- What splits read is noted, split by split.
use Rattle.std.proofs.Common.{◌≡◌, ℕ, ◌+◌, ◌<◌, ◌≤◌, ◌⊎◌, inl, inr, ⊎_elim, List, [], ◌∷◌, ◌++◌, Some, length, take, sym, ap, ◌∙◌, subst, arith}
use Rattle.std.specs.List.{slice_get}
use Rattle.std.proofs.lemmas.Bool.{cases_lt}
use Rattle.std.proofs.lemmas.List.{map-append, take_all, take_more}
use Rattle.std.proofs.lemmas.Option.{same_Some, slice_get_within}
use Rattle.vx_plan.specs.Nodes.{Node}
use Rattle.vx_steps.specs.declared.jobs.Job.{Job}
use Rattle.vx_steps.specs.declared.later_reads.LaterReads.{LaterReads}
use Rattle.vx_steps.specs.declared.leaf_reads.LeafRead.{LeafRead}
use Rattle.vx_steps.specs.declared.placed_reads.PlacedRead.{PlacedRead}
use Rattle.vx_steps.specs.declared.splits.Split.{Split}
use Rattle.vx_steps.specs.HandedLeaves.{split_reads, NotesSplit}
use Rattle.vx_steps.specs.LaterReads.{IsNotedOf, NotesOneMore, SplitRead}
use Rattle.vx_steps.specs.Needed.{AreReadsOfSplits}
use Rattle.vx_steps.specs.Needs.{Among}
use Rattle.vx_steps.specs.Pieces.{read_of, ArePlaced}
use Rattle.vx_steps.specs.Turns.{ReadsFor}
use Rattle.vx_steps.proofs.Needing.{among_pushed, placed_at}
use Rattle.vx_steps.proofs.OpenReads.{among_mapped, mapped_from}
use Rattle.vx_steps.proofs.PieceRows.{needs_are}
use Rattle.vx_steps.proofs.Selecting.{among_back, among_front}

-- ---- one split

abbrev read_by : ℕ → PlacedRead → SplitRead
read_by number need = record { number = number; read = read_of need }

-- none of its needs
pub none_noted : (needs : List PlacedRead) (number : ℕ) (later : LaterReads) → NotesSplit (take 0 needs) number later later
none_noted needs number later reads noted = (reads, noted, λ one a. inl a, λ one either. ⊎_elim (λ (a : Among one reads). a) (λ (n : Among one (split_reads number (take 0 needs))). absurd n) either)

-- one need more
pub next_noted : (needs : List PlacedRead) (i number : ℕ) (first old new : LaterReads) → i < length needs → NotesSplit (take i needs) number first old → NotesOneMore (record { number = number; read = record { leaf = (placed_at needs i).leaf; segment = (placed_at needs i).segment } }) old new → NotesSplit (take (i + 1) needs) number first new
next_noted needs i number first old new inside before more reads noted =
    let r = before reads noted in
    let one : SplitRead = record { number = number; read = read_of (placed_at needs i) } in
    (one ∷ r.0, more r.0 r.1, λ x among. only r.0 r.2 x among, λ x either. all r.0 r.3 x either)
  where
    pushed : split_reads number (take (i + 1) needs) ≡ split_reads number (take i needs) ++ record { number = number; read = read_of (placed_at needs i) } ∷ []
    pushed =
        let e : take (i + 1) needs ≡ take i needs ++ placed_at needs i ∷ [] = take_more needs i (record { leaf = 0; segment = 0; from = 0; last = 0 }) inside in
        ap (split_reads number) e ∙ map-append (read_by number) (take i needs) (placed_at needs i ∷ [])

    only : (rs : List SplitRead) → ((x : SplitRead) → Among x rs → Among x reads ⊎ Among x (split_reads number (take i needs))) → (x : SplitRead) → Among x (record { number = number; read = read_of (placed_at needs i) } ∷ rs) → Among x reads ⊎ Among x (split_reads number (take (i + 1) needs))
    only rs was x (inl e) = inr (subst (Among x) (sym pushed) (among_back x (split_reads number (take i needs)) (record { number = number; read = read_of (placed_at needs i) } ∷ []) (inl e)))
    only rs was x (inr h) = ⊎_elim (λ (a : Among x reads). inl a) (λ (b : Among x (split_reads number (take i needs))). inr (subst (Among x) (sym pushed) (among_front x (split_reads number (take i needs)) (record { number = number; read = read_of (placed_at needs i) } ∷ []) b))) (was x h)

    all : (rs : List SplitRead) → ((x : SplitRead) → Among x reads ⊎ Among x (split_reads number (take i needs)) → Among x rs) → (x : SplitRead) → Among x reads ⊎ Among x (split_reads number (take (i + 1) needs)) → Among x (record { number = number; read = read_of (placed_at needs i) } ∷ rs)
    all rs was x (inl a) = inr (was x (inl a))
    all rs was x (inr b) = ⊎_elim (λ (c : Among x (split_reads number (take i needs))). inr (was x (inr c))) (λ (e : record { number = number; read = read_of (placed_at needs i) } ≡ x). inl e) (among_pushed x (record { number = number; read = read_of (placed_at needs i) }) (split_reads number (take i needs)) (subst (Among x) pushed b))

-- all of them
pub all_noted : (needs : List PlacedRead) (count number : ℕ) (old new : LaterReads) → length needs ≤ count → NotesSplit (take count needs) number old new → NotesSplit needs number old new
all_noted needs count number old new all notes = subst (λ (ns : List PlacedRead). NotesSplit ns number old new) (take_all count needs all) notes

-- ---- several splits

-- What is noted is what the first so many splits read.
pub record AreReadsTo (nodes : List Node) (job : Job) (count : ℕ) (reads : List SplitRead) : Type 0 where
  pub only : (one : SplitRead) → Among one reads → (split : Split) × (slice_get job.splits.items one.number ≡ Some split) × ReadsFor nodes job split one.read
  pub all : (number : ℕ) (split : Split) (read : LeafRead) → number < count → slice_get job.splits.items number ≡ Some split → ReadsFor nodes job split read → Among (record { number = number; read = read }) reads

abbrev pub AreNotedTo : List Node → Job → ℕ → LaterReads → Type 0
AreNotedTo nodes job count later = (reads : List SplitRead) × IsNotedOf later reads × AreReadsTo nodes job count reads

-- none
pub none_noted_to : (nodes : List Node) (job : Job) (later : LaterReads) → IsNotedOf later [] → AreNotedTo nodes job 0 later
none_noted_to nodes job later noted = ([], noted, record { only = λ one none. absurd none; all = λ number split read less at reads. absurd (omega arith) })

-- one split more
pub next_noted_to : (nodes : List Node) (job : Job) (i : ℕ) (split : Split) (needs : List PlacedRead) (old new : LaterReads) → slice_get job.splits.items i ≡ Some split → ArePlaced nodes job.given job.plan split.rows.start split.mask needs → NotesSplit needs i old new → AreNotedTo nodes job i old → AreNotedTo nodes job (i + 1) new
next_noted_to nodes job i split needs old new at placed notes (reads, noted, are) =
    let r = notes reads noted in
    (r.0, r.1, record { only = λ one among. only one (r.2 one among); all = λ number other read less there v. r.3 (record { number = number; read = read }) (all number other read less there v) })
  where
    own : (one : SplitRead) → (need : PlacedRead) × Among need needs × (record { number = i; read = read_of need } ≡ one) → (s : Split) × (slice_get job.splits.items one.number ≡ Some s) × ReadsFor nodes job s one.read
    own one (need, among, e) =
        let P : SplitRead → Type 0 = λ x. (s : Split) × (slice_get job.splits.items x.number ≡ Some s) × ReadsFor nodes job s x.read in
        subst P e (split, at, (needs_are nodes job split needs placed).only (read_of need) (among_mapped read_of need needs among))

    only : (one : SplitRead) → Among one reads ⊎ Among one (split_reads i needs) → (s : Split) × (slice_get job.splits.items one.number ≡ Some s) × ReadsFor nodes job s one.read
    only one (inl a) = are.only one a
    only one (inr b) = own one (mapped_from (read_by i) one needs b)

    here : (number : ℕ) (other : Split) (read : LeafRead) → number ≡ i → slice_get job.splits.items number ≡ Some other → ReadsFor nodes job other read → Among (record { number = number; read = read }) (split_reads i needs)
    here number other read same there v =
        let one : other ≡ split = same_Some other split (sym there ∙ ap (slice_get job.splits.items) same ∙ at) in
        let among = (needs_are nodes job split needs placed).all read (subst (λ (s : Split). ReadsFor nodes job s read) one v) in
        let need = mapped_from read_of read needs among in
        let P : LeafRead → Type 0 = λ x. Among (record { number = i; read = x }) (split_reads i needs) in
        let Q : ℕ → Type 0 = λ n. Among (record { number = n; read = read }) (split_reads i needs) in
        subst Q (sym same) (subst P need.2 (among_mapped (read_by i) need.0 needs need.1))

    all : (number : ℕ) (other : Split) (read : LeafRead) → number < i + 1 → slice_get job.splits.items number ≡ Some other → ReadsFor nodes job other read → Among (record { number = number; read = read }) reads ⊎ Among (record { number = number; read = read }) (split_reads i needs)
    all number other read less there v = ⊎_elim (λ (before : number < i). inl (are.all number other read before there v)) (λ (behind : i ≤ number). inr (here number other read (omega arith) there v)) (cases_lt number i)

-- all of them
pub all_noted_to : (nodes : List Node) (job : Job) (count : ℕ) (later : LaterReads) → length job.splits.items ≤ count → AreNotedTo nodes job count later → (reads : List SplitRead) × IsNotedOf later reads × AreReadsOfSplits nodes job reads
all_noted_to nodes job count later all (reads, noted, are) = (
  reads,
  noted,
  record {
    only = are.only;
    all = λ number split read at v.
        let less : number < length job.splits.items = slice_get_within job.splits.items number split at in
        are.all number split read (omega arith) at v;
  },
)
