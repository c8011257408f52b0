-- A text that is written through a buffer: what was not written yet stands in the buffer and behind it.
use Rattle.std.proofs.Common.{◌≡◌, ℕ, zero, suc, ◌+◌, ◌<◌, ◌≤◌, List, [], ◌∷◌, ◌++◌, length, take, drop, get_or, slice_range, Option, Some, None, option_map, Result, Ok, Err, refl, sym, ap, ◌∙◌, subst, arith, append_assoc}
use Rattle.std.proofs.Math.Seq.{take-append_seam}
use Rattle.std.proofs.lemmas.List.{append-nil, drop_all, take-append-drop}
use Rattle.std.proofs.lemmas.List.Folds.{drop_split}
use Rattle.std.specs.Prelude.{⊤}
use Rattle.scan_output.specs.RowText.{line, lines}
use Rattle.scan_output.specs.RowWriting.{lines_of, batch_lines, WritesBut, WritesSome, BufferGives}
use Rattle.scan_output.specs.Writing.{WritesFront, WritingGives}
use Rattle.vx_base.specs.Columns.{ColumnData}
use Rattle.vx_base.specs.Data.{DataType, Datum}
use Rattle.vx_base.specs.Sources.{Rose}
use Rattle.vx_base.specs.Streams.{WriteState}
use Rattle.vx_base.specs.declared.outside.StreamError.{StreamError}
use Rattle.vx_base.specs.declared.outside.StreamError.TheVariants.{Failed, Memory}

-- ---- lists

pub lines_append : (t : DataType) (vs ws : List Datum) → lines t (vs ++ ws) ≡ lines t vs ++ lines t ws
lines_append t [] ws = refl
lines_append t (v ∷ vs) ws = ap (λ (bytes : List ℕ). line t v ++ bytes) (lines_append t vs ws) ∙ sym (append_assoc (line t v) (lines t vs) (lines t ws))

-- ---- what was written

map_same : (written : Option (List ℕ)) → written ≡ option_map (λ (w : List ℕ). w ++ []) written
map_same None = refl
map_same (Some w) = ap (λ (x : List ℕ). Some x) (sym (append-nil w))

map_twice : (one two : List ℕ) (written : Option (List ℕ)) → option_map (λ (w : List ℕ). w ++ two) (option_map (λ (w : List ℕ). w ++ one) written) ≡ option_map (λ (w : List ℕ). w ++ (one ++ two)) written
map_twice one two None = refl
map_twice one two (Some w) = ap (λ (x : List ℕ). Some x) (append_assoc w one two)

-- nothing was
pub wrote_none : (text : List ℕ) (old : WriteState) → WritesBut text text old old
wrote_none text old = record { front = []; whole = refl; written = map_same old.written }

-- all was
pub wrote_all : (text : List ℕ) (old new : WriteState) → new.written ≡ option_map (λ (w : List ℕ). w ++ text) old.written → WritesBut [] text old new
wrote_all text old new is = record { front = text; whole = append-nil text; written = is }

-- a front was
pub wrote_front : (text : List ℕ) (old new : WriteState) → WritesFront text old new → WritesSome text old new
wrote_front text old new (count, is) = (drop count text, record { front = take count text; whole = take-append-drop count text; written = is })

pub front_of_some : (text : List ℕ) (old new : WriteState) → WritesSome text old new → WritesFront text old new
front_of_some text old new (rest, some) =
    (length some.front, some.written ∙ ap (λ (f : List ℕ). option_map (λ (w : List ℕ). w ++ f) old.written) (sym (ap (λ (t : List ℕ). take (length some.front) t) (sym some.whole) ∙ take-append_seam some.front rest)))

-- more of what was not
pub wrote_more : (text part rest more : List ℕ) (old mid new : WriteState) → WritesBut (part ++ more) text old mid → WritesBut rest part mid new → WritesBut (rest ++ more) text old new
wrote_more text part rest more old mid new first second = record {
  front = first.front ++ second.front;
  whole = append_assoc first.front second.front (rest ++ more)
      ∙ ap (λ (x : List ℕ). first.front ++ x) (sym (append_assoc second.front rest more) ∙ ap (λ (x : List ℕ). x ++ more) second.whole)
      ∙ first.whole;
  written = second.written ∙ ap (option_map (λ (w : List ℕ). w ++ second.front)) first.written ∙ map_twice first.front second.front old.written;
}

some_more : (text part more : List ℕ) (old mid new : WriteState) → WritesBut (part ++ more) text old mid → WritesSome part mid new → WritesSome text old new
some_more text part more old mid new first (rest, second) = (rest ++ more, wrote_more text part rest more old mid new first second)

-- ---- calls

-- the buffer is written, or not
pub full_gives : (error : StreamError) (buffer text rest : List ℕ) (old new : WriteState) → text ≡ buffer → WritingGives (Err error) text old new → BufferGives (Err error) buffer rest old new
full_gives Failed buffer text rest old new is (front, rose) = (subst (λ (t : List ℕ). WritesSome t old new) is (wrote_front text old new front), rose)
full_gives Memory buffer text rest old new is (front, same) = (subst (λ (t : List ℕ). WritesSome t old new) is (wrote_front text old new front), same)

-- an error behind what was written
pub error_then : (error : StreamError) (text part rest more last : List ℕ) (old mid new : WriteState) → WritesBut (part ++ more) text old mid → mid.faults ≡ old.faults → BufferGives (Err error) part rest mid new → BufferGives (Err error) text last old new
error_then Failed text part rest more last old mid new first same (some, rose) = (some_more text part more old mid new first some, subst (λ (n : ℕ). Rose n new.faults) same rose)
error_then Memory text part rest more last old mid new first same (some, is) = (some_more text part more old mid new first some, is ∙ same)

-- ---- rows of a batch

-- the lines of the next rows went into the buffer
pub rows_in : (t : DataType) (values : List Datum) (row end : ℕ) (before after text : List ℕ) (old mid : WriteState) → row ≤ end → after ≡ before ++ lines t (slice_range values row end) → WritesBut (before ++ lines t (drop row values)) text old mid → WritesBut (after ++ lines t (drop end values)) text old mid
rows_in t values row end before after text old mid le pushed first =
    let split : lines t (drop row values) ≡ lines t (slice_range values row end) ++ lines t (drop end values) = ap (lines t) (drop_split values row end le) ∙ lines_append t (slice_range values row end) (drop end values) in
    let same : before ++ lines t (drop row values) ≡ after ++ lines t (drop end values) =
    ap (λ (x : List ℕ). before ++ x) split ∙ sym (append_assoc before (lines t (slice_range values row end)) (lines t (drop end values))) ∙ ap (λ (x : List ℕ). x ++ lines t (drop end values)) (sym pushed) in
    subst (λ (x : List ℕ). WritesBut x text old mid) same first

-- ---- batches

batches_at : (batches : List ColumnData) (place : ℕ) (batch : ColumnData) → place < length batches → batch ≡ get_or batches place batch → batch_lines (drop place batches) ≡ lines_of batch ++ batch_lines (drop (place + 1) batches)
batches_at [] place batch lt here = absurd (omega (arith, lt))
batches_at (b ∷ batches) zero batch lt here = ap (λ (x : ColumnData). lines_of x ++ batch_lines batches) (sym here)
batches_at (b ∷ batches) (suc place) batch lt here =
    let next : suc (place + 1) ≡ suc place + 1 = omega arith in
    batches_at batches place batch (omega (arith, lt)) here ∙ ap (λ (n : ℕ). lines_of batch ++ batch_lines (drop n (b ∷ batches))) next

-- the next batch is the text of a buffer
pub next_batch : (batches : List ColumnData) (place : ℕ) (batch : ColumnData) (buffer text : List ℕ) (old mid : WriteState) → place < length batches → batch ≡ get_or batches place batch → WritesBut (buffer ++ batch_lines (drop place batches)) text old mid → WritesBut ((buffer ++ lines_of batch) ++ batch_lines (drop (place + 1) batches)) text old mid
next_batch batches place batch buffer text old mid lt here first =
    let same : buffer ++ batch_lines (drop place batches) ≡ (buffer ++ lines_of batch) ++ batch_lines (drop (place + 1) batches) =
    ap (λ (x : List ℕ). buffer ++ x) (batches_at batches place batch lt here) ∙ sym (append_assoc buffer (lines_of batch) (batch_lines (drop (place + 1) batches))) in
    subst (λ (x : List ℕ). WritesBut x text old mid) same first

-- no batch is left: the buffer is the rest
pub batches_done : (batches : List ColumnData) (place : ℕ) (buffer text : List ℕ) (old mid : WriteState) → length batches ≤ place → WritesBut (buffer ++ batch_lines (drop place batches)) text old mid → WritesBut (buffer ++ []) text old mid
batches_done batches place buffer text old mid le first = subst (λ (bs : List ColumnData). WritesBut (buffer ++ batch_lines bs) text old mid) (drop_all place batches le) first

-- an error of a call that writes through the buffer is one of writing the text
pub error_writes : (error : StreamError) (text last : List ℕ) (old new : WriteState) → BufferGives (Err error) text last old new → WritingGives (Err error) text old new
error_writes Failed text last old new (some, rose) = (front_of_some text old new some, rose)
error_writes Memory text last old new (some, same) = (front_of_some text old new some, same)

written_all : (text buffer : List ℕ) (old mid new : WriteState) → WritesBut (buffer ++ []) text old mid → new.written ≡ option_map (λ (w : List ℕ). w ++ buffer) mid.written → new.written ≡ option_map (λ (w : List ℕ). w ++ text) old.written
written_all text buffer old mid new first is =
    is ∙ ap (option_map (λ (w : List ℕ). w ++ buffer)) first.written ∙ map_twice first.front buffer old.written
    ∙ ap (λ (f : List ℕ). option_map (λ (w : List ℕ). w ++ f) old.written) (ap (λ (x : List ℕ). first.front ++ x) (sym (append-nil buffer)) ∙ first.whole)

-- the rest of the text is written at the end
pub last_gives : (result : Result ⊤ StreamError) (text buffer : List ℕ) (old mid new : WriteState) → WritesBut (buffer ++ []) text old mid → mid.faults ≡ old.faults → WritingGives result buffer mid new → WritingGives result text old new
last_gives (Ok done) text buffer old mid new first same gives = (written_all text buffer old mid new first gives.0, gives.1 ∙ same)
last_gives (Err Failed) text buffer old mid new first same (front, rose) =
    (front_of_some text old new (some_more text buffer [] old mid new first (wrote_front buffer mid new front)), subst (λ (n : ℕ). Rose n new.faults) same rose)
last_gives (Err Memory) text buffer old mid new first same (front, is) =
    (front_of_some text old new (some_more text buffer [] old mid new first (wrote_front buffer mid new front)), is ∙ same)
