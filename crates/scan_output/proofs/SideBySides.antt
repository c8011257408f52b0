-- Texts that were made side by side are those of their parts.
use Rattle.std.proofs.Common.{◌≡◌, ℕ, zero, suc, ◌+◌, ◌<◌, ◌≤◌, List, [], ◌∷◌, ◌++◌, Vec, Global, Ok, Err, length, take, drop, refl, sym, ap, ◌∙◌, subst, arith}
use Rattle.std.specs.Prelude.{option_map, slice_index_or, slice_range}
use Rattle.std.proofs.lemmas.Grind.{flat_map-append}
use Rattle.std.proofs.lemmas.List.{append-nil}
use Rattle.std.proofs.lemmas.List.Folds.{drop_split}
use Rattle.scan_output.specs.RowWriting.{lines_of, batch_lines, WritesBut, BufferGives}
use Rattle.scan_output.specs.SideBySide.{texts_joined}
use Rattle.scan_output.specs.Writing.{WritingGives}
use Rattle.scan_output.proofs.Buffering.{wrote_more, wrote_front, wrote_none, front_of_some, error_then, error_writes, wrote_all}
use Rattle.vx_base.specs.Columns.{ColumnData}
use Rattle.vx_base.specs.Streams.{WriteState}
use Rattle.vx_base.specs.declared.outside.StreamError.{StreamError}
use Rattle.vx_base.specs.declared.outside.StreamError.TheVariants.{Failed, Memory}

pub lines_append : (xs ys : List ColumnData) → batch_lines (xs ++ ys) ≡ batch_lines xs ++ batch_lines ys
lines_append xs ys = flat_map-append lines_of xs ys

drop_past : {X : Type 0} (n : ℕ) (xs : List X) → length xs ≤ n → drop n xs ≡ []
drop_past zero [] le = refl
drop_past (suc n) [] le = refl
drop_past zero (x ∷ xs) le = absurd (omega (arith, le))
drop_past (suc n) (x ∷ xs) le = drop_past n xs (omega (arith, le))

pub length_take : {X : Type 0} (n : ℕ) (xs : List X) → length (take n xs) ≤ n
length_take zero xs = omega arith
length_take (suc n) [] = omega arith
length_take (suc n) (x ∷ xs) = omega (arith, length_take n xs)

-- ---- writing them

-- what is not written yet is the texts from a place on
abbrev pub WroteTo : List (Vec ℕ Global) → ℕ → WriteState → WriteState → Type 0
WroteTo texts place old now = WritesBut (texts_joined (drop place texts)) (texts_joined texts) old now × (now.faults ≡ old.faults)

pub none_written : (texts : List (Vec ℕ Global)) (old : WriteState) → WroteTo texts 0 old old
none_written texts old = (wrote_none (texts_joined texts) old, refl)

texts_at : (texts : List (Vec ℕ Global)) (place : ℕ) (text : Vec ℕ Global) → place < length texts → text ≡ slice_index_or texts place text → texts_joined (drop place texts) ≡ text.items ++ texts_joined (drop (place + 1) texts)
texts_at [] place text lt here = absurd (omega (arith, lt))
texts_at (t ∷ texts) zero text lt here = ap (λ (x : Vec ℕ Global). x.items ++ texts_joined texts) (sym here)
texts_at (t ∷ texts) (suc place) text lt here =
    let next : suc (place + 1) ≡ suc place + 1 = omega arith in
    texts_at texts place text (omega (arith, lt)) here ∙ ap (λ (n : ℕ). text.items ++ texts_joined (drop n (t ∷ texts))) next

written_more : (text rest more whole : List ℕ) (old mid new : WriteState) → rest ≡ text ++ more → WritesBut rest whole old mid → mid.faults ≡ old.faults → WritingGives (Ok tt) text mid new → WritesBut more whole old new × (new.faults ≡ old.faults)
written_more text rest more whole old mid new is first same gives =
    let before : WritesBut (text ++ more) whole old mid = subst (λ (left : List ℕ). WritesBut left whole old mid) is first in
    (wrote_more whole text [] more old mid new before (wrote_all text mid new gives.0), gives.1 ∙ same)

failed_more : (error : StreamError) (text rest more whole : List ℕ) (old mid new : WriteState) → rest ≡ text ++ more → WritesBut rest whole old mid → mid.faults ≡ old.faults → WritingGives (Err error) text mid new → WritingGives (Err error) whole old new
failed_more error text rest more whole old mid new is first same gives =
    let before : WritesBut (text ++ more) whole old mid = subst (λ (left : List ℕ). WritesBut left whole old mid) is first in
    error_writes error whole [] old new (error_then error whole text [] more [] old mid new before same (buffer_of error text mid new gives))
  where
    buffer_of : (e : StreamError) (part : List ℕ) (s u : WriteState) → WritingGives (Err e) part s u → BufferGives (Err e) part [] s u
    buffer_of Failed part s u (front, rose) = (wrote_front part s u front, rose)
    buffer_of Memory part s u (front, kept) = (wrote_front part s u front, kept)

pub text_written : (texts : List (Vec ℕ Global)) (place : ℕ) (text : Vec ℕ Global) (old mid new : WriteState) → place < length texts → text ≡ slice_index_or texts place text → WroteTo texts place old mid → WritingGives (Ok tt) text.items mid new → WroteTo texts (place + 1) old new
text_written texts place text old mid new lt here wrote gives =
    written_more text.items (texts_joined (drop place texts)) (texts_joined (drop (place + 1) texts)) (texts_joined texts) old mid new (texts_at texts place text lt here) wrote.0 wrote.1 gives

pub text_failed : (error : StreamError) (texts : List (Vec ℕ Global)) (place : ℕ) (text : Vec ℕ Global) (old mid new : WriteState) → place < length texts → text ≡ slice_index_or texts place text → WroteTo texts place old mid → WritingGives (Err error) text.items mid new → WritingGives (Err error) (texts_joined texts) old new
text_failed error texts place text old mid new lt here wrote gives =
    failed_more error text.items (texts_joined (drop place texts)) (texts_joined (drop (place + 1) texts)) (texts_joined texts) old mid new (texts_at texts place text lt here) wrote.0 wrote.1 gives

done_all : (whole rest : List ℕ) (old now : WriteState) → rest ≡ [] → WritesBut rest whole old now → now.faults ≡ old.faults → WritingGives (Ok tt) whole old now
done_all whole rest old now none before same =
    let done : WritesBut [] whole old now = subst (λ (left : List ℕ). WritesBut left whole old now) none before in
    (done.written ∙ ap (λ (front : List ℕ). option_map (λ (written : List ℕ). written ++ front) old.written) (sym (append-nil done.front) ∙ done.whole), same)

pub texts_written : (texts : List (Vec ℕ Global)) (place : ℕ) (old now : WriteState) → length texts ≤ place → WroteTo texts place old now → WritingGives (Ok tt) (texts_joined texts) old now
texts_written texts place old now past wrote = done_all (texts_joined texts) (texts_joined (drop place texts)) old now (ap texts_joined (drop_past place texts past)) wrote.0 wrote.1

-- want of memory before any is written
pub none_lacks : (text : List ℕ) (old : WriteState) → WritingGives (Err Memory) text old old
none_lacks text old = (front_of_some text old old (text, wrote_none text old), refl)

-- ---- groups

pub group_written : (batches : List ColumnData) (first end : ℕ) (old mid new : WriteState) (group : List ColumnData) → group ++ drop end batches ≡ drop first batches → WritesBut (batch_lines (drop first batches)) (batch_lines batches) old mid → mid.faults ≡ old.faults → WritingGives (Ok tt) (batch_lines group) mid new
    → WritesBut (batch_lines (drop end batches)) (batch_lines batches) old new × (new.faults ≡ old.faults)
group_written batches first end old mid new group is before same gives =
    written_more (batch_lines group) (batch_lines (drop first batches)) (batch_lines (drop end batches)) (batch_lines batches) old mid new (ap batch_lines (sym is) ∙ lines_append group (drop end batches)) before same gives

pub group_failed : (error : StreamError) (batches : List ColumnData) (first end : ℕ) (old mid new : WriteState) (group : List ColumnData) → group ++ drop end batches ≡ drop first batches → WritesBut (batch_lines (drop first batches)) (batch_lines batches) old mid → mid.faults ≡ old.faults → WritingGives (Err error) (batch_lines group) mid new
    → WritingGives (Err error) (batch_lines batches) old new
group_failed error batches first end old mid new group is before same gives =
    failed_more error (batch_lines group) (batch_lines (drop first batches)) (batch_lines (drop end batches)) (batch_lines batches) old mid new (ap batch_lines (sym is) ∙ lines_append group (drop end batches)) before same gives

-- a stretch of a list, and what is left behind it
pub range_then : (first end : ℕ) (batches : List ColumnData) → first ≤ end → slice_range batches first end ++ drop end batches ≡ drop first batches
range_then first end batches le = sym (drop_split batches first end le)
