-- Writing logs (document 02, Req 01): what was written reads the same, what was read writes the same, and each refusal has its reason. `WriteSays` is the
-- promise of the code (`write` of `write`).
--   write-refused, write-wrote   each refusal exactly when, and success exactly when
--   untouched, told-behind       what is left behind, on a refusal and on success
--   written-reads   entries written from a log's start, and a tail: a walk over slots enough gives their records and that tail
--   read-writes     the entries of an accepted log's slots: none is refused, and written in order, and then the tail, they are the log
--   again           so of the bytes that any calls of the writer for them gave
-- Assumes nothing.
use Rattle.std.specs.Prelude.{Result, Ok, Err}
use Prim.Native.Nat.{ℕ, suc, ◌+◌, ◌≤◌}
use mathlib.Core.Path.{◌≡◌, refl, sym, ap, ap₂, subst, ◌∙◌}
use mathlib.Core.List.{List, [], ◌∷◌, ◌++◌, append_assoc}
use mathlib.Core.Logic.{◌↔◌}
use lib.ListN.{length, take, drop, length-append}
use lib.Seq.{take-append_seam, drop-append_seam}
use Rattle.numbers.specs.Number.{Bytes}
use Rattle.numbers.proofs.ByCases.{never}
use Rattle.buffer.specs.Writes.{buffer_by}
use Rattle.refusal.specs.declared.Ending.{Ending}
use Rattle.refusal.specs.declared.Refusal.{Refusal}
use Rattle.refusal.specs.Limits.{log_most, tail_most}
use Rattle.record.specs.declared.Shape.{Shape}
use Rattle.record.specs.declared.Slot.{Slot}
use Rattle.record.specs.Record.{opening_shape}
use Rattle.record.specs.Whole.{Lies}
use Rattle.walk.specs.declared.Walked.{Walked}
use Rattle.walk.specs.Divides.{Chain, none, next, Divides}
use Rattle.standing.specs.Serials.{numbered}
use Rattle.standing.proofs.SerialLaws.{numbered-length}
use Rattle.walk.specs.Fill.{walked_of, FillSays}
use Rattle.write.specs.declared.Wrote.{Wrote}
use Rattle.write.specs.Write.{Entry, record_bytes, entry_fault, fault_of, state_after, is_clear, wrote_by, WriteSays}
use Rattle.write.specs.Faults.{Sound, Refuses}
use Rattle.write.specs.Again.{entry_in, entries_in, slot_for, bytes_in}
use Rattle.write.proofs.FaultLaws.{written-exactly, fits-exactly, refused-exactly}
use Rattle.write.proofs.EntryLaws.{Narrows, opening-narrow, after-narrow}
use Rattle.write.proofs.WrittenLaws.{bytes_apart, written-lies, written_entry, lies-written}
use Rattle.promises.specs.Answers.{Numbered}
use Rattle.promises.specs.Writing.{Writable, Writings, rests, writes}
use Rattle.promises.proofs.Acceptance.{accepted}

-- ---- one call

module _ (sh : Shape) (e : Entry) (old : List ℕ) (r : Wrote) (new : List ℕ) (says : WriteSays sh e old r new) where
  -- EACH REFUSAL EXACTLY WHEN. A call is refused with this number at this place if and only if that is what is wrong with the entry or the buffer.
  pub write-refused : (x : Refusal) → (r.answer ≡ Err x) ↔ Refuses sh e (length old) x
  write-refused x = (
    λ a. (refused-exactly sh e (length old) x says.given).0 (to (fault_of sh e (length old)) says.answers a),
    λ h. ap (λ (w : Wrote). w.answer) says.answers ∙ rw ((refused-exactly sh e (length old) x says.given).1 h),
  )
    where
      to : (f : Result (Unit {0}) Refusal) → r ≡ wrote_by f sh e → r.answer ≡ Err x → f ≡ Err x
      to (Ok tt) q a = let z = sym a ∙ ap (λ (w : Wrote). w.answer) q in never cc
      to (Err y) q a = let z = sym a ∙ ap (λ (w : Wrote). w.answer) q in let y-is : y ≡ x = cc in ap Err y-is

  -- It is answered with n bytes if and only if nothing is wrong with the entry, n is the record's length, and the buffer is long enough.
  pub write-wrote : (n : ℕ) → (r.answer ≡ Ok n) ↔ (Sound sh e × (n ≡ length (record_bytes e)) × (n ≤ length old))
  write-wrote n = (λ a. to (fault_of sh e (length old)) refl says.answers a, from)
    where
      to : (f : Result (Unit {0}) Refusal) → fault_of sh e (length old) ≡ f → r ≡ wrote_by f sh e → r.answer ≡ Ok n
          → Sound sh e × (n ≡ length (record_bytes e)) × (n ≤ length old)
      to (Ok tt) f q a =
          let z = sym a ∙ ap (λ (w : Wrote). w.answer) q in
          let m : n ≡ length (record_bytes e) = cc in
          let (s, room) = (fits-exactly sh e (length old) says.given).0 f in
          (s, m, rw m room)
      to (Err y) f q a = let z = sym a ∙ ap (λ (w : Wrote). w.answer) q in never cc

      from : Sound sh e × (n ≡ length (record_bytes e)) × (n ≤ length old) → r.answer ≡ Ok n
      from (s, m, room) =
          ap (λ (w : Wrote). w.answer) says.answers
          ∙ rw ((fits-exactly sh e (length old) says.given).1 (s, rw m at room)) (ap Ok (sym m))

  -- A refusal leaves the buffer and the state as they were.
  pub untouched : (x : Refusal) → r.answer ≡ Err x → (new ≡ old) × (r.state ≡ sh)
  untouched x a = go (fault_of sh e (length old)) says.answers says.holds
    where
      go : (f : Result (Unit {0}) Refusal) → r ≡ wrote_by f sh e → new ≡ buffer_by (is_clear f) (record_bytes e) old → (new ≡ old) × (r.state ≡ sh)
      go (Ok tt) q b = let z = sym a ∙ ap (λ (w : Wrote). w.answer) q in never cc
      go (Err y) q b = (b, ap (λ (w : Wrote). w.state) q)

  -- Success puts the record's bytes at the buffer's front, keeps the rest, and gives the state behind the record.
  pub told-behind : (n : ℕ) → r.answer ≡ Ok n
      → (new ≡ record_bytes e ++ drop n old) × (r.state ≡ state_after sh e) × (entry_fault sh e ≡ Ok tt) × (n ≡ length (record_bytes e))
  told-behind n a = go (fault_of sh e (length old)) refl says.answers says.holds
    where
      go : (f : Result (Unit {0}) Refusal) → fault_of sh e (length old) ≡ f → r ≡ wrote_by f sh e → new ≡ buffer_by (is_clear f) (record_bytes e) old
          → (new ≡ record_bytes e ++ drop n old) × (r.state ≡ state_after sh e) × (entry_fault sh e ≡ Ok tt) × (n ≡ length (record_bytes e))
      go (Ok tt) f q b =
          let z = sym a ∙ ap (λ (w : Wrote). w.answer) q in
          let m : n ≡ length (record_bytes e) = cc in
          (b ∙ ap (λ k. record_bytes e ++ drop k old) (sym m), ap (λ (w : Wrote). w.state) q, (written-exactly sh e says.given).1 ((fits-exactly sh e (length old) says.given).0 f).0, m)
      go (Err y) f q b = let z = sym a ∙ ap (λ (w : Wrote). w.answer) q in never cc

-- ---- chains

written-chain : (sh : Shape) (es : List Entry) → Writable sh es → (log before after : List ℕ) → log ≡ before ++ (bytes_in es ++ after)
    → (rs : List Slot) × (last : Shape) × Chain sh (length before) (bytes_in es) rs last × (entries_in sh log rs ≡ es)
unfolding bytes_in entries_in
written-chain sh [] w log before after q = ([], sh, none, refl)
written-chain sh (e ∷ es) (g, clear, w) log before after q =
    let (c, j, lies) = written-lies sh e g clear (length before) in
    let here : log ≡ before ++ (record_bytes e ++ (bytes_in es ++ after)) = q ∙ simp append_assoc in
    let there : log ≡ (before ++ record_bytes e) ++ (bytes_in es ++ after) = q ∙ simp append_assoc in
    let entry : entry_in sh log (slot_for sh (length before) e c) ≡ e = written_entry sh e g clear log before (bytes_in es ++ after) here c in
    let (rs, last, chain, same) = written-chain (state_after sh e) es w log (before ++ record_bytes e) after there in (
      slot_for sh (length before) e c ∷ rs,
      last,
      next lies (rw (length-append before (record_bytes e)) at chain),
      rw (entry, same),
    )

chain-written : {sh last : Shape} {base : ℕ} {p : List ℕ} {rs : List Slot} → Chain sh base p rs last → Narrows sh.pairs → Bytes p
    → (log before after : List ℕ) → log ≡ before ++ (p ++ after) → base ≡ length before
    → Writable sh (entries_in sh log rs) × (bytes_in (entries_in sh log rs) ≡ p)
unfolding bytes_in entries_in
chain-written none small is log before after q b = (tt, refl)
chain-written {sh = sh} {base = base} (next {after = next_shape} {x = x} {p = p} {slot = slot} {rs = rs} lies chain) small is log before after q b =
    let lies' : Lies sh (length before) x slot next_shape = rw b at lies in
    let here : log ≡ before ++ (x ++ (p ++ after)) = q ∙ simp append_assoc in
    let there : log ≡ (before ++ x) ++ (p ++ after) = q ∙ simp append_assoc in
    let (isx, isp) = bytes_apart x p is in
    let (g, clear, same, state) = lies-written sh next_shape log before x (p ++ after) slot isx small here lies' in
    let small' : Narrows next_shape.pairs = after-narrow sh lies.whole.event lies.whole.body _ lies.contents next_shape lies.holds small in
    let (w, rest) = chain-written chain small' isp log (before ++ x) after there (ap (λ n. n + length x) b ∙ sym (length-append before x)) in
    (rw state (g, clear, w), rw (state, same, rest))

-- a slot tells of one entry
length-entries : (sh : Shape) (log : List ℕ) (rs : List Slot) → length (entries_in sh log rs) ≡ length rs
unfolding entries_in
length-entries sh log [] = refl
length-entries sh log (slot ∷ rs) = ap suc (length-entries (state_after sh (entry_in sh log slot)) log rs)

-- a serial is no part of an entry
entries-numbered : (sh : Shape) (log : List ℕ) (before rs : List Slot) → entries_in sh log (numbered before rs) ≡ entries_in sh log rs
unfolding entries_in entry_in numbered
entries-numbered sh log before [] = refl
entries-numbered sh log before (slot ∷ rs) =
    ap (λ es. entry_in sh log slot ∷ es) (entries-numbered (state_after sh (entry_in sh log slot)) log (before ++ (slot ∷ [])) rs)

-- ---- calls

-- what calls gave is what their entries make, and none was refused
writings-written : {sh : Shape} {es : List Entry} {x : List ℕ} → Writings sh es x → Writable sh es × (x ≡ bytes_in es)
unfolding bytes_in
writings-written rests = (tt, refl)
writings-written {sh = sh} (writes {e = e} {es = es} {old = old} {new = new} {r = r} {n = n} says a more) =
    let (holds, state, clear, m) = told-behind sh e old r new says n a in
    let (w, rest) = writings-written more in
    let front : take n new ≡ record_bytes e = rw (m, holds) (take-append_seam (record_bytes e) _) in
    ((says.given, clear, subst (λ s. Writable s es) state w), ap₂ ◌++◌ front rest)

-- WHAT WAS WRITTEN READS THE SAME. Entries are written one after the other from a log's start, each by a call that was not refused, and then come at most
-- three bytes more. Within the limit of a log, a walk of it over slots enough fills them with one record for each entry and ends behind the last with
-- those bytes as its tail; the log divides so; and the entries that the slots tell of are those that were written: form, register, type,
-- each digest with its id and its bytes, and data.
pub written-reads : (es : List Entry) (x tail : List ℕ) → Writings opening_shape es x → length tail ≤ tail_most → length (x ++ tail) ≤ log_most
    → (old : List Slot) (r : Walked) (slots : List Slot) → FillSays (x ++ tail) old r slots → length es ≤ length old
    → (rs : List Slot) × (length rs ≡ length es) × (r ≡ walked_of (length rs) (Ending.End (length x) (length tail))) × (take (length rs) slots ≡ rs)
    × Numbered (λ bare. Divides (x ++ tail) bare (length x) (length tail)) rs × (entries_in opening_shape (x ++ tail) rs ≡ es)
written-reads es x tail calls few short old r slots says room =
    let (w, x-is) = writings-written calls in
    let (rs, last, chain, same) = written-chain opening_shape es w (x ++ tail) [] tail (ap (λ l. l ++ tail) x-is) in
    let count : length rs ≡ length es = sym (length-entries opening_shape (x ++ tail) rs) ∙ ap length same in
    let d : Divides (x ++ tail) rs (length x) (length tail) =
    record {
      front = x;
      rest = tail;
      last = last;
      begins = record { whole = refl; chain = subst (λ l. Chain opening_shape 0 l rs last) (sym x-is) chain };
      ends = refl;
      over = refl;
      few = few;
    } in
    let many : length (numbered [] rs) ≡ length es = numbered-length [] rs ∙ count in
    let (ends, filled) = (accepted (x ++ tail) old r slots says (numbered [] rs) (length x) (length tail)).1 (rs, refl, (short, rw count room, d)) in
    (numbered [] rs, many, ends, filled, (rs, refl, d), entries-numbered opening_shape (x ++ tail) [] rs ∙ same)

-- WHAT WAS READ WRITES THE SAME. Of every accepted log: of the entries that its slots tell of none is refused, and their records one after the other, and then
-- the tail, are the log, byte for byte.
pub read-writes : (log : List ℕ) (old : List Slot) (r : Walked) (slots : List Slot) → FillSays log old r slots → (rs : List Slot) (at tail : ℕ)
    → r ≡ walked_of (length rs) (Ending.End at tail) → take (length rs) slots ≡ rs
    → Writable opening_shape (entries_in opening_shape log rs) × (bytes_in (entries_in opening_shape log rs) ++ drop at log ≡ log) × (length (drop at log) ≡ tail)
read-writes log old r slots says rs at tail ends filled =
    let (bare, serials, (short, room, d)) = (accepted log old r slots says rs at tail).0 (ends, filled) in
    let entries : entries_in opening_shape log rs ≡ entries_in opening_shape log bare = ap (entries_in opening_shape log) serials ∙ entries-numbered opening_shape log [] bare in
    let whole : log ≡ d.front ++ d.rest = d.begins.whole in
    let (w, same) = chain-written d.begins.chain opening-narrow (bytes_apart d.front d.rest (rw whole at says.2)).0 log [] d.rest whole refl in
    let rest : drop at log ≡ d.rest = ap (λ n. drop n log) d.ends ∙ ap (drop (length d.front)) whole ∙ drop-append_seam d.front d.rest in
    (rw entries w, rw (entries, same, rest) (sym whole), ap length rest ∙ sym d.over)

-- So of the code: whatever calls of the writer for these entries gave, with the tail it is the log.
pub again : (log : List ℕ) (old : List Slot) (r : Walked) (slots : List Slot) → FillSays log old r slots → (rs : List Slot) (at tail : ℕ)
    → r ≡ walked_of (length rs) (Ending.End at tail) → take (length rs) slots ≡ rs
    → (x : List ℕ) → Writings opening_shape (entries_in opening_shape log rs) x → x ++ drop at log ≡ log
again log old r slots says rs at tail ends filled x calls =
    ap (λ l. l ++ drop at log) (writings-written calls).1 ∙ (read-writes log old r slots says rs at tail ends filled).1
