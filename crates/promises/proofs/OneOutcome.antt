-- One outcome: of the promise of each entry point at most one answer and one state of every lent buffer and walker meet it, and one does.
--   fill_one, fill-some     a walk over lent slots
--   table-one, table-some   a walk over the first slots of a table
--   feed-one, feed-some     a feed, by value or where the walker lies
--   close-one, close-some   a close, likewise; it has the hold to read only
--   puts_one, -some         a text put at a place of a lent buffer
--   writes_one, -some       a line of the listing, written to a lent buffer
--   write-one, -some        a record, written to a lent buffer
-- Assumes nothing.
use Rattle.std.specs.Prelude.{Option}
use Prim.Native.Nat.{ℕ}
use mathlib.Core.Path.{◌≡◌, refl, sym, ap, ◌∙◌}
use mathlib.Core.List.{List, ◌++◌}
use lib.Dec.{leb}
use lib.ListN.{length, take, drop, take-append-drop}
use Rattle.numbers.specs.Number.{Bytes}
use Rattle.record.specs.declared.Shape.{Shape}
use Rattle.record.specs.declared.Slot.{Slot}
use Rattle.walk.specs.declared.Walked.{Walked}
use Rattle.walk.specs.Fill.{told_into, walked_by, slots_by, FillSays}
use Rattle.by_value.specs.Table.{TableSays}
use Rattle.by_value.proofs.TableLaws.{table-says}
use Rattle.walker.specs.declared.Reply.{Reply}
use Rattle.walker.specs.declared.Walker.{Walker}
use Rattle.walker.specs.Walker.{reply_by, walker_by, feed_to, close_to, FeedSays, CloseSays}
use Rattle.buffer.specs.Writes.{put_end, put_at, Puts, written_by, buffer_by, Writes}
use Rattle.write.specs.declared.Wrote.{Wrote}
use Rattle.write.specs.Write.{Entry, record_bytes, fault_of, is_clear, wrote_by, Given, WriteSays}
use Rattle.promises.proofs.Slots.{slots_kept}

pub fill_one : (log : List ℕ) (old : List Slot) (r r' : Walked) (slots slots' : List Slot) → FillSays log old r slots → FillSays log old r' slots'
    → (r ≡ r') × (slots ≡ slots')
fill_one log old r r' slots slots' a b = (a.0 ∙ sym b.0, a.1 ∙ sym b.1)

pub fill-some : (log : List ℕ) → Bytes log → (old : List Slot) → FillSays log old (walked_by (told_into (length old) log)) (slots_by (told_into (length old) log) old)
fill-some log is old = (refl, refl, is)

pub table-one : (log : List ℕ) (old : List Slot) (k : ℕ) (r r' : Walked) (slots slots' : List Slot) → TableSays log old k r slots → TableSays log old k r' slots'
    → (r ≡ r') × (slots ≡ slots')
table-one log old k r r' slots slots' (a, d) (b, e) =
    let (same, front) = fill_one log (take k old) r r' (take k slots) (take k slots') a b in
    (same, sym (take-append-drop k slots) ∙ ap (λ l. l ++ drop k slots) front ∙ ap (λ l. take k slots' ++ l) (d ∙ sym e) ∙ take-append-drop k slots')

pub table-some : (log : List ℕ) → Bytes log → (old : List Slot) (k : ℕ) → (r : Walked) × (slots : List Slot) × TableSays log old k r slots
table-some log is old k =
    let t = told_into (length (take k old)) log in
    let f = fill-some log is (take k old) in
    (walked_by t, slots_by t (take k old) ++ drop k old, table-says log old k _ _ (slots_kept log (take k old) _ _ f).2 f)

pub feed-one : (w : Walker) (hold piece : List ℕ) (r r' : Reply) (v v' : Walker) (h h' : List ℕ) → FeedSays w hold piece r v h → FeedSays w hold piece r' v' h'
    → (r ≡ r') × (v ≡ v') × (h ≡ h')
feed-one w hold piece r r' v v' h h' a b = (a.0 ∙ sym b.0, a.1 ∙ sym b.1, a.2 ∙ sym b.2)

pub feed-some : (w : Walker) (hold piece : List ℕ)
    → FeedSays w hold piece (reply_by (feed_to w hold piece)) (walker_by (feed_to w hold piece).walker) (feed_to w hold piece).hold
feed-some w hold piece = (refl, refl, refl)

pub close-one : (w : Walker) (hold : List ℕ) (r r' : Reply) (v v' : Walker) → CloseSays w hold r v → CloseSays w hold r' v' → (r ≡ r') × (v ≡ v')
close-one w hold r r' v v' a b = (a.0 ∙ sym b.0, a.1 ∙ sym b.1)

pub close-some : (w : Walker) (hold : List ℕ) → CloseSays w hold (reply_by (close_to w hold)) (walker_by (close_to w hold).walker)
close-some w hold = (refl, refl)

pub puts_one : (text : List ℕ) (at : ℕ) (old : List ℕ) (r r' : ℕ) (new new' : List ℕ) → Puts text at old r new → Puts text at old r' new' → (r ≡ r') × (new ≡ new')
puts_one text at old r r' new new' a b = (a.ends ∙ sym b.ends, a.holds ∙ sym b.holds)

pub puts-some : (text : List ℕ) (at : ℕ) (old : List ℕ) → Puts text at old (put_end text at old) (put_at text at old)
puts-some text at old = record { ends = refl; holds = refl }

pub writes_one : (text old : List ℕ) (r r' : Option ℕ) (new new' : List ℕ) → Writes text old r new → Writes text old r' new' → (r ≡ r') × (new ≡ new')
writes_one text old r r' new new' a b = (a.0 ∙ sym b.0, a.1 ∙ sym b.1)

pub writes-some : (text old : List ℕ)
    → Writes text old (written_by (leb (length text) (length old)) text) (buffer_by (leb (length text) (length old)) text old)
writes-some text old = (refl, refl)

pub write-one : (sh : Shape) (e : Entry) (old : List ℕ) (r r' : Wrote) (new new' : List ℕ) → WriteSays sh e old r new → WriteSays sh e old r' new'
    → (r ≡ r') × (new ≡ new')
write-one sh e old r r' new new' a b = (a.answers ∙ sym b.answers, a.holds ∙ sym b.holds)

pub write-some : (sh : Shape) (e : Entry) → Given e → (old : List ℕ)
    → WriteSays sh e old (wrote_by (fault_of sh e (length old)) sh e) (buffer_by (is_clear (fault_of sh e (length old))) (record_bytes e) old)
write-some sh e given old = record { answers = refl; holds = refl; given = given }
