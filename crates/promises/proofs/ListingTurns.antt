-- The listing (specs/Listing.antt of `lines`) goes turn by turn of the walk, as the program writes it.
--   lines_of index told   the lines of what a walk tells, from an index on
--   following turn rest  what comes after a turn's line: nothing after the last one
--   lines-turn           the lines from a cursor on, by the turn there
--   listing-turns        the listing, by the first turn
-- Assumes nothing.
use Prim.Native.Nat.{ℕ, suc}
use mathlib.Core.Path.{◌≡◌, refl, sym, ap, ◌∙◌}
use mathlib.Core.List.{List, [], ◌++◌, append_assoc, append-nil}
use Rattle.pieces.specs.Walk.{Told}
use Rattle.record.specs.declared.Cursor.{Cursor}
use Rattle.record.specs.declared.Slot.{Slot}
use Rattle.record.specs.declared.Turn.{Turn}
use Rattle.standing.specs.Standing.{Standing, none_yet}
use Rattle.walk.specs.Turn.{opening_cursor, Moved, turn_of}
use Rattle.walk.proofs.TurnLaws.{tells}
use Rattle.walk.proofs.FillLaws.{rest_from, rest-opens, rest-turn, whole-numbered}
use Rattle.lines.specs.declared.Head.{Head}
use Rattle.lines.specs.Listing.{record_line, record_lines, last_line, turn_line, head_after, head_by, head_line, listing_by, listing_of}

abbrev pub lines_of : ℕ → Told Slot → List ℕ
lines_of index told = record_lines index told.records ++ last_line told.ending

abbrev pub following : Turn → List ℕ → List ℕ
following (Turn.Record slot) rest = rest
following (Turn.Stop e) rest = []

tells-lines : (turn : Turn) (index : ℕ) (rest : Told Slot)
    → lines_of index (tells turn rest) ≡ turn_line index turn ++ following turn (lines_of (suc index) rest)
unfolding record_lines
tells-lines (Turn.Record slot) index rest = append_assoc (record_line index slot) (record_lines (suc index) rest.records) (last_line rest.ending)
tells-lines (Turn.Stop e) index rest = sym (append-nil (last_line e))

tells-head : (turn : Turn) (rest : Told Slot) → head_by (tells turn rest).records (tells turn rest).ending ≡ head_after turn
tells-head (Turn.Record slot) rest = refl
tells-head (Turn.Stop e) rest = refl

module _ (log : List ℕ) where
  -- The lines from a cursor on are the line of the turn there, and after a record those from the next cursor on.
  pub lines-turn : (c : Cursor) (st : Standing) (index : ℕ)
      → let m : Moved = turn_of log c st in
      lines_of index (rest_from log c st.counts)
      ≡ turn_line index m.turned.turn ++ following m.turned.turn (lines_of (suc index) (rest_from log m.turned.next m.standing.counts))
  lines-turn c st index = ap (lines_of index) (rest-turn log c st) ∙ tells-lines (turn_of log c st).turned.turn index _

  -- The listing is the word of the first turn, and the lines from the opening on.
  pub listing-turns : listing_of log
      ≡ head_line (head_after (turn_of log opening_cursor none_yet).turned.turn) ++ lines_of 0 (rest_from log opening_cursor none_yet.counts)
  unfolding listing_of
  listing-turns =
      let told = rest_from log opening_cursor none_yet.counts in
      let first = (turn_of log opening_cursor none_yet).turned.turn in
      let head : head_by told.records told.ending ≡ head_after first =
      ap (λ (t : Told Slot). head_by t.records t.ending) (rest-turn log opening_cursor none_yet) ∙ tells-head first _ in
      ap listing_by (sym (rest-opens log none_yet.counts ∙ whole-numbered log))
      ∙ append_assoc (head_line (head_by told.records told.ending)) (record_lines 0 told.records) (last_line told.ending)
      ∙ ap (λ (h : Head). head_line h ++ lines_of 0 told) head
