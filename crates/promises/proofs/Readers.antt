-- The readers by index, on what a walk accepted (document 01, "A reader takes such bytes and an index"): of every slot that a walk filled,
--   image-read, image-past   `path::read` on the image's path range of the log gives a node exactly for the indexes below its node count, and nothing
--                            past them
--   gpt-read, gpt-past       `gpt::read` on the slot's data gives an entry exactly for the indexes below its entry count, and nothing past them
-- `read_of` of `path` and of `gpt` are the promises of the readers. Assumes nothing.
use Rattle.std.specs.Prelude.{Some, None, Ok}
use Prim.Native.Nat.{ℕ, suc, ◌+◌, ◌≤◌, ◌<◌}
use mathlib.Core.Path.{◌≡◌, sym, ap, subst, ◌∙◌}
use mathlib.Core.Bool.{Bool, true, false}
use mathlib.Core.List.{List, [], ◌∷◌, ◌++◌, append_assoc}
use mathlib.Core.Logic.{◌↔◌}
use native.Mathlib.Omega.{arith}
use native.Mathlib.Nat.{zero-add}
use lib.ListN.{length, take, drop, get_or, length-append, length-take, take-append-drop}
use lib.Seq.{drop-cons, drop_at, get_or-take}
use Rattle.numbers.specs.Number.{Bytes, bytes_of}
use Rattle.numbers.specs.Range.{part_of}
use Rattle.numbers.proofs.ByCases.{split}
use Rattle.numbers.proofs.NumberLaws.{bytes-part, length-bytes_of}
use Rattle.numbers.proofs.RangeLaws.{part-front}
use Rattle.refusal.specs.Limits.{log_most}
use Rattle.event.specs.Types.{type_of}
use Rattle.path.specs.declared.NodeFields.{NodeFields}
use Rattle.path.specs.Path.{read_of as node_read}
use Rattle.gpt.specs.declared.Header.{Header}
use Rattle.gpt.specs.declared.Entry.{Entry}
use Rattle.gpt.specs.Gpt.{read_of as entry_read}
use Rattle.contents.specs.declared.Contents.{Contents}
use Rattle.contents.specs.declared.ImageFields.{ImageFields}
use Rattle.contents.specs.Contents.{contents_of}
use Rattle.contents.proofs.HoldsLaws.{contents-holds}
use Rattle.contents.proofs.ReaderLaws.{image-nodes, image-nothing, gpt-entries, gpt-nothing}
use Rattle.pieces.specs.Walk.{Told, whole_walk}
use Rattle.pieces.proofs.WalkLaws.{whole_walk-fits, whole_walk-long}
use Rattle.record.specs.declared.Shape.{Shape}
use Rattle.record.specs.declared.Slot.{Slot}
use Rattle.record.specs.Record.{is_marker, judge_of, opening_shape}
use Rattle.record.specs.Whole.{data_at, ContainsAs, Lies}
use Rattle.walk.specs.declared.Walked.{Walked}
use Rattle.standing.specs.Serials.{number_of}
use Rattle.standing.proofs.SerialLaws.{numbered-length, numbered-at}
use Rattle.walk.specs.Fill.{FillSays}
use Rattle.walk.proofs.ChainLaws.{chain-split, walk_ends}
use Rattle.promises.specs.Answers.{records_of}
use Rattle.promises.proofs.Slots.{slots_filled, slots_kept}

-- contents that only a record which is no marker has
abbrev Plain : Contents → Type 0
Plain Contents.Empty = ⊥
Plain (Contents.Text r) = ⊥
Plain (Contents.Variable f) = ⊥
Plain (Contents.Image f) = Unit {0}
Plain (Contents.Gpt h) = Unit {0}
Plain (Contents.Blob f) = ⊥
Plain (Contents.Separator k) = ⊥
Plain (Contents.Marker f) = ⊥

-- The contents of a record that lies in a log are those of its data there.
module _ (log front x rest : List ℕ) (is : Bytes log) (whole : log ≡ front ++ (x ++ rest)) (sh after : Shape) (slot : Slot)
    (lies : Lies sh (length front) x slot after) where
  abbrev place : ℕ
  place = length front + data_at lies.whole.digests

  -- the data stand where the slot says
  body-part : part_of log place (length lies.whole.body) ≡ lies.whole.body
  body-part =
      let w = lies.whole in
      let head : List ℕ = front ++ (bytes_of 4 w.register ++ (bytes_of 4 w.event ++ (w.digests ++ bytes_of 4 (length w.body)))) in
      let size : length head ≡ place = simp (length-append, length-bytes_of) (omega arith) in
      let all : log ≡ head ++ (w.body ++ rest) = whole ∙ ap (λ l. front ++ (l ++ rest)) w.spelt ∙ simp append_assoc in
      part-front log w.body rest place (ap (drop place) all ∙ drop_at head (w.body ++ rest) place size)

  record-contents : Plain slot.contents
      → contents_of (type_of slot.event) (part_of log slot.«data».at slot.«data».len) slot.«data».at ≡ Ok slot.contents
  record-contents = rw lies.told (λ p. go (is_marker sh.kind lies.whole.event) lies.holds p)
    where
      go : (b : Bool) → ContainsAs b sh lies.whole.event lies.whole.body place lies.contents after → Plain lies.contents
          → contents_of (type_of lies.whole.event) (part_of log place (length lies.whole.body)) place ≡ Ok lies.contents
      go true (pairs, m, n) p = absurd (rw m.fields at p)
      go false (h, n) p = rw body-part ((contents-holds (type_of lies.whole.event) lies.whole.body (rw body-part at (bytes-part log place (length lies.whole.body) is)) place lies.contents).1 h)

module _ (log : List ℕ) (old : List Slot) (r : Walked) (slots : List Slot) (says : FillSays log old r slots) (k : ℕ) (filled : k < r.filled) (blank : Slot) where
  -- slot k
  abbrev slot : Slot
  slot = get_or slots k blank

  -- it holds record k of the log
  many : k < length (records_of log)
  many =
      let (kept, within, same) = slots_kept log old r slots says in
      let e = ap length (slots_filled log old r slots says) in
      omega (arith, filled, within, same, e, length-take r.filled slots, length-take (length old) (records_of log))

  held : slot ≡ get_or (records_of log) k blank
  held =
      let (kept, within, same) = slots_kept log old r slots says in
      sym (get_or-take r.filled slots k blank filled)
      ∙ ap (λ l. get_or l k blank) (slots_filled log old r slots says)
      ∙ get_or-take (length old) (records_of log) k blank (omega (arith, filled, within))

  -- the records without their serials
  abbrev bares : List Slot
  bares = (whole_walk judge_of log_most opening_shape log).records

  many-bare : k < length bares
  many-bare = omega (arith, many, numbered-length [] bares)

  -- record k, without its serial
  abbrev bare : Slot
  bare = get_or bares k blank

  numbered-slot : (n : ℕ) × (slot ≡ number_of n bare)
  numbered-slot = let (n, e) = numbered-at [] bares k blank many-bare in (n, held ∙ e)

  split_at : bares ≡ take k bares ++ (bare ∷ drop (suc k) bares)
  split_at = sym (take-append-drop k bares) ∙ ap (λ l. take k bares ++ l) (drop-cons bares k blank many-bare)

  abbrev Contained : Slot → Type 0
  Contained s = Plain s.contents → contents_of (type_of s.event) (part_of log s.«data».at s.«data».len) s.«data».at ≡ Ok s.contents

  bare-contents : Contained bare
  bare-contents = split (length log) log_most short long
    where
      long : log_most < length log → Contained bare
      long h = absurd (omega (arith, many-bare, ap (λ (t : Told Slot). length t.records) (whole_walk-long judge_of log_most opening_shape log h)))

      short : length log ≤ log_most → Contained bare
      short h =
          let e = walk_ends opening_shape 0 log says.2 in
          let all = ap (λ (t : Told Slot). t.records) (sym (whole_walk-fits judge_of log_most opening_shape log h)) ∙ split_at in
          let s = chain-split e.chain (take k bares) bare (drop (suc k) bares) all in
          record-contents log s.front s.x (s.rest ++ e.rest) says.2
          (e.whole ∙ ap (λ l. l ++ e.rest) s.whole ∙ simp append_assoc)
          s.last s.after bare (rw (zero-add (length s.front)) at s.lies)

  slot-contents : Contained slot
  slot-contents = subst Contained (sym numbered-slot.1) bare-contents

  -- ---- an image

  module _ (f : ImageFields) (c : slot.contents ≡ Contents.Image f) where
    image-so : contents_of (type_of slot.event) (part_of log slot.«data».at slot.«data».len) slot.«data».at ≡ Ok (Contents.Image f)
    image-so = slot-contents (rw c tt) ∙ ap Ok c

    pub image-read : (i : ℕ) → ((m : NodeFields) × (node_read (part_of log f.path.at f.path.len) i ≡ Ok (Some m))) ↔ (i < f.nodes)
    image-read = image-nodes (type_of slot.event) log says.2 slot.«data».at slot.«data».len f image-so

    pub image-past : (i : ℕ) → f.nodes ≤ i → node_read (part_of log f.path.at f.path.len) i ≡ Ok None
    image-past = image-nothing (type_of slot.event) log says.2 slot.«data».at slot.«data».len f image-so

  -- ---- GPT data

  module _ (h : Header) (c : slot.contents ≡ Contents.Gpt h) where
    abbrev body : List ℕ
    body = part_of log slot.«data».at slot.«data».len

    gpt-so : contents_of (type_of slot.event) body slot.«data».at ≡ Ok (Contents.Gpt h)
    gpt-so = slot-contents (rw c tt) ∙ ap Ok c

    pub gpt-read : (i : ℕ) → ((m : Entry) × (entry_read body i ≡ Ok (Some m))) ↔ (i < h.entries)
    gpt-read = gpt-entries (type_of slot.event) body (bytes-part log slot.«data».at slot.«data».len says.2) slot.«data».at h gpt-so

    pub gpt-past : (i : ℕ) → h.entries ≤ i → entry_read body i ≡ Ok None
    gpt-past = gpt-nothing (type_of slot.event) body (bytes-part log slot.«data».at slot.«data».len says.2) slot.«data».at h gpt-so
