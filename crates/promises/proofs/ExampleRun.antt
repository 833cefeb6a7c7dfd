-- Runs with real bytes, over any holds of full size: the premise of proofs/Pieces.antt is met.
--   at_once     a log of one record, 36 bytes: they are fed, the record comes, and the log is closed
--   cut-anew    a log of two such records: 10 bytes; then all the rest, over a hold whose other bytes have changed while the 10 are held, which gives
--               the first record; then what is left of it, cut anew into 5 bytes and 31, which gives the second; then the close
-- Assumes nothing.
use Rattle.std.specs.Prelude.{Some, None}
use Prim.Native.Nat.{ℕ, ◌≤◌}
use mathlib.Core.Path.{refl, sym}
use mathlib.Core.Bool.{false}
use mathlib.Core.List.{List, [], ◌∷◌, ◌++◌, append-nil}
use native.Mathlib.Omega.{arith}
use lib.ListN.{length, take, drop, replicate, length-append}
use Rattle.refusal.specs.declared.Ending.{Ending}
use Rattle.refusal.specs.Limits.{hold_full}
use Rattle.contents.proofs.Cases.{computing as data_computing}
use Rattle.standing.specs.Standing.{any_above}
use Rattle.walk.proofs.Cases.{computing as walk_computing}
use Rattle.pieces.specs.Taken.{taken}
use Rattle.pieces.specs.Feed.{gives, stops, wants, Outcome}
use Rattle.pieces.specs.Run.{fed_call, close_call, rests, feeds, closes}
use Rattle.record.specs.declared.Kind.{Kind}
use Rattle.record.specs.declared.Slot.{Slot}
use Rattle.walker.specs.declared.Walker.{Walker}
use Rattle.walker.specs.Walker.{fresh_walker}
use Rattle.promises.specs.Bench.{one}
use Rattle.promises.specs.Runs.{Feeds, Closes, Run}
use Rattle.promises.proofs.FeedCases.{walker, slot_at, feed-says, close-says}

-- a separator of 36 bytes
abbrev separator : List ℕ
separator = one 4 (replicate 4 0)

-- a walker that is open, at the log's start or behind its first record
abbrev before : ℕ → ℕ → Walker
before held total = walker held total Kind.First None 0

-- behind so many records
abbrev behind : ℕ → ℕ → ℕ → Walker
behind n held total = walker held total Kind.Sha1 None n

-- ---- all at once

module _ (h₁ h₂ : List ℕ) (full₁ : hold_full ≤ length h₁) (full₂ : hold_full ≤ length h₂) where
  -- the 36 bytes are taken, and stand at the hold's front
  abbrev taken₁ : Outcome Walker Slot
  taken₁ = record { answer = gives (slot_at 0 8 32 0); count = 36; walker = behind 1 0 36; hold = separator ++ drop 36 h₁ }

  abbrev closed₁ : Outcome Walker Slot
  closed₁ = record { answer = stops (Ending.End 36 0); count = 0; walker = walker 0 36 Kind.Sha1 (Some (Ending.End 36 0)) 1; hold = h₂ }

  feed₁ : Feeds fresh_walker h₁ separator taken₁
  unfolding walk_computing taken any_above
  feed₁ = feed-says fresh_walker h₁ full₁ (omega arith) (omega arith) (omega arith) refl refl separator (omega arith)

  close₁ : Closes (behind 1 0 36) h₂ closed₁
  unfolding walk_computing any_above
  close₁ = (close-says (behind 1 0 36) h₂ full₂ (omega arith) (omega arith) (omega arith) refl refl, refl)

  pub at_once : Run separator fresh_walker h₁ (fed_call separator h₁ taken₁ ∷ close_call h₂ closed₁ ∷ [])
  unfolding data_computing
  at_once =
      feeds {ended = false} ([], sym (append-nil separator)) (record { size = full₁; same = refl }) feed₁
      (closes {ended = false} refl (record { size = full₂; same = refl }) close₁
      rests)

-- ---- cut anew

-- the bytes of the second and the fourth hold past those held are any, and so are the first, the third and the last hold
module _ (h₁ j₂ h₃ j₄ h₅ : List ℕ) (full₁ : hold_full ≤ length h₁) (full₂ : hold_full ≤ length j₂) (full₃ : hold_full ≤ length h₃)
    (full₄ : hold_full ≤ length j₄) (full₅ : hold_full ≤ length h₅) where
  abbrev two : List ℕ
  two = separator ++ separator

  abbrev h₂ : List ℕ
  h₂ = take 10 separator ++ j₂

  abbrev h₄ : List ℕ
  h₄ = take 5 separator ++ j₄

  size₂ : hold_full ≤ length h₂
  size₂ = omega (arith, full₂, length-append (take 10 separator) j₂)

  size₄ : hold_full ≤ length h₄
  size₄ = omega (arith, full₄, length-append (take 5 separator) j₄)

  abbrev ten : Outcome Walker Slot
  ten = record { answer = wants; count = 10; walker = before 10 10; hold = take 10 separator ++ drop 10 h₁ }

  abbrev first : Outcome Walker Slot
  first = record { answer = gives (slot_at 0 8 32 0); count = 26; walker = behind 1 0 36; hold = separator ++ drop 26 j₂ }

  abbrev five : Outcome Walker Slot
  five = record { answer = wants; count = 5; walker = behind 1 5 41; hold = take 5 separator ++ drop 5 h₃ }

  abbrev second : Outcome Walker Slot
  second = record { answer = gives (slot_at 36 44 68 1); count = 31; walker = behind 2 0 72; hold = separator ++ drop 31 j₄ }

  abbrev end : Outcome Walker Slot
  end = record { answer = stops (Ending.End 72 0); count = 0; walker = walker 0 72 Kind.Sha1 (Some (Ending.End 72 0)) 2; hold = h₅ }

  feed-ten : Feeds fresh_walker h₁ (take 10 separator) ten
  unfolding walk_computing taken any_above
  feed-ten = feed-says fresh_walker h₁ full₁ (omega arith) (omega arith) (omega arith) refl refl (take 10 separator) (omega arith)

  feed-first : Feeds (before 10 10) h₂ (drop 10 two) first
  unfolding walk_computing taken any_above
  feed-first = feed-says (before 10 10) h₂ size₂ (omega arith) (omega arith) (omega arith) refl refl (drop 10 two) (omega arith)

  feed-five : Feeds (behind 1 0 36) h₃ (take 5 separator) five
  unfolding walk_computing taken any_above
  feed-five = feed-says (behind 1 0 36) h₃ full₃ (omega arith) (omega arith) (omega arith) refl refl (take 5 separator) (omega arith)

  feed-second : Feeds (behind 1 5 41) h₄ (drop 5 separator) second
  unfolding walk_computing taken any_above
  feed-second = feed-says (behind 1 5 41) h₄ size₄ (omega arith) (omega arith) (omega arith) refl refl (drop 5 separator) (omega arith)

  close-end : Closes (behind 2 0 72) h₅ end
  unfolding walk_computing any_above
  close-end = (close-says (behind 2 0 72) h₅ full₅ (omega arith) (omega arith) (omega arith) refl refl, refl)

  pub cut-anew : Run two fresh_walker h₁
      (fed_call (take 10 separator) h₁ ten
      ∷ fed_call (drop 10 two) h₂ first
      ∷ fed_call (take 5 separator) h₃ five
      ∷ fed_call (drop 5 separator) h₄ second
      ∷ close_call h₅ end
      ∷ [])
  unfolding data_computing
  cut-anew =
      feeds {ended = false} (drop 10 two, refl) (record { size = full₁; same = refl }) feed-ten
      (feeds {ended = false} ([], refl) (record { size = size₂; same = refl }) feed-first
      (feeds {ended = false} (drop 5 separator, refl) (record { size = full₃; same = refl }) feed-five
      (feeds {ended = false} ([], refl) (record { size = size₄; same = refl }) feed-second
      (closes {ended = false} refl (record { size = full₅; same = refl }) close-end
      rests))))
