-- Writing logs (document 02, Req 01), on what the code promises of a call of the writer (`WriteSays` of `write`).
--   Writable sh es      none of the entries is refused, each in the state behind those before it
--   Writings sh es x    calls of the writer for these entries, one after the other from a state on, each of which answered with a number of bytes;
--                       x are those bytes, one record behind the other
-- Assumes nothing.
use Rattle.std.specs.Prelude.{ℕ, ◌≡◌, List, [], ◌∷◌, ◌++◌, take, Ok}
use Rattle.record.specs.declared.Shape.{Shape}
use Rattle.write.specs.declared.Wrote.{Wrote}
use Rattle.write.specs.Write.{Entry, entry_fault, state_after, Given, WriteSays}

abbrev pub Writable : Shape → List Entry → Type 0
Writable sh [] = Unit {0}
Writable sh (e ∷ es) = Given e × (entry_fault sh e ≡ Ok tt) × Writable (state_after sh e) es

-- the next call has the state that the last one left, and any buffer; a record is the first n bytes of it
pub data Writings : Shape → List Entry → List ℕ → Type 0 where
  rests : {sh : Shape} → Writings sh [] []
  writes : {sh : Shape} {e : Entry} {es : List Entry} {old new x : List ℕ} {r : Wrote} {n : ℕ} → WriteSays sh e old r new → r.answer ≡ Ok n
      → Writings r.state es x → Writings sh (e ∷ es) (take n new ++ x)
