-- A text that is written into lent memory, from its front on: the room that it has left, and what it is to write more. Assumes nothing.
use Rattle.std.specs.Prelude.{List, ◌≡◌, ℕ, ◌+◌, ◌≤◌, length}
use Rattle.text.specs.declared.Text.{Text}
use Rattle.text.specs.Text.{Wrote}

-- The memory has room for so many bytes more.
abbrev pub HasRoom : ℕ → Text → Type 0
HasRoom n text = text.len + n ≤ length text.out.now

-- Bytes were written after those that the text has, into the same memory.
pub record Adds (bytes : List ℕ) (before after : Text) : Type 0 where
  pub wrote : Wrote bytes before.len before.out.now after.out.now after.len
  pub same_memory : after.out.ghost_name ≡ before.out.ghost_name
