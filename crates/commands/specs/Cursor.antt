-- A command of code, by its position.
use Rattle.std.specs.Prelude.{ℕ, ◌+◌, List}
use Rattle.semantics.specs.Parse.{after, command_at}
use Rattle.commands.specs.declared.Cursor.{Cursor}

abbrev pub cursor_at : List ℕ → ℕ → Cursor
cursor_at code at = record { command = command_at code at; operands = at + 1; next = after code at }
