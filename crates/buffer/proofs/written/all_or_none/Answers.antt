-- `buffer::written::all_or_none` meets its contract: its test is that of the definition. Assumes nothing.
use borrow.Author.Tests.{le-leb, lt-leb}
use mathlib.Core.Path.{sym}
use Rattle.buffer.specs.Room.{all_or_none}
use Rattle.buffer.proofs.written.all_or_none.Goals as goal

pub returns-then-n-room : goal.returns-then-n-room
unfolding all_or_none
returns-then-n-room c = sym (simp (le-leb _ _ c.if-n-room.true))

pub returns-else-n-room : goal.returns-else-n-room
unfolding all_or_none
returns-else-n-room c = sym (simp (lt-leb _ _ c.if-n-room.false))
