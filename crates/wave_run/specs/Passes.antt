-- What contracts say of boards, passes and tickets.
use Rattle.std.specs.Prelude.{◌≡◌, ℕ}
use Rattle.wave_run.specs.declared.board.Board.{Board}
use Rattle.wave_run.specs.declared.board.Pass.{Pass}
use Rattle.wave_run.specs.declared.board.Ticket.{Ticket}
use Rattle.wave_run.specs.declared.view.View.{View}

-- the pass draws from this board
abbrev pub IsPassOf : Board → Pass → Type 0
IsPassOf board pass = pass.seat.table_id ≡ board.table.shared.table_id

-- the two draw from one board
abbrev pub IsSamePass : Pass → Pass → Type 0
IsSamePass pass after = after.seat.table_id ≡ pass.seat.table_id

-- its parts, and the numbers that it has drawn
abbrev pub view : Pass → View
view pass = pass.seat.me.0

-- for how many jobs a board was made
abbrev pub jobs_of : Board → ℕ
jobs_of board = board.jobs

-- into how many parts a board is cut
abbrev pub parts_of : Board → ℕ
parts_of board = board.table.shared.key

-- the number that was drawn
abbrev pub number_of : Ticket → ℕ
number_of ticket = ticket.number
