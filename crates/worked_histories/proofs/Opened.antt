-- All that a computation of a history opens.
use Rattle.std.proofs.Common.{ℕ}
use Rattle.wire.specs.Messages.{feed_message, snapshot_message}
use Rattle.wire.specs.Packets.{unpacked, packet_of}
use Rattle.session.specs.Fields.{number_of}
use Rattle.session.specs.Sessions.{framed_within, session_messages, opening}
use Rattle.session.specs.Carried.{carried}
use Rattle.table.specs.Rows.{found, placed, without, below}
use Rattle.source.specs.Meanings.{numbered_from}
use Rattle.book.specs.Plain.{ran, ran_there}
use Rattle.book.specs.Questions.{states_of, rows_of, orders_of}
use Rattle.book.specs.Runs.{run_there}
use Rattle.following.specs.States.{lamp_of}
use Rattle.following.specs.Calls.{answered}
use Rattle.following.specs.Follower.{
  agrees,
  settled,
  run_held,
  run_wanted,
  treated,
  place_after,
  counts_of,
  snapshot_of,
  mended,
  while_started,
  while_dark,
  while_red,
  outcome,
}
use Rattle.following.specs.Days.{whole_run, Ours, after, since, AllBelong}
use Rattle.following.specs.Law.{missing}

unfoldable pub opened : ℕ
unfolding feed_message snapshot_message unpacked packet_of number_of framed_within session_messages opening carried found placed without below numbered_from ran ran_there states_of rows_of orders_of run_there lamp_of answered agrees settled run_held run_wanted treated place_after counts_of snapshot_of mended while_started while_dark while_red outcome whole_run Ours after since AllBelong missing
opened = 0
