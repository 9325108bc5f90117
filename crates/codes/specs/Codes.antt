-- The number, the letter or the value of each case of the enums that answers are made of.
use Rattle.std.specs.Prelude.{ℕ, cond, Some, None, Option, ◌==◌}
use Rattle.codes.specs.declared.cause.Cause.{Cause}
use Rattle.codes.specs.declared.cause.Cause.TheVariants as cause
use Rattle.codes.specs.declared.refusal.Refusal.{Refusal}
use Rattle.codes.specs.declared.refusal.Refusal.TheVariants as refusal
use Rattle.codes.specs.declared.refusal.RefusalNumber.{RefusalNumber}
use Rattle.codes.specs.declared.refusal.RefusalNumber.TheVariants as name
use Rattle.codes.specs.declared.side.Side.{Side}
use Rattle.codes.specs.declared.side.Side.TheVariants.{Buy, Sell}
use Rattle.codes.specs.declared.event.EventCode.{EventCode}
use Rattle.codes.specs.declared.event.EventCode.TheVariants.{StartOfMessages, StartOfTrading, EndOfSystem, EndOfMessages}
use Rattle.codes.specs.declared.trading.Trading.{Trading}
use Rattle.codes.specs.declared.trading.Trading.TheVariants as trading
use Rattle.codes.specs.declared.short.ShortSell.{ShortSell}
use Rattle.codes.specs.declared.short.ShortSell.TheVariants as short
use Rattle.codes.specs.declared.status.Status.{Status}
use Rattle.codes.specs.declared.status.Status.TheVariants as status

-- a to h
abbrev pub cause_letter : Cause → ℕ
cause_letter cause.Length = 97
cause_letter cause.Field = 98
cause_letter cause.LiveReference = 99
cause_letter cause.NoStock = 100
cause_letter cause.NoOrder = 101
cause_letter cause.TooManyShares = 102
cause_letter cause.TableFull = 103
cause_letter cause.InSnapshot = 104

-- a refusal without what it names
abbrev pub numbered : Refusal → RefusalNumber
numbered refusal.Dark = name.Dark
numbered refusal.NotDark = name.NotDark
numbered refusal.Red = name.Red
numbered refusal.ShortPacket = name.ShortPacket
numbered refusal.PacketNumbers = name.PacketNumbers
numbered refusal.PacketLayout = name.PacketLayout
numbered refusal.HasBook = name.HasBook
numbered refusal.NotOpened = name.NotOpened
numbered refusal.NoGoodBlock = name.NoGoodBlock
numbered refusal.OtherSession = name.OtherSession
numbered refusal.SnapshotCut = name.SnapshotCut
numbered (refusal.SnapshotStopped cause) = name.SnapshotStopped
numbered refusal.Waiting = name.Waiting
numbered (refusal.NotGreen lamp) = name.NotGreen
numbered refusal.NoStock = name.NoStock
numbered (refusal.TooFewRows needed) = name.TooFewRows
numbered refusal.NoRequest = name.NoRequest

abbrev pub refusal_number : RefusalNumber → ℕ
refusal_number name.Dark = 1
refusal_number name.NotDark = 2
refusal_number name.Red = 3
refusal_number name.ShortPacket = 4
refusal_number name.PacketNumbers = 5
refusal_number name.PacketLayout = 6
refusal_number name.HasBook = 7
refusal_number name.NotOpened = 8
refusal_number name.NoGoodBlock = 9
refusal_number name.OtherSession = 10
refusal_number name.SnapshotCut = 11
refusal_number name.SnapshotStopped = 12
refusal_number name.Waiting = 13
refusal_number name.NotGreen = 14
refusal_number name.NoStock = 15
refusal_number name.TooFewRows = 16
refusal_number name.NoRequest = 17

-- B, S
abbrev pub side_letter : Side → ℕ
side_letter Buy = 66
side_letter Sell = 83

abbrev pub side_of : ℕ → Option Side
side_of b = cond (b == 66) (Some Buy) (cond (b == 83) (Some Sell) None)

-- O, S, E, C
abbrev pub event_letter : EventCode → ℕ
event_letter StartOfMessages = 79
event_letter StartOfTrading = 83
event_letter EndOfSystem = 69
event_letter EndOfMessages = 67

abbrev pub event_of : ℕ → Option EventCode
event_of b =
    cond (b == 79) (Some StartOfMessages) (cond (b == 83) (Some StartOfTrading)
    (cond (b == 69) (Some EndOfSystem) (cond (b == 67) (Some EndOfMessages) None)))

-- H, T
abbrev pub trading_letter : Trading → ℕ
trading_letter trading.Halted = 72
trading_letter trading.Open = 84

-- A, D
abbrev pub short_letter : ShortSell → ℕ
short_letter short.Active = 65
short_letter short.Inactive = 68

-- one letter sets one of the two states of a stock
abbrev pub status_of : ℕ → Option Status
status_of b =
    cond (b == 72) (Some (status.Trading trading.Halted)) (cond (b == 84) (Some (status.Trading trading.Open))
    (cond (b == 65) (Some (status.ShortSell short.Active)) (cond (b == 68) (Some (status.ShortSell short.Inactive)) None)))
