-- A stock and its two states.
use Rattle.std.specs.Prelude.{Some, None}
use Rattle.codes.specs.declared.status.Status.{Status}
use Rattle.codes.specs.declared.status.Status.TheVariants as status
use Rattle.wire.specs.Names.{Symbol}
use Rattle.book.specs.declared.rows.Stock.{Stock}

-- a new symbol has both states untold
abbrev pub unheard : Symbol → Stock
unheard symbol = record { symbol = symbol; trading = None; short = None }

-- one state is set, and the other one stays
abbrev pub with_state : Status → Stock → Stock
with_state (status.Trading state) stock = record { symbol = stock.symbol; trading = Some state; short = stock.short }
with_state (status.ShortSell state) stock = record { symbol = stock.symbol; trading = stock.trading; short = Some state }
