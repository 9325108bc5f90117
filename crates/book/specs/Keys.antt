-- The keys of the two tables and their orders, and the limits that every live order keeps.
use Rattle.std.specs.Prelude.{ℕ, Bool, true, ◌&&◌, List, [], ◌∷◌}
use Rattle.std.specs.declared.cmp.Ordering.{Ordering}
use Rattle.wire.specs.Limits.{in_range}
use Rattle.wire.specs.declared.order.OrderRow.{OrderRow}
use Rattle.book.specs.declared.rows.Stock.{Stock}
use Rattle.std.specs.Ordering.{nat_cmp}
use Rattle.std.specs.Cmp.Lexicographic.{slice_cmp}

-- orders by the size of their reference
abbrev pub reference_of : OrderRow → ℕ
reference_of order = order.reference

abbrev pub by_number : ℕ → ℕ → Ordering
by_number = nat_cmp

-- stocks by the first byte of their symbol that differs
abbrev pub name_of : Stock → List ℕ
name_of stock = stock.symbol.bytes

abbrev pub by_name : List ℕ → List ℕ → Ordering
by_name = slice_cmp nat_cmp

-- a reference of 4 bytes, some shares, a price above 0 and within the limit of the house
abbrev pub within : OrderRow → Bool
within order = in_range order.reference order.shares order.price

abbrev pub all_within : List OrderRow → Bool
all_within [] = true
all_within (order ∷ rest) = within order && all_within rest
