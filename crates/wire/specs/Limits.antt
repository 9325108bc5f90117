-- The limits of an order.
use Rattle.std.specs.Prelude.{ℕ, Bool, ◌&&◌, nat_le}
use Rattle.wire.specs.Numbers.{most32, most_price}

-- some shares, at most as many as 4 bytes tell
abbrev pub some_shares : ℕ → Bool
some_shares n = nat_le 1 n && nat_le n most32

-- a reference of 4 bytes, some shares, a price above 0 and within the limit of the house
abbrev pub in_range : ℕ → ℕ → ℕ → Bool
in_range reference shares price = nat_le reference most32 && some_shares shares && (nat_le 1 price && nat_le price most_price)
