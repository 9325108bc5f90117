-- What a directory holds, and what its calls do with it.
use Rattle.std.specs.Prelude.{List, Some, None, Ok, Err, Option, Result}
use Rattle.std.specs.Ordering.{nat_cmp}
use Rattle.table.specs.Rows.{without}
use Rattle.table.specs.Tables.{entries, room, taken}
use Rattle.table.specs.declared.NotAdded.{NotAdded}
use Rattle.table_rows.specs.Keys.{number_of, name_of, by_name}
use Rattle.table_rows.specs.declared.Directory.{Directory}
use Rattle.table_rows.specs.declared.Named.{Named}

abbrev pub in_numbers : Directory → List Named
in_numbers d = entries d.numbers

abbrev pub in_names : Directory → List Named
in_names d = entries d.names

-- the first that refuses
abbrev pub both : Result (Unit {0}) NotAdded → Result (Unit {0}) NotAdded → Result (Unit {0}) NotAdded
both (Ok _) r = r
both (Err why) r = Err why

-- whether both tables take e
abbrev pub admits : Directory → Named → Result (Unit {0}) NotAdded
admits d e = both (taken number_of nat_cmp (room d.numbers) e (in_numbers d)) (taken name_of by_name (room d.names) e (in_names d))

-- the names without that of a row, if there is one
abbrev pub less_name : Option Named → List Named → List Named
less_name None xs = xs
less_name (Some e) xs = without name_of by_name e.name xs
