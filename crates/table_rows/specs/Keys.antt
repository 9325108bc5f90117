-- The keys of a row, and the order of names: by their first byte that differs. Numbers are in the order of their size.
use Rattle.std.specs.Prelude.{ℕ, List}
use Rattle.std.specs.Cmp.Lexicographic.{slice_cmp}
use Rattle.std.specs.Ordering.{nat_cmp}
use Rattle.std.specs.declared.cmp.Ordering.{Ordering}
use Rattle.table_rows.specs.declared.Named.{Named}

abbrev pub number_of : Named → ℕ
number_of e = e.number

-- the same numbers, the highest first
abbrev pub downward : ℕ → ℕ → Ordering
downward a b = nat_cmp b a

abbrev pub name_of : Named → List ℕ
name_of e = e.name

abbrev pub by_name : List ℕ → List ℕ → Ordering
by_name = slice_cmp nat_cmp
