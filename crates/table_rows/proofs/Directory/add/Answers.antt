use Rattle.std.proofs.Common.{◌≡◌, false, is_ok, ap, ◌∙◌}
use Rattle.std.specs.Cmp.{nat_cmp_total}
use Rattle.std.specs.Ordering.{nat_cmp}
use Rattle.table.specs.Rows.{without}
use Rattle.table.specs.Tables.{room}
use Rattle.table.proofs.Laws.{taken_ok, without_placed}
use Rattle.table_rows.specs.Directories.{in_numbers}
use Rattle.table_rows.specs.Keys.{number_of}
use Rattle.table_rows.proofs.Directory.add.Goals as goal

-- the number that was added and taken out again leaves the others
pub returns-then-is_err-clause-numbers : goal.returns-then-is_err-clause-numbers
returns-then-is_err-clause-numbers c =
    let absent = (taken_ok number_of nat_cmp (room c.args.self.now.numbers) c.args.e (in_numbers c.args.self.now) c.in_ok-add.field-0 c.in_ok-add.ensures.answer).0 in
    let refused : is_ok c.add-added.result ≡ false = c.if-is_err.ensures.negation in
    rw refused (c.remove.ensures.left.entries ∙ ap (without number_of nat_cmp c.args.e.number) c.in_ok-add.ensures.left.entries ∙ without_placed number_of nat_cmp nat_cmp_total c.args.e (in_numbers c.args.self.now) absent)
