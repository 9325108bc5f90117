use Rattle.std.proofs.Common.{◌≡◌, Ok, Err, sym, ◌∙◌}
use Rattle.table.specs.Tables.{entries}
use Rattle.table.specs.declared.NotAdded.TheVariants.{Present, Full}
use Rattle.running.specs.Runners.{room_of}
use Rattle.running.proofs.Keeping.{kept_of}
use Rattle.running.proofs.runner.Runner.keep.Goals as goal

pub returns-in-Ok-clause-kept : goal.returns-in-Ok-clause-kept
returns-in-Ok-clause-kept c =
    let self = c.args.self.now in
    let f = c.in-Ok.ensures in
    kept_of (room_of self) c.new.result (entries self.held) _ _ (Ok tt) (entries c.add.new.self) c.new.ensures.number c.new.ensures.message f.answer f.left.entries

pub returns-in-Err-Present-clause-kept : goal.returns-in-Err-Present-clause-kept
returns-in-Err-Present-clause-kept c =
    let self = c.args.self.now in
    let i : c.add.result ≡ Err Present = cc in
    kept_of (room_of self) c.new.result (entries self.held) _ _ (Err Present) (entries c.add.new.self) c.new.ensures.number c.new.ensures.message (sym i ∙ c.add.ensures.answer) c.in-Err-Present.ensures.left.entries

pub returns-in-Err-Full-clause-kept : goal.returns-in-Err-Full-clause-kept
returns-in-Err-Full-clause-kept c =
    let self = c.args.self.now in
    let i : c.add.result ≡ Err Full = cc in
    kept_of (room_of self) c.new.result (entries self.held) _ _ (Err Full) (entries c.add.new.self) c.new.ensures.number c.new.ensures.message (sym i ∙ c.add.ensures.answer) c.in-Err-Full.ensures.left.entries
