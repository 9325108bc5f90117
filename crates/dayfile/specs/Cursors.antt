-- What a day file means, wherever its cursor is.
use Rattle.source.specs.Meanings.{Meaning}
use Rattle.dayfile.specs.declared.file.DayFile.{DayFile}
use Rattle.dayfile.specs.Blocks.{blocks, in_blocks}

-- what its bytes hold of its session
abbrev pub meaning_of : DayFile → Meaning
meaning_of d = record { session = d.session; held = in_blocks d.session (blocks d.bytes.now) }
