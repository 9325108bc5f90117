-- What a source of either kind means.
use Rattle.std.specs.Prelude.{ℕ, List, Result}
use Rattle.codes.specs.declared.refusal.Refusal.{Refusal}
use Rattle.source.specs.Meanings.{Meaning}
use Rattle.recovery.specs.Recoveries as recovery
use Rattle.dayfile.specs.Blocks.{day_file}
use Rattle.dayfile.specs.Cursors as dayfile
use Rattle.replay_follower.specs.declared.sources.Kind.{Kind}
use Rattle.replay_follower.specs.declared.sources.Kind.TheVariants as kind
use Rattle.replay_follower.specs.declared.sources.AnySource.{AnySource}
use Rattle.replay_follower.specs.declared.sources.AnySource.TheVariants as any

abbrev pub meaning_of : AnySource → Meaning
meaning_of (any.Session s) = recovery.meaning_of s
meaning_of (any.File f) = dayfile.meaning_of f

-- what bytes mean as a source of a kind, or their refusal
abbrev pub source_of : Kind → List ℕ → Result Meaning Refusal
source_of kind.Session bytes = recovery.recovery_of bytes
source_of kind.File bytes = day_file bytes
