-- How what a packet and a repair answer is printed.
use Rattle.std.specs.Prelude.{ℕ, List, ◌++◌, codes}
use Rattle.std.specs.Fmt.{decimal}
use Rattle.following.specs.declared.answers.Counts.{Counts}
use Rattle.following.specs.declared.answers.Ending.{Ending}
use Rattle.following.specs.declared.answers.Ending.TheVariants as ending

abbrev pub ending_shown : Ending → List ℕ
ending_shown ending.Red = codes "red"
ending_shown ending.Green = codes "green"
ending_shown ending.Budget = codes "budget"
ending_shown ending.NotHeld = codes "not-held"

abbrev pub counts_shown : Counts → List ℕ
counts_shown c =
    codes "taken " ++ decimal c.taken ++ codes " repeated " ++ decimal c.repeated ++ codes " dropped " ++ decimal c.dropped
    ++ codes " unread " ++ decimal c.unread
