-- What a lamp and a refusal print.
use Rattle.std.specs.Prelude.{ℕ, List, [], ◌∷◌, ◌++◌, codes, decimal}
use Rattle.codes.specs.declared.lamp.Lamp.{Lamp}
use Rattle.codes.specs.declared.lamp.Lamp.TheVariants as lamp
use Rattle.codes.specs.declared.refusal.Refusal.{Refusal}
use Rattle.codes.specs.declared.refusal.Refusal.TheVariants as refusal
use Rattle.codes.specs.Codes.{cause_letter, numbered, refusal_number}

abbrev pub lamp_text : Lamp → List ℕ
lamp_text lamp.Dark = codes "dark"
lamp_text (lamp.Red number cause) = codes "red " ++ decimal number ++ codes " " ++ cause_letter cause ∷ []
lamp_text lamp.Waiting = codes "waiting"
lamp_text (lamp.Gap wanted heard) = codes "gap " ++ decimal wanted ++ codes " " ++ decimal heard
lamp_text (lamp.Green wanted) = codes "green " ++ decimal wanted

-- the number, and then what the refusal names
abbrev pub refusal_text : Refusal → List ℕ
refusal_text (refusal.SnapshotStopped cause) = decimal 12 ++ codes " " ++ cause_letter cause ∷ []
refusal_text (refusal.NotGreen lamp) = decimal 14 ++ codes " " ++ lamp_text lamp
refusal_text (refusal.TooFewRows rows) = decimal 16 ++ codes " " ++ decimal rows
refusal_text r = decimal (refusal_number (numbered r))
