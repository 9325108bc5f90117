use Rattle.std.proofs.Common.{◌∙◌, rules}
use Rattle.scripts.proofs.Decimals.{parsed}
use Rattle.scripts.proofs.words.decimal.Goals as goal

pub returns : goal.returns
returns c = c.ok.ensures.value ∙ parsed c.args.digits.now c.parse.result (search rules) c.parse.ensures.value.0
