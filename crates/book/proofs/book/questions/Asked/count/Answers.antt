use Rattle.std.proofs.Common.{sym, ◌∙◌, rules, tests}
use Rattle.std.proofs.lemmas.Iterator.{YieldsList-from_slice}
use Rattle.std.proofs.lemmas.Iterator.Consumers.{YieldsList-from_filter, count_from_yields_List}
use Rattle.std.proofs.lemmas.List.{length-map}
use Rattle.book.specs.Questions.{asked, rows_of}
use Rattle.book.proofs.book.questions.Asked.count.Goals as goal

pub returns : goal.returns
unfolding rows_of
returns c =
    count_from_yields_List c.filter.result c.count.result c.count.ensures.ran (YieldsList-from_filter _ (asked c.args.self.symbol c.args.self.side) (YieldsList-from_slice c.args.live.now cc) c.filter.ensures.closure (λ x r q k. search (rules, tests)))
    ∙ sym (length-map _ _)
