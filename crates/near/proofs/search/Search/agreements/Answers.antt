-- `agreements` meets its contract: it counts the places where the value and the symbol received are one. Assumes nothing.
use mathlib.Core.Path.{◌∙◌}
use Rattle.std.proofs.Common.{rules, tests}
use Rattle.std.proofs.lemmas.Iterator.{YieldsList-from_zip, YieldsList-from_slice}
use Rattle.std.proofs.lemmas.Iterator.Adapters.{serves_from_places}
use Rattle.std.proofs.lemmas.Iterator.Consumers.{count_from_yields_List, YieldsList-from_filter}
use Rattle.near.proofs.search.Keeping.{given_asks, counted, agrees_at}
use Rattle.near.proofs.search.Search.agreements.Goals as goal

pub count-requires-clause-can : goal.count-requires-clause-can
count-requires-clause-can c =
    let s = c.args.self.now in (
      search rules,
      search rules,
      serves_from_places
          (YieldsList-from_zip (YieldsList-from_slice s.points.now cc) (YieldsList-from_slice s.word.now cc))
          (λ x q k. search rules)
          (λ x k h e. let asks = given_asks s.received c.requires h e in search rules),
    )

pub returns : goal.returns
returns c =
    let s = c.args.self.now in
    count_from_yields_List c.filter.result _ c.count.ensures.ran
    (YieldsList-from_filter _ (agrees_at s.plan c.args.message.now)
    (YieldsList-from_zip (YieldsList-from_slice s.points.now cc) (YieldsList-from_slice s.word.now cc))
    c.filter.ensures.closure (λ x b q k. search (rules, tests)))
    ∙ counted s.received c.requires
