-- What the library says of `all` is `none_above` of the list.
use Rattle.std.proofs.Common.{◌∙◌, rules, tests, nat_le}
use Rattle.std.proofs.lemmas.Iterator.{YieldsList-from_slice}
use Rattle.std.proofs.lemmas.Iterator.Search.{all_from_yields_List}
use Rattle.parser.specs.Params.{param_list}
use Rattle.parser.proofs.ParamLaws.{none-above-all}
use Rattle.parser.proofs.params.Params.none_above.Goals as goal

pub returns : goal.returns
returns c =
    all_from_yields_List (λ x. nat_le x c.args.most) _ _ c.all.result c.all.ensures.ran (YieldsList-from_slice (param_list c.args.self) cc) (λ x b q k. search (rules, tests))
    ∙ none-above-all c.args.most (param_list c.args.self)
