-- What the library says of `any` is `member` of the list.
use Rattle.std.proofs.Common.{◌∙◌, rules, tests, nat_eq}
use Rattle.std.proofs.lemmas.Iterator.{YieldsList-from_slice}
use Rattle.std.proofs.lemmas.Iterator.Search.{any_from_yields_List}
use Rattle.parser.specs.Params.{param_list}
use Rattle.parser.proofs.ParamLaws.{member-any}
use Rattle.parser.proofs.params.Params.has.Goals as goal

pub returns : goal.returns
returns c =
    any_from_yields_List (λ x. nat_eq x c.args.value) _ _ c.any.result c.any.ensures.ran (YieldsList-from_slice (param_list c.args.self) cc) (λ x b q k. search (rules, tests))
    ∙ member-any c.args.value (param_list c.args.self)
