use Rattle.std.proofs.Common.{rules, ap, ap₂, codes, true, ◌≡◌, ◌∙◌}
use Rattle.std.proofs.lemmas.Result.{IfOk-weaker}
use Rattle.clap.specs.Simple.{app_of_fields}
use Rattle.clap.specs.Words.{App, app_of, rule_of, with_rule}
use Rattle.solid_top.specs.CommandLine.{place, unnamed}
use Rattle.solid_top.proofs.commands.parser.Goals as goal

pub returns : goal.returns
returns c =
    let name_is : rule_of c.action.result ≡ place (codes "command") = search rules in
    let number_is : rule_of c.action-2.result ≡ place (codes "number") = search rules in
    let unnamed_is : app_of c.no_binary_name.result ≡ unnamed =
    ap app_of_fields c.no_binary_name.ensures ∙ ap (λ (a : App). record a { top = record a.top { no_binary_name = true } }) c.new.ensures.app in
    IfOk-weaker c.arg-2.result _ _ (λ r h. h.shape (search rules)
    ∙ ap₂ with_rule (c.in_ok-arg.ensures.shape (search rules) ∙ ap₂ with_rule unnamed_is name_is) number_is) c.arg-2.ensures
