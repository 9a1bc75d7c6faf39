use Rattle.assise_console.proofs.Common.{◌≡◌, ◌∙◌, ap₂, rules, IfOk-weaker, app_of, with_rule, named, script_rule, turns_rule}
use Rattle.assise_console.proofs.options.command.Goals as goal

pub returns : goal.returns
returns c =
    let alone : app_of c.override_help.result ≡ named = search rules in
    let script : app_of c.in_ok-arg.field-0 ≡ with_rule named script_rule =
    c.in_ok-arg.ensures.shape c.script_argument.ensures.local ∙ ap₂ with_rule alone c.script_argument.ensures.rule in
    let turns : app_of c.in_ok-arg-2.field-0 ≡ with_rule (with_rule named script_rule) turns_rule =
    c.in_ok-arg-2.ensures.shape c.turns_option.ensures.local ∙ ap₂ with_rule script c.turns_option.ensures.rule in
    IfOk-weaker c.arg-3.result _ _ (λ command added. added.shape c.threads_flag.ensures.local ∙ ap₂ with_rule turns c.threads_flag.ensures.rule) c.arg-3.ensures
