use Rattle.assise_console.proofs.Common.{◌≡◌, ◌∙◌, ◌+◌, ◌++◌, ◌∷◌, [], refl, ap, subst, sym, take, take_more, console_seen, Prints, line_text}
use Rattle.assise_console.proofs.PrintedLines.{appends-none, appends-then, prints-push}
use Rattle.assise_console.proofs.engine.run_lines.Goals as goal

pub loop-command-init : goal.loop-command-init
loop-command-init g c = ([], ([], ((refl, (refl, refl)), appends-none _)))

pub loop-command-preserved : goal.loop-command-preserved
loop-command-preserved g c =
    let before = c.loop-command.invariant in
    let one = c.in_ok-run_line.ensures.done in
    let commands = c.args.commands.now in
    let i = c.loop-command.command-index in
    let command = c.command-item.result in
    let first = console_seen c.args.console.now in
    let now = console_seen c.run_line.new.console in
    let line = line_text command.line now.machine.history one.answer in
    let next : take (i + 1) commands ≡ take i commands ++ command ∷ [] =
    take_more commands i command c.loop-command-test.true ∙ ap (λ z. take i commands ++ z ∷ []) (sym c.command-item.is) in
    let printed = prints-push first (take i commands) before.0 before.1.0 (console_seen c.loop-command.console) command one.told one.answer now before.1.1.0
    one.serves in (
      before.0 ++ one.told,
      (
        before.1.0 ++ line,
        (
          subst (λ z. Prints first z (before.0 ++ one.told) (before.1.0 ++ line) now) (sym next) printed,
          appends-then _ _ _ before.1.0 line before.1.1.1 one.appends,
        ),
      ),
    )
