-- A run of a script's commands, from its cluster on.
use Rattle.assise_console.proofs.Common.{◌≡◌, ◌<◌, ℕ, List, [], ◌∷◌, ◌++◌, Option, length, get_or, ltb, true, false, ap, subst, ◌∙◌, arith, NumberedCommand}
use Rattle.assise_console.proofs.Common.{all_entries, IsEventTrace, ConsoleState, Stocks, begun_console}
use Rattle.assise_fault_script.specs.Script.{ClusterFirst, IsCluster}
use Rattle.assise_fault_script.specs.declared.command.Command.{Command}
use Rattle.assise_console.specs.Engines.{ClusterIsBegun, Ran, RunsScript, RunsFrom}
use Rattle.assise_console.proofs.CommandTraces.{run_trace, run_legal, run_told}

some_nodes : (c : Command) (stock : Stocks) (turns : ℕ) (s : ConsoleState) (b : ClusterIsBegun c stock turns s) → IsCluster c → 0 < b.nodes
some_nodes c stock turns s b h = let limits = subst IsCluster b.cluster h in omega (arith, limits.0)

module _ (stock : Stocks) (turns : ℕ) (first : NumberedCommand) (others : List NumberedCommand) (s : ConsoleState) (old new : Option (List ℕ))
    (cluster : IsCluster first.command) (b : ClusterIsBegun first.command stock turns s) (r : RunsFrom s (first ∷ others) old new)
  where
    trace_run : IsEventTrace s.machine r.1.0 r.0.machine
    trace_run = run_trace s r.0 (first ∷ others) r.1.0 r.1.1.0 r.1.1.1.0

    from_begun : IsEventTrace (begun_console b.nodes b.log b.hot stock turns).machine r.1.0 r.0.machine
    from_begun = subst (λ x. IsEventTrace x.machine r.1.0 r.0.machine) b.console trace_run

    no_history : s.machine.history ≡ []
    no_history = ap (λ x. x.machine.history) b.console

    told_run : r.0.machine.history ≡ all_entries [] r.1.0
    told_run = run_told s r.0 (first ∷ others) r.1.0 r.1.1.0 r.1.1.1.0 ∙ ap (λ h. h ++ all_entries h r.1.0) no_history

    pub runs_all : RunsScript stock turns first others old new
    runs_all = record {
      start = s;
      begins = b;
      told = r.1.0;
      text = r.1.1.0;
      end = r.0;
      prints = r.1.1.1.0;
      appends = r.1.1.1.1;
      trace = trace_run;
      history = told_run;
      legal = run_legal b.nodes b.log b.hot turns stock r.0 r.1.0 (some_nodes first.command stock turns s b cluster) from_begun;
    }

pub ran_all : (stock : Stocks) (turns : ℕ) (commands : List NumberedCommand) (first : NumberedCommand) (s : ConsoleState) (old new : Option (List ℕ))
    → true ≡ ltb 0 (length commands) → first ≡ get_or commands 0 first → ClusterFirst commands → ClusterIsBegun first.command stock turns s →
    RunsFrom s commands old new → Ran stock turns commands old new
ran_all stock turns [] first s old new some is cluster b r = absurd (let bad : true ≡ false = some in cc)
ran_all stock turns (k ∷ others) first s old new some is cluster b r =
    runs_all stock turns k others s old new cluster.0 (subst (λ x. ClusterIsBegun x.command stock turns s) is b) r
