use Rattle.assise_console.proofs.Common.{begun_console}
use Rattle.assise_console.proofs.CommandTraces.{not_illegal, run_trace, run_legal}
use Rattle.assise_console.proofs.laws.a_run_stands_on_a_legal_history.Goals as goal

pub returns-clause-legal : goal.returns-clause-legal
returns-clause-legal c = λ nodes log hot turns stock all es text t some h. run_legal nodes log hot turns stock t es some
    (run_trace (begun_console nodes log hot stock turns) t all es text h)

pub returns-clause-checked : goal.returns-clause-checked
returns-clause-checked c =
    λ nodes log hot turns stock all es text t some h illegal. not_illegal t.machine
    (run_legal nodes log hot turns stock t es some (run_trace (begun_console nodes log hot stock turns) t all es text h)) illegal
