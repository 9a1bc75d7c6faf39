use Rattle.assise_machine_state.proofs.Common.{◌≡◌, ℕ, Bool, List, ◌∷◌, ◌∙◌, drop, ap, sym, arith, [], drop_all, nil_from_length, LogRecord, is_border, log_in}
use Rattle.assise_machine_state.proofs.Common.{with_log_in, with_records}
use Rattle.assise_machine_state.proofs.Shared.RecordsTaken.{none_taken, one_taken}
use Rattle.assise_machine_state.proofs.nodes.Nodes.+take_in.Goals as goal

pub returns-in_default : goal.returns-in_default
returns-in_default t c =
    let rs = c.args.self.now in
    let n = c.args.node in
    let client = c.args.client in
    let border : ℕ → Bool = is_border (log_in rs c.args.own client).log in
    let none : c.args.records.rest.items ≡ [] = nil_from_length c.args.records.rest.items (omega (arith, c.in_default.ensures.cases.0)) in
    sym (none_taken border rs n client)
    ∙ ap (λ more. with_log_in rs n client (with_records border (log_in rs n client) more))
    (sym (ap (drop c.args.skipped) none ∙ drop_all c.args.skipped [] (omega arith)))

pub returns : goal.returns
returns t c =
    let rs = c.args.self.now in
    let n = c.args.node in
    let client = c.args.client in
    let border : ℕ → Bool = is_border (log_in rs c.args.own client).log in
    let rest : List LogRecord = c.next.new.self.rest.items in
    let none : c.args.skipped ≡ 0 = omega (arith, c.if-skipped-gt0.false) in
    let left : drop c.args.skipped c.args.records.rest.items ≡ c.in-Some.added ∷ rest = ap (λ k. drop k c.args.records.rest.items) none
    ∙ c.in-Some.ensures.items in
    c.take_in-2.ensures
    ∙ ap (λ l. with_log_in c.take_one.new.self n client (with_records (is_border l.log) (log_in c.take_one.new.self n client) rest)) c.take_one.ensures.own_log
    ∙ ap (λ q. with_log_in q n client (with_records border (log_in q n client) rest)) c.take_one.ensures.next
    ∙ one_taken border rs n client c.in-Some.added rest c.requires.there
    ∙ ap (λ more. with_log_in rs n client (with_records border (log_in rs n client) more)) (sym left)
