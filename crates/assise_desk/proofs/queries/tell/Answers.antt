use Rattle.assise_desk.proofs.Common.{Ok, ap, ◌∙◌}
use Rattle.assise_desk.specs.Queries.{tells_known}
use Rattle.assise_desk.proofs.queries.tell.Goals as goal

pub returns-in_ok-client-in-Standing : goal.returns-in_ok-client-in-Standing
returns-in_ok-client-in-Standing c =
    rw c.in-Standing.is (tells_known c.in_ok-client-in-Standing.field-0.now c.in_ok-client-in-Standing.ensures.known (ap Ok c.standing_number.ensures))

pub returns-in_ok-client-in-Home : goal.returns-in_ok-client-in-Home
returns-in_ok-client-in-Home c =
    rw c.in-Home.is (tells_known c.in_ok-client-in-Home.field-0.now c.in_ok-client-in-Home.ensures.known (ap Ok (c.from-in-Home.ensures ∙ c.home.ensures)))

pub returns-in_ok-client-in-Answered : goal.returns-in_ok-client-in-Answered
returns-in_ok-client-in-Answered c =
    rw c.in-Answered.is (tells_known c.in_ok-client-in-Answered.field-0.now c.in_ok-client-in-Answered.ensures.known (ap Ok c.next.ensures))
