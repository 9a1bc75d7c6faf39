use Rattle.assise_desk.proofs.Common.{refl, []}
use Rattle.assise_desk.proofs.caller_desk.manage.Goals as goal

pub returns-in-Open-clause-does : goal.returns-in-Open-clause-does
returns-in-Open-clause-does c = rw c.in-Open.is c.open_client.ensures.opens

pub returns-in-Crash-clause-does : goal.returns-in-Crash-clause-does
returns-in-Crash-clause-does c = rw c.in-Crash.is
    (_, record { told = c.crash.result; result_is = c.done_told.ensures; event = record { told = refl; happens = c.crash.ensures.happens } })

pub returns-in-Fail-clause-does : goal.returns-in-Fail-clause-does
returns-in-Fail-clause-does c = rw c.in-Fail.is
    (_, record { failed = c.fail.result; shown = c.show_losses.ensures; event = record { told = refl; happens = c.fail.ensures.happens } })

pub returns-in-Back-clause-does : goal.returns-in-Back-clause-does
returns-in-Back-clause-does c = rw c.in-Back.is
    (c.back.ensures.comes_back.0, record { returned = c.back.result; result_is = c.done_told-in-Back.ensures; comes_back = c.back.ensures.comes_back.1 })

pub returns-in-SetHot-clause-does : goal.returns-in-SetHot-clause-does
returns-in-SetHot-clause-does c = rw c.in-SetHot.is c.set_hot.ensures.sets

pub returns-in-Raise-clause-does : goal.returns-in-Raise-clause-does
returns-in-Raise-clause-does c = rw c.in-Raise.is
    (_, record { told = c.raise.result; result_is = c.done_told-in-Raise.ensures; event = record { told = refl; happens = c.raise.ensures.happens } })

pub returns-in-SetLink-clause-does : goal.returns-in-SetLink-clause-does
returns-in-SetLink-clause-does c = rw c.in-SetLink.is
    ([], record { serves = c.set_link.ensures.serves; nothing = record { told = refl; stays = c.set_link.ensures.cluster } })

pub returns-in-Redo-clause-does : goal.returns-in-Redo-clause-does
returns-in-Redo-clause-does c = rw c.in-Redo.is c.redo.ensures.tells
