use Rattle.assise_machine.specs.Following.{led_by}
use Rattle.assise_mail_example.proofs.Common.{back, fail, join, refill}
use Rattle.assise_mail_example.proofs.Changes.{failure_gives, join_gives, refill_gives, return_gives}
use Rattle.assise_mail_example.proofs.members.ClusterOfFailing.change.Goals as goal

pub returns-in-Fails : goal.returns-in-Fails
returns-in-Fails g c = record
    { gives = λ client right. failure_gives client right _ _ _ _ c.fail.ensures.happens; leads = led_by _ (fail _) _ _ c.fail.ensures.happens }

pub returns-in-BeginsToReturn : goal.returns-in-BeginsToReturn
returns-in-BeginsToReturn g c =
    record { gives = λ client right. return_gives client right _ _ _ _ c.back.ensures.happens; leads = led_by _ (back _) _ _ c.back.ensures.happens }

pub returns-in-IsFilled : goal.returns-in-IsFilled
returns-in-IsFilled g c = record
    { gives = λ client right. refill_gives client right _ _ _ _ c.refill.ensures.happens; leads = led_by _ (refill _) _ _ c.refill.ensures.happens }

pub returns-in-Joins : goal.returns-in-Joins
returns-in-Joins g c = record
    { gives = λ client right. join_gives client right _ _ _ _ c.join.ensures.happens; leads = led_by _ (join _) _ _ c.join.ensures.happens }
