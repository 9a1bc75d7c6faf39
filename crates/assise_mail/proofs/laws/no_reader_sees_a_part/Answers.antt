use Rattle.assise_mail.proofs.Readers.{nothing_or_whole, nothing_read}
use Rattle.assise_mail.proofs.Synced.{kept_leave}
use Rattle.assise_mail.proofs.laws.no_reader_sees_a_part.Goals as goal

pub returns-clause-nothing : goal.returns-clause-nothing
returns-clause-nothing c = λ h front behind r place offset most legal split is some leave. nothing_read h front behind r place offset most legal split is some
    (kept_leave place front leave)

pub returns-clause-whole : goal.returns-clause-whole
returns-clause-whole c = λ h front behind r draft place message offset most legal split is some d. nothing_or_whole h front behind r draft place message offset
    most legal split is some d
