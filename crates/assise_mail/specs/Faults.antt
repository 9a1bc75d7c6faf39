-- What is printed of the faults of the mail store.
use Rattle.std.specs.Prelude.{ℕ, List, ◌++◌, codes}
use Rattle.assise_names.specs.Text.{refusal_text, reply_text}
use Rattle.assise_mail.specs.declared.fault.MailFault.{MailFault}
use Rattle.assise_mail.specs.declared.fault.MailFault.TheVariants.{Answered, Refused}

abbrev pub mail_fault_text : MailFault → List ℕ
mail_fault_text (Refused refusal) = codes "refused: " ++ refusal_text refusal
mail_fault_text (Answered reply) = codes "answered: " ++ reply_text reply
