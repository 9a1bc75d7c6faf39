use Rattle.assise_mail.proofs.Delivered.{delivered}
use Rattle.assise_mail.proofs.laws.what_was_delivered_stands.Goals as goal

pub returns : goal.returns
returns c = record {
  stands = λ t before created written moved make write move draft place message run d. delivered draft place message make write move d t before created written
      moved run;
}
