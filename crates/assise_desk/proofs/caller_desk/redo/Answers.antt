use Rattle.assise_desk.proofs.Common.{Ok, Err, refl, ap}
use Rattle.assise_desk.proofs.Losses.{loss_shown}
use Rattle.assise_desk.proofs.caller_desk.redo.Goals as goal

pub returns-in-Ok-clause-tells : goal.returns-in-Ok-clause-tells
returns-in-Ok-clause-tells c = (c.in-Ok.ensures.made.0, record { redone = Ok c.in-Ok.field-0; shown = (refl, refl); made = c.in-Ok.ensures.made.1 })

pub returns-in-Err-clause-tells : goal.returns-in-Err-clause-tells
returns-in-Err-clause-tells c = (
  c.in-Err.ensures.made.0,
  record {
    redone = Err c.in-Err.unmade;
    shown = (
      ap Err c.redo_fault.ensures,
      loss_shown c.place_loss.result c.args.out.now c.place_loss.new.out (c.args.request.now.kind, c.in-Err.unmade.call)
          c.place_loss.ensures.place c.place_loss.ensures.written,
    );
    made = c.in-Err.ensures.made.1;
  },
)
