use Rattle.assise_desk.proofs.Common.{◌≡◌, ◌∙◌, arith, of_z, to_z, to_z-of_z}
use Rattle.std.proofs.Common.{w64}
use Rattle.assise_desk.proofs.DeskSteps.{served_at}
use Rattle.assise_desk.proofs.caller_desk.serve_desk.Goals as goal

pub returns : goal.returns
returns c =
    let kept : to_z w64 (of_z w64 c.result_shown-desk.result) ≡ c.result_shown-desk.result = grind (arith, to_z-of_z) in
    served_at c.args.desk.now c.answer_request.new.desk c.answer_request.result _ (kept ∙ c.result_shown-desk.ensures) c.answer_request.ensures.answered
    c.answer_request.ensures.request
