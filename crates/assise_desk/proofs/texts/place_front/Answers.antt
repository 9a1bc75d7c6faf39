use Rattle.assise_desk.proofs.Common.{rules, ◌≡◌, ◌∙◌, ◌-◌, ap, arith, length, min, take, drop, length-drop, take_all, DESK_BYTES}
use Rattle.assise_desk.proofs.TextPages.{page_shown}
use Rattle.assise_desk.proofs.texts.place_front.Goals as goal

pub returns-clause-shown : goal.returns-clause-shown
returns-clause-shown c =
    let bytes = c.args.bytes.now in
    let left : c.in-Some.left.now ≡ drop c.args.first bytes =
    c.in-Some.ensures.lookup.0.2 ∙ take_all (length bytes - c.args.first) (drop c.args.first bytes) (omega (arith, length-drop c.args.first bytes)) in
    let count : c.min-count.result ≡ min (length c.in-Some.left.now) DESK_BYTES = search rules in
    page_shown c.place_at.result DESK_BYTES c.min-count.result c.args.out.now c.place_at.new.out c.split_at.result.0.now c.in-Some.left.now
    c.split_at.ensures.front count c.place_at.ensures.place c.place_at.ensures.written
    ∙ ap (take DESK_BYTES) left
