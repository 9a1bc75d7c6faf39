use Rattle.assise_link.proofs.Common.{◌≡◌, ◌∙◌, Ok, sym, subst, inr, SpellsFrame, spelling}
use Rattle.assise_link.specs.Links.{gave, link_answer}
use Rattle.assise_link.proofs.WholeFrames.{same_frame}
use Rattle.assise_link.proofs.carrying.carry_frame.Goals as goal

pub returns-in_default-carry-clause-nothing : goal.returns-in_default-carry-clause-nothing
returns-in_default-carry-clause-nothing g c =
    let appended = c.in-Ok.ensures.ok in
    let begun = c.new-bytes.ensures.items in
    let sent : c.as_slice.result.now ≡ spelling c.args.frame.now = c.as_slice.ensures.value ∙ rw begun at appended in
    inr (link_answer c.carry.result, subst (λ x. g.L.Link.carries c.args.link.now x (link_answer c.carry.result) c.carry.new.self) sent c.carry.ensures.carries)

pub returns-in-Ok-decode_owned-clause-came : goal.returns-in-Ok-decode_owned-clause-came
returns-in-Ok-decode_owned-clause-came g c =
    let appended = c.in-Ok.ensures.ok in
    let begun = c.new-bytes.ensures.items in
    let sent : c.as_slice.result.now ≡ spelling c.args.frame.now = c.as_slice.ensures.value ∙ rw begun at appended in
    let came = c.in-Ok-Some.came.items in
    let carried : g.L.Link.carries c.args.link.now c.as_slice.result.now (gave came) c.carry.new.self =
    subst (λ o. g.L.Link.carries c.args.link.now c.as_slice.result.now (link_answer (Ok o)) c.carry.new.self) c.in-Ok-Some.field-0-is
    c.in-Ok-Some.ensures.carries in
    record {
      bytes = came;
      given = subst (λ x. g.L.Link.carries c.args.link.now x (gave came) c.carry.new.self) sent carried;
      used = c.in-Ok-decode_owned.field-0-1;
      begins = c.in-Ok-decode_owned.ensures.found;
    }

pub returns-in-Ok-decode_owned-clause-same : goal.returns-in-Ok-decode_owned-clause-same
returns-in-Ok-decode_owned-clause-same g c = λ faithful.
    let sent = c.args.frame.now in
    let appended = c.in-Ok.ensures.ok in
    let begun = c.new-bytes.ensures.items in
    let bytes : c.as_slice.result.now ≡ spelling sent = c.as_slice.ensures.value ∙ rw begun at appended in
    let carried : g.L.Link.carries c.args.link.now c.as_slice.result.now (gave c.in-Ok-Some.came.items) c.carry.new.self =
    subst (λ o. g.L.Link.carries c.args.link.now c.as_slice.result.now (link_answer (Ok o)) c.carry.new.self) c.in-Ok-Some.field-0-is
    c.in-Ok-Some.ensures.carries in
    let came : c.in-Ok-Some.came.items ≡ spelling sent = (g.met.L.Link g.world.𝓛 g.world.𝓜 g.world.𝓡 ((λ s x. x), (λ x. x), (λ x. x), λ x. x)).same _ _ faithful
    _ _ carried ∙ bytes in
    let spells : SpellsFrame 2 c.in-Ok-Some.came.items sent = subst (λ x. SpellsFrame 2 x sent) (sym came)
    (c.in-Ok.ensures.spelled 2 c.in-Ok.ensures.known_version) in
    same_frame c.args.newest c.in-Ok-decode_owned.field-0-1 c.in-Ok-Some.came.items c.in-Ok-decode_owned.frame sent c.requires.known_version
    c.in-Ok-decode_owned.ensures.found spells

pub returns-clause-nothing : goal.returns-clause-nothing
returns-clause-nothing g c =
    let appended = c.in-Ok.ensures.ok in
    let begun = c.new-bytes.ensures.items in
    let sent : c.as_slice.result.now ≡ spelling c.args.frame.now = c.as_slice.ensures.value ∙ rw begun at appended in
    inr (link_answer c.carry.result, subst (λ x. g.L.Link.carries c.args.link.now x (link_answer c.carry.result) c.carry.new.self) sent c.carry.ensures.carries)
