use Rattle.assise_record.proofs.Common.{◌≡◌, ◌∙◌, ap, arith, drop, ltb, length, sym, take, List, ℕ, Short}
use Rattle.assise_record.proofs.FieldLaws.{cond_ok}
use Rattle.assise_record.proofs.Headers.{header_long}
use Rattle.assise_record.proofs.Rests.{behind_header}
use Rattle.assise_record.proofs.decode.checked_at.Goals as goal

pub returns-clause-behind : goal.returns-clause-behind
returns-clause-behind c =
    let bytes = c.args.bytes.now in
    let header = c.in_ok-header.header in
    let rest = c.in_ok-header.rest.now in
    let size = c.header.inside.size in
    let both = (cond_ok (ltb (length rest) size) Short (take size rest, drop size rest) (c.in_ok-body.body.now, c.in_ok-body.field-0-1.now)
    c.in_ok-body.ensures.read).1 in
    let behind = behind_header c.args.newest bytes header rest (λ i. omega (arith, c.type_inv.bytes i)) c.in_ok-header.ensures.read in
    let same : size ≡ header.size = ap (λ h. h.size) c.header.view_is in
    ap (λ (x : List ℕ × List ℕ). x.0) (sym both) ∙ ap (λ n. take n rest) same ∙ ap (take header.size) (sym behind)

pub returns-clause-long : goal.returns-clause-long
returns-clause-long c = omega (arith, header_long c.args.newest c.args.bytes.now c.in_ok-header.header c.in_ok-header.rest.now c.in_ok-header.ensures.read)
