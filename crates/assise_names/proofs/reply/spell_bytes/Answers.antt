use Rattle.assise_names.proofs.Common.{ℕ, arith, slice_index, ap, ◌∙◌, lower_digits}
use Rattle.std.proofs.lemmas.Nat.{and_mask}
use Rattle.hex.proofs.Pairs.{encode_step, encode_done}
use Rattle.assise_names.proofs.reply.spell_bytes.Goals as goal

pub bytes-preserved : goal.bytes-preserved
bytes-preserved c =
    let byte : ℕ = slice_index c.args.bytes.now c.bytes.place in
    encode_step lower_digits c.args.bytes.now c.bytes.digits c.bytes.place _ _ (omega arith) (omega arith) c.digit.ensures
    (c.digit-in-bytes.ensures ∙ ap (λ (k : ℕ). slice_index lower_digits k) (and_mask byte 4)) c.bytes.invariant

pub returns : goal.returns
returns c = encode_done _ _ _ c.bytes.place (omega arith) (omega arith) c.bytes.invariant
