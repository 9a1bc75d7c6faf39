use Rattle.assise_names.proofs.Common.{◌∙◌, sym, arith, has_written_of_eq, IsUtf8-from_ascii, encode_lower}
use Rattle.assise_names.proofs.HexDigits.{IsAscii-encoded, printed}
use Rattle.assise_names.proofs.reply.write_digits.Goals as goal

pub unreachable-requires : goal.unreachable-requires
unreachable-requires g c =
    let bytes = c.args.bytes.now in
    c.in-Err.ensures.cases.0 (rw c.spell_bytes.ensures (IsUtf8-from_ascii (encode_lower bytes) (IsAscii-encoded bytes)))

pub returns : goal.returns
returns g c = λ plain ok.
    let bytes = c.args.bytes.now in
    has_written_of_eq _ _ _ _ _ (c.in-Ok.ensures.cases.0 ∙ c.spell_bytes.ensures ∙ sym (printed bytes (λ i. omega (arith, c.type_inv.bytes i))))
    (c.write_str.ensures.writes plain ok)
