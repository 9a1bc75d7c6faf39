use Rattle.assise_names.proofs.Common.{◌≡◌, ◌*◌, ◌++◌, take, drop, encode_lower}
use Rattle.assise_names.proofs.reply.spell_bytes.Given as goal

abbrev pub invariant-bytes : goal.invariant-bytes
invariant-bytes l = take (2 * l.place) l.digits ++ encode_lower (drop l.place l.bytes) ≡ encode_lower l.bytes
