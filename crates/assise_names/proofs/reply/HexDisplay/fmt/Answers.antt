use Rattle.assise_names.proofs.Common.{List, ℕ, ◌++◌, ◌∙◌, sym, ap, rules, append_assoc, has_written_append, chunks_rest, hex, hex_byte}
use Rattle.std.proofs.lemmas.Grind.{flat_map-append}
use Rattle.assise_names.proofs.reply.HexDisplay.fmt.Goals as goal

pub loop-piece-preserved : goal.loop-piece-preserved
loop-piece-preserved g c =
    let piece = c.in-Some.piece.now in
    let rest = chunks_rest c.next.new.self in
    let steps = c.in-Some.ensures.steps in
    record {
      can_next = search rules;
      finite = tt;
      size = steps.0 ∙ c.loop-piece.invariant.size;
      written = λ plain.
          let so_far = c.loop-piece.invariant.written plain in (
            so_far.0 ++ hex piece,
            has_written_append _ _ _ _ _ _ so_far.1 (search rules),
            append_assoc so_far.0 (hex piece) (hex rest)
                ∙ ap (λ (t : List ℕ). so_far.0 ++ t) (sym (flat_map-append hex_byte piece rest) ∙ sym (ap hex steps.1.0)) ∙ so_far.2,
          );
    }
