use Rattle.assise_desk.proofs.Common.{◌≡◌, ◌*◌, ◌≤◌, take, losses_bytes, DESK_BYTES}
use Rattle.assise_desk.proofs.page.place_losses.Given as goal

-- the losses in front of `client-index` are written
abbrev pub invariant-loop-client : goal.invariant-loop-client
invariant-loop-client l = record {
  written : take l.end l.out ≡ losses_bytes (take l.client-index l.losses);
  end : l.end ≡ 12 * l.client-index;
  few : l.end ≤ DESK_BYTES;
}
