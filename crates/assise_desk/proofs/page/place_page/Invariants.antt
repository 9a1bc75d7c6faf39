use Rattle.assise_desk.proofs.Common.{◌≡◌, ◌<◌, ◌≤◌, take, zero_ended, DESK_BYTES}
use Rattle.assise_desk.proofs.page.place_page.Given as goal

-- the names in front of `name-index` are written
abbrev pub invariant-loop-name : goal.invariant-loop-name
invariant-loop-name l = record {
  written : take l.end l.out ≡ zero_ended (take l.name-index l.left);
  few : l.end ≤ DESK_BYTES;
  begins : l.name-index ≡ 0 → l.end ≡ 0;
  goes_on : 0 < l.name-index → 0 < l.end;
}
