use Rattle.std.proofs.Common.{◌≡◌, ◌<◌, ◌≤◌, ◌-◌, ◌^◌, ◌++◌, drop, length}
use Rattle.ce_map.specs.Digits.{number_text}
use Rattle.ce_map.proofs.pieces.write_hexadecimal.Given as goal

abbrev pub invariant-loop-left : goal.invariant-loop-left
invariant-loop-left l = record {
  room : l.left < 16 ^ (l.at - 5);
  within : 6 ≤ l.at;
  most : l.at ≤ 21;
  long : length l.digits ≡ 21;
  small : l.left < 2 ^ 62;
  written : number_text 16 l.left ++ drop l.at l.digits ≡ number_text 16 l.n;
}

abbrev pub decreases-loop-left : goal.decreases-loop-left
decreases-loop-left l = l.left
