-- The bits of a binary logarithm by repeated squaring: where the square passes 2 it is halved, and
-- the next bit is 1. The rest is in units of 2^-62. Source: this project's choice of steps and
-- rounding, which fixes the bits that are printed.
use Rattle.std.specs.Prelude.{ℕ, zero, suc, ◌+◌, ◌-◌, ◌*◌, ◌/◌, ◌^◌, if◌then◌else◌, ◌==◌, nat_le, nat_lt}
use Rattle.ce_log2.specs.declared.squared.Squared.{Squared}

-- one step, with the bits so far and the square
abbrev pub step_down : ℕ → ℕ → Squared
step_down bits square =
    if nat_le (2 ^ 63) square then record { bits = 2 * bits + 1; rest = square / 2 }
    else record { bits = 2 * bits; rest = square }

abbrev pub step_up : ℕ → ℕ → Squared
step_up bits square =
    if nat_lt (2 ^ 63) square then record { bits = 2 * bits + 1; rest = (square + 1) / 2 }
    else record { bits = 2 * bits; rest = square }

-- the rest squared, rounded down or up
abbrev pub square_down : Squared → Squared
square_down s = step_down s.bits (s.rest * s.rest / 2 ^ 62)

abbrev pub square_up : Squared → Squared
square_up s = step_up s.bits ((s.rest * s.rest + (2 ^ 62 - 1)) / 2 ^ 62)

-- after so many steps
unfoldable pub steps_down : ℕ → ℕ → Squared
steps_down zero start = record { bits = 0; rest = start }
steps_down (suc k) start = square_down (steps_down k start)

unfoldable pub steps_up : ℕ → ℕ → Squared
steps_up zero start = record { bits = 0; rest = start }
steps_up (suc k) start = square_up (steps_up k start)

-- the answers at the scale with an exponent
abbrev pub bits_below_of : ℕ → ℕ → ℕ
bits_below_of exponent low =
    if low == 2 * 2 ^ exponent then 65536 else (steps_down 16 (low * 2 ^ (62 - exponent))).bits

abbrev pub rounded_up : Squared → ℕ
rounded_up s = if s.rest == 2 ^ 62 then s.bits else s.bits + 1

abbrev pub bits_above_of : ℕ → ℕ → ℕ
bits_above_of exponent high = rounded_up (steps_up 16 (high * 2 ^ (62 - exponent)))
