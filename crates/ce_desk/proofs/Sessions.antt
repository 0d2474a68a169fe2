-- A session goes on.
use Rattle.std.proofs.Common.{ℕ, List, ◌∙◌, arith}
use Rattle.std.specs.Prelude.{Result, Ok, Err}
use Rattle.ce_desk.specs.CasesInside.{KeepsTurns}
use Rattle.ce_desk.specs.Desk.{Slot}
use Rattle.ce_desk.specs.declared.talk.TalkEnd.{TalkEnd}

-- 1 where a slot is to be read
abbrev pub is_slot : Result ℕ TalkEnd → ℕ
is_slot (Ok slot) = 1
is_slot (Err end) = 0

pub turns_on : (a b c : List Slot) → KeepsTurns a b → KeepsTurns b c → KeepsTurns a c
turns_on a b c first next = record {
  count = next.count ∙ first.count;
  each = λ i x y within. next.each i x y (let n = first.count in omega (arith, within, n)) ∙ first.each i x x within;
}
