-- What a turn, and a halt, leave of a worker.
use Rattle.std.proofs.Common.{◌≡◌, ℕ, suc, ◌+◌, ◌<◌, ◌≤◌, inl, inr, Bool, true, false, List, [], ◌∷◌, ◌++◌}
use Rattle.std.proofs.Common.{sym, ap, ◌∙◌, subst, add-one, arith}
use Rattle.std.specs.Prelude.{if◌then◌else◌, nat_lt}
use Rattle.std.proofs.lemmas.Bool.{cases_lt}
use Rattle.ce_cert.specs.declared.ends.Bounds.{Bounds}
use Rattle.ce_rows.specs.declared.act.Act.{Act}
use Rattle.ce_rows.specs.declared.act.Act.TheVariants.{LoadsStop, LoadsLow, LoadsHigh, Stops}
use Rattle.ce_rows.specs.declared.act.LogEntry.{LogEntry}
use Rattle.ce_words.specs.Logs.{is_raise, is_lower, times}
use Rattle.ce_words.specs.Views.{kept, logged}
use Rattle.ce_words.specs.declared.view.Part.{Part}
use Rattle.ce_words.specs.declared.view.Run.{Run}
use Rattle.ce_crew.specs.Best.{IsBestLow, IsBestHigh}
use Rattle.ce_crew.specs.Gains.{EndsOffering}
use Rattle.ce_crew.specs.Rooms.{KeepsBest}
use Rattle.ce_crew.specs.Turn.{IsTurn, IsHalt, rescalings_after}
use Rattle.ce_crew.specs.WorkerLogs.{IsTurns}
use Rattle.ce_crew.specs.declared.room.WorkRoom.{WorkRoom}
use Rattle.ce_crew.proofs.BestVectors.{times_none, best_low_kept, best_high_kept, low_offered_new, low_offered_same}
use Rattle.ce_crew.proofs.BestVectors.{high_offered_new, high_offered_same}

-- One rescaling more at most.
pub one_more_at_most : (made asked : ℕ) → rescalings_after made asked ≤ made + 1
one_more_at_most made asked = go (nat_lt made asked)
  where
    go : (b : Bool) → (if b then made + 1 else made) ≤ made + 1
    go true = omega arith
    go false = omega arith

-- A turn more.
pub turn_more : (run : Run) (p : Part) (done made made' : ℕ) (log log' turn : List LogEntry)
    → IsTurns run p done log made
    → (t : IsTurn run p made (kept run log) turn) → log' ≡ log ++ turn → made' ≡ rescalings_after made t.asked
    → IsTurns run p (done + 1) log' made'
turn_more run p done made made' log log' turn turns t is after =
    let more : IsTurns run p (suc done) log' made' = record {
      before = log;
      made_before = made;
      turn = turn;
      turns = turns;
      is_turn = t;
      log_is = is;
      made_is = after;
    } in
    subst (λ (n : ℕ). IsTurns run p n log' made') (sym (add-one done)) more

-- What certifies nothing keeps the best vectors.
pub keeps_best_silent : (run : Run) (log more : List LogEntry) (room : WorkRoom) → ((c : ℕ) → times is_raise c more ≡ 0)
    → ((c : ℕ) → times is_lower c more ≡ 0) → KeepsBest run log room (log ++ more) room
keeps_best_silent run log more room no_low no_high = (
  λ initial beginning best. best_low_kept run initial beginning log room.low.low room.low_vector.items best more no_low,
  λ initial beginning best. best_high_kept run initial beginning log room.high.high room.high_vector.items best more
      no_high,
)

pub keeps_best_then : (run : Run) (log log1 log2 : List LogEntry) (room room1 room2 : WorkRoom)
    → KeepsBest run log room log1 room1 → KeepsBest run log1 room1 log2 room2 → KeepsBest run log room log2 room2
keeps_best_then run log log1 log2 room room1 room2 one two = (
  λ initial beginning best. two.0 initial beginning (one.0 initial beginning best),
  λ initial beginning best. two.1 initial beginning (one.1 initial beginning best),
)

-- What a room keeps of a copy whose bounds were found.
pub record KeepsCopy (b : Bounds) (copy : List ℕ) (room room' : WorkRoom) : Type 0 where
  pub low_new : room.low.low < b.low → (room'.low ≡ b) × (room'.low_vector.items ≡ copy)
  pub low_same : b.low ≤ room.low.low → (room'.low ≡ room.low) × (room'.low_vector.items ≡ room.low_vector.items)
  pub high_new : b.high < room.high.high → (room'.high ≡ b) × (room'.high_vector.items ≡ copy)
  pub high_same : room.high.high ≤ b.high
      → (room'.high ≡ room.high) × (room'.high_vector.items ≡ room.high_vector.items)

low_by : (run : Run) (initial : ℕ) (beginning : List ℕ) (log : List LogEntry) (b b' : Bounds) (v v' : List ℕ) → b' ≡ b
    → v' ≡ v → IsBestLow run initial beginning log b.low v → IsBestLow run initial beginning log b'.low v'
low_by run initial beginning log b b' v v' same vectors best =
    subst (λ (x : Bounds). IsBestLow run initial beginning log x.low v') (sym same)
    (subst (λ (x : List ℕ). IsBestLow run initial beginning log b.low x) (sym vectors) best)

high_by : (run : Run) (initial : ℕ) (beginning : List ℕ) (log : List LogEntry) (b b' : Bounds) (v v' : List ℕ) → b' ≡ b
    → v' ≡ v → IsBestHigh run initial beginning log b.high v → IsBestHigh run initial beginning log b'.high v'
high_by run initial beginning log b b' v v' same vectors best =
    subst (λ (x : Bounds). IsBestHigh run initial beginning log x.high v') (sym same)
    (subst (λ (x : List ℕ). IsBestHigh run initial beginning log b.high x) (sym vectors) best)

pub keeps_best_offered : (run : Run) (log log' : List LogEntry) (b : Bounds) (copy : List ℕ) (room room' : WorkRoom)
    → EndsOffering run b copy log log' → KeepsCopy b copy room room' → KeepsBest run log room log' room'
keeps_best_offered run log log' b copy room room' o k = (
  λ initial beginning best. elim (cases_lt room.low.low b.low) [
    | inl better ↦ let n = k.low_new better in
        low_by run initial beginning log' b room'.low copy room'.low_vector.items n.0 n.1
        (low_offered_new run b copy log log' o initial beginning room.low.low room.low_vector.items better best)
    | inr worse ↦ let n = k.low_same worse in
        low_by run initial beginning log' room.low room'.low room.low_vector.items room'.low_vector.items n.0 n.1
        (low_offered_same run b copy log log' o initial beginning room.low.low room.low_vector.items worse best)
  ],
  λ initial beginning best. elim (cases_lt b.high room.high.high) [
    | inl better ↦ let n = k.high_new better in
        high_by run initial beginning log' b room'.high copy room'.high_vector.items n.0 n.1
        (high_offered_new run b copy log log' o initial beginning room.high.high room.high_vector.items better best)
    | inr worse ↦ let n = k.high_same worse in
        high_by run initial beginning log' room.high room'.high room.high_vector.items room'.high_vector.items n.0
        n.1 (high_offered_same run b copy log log' o initial beginning room.high.high room.high_vector.items
        worse best)
  ],
)

-- A halt certifies nothing.
pub halt_silent : (is : Act → Bool) → is LoadsStop ≡ false → is LoadsLow ≡ false → is LoadsHigh ≡ false
    → is Stops ≡ false → (halt : List LogEntry) → IsHalt halt → (c : ℕ) → times is c halt ≡ 0
halt_silent is a b d e halt (inl one) c = ap (times is c) one ∙ times_none is c (logged LoadsStop 0 1 ∷ []) (a, tt)
halt_silent is a b d e halt (inr h) c =
    ap (times is c) h.1 ∙ times_none is c (logged LoadsStop 0 0 ∷ logged LoadsLow 0 h.0 ∷ logged LoadsHigh 0 h.0
    ∷ logged Stops 1 1 ∷ []) (a, (b, (d, (e, tt))))
