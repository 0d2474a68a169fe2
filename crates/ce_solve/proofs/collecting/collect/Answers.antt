use Rattle.std.proofs.Common.{◌≡◌, ◌≤◌, ◌⊎◌, ◌++◌, ℕ, List, length, All, sym, subst, arith}
use Rattle.ce_crew.specs.declared.room.WorkEnd.{WorkEnd}
use Rattle.ce_words.specs.Invariant.{IsGreatest, IsLeast}
use Rattle.ce_words.specs.Logs.{Each, by_place, IsPossibleLog}
use Rattle.ce_words.proofs.Sums.{Each-more}
use Rattle.ce_live.specs.declared.reading.Reading.{Reading}
use Rattle.ce_words.specs.declared.board.Board.{Board}
use Rattle.ce_words.specs.declared.view.Run.{Run}
use Rattle.ce_solve.specs.ChaoticRun.{IsCertifiedLow, IsCertifiedHigh, HasKnownEnds}
use Rattle.ce_solve.specs.declared.crew.Actor.{Actor}
use Rattle.ce_words.specs.Seats.{board_run}
use Rattle.ce_words.specs.Steps.{IsSettled, WasSet, LiesInside}
use Rattle.ce_words.specs.Views.{view, kept}
use Rattle.ce_words.specs.declared.view.Place.{Place}
use Rattle.ce_solve.proofs.ReadingsAround.{readings_around}
use Rattle.ce_solve.proofs.ReadingEnds.{readings_end, readings_inside}
use Rattle.ce_words.specs.declared.view.View.{View}
use Rattle.ce_solve.specs.Actors.{IsOver, IsTold, IsFirstSeat, readings_of, places_of, worker_places, joined_all}
use Rattle.ce_solve.specs.ActorsInside.{AreClosingEnds}
use Rattle.ce_solve.specs.ClosingVectors.{IsClosingLow, IsClosingHigh}
use Rattle.ce_solve.proofs.Closing.{low_sum, high_sum, is_run, greatest_of_run, least_of_run}
use Rattle.ce_solve.proofs.ClosingEnds.{closing_low_is, closing_high_is, certificate_holds}
use Rattle.ce_solve.proofs.collecting.collect.Goals as goal

pub returns-clause-run : goal.returns-clause-run
returns-clause-run c =
    let j = c.join_all-best in
    let e = c.close-closed in
    let v = view c.args.first in
    let xs = c.args.actors.items in
    let l = e.result.low in
    let h = e.result.high in
    let s : IsSettled (joined_all v (places_of xs)) l h =
    subst (λ (x : View). IsSettled x l h) j.ensures.view e.ensures.settled in
    let set : WasSet (joined_all v (places_of xs)) = subst WasSet j.ensures.view e.ensures.set in
    λ turns t. is_run c.args.board c.args.initial.low_vector.items xs c.requires.over j.ensures.told v c.requires.first
    c.requires.seat.run l h s set turns t c.requires.parts

-- the closing bounds are those of the best ends
low_is : (b : Board) (u : List ℕ) (xs : List Actor) (v w : View) (e : WorkEnd) (l h : ℕ) → All (IsOver b u) xs
    → Each IsTold xs → IsFirstSeat v (length xs) → v.run ≡ board_run b → w ≡ joined_all v (places_of xs)
    → IsSettled w l h → AreClosingEnds (board_run b) u (worker_places xs) e → l ≡ e.low.low
low_is b u xs v w e l h over told fresh same joined s ends =
    let t : IsSettled (joined_all v (places_of xs)) l h = subst (λ (x : View). IsSettled x l h) joined s in
    let g = greatest_of_run b u xs over told v fresh same l h t in
    closing_low_is (board_run b) (board_run b).initial.low u (worker_places xs) e.low.low l e.low_vector.items
    (subst (λ (r : Run). IsGreatest r.initial.low (IsCertifiedLow (worker_places xs)) l) same g) ends.low

high_is : (b : Board) (u : List ℕ) (xs : List Actor) (v w : View) (e : WorkEnd) (l h : ℕ) → All (IsOver b u) xs
    → Each IsTold xs → IsFirstSeat v (length xs) → v.run ≡ board_run b → w ≡ joined_all v (places_of xs)
    → IsSettled w l h → AreClosingEnds (board_run b) u (worker_places xs) e → h ≡ e.high.high
high_is b u xs v w e l h over told fresh same joined s ends =
    let t : IsSettled (joined_all v (places_of xs)) l h = subst (λ (x : View). IsSettled x l h) joined s in
    let g = least_of_run b u xs over told v fresh same l h t in
    closing_high_is (board_run b) (board_run b).initial.high u (worker_places xs) e.high.high h e.high_vector.items
    (subst (λ (r : Run). IsLeast r.initial.high (IsCertifiedHigh (worker_places xs)) h) same g) ends.high

pub returns-clause-low_vector : goal.returns-clause-low_vector
returns-clause-low_vector c =
    let j = c.join_all-best in
    let e = c.close-closed in
    let b = c.args.board in
    let u = c.args.initial.low_vector.items in
    let xs = c.args.actors.items in
    let is = low_is b u xs (view c.args.first)
    (view j.new.first) j.result e.result.low e.result.high c.requires.over j.ensures.told c.requires.first
    c.requires.seat.run j.ensures.view e.ensures.settled j.ensures.best in
    subst (λ (l : ℕ). IsClosingLow (board_run b) (board_run b).initial.low u
    (worker_places xs) l j.result.low_vector.items) (sym is) j.ensures.best.low

pub returns-clause-high_vector : goal.returns-clause-high_vector
returns-clause-high_vector c =
    let j = c.join_all-best in
    let e = c.close-closed in
    let b = c.args.board in
    let u = c.args.initial.low_vector.items in
    let xs = c.args.actors.items in
    let is = high_is b u xs (view c.args.first)
    (view j.new.first) j.result e.result.low e.result.high c.requires.over j.ensures.told c.requires.first
    c.requires.seat.run j.ensures.view e.ensures.settled j.ensures.best in
    subst (λ (h : ℕ). IsClosingHigh (board_run b) (board_run b).initial.high u
    (worker_places xs) h j.result.high_vector.items) (sym is) j.ensures.best.high

pub returns-clause-certificate : goal.returns-clause-certificate
returns-clause-certificate c =
    let j = c.join_all-best in
    let e = c.close-closed in
    let b = c.args.board in
    let u = c.args.initial.low_vector.items in
    let xs = c.args.actors.items in
    let low = low_is b u xs (view c.args.first)
    (view j.new.first) j.result e.result.low e.result.high c.requires.over j.ensures.told c.requires.first
    c.requires.seat.run j.ensures.view e.ensures.settled j.ensures.best in
    let high = high_is b u xs (view c.args.first)
    (view j.new.first) j.result e.result.low e.result.high c.requires.over j.ensures.told c.requires.first
    c.requires.seat.run j.ensures.view e.ensures.settled j.ensures.best in
    certificate_holds (board_run b) j.result c.args.initial.ranks.items e.result.low e.result.high c.requires.start
    j.ensures.best.ends c.requires.initial.ranks low high e.ensures.settled.order
    (let most = j.ensures.best.high.most in omega (arith, high, most))

pub returns-clause-contain : goal.returns-clause-contain
returns-clause-contain c =
    let j = c.join_all-best in
    let e = c.close-closed in
    let v = view c.args.first in
    let xs = c.args.actors.items in
    let l = e.result.low in
    let h = e.result.high in
    let s : IsSettled (joined_all v (places_of xs)) l h =
    subst (λ (x : View). IsSettled x l h) j.ensures.view e.ensures.settled in
    let fresh = c.requires.first.joined in
    readings_around v.run l h xs j.ensures.told
    (subst (λ (ps : List Place). Each (λ (p : Place). (kept v.run p.log).low ≤ l) (ps ++ places_of xs)) fresh
    s.low_seen.1)
    (subst (λ (ps : List Place). Each (λ (p : Place). h ≤ (kept v.run p.log).high) (ps ++ places_of xs)) fresh
    s.high_seen.1)

pub returns-clause-inside_initial : goal.returns-clause-inside_initial
returns-clause-inside_initial c =
    let j = c.join_all-best in
    let e = c.close-closed in
    let v = view c.args.first in
    let xs = c.args.actors.items in
    let s : IsSettled (joined_all v (places_of xs)) e.result.low e.result.high =
    subst (λ (x : View). IsSettled x e.result.low e.result.high) j.ensures.view e.ensures.settled in
    let W : (Place → ℕ) → ℕ = λ g. by_place g (joined_all v (places_of xs)) in
    let logs = subst (λ (ps : List Place). Each (IsPossibleLog v.run W) (ps ++ places_of xs)) c.requires.first.joined
    s.logs.1 in
    subst (λ (r : Run). Each
    (λ (q : Reading). LiesInside r.initial.low r.initial.high q.interval.low q.interval.high) (readings_of xs))
    c.requires.seat.run (readings_inside v.run W xs j.ensures.told logs)

pub returns-clause-ends : goal.returns-clause-ends
returns-clause-ends c =
    let j = c.join_all-best in
    let e = c.close-closed in
    let b = c.args.board in
    let u = c.args.initial.low_vector.items in
    let v = view c.args.first in
    let xs = c.args.actors.items in
    let l = e.result.low in
    let h = e.result.high in
    let s : IsSettled (joined_all v (places_of xs)) l h =
    subst (λ (x : View). IsSettled x l h) j.ensures.view e.ensures.settled in
    let W : (Place → ℕ) → ℕ = λ g. by_place g (joined_all v (places_of xs)) in
    let logs = subst (λ (ps : List Place). Each (IsPossibleLog v.run W) (ps ++ places_of xs)) c.requires.first.joined
    s.logs.1 in
    let own = readings_end v.run W (IsCertifiedLow (worker_places xs)) (IsCertifiedHigh (worker_places xs)) xs
    (λ d k. let q = low_sum b u xs c.requires.over j.ensures.told v c.requires.first c.requires.seat.run l h s
    d in omega (arith, k, q))
    (λ d k. let q = high_sum b u xs c.requires.over j.ensures.told v c.requires.first c.requires.seat.run l h s
    d in omega (arith, k, q)) j.ensures.told logs in
    subst (λ (r : Run). Each (λ (q : Reading). HasKnownEnds r (worker_places xs) q.interval.low q.interval.high)
    (readings_of xs)) c.requires.seat.run
    (Each-more (λ (r : Reading). ((r.interval.low ≡ v.run.initial.low) ⊎ IsCertifiedLow
    (worker_places xs) r.interval.low) × ((r.interval.high ≡ v.run.initial.high) ⊎ IsCertifiedHigh
    (worker_places xs) r.interval.high))
    (λ (q : Reading). HasKnownEnds v.run (worker_places xs) q.interval.low q.interval.high)
    (λ q k. record { low_end = k.0; high_end = k.1 }) (readings_of xs) own)
