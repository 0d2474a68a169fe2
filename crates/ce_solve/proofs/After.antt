-- Actors after their runs.
use Rattle.std.proofs.Common.{◌≡◌, ℕ, zero, suc, ◌+◌, ◌*◌, ◌<◌, List, [], ◌∷◌, length, map, slice_index_or, All, refl}
use Rattle.std.proofs.Common.{sym, ap, ◌∙◌, subst, length-append, arith}
use mathlib.Core.Option.{some, some-injective}
use lib.ListN.{get_elem?}
use Rattle.ce_solve.specs.ChaoticRun.{part_of}
use Rattle.ce_words.specs.Seats.{board_run}
use Rattle.ce_words.specs.Views.{view}
use Rattle.ce_words.specs.declared.board.Board.{Board}
use Rattle.ce_words.specs.declared.view.Part.{Part}
use Rattle.ce_words.specs.declared.view.Place.{Place}
use Rattle.ce_live.specs.Sessions.{SessionState}
use Rattle.ce_crew.specs.declared.worker.Worker.{Worker}
use Rattle.ce_solve.specs.Actors.{HasRun, HasRunWorker, HasRunSession, IsHiredWorker, IsOver, IsOverWorker}
use Rattle.ce_solve.specs.Actors.{IsOverSession, HasTurns, IsTold, IsToldSession, worker_places, readings_of}
use Rattle.ce_solve.specs.ActorsInside.{ArePartsFrom, HaveRun, IsHired, IsSeatedSession, AreSessionsFrom, sessions_in}
use Rattle.ce_solve.specs.SolvedRows.{AreOfSession, AreReadingsFrom}
use Rattle.ce_live.specs.Sessions.{AreNumbered}
use Rattle.ce_words.specs.Logs.{Each}
use Rattle.ce_solve.specs.declared.crew.Actor.{Actor}
use Rattle.ce_solve.specs.declared.crew.Actor.TheVariants.{Worker as AWorker, Session as ASession}
use Rattle.ce_solve.proofs.Joins.{all_head, all_tail}
use Rattle.ce_solve.proofs.Assembling.{all_cons}

-- each by its index, so all
pub have_run : (b : Board) (xs ys : List Actor) → length ys ≡ length xs
    → ((i : ℕ) (d : Actor) → i < length xs → HasRun b (slice_index_or xs i d) (slice_index_or ys i d)) → HaveRun b xs ys
have_run b [] [] same h = tt
have_run b [] (y ∷ ys) same h = absurd (omega (arith, same))
have_run b (x ∷ xs) [] same h = absurd (omega (arith, same))
have_run b (x ∷ xs) (y ∷ ys) same h =
    (h 0 x (omega arith), have_run b xs ys (omega (arith, same)) (λ i d l. h (suc i) d (omega arith)))

pub worker_over : (b : Board) (u : List ℕ) (t : ℕ) (w w' : Worker) → IsHiredWorker b u t w → HasRunWorker b w w'
    → IsOverWorker b u w'
worker_over b u t w w' h k = record {
  worker = k.worker;
  role = k.keeps.role ∙ h.role;
  joined = k.keeps.joined ∙ h.joined;
  ends = k.ran.ends;
  low = k.keeps.best.0 (board_run b).initial.low u h.low;
  high = k.keeps.best.1 (board_run b).initial.high u h.high;
}

pub session_over : (b : Board) (r : ℕ) (s s' : SessionState) → IsSeatedSession b r s → HasRunSession b s s'
    → IsOverSession b s'
session_over b r s s' h k = record {
  sits = k.sits;
  role = k.role ∙ h.over.role;
  joined = k.joined ∙ h.over.joined;
  empty = ap (λ (p : Part). p.from) k.its_part ∙ (h.over.empty ∙ sym (ap (λ (p : Part). p.to) k.its_part));
}

pub all_over : (b : Board) (u : List ℕ) (t r : ℕ) (xs ys : List Actor) → HaveRun b xs ys → All (IsHired b u t r) xs
    → All (IsOver b u) ys
all_over b u t r [] [] ran h = λ k d l. absurd (omega arith)
all_over b u t r (x ∷ xs) [] ran h = absurd ran
all_over b u t r [] (y ∷ ys) ran h = absurd ran
all_over b u t r (x ∷ xs) (y ∷ ys) ran h =
    all_cons (IsOver b u) y ys (one x (all_head (IsHired b u t r) x xs h) ran.0)
    (all_over b u t r xs ys ran.1 (all_tail (IsHired b u t r) x xs h))
  where
    one : (x : Actor) → IsHired b u t r x → HasRun b x y → IsOver b u y
    one (AWorker w) h k = subst (IsOver b u) (sym k.1) (worker_over b u t w k.0 h k.2)
    one (ASession s) h k = subst (IsOver b u) (sym k.1) (session_over b r s k.0 h k.2)

pub all_turns : (b : Board) (u : List ℕ) (t r : ℕ) (xs ys : List Actor) → HaveRun b xs ys → All (IsHired b u t r) xs
    → All (HasTurns t) ys
all_turns b u t r [] [] ran h = λ k d l. absurd (omega arith)
all_turns b u t r (x ∷ xs) [] ran h = absurd ran
all_turns b u t r [] (y ∷ ys) ran h = absurd ran
all_turns b u t r (x ∷ xs) (y ∷ ys) ran h =
    all_cons (HasTurns t) y ys (one x (all_head (IsHired b u t r) x xs h) ran.0)
    (all_turns b u t r xs ys ran.1 (all_tail (IsHired b u t r) x xs h))
  where
    one : (x : Actor) → IsHired b u t r x → HasRun b x y → HasTurns t y
    one (AWorker w) h k = subst (HasTurns t) (sym k.1) (k.2.keeps.turns ∙ h.turns)
    one (ASession s) h k = subst (HasTurns t) (sym k.1) tt

-- The workers' parts stay.
pub parts_after : (b : Board) (u : List ℕ) (t r : ℕ) (xs ys : List Actor) → HaveRun b xs ys → All (IsHired b u t r) xs
    → map (λ (p : Place). p.part) (worker_places ys) ≡ map (λ (p : Place). p.part) (worker_places xs)
parts_after b u t r [] [] ran h = refl
parts_after b u t r (x ∷ xs) [] ran h = absurd ran
parts_after b u t r [] (y ∷ ys) ran h = absurd ran
parts_after b u t r (x ∷ xs) (y ∷ ys) ran h =
    one x (parts_after b u t r xs ys ran.1 (all_tail (IsHired b u t r) x xs h))
    (all_head (IsHired b u t r) x xs h) ran.0
  where
    one : (x : Actor) → map (λ (p : Place). p.part) (worker_places ys) ≡ map (λ (p : Place). p.part) (worker_places xs)
        → IsHired b u t r x → HasRun b x y
        → map (λ (p : Place). p.part) (worker_places (y ∷ ys)) ≡ map (λ (p : Place). p.part) (worker_places (x ∷ xs))
    one (AWorker w) rest h k =
        let here : (view k.0.seat).place.part ≡ (view w.seat).place.part =
        sym k.2.worker.its_part ∙ (k.2.keeps.its_part ∙ h.worker.its_part) in
        ap (λ (a : Actor). map (λ (p : Place). p.part) (worker_places (a ∷ ys))) k.1 ∙ (λ i. here i ∷ rest i)
    one (ASession s) rest h k = ap (λ (a : Actor). map (λ (p : Place). p.part) (worker_places (a ∷ ys))) k.1 ∙ rest

-- How many readings there are then.
pub readings_after : (b : Board) (u : List ℕ) (t r : ℕ) (xs ys : List Actor) → HaveRun b xs ys
    → All (IsHired b u t r) xs → length (readings_of ys) + r * length (worker_places xs) ≡ r * length xs
readings_after b u t r [] [] ran h = omega arith
readings_after b u t r (x ∷ xs) [] ran h = absurd ran
readings_after b u t r [] (y ∷ ys) ran h = absurd ran
readings_after b u t r (x ∷ xs) (y ∷ ys) ran h =
    one x (readings_after b u t r xs ys ran.1 (all_tail (IsHired b u t r) x xs h))
    (all_head (IsHired b u t r) x xs h) ran.0
  where
    one : (x : Actor) → length (readings_of ys) + r * length (worker_places xs) ≡ r * length xs → IsHired b u t r x
        → HasRun b x y → length (readings_of (y ∷ ys)) + r * length (worker_places (x ∷ xs)) ≡ r * length (x ∷ xs)
    one (AWorker w) rest h k =
        let same = ap (λ (a : Actor). length (readings_of (a ∷ ys))) k.1 in omega (arith, same, rest)
    one (ASession s) rest h k =
        let same = ap (λ (a : Actor). length (readings_of (a ∷ ys))) k.1 in
        let here : length k.0.room.readings ≡ r = k.2.all ∙ h.reads in
        omega (arith, same, rest, here, length-append k.0.room.readings (readings_of ys))

-- A session's readings, once it ran.
session_read : (b : Board) (r first : ℕ) (s s' : SessionState) → IsSeatedSession b r s → HasRunSession b s s'
    → s.session ≡ first → IsToldSession s' → AreOfSession first r s'.room.readings
session_read b r first s s' h k number told = record {
  all = k.all ∙ h.reads;
  numbered = subst (λ n. AreNumbered n 0 s'.room.readings) (k.session ∙ number) told.numbered;
  never_widen = told.never_widen;
}

-- All readings stand by session.
pub sessions_read : (b : Board) (u : List ℕ) (t r first : ℕ) (xs ys : List Actor) → HaveRun b xs ys
    → All (IsHired b u t r) xs → AreSessionsFrom first xs → Each IsTold ys
    → AreReadingsFrom first (sessions_in xs) r (readings_of ys)
sessions_read b u t r first [] [] ran h numbered told = refl
sessions_read b u t r first (x ∷ xs) [] ran h numbered told = absurd ran
sessions_read b u t r first [] (y ∷ ys) ran h numbered told = absurd ran
sessions_read b u t r first (AWorker w ∷ xs) (y ∷ ys) ran h numbered told =
    let rest = sessions_read b u t r first xs ys ran.1 (all_tail (IsHired b u t r) (AWorker w) xs h) numbered told.1 in
    subst (λ (a : Actor). AreReadingsFrom first (sessions_in xs) r (readings_of (a ∷ ys))) (sym ran.0.1) rest
sessions_read b u t r first (ASession s ∷ xs) (y ∷ ys) ran h numbered told =
    let s' = ran.0.0 in
    let rest = sessions_read b u t r (first + 1) xs ys ran.1
    (all_tail (IsHired b u t r) (ASession s) xs h) numbered.1 told.1 in
    let own = session_read b r first s s' (all_head (IsHired b u t r) (ASession s) xs h) ran.0.2 numbered.0
    (subst IsTold ran.0.1 told.0) in
    let all : AreReadingsFrom first (suc (sessions_in xs)) r (readings_of (ASession s' ∷ ys)) =
    (s'.room.readings, readings_of ys, refl, own, rest) in
    let count : suc (sessions_in xs) ≡ sessions_in xs + 1 = omega arith in
    subst (λ (a : Actor). AreReadingsFrom first (sessions_in xs + 1) r (readings_of (a ∷ ys))) (sym ran.0.1)
    (subst (λ (n : ℕ). AreReadingsFrom first n r (readings_of (ASession s' ∷ ys))) count all)

-- Places with the same parts are the same workers' parts.
pub parts_same : (n w first : ℕ) (ps qs : List Place) → map (λ (p : Place). p.part) qs ≡ map (λ (p : Place). p.part) ps
    → ArePartsFrom n w first ps → ArePartsFrom n w first qs
parts_same n w first [] [] same h k q at = h k q at
parts_same n w first [] (q' ∷ qs) same h k q at =
    absurd (let long = ap (λ (xs : List Part). length xs) same in omega (arith, long))
parts_same n w first (p ∷ ps) [] same h k q at =
    absurd (let long = ap (λ (xs : List Part). length xs) same in omega (arith, long))
parts_same n w first (p ∷ ps) (q' ∷ qs) same h zero q at =
    let here : q'.part ≡ p.part = ap (head_of p.part) same in
    ap (λ (x : Place). x.part) (sym (some-injective q' q at)) ∙ (here ∙ h 0 p refl)
  where
    head_of : Part → List Part → Part
    head_of d [] = d
    head_of d (x ∷ xs) = x
parts_same n w first (p ∷ ps) (q' ∷ qs) same h (suc k) q at =
    let shift : first + 1 + k ≡ first + suc k = omega arith in
    parts_same n w (first + 1) ps qs (ap (tail_of) same)
    (λ j x e. let move : first + suc j ≡ first + 1 + j = omega arith in h (suc j) x e ∙ ap (part_of n w) move) k q
    at ∙ ap (part_of n w) shift
  where
    tail_of : List Part → List Part
    tail_of [] = []
    tail_of (x ∷ xs) = xs

-- Who was hired and ran, where the list was written over in place.
pub record AreDone (b : Board) (u : List ℕ) (t r : ℕ) (xs zs : List Actor) : Type 0 where
  pub over : All (IsOver b u) zs
  pub turns : All (HasTurns t) zs
  pub long : length zs ≡ length xs
  pub places : map (λ (p : Place). p.part) (worker_places zs) ≡ map (λ (p : Place). p.part) (worker_places xs)
  pub readings : length (readings_of zs) + r * length (worker_places xs) ≡ r * length xs
  pub sessions : AreSessionsFrom 0 xs → Each IsTold zs → AreReadingsFrom 0 (sessions_in xs) r (readings_of zs)

pub are_done : (b : Board) (u : List ℕ) (t r : ℕ) (xs olds news zs : List Actor) → olds ≡ xs → length news ≡ length olds
    → zs ≡ news → All (IsHired b u t r) xs
    → ((i : ℕ) (d : Actor) → i < length olds → HasRun b (slice_index_or olds i d) (slice_index_or news i d))
    → AreDone b u t r xs zs
are_done b u t r xs olds news zs same long is hired ran =
    let h : All (IsHired b u t r) olds = subst (λ (l : List Actor). All (IsHired b u t r) l) (sym same) hired in
    let k = have_run b olds news long ran in
    let own : AreDone b u t r olds news = record {
      over = all_over b u t r olds news k h;
      turns = all_turns b u t r olds news k h;
      long = long;
      places = parts_after b u t r olds news k h;
      readings = readings_after b u t r olds news k h;
      sessions = sessions_read b u t r 0 olds news k h;
    } in
    subst (λ (l : List Actor). AreDone b u t r l zs) same
    (subst (λ (l : List Actor). AreDone b u t r olds l) (sym is) own)

pub length_parts : (ps qs : List Place) → map (λ (p : Place). p.part) qs ≡ map (λ (p : Place). p.part) ps
    → length qs ≡ length ps
length_parts ps qs same = sym (long qs) ∙ (ap (λ (xs : List Part). length xs) same ∙ long ps)
  where
    long : (rs : List Place) → length (map (λ (p : Place). p.part) rs) ≡ length rs
    long [] = refl
    long (r ∷ rs) = ap (λ k. suc k) (long rs)

pub parts_from_zero : (n : ℕ) (ps qs : List Place) → map (λ (p : Place). p.part) qs ≡ map (λ (p : Place). p.part) ps
    → ArePartsFrom n (length ps) 0 ps
    → (k : ℕ) (p : Place) → get_elem? qs k ≡ some p → p.part ≡ part_of n (length qs) k
parts_from_zero n ps qs same h k p at =
    let here = parts_same n (length ps) 0 ps qs same h k p at in
    let zero_on : 0 + k ≡ k = omega arith in
    here ∙ (λ i. part_of n (sym (length_parts ps qs same) i) (zero_on i))
