-- Actors that are joined one after another.
use Rattle.std.proofs.Common.{◌≡◌, ℕ, suc, ◌+◌, ◌-◌, ◌<◌, ◌≤◌, ◌⊎◌, inl, inr, List, [], ◌∷◌, ◌++◌, length, All, refl}
use Rattle.std.proofs.Common.{sym, ap, ◌∙◌, subst, append_assoc, append-nil, length-append, arith}
use Rattle.std.proofs.lemmas.Bool.{cases_lt}
use Rattle.ce_cert.specs.declared.ends.Bounds.{Bounds}
use Rattle.ce_words.proofs.Sums.{Each-more, Each-append}
use Rattle.ce_words.specs.Seats.{board_run}
use Rattle.ce_cert.specs.Vectors.{IsVectorOf}
use Rattle.ce_crew.specs.Rooms.{AreBoundsOf}
use Rattle.ce_words.specs.Views.{view, viewed, rows_of}
use Rattle.ce_words.specs.declared.board.Board.{Board}
use Rattle.ce_words.specs.declared.view.Place.{Place}
use Rattle.ce_words.specs.declared.view.Run.{Run}
use Rattle.ce_words.specs.declared.view.View.{View}
use Rattle.ce_live.specs.declared.reading.Reading.{Reading}
use Rattle.ce_crew.specs.Best.{CertifiesLow, CertifiesHigh, IsFirstLow, IsFirstHigh}
use Rattle.ce_crew.specs.declared.room.WorkEnd.{WorkEnd}
use Rattle.ce_solve.specs.Actors.{IsOver, worker_places, readings_of, joined_all}
use Rattle.ce_solve.specs.ActorsInside.{IsBestWith, AreClosingEnds}
use Rattle.ce_solve.specs.ClosingVectors.{IsClosingLow, IsClosingHigh, IsFirstLowAmong, IsFirstHighAmong}
use Rattle.ce_solve.specs.declared.crew.Actor.{Actor}
use Rattle.ce_solve.specs.declared.crew.Actor.TheVariants.{Worker as AWorker, Session as ASession}

pub worker_places-append : (xs ys : List Actor) → worker_places (xs ++ ys) ≡ worker_places xs ++ worker_places ys
worker_places-append [] ys = refl
worker_places-append (AWorker w ∷ xs) ys =
    ap (λ (ps : List Place). (view w.seat).place ∷ ps) (worker_places-append xs ys)
worker_places-append (ASession s ∷ xs) ys = worker_places-append xs ys

pub readings_of-append : (xs ys : List Actor) → readings_of (xs ++ ys) ≡ readings_of xs ++ readings_of ys
readings_of-append [] ys = refl
readings_of-append (AWorker w ∷ xs) ys = readings_of-append xs ys
readings_of-append (ASession s ∷ xs) ys =
    ap (λ (rs : List Reading). s.room.readings ++ rs) (readings_of-append xs ys) ∙ sym
    (append_assoc s.room.readings (readings_of xs) (readings_of ys))

pub joined_all-append : (v : View) (ps qs : List Place) → joined_all (joined_all v ps) qs ≡ joined_all v (ps ++ qs)
joined_all-append v ps qs =
    let out : v.out - length ps - length qs ≡ v.out - length (ps ++ qs) = omega (arith, length-append ps qs) in
    (λ i. viewed v.run v.role v.place (append_assoc v.joined ps qs i) (out i))

pub all_head : (P : Actor → Type 0) (x : Actor) (xs : List Actor) → All P (x ∷ xs) → P x
all_head P x xs h = h 0 x (omega arith)

pub all_tail : (P : Actor → Type 0) (x : Actor) (xs : List Actor) → All P (x ∷ xs) → All P xs
all_tail P x xs h k d l = h (suc k) d (omega arith)

-- the room that is left for readings
pub room_left : (done rest : List Actor) (x : Actor) (whole : List Actor) (readings : List Reading) (room room' : ℕ)
    → done ++ x ∷ rest ≡ whole → length (readings_of whole) ≤ room → room ≤ room' → readings ≡ readings_of done
    → length readings + length (readings_of (x ∷ [])) ≤ room'
room_left done rest x whole readings room room' split all more is =
    let one = ap (λ (xs : List Actor). length (readings_of xs)) split in
    let two = ap (λ (rs : List Reading). length rs) (readings_of-append done (x ∷ rest)) in
    let three = ap (λ (rs : List Reading). length rs) (readings_of-append (x ∷ []) rest) in
    let four = length-append (readings_of done) (readings_of (x ∷ rest)) in
    let five = length-append (readings_of (x ∷ [])) (readings_of rest) in
    let six = ap (λ (rs : List Reading). length rs) is in
    omega (arith, one, two, three, four, five, six, all, more)

module _ (run : Run) (beginning : List ℕ) (places : List Place) (p : Place) where
  -- a log more, whose best low bound is no better
  low_same : (initial low wlow : ℕ) (vector wvector : List ℕ) → IsClosingLow run initial beginning places low vector
      → ((c : ℕ) → CertifiesLow c p.log → c ≤ wlow) → wlow ≤ low
      → IsClosingLow run initial beginning (places ++ p ∷ []) low vector
  low_same initial low wlow vector wvector h most worse = record {
    least = h.least;
    greatest = Each-append (λ (q : Place). (c : ℕ) → CertifiesLow c q.log → c ≤ low) places (p ∷ []) h.greatest
        ((λ c k. let m = most c k in omega arith), tt);
    source = source h.source;
  }
    where
      source : ((low ≡ initial) × (vector ≡ beginning)) ⊎ ((initial < low) × IsFirstLowAmong run places low vector)
          → ((low ≡ initial) × (vector ≡ beginning))
          ⊎ ((initial < low) × IsFirstLowAmong run (places ++ p ∷ []) low vector)
      source (inl same) = inl same
      source (inr f) = inr (
        f.0,
        record {
          before = f.1.before;
          place = f.1.place;
          after = f.1.after ++ p ∷ [];
          places_are = ap (λ (ps : List Place). ps ++ p ∷ []) f.1.places_are ∙ append_assoc f.1.before
              (f.1.place ∷ f.1.after) (p ∷ []);
          less = f.1.less;
          first = f.1.first;
        },
      )

  -- a log more, whose best low bound is better
  low_new : (initial low wlow : ℕ) (vector wvector : List ℕ) → IsClosingLow run initial beginning places low vector
      → ((c : ℕ) → CertifiesLow c p.log → c ≤ wlow)
      → ((wlow ≡ initial) × (wvector ≡ beginning)) ⊎ ((initial < wlow) × IsFirstLow run p.log wlow wvector) → low < wlow
      → IsClosingLow run initial beginning (places ++ p ∷ []) wlow wvector
  low_new initial low wlow vector wvector h most (inl same) better =
      let l = h.least in let s = same.0 in absurd (omega arith)
  low_new initial low wlow vector wvector h most (inr first) better = record {
    least = let l = h.least in omega arith;
    greatest = Each-append (λ (q : Place). (c : ℕ) → CertifiesLow c q.log → c ≤ wlow) places (p ∷ [])
        (Each-more (λ (q : Place). (c : ℕ) → CertifiesLow c q.log → c ≤ low)
        (λ (q : Place). (c : ℕ) → CertifiesLow c q.log → c ≤ wlow)
        (λ q k c m. let n = k c m in omega arith) places h.greatest) (most, tt);
    source = inr (
      first.0,
      record {
        before = places;
        place = p;
        after = [];
        places_are = refl;
        less = Each-more (λ (q : Place). (c : ℕ) → CertifiesLow c q.log → c ≤ low)
            (λ (q : Place). (c : ℕ) → CertifiesLow c q.log → c < wlow)
            (λ q k c m. let n = k c m in omega arith) places h.greatest;
        first = first.1;
      },
    );
  }

  high_same : (initial high whigh : ℕ) (vector wvector : List ℕ)
      → IsClosingHigh run initial beginning places high vector → ((c : ℕ) → CertifiesHigh c p.log → whigh ≤ c)
      → high ≤ whigh → IsClosingHigh run initial beginning (places ++ p ∷ []) high vector
  high_same initial high whigh vector wvector h least worse = record {
    most = h.most;
    least = Each-append (λ (q : Place). (c : ℕ) → CertifiesHigh c q.log → high ≤ c) places (p ∷ []) h.least
        ((λ c k. let m = least c k in omega arith), tt);
    source = source h.source;
  }
    where
      source : ((high ≡ initial) × (vector ≡ beginning)) ⊎ ((high < initial) × IsFirstHighAmong run places high vector)
          → ((high ≡ initial) × (vector ≡ beginning))
          ⊎ ((high < initial) × IsFirstHighAmong run (places ++ p ∷ []) high vector)
      source (inl same) = inl same
      source (inr f) = inr (
        f.0,
        record {
          before = f.1.before;
          place = f.1.place;
          after = f.1.after ++ p ∷ [];
          places_are = ap (λ (ps : List Place). ps ++ p ∷ []) f.1.places_are ∙ append_assoc f.1.before
              (f.1.place ∷ f.1.after) (p ∷ []);
          more = f.1.more;
          first = f.1.first;
        },
      )

  high_new : (initial high whigh : ℕ) (vector wvector : List ℕ) → IsClosingHigh run initial beginning places high vector
      → ((c : ℕ) → CertifiesHigh c p.log → whigh ≤ c)
      → ((whigh ≡ initial) × (wvector ≡ beginning)) ⊎ ((whigh < initial) × IsFirstHigh run p.log whigh wvector)
      → whigh < high → IsClosingHigh run initial beginning (places ++ p ∷ []) whigh wvector
  high_new initial high whigh vector wvector h least (inl same) better =
      let l = h.most in let s = same.0 in absurd (omega arith)
  high_new initial high whigh vector wvector h least (inr first) better = record {
    most = let l = h.most in omega arith;
    least = Each-append (λ (q : Place). (c : ℕ) → CertifiesHigh c q.log → whigh ≤ c) places (p ∷ [])
        (Each-more (λ (q : Place). (c : ℕ) → CertifiesHigh c q.log → high ≤ c)
        (λ (q : Place). (c : ℕ) → CertifiesHigh c q.log → whigh ≤ c)
        (λ q k c m. let n = k c m in omega arith) places h.least) (least, tt);
    source = inr (
      first.0,
      record {
        before = places;
        place = p;
        after = [];
        places_are = refl;
        more = Each-more (λ (q : Place). (c : ℕ) → CertifiesHigh c q.log → high ≤ c)
            (λ (q : Place). (c : ℕ) → CertifiesHigh c q.log → whigh < c)
            (λ q k c m. let n = k c m in omega arith) places h.least;
        first = first.1;
      },
    );
  }

-- One end of the closing ends.
record LowEnd (run : Run) (beginning : List ℕ) (places : List Place) (b : Bounds) (vector : List ℕ) : Type 0 where
  is_vector : IsVectorOf (rows_of run) vector
  bounds : AreBoundsOf run vector b
  closing : IsClosingLow run run.initial.low beginning places b.low vector

record HighEnd (run : Run) (beginning : List ℕ) (places : List Place) (b : Bounds) (vector : List ℕ) : Type 0 where
  is_vector : IsVectorOf (rows_of run) vector
  bounds : AreBoundsOf run vector b
  closing : IsClosingHigh run run.initial.high beginning places b.high vector

by_equal : (E : Bounds → List ℕ → Type 0) (b b' : Bounds) (v v' : List ℕ) → b' ≡ b → v' ≡ v → E b v → E b' v'
by_equal E b b' v v' same vectors h =
    subst (λ (x : Bounds). E x v') (sym same) (subst (λ (x : List ℕ). E b x) (sym vectors) h)

pub closing_step : (b : Board) (beginning : List ℕ) (done : List Actor) (x : Actor) (best e : WorkEnd)
    → IsOver b beginning x → AreClosingEnds (board_run b) beginning (worker_places done) best → IsBestWith x best e
    → AreClosingEnds (board_run b) beginning (worker_places (done ++ x ∷ [])) e
closing_step b beginning done (ASession s) best e over h same =
    let ps : worker_places (done ++ ASession s ∷ []) ≡ worker_places done =
    worker_places-append done (ASession s ∷ []) ∙ append-nil (worker_places done) in
    subst (λ (qs : List Place). AreClosingEnds (board_run b) beginning qs e) (sym ps)
    (subst (λ (x : WorkEnd). AreClosingEnds (board_run b) beginning (worker_places done) x) (sym same) h)
closing_step b beginning done (AWorker w) best e over h k =
    let run = board_run b in
    let p : Place = (view w.seat).place in
    let places : List Place = worker_places done in
    let more : List Place = places ++ p ∷ [] in
    let room = w.room in let better = k.1 in
    let low : LowEnd run beginning more e.low e.low_vector.items = elim (cases_lt best.low.low room.low.low) [
      | inl new ↦ let n = better.low_new (let q = ap (λ (x : Bounds). x.low) k.2 in omega arith) in
          by_equal (LowEnd run beginning more) room.low e.low room.low_vector.items e.low_vector.items (n.0 ∙ k.2)
          (n.1 ∙ k.3) record {
            is_vector = over.worker.room.low_vector;
            bounds = over.worker.room.low;
            closing = low_new run beginning places p run.initial.low best.low.low room.low.low best.low_vector.items
                room.low_vector.items h.low over.low.greatest over.low.source new;
          }
      | inr old ↦ let n = better.low_same (let q = ap (λ (x : Bounds). x.low) k.2 in omega arith) in
          by_equal (LowEnd run beginning more) best.low e.low best.low_vector.items e.low_vector.items n.0 n.1 record {
            is_vector = h.ends.low_vector;
            bounds = h.ends.low;
            closing = low_same run beginning places p run.initial.low best.low.low room.low.low best.low_vector.items
                room.low_vector.items h.low over.low.greatest old;
          }
    ] in
    let high : HighEnd run beginning more e.high e.high_vector.items = elim (cases_lt room.high.high best.high.high) [
      | inl new ↦ let n = better.high_new (let q = ap (λ (x : Bounds). x.high) k.4 in omega arith) in
          by_equal (HighEnd run beginning more) room.high e.high room.high_vector.items e.high_vector.items (n.0 ∙ k.4)
          (n.1 ∙ k.5) record {
            is_vector = over.worker.room.high_vector;
            bounds = over.worker.room.high;
            closing = high_new run beginning places p run.initial.high best.high.high room.high.high
                best.high_vector.items room.high_vector.items h.high over.high.least over.high.source new;
          }
      | inr old ↦ let n = better.high_same (let q = ap (λ (x : Bounds). x.high) k.4 in omega arith) in
          by_equal (HighEnd run beginning more) best.high e.high best.high_vector.items e.high_vector.items n.0 n.1
          record {
            is_vector = h.ends.high_vector;
            bounds = h.ends.high;
            closing = high_same run beginning places p run.initial.high best.high.high room.high.high
                best.high_vector.items room.high_vector.items h.high over.high.least old;
          }
    ] in
    let ps : worker_places (done ++ AWorker w ∷ []) ≡ more = worker_places-append done (AWorker w ∷ []) in
    subst (λ (qs : List Place). AreClosingEnds run beginning qs e) (sym ps) record {
      ends = record { low_vector = low.is_vector; low = low.bounds; high_vector = high.is_vector; high = high.bounds };
      low = low.closing;
      high = high.closing;
    }
