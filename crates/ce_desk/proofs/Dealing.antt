-- Workers of the slots by the actors that own them.
use Rattle.std.proofs.Common.{Bool, true, false, ◌≡◌, ◌≢◌, ◌<◌, ◌≤◌, ◌+◌, ◌%◌, ℕ, All, List, [], ◌∷◌, ◌++◌}
use Rattle.std.proofs.Common.{length, slice_index_or, slice_set, Option, None, Some, inl, inr, refl, sym, ap, ◌∙◌}
use Rattle.std.proofs.Common.{subst, length-append, append-nil, arith}
use Rattle.std.proofs.Math.Nat.{mod-lt}
use Rattle.std.specs.Prelude.{Result, Ok, Err, if◌then◌else◌}
use Rattle.std.specs.Result.{is_ok, is_err, OnErr}
use Rattle.std.proofs.lemmas.List.{length-set, get_or-set_same, get_or-set_other, get_or_push, get_or_append_left}
use Rattle.std.proofs.lemmas.List.Elements.{All-nil, All-cons, All-append, All-set}
use Rattle.ce_crew.specs.declared.worker.Worker.{Worker}
use Rattle.ce_desk.proofs.Slots.{eq_or_not}
use Rattle.ce_desk.proofs.Slots.{at_or_below}
use Rattle.ce_desk.specs.CrewsInside.{IsCrewOf, AreCrewsOf, HasWorker, Owns, HaveNone, KeepsOthers, AreIdle}
use Rattle.ce_desk.specs.CrewsInside.{HasHandedOut}
use Rattle.ce_desk.specs.CrewsInside.{HaveDealt, HasTakenBack}
use Rattle.ce_desk.specs.declared.actor.Actor.{Actor}
use Rattle.ce_desk.specs.declared.actor.Actor.TheVariants.{Crew as ACrew}
use Rattle.ce_desk.specs.declared.crew.Crew.{Crew}

pub crew_is : {S O : Type 0} (a b : Crew) → ◌≡◌ {A = Actor S O} (ACrew a) (ACrew b) → a ≡ b
crew_is a b same = cc

pub no_truth : (b : Bool) → b ≡ true → b ≡ false → ⊥
no_truth b yes_it no_it = absurd (cc)

-- A push that made a list longer put its item at the end.
pub pushed : {T E X : Type 0} (r : Result T E) (old new : List X) (x : X)
    → new ≡ (if is_ok r then old ++ x ∷ [] else old)
    → length new ≡ length old + 1 → new ≡ old ++ x ∷ []
pushed (Ok t) old new x is longer = is
pushed (Err e) old new x is longer = absurd (let same = ap (λ l. length l) is in omega (arith, same, longer))

pub pushed_unless : {T E X : Type 0} (r : Result T E) (old new : List X) (x : X) (failed : Bool)
    → failed ≡ is_err r → failed ≡ false
    → new ≡ (if is_ok r then old ++ x ∷ [] else old) → new ≡ old ++ x ∷ []
pushed_unless (Ok t) old new x failed told not is = is
pushed_unless (Err e) old new x failed told not is = absurd (no_truth failed told not)

-- A push fails only where there is no room.
pub no_room : {T E : Type 0} (r : Result T E) (P : Type 0) (failed : Bool) → failed ≡ is_err r
    → failed ≡ true → OnErr r P → P
no_room (Ok t) P failed told so why = absurd (no_truth failed so told)
no_room (Err e) P failed told so why = why

-- One idle actor more.
module _ {S O : Type 0} (slots : ℕ) (crews : List (Actor S O)) (c : Crew) (count : length c.workers.items ≡ slots) where
  pub crews_more : AreCrewsOf slots crews → AreCrewsOf slots (crews ++ ACrew c ∷ [])
  crews_more all = All-append (IsCrewOf slots) crews (ACrew c ∷ []) all
      (All-cons (IsCrewOf slots) (ACrew c) [] (c, refl, count) (All-nil (IsCrewOf slots)))

  pub none_more : All (λ (w : Option Worker). w ≡ None) c.workers.items → (slot : ℕ)
      → slot < slots → HaveNone crews slot
      → HaveNone (crews ++ ACrew c ∷ []) slot
  none_more idle slot below all =
      let there : slot < length c.workers.items = omega (arith, below, count) in
      All-append (HasWorker slot None) crews (ACrew c ∷ []) all
      (All-cons (HasWorker slot None) (ACrew c) [] (c, refl, there, λ d. idle slot d there)
      (All-nil (HasWorker slot None)))

-- The actor that owns a worker has room for its slot.
pub record HasFound (c : Crew) (slot : ℕ) (worker : Worker) : Type 0 where
  pub there : slot < length c.workers.items
  pub worker_is : (d : Option Worker) → slice_index_or c.workers.items slot d ≡ Some worker

pub found : {S O : Type 0} (crews : List (Actor S O)) (slot : ℕ) (worker : Worker) → Owns crews slot worker
    → (k : ℕ) → k ≡ slot % length crews
    → (d : Actor S O) (c : Crew) → slice_index_or crews k d ≡ ACrew c → HasFound c slot worker
found {S} {O} crews slot worker o k k_is d c is =
    let own = o.own d in
    let same : own.0 ≡ c =
    crew_is {S = S} {O = O} own.0 c (sym own.1 ∙ ap (λ (n : ℕ). slice_index_or crews n d) (sym k_is) ∙ is) in
    record {
      there = subst (λ (x : Crew). slot < length x.workers.items) same own.2;
      worker_is = λ e. ap (λ (x : Crew). slice_index_or x.workers.items slot e) (sym same) ∙ own.3 e;
    }

-- The actor that runs a slot is the one that owns its worker.
pub no_session : {S O : Type 0} (crews : List (Actor S O)) (slot : ℕ) (worker : Worker) → Owns crews slot worker
    → (k : ℕ) → k ≡ slot % length crews
    → (d : Actor S O) → ((c : Crew) → slice_index_or crews k d ≡ ACrew c → ⊥) → ⊥
no_session crews slot worker o k k_is d none =
    let own = o.own d in
    none own.0 (ap (λ (n : ℕ). slice_index_or crews n d) k_is ∙ own.1)

pub is_owner : {S O : Type 0} (crews : List (Actor S O)) (slot : ℕ) (worker : Worker) → Owns crews slot worker
    → (k : ℕ) → k ≡ slot % length crews
    → (d : Actor S O) (c : Crew) → slice_index_or crews k d ≡ ACrew c → (w : Worker)
    → ((e : Option Worker) → slice_index_or c.workers.items slot e ≡ Some w) → Owns crews slot w
is_owner crews slot worker o k k_is d c is w w_is =
    let f = found crews slot worker o k k_is d c is in
    let same : ◌≡◌ {A = Option Worker} (Some worker) (Some w) = sym (f.worker_is None) ∙ w_is None in
    record {
      own = λ e. subst
          (λ (x : Option Worker). HasWorker slot x (slice_index_or crews (slot % length crews) e)) same (o.own e);
      others = o.others;
    }

-- What an actor owns of one slot was set.
module _ {S O : Type 0} (crews : List (Actor S O)) (k : ℕ) (c after_c : Crew) (slot : ℕ) (v : Option Worker)
    (within : k < length crews)
    (is : (d : Actor S O) → slice_index_or crews k d ≡ ACrew c) (there : slot < length c.workers.items)
    (items : after_c.workers.items ≡ slice_set c.workers.items slot v) where
  abbrev after : List (Actor S O)
  after = slice_set crews k (ACrew after_c)

  long : length after_c.workers.items ≡ length c.workers.items
  long = ap (λ (l : List (Option Worker)). length l) items ∙ length-set c.workers.items slot v

  pub crews_kept : (slots : ℕ) → AreCrewsOf slots crews → AreCrewsOf slots after
  crews_kept slots all =
      let old = all k (ACrew c) within in
      let same : c ≡ old.0 = crew_is {S = S} {O = O} c old.0 (sym (is (ACrew c)) ∙ old.1) in
      All-set (IsCrewOf slots) crews k (ACrew after_c)
      (after_c, refl, long ∙ ap (λ (x : Crew). length x.workers.items) same ∙ old.2) all

  set_worker : HasWorker {S = S} {O = O} slot v (ACrew after_c)
  set_worker = (
    after_c,
    refl,
    omega (arith, there, long),
    λ d. ap (λ (l : List (Option Worker)). slice_index_or l slot d) items
        ∙ get_or-set_same c.workers.items slot v d there,
  )

  other_worker : (other : ℕ) (worker : Option Worker) → other ≢ slot → HasWorker {S = S} {O = O} other worker (ACrew c)
      → HasWorker {S = S} {O = O} other worker (ACrew after_c)
  other_worker other worker differs old =
      let same : c ≡ old.0 = crew_is {S = S} {O = O} c old.0 old.1 in
      let count : length c.workers.items ≡ length old.0.workers.items =
      ap (λ (x : Crew). length x.workers.items) same in (
        after_c,
        refl,
        (let below = old.2 in omega (arith, below, long, count)),
        λ d. ap (λ (l : List (Option Worker)). slice_index_or l other d) items
            ∙ get_or-set_other c.workers.items slot other v d differs
            ∙ ap (λ (x : Crew). slice_index_or x.workers.items other d) same ∙ old.3 d,
      )

  pub others_kept : KeepsOthers slot crews after
  others_kept other j worker d differs below has = elim (eq_or_not j k) [
    | inl same ↦ subst (HasWorker other worker)
        (sym (ap (λ (n : ℕ). slice_index_or after n d) same ∙ get_or-set_same crews k (ACrew after_c) d within))
        (other_worker other worker differs
        (subst (HasWorker other worker) (ap (λ (n : ℕ). slice_index_or crews n d) same ∙ is d) has))
    | inr elsewhere ↦ subst (HasWorker other worker) (sym (get_or-set_other crews k j (ACrew after_c) d elsewhere)) has
  ]

  pub taken_back : HasTakenBack slot crews after
  taken_back = record { count = length-set crews k (ACrew after_c); others = others_kept }

  pub now_owns : (worker : Worker) → v ≡ Some worker → k ≡ slot % length crews
      → HaveNone crews slot → Owns after slot worker
  now_owns worker v_is k_is none =
      let count : length after ≡ length crews = length-set crews k (ACrew after_c) in
      let at : slot % length after ≡ k = ap (λ (n : ℕ). slot % n) count ∙ sym k_is in
      record {
        own = λ d. subst (λ (n : ℕ). HasWorker slot (Some worker) (slice_index_or after n d)) (sym at)
            (subst (HasWorker slot (Some worker)) (sym (get_or-set_same crews k (ACrew after_c) d within))
            (subst (λ (o : Option Worker). HasWorker {S = S} {O = O} slot o (ACrew after_c)) v_is set_worker));
        others = λ j d below differs. subst (HasWorker slot None)
            (sym (get_or-set_other crews k j (ACrew after_c) d (λ same. differs (same ∙ sym at))))
            (none j d (omega (arith, below, count)));
      }

pub handed_out : {S O : Type 0} (crews : List (Actor S O)) (k : ℕ) (c after_c : Crew) (slot : ℕ) (worker : Worker)
    → k < length crews
    → k ≡ slot % length crews → ((d : Actor S O) → slice_index_or crews k d ≡ ACrew c) → slot < length c.workers.items
    → after_c.workers.items ≡ slice_set c.workers.items slot (Some worker)
    → HasHandedOut slot worker crews (slice_set crews k (ACrew after_c))
handed_out crews k c after_c slot worker within k_is is there items = record {
  count = length-set crews k (ACrew after_c);
  crews = crews_kept crews k c after_c slot (Some worker) within is there items;
  owns = now_owns crews k c after_c slot (Some worker) within is there items worker refl k_is;
  others = others_kept crews k c after_c slot (Some worker) within is there items;
}

pub owns_still : {S O : Type 0} (i slot : ℕ) (crews after : List (Actor S O)) (worker : Worker) → i ≢ slot
    → length after ≡ length crews
    → KeepsOthers slot crews after → 0 < length crews → Owns crews i worker → Owns after i worker
owns_still i slot crews after worker other count kept some o =
    let at : i % length after ≡ i % length crews = ap (λ (n : ℕ). i % n) count in
    let within : i % length crews < length crews = mod-lt i some in
    record {
      own = λ d. subst (λ (n : ℕ). HasWorker i (Some worker) (slice_index_or after n d)) (sym at)
          (kept i (i % length crews) (Some worker) d other within (o.own d));
      others = λ k d below differs. kept i k None d other (omega (arith, below, count))
          (o.others k d (omega (arith, below, count)) (λ same. differs (same ∙ sym at)));
    }

not_last : (i n : ℕ) → i < n + 1 → i ≢ n → i < n
not_last i n below other = elim (at_or_below i n below) [
  | inl same ↦ absurd (other same)
  | inr less ↦ less
]

-- What was handed out so far, of workers in order: the slots from one on have none.
pub record DealtBelow {S O : Type 0} (slots : ℕ) (yielded : List Worker) (crews : List (Actor S O)) : Type 0 where
  pub crews_are : AreCrewsOf slots crews
  pub owns : (slot : ℕ) (w : Worker) → slot < length yielded → Owns crews slot (slice_index_or yielded slot w)
  pub none : (slot : ℕ) → length yielded ≤ slot → slot < slots → HaveNone crews slot

-- the same, once one worker more was handed out
pub dealt_more : {S O : Type 0} (slots slot : ℕ) (yielded : List Worker)
    (crews after : List (Actor S O)) (worker : Worker)
    → 0 < length crews → DealtBelow slots yielded crews → slot ≡ length yielded → slot < slots
    → HasHandedOut slot worker crews after
    → DealtBelow slots (yielded ++ worker ∷ []) after
dealt_more slots slot yielded crews after worker some d is within h =
    let long : length (yielded ++ worker ∷ []) ≡ length yielded + 1 = length-append yielded (worker ∷ []) in
    record {
      crews_are = h.crews slots d.crews_are;
      owns = λ i w below. elim (eq_or_not i slot) [
        | inl same ↦
            subst (Owns after i)
            (sym (ap (λ (n : ℕ). slice_index_or (yielded ++ worker ∷ []) n w) (same ∙ is)
            ∙ get_or_push yielded worker w (length yielded) refl))
            (subst (λ (n : ℕ). Owns after n worker) (sym same) (h.owns (d.none slot (omega (arith, is)) within)))
        | inr other ↦
            let less : i < length yielded =
            not_last i (length yielded) (omega (arith, below, long)) (λ same. other (same ∙ sym is)) in
            subst (Owns after i) (sym (get_or_append_left yielded (worker ∷ []) w i less))
            (owns_still i slot crews after (slice_index_or yielded i w) other h.count h.others some (d.owns i w less))
      ];
      none = λ i above below j e there.
          h.others i j None e (λ same. omega (arith, same, above, long, is))
          (let n = h.count in omega (arith, there, n))
          (d.none i (omega (arith, above, long)) below j e (let n = h.count in omega (arith, there, n)));
    }

pub none_dealt : {S O : Type 0} (slots count n : ℕ) (crews : List (Actor S O)) → AreIdle slots count crews
    → n ≡ slots → DealtBelow n [] crews
none_dealt slots count n crews idle is = record {
  crews_are = subst (λ (m : ℕ). AreCrewsOf m crews) (sym is) idle.crews_are;
  owns = λ slot w below. absurd (omega (arith, below));
  none = λ slot above below. idle.none slot (omega (arith, below, is));
}

pub all_dealt : {S O : Type 0} (yielded rest all workers : List Worker) (crews : List (Actor S O))
    → yielded ++ rest ≡ all → rest ≡ []
    → all ≡ workers → DealtBelow (length all) yielded crews → HaveDealt workers crews
all_dealt {S} {O} yielded rest all workers crews split empty is d =
    let same : yielded ≡ workers =
    sym (append-nil yielded) ∙ ap (λ (l : List Worker). yielded ++ l) (sym empty) ∙ split ∙ is in
    record {
      crews_are = subst (λ (l : List Worker). AreCrewsOf {S = S} {O = O} (length l) crews) is d.crews_are;
      owns = subst (λ (l : List Worker). (slot : ℕ) (w : Worker) → slot < length l
          → Owns crews slot (slice_index_or l slot w)) same d.owns;
    }

-- a worker that is still to come has a slot below the number of all workers
pub below_all : (yielded rest more all : List Worker) (worker : Worker) (slot : ℕ)
    → yielded ++ rest ≡ all → rest ≡ worker ∷ more
    → slot ≡ length yielded → slot < length all
below_all yielded rest more all worker slot split steps is =
    let a = ap (λ (l : List Worker). length l) split in
    let b = length-append yielded rest in
    let c = ap (λ (l : List Worker). length l) steps in
    omega (arith, a, b, c, is)

-- a slot has one worker
pub any_of : {X : Type 0} (xs : List X) (i : ℕ) → i < length xs → X
any_of [] i below = absurd (omega (arith, below))
any_of (x ∷ xs) i below = x

some_is : (a b : Worker) → ◌≡◌ {A = Option Worker} (Some a) (Some b) → a ≡ b
some_is a b same = cc

pub one_owner : {S O : Type 0} (crews : List (Actor S O)) (slot : ℕ) (w v : Worker) → 0 < length crews
    → Owns crews slot w → Owns crews slot v → w ≡ v
one_owner {S} {O} crews slot w v some o p =
    let d = any_of crews 0 some in
    let a = o.own d in
    let b = p.own d in
    let same : a.0 ≡ b.0 = crew_is {S = S} {O = O} a.0 b.0 (sym a.1 ∙ b.1) in
    some_is w v (sym (a.3 None) ∙ ap (λ (x : Crew). slice_index_or x.workers.items slot None) same ∙ b.3 None)

pub emptied : (xs : List Worker) → length xs ≡ 0 → xs ≡ []
emptied [] none = refl
emptied (x ∷ xs) none = absurd (omega (arith, none))
