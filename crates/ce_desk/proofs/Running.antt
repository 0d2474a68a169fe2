-- The workers of a crew before and after their runs.
use Rattle.std.proofs.Common.{Bool, false, ◌≡◌, ◌<◌, ◌%◌, ℕ, All, List, [], ◌∷◌, length, slice_index_or}
use Rattle.std.proofs.Common.{Option, None, Some, inl, inr, refl, sym, ap, ◌∙◌, subst, arith}
use Rattle.std.proofs.Math.Nat.{mod-lt}
use Rattle.std.specs.Prelude.{Result, Ok, Err, insert, if◌then◌else◌}
use Rattle.std.specs.Result.{is_ok, is_err}
use Rattle.ce_crew.specs.declared.worker.Worker.{Worker}
use Rattle.ce_solve.proofs.After.{worker_over}
use Rattle.ce_desk.proofs.Dealing.{crew_is, any_of, no_truth}
use Rattle.ce_desk.proofs.Reading.{no_slot}
use Rattle.ce_desk.proofs.Slots.{eq_or_not}
use Rattle.std.proofs.lemmas.List.{get_or_default}
use Rattle.ce_desk.specs.ActorsInside.{CanRun, HaveRunCrews, HasRunSession}
use Rattle.ce_desk.specs.CasesInside.{AreFirsts, CanRunSlot, HasRunSlot, IsDoneFor, KeepsTurns}
use Rattle.ce_desk.specs.CrewsInside.{HasWorker, Owns, AreHired, AreDone, AreCrewsOf}
use Rattle.ce_desk.specs.Desk.{Slot, Desk}
use Rattle.ce_desk.specs.ServedInside.{at_start, HasTalkEnded, IsGoingOn}
use Rattle.ce_desk.specs.TalksInside.{streams, IsNext}
use Rattle.ce_desk.specs.declared.actor.Actor.{Actor}
use Rattle.ce_desk.specs.declared.actor.Actor.TheVariants.{Crew as ACrew}
use Rattle.ce_desk.specs.declared.case.Case.{Case}
use Rattle.ce_desk.specs.declared.case.SlotSeat.{SlotSeat}
use Rattle.ce_desk.specs.declared.crew.Crew.{Crew}
use Rattle.ce_desk.specs.declared.session.Session.{Session}
use Rattle.ce_desk.specs.declared.talk.TalkEnd.{TalkEnd}

-- what a crew owns of a slot, once the crew is known
owned : {S O : Type 0} (slot : ℕ) (worker : Option Worker) (a : Actor S O) (c : Crew)
    → a ≡ ACrew c → HasWorker slot worker a
    → (d : Option Worker) → slice_index_or c.workers.items slot d ≡ worker
owned {S} {O} slot worker a c is has d =
    let same : has.0 ≡ c = crew_is {S = S} {O = O} has.0 c (sym has.1 ∙ is) in
    ap (λ (x : Crew). slice_index_or x.workers.items slot d) (sym same) ∙ has.3 d

module _ {S O : Type 0} (cases : List Case) (slots : List Slot) (crews : List (Actor S O))
    (h : AreHired cases slots crews) where
  can_run_slot : (k : ℕ) (d : Actor S O) (x : Crew) → k < length crews → slice_index_or crews k d ≡ ACrew x
      → (i : ℕ) (c : Case) (w : Option Worker) → i < length cases
      → CanRunSlot (slice_index_or cases i c) (slice_index_or x.workers.items i w)
  can_run_slot k d x below is i c w within =
      let one = h.each i c no_slot within in
      elim (eq_or_not k (i % length crews)) [
        | inl same ↦
            let at : slice_index_or crews (i % length crews) d ≡ ACrew x =
            ap (λ (n : ℕ). slice_index_or crews n d) (sym same) ∙ is in
            subst (CanRunSlot (slice_index_or cases i c))
            (sym (owned i (Some one.0) (slice_index_or crews (i % length crews) d) x at (one.1.own d) w))
            (one.2.hired.worker, h.graphs i c within)
        | inr other ↦
            subst (CanRunSlot (slice_index_or cases i c))
            (sym (owned i None (slice_index_or crews k d) x is (one.1.others k d below other) w)) tt
      ]

  pub can_run_crews : All (CanRun cases) crews
  can_run_crews k d below =
      let a = h.crews_are k d below in
      subst (CanRun cases) (sym a.1) (record { count = a.2; each = can_run_slot k d a.0 below a.1 })

  module _ (after : List (Actor S O)) (ran : HaveRunCrews cases crews after) (some : 0 < length crews) where
    -- A crew after its run has the same slots.
    pub crews_after_run : AreCrewsOf (length cases) after
    crews_after_run k e below =
        let d = e in
        let within : k < length crews = (let n = ran.count in omega (arith, below, n)) in
        let a = h.crews_are k d within in
        let r = ran.each k d e a.0 within a.1 in
        (r.0, r.1, r.2.count ∙ a.2)

    none_after : (i : ℕ) → i < length cases → (c : Case) (k : ℕ) (d e : Actor S O) → k < length crews
        → HasWorker i None (slice_index_or crews k d) → HasWorker i None (slice_index_or after k e)
    none_after i within c k d e below has =
        let r = ran.each k d e has.0 below has.1 in (
          r.0,
          r.1,
          (let count = r.2.count in let there = has.2 in omega (arith, count, there)),
          λ v. subst (λ (w : Option Worker). HasRunSlot (slice_index_or cases i c) w
              (slice_index_or r.0.workers.items i v)) (has.3 None)
              (r.2.each i c None v within),
        )

    -- what became of the worker of a slot
    record RanOne (i : ℕ) (slot : Slot) (c : Case) : Type 0 where
      worker : Worker
      owns : Owns after i worker
      done : IsDoneFor (slice_index_or cases i c).board slot worker

    ran_one : (i : ℕ) (c : Case) (x y : Slot) → i < length cases
        → (slice_index_or slots i x).turns ≡ y.turns → RanOne i y c
    ran_one i c x y within turns =
        let one = h.each i c x within in
        let b = (slice_index_or cases i c).board in
        let k = i % length crews in
        let below : k < length crews = mod-lt i some in
        let d = any_of crews 0 some in
        let own = one.1.own d in
        let r = ran.each k d d own.0 below own.1 in
        let step = subst (λ (w : Option Worker). HasRunSlot (slice_index_or cases i c) w
        (slice_index_or r.0.workers.items i None)) (own.3 None)
        (r.2.each i c None None within) in
        let at : i % length after ≡ k = ap (λ (n : ℕ). i % n) ran.count in
        let there : i < length r.0.workers.items =
        (let count = r.2.count in let t = own.2 in omega (arith, count, t)) in
        record {
          worker = step.0;
          owns = record {
            own = λ e. subst (λ (n : ℕ). HasWorker i (Some step.0) (slice_index_or after n e)) (sym at) (
              r.0,
              get_or_default after k e d (let n = ran.count in omega (arith, below, n)) ∙ r.1,
              there,
              λ v. get_or_default r.0.workers.items i v None there ∙ step.1,
            );
            others = λ j e in_after differs.
                let within_crews : j < length crews = (let n = ran.count in omega (arith, in_after, n)) in
                none_after i within c j e e within_crews
                (one.1.others j e within_crews (λ same. differs (same ∙ sym at)));
          };
          done = record {
            beginning = one.2.beginning;
            over = worker_over b one.2.beginning (slice_index_or slots i x).turns one.0 step.0 one.2.hired step.2;
            turns = step.2.keeps.turns ∙ one.2.hired.turns ∙ turns;
            whole = step.2.keeps.its_part ∙ one.2.whole;
          };
        }

    pub are_done : (later : List Slot) → KeepsTurns slots later → AreDone cases later after
    are_done later kept = record {
      crews_are = crews_after_run;
      count = kept.count ∙ h.count;
      each = λ i c x within.
          let o = ran_one i c x (slice_index_or later i x) within
          (sym (kept.each i x x (let n = h.count in omega (arith, within, n)))) in
          (o.worker, o.owns, o.done);
    }

-- A first item that was put into a list.
insert_first : {X : Type 0} (xs : List X) (x : X) → insert xs 0 x ≡ x ∷ xs
insert_first [] x = refl
insert_first (y ∷ ys) x = refl

pub inserted : {T E X : Type 0} (r : Result T E) (old new : List X) (x : X) (failed : Bool)
    → failed ≡ is_err r → failed ≡ false
    → new ≡ (if is_ok r then insert old 0 x else old) → new ≡ x ∷ old
inserted (Ok t) old new x failed told not is = is ∙ insert_first old x
inserted (Err e) old new x failed told not is = absurd (no_truth failed told not)

pub firsts_as : (cases others : List Case) (slots : List Slot) (firsts those : List SlotSeat)
    → others ≡ cases → those ≡ firsts
    → AreFirsts cases slots firsts → AreFirsts others slots those
firsts_as cases others slots firsts those same_cases same h =
    subst (λ (l : List Case). AreFirsts l slots those) (sym same_cases)
    (subst (λ (l : List SlotSeat). AreFirsts cases slots l) (sym same) h)

pub done_as : {S O : Type 0} (cases others : List Case) (slots : List Slot) (crews those : List (Actor S O))
    → others ≡ cases → those ≡ crews
    → AreDone cases slots crews → AreDone others slots those
done_as {S} {O} cases others slots crews those same_cases same h =
    subst (λ (l : List Case). AreDone l slots those) (sym same_cases)
    (subst (λ (l : List (Actor S O)). AreDone cases slots l) (sym same) h)

module _ {S O : Type 0} (left : S → Option (List ℕ)) (read_faults : S → ℕ) (taken : O → Option (List ℕ))
    (write_faults : O → ℕ) where
  -- The session came to its end, and the workers to theirs.
  pub record WentOn (rounds exponent : ℕ) (source : S) (out : O) (cases : List Case) (s : Session S O)
      (crews : List (Actor S O)) : Type 0 where
    pub desk : Desk
    pub end : TalkEnd
    pub next : s.next ≡ Err end
    pub begun : (last : TalkEnd) → s.next ≡ Err last
        → HasTalkEnded left read_faults taken write_faults rounds exponent source out s.talk last desk
    pub firsts : AreFirsts cases desk.slots s.firsts.items
    pub done : AreDone cases desk.slots crews
    pub some : 0 < length crews

  pub went_on : (rounds exponent : ℕ) (source : S) (out : O) (desk : Desk) (cases others : List Case)
      (s after : Session S O) (crews those : List (Actor S O))
      → others ≡ cases → HasRunSession left read_faults taken write_faults others s after
      → HaveRunCrews others crews those → 0 < length crews
      → AreFirsts cases desk.slots s.firsts.items → AreHired cases desk.slots crews
      → IsGoingOn left read_faults taken write_faults rounds exponent source out s desk
      → WentOn rounds exponent source out cases after those
  went_on rounds exponent source out desk cases others s after crews those same ran_others
      crews_others some firsts hired going =
      let ran_here = subst
      (λ (l : List Case). HasRunSession left read_faults taken write_faults l s after) same ran_others in
      let crews_here = subst (λ (l : List Case). HaveRunCrews l crews those) same crews_others in
      let ran = ran_here rounds exponent (at_start left read_faults taken write_faults source out) desk firsts going in
      record {
        desk = ran.after;
        end = ran.end;
        next = ran.next;
        begun = λ last is. (
          subst (λ (r : Result ℕ TalkEnd). IsNext rounds exponent
              (at_start left read_faults taken write_faults source out) r ran.after after.talk.count
              (streams left read_faults taken write_faults after.talk)) is ran.ended,
          ran.talk,
        );
        firsts = ran.firsts;
        done = are_done cases desk.slots crews hired those crews_here some ran.after.slots ran.turns;
        some = (let n = crews_here.count in omega (arith, n, some));
      }
