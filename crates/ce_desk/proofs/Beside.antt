-- A session that ran beside a crew.
use Rattle.std.proofs.Common.{◌≡◌, ◌<◌, ◌+◌, ℕ, suc, List, ◌∷◌, length, drop, slice_index_or, Option}
use Rattle.std.proofs.Common.{ap, ◌∙◌, subst, arith}
use Rattle.std.proofs.lemmas.List.{length-drop, get_or-drop}
use Rattle.std.proofs.lemmas.List.{get_or_default}
use Rattle.ce_desk.specs.ActorsInside.{HasRun, HasRunSession, HaveRunCrews}
use Rattle.ce_desk.specs.declared.actor.Actor.{Actor}
use Rattle.ce_desk.specs.declared.actor.Actor.TheVariants.{Session as ASession, Crew as ACrew}
use Rattle.ce_desk.specs.declared.case.Case.{Case}
use Rattle.ce_desk.specs.declared.crew.Crew.{Crew}
use Rattle.ce_desk.specs.declared.session.Session.{Session}

module _ {S O : Type 0} (left : S → Option (List ℕ)) (read_faults : S → ℕ) (taken : O → Option (List ℕ))
    (write_faults : O → ℕ) (cases : List Case)
    (xs ys : List (Actor S O)) (s : Session S O) (crews : List (Actor S O)) (is : xs ≡ ASession s ∷ crews)
    (ran : (i : ℕ) (d : Actor S O) → i < length xs
    → HasRun left read_faults taken write_faults cases (slice_index_or xs i d) (slice_index_or ys i d)) where
  -- what the first actor is then
  pub record IsSessionAfter (a : Actor S O) : Type 0 where
    pub session : Session S O
    pub actor : a ≡ ASession session
    pub ran_it : HasRunSession left read_faults taken write_faults cases s session

  pub session_after : (d : Actor S O) → IsSessionAfter (slice_index_or ys 0 d)
  session_after d =
      let some : 0 < length xs = (let n = ap (λ (l : List (Actor S O)). length l) is in omega (arith, n)) in
      let first = subst
      (λ (l : List (Actor S O)). HasRun left read_faults taken write_faults cases (slice_index_or l 0 d)
      (slice_index_or ys 0 d)) is (ran 0 d some) in
      record { session = first.0; actor = first.1; ran_it = first.2 }

  pub crews_after : length ys ≡ length xs → (after : List (Actor S O)) → after ≡ drop 1 ys
      → HaveRunCrews cases crews after
  crews_after long after after_is =
      let count : length xs ≡ length crews + 1 =
      (let n = ap (λ (l : List (Actor S O)). length l) is in omega (arith, n)) in
      record {
        count = ap (λ (l : List (Actor S O)). length l) after_is
            ∙ (let n = length-drop 1 ys in omega (arith, n, long, count));
        each = λ k d e c below at.
            let step = subst (λ (l : List (Actor S O)). HasRun left read_faults taken write_faults cases
            (slice_index_or l (suc k) d) (slice_index_or ys (suc k) d)) is
            (ran (suc k) d (omega (arith, below, count))) in
            let own = subst (λ (a : Actor S O). HasRun left read_faults taken write_faults cases a
            (slice_index_or ys (suc k) d)) at step in
            let number : 1 + k ≡ suc k = omega arith in (
              own.0,
              ap (λ (l : List (Actor S O)). slice_index_or l k e) after_is ∙ get_or-drop 1 ys k e
                  ∙ ap (λ (n : ℕ). slice_index_or ys n e) number
                  ∙ get_or_default ys (suc k) e d (omega (arith, below, count, long)) ∙ own.1,
              own.2,
            );
      }

pub session_is : {S O : Type 0} (a b : Session S O) → ◌≡◌ {A = Actor S O} (ASession a) (ASession b) → a ≡ b
session_is a b same = cc

pub no_crew : {S O : Type 0} (a : Session S O) (c : Crew) → ◌≡◌ {A = Actor S O} (ASession a) (ACrew c) → ⊥
no_crew a c same = absurd (cc)
