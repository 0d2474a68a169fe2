-- Turns with nobody else are determined: two owners who took as many turns have the same log.
use Rattle.std.proofs.Common.{◌≡◌, ℕ, zero, suc, ◌<◌, inl, inr, List, []}
use Rattle.std.proofs.Common.{◌∷◌, ◌++◌, map, length, refl, sym, ap, ◌∙◌, subst, arith, append_assoc, append-nil}
use Rattle.std.specs.List.{flat_map}
use Rattle.std.proofs.lemmas.Bool.{cases_lt}
use mathlib.Core.Logic.{dite}
use native.Mathlib.Decide.{ℕ_discrete}
use Rattle.ce_rows.specs.declared.act.Act.{Act}
use Rattle.ce_rows.specs.declared.act.Act.TheVariants.{Raises, Lowers, LoadsLow, LoadsHigh, LoadsShift, LoadsStop}
use Rattle.ce_rows.specs.declared.act.LogEntry.{LogEntry}
use Rattle.ce_words.specs.Logs.{EachFits}
use Rattle.ce_words.specs.Views.{kept, logged}
use Rattle.ce_words.specs.declared.view.Part.{Part}
use Rattle.ce_words.specs.declared.view.Place.{Place}
use Rattle.ce_words.specs.declared.view.Run.{Run}
use Rattle.ce_crew.specs.MachineSteps.{acts_of}
use Rattle.ce_crew.specs.Turn.{entries_between, great_entry, loads_of, relaxing_acts, greatest_relaxed, opening_of}
use Rattle.ce_crew.specs.Turn.{IsRescaling, IsTurn, rescalings_after}
use Rattle.ce_crew.specs.WorkerLogs.{IsTurns}
use Rattle.ce_crew.proofs.BestVectors.{NoneIs}
use Rattle.ce_crew.proofs.Turns.{CertifiesNothing, none-append, none_in_loads, none_in_sweep, none_in_rescaling}
use Rattle.ce_crew.proofs.LoneSteps.{EachFits-split, is_on_stop, IsLoneStep, FitsAlone, lone_steps, same_steps}

off_stop : CertifiesNothing is_on_stop
off_stop = record { loads = λ j. refl; relaxes = λ j. refl; shrinks = λ j. refl; asks = refl }

-- The rescaling of a part is determined by what was made, asked for and stored.
one_rescaling : (p : Part) (made asked greatest : ℕ) (acts others : List Act)
    → IsRescaling p made asked greatest acts → IsRescaling p made asked greatest others → acts ≡ others
one_rescaling p made asked greatest acts others h k = elim (cases_lt made asked) [
  | inl less ↦ h.rescales less ∙ sym (k.rescales less)
  | inr enough ↦ elim (cases_lt greatest great_entry) [
    | inl small ↦ h.rests enough small ∙ sym (k.rests enough small)
    | inr great ↦ h.asks enough great ∙ sym (k.asks enough great)
  ]
]

-- the answers of some steps
abbrev answers_of : List LogEntry → List ℕ
answers_of steps = map (λ (step : LogEntry). step.answer) steps

module _ (run : Run) where
  -- two pieces at the same place of two logs are equal, and so are the logs up to their ends
  record AreSamePieces (before former xs ys rest later : List LogEntry) : Type 0 where
    same : xs ≡ ys
    upto : before ++ xs ≡ former ++ ys
    left : EachFits (IsLoneStep run) (before ++ xs) rest
    right : EachFits (IsLoneStep run) (former ++ ys) later

  same_pieces : (before former xs ys rest later : List LogEntry) → before ≡ former → acts_of xs ≡ acts_of ys
      → NoneIs is_on_stop (acts_of xs) → EachFits (IsLoneStep run) before (xs ++ rest)
      → EachFits (IsLoneStep run) former (ys ++ later) → AreSamePieces before former xs ys rest later
  same_pieces before former xs ys rest later agree acts off h k =
      let one = EachFits-split (IsLoneStep run) before xs rest h in
      let two = EachFits-split (IsLoneStep run) former ys later k in
      let there = subst (λ (l : List LogEntry). EachFits (IsLoneStep run) l ys) (sym agree) two.0 in
      let equal = same_steps run before xs ys acts off one.0 there in
      record { same = equal; upto = (λ i. agree i ++ equal i); left = one.1; right = two.1 }

  module _ (p : Part) (made made' : ℕ) (before before' turn turn' : List LogEntry)
      (t : IsTurn run p made (kept run before) turn) (t' : IsTurn run p made' (kept run before') turn') where
    -- Two turns after the same log are equal, and found as many rescalings asked for.
    pub one_turn : made ≡ made' → before ≡ before' → EachFits (IsLoneStep run) before turn
        → EachFits (IsLoneStep run) before' turn' → (turn ≡ turn') × (t.asked ≡ t'.asked)
    one_turn same_made agree h k =
        let h0 = subst (λ (l : List LogEntry). EachFits (IsLoneStep run) before l) t.parts h in
        let k0 = subst (λ (l : List LogEntry). EachFits (IsLoneStep run) before' l) t'.parts k in
        let seen = logged LoadsLow 0 t.low ∷ logged LoadsHigh 0 t.high ∷ logged LoadsShift 0 t.asked ∷ [] in
        let seen' = logged LoadsLow 0 t'.low ∷ logged LoadsHigh 0 t'.high ∷ logged LoadsShift 0 t'.asked ∷ [] in
        let look = logged LoadsStop 0 0 ∷ [] in
        let a = same_pieces (before ++ look) (before' ++ look) seen seen'
        (t.relaxing ++ (t.rescaling ++ t.closing)) (t'.relaxing ++ (t'.rescaling ++ t'.closing))
        (ap (λ (l : List LogEntry). l ++ look) agree) refl (refl, (refl, (refl, tt))) h0.1 k0.1 in
        let asked : t.asked ≡ t'.asked = third (ap answers_of a.same) in
        let sweep = flat_map (relaxing_acts run) (entries_between p.from p.to) in
        let b = same_pieces ((before ++ look) ++ seen) ((before' ++ look) ++ seen') t.relaxing t'.relaxing
        (t.rescaling ++ t.closing) (t'.rescaling ++ t'.closing) a.upto (t.relaxes ∙ sym t'.relaxes)
        (subst (NoneIs is_on_stop) (sym t.relaxes)
        (none_in_sweep is_on_stop off_stop run (entries_between p.from p.to))) a.left a.right in
        let greatest = greatest_relaxed t.relaxing in
        let rescales : IsRescaling p made t.asked greatest (acts_of t'.rescaling) =
        subst (λ (m : ℕ). IsRescaling p m t.asked greatest (acts_of t'.rescaling)) (sym same_made)
        (subst (λ (n : ℕ). IsRescaling p made' n greatest (acts_of t'.rescaling)) (sym asked)
        (subst (λ (l : List LogEntry). IsRescaling p made' t'.asked (greatest_relaxed l) (acts_of t'.rescaling))
        (sym b.same) t'.rescales)) in
        let c = same_pieces (((before ++ look) ++ seen) ++ t.relaxing) (((before' ++ look) ++ seen') ++ t'.relaxing)
        t.rescaling t'.rescaling t.closing t'.closing b.upto
        (one_rescaling p made t.asked greatest (acts_of t.rescaling) (acts_of t'.rescaling) t.rescales rescales)
        (none_in_rescaling is_on_stop off_stop p made t.asked greatest (acts_of t.rescaling) t.rescales)
        b.left b.right in
        let loads = loads_of (entries_between 0 (length run.rows)) in
        let ends = none-append is_on_stop loads (Raises ∷ Lowers ∷ [])
        (none_in_loads is_on_stop off_stop (entries_between 0 (length run.rows))) (refl, (refl, tt)) in
        let base = (((before ++ look) ++ seen) ++ t.relaxing) ++ t.rescaling in
        let closing = same_steps run base t.closing t'.closing (t.closes ∙ sym t'.closes)
        (subst (NoneIs is_on_stop) (sym t.closes) ends) c.left
        (subst (λ (l : List LogEntry). EachFits (IsLoneStep run) l t'.closing) (sym c.upto) c.right) in
        let whole : opening_of t.low t.high t.asked ++ (t.relaxing ++ (t.rescaling ++ t.closing))
        ≡ opening_of t'.low t'.high t'.asked ++ (t'.relaxing ++ (t'.rescaling ++ t'.closing)) =
        (λ i. logged LoadsStop 0 0 ∷ (a.same i ++ (b.same i ++ (c.same i ++ closing i)))) in
        (t.parts ∙ (whole ∙ sym t'.parts), asked)
      where
        third : t.low ∷ t.high ∷ t.asked ∷ [] ≡ t'.low ∷ t'.high ∷ t'.asked ∷ [] → t.asked ≡ t'.asked
        third same = cc

  -- Two logs of as many turns of one part are equal, and as many rescalings were made.
  pub one_log : (p : Part) (q r : Place) (done made made' : ℕ) (log log' : List LogEntry)
      → IsTurns run p done log made → IsTurns run p done log' made' → EachFits (FitsAlone run q) [] log
      → EachFits (FitsAlone run r) [] log' → (log ≡ log') × (made ≡ made')
  one_log p q r zero made made' log log' h k f g = (h.0 ∙ sym k.0, h.1 ∙ sym k.1)
  one_log p q r (suc done) made made' log log' h k f g =
      let f0 = EachFits-split (FitsAlone run q) [] h.before h.turn
      (subst (λ (l : List LogEntry). EachFits (FitsAlone run q) [] l) h.log_is f) in
      let g0 = EachFits-split (FitsAlone run r) [] k.before k.turn
      (subst (λ (l : List LogEntry). EachFits (FitsAlone run r) [] l) k.log_is g) in
      let old = one_log p q r done h.made_before k.made_before h.before k.before h.turns k.turns f0.0 g0.0 in
      let new = one_turn p h.made_before k.made_before h.before k.before h.turn k.turn h.is_turn k.is_turn old.1 old.0
      (lone_steps run q h.before h.turn h.is_turn.steps f0.1)
      (lone_steps run r k.before k.turn k.is_turn.steps g0.1) in (
        h.log_is ∙ ((λ i. old.0 i ++ new.0 i) ∙ sym k.log_is),
        h.made_is ∙ ((λ i. rescalings_after (old.1 i) (new.1 i)) ∙ sym k.made_is),
      )

  -- A log goes on after so many turns: one turn more, and what is later.
  pub record GoesOn (p : Part) (done : ℕ) (log : List LogEntry) : Type 0 where
    pub before : List LogEntry
    pub made : ℕ
    pub turn : List LogEntry
    pub later : List LogEntry
    pub turns : IsTurns run p done before made
    pub is_turn : IsTurn run p made (kept run before) turn
    pub log_is : log ≡ before ++ (turn ++ later)

  pub goes_on : (p : Part) (all done made : ℕ) (log : List LogEntry) → done < all → IsTurns run p all log made
      → GoesOn p done log
  goes_on p zero done made log less h = absurd (omega (arith, less))
  goes_on p (suc all) done made log less h = dite (ℕ_discrete all done) last
      (λ ne. earlier (goes_on p all done h.made_before h.before (omega (arith, less, ne)) h.turns))
    where
      last : all ≡ done → GoesOn p done log
      last same = record {
        before = h.before;
        made = h.made_before;
        turn = h.turn;
        later = [];
        turns = subst (λ (k : ℕ). IsTurns run p k h.before h.made_before) same h.turns;
        is_turn = h.is_turn;
        log_is = h.log_is ∙ ap (λ (l : List LogEntry). h.before ++ l) (sym (append-nil h.turn));
      }

      earlier : GoesOn p done h.before → GoesOn p done log
      earlier g = record {
        before = g.before;
        made = g.made;
        turn = g.turn;
        later = g.later ++ h.turn;
        turns = g.turns;
        is_turn = g.is_turn;
        log_is = h.log_is ∙ (ap (λ (l : List LogEntry). l ++ h.turn) g.log_is
            ∙ (append_assoc g.before (g.turn ++ g.later) h.turn
            ∙ ap (λ (l : List LogEntry). g.before ++ l) (append_assoc g.turn g.later h.turn)));
      }
