-- Edges are settled one after another, and components become ready.
use Rattle.std.proofs.Common.{◌≡◌, ◌≢◌, ◌+◌, ◌-◌, ◌<◌, ◌≤◌, ◌∷◌, ◌∙◌, ◌↔◌, ℕ, suc, List, eqb, length, get_or, set}
use Rattle.std.proofs.Common.{replicate, inl, inr, refl, sym, ap, subst, arith}
use Rattle.std.specs.List.{All, AllPairs}
use Rattle.std.specs.List.Sorted.{IsPermutation}
use Rattle.std.proofs.lemmas.Bool.{cases_lt, cases_eq}
use Rattle.std.proofs.lemmas.Bool.Decides.{Decides-eqb, nat_tests}
use Rattle.std.proofs.lemmas.List.{get_or_default, get_or-replicate, length-replicate, length-set, get_or-set_same}
use Rattle.std.proofs.lemmas.List.{get_or-set_other}
use Rattle.std.proofs.lemmas.List.Elements.{All-cons}
use Rattle.std.proofs.lemmas.List.Kept.{AllPairs-cons}
use Rattle.std.proofs.lemmas.List.Sorted.{All-permutation, Contains-permutation}
use Rattle.std.proofs.lemmas.Map.Keys.{IsDistinct-IsPermutation}
use Rattle.std.proofs.lemmas.Map.Made.{AllPairs-from_IsDistinct, IsDistinct-from_AllPairs}
use Rattle.ce_comp.specs.MembersInside.{AreMembers}
use Rattle.ce_comp.specs.SettlingInside.{Standing, IsCount, IsReadyVertex, AreReady, AreReadyBut, IsSettling}
use Rattle.ce_comp.specs.SettlingInside.{IsHolding, IsHoldingFrom}
use Rattle.ce_comp.proofs.Counting.{AreCounts, count_same, count_less, count_none}

-- What differs pair by pair does so in another order.
pub apart_permutation : (xs ys : List ℕ) → IsPermutation xs ys → AllPairs (λ v w. v ≢ w) xs → AllPairs (λ v w. v ≢ w) ys
apart_permutation xs ys moved h = AllPairs-from_IsDistinct Decides-eqb ys (IsDistinct-IsPermutation eqb
    (λ x y. grind (arith, nat_tests)) xs ys moved (IsDistinct-from_AllPairs Decides-eqb xs h))

-- The queue has what is ready, but for the component x, which is looked at now.
module _ (first numbers left ready : List ℕ) (upto x now : ℕ) (within : x < length left)
    (read : now ≡ get_or left x now) (but : AreReadyBut first numbers left ready upto x) where
  value : get_or left x 0 ≡ now
  value = get_or_default left x 0 now within ∙ sym read

  pub ready_with : (queue : List ℕ) → x < upto → length first ≤ get_or numbers x 0 → now ≡ 0
      → IsPermutation (get_or first x 0 ∷ ready) queue → AreReady first numbers left queue upto
  ready_with queue inside open_yet none moved =
      let v = get_or first x 0 in
      record {
        firsts_apart = but.firsts_apart;
        are = All-permutation (IsReadyVertex first numbers left upto) (v ∷ ready) queue moved
            (All-cons (IsReadyVertex first numbers left upto) v ready
            (record { component = x; within = inside; is_first = refl; open_yet = open_yet; none = value ∙ none })
            but.are);
        once = apart_permutation (v ∷ ready) queue moved (AllPairs-cons (λ v w. v ≢ w) v ready but.not_in but.once);
        all = λ c less c_open c_none. Contains-permutation (v ∷ ready) queue (get_or first c 0) moved
            (elim (cases_eq c x) [
              | inl same ↦ (0, omega arith, ap (λ u. get_or first u 0) (sym same))
              | inr other ↦ let (k, in_list, at) = but.all c less other c_open c_none in (suc k, omega arith, at)
            ]);
      }

  pub ready_without : (now ≡ 0 → ⊥) → AreReady first numbers left ready upto
  ready_without some = record {
    firsts_apart = but.firsts_apart;
    are = but.are;
    once = but.once;
    all = λ c less c_open c_none. elim (cases_eq c x) [
      | inl same ↦ absurd (some (sym value ∙ ap (λ m. get_or left m 0) (sym same) ∙ c_none))
      | inr other ↦ but.all c less other c_open c_none
    ];
  }

-- One more component is to be looked at.
pub next_but : (first numbers left ready : List ℕ) (x : ℕ) → x < length first → AreReady first numbers left ready x
    → AreReadyBut first numbers left ready (x + 1) x
next_but first numbers left ready x within h = record {
  firsts_apart = h.firsts_apart;
  are = λ k d less.
      let r = h.are k d less in
      let below = r.within in
      record {
        component = r.component;
        within = omega arith;
        is_first = r.is_first;
        open_yet = r.open_yet;
        none = r.none;
      };
  once = h.once;
  not_in = λ k d less same.
      let r = h.are k d less in
      let below = r.within in
      let e = h.firsts_apart x r.component within (omega arith) (same ∙ sym r.is_first) in
      omega arith;
  all = λ c less other. h.all c (omega arith);
}

-- So is a component whose count has changed, and was not 0.
pub changed_but : (first numbers left ready : List ℕ) (x m : ℕ) → x < length first → 0 < get_or left x 0
    → AreReady first numbers left ready (length first) → AreReadyBut first numbers (set left x m) ready (length first) x
changed_but first numbers left ready x m within some h = record {
  firsts_apart = h.firsts_apart;
  are = λ k d less.
      let r = h.are k d less in
      let none = r.none in
      let other : r.component ≢ x = λ same. let e = ap (λ u. get_or left u 0) same in omega arith in
      record {
        component = r.component;
        within = r.within;
        is_first = r.is_first;
        open_yet = r.open_yet;
        none = get_or-set_other left x r.component m 0 other ∙ none;
      };
  once = h.once;
  not_in = λ k d less same.
      let r = h.are k d less in
      let none = r.none in
      omega (arith, ap (λ u. get_or left u 0) (h.firsts_apart x r.component within r.within (same ∙ sym r.is_first)));
  all = λ c less other c_open none. h.all c less c_open (sym (get_or-set_other left x c m 0 other) ∙ none);
}

module _ (first sources targets : List ℕ) where
  -- the edge k starts from the component c, and has a property
  abbrev IsFrom : ℕ → (ℕ → Type 0) → ℕ → Type 0
  IsFrom c P k = (get_or sources k 0 ≡ c) × P k

  -- The same edges hold back.
  pub recount : (P Q : ℕ → Type 0) (s : Standing) → ((k : ℕ) → k < length sources → P k ↔ Q k)
      → IsSettling first sources P s → IsSettling first sources Q s
  recount P Q s same h = record {
    numbers_each = h.numbers_each;
    left_each = h.left_each;
    counts = λ c within. count_same (IsFrom c P) (IsFrom c Q) (length sources) (get_or s.left c 0)
        (λ k less. (λ p. (p.0, (same k less).0 p.1), λ q. (q.0, (same k less).1 q.1))) (h.counts c within);
    done = h.done;
    ready = h.ready;
  }

  -- At the start no component has a number, and each edge holds back.
  pub started : (numbers left ready : List ℕ) → numbers ≡ replicate (length first) (length first)
      → length left ≡ length first → AreCounts sources left (length first) (length sources)
      → AreReady first numbers left ready (length first) → All (λ c. c < length first) targets
      → length targets ≡ length sources → IsSettling first sources (IsHolding first targets numbers)
      (record { numbers = numbers; left = left; ready = ready })
  started numbers left ready none each counts set_is below same =
      let n = length first in
      let at : (c : ℕ) → c < n → get_or numbers c 0 ≡ n = λ c within. ap (λ (xs : List ℕ). get_or xs c 0) none
      ∙ get_or-replicate n c n 0 within in
      record {
        numbers_each = ap (λ (xs : List ℕ). length xs) none ∙ length-replicate n n;
        left_each = each;
        counts = λ c within. count_same (λ k. get_or sources k 0 ≡ c)
            (IsFrom c (IsHolding first targets numbers)) (length sources) (get_or left c 0)
            (λ k less. (
              λ from. (from, let value = at (get_or targets k 0) (below k 0 (omega arith)) in omega arith),
              λ both. both.0,
            )) (counts c within);
        done = λ c within has. let value = at c within in absurd (omega arith);
        ready = set_is;
      }

  module _ (s : Standing) (d e : ℕ) (h : IsSettling first sources (IsHoldingFrom first targets s.numbers d e) s) where
    -- Past the last edge all edges into d are settled.
    pub settled_all : length sources ≤ e → IsSettling first sources (IsHolding first targets s.numbers) s
    settled_all past = recount (IsHoldingFrom first targets s.numbers d e) (IsHolding first targets s.numbers) s
        (λ k less. (λ p. elim p [ inl holds ↦ holds | inr at ↦ let up = at.1 in absurd (omega arith) ], λ q. inl q)) h

    module _ (less : e < length sources) (into : get_or targets e 0 ≡ d)
        (source : get_or sources e 0 < length first) where
      abbrev origin : ℕ
      origin = get_or sources e 0

      abbrev Was : ℕ → Type 0
      Was = IsHoldingFrom first targets s.numbers d e

      -- The edge e is counted, so its source has no number.
      pub left_some : 0 < get_or s.left origin 0
      left_some = elim (cases_lt 0 (get_or s.left origin 0)) [
        | inl some ↦ some
        | inr none ↦ absurd (count_none (IsFrom origin Was) (length sources) (get_or s.left origin 0) e
            (h.counts origin source) (omega arith) less (refl, inr (into, omega arith)))
      ]

      pub source_open : length first ≤ get_or s.numbers origin 0
      source_open = elim (cases_lt (get_or s.numbers origin 0) (length first)) [
        | inl numbered ↦ let none = h.done origin source numbered in let some = left_some in absurd (omega arith)
        | inr above ↦ above
      ]

      -- The edge e is settled, and the next one into d is f.
      module _ (t : Standing) (f : ℕ) (numbered : get_or s.numbers d 0 < length first) (numbers : t.numbers ≡ s.numbers)
          (left : t.left ≡ set s.left origin (get_or s.left origin 0 - 1))
          (ready : AreReady first t.numbers t.left t.ready (length first)) (after : e < f)
          (between : (k : ℕ) → e + 1 ≤ k → k < f → get_or targets k 0 ≢ d) where
        abbrev Is : ℕ → Type 0
        Is = IsHoldingFrom first targets s.numbers d f

        gone : Is e → ⊥
        gone (inl holds) = let at = ap (λ m. get_or s.numbers m 0) into in omega arith
        gone (inr (at, up)) = omega arith

        others : (k : ℕ) → k ≢ e → Was k ↔ Is k
        others k other = (
          λ p. elim p [
            | inl holds ↦ inl holds
            | inr at ↦ let up = at.1 in elim (cases_lt k f)
                [ inl low ↦ absurd (between k (omega arith) low at.0) | inr high ↦ inr (at.0, high) ]
          ],
          λ q. elim q [ inl holds ↦ inl holds | inr at ↦ let up = at.1 in inr (at.0, omega arith) ],
        )

        abbrev fewer : List ℕ
        fewer = set s.left origin (get_or s.left origin 0 - 1)

        counts : (c : ℕ) → c < length first → (l : ℕ) → l ≡ get_or fewer c 0 → IsCount (IsFrom c Is) (length sources) l
        counts c within l is = elim (cases_eq c origin) [
          | inl same ↦
              let (n, one_less, rest) = count_less (IsFrom c Was) (IsFrom c Is) (length sources) e (get_or s.left c 0)
              less (sym same, inr (into, omega arith)) (λ p. gone p.1)
              (λ k under apart. (λ p. (p.0, (others k apart).0 p.1), λ q. (q.0, (others k apart).1 q.1)))
              (h.counts c within) in
              let each = h.left_each in
              let at = ap (λ m. get_or fewer m 0) same
              ∙ get_or-set_same s.left origin (get_or s.left origin 0 - 1) 0 (omega arith) in
              let old = ap (λ m. get_or s.left m 0) same in
              let value : n ≡ l = omega arith in
              subst (λ m. IsCount (IsFrom c Is) (length sources) m) value rest
          | inr other ↦
              let at = get_or-set_other s.left origin c (get_or s.left origin 0 - 1) 0 other in
              subst (λ m. IsCount (IsFrom c Is) (length sources) m) (sym at ∙ sym is)
              (count_same (IsFrom c Was) (IsFrom c Is) (length sources) (get_or s.left c 0) (λ k under.
              (λ p. (p.0, (others k (apart k p.0 other)).0 p.1), λ q. (q.0, (others k (apart k q.0 other)).1 q.1)))
              (h.counts c within))
        ]
          where
            apart : (k : ℕ) → get_or sources k 0 ≡ c → c ≢ origin → k ≢ e
            apart k is_c other same = other (sym is_c ∙ ap (λ m. get_or sources m 0) same)

        done_still : (c : ℕ) → c < length first → get_or t.numbers c 0 < length first → get_or t.left c 0 ≡ 0
        done_still c within has =
            let now = ap (λ (xs : List ℕ). get_or xs c 0) left in
            let number = ap (λ (xs : List ℕ). get_or xs c 0) numbers in
            let none = h.done c within (omega arith) in
            let some = left_some in
            let other : c ≢ origin = λ same. let at = ap (λ m. get_or s.left m 0) same in omega arith in
            now ∙ get_or-set_other s.left origin c (get_or s.left origin 0 - 1) 0 other ∙ none

        pub settled_one : IsSettling first sources (IsHoldingFrom first targets t.numbers d f) t
        settled_one = record {
          numbers_each = ap (λ (xs : List ℕ). length xs) numbers ∙ h.numbers_each;
          left_each = ap (λ (xs : List ℕ). length xs) left ∙ length-set s.left origin (get_or s.left origin 0 - 1)
              ∙ h.left_each;
          counts = λ c within. subst (λ ns. IsCount (IsFrom c (IsHoldingFrom first targets ns d f)) (length sources)
              (get_or t.left c 0)) (sym numbers)
              (counts c within (get_or t.left c 0) (ap (λ (xs : List ℕ). get_or xs c 0) left));
          done = done_still;
          ready = ready;
        }

      -- what is so at the next edge, when the code has settled this one
      pub record IsNext (t : Standing) (f : ℕ) : Type 0 where
        pub into_too : f < length sources → get_or targets f 0 ≡ d
        pub settling : IsSettling first sources (IsHoldingFrom first targets t.numbers d f) t

      pub next_edge : (incoming after : List ℕ) (t : Standing) (x f : ℕ)
          → AreMembers targets (length first) incoming after → length targets ≡ length sources
          → get_or s.numbers d 0 < length first → x ≡ get_or sources e x → f ≡ get_or after e f → t.numbers ≡ s.numbers
          → t.left ≡ set s.left x (get_or s.left x 0 - 1) → AreReady first t.numbers t.left t.ready (length first)
          → IsNext t f
      next_edge incoming after t x f members each numbered x_read f_read numbers left ready =
          let next = members.next_of e (omega arith) in
          let nexts = members.nexts in
          let above = next.above in
          let x_is : x ≡ get_or sources e 0 = x_read ∙ get_or_default sources e x 0 less in
          let f_is : f ≡ get_or after e 0 = f_read ∙ get_or_default after e f 0 (omega arith) in
          record {
            into_too = λ inside. subst (λ m. m < length targets → get_or targets m 0 ≡ get_or targets e 0) (sym f_is)
                next.here (omega arith) ∙ into;
            settling = settled_one t f numbered numbers (left ∙ ap (λ m. set s.left m (get_or s.left m 0 - 1)) x_is)
                ready (omega arith) (λ k up low same. next.none k up (omega arith) (same ∙ sym into));
          }
